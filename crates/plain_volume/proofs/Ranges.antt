-- Numbers of a range one by one: the first of them, and those after it.
use Rattle.std.proofs.Common.{◌≡◌, ℕ, suc, ◌+◌, ◌-◌, ◌<◌, Bool, true, false, cond, ◌||◌, Some, List, [], ◌∷◌, ◌++◌, sym, ap, ◌∙◌}
use Rattle.std.proofs.Common.{Option, map, arith, append_assoc}
use Rattle.std.specs.List.{list_any, find, range_with_len, filter}
use Rattle.object_stream.specs.declared.owner.Owner.{Owner}

pub first_of_range : (from end : ℕ) → from < end → range_with_len from (end - from) ≡ from ∷ range_with_len (from + 1)
    (end - (from + 1))
first_of_range from end inside =
    let count : end - from ≡ suc (end - (from + 1)) = omega arith in
    ap (range_with_len from) count

pub any_here : (test : ℕ → Bool) (from end : ℕ) → from < end → test from ≡ true
    → true ≡ list_any test (range_with_len from (end - from))
any_here test from end inside passes =
    sym (ap (list_any test) (first_of_range from end inside)
    ∙ ap (λ b. b || list_any test (range_with_len (from + 1) (end - (from + 1)))) passes)

pub any_later : (test : ℕ → Bool) (from end : ℕ) → from < end → test from ≡ false
    → list_any test (range_with_len (from + 1) (end - (from + 1))) ≡ list_any test (range_with_len from (end - from))
any_later test from end inside fails =
    sym (ap (list_any test) (first_of_range from end inside)
    ∙ ap (λ b. b || list_any test (range_with_len (from + 1) (end - (from + 1)))) fails)

pub found_here : (test : ℕ → Bool) (from end : ℕ) → from < end → test from ≡ true
    → Some from ≡ find test (range_with_len from (end - from))
found_here test from end inside passes =
    sym (ap (find test) (first_of_range from end inside)
    ∙ ap (λ b. cond b (Some from) (find test (range_with_len (from + 1) (end - (from + 1))))) passes)

pub found_later : (test : ℕ → Bool) (from end : ℕ) → from < end → test from ≡ false
    → find test (range_with_len (from + 1) (end - (from + 1))) ≡ find test (range_with_len from (end - from))
found_later test from end inside fails =
    sym (ap (find test) (first_of_range from end inside)
    ∙ ap (λ b. cond b (Some from) (find test (range_with_len (from + 1) (end - (from + 1))))) fails)

pub kept_here : (test : ℕ → Bool) (found : List ℕ) (from end : ℕ) → from < end → test from ≡ true
    → (found ++ from ∷ []) ++ filter test (range_with_len (from + 1) (end - (from + 1))) ≡ found ++ filter test
    (range_with_len from (end - from))
kept_here test found from end inside passes =
    let rest : List ℕ = filter test (range_with_len (from + 1) (end - (from + 1))) in
    append_assoc found (from ∷ []) rest
    ∙ ap (λ numbers. found ++ numbers)
    (sym (ap (filter test) (first_of_range from end inside) ∙ ap (λ b. cond b (from ∷ rest) rest) passes))

pub kept_later : (test : ℕ → Bool) (found : List ℕ) (from end : ℕ) → from < end → test from ≡ false
    → found ++ filter test (range_with_len (from + 1) (end - (from + 1))) ≡ found ++ filter test
    (range_with_len from (end - from))
kept_later test found from end inside fails =
    let rest : List ℕ = filter test (range_with_len (from + 1) (end - (from + 1))) in
    ap (λ numbers. found ++ numbers)
    (sym (ap (filter test) (first_of_range from end inside) ∙ ap (λ b. cond b (from ∷ rest) rest) fails))

pub mapped : (f : ℕ → Option Owner) (found : List (Option Owner)) (from end : ℕ) → from < end
    → (found ++ f from ∷ []) ++ map f (range_with_len (from + 1) (end - (from + 1)))
    ≡ found ++ map f (range_with_len from (end - from))
mapped f found from end inside =
    append_assoc found (f from ∷ []) (map f (range_with_len (from + 1) (end - (from + 1))))
    ∙ ap (λ owners. found ++ owners) (sym (ap (map f) (first_of_range from end inside)))
