-- The first line of a script.
use Rattle.std.proofs.Common.{◌≡◌, ℕ, ◌+◌, ◌<◌, ◌≤◌, ◌==◌, Bool, true, false, not, List, [], ◌∷◌, length, take, drop, All}
use Rattle.std.proofs.Common.{position, Some, None, cond, nat_lt, arith, refl, ap, ◌∙◌, ltb-true, ltb-false}
use Rattle.std.specs.List.{slice_split, before_first, after_first, position_or_len}
use Rattle.std.proofs.lemmas.List.Splits.{slice_split_first, slice_split_none, length-slice_split}
use Rattle.std.proofs.lemmas.Bool.{cond-false, ne_eqb, not-true}
use Rattle.std.proofs.lemmas.List.Sums.{prefix_len_passes}
use Rattle.replay_script.specs.Grammar.{lines_of, without_empty_last}

-- a part that others follow is kept
pub without_empty_last-cons : (part : List ℕ) (parts : List (List ℕ)) → 0 < length parts
    → without_empty_last (part ∷ parts) ≡ part ∷ without_empty_last parts
without_empty_last-cons part [] some = grind arith
without_empty_last-cons part (next ∷ more) some = refl

-- what an answer of a search says
some_position : (found : Bool) (i n : ℕ) → cond found (Some i) None ≡ Some n → (found ≡ true) × (i ≡ n)
some_position true i n e = (refl, cc)
some_position false i n e = cc

no_position : (found : Bool) (i : ℕ) → cond found (Some i) None ≡ None → found ≡ false
no_position true i e = cc
no_position false i e = refl

-- a script with a newline
pub lines_of_first : (script : List ℕ) (end : ℕ) → position (λ b. b == 10) script ≡ Some end
    → lines_of script ≡ take end script ∷ lines_of (drop (end + 1) script)
lines_of_first script end found =
    let p : ℕ → Bool = λ b. b == 10 in
    let at : (nat_lt (position_or_len p script) (length script) ≡ true) × (position_or_len p script ≡ end) =
    some_position _ _ _ found in
    let split : slice_split p script ≡ before_first p script ∷ slice_split p (after_first p script) =
    slice_split_first p script 0 (ltb-true _ _ at.0) in
    let more : 0 < length (slice_split p (after_first p script)) = omega (arith, length-slice_split p (after_first p script)) in
    let e : lines_of script ≡ before_first p script ∷ lines_of (after_first p script) = ap without_empty_last split
    ∙ without_empty_last-cons _ _ more in
    rw (← at.1) e

-- a script of one line without a newline
pub lines_of_last : (script : List ℕ) → 0 < length script → position (λ b. b == 10) script ≡ None → lines_of script ≡ script ∷ []
lines_of_last script some none =
    let p : ℕ → Bool = λ b. b == 10 in
    let end : length script ≤ position_or_len p script = ltb-false _ _ (no_position _ _ none) in
    let fails : All (λ b. p b ≡ false) script =
    λ k d below. not-true _ (prefix_len_passes (λ b. not (p b)) script k d (omega arith)) in
    let split : slice_split p script ≡ script ∷ [] = slice_split_none p script fails in
    ap without_empty_last split ∙ cond-false (length script == 0) [] (script ∷ []) (ne_eqb (length script) 0 (omega arith))
