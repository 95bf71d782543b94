-- What a read from memory takes from the bytes that are left.
use Rattle.std.proofs.Common.{◌≡◌, ℕ, ◌+◌, ◌-◌, ◌<◌, ◌≤◌, List, [], ◌∷◌, ◌++◌, length, take, drop, refl, sym, ◌∙◌, ap, arith, min}
use Rattle.std.proofs.Common.{add_comm, length-append, length-take, length-drop}
use Rattle.std.proofs.Math.Seq.{take-append_seam}
use Rattle.std.proofs.lemmas.List.{take-append-drop, drop-drop, take_rest}
use Rattle.std.proofs.lemmas.Grind.{common_steps}

-- bytes from a place on are the next ones and those after them
front_and_rest : (xs : List ℕ) (at count : ℕ) → take count (drop at xs) ++ drop (at + count) xs ≡ drop at xs
front_and_rest xs at count =
    ap (λ ys. take count (drop at xs) ++ ys) (sym (drop-drop count at xs)) ∙ take-append-drop count (drop at xs)

-- what was copied stands in front of the buffer, and with what is left after it makes the bytes that were left
pub copied_front : (xs new rest : List ℕ) (at count : ℕ) → new ≡ take count (drop at xs) → length new ≡ count
    → drop at xs ≡ take count (new ++ rest) ++ drop (at + count) xs
copied_front xs new rest at count copied long =
    sym (front_and_rest xs at count) ∙ ap (λ ys. ys ++ drop (at + count) xs) (sym copied ∙ sym (take-append_seam new rest)
    ∙ ap (λ n. take n (new ++ rest)) long)

-- a list of no elements
pub no_elements : (xs : List ℕ) → length xs ≡ 0 → xs ≡ []
no_elements [] e = refl
no_elements (x ∷ xs) e = absurd (omega (arith, e))
