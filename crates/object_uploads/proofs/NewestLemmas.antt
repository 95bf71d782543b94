-- The newest checkpoint of sealed objects, one object after the other.
use Rattle.std.proofs.Common.{◌≡◌, ℕ, zero, suc, ◌+◌, ◌<◌, ◌≤◌, List, [], ◌∷◌, length, drop, get_or, refl, sym, ◌∙◌, ap, subst}
use Rattle.std.proofs.Common.{arith}
use Rattle.std.proofs.lemmas.List.{drop_all}
use Rattle.object_uploads.specs.State.{SealedState}
use Rattle.object_uploads.specs.Queue.{newest_of}

next_by : (sealed : List SealedState) (index before number : ℕ) (item : SealedState) → index < length sealed
    → item ≡ get_or sealed index item
    → newest_of (newest_of before number (item ∷ [])) (number + 1) (drop (suc index) sealed)
    ≡ newest_of before number (drop index sealed)
next_by [] index before number item inside is = absurd (omega (arith, inside))
next_by (first ∷ more) zero before number item inside is =
    subst (λ (s : SealedState). newest_of (newest_of before number (s ∷ [])) (number + 1) more
    ≡ newest_of before number (first ∷ more)) (sym is) refl
next_by (first ∷ more) (suc index) before number item inside is = next_by more index before number item (omega (arith, inside)) is

-- the first object has the number from which on they count
pub newest_first : (first before : ℕ) (sealed : List SealedState)
    → newest_of before (first + 1 + 0) (drop 0 sealed) ≡ newest_of before (first + 1) sealed
newest_first first before sealed = let same : first + 1 + 0 ≡ first + 1 = omega arith in ap (λ n. newest_of before n sealed) same

-- one object more is looked at
pub newest_next : (sealed : List SealedState) (index first before : ℕ) (item : SealedState) → index < length sealed
    → item ≡ get_or sealed index item
    → newest_of (newest_of before (first + index + 1) (item ∷ [])) (first + 1 + (index + 1)) (drop (index + 1) sealed)
    ≡ newest_of before (first + 1 + index) (drop index sealed)
newest_next sealed index first before item inside is =
    let here : first + index + 1 ≡ first + 1 + index = omega arith in
    let next : first + 1 + (index + 1) ≡ first + 1 + index + 1 = omega arith in
    let after : index + 1 ≡ suc index = omega arith in
    ap (λ n. newest_of (newest_of before n (item ∷ [])) (first + 1 + (index + 1)) (drop (index + 1) sealed)) here
    ∙ (ap (λ n. newest_of (newest_of before (first + 1 + index) (item ∷ [])) n (drop (index + 1) sealed)) next
    ∙ (ap (λ n. newest_of (newest_of before (first + 1 + index) (item ∷ [])) (first + 1 + index + 1) (drop n sealed)) after
    ∙ next_by sealed index before (first + 1 + index) item inside is))

-- past the last it is the newest of all
pub newest_last : (sealed : List SealedState) (index before number : ℕ) → length sealed ≤ index
    → newest_of before number (drop index sealed) ≡ before
newest_last sealed index before number past = ap (newest_of before number) (drop_all index sealed past)
