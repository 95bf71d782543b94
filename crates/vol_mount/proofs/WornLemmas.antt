-- For `worn_number`: the first of some numbers that is too great.
use Rattle.std.proofs.Common.{◌≡◌, ℕ, zero, suc, ◌+◌, ◌^◌, ◌<◌, ◌≤◌, inl, inr, List, [], ◌∷◌, length, refl, subst, arith}
use Rattle.std.specs.Prelude.{slice_index_or}
use Rattle.std.specs.List.{All}
use Rattle.std.proofs.lemmas.Bool.{cases_lt}
use Rattle.vol_core.specs.Shows.{max_number}
use Rattle.vol_mount.specs.Refusals.{IsFirstGreat}

-- the first so many are low
abbrev pub AreLowTo : (index : ℕ) → List ℕ → Type 0
AreLowTo index numbers = (k d : ℕ) → k < index → k < length numbers → slice_index_or numbers k d < max_number

pub none_low : (numbers : List ℕ) → AreLowTo 0 numbers
none_low numbers = λ k d less inside. absurd (omega (arith, less))

at_any : (numbers : List ℕ) (index a b : ℕ) → index < length numbers
    → slice_index_or numbers index a ≡ slice_index_or numbers index b
at_any [] index a b inside = absurd (omega (arith, inside))
at_any (n ∷ ns) zero a b inside = refl
at_any (n ∷ ns) (suc index) a b inside = at_any ns index a b (omega (arith, inside))

pub one_more_low : (index : ℕ) (numbers : List ℕ) → AreLowTo index numbers → slice_index_or numbers index 0 < max_number
    → index < length numbers
    → AreLowTo (index + 1) numbers
one_more_low index numbers low small here = λ k d less inside.
    elim (cases_lt k index) [
      | inl before ↦ low k d before inside
      | inr at ↦
          (let same : index ≡ k = omega (arith, less, at) in
          subst (λ n. slice_index_or numbers n d < max_number) same
          (subst (λ n. n < max_number) (at_any numbers index 0 d here) small))
    ]

pub all_low : (index : ℕ) (numbers : List ℕ) → AreLowTo index numbers → length numbers ≤ index → All (λ n. n < max_number) numbers
all_low index numbers low whole = λ k d inside. low k d (omega (arith, inside, whole)) inside

pub first_great : (numbers : List ℕ) (index : ℕ) → AreLowTo index numbers → index < length numbers
    → 2 ^ 60 ≤ slice_index_or numbers index 0
    → IsFirstGreat numbers (slice_index_or numbers index 0)
first_great [] index low inside great = absurd (omega (arith, inside))
first_great (number ∷ numbers) zero low inside great = inl (great, refl)
first_great (number ∷ numbers) (suc index) low inside great =
    let small = low 0 0 (omega arith) (omega (arith, inside)) in
    inr (
      small,
      first_great numbers index (λ k d less there. low (suc k) d (omega (arith, less)) (omega (arith, there)))
          (omega (arith, inside)) great,
    )
