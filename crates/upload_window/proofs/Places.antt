-- What a search for the object of a number tells of the objects with it changed, or without it.
use Rattle.std.proofs.Common.{ℕ, zero, suc, ◌<◌, ◌≤◌, ◌≡◌, Bool, true, false, ◌||◌, Some, None, List, [], ◌∷◌, length, get_or}
use Rattle.std.proofs.Common.{set, refl, ap, arith}
use Rattle.std.specs.List.{remove, find, position, position_or_len}
use Rattle.std.proofs.lemmas.Bool.Decides.{nat_tests}
use Rattle.std.proofs.lemmas.List.Sums.{fails_before_first}
use Rattle.std.proofs.lemmas.List.Quantifiers.{position-Some}
use Rattle.upload_window.specs.declared.object.OpenObject.{OpenObject}
use Rattle.upload_window.specs.Window.{has_number, with_started, without}

-- an object for reads outside a list
abbrev pub blank : OpenObject
blank = record { number = 0; is_checkpoint = false; is_started = false; was_started = false }

module _ {X : Type 0} where
  -- the test passes at this place for the first time
  pub record IsFirst (test : X → Bool) (xs : List X) (i : ℕ) (d : X) : Type 0 where
    pub inside : i < length xs
    pub passes : test (get_or xs i d) ≡ true
    pub first : (k : ℕ) → k < i → test (get_or xs k d) ≡ false

  pub record Nowhere (test : X → Bool) (xs : List X) (d : X) : Type 0 where
    pub none : (k : ℕ) → k < length xs → test (get_or xs k d) ≡ false

  pub first_after : (test : X → Bool) (x : X) (xs : List X) (i : ℕ) (d : X) → IsFirst test (x ∷ xs) (suc i) d
      → IsFirst test xs i d
  first_after test x xs i d at = record {
    inside = (let h = at.inside in omega arith);
    passes = at.passes;
    first = λ k below. at.first (suc k) (omega arith);
  }

  pub nowhere_after : (test : X → Bool) (x : X) (xs : List X) (d : X) → Nowhere test (x ∷ xs) d → Nowhere test xs d
  nowhere_after test x xs d absent = record { none = λ k below. absent.none (suc k) (omega arith) }

  pub first_place : (test : X → Bool) (xs : List X) (i : ℕ) (d : X) → position test xs ≡ Some i → IsFirst test xs i d
  first_place test xs i d is =
      let at = position-Some test xs i d is in record { inside = at.0; passes = at.1; first = at.2 }

  pub nowhere : (test : X → Bool) (xs : List X) (d : X) → position test xs ≡ None → Nowhere test xs d
  nowhere test xs d is =
      let past : length xs ≤ position_or_len test xs = grind (arith, nat_tests) in
      record { none = λ k below. fails_before_first test xs k d (omega arith) }

  pub found : (test : X → Bool) (xs : List X) (i : ℕ) (d : X) → IsFirst test xs i d → find test xs ≡ Some (get_or xs i d)
  found test [] i d at = let h = at.inside in absurd (omega arith)
  found test (x ∷ xs) zero d at = let here = at.passes in rw here refl
  found test (x ∷ xs) (suc i) d at =
      let not_here = at.first 0 (omega arith) in rw not_here (found test xs i d (first_after test x xs i d at))

  pub found_none : (test : X → Bool) (xs : List X) (d : X) → Nowhere test xs d → find test xs ≡ None
  found_none test [] d absent = refl
  found_none test (x ∷ xs) d absent =
      let not_here = absent.none 0 (omega arith) in rw not_here (found_none test xs d (nowhere_after test x xs d absent))

-- the objects with the one at its place changed
pub set_at : (number : ℕ) (started : Bool) (objects : List OpenObject) (i : ℕ) (d : OpenObject)
    → IsFirst (has_number number) objects i d
    → set objects i (record (get_or objects i d) {
      is_started = started;
      was_started = (get_or objects i d).was_started
          || started;
    })
    ≡ with_started number started objects
set_at number started [] i d at = let h = at.inside in absurd (omega arith)
set_at number started (x ∷ xs) zero d at = let here = at.passes in rw here refl
set_at number started (x ∷ xs) (suc i) d at =
    let not_here = at.first 0 (omega arith) in
    rw not_here (ap (λ rest. x ∷ rest) (set_at number started xs i d (first_after (has_number number) x xs i d at)))

pub set_none : (number : ℕ) (started : Bool) (objects : List OpenObject) (d : OpenObject) → Nowhere (has_number number) objects d
    → objects ≡ with_started number started objects
set_none number started [] d absent = refl
set_none number started (x ∷ xs) d absent =
    let not_here = absent.none 0 (omega arith) in
    rw not_here (ap (λ rest. x ∷ rest) (set_none number started xs d (nowhere_after (has_number number) x xs d absent)))

-- the objects without the one at its place
pub removed_at : (number : ℕ) (objects : List OpenObject) (i : ℕ) (d : OpenObject) → IsFirst (has_number number) objects i d
    → remove objects i ≡ without number objects
removed_at number [] i d at = let h = at.inside in absurd (omega arith)
removed_at number (x ∷ xs) zero d at = let here = at.passes in rw here refl
removed_at number (x ∷ xs) (suc i) d at =
    let not_here = at.first 0 (omega arith) in
    rw not_here (ap (λ rest. x ∷ rest) (removed_at number xs i d (first_after (has_number number) x xs i d at)))

pub removed_none : (number : ℕ) (objects : List OpenObject) (d : OpenObject) → Nowhere (has_number number) objects d
    → objects ≡ without number objects
removed_none number [] d absent = refl
removed_none number (x ∷ xs) d absent =
    let not_here = absent.none 0 (omega arith) in
    rw not_here (ap (λ rest. x ∷ rest) (removed_none number xs d (nowhere_after (has_number number) x xs d absent)))
