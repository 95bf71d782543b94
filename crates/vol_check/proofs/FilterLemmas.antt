-- Lists of numbers that are filters of others.
use Rattle.std.proofs.Common.{◌≡◌, ℕ, ◌+◌, ◌<◌, ◌≤◌, inl, inr, Bool, true, false, cond, List, [], ◌∷◌, ◌++◌}
use Rattle.std.proofs.Common.{length, take, get_or, refl, sym, ◌∙◌, ap, subst, arith}
use Rattle.std.specs.Prelude.{◌⊎◌}
use Rattle.std.specs.List.{Contains, filter}
use Rattle.std.specs.List.Sorted.{IsStrictlyIncreasing}
use Rattle.std.proofs.lemmas.List.{take_more, take_all, length-take-le, get_or-take, get_or_default}
use Rattle.std.proofs.lemmas.List.Elements.{Contains-append_left, Contains-append_right, Contains-append_cases, Contains-push}
use Rattle.std.proofs.lemmas.List.Elements.{Contains-push_cases, Contains-get_or}
use Rattle.std.proofs.lemmas.List.Kept.{AllPairs-from_increasing, IsStrictlyIncreasing-filter}
use Rattle.std.proofs.lemmas.List.Quantifiers.{all_pairs_push}
use Rattle.vol_check.specs.Steps.{IsFilterOf}

-- ---- of a list by a test

module _ (p : ℕ → Bool) where
  first_kept : (x : ℕ) (xs : List ℕ) (y : ℕ) (passes : Bool) → p x ≡ passes
      → (Contains (filter p xs) y → Contains xs y × (p y ≡ true))
      → Contains (cond passes (x ∷ filter p xs) (filter p xs)) y → Contains (x ∷ xs) y × (p y ≡ true)
  first_kept x xs y false is rest has =
      let later = rest has in (Contains-append_right (x ∷ []) xs y later.0, later.1)
  first_kept x xs y true is rest has =
      elim (Contains-append_cases (x ∷ []) (filter p xs) y has) [
        | inl own ↦ elim (Contains-push_cases [] x y own) [
          | inl none ↦ absurd (omega (arith, none.1))
          | inr same ↦ (Contains-append_left (x ∷ []) xs y own, ap p (sym same) ∙ is)
        ]
        | inr more ↦ let later = rest more in (Contains-append_right (x ∷ []) xs y later.0, later.1)
      ]

  pub kept_passes : (xs : List ℕ) (y : ℕ) → Contains (filter p xs) y → Contains xs y × (p y ≡ true)
  kept_passes [] y has = absurd (omega (arith, has.1))
  kept_passes (x ∷ xs) y has = first_kept x xs y (p x) refl (kept_passes xs y) has

  first_passes : (x : ℕ) (xs : List ℕ) (y : ℕ) (passes : Bool) → p x ≡ passes → p y ≡ true
      → (Contains xs y → Contains (filter p xs) y)
      → Contains (x ∷ xs) y → Contains (cond passes (x ∷ filter p xs) (filter p xs)) y
  first_passes x xs y false is so rest has =
      elim (Contains-append_cases (x ∷ []) xs y has) [
        | inl own ↦ elim (Contains-push_cases [] x y own) [
          | inl none ↦ absurd (omega (arith, none.1))
          | inr same ↦ absurd (let other = ap p same in cc)
        ]
        | inr more ↦ rest more
      ]
  first_passes x xs y true is so rest has =
      elim (Contains-append_cases (x ∷ []) xs y has) [
        | inl own ↦ Contains-append_left (x ∷ []) (filter p xs) y own
        | inr more ↦ Contains-append_right (x ∷ []) (filter p xs) y (rest more)
      ]

  pub passes_kept : (xs : List ℕ) (y : ℕ) → Contains xs y → p y ≡ true → Contains (filter p xs) y
  passes_kept [] y has so = absurd (omega (arith, has.1))
  passes_kept (x ∷ xs) y has so = first_passes x xs y (p x) refl so (λ more. passes_kept xs y more so) has

  pub is_filter : (numbers : List ℕ) (Such : ℕ → Type 0) → ((n : ℕ) → p n ≡ true → Such n) → ((n : ℕ) → Such n → p n ≡ true)
      → IsStrictlyIncreasing numbers → IsFilterOf numbers Such (filter p numbers)
  is_filter numbers Such so back ascending = record {
    ascending = IsStrictlyIncreasing-filter p numbers ascending;
    same = λ n. (
      λ has. let kept = kept_passes numbers n has in (kept.0, so n kept.1),
      λ such. passes_kept numbers n such.0 (back n such.1),
    );
  }

-- ---- one number after the other

module _ (numbers : List ℕ) (ascending : IsStrictlyIncreasing numbers) (Such : ℕ → Type 0) where
  pub begun : IsFilterOf (take 0 numbers) Such []
  begun = record {
    ascending = λ k within. absurd (omega (arith, within));
    same = λ n. (
      λ has. absurd (omega (arith, has.1)),
      λ such. absurd (omega (arith, such.0.1, length-take-le 0 numbers (omega arith))),
    );
  }

  module _ (index : ℕ) (inside : index < length numbers) (list : List ℕ)
      (before : IsFilterOf (take index numbers) Such list) where
    abbrev next : ℕ
    next = get_or numbers index 0

    split : (n : ℕ) → Contains (take (index + 1) numbers) n → Contains (take index numbers) n ⊎ (next ≡ n)
    split n has =
        Contains-push_cases (take index numbers) next n
        (subst (λ l. Contains l n) (take_more numbers index 0 inside) has)

    later : (n : ℕ) → Contains (take index numbers) n → Contains (take (index + 1) numbers) n
    later n has = subst (λ l. Contains l n) (sym (take_more numbers index 0 inside))
        (Contains-append_left (take index numbers) (next ∷ []) n has)

    now : Contains (take (index + 1) numbers) next
    now = subst (λ l. Contains l next) (sym (take_more numbers index 0 inside)) (Contains-push (take index numbers) next)

    pub pass : (Such next → ⊥) → IsFilterOf (take (index + 1) numbers) Such list
    pass none = record {
      ascending = before.ascending;
      same = λ n. (
        λ has. let is = (before.same n).0 has in (later n is.0, is.1),
        λ such. elim (split n such.0) [
          | inl first ↦ (before.same n).1 (first, such.1)
          | inr same ↦ absurd (none (subst Such (sym same) such.1))
        ],
      );
    }

    below : (k d : ℕ) → k < length list → get_or list k d < next
    below k d within =
        let value = get_or list k d in
        let from = ((before.same value).0 (Contains-get_or list k d within)).0 in
        let j = from.0 in
        let size = length-take-le index numbers (omega (arith, inside)) in
        let first : j < index = omega (arith, from.1, size) in
        let at : get_or numbers j value ≡ value = sym (get_or-take index numbers j value first) ∙ from.2 in
        let same : get_or numbers j 0 ≡ get_or numbers j value = get_or_default numbers j 0 value (omega (arith, inside)) in
        subst (λ n. n < next) (same ∙ at) (AllPairs-from_increasing numbers ascending j index 0 first inside)

    pub more : Such next → IsFilterOf (take (index + 1) numbers) Such (list ++ next ∷ [])
    more such =
        let pairs = all_pairs_push (λ x y. x < y) list next (AllPairs-from_increasing list before.ascending) below in
        record {
          ascending = λ k within. pairs k (k + 1) 0 (omega arith) within;
          same = λ n. (
            λ has. elim (Contains-push_cases list next n has) [
              | inl first ↦ let is = (before.same n).0 first in (later n is.0, is.1)
              | inr same ↦ (subst (Contains (take (index + 1) numbers)) same now, subst Such same such)
            ],
            λ such. elim (split n such.0) [
              | inl first ↦ Contains-append_left list (next ∷ []) n ((before.same n).1 (first, such.1))
              | inr same ↦ subst (Contains (list ++ next ∷ [])) same (Contains-push list next)
            ],
          );
        }

  pub all : (index : ℕ) (list : List ℕ) → length numbers ≤ index → IsFilterOf (take index numbers) Such list
      → IsFilterOf numbers Such list
  all index list past is = subst (λ l. IsFilterOf l Such list) (take_all index numbers past) is
