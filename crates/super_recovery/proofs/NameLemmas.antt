-- What names of a volume's objects are, and the numbers of the holds among them.
use Rattle.std.proofs.Common.{◌≡◌, ℕ, inl, inr, Option, Some, None, List, [], ◌∷◌, refl, sym, ◌∙◌, ap, subst, arith}
use Rattle.std.specs.Prelude.{◌⊎◌, ◌↔◌}
use Rattle.std.specs.List.{Contains, filter_map, cons_option}
use Rattle.std.specs.List.Sorted.{IsStrictlyIncreasing}
use Rattle.std.proofs.lemmas.List.Elements.{Contains-append_left, Contains-append_right, Contains-append_cases, Contains-push}
use Rattle.std.proofs.lemmas.List.Elements.{Contains-push_cases}
use Rattle.lsvd_names.specs.declared.name.NameKind.{NameKind}
use Rattle.lsvd_names.specs.declared.name.NameKind.TheVariants as kinds
use Rattle.lsvd_names.specs.declared.name.ObjName.{ObjName}
use Rattle.lsvd_names.specs.Names.{if_hold, hold_number, hold_numbers, hold_name}
use Rattle.lsvd_objstore.specs.Objects.{AreNamesOf}
use Rattle.super_recovery.specs.Holds.{AreHoldsAmong}

-- a name is its uuid, its kind and its number
pub named_so : (name own : ObjName) → name.uuid ≡ own.uuid → name.kind ≡ own.kind → name.number ≡ own.number → name ≡ own
named_so name own same kind number =
    ap (λ (u : List ℕ). let other : ObjName = record { uuid = u; kind = name.kind; number = name.number } in other) same
    ∙ ap (λ (k : NameKind). let other : ObjName = record { uuid = own.uuid; kind = k; number = name.number } in other) kind
    ∙ ap (λ (n : ℕ). let other : ObjName = record { uuid = own.uuid; kind = own.kind; number = n } in other) number

-- ---- what a list keeps of another

module _ {X : Type 0} where
  cases_cons : (x : X) (xs : List X) (y : X) → Contains (x ∷ xs) y → (x ≡ y) ⊎ Contains xs y
  cases_cons x xs y is =
      elim (Contains-append_cases (x ∷ []) xs y is) [
        | inl one ↦ elim (Contains-push_cases [] x y one) [ inl none ↦ absurd (omega (arith, none.1)) | inr same ↦ inl same ]
        | inr rest ↦ inr rest
      ]

  first_of_cons : (x : X) (xs : List X) → Contains (x ∷ xs) x
  first_of_cons x xs = Contains-append_left (x ∷ []) xs x (Contains-push [] x)

  rest_of_cons : (x : X) (xs : List X) (y : X) → Contains xs y → Contains (x ∷ xs) y
  rest_of_cons x xs y = Contains-append_right (x ∷ []) xs y

  rest_of_option : (held : Option X) (xs : List X) (y : X) → Contains xs y → Contains (cons_option held xs) y
  rest_of_option None xs y is = is
  rest_of_option (Some x) xs y is = rest_of_cons x xs y is

module _ {X Y : Type 0} (h : X → Option Y) where
  step : (x : X) (xs : List X) (y : Y) (held : Option Y) → h x ≡ held
      → (Contains (filter_map h xs) y → (o : X) × Contains xs o × (h o ≡ Some y))
      → Contains (cons_option held (filter_map h xs)) y → (o : X) × Contains (x ∷ xs) o × (h o ≡ Some y)
  step x xs y None same rest is = let later = rest is in (later.0, rest_of_cons x xs later.0 later.1, later.2)
  step x xs y (Some z) same rest is =
      elim (cases_cons z (filter_map h xs) y is) [
        | inl one ↦ (x, first_of_cons x xs, same ∙ ap Some one)
        | inr further ↦ let later = rest further in (later.0, rest_of_cons x xs later.0 later.1, later.2)
      ]

  -- what is kept comes from an element
  kept_from : (xs : List X) (y : Y) → Contains (filter_map h xs) y → (x : X) × Contains xs x × (h x ≡ Some y)
  kept_from [] y is = absurd (omega (arith, is.1))
  kept_from (x ∷ xs) y is = step x xs y (h x) refl (kept_from xs y) is

  -- and what comes from an element is kept
  kept_of : (xs : List X) (x : X) (y : Y) → Contains xs x → h x ≡ Some y → Contains (filter_map h xs) y
  kept_of [] x y is same = absurd (omega (arith, is.1))
  kept_of (z ∷ xs) x y is same =
      elim (cases_cons z xs x is) [
        | inl own ↦
            subst (λ held. Contains (cons_option held (filter_map h xs)) y) (sym (ap h own ∙ same))
            (first_of_cons y (filter_map h xs))
        | inr further ↦ rest_of_option (h z) (filter_map h xs) y (kept_of xs x y further same)
      ]

-- ---- holds among names

is_hold_of : (kind : NameKind) (number own : ℕ) → if_hold kind number ≡ Some own → (kind ≡ kinds.Hold) × (number ≡ own)
is_hold_of kinds.Super number own same = let other = same in cc
is_hold_of kinds.Epoch number own same = let other = same in cc
is_hold_of kinds.Object number own same = let other = same in cc
is_hold_of kinds.Hold number own same = (refl, cc)

module _ (uuid : List ℕ) (names : List ObjName) (names_of : AreNamesOf uuid names) (number : ℕ) where
  named_hold : Contains (hold_numbers names) number → Contains names (hold_name uuid number)
  named_hold has =
      let one = kept_from hold_number names number has in
      let is = is_hold_of one.0.kind one.0.number number one.2 in
      subst (Contains names) (named_so one.0 (hold_name uuid number) (names_of.each one.0 one.1).1 is.0 is.1) one.1

  hold_named : Contains names (hold_name uuid number) → Contains (hold_numbers names) number
  hold_named has = kept_of hold_number names (hold_name uuid number) number has refl

pub are_holds_among : (uuid : List ℕ) (names : List ObjName) (numbers : List ℕ) → AreNamesOf uuid names
    → IsStrictlyIncreasing numbers → ((number : ℕ) → Contains numbers number ↔ Contains (hold_numbers names) number)
    → AreHoldsAmong uuid names numbers
are_holds_among uuid names numbers names_of ascending same = record {
  ascending = ascending;
  same = λ number. (
    λ has. named_hold uuid names names_of number ((same number).0 has),
    λ has. (same number).1 (hold_named uuid names names_of number has),
  );
}
