-- The numbers of the objects among the names of a volume.
use Rattle.std.proofs.Common.{◌≡◌, ℕ, ◌^◌, ◌<◌, inl, inr, Option, Some, None, List, [], ◌∷◌, refl, sym, ◌∙◌, ap, subst, arith}
use Rattle.std.specs.Prelude.{◌⊎◌, ◌↔◌}
use Rattle.std.specs.List.{Contains, filter_map, cons_option}
use Rattle.std.proofs.lemmas.List.Elements.{Contains-append_left, Contains-append_right, Contains-append_cases, Contains-push}
use Rattle.std.proofs.lemmas.List.Elements.{Contains-push_cases}
use Rattle.lsvd_names.specs.Spelling.{IsUuid}
use Rattle.lsvd_names.specs.Names.{numbered_name}
use Rattle.lsvd_names.specs.declared.name.NameKind.{NameKind}
use Rattle.lsvd_names.specs.declared.name.NameKind.TheVariants as kinds
use Rattle.lsvd_names.specs.declared.name.ObjName.{ObjName}
use Rattle.lsvd_objstore.specs.Objects.{Objects, Lists}
use Rattle.object_format.specs.declared.expected.Expected.{Expected}
use Rattle.super_recovery.proofs.NameLemmas.{named_so}
use Rattle.vol_check.specs.Report.{IsThere}
use Rattle.vol_check.specs.Steps.{if_object, object_number, object_numbers}

-- ---- what a list keeps of another

module _ {X : Type 0} where
  cases_cons : (x : X) (xs : List X) (y : X) → Contains (x ∷ xs) y → (x ≡ y) ⊎ Contains xs y
  cases_cons x xs y is =
      elim (Contains-append_cases (x ∷ []) xs y is) [
        | inl one ↦ elim (Contains-push_cases [] x y one) [ inl none ↦ absurd (omega (arith, none.1)) | inr same ↦ inl same ]
        | inr rest ↦ inr rest
      ]

  first_of_cons : (x : X) (xs : List X) → Contains (x ∷ xs) x
  first_of_cons x xs = Contains-append_left (x ∷ []) xs x (Contains-push [] x)

  rest_of_cons : (x : X) (xs : List X) (y : X) → Contains xs y → Contains (x ∷ xs) y
  rest_of_cons x xs y = Contains-append_right (x ∷ []) xs y

  rest_of_option : (held : Option X) (xs : List X) (y : X) → Contains xs y → Contains (cons_option held xs) y
  rest_of_option None xs y is = is
  rest_of_option (Some x) xs y is = rest_of_cons x xs y is

module _ {X Y : Type 0} (h : X → Option Y) where
  step : (x : X) (xs : List X) (y : Y) (held : Option Y) → h x ≡ held
      → (Contains (filter_map h xs) y → (o : X) × Contains xs o × (h o ≡ Some y))
      → Contains (cons_option held (filter_map h xs)) y → (o : X) × Contains (x ∷ xs) o × (h o ≡ Some y)
  step x xs y None same rest is = let later = rest is in (later.0, rest_of_cons x xs later.0 later.1, later.2)
  step x xs y (Some z) same rest is =
      elim (cases_cons z (filter_map h xs) y is) [
        | inl one ↦ (x, first_of_cons x xs, same ∙ ap Some one)
        | inr further ↦ let later = rest further in (later.0, rest_of_cons x xs later.0 later.1, later.2)
      ]

  -- what is kept comes from an element
  kept_from : (xs : List X) (y : Y) → Contains (filter_map h xs) y → (x : X) × Contains xs x × (h x ≡ Some y)
  kept_from [] y is = absurd (omega (arith, is.1))
  kept_from (x ∷ xs) y is = step x xs y (h x) refl (kept_from xs y) is

  -- and what comes from an element is kept
  kept_of : (xs : List X) (x : X) (y : Y) → Contains xs x → h x ≡ Some y → Contains (filter_map h xs) y
  kept_of [] x y is same = absurd (omega (arith, is.1))
  kept_of (z ∷ xs) x y is same =
      elim (cases_cons z xs x is) [
        | inl own ↦
            subst (λ held. Contains (cons_option held (filter_map h xs)) y) (sym (ap h own ∙ same))
            (first_of_cons y (filter_map h xs))
        | inr further ↦ rest_of_option (h z) (filter_map h xs) y (kept_of xs x y further same)
      ]

-- ---- objects among names

is_object_of : (kind : NameKind) (number own : ℕ) → if_object kind number ≡ Some own → (kind ≡ kinds.Object) × (number ≡ own)
is_object_of kinds.Super number own same = let other = same in cc
is_object_of kinds.Epoch number own same = let other = same in cc
is_object_of kinds.Object number own same = (refl, cc)
is_object_of kinds.Hold number own same = let other = same in cc

module _ (volume : Expected) (objects : Objects) (names : List ObjName) (is_uuid : IsUuid volume.uuid)
    (listed : Lists volume.uuid objects names) (number : ℕ) (fits : number < 2 ^ 64) where
  there_of : Contains (object_numbers names) number → IsThere volume objects number
  there_of has =
      let one = kept_from object_number names number has in
      let is = is_object_of one.0.kind one.0.number number one.2 in
      let listed_so = listed.present one.0 one.1 in
      let name = named_so one.0 (numbered_name volume.uuid number) listed_so.1 is.0 is.1 in
      (listed.present (numbered_name volume.uuid number) (subst (Contains names) name one.1)).2

  of_there : IsThere volume objects number → Contains (object_numbers names) number
  of_there is =
      kept_of object_number names (numbered_name volume.uuid number) number
      (listed.complete (numbered_name volume.uuid number) (record { uuid = is_uuid; number = tt; fits = fits }) refl is) refl

  -- the numbers are those of the objects that the store has
  pub are_there : (numbers : List ℕ) → (Contains numbers number ↔ Contains (object_numbers names) number)
      → Contains numbers number ↔ IsThere volume objects number
  are_there numbers same = (λ has. there_of (same.0 has), λ is. same.1 (of_there is))
