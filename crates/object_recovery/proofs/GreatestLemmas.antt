-- For `greatest_number`: one name after the other.
use Rattle.std.proofs.Common.{◌≡◌, ℕ, ◌≤◌, inl, inr, List, [], ◌∷◌, ◌++◌, refl, ap, subst, arith, ◌∙◌}
use Rattle.std.specs.List.{Contains}
use Rattle.std.proofs.lemmas.List.Elements.{Contains-append_left, Contains-push, Contains-push_cases}
use Rattle.lsvd_names.specs.declared.name.NameKind.TheVariants.{Object}
use Rattle.lsvd_names.specs.declared.name.ObjName.{ObjName}
use Rattle.object_recovery.specs.Removal.{IsPast}
use Rattle.object_recovery.specs.State.{IsGreatestNumber}

-- no name has a number
pub greatest_of_none : (least : ℕ) → IsGreatestNumber [] least least
greatest_of_none least = record {
  no_less = omega arith;
  is = inl refl;
  none_greater = λ name listed. (let none = listed.1 in
      absurd (omega (arith, none)));
}

module _ (names : List ObjName) (name : ObjName) (least greatest : ℕ) (is : IsGreatestNumber names least greatest) where
  -- what is so of names and of a further one
  each_with : (top : ℕ) → greatest ≤ top → (name.kind ≡ Object → name.number ≤ top) → (other : ObjName)
      → Contains (names ++ name ∷ []) other
      → other.kind ≡ Object → other.number ≤ top
  each_with top higher own other listed kind =
      elim (Contains-push_cases names name other listed) [
        | inl before ↦ (let low = is.none_greater other before kind in omega (arith, low, higher))
        | inr same ↦ subst (λ (n : ObjName). n.number ≤ top) same (own (ap (λ (n : ObjName). n.kind) same ∙ kind))
      ]

  pub greatest_with : IsPast greatest name → IsGreatestNumber (names ++ name ∷ []) least name.number
  greatest_with past =
      let higher = past.1 in
      let before = is.no_less in
      record {
        no_less = omega (arith, higher, before);
        is = inr (name, Contains-push names name, past.0, refl);
        none_greater = each_with name.number (omega (arith, higher)) (λ kind. omega arith);
      }

  pub greatest_still : (name.kind ≡ Object → name.number ≤ greatest) → IsGreatestNumber (names ++ name ∷ []) least greatest
  greatest_still lower = record {
    no_less = is.no_less;
    is = elim is.is [
      | inl none ↦ inl none
      | inr it ↦ inr (it.0, Contains-append_left names (name ∷ []) it.0 it.1, it.2, it.3)
    ];
    none_greater = each_with greatest (omega arith) lower;
  }
