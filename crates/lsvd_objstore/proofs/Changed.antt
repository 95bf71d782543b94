-- A put or a removal changes one object, and that whole or not at all.
use Rattle.std.proofs.Common.{◌≡◌, ◌∙◌, sym, ap, refl, ℕ, Bool, true, false, List, Some, None, inl, inr}
use Rattle.std.specs.Prelude.{◌⊎◌, Option}
use Rattle.std.specs.Ordering.{is_eq}
use Rattle.std.specs.Cmp.{eq_by_cmp_equiv}
use Rattle.std.proofs.lemmas.Map.Views.{tells_apart}
use Rattle.lsvd_names.specs.declared.name.ObjName.{ObjName}
use Rattle.lsvd_objstore.specs.Objects.{Objects, found, name_cmp, KeepsOthers}
use Rattle.lsvd_objstore.specs.Laws.{PutsWhole, RemovesWhole}
use Rattle.lsvd_objstore.proofs.NameOrder.{name_cmp_exact, name_cmp_total}

abbrev IsKeptOrHas : ObjName → Option (List ℕ) → Objects → Objects → ObjName → Type 0
IsKeptOrHas name value old new other = (found new other ≡ found old other) ⊎ ((other ≡ name) × (found new other ≡ value))

by_test : (same : Bool) (name : ObjName) (value : Option (List ℕ)) (old new : Objects) (other : ObjName)
    → (same ≡ true → other ≡ name) → (other ≡ name → same ≡ true)
    → found new name ≡ value → KeepsOthers name old new → IsKeptOrHas name value old new other
by_test true name value old new other is back has others = inr (is refl, ap (found new) (is refl) ∙ has)
by_test false name value old new other is back has others = inl (others other (λ e. absurd (let h = back e in cc)))

equal_to_itself : (other name : ObjName) → other ≡ name → is_eq (name_cmp other name) ≡ true
equal_to_itself other name e = ap (λ n. is_eq (name_cmp other n)) (sym e) ∙ (eq_by_cmp_equiv name_cmp_total).refl other

changed : (name : ObjName) (value : Option (List ℕ)) (old new : Objects)
    → found new name ≡ value → KeepsOthers name old new → (other : ObjName) → IsKeptOrHas name value old new other
changed name value old new has others other =
    by_test (is_eq (name_cmp other name)) name value old new other (tells_apart name_cmp_exact other name)
    (equal_to_itself other name) has others

pub puts_whole : PutsWhole
puts_whole name bytes old new (inl e) other = inl (ap (λ objects. found objects other) e)
puts_whole name bytes old new (inr put) other = changed name (Some bytes) old new put.put put.others other

pub removes_whole : RemovesWhole
removes_whole name old new (inl e) other = inl (ap (λ objects. found objects other) e)
removes_whole name old new (inr removed) other = changed name None old new removed.absent removed.others other
