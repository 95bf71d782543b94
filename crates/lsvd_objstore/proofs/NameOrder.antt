-- The order of names, which tells names apart.
use Rattle.std.proofs.Common.{◌≡◌, ◌∙◌, ap, ℕ, List, refl, false}
use Rattle.std.specs.Cmp.{IsTotalOrder}
use Rattle.std.specs.Ordering.{is_eq, nat_cmp, ordering_then}
use Rattle.std.specs.Cmp.Lexicographic.{slice_cmp}
use Rattle.std.specs.declared.cmp.Ordering.{Ordering}
use Rattle.std.specs.declared.cmp.Ordering.TheVariants.{Less, Equal, Greater}
use Rattle.std.proofs.lemmas.Map.Lookups.{CmpEqualImpliesEq, exact_bytes, exact_unsigned}
use Rattle.lsvd_names.specs.contracts.name.ObjNameOrd.TheImpl.Laws.{total-law}
use Rattle.lsvd_names.specs.contracts.name.NameKindOrd.TheImpl as kinds
use Rattle.lsvd_names.specs.declared.name.NameKind.{NameKind}
use Rattle.lsvd_names.specs.declared.name.NameKind.TheVariants.{Super, Epoch, Object, Hold}
use Rattle.lsvd_names.specs.declared.name.ObjName.{ObjName}
use Rattle.lsvd_objstore.specs.Objects.{name_cmp}

pub name_cmp_total : IsTotalOrder name_cmp
name_cmp_total = total-law

abbrev pub kind_cmp : NameKind → NameKind → Ordering
kind_cmp = (kinds.ghosts).cmp

kind_exact : CmpEqualImpliesEq kind_cmp
kind_exact Super Super h = refl
kind_exact Super Epoch h = cc
kind_exact Super Object h = cc
kind_exact Super Hold h = cc
kind_exact Epoch Super h = cc
kind_exact Epoch Epoch h = refl
kind_exact Epoch Object h = cc
kind_exact Epoch Hold h = cc
kind_exact Object Super h = cc
kind_exact Object Epoch h = cc
kind_exact Object Object h = refl
kind_exact Object Hold h = cc
kind_exact Hold Super h = cc
kind_exact Hold Epoch h = cc
kind_exact Hold Object h = cc
kind_exact Hold Hold h = refl

pub name_cmp-parts : (a b : ObjName) → name_cmp a b ≡ ordering_then (slice_cmp nat_cmp a.uuid b.uuid)
    (ordering_then (kind_cmp a.kind b.kind) (nat_cmp a.number b.number))
name_cmp-parts a b = refl

both_equal : (p q : Ordering) → ordering_then p q ≡ Equal → (p ≡ Equal) × (q ≡ Equal)
both_equal Less q h = cc
both_equal Equal q h = (refl, h)
both_equal Greater q h = cc

same_name : (a b : ObjName) → a.uuid ≡ b.uuid → a.kind ≡ b.kind → a.number ≡ b.number → a ≡ b
same_name a b uuid kind number =
    ap (λ (u : List ℕ). let name : ObjName = record { uuid = u; kind = a.kind; number = a.number } in name) uuid
    ∙ ap (λ (k : NameKind). let name : ObjName = record { uuid = b.uuid; kind = k; number = a.number } in name) kind
    ∙ ap (λ (n : ℕ). let name : ObjName = record { uuid = b.uuid; kind = b.kind; number = n } in name) number

pub name_cmp_exact : CmpEqualImpliesEq name_cmp
name_cmp_exact a b h =
    let first = both_equal (slice_cmp nat_cmp a.uuid b.uuid) (ordering_then (kind_cmp a.kind b.kind) (nat_cmp a.number b.number))
    h in
    let second = both_equal (kind_cmp a.kind b.kind) (nat_cmp a.number b.number) first.1 in
    same_name a b (exact_bytes _ _ first.0) (kind_exact _ _ second.0) (exact_unsigned _ _ second.1)

not_equal : (r : Ordering) → (r ≡ Equal → ⊥) → is_eq r ≡ false
not_equal Less h = refl
not_equal Equal h = absurd (h refl)
not_equal Greater h = refl

-- another name is told apart from a name
pub not_at_other : (name other : ObjName) → (other ≡ name → ⊥) → is_eq (name_cmp name other) ≡ false
not_at_other name other differs = not_equal (name_cmp name other) (λ e. differs (cc (name_cmp_exact name other e)))
