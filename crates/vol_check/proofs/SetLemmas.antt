-- Sets of objects to which some are added, and the order of objects.
use Rattle.std.proofs.Common.{◌≡◌, ◌∙◌, ℕ, inl, inr, List, [], ap, get_or, refl, sym, subst, arith}
use Rattle.std.specs.Prelude.{◌⊎◌, ◌↔◌}
use Rattle.std.specs.BTreeSet.{BTreeSet}
use Rattle.std.specs.Cmp.{IsTotalOrder}
use Rattle.std.specs.List.{AllPairs, Contains}
use Rattle.std.specs.List.Sorted.{IsStrictlySortedBy}
use Rattle.std.specs.Ordering.{nat_cmp, ordering_then}
use Rattle.std.specs.declared.cmp.Ordering.{Ordering}
use Rattle.std.specs.declared.cmp.Ordering.TheVariants.{Less, Equal, Greater}
use Rattle.std.proofs.lemmas.Cmp.{ranked}
use Rattle.std.proofs.lemmas.Map.Keys.{Less-from_sorted}
use Rattle.std.proofs.lemmas.Map.Lookups.{CmpEqualImpliesEq, exact_unsigned}
use Rattle.std.proofs.lemmas.Map.Views.{btree_set_contains_iff}
use Rattle.vol_check.specs.contracts.report.ObjectOfLevelOrd.TheImpl.Laws.{total-law}
use Rattle.vol_check.specs.declared.report.ObjectOfLevel.{ObjectOfLevel}
use Rattle.vol_check.specs.Report.{ComesBefore, object_at}
use Rattle.vol_check.specs.Steps.{object_cmp, Has, GainsJust}

-- ---- the order of objects

pub object_cmp_total : IsTotalOrder object_cmp
object_cmp_total = total-law

object_cmp-parts : (a b : ObjectOfLevel) → object_cmp a b ≡ ordering_then (nat_cmp a.level b.level) (nat_cmp a.number b.number)
object_cmp-parts a b = refl

both_equal : (p q : Ordering) → ordering_then p q ≡ Equal → (p ≡ Equal) × (q ≡ Equal)
both_equal Less q h = cc
both_equal Equal q h = (refl, h)
both_equal Greater q h = cc

-- an object is known by its level and its number
pub same_object : (object : ObjectOfLevel) (level number : ℕ) → object.level ≡ level → object.number ≡ number
    → object ≡ object_at level number
same_object object level number same_level same_number =
    ap (λ (l : ℕ). object_at l object.number) same_level ∙ ap (λ (n : ℕ). object_at level n) same_number

pub object_cmp_exact : CmpEqualImpliesEq object_cmp
object_cmp_exact a b h =
    let parts = both_equal (nat_cmp a.level b.level) (nat_cmp a.number b.number) h in
    same_object a b.level b.number (exact_unsigned _ _ parts.0) (exact_unsigned _ _ parts.1)

either_less : (p q : Ordering) → ordering_then p q ≡ Less → (p ≡ Less) ⊎ ((p ≡ Equal) × (q ≡ Less))
either_less Less q h = inl refl
either_less Equal q h = inr (refl, h)
either_less Greater q h = cc

before_of : (a b : ObjectOfLevel) → object_cmp a b ≡ Less → ComesBefore a b
before_of a b h =
    elim (either_less (nat_cmp a.level b.level) (nat_cmp a.number b.number) h) [
      | inl level ↦ inl (ranked _ _ _ (sym level))
      | inr number ↦ inr (exact_unsigned _ _ number.0, ranked _ _ _ (sym number.1))
    ]

-- the objects of a set ascend
pub ascending_of : (objects : List ObjectOfLevel) → IsStrictlySortedBy object_cmp objects → AllPairs ComesBefore objects
ascending_of objects sorted i j d low within =
    before_of (get_or objects i d) (get_or objects j d) (Less-from_sorted object_cmp objects i j d sorted low within)

-- a set has what is among its objects
pub has_iff : (set : BTreeSet ObjectOfLevel) (object : ObjectOfLevel) → Has set object ↔ Contains set.keys object
has_iff set object = btree_set_contains_iff object_cmp_total object_cmp_exact set object

-- ---- additions

-- some were added, and then others
pub gained_both : (First Next All : ObjectOfLevel → Type 0) (old middle new : BTreeSet ObjectOfLevel)
    → ((n : ObjectOfLevel) → All n ↔ (First n ⊎ Next n)) → GainsJust First old middle → GainsJust Next middle new
    → GainsJust All old new
gained_both First Next All old middle new split first next n = (
  λ has. elim ((next n).0 has) [
    | inl before ↦ elim ((first n).0 before) [ inl had ↦ inl had | inr is ↦ inr ((split n).1 (inl is)) ]
    | inr is ↦ inr ((split n).1 (inr is))
  ],
  λ either. elim either [
    | inl had ↦ (next n).1 (inl ((first n).1 (inl had)))
    | inr all ↦ elim ((split n).0 all) [
      | inl is ↦ (next n).1 (inl ((first n).1 (inr is)))
      | inr is ↦ (next n).1 (inr is)
    ]
  ],
)

-- nothing was added
pub gained_none : (set : BTreeSet ObjectOfLevel) (Which : ObjectOfLevel → Type 0) → ((n : ObjectOfLevel) → Which n → ⊥)
    → GainsJust Which set set
gained_none set Which none n = (λ has. inl has, λ either. elim either [ inl had ↦ had | inr which ↦ absurd (none n which) ])

-- an empty set has none
pub none_in : (set : BTreeSet ObjectOfLevel) → set.keys ≡ [] → (n : ObjectOfLevel) → Has set n → ⊥
none_in set empty n has =
    let among = subst (λ (keys : List ObjectOfLevel). Contains keys n) empty ((has_iff set n).0 has) in
    omega (arith, among.1)
