-- For what a store says of a volume: that it is the only one, and that an error refuses none which the store has.
use Rattle.std.proofs.Common.{◌≡◌, ℕ, false, List, refl, sym, ◌∙◌, ap, subst}
use Rattle.std.proofs.lemmas.Option.{slice_get_within, get_or_from_slice_get}
use Rattle.std.proofs.lemmas.List.Elements.{All-get_or}
use Rattle.std.specs.Prelude.{Option, Some, None, IfSome}
use Rattle.std.specs.List.{All, slice_get}
use Rattle.lsvd_objstore.specs.Objects.{Objects}
use Rattle.stopped_volume.specs.Ancestors.{HasAncestor, HasAncestors}
use Rattle.super_format.specs.Super.{geometry_with}
use Rattle.super_recovery.specs.declared.error.SuperError.{SuperError}
use Rattle.super_recovery.specs.declared.error.SuperError.TheVariants as supers
use Rattle.super_recovery.specs.declared.finding.FoundVolume.{FoundVolume}
use Rattle.super_recovery.specs.Ancestors.{IsNearestMissing}
use Rattle.super_recovery.specs.Faults.{IsNoAnswer}
use Rattle.super_recovery.specs.Found.{IsFound, IsVolumeRefused}
use Rattle.vol_mount.specs.Refusals.{of_super, refuses}
use Rattle.vol_recover.specs.Describing.{OfVolume, IsTheVolume}

-- ---- an error refuses no volume that the store has

no_answer : (error : SuperError) → IsNoAnswer error → refuses (of_super error) ≡ false
no_answer supers.NoVolume none = absurd none
no_answer (supers.BadSuper reason) none = absurd none
no_answer supers.StoreFault none = refl
no_answer supers.OutOfMemory none = refl

pub refuses_none : (uuid : List ℕ) (log : ℕ) (objects : Option Objects) (error : SuperError)
    → IfSome objects (λ o. IsVolumeRefused uuid o error)
    → OfVolume uuid log objects (λ geometry chain epoch. refuses (of_super error) ≡ false)
refuses_none uuid log None error why geometry chain epoch log_is has = absurd has
refuses_none uuid log (Some objects) error why geometry chain epoch log_is has =
    no_answer error (why.no_volume geometry chain epoch has.0)

-- ---- the volume that was found is the only one

one_of_all : {X : Type 0} (P : X → Type 0) (items : List X) (place : ℕ) (x : X) → All P items → slice_get items place ≡ Some x
    → P x
one_of_all P items place x all at =
    subst P (get_or_from_slice_get items place x x at)
    (All-get_or P items place x (slice_get_within items place x at) all)

-- an ancestor of it is missing, so that the store has no such volume with its ancestors
pub has_no_ancestors : (uuid ancestor : List ℕ) (log : ℕ) (objects : Option Objects) (found : FoundVolume)
    → IfSome objects (λ o. IsFound uuid o found) → IfSome objects (λ o. IsNearestMissing found.volume.chain o ancestor)
    → OfVolume uuid log objects (λ geometry chain epoch. ⊥)
has_no_ancestors uuid ancestor log None found is missing geometry chain epoch log_is has = absurd has
has_no_ancestors uuid ancestor log (Some objects) found is missing geometry chain epoch log_is has =
    let same = (is.only geometry chain epoch has.0).chain_is in
    missing.lacks
    (one_of_all (HasAncestor objects) found.volume.chain missing.place missing.ancestor
    (subst (HasAncestors objects) (sym same) has.1) missing.is_at)

pub is_the_volume : (uuid : List ℕ) (log : ℕ) (objects : Option Objects) (found : FoundVolume)
    → IfSome objects (λ o. IsFound uuid o found)
    → IsTheVolume uuid log objects (geometry_with found.volume log) found.volume.chain found.epoch
is_the_volume uuid log None found is geometry chain epoch log_is has = absurd has
is_the_volume uuid log (Some objects) found is geometry chain epoch log_is has =
    let same = is.only geometry chain epoch has.0 in
    (ap (geometry_with found.volume) (sym log_is) ∙ sym same.sizes, same.chain_is, same.epoch_is)
