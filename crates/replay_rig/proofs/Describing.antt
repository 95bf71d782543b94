-- The objects of a volume are put, and what the store says of the volume as a whole stays, and what it has of its ancestors;
-- where it had no hold, it has none.
use Rattle.std.proofs.Common.{◌≡◌, ℕ, Bool, true, false, List, [], ◌∷◌, ◌==◌, refl, sym, ◌∙◌, ap, subst, inl, inr}
use Rattle.clone_chain.specs.declared.ancestor.Ancestor.{Ancestor}
use Rattle.lsvd_base.specs.declared.geometry.Geometry.{Geometry}
use Rattle.lsvd_names.specs.declared.name.ObjName.{ObjName}
use Rattle.lsvd_names.specs.Names.{numbered_name}
use Rattle.lsvd_objstore.specs.Objects.{Objects, found, IsPut, IsRemoved}
use Rattle.plain_disk.specs.State.{PlainState, stream_in}
use Rattle.stopped_volume.specs.Ancestors.{KeepsOtherVolumes}
use Rattle.stopped_volume.proofs.InheritedLemmas.{inherited_is_kept}
use Rattle.stopped_volume.specs.Holds.{IsHeld}
use Rattle.stopped_volume.specs.Super.{HasVolume}
use Rattle.super_recovery.specs.Laws.{KeepsVolume}
use Rattle.super_recovery.proofs.LawLemmas.{says_the_same, others_keep_volume}
use Rattle.object_recovery.specs.Checkpoints.{expected_of}
use Rattle.refine_mount.specs.Found.{HasHolds}
use Rattle.refine_store.specs.Puts.{Inherits}
use Rattle.refine_store.proofs.HoldLemmas.{holds_stay}
use Rattle.replay_rig.specs.Puts.{PutView}
use Rattle.replay_rig.specs.Rig.{script_uuid, LandsAs, Lands}

-- ---- no hold

-- what says that a store has none
abbrev pub HasNone : Geometry → (ancestors : ℕ) → Objects → Type 0
HasNone geometry ancestors objects = HasHolds (expected_of script_uuid geometry ancestors) [] objects

none_held : (geometry : Geometry) (ancestors : ℕ) (objects : Objects) (number : ℕ) → HasNone geometry ancestors objects
    → IsHeld (expected_of script_uuid geometry ancestors) objects number → ⊥
none_held geometry ancestors objects number none is = let e : false ≡ true = (none.same number).1 (number, is, inl refl) in cc

leaves_none : (geometry : Geometry) (ancestors : ℕ) (old new : Objects) → KeepsVolume script_uuid old new
    → HasNone geometry ancestors old
    → HasNone geometry ancestors new
leaves_none geometry ancestors old new keeps none =
    holds_stay (expected_of script_uuid geometry ancestors) [] old new
    (record { names = keeps.of_holds; checkpoints = λ number is. absurd (none_held geometry ancestors old number none is) }) none

-- ---- one object

-- an object was put
put_keeps : (n : ℕ) (bytes : List ℕ) (old new : Objects) → IsPut (numbered_name script_uuid n) bytes old new
    → KeepsVolume script_uuid old new
put_keeps n bytes old new put =
    others_keep_volume script_uuid (numbered_name script_uuid n) old new (inl tt) (inr (inl (bytes, inr put)))

pub put_keeps_volume : (n : ℕ) (bytes : List ℕ) (old new : Objects) (geometry : Geometry) (chain : List Ancestor) (epoch : ℕ)
    → IsPut (numbered_name script_uuid n) bytes old new
    → HasVolume script_uuid geometry chain epoch old → HasVolume script_uuid geometry chain epoch new
put_keeps_volume n bytes old new geometry chain epoch put has =
    (says_the_same script_uuid old new (put_keeps n bytes old new put)).has geometry chain epoch has

pub put_leaves_none : (n : ℕ) (bytes : List ℕ) (old new : Objects) (geometry : Geometry) (ancestors : ℕ)
    → IsPut (numbered_name script_uuid n) bytes old new → HasNone geometry ancestors old → HasNone geometry ancestors new
put_leaves_none n bytes old new geometry ancestors put none = leaves_none geometry ancestors old new
    (put_keeps n bytes old new put) none

-- an object was removed
removed_keeps : (n : ℕ) (old new : Objects) → IsRemoved (numbered_name script_uuid n) old new → KeepsVolume script_uuid old new
removed_keeps n old new removed =
    others_keep_volume script_uuid (numbered_name script_uuid n) old new (inl tt) (inr (inr (inr removed)))

pub removed_keeps_volume : (n : ℕ) (old new : Objects) (geometry : Geometry) (chain : List Ancestor) (epoch : ℕ)
    → IsRemoved (numbered_name script_uuid n) old new
    → HasVolume script_uuid geometry chain epoch old → HasVolume script_uuid geometry chain epoch new
removed_keeps_volume n old new geometry chain epoch removed has =
    (says_the_same script_uuid old new (removed_keeps n old new removed)).has geometry chain epoch has

pub removed_leaves_none : (n : ℕ) (old new : Objects) (geometry : Geometry) (ancestors : ℕ)
    → IsRemoved (numbered_name script_uuid n) old new
    → HasNone geometry ancestors old → HasNone geometry ancestors new
removed_leaves_none n old new geometry ancestors removed none = leaves_none geometry ancestors old new
    (removed_keeps n old new removed) none

-- ---- those that have landed

as_keeps_volume : (has_landed : Bool) (put : PutView) (old new : Objects) (geometry : Geometry) (chain : List Ancestor)
    (epoch : ℕ)
    → LandsAs has_landed put old new
    → HasVolume script_uuid geometry chain epoch old → HasVolume script_uuid geometry chain epoch new
as_keeps_volume true put old new geometry chain epoch lands has =
    put_keeps_volume put.number put.bytes old new geometry chain epoch lands has
as_keeps_volume false put old new geometry chain epoch lands has = subst (HasVolume script_uuid geometry chain epoch)
    (sym lands) has

pub lands_keep_volume : (puts : List PutView) (letters : List ℕ) (old new : Objects) (geometry : Geometry) (chain : List Ancestor)
    (epoch : ℕ)
    → Lands puts letters old new
    → HasVolume script_uuid geometry chain epoch old → HasVolume script_uuid geometry chain epoch new
lands_keep_volume [] letters old new geometry chain epoch lands has = subst (HasVolume script_uuid geometry chain epoch)
    (sym lands) has
lands_keep_volume (put ∷ puts) [] old new geometry chain epoch lands has = subst (HasVolume script_uuid geometry chain epoch)
    (sym lands) has
lands_keep_volume (put ∷ puts) (letter ∷ letters) old new geometry chain epoch lands has =
    lands_keep_volume puts letters lands.0 new geometry chain epoch lands.2
    (as_keeps_volume (letter == 121) put old lands.0 geometry chain epoch lands.1 has)

as_leaves_none : (has_landed : Bool) (put : PutView) (old new : Objects) (geometry : Geometry) (ancestors : ℕ)
    → LandsAs has_landed put old new
    → HasNone geometry ancestors old → HasNone geometry ancestors new
as_leaves_none true put old new geometry ancestors lands none =
    put_leaves_none put.number put.bytes old new geometry ancestors lands none
as_leaves_none false put old new geometry ancestors lands none = subst (HasNone geometry ancestors) (sym lands) none

pub lands_leave_none : (puts : List PutView) (letters : List ℕ) (old new : Objects) (geometry : Geometry) (ancestors : ℕ)
    → Lands puts letters old new → HasNone geometry ancestors old → HasNone geometry ancestors new
lands_leave_none [] letters old new geometry ancestors lands none = subst (HasNone geometry ancestors) (sym lands) none
lands_leave_none (put ∷ puts) [] old new geometry ancestors lands none = subst (HasNone geometry ancestors) (sym lands) none
lands_leave_none (put ∷ puts) (letter ∷ letters) old new geometry ancestors lands none =
    lands_leave_none puts letters lands.0 new geometry ancestors lands.2
    (as_leaves_none (letter == 121) put old lands.0 geometry ancestors lands.1 none)

-- ---- what is inherited

-- what it has of another volume's objects stays, and so does what the plain volume opens with of its ancestors
still_inherits : (plain : PlainState) (old new : Objects) → KeepsOtherVolumes script_uuid old new
    → Inherits script_uuid plain old → Inherits script_uuid plain new
still_inherits plain old new others inherits =
    inherited_is_kept script_uuid plain.chain (stream_in plain).opening (stream_in plain).inherited plain.opening old new others
    inherits

other_volume : (n : ℕ) (name : ObjName) → (name.uuid ≡ script_uuid → ⊥) → name ≡ numbered_name script_uuid n → ⊥
other_volume n name apart same = apart (ap (λ (named : ObjName). named.uuid) same)

put_keeps_others : (n : ℕ) (bytes : List ℕ) (old new : Objects) → IsPut (numbered_name script_uuid n) bytes old new
    → KeepsOtherVolumes script_uuid old new
put_keeps_others n bytes old new put name apart = put.others name (other_volume n name apart)

pub put_inherits : (n : ℕ) (bytes : List ℕ) (old new : Objects) (plain : PlainState)
    → IsPut (numbered_name script_uuid n) bytes old new
    → Inherits script_uuid plain old → Inherits script_uuid plain new
put_inherits n bytes old new plain put inherits = still_inherits plain old new (put_keeps_others n bytes old new put) inherits

pub removed_inherits : (n : ℕ) (old new : Objects) (plain : PlainState) → IsRemoved (numbered_name script_uuid n) old new
    → Inherits script_uuid plain old → Inherits script_uuid plain new
removed_inherits n old new plain removed inherits =
    still_inherits plain old new (λ name apart. removed.others name (other_volume n name apart)) inherits

as_keeps_others : (has_landed : Bool) (put : PutView) (old new : Objects) → LandsAs has_landed put old new
    → KeepsOtherVolumes script_uuid old new
as_keeps_others true put old new lands name apart = put_keeps_others put.number put.bytes old new lands name apart
as_keeps_others false put old new lands name apart = ap (λ (objects : Objects). found objects name) lands

lands_keep_others : (puts : List PutView) (letters : List ℕ) (old new : Objects) → Lands puts letters old new
    → KeepsOtherVolumes script_uuid old new
lands_keep_others [] letters old new lands name apart = ap (λ (objects : Objects). found objects name) lands
lands_keep_others (put ∷ puts) [] old new lands name apart = ap (λ (objects : Objects). found objects name) lands
lands_keep_others (put ∷ puts) (letter ∷ letters) old new lands name apart =
    lands_keep_others puts letters lands.0 new lands.2 name apart
    ∙ as_keeps_others (letter == 121) put old lands.0 lands.1 name apart

pub lands_inherit : (puts : List PutView) (letters : List ℕ) (old new : Objects) (plain : PlainState)
    → Lands puts letters old new
    → Inherits script_uuid plain old → Inherits script_uuid plain new
lands_inherit puts letters old new plain lands inherits =
    still_inherits plain old new (lands_keep_others puts letters old new lands) inherits
