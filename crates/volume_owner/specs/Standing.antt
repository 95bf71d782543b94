-- Contract: how the store of an owner's volume goes on standing for it over acts, and at each moment between them.
use Rattle.std.specs.Prelude.{◌≡◌, ℕ, IfSome, Some, List, flat_map}
use Rattle.lsvd_base.specs.declared.entry.Entry.{Entry}
use Rattle.lsvd_objstore.specs.Objects.{Objects}
use Rattle.lsvd_objstore.specs.Store.{ReceiptState}
use Rattle.plain_disk.specs.State.{PlainState}
use Rattle.refine_store.specs.Stored.{StoreStands}
use Rattle.stopped_volume.specs.Store.{TellsBytes}
use Rattle.vol_core.specs.Shows.{Shows}
use Rattle.vol_core.specs.View.{volume_uploads, volume_uuid}
use Rattle.volume_owner.specs.Acts.{Moment, Act, entered_by_act, IsAct, AreActs, MayBeLeftInAct}
use Rattle.volume_owner.specs.History.{GoesOn}

-- objects of a store stand in an epoch for a plain volume, which the volume of a moment shows
abbrev pub StandAt : (epoch : ℕ) → Moment → PlainState → Objects → Type 0
StandAt epoch moment plain objects =
    StoreStands (volume_uuid moment.volume.volume) epoch plain (volume_uploads moment.volume.volume) objects

-- the store of a moment stands so, where it tells what it has
abbrev pub HasStore : (epoch : ℕ) → Moment → PlainState → Type 0
HasStore epoch moment plain = IfSome moment.store.objects (StandAt epoch moment plain)

-- Whatever plain volume the volume showed, it shows one now that goes on from that with these entries more, and where the store
-- stood for the one before, it stands for this one, in the same epoch.
abbrev pub KeepsStore : (added : List Entry) → Moment → Moment → Type 0
KeepsStore added old new =
    (plain : PlainState) → Shows old.volume.volume plain
    → (after : PlainState) × Shows new.volume.volume after × GoesOn added plain after
    × ((epoch : ℕ) → HasStore epoch old plain → HasStore epoch new after)

-- ---- laws

-- Acts keep the store standing, where all receipts tell their bytes, from any moment on up to any later one.
abbrev pub ActsKeepStore : {R : Type 0} → (R → ReceiptState) → Type 0
ActsKeepStore {R} state =
    TellsBytes state → (acts : List (Act R)) (old new : Moment) → AreActs state acts old new
    → KeepsStore (flat_map entered_by_act acts) old new

-- Whatever a stop inside an act leaves of the objects stands for the plain volume that was shown before the act.
abbrev pub StopsKeepStore : {R : Type 0} → (R → ReceiptState) → Type 0
StopsKeepStore {R} state =
    (act : Act R) (old new : Moment) (epoch : ℕ) (plain : PlainState) (objects left : Objects) → IsAct state act old new
    → Shows old.volume.volume plain → old.store.objects ≡ Some objects → MayBeLeftInAct act old.volume.volume objects left
    → StandAt epoch old plain objects → StandAt epoch old plain left
