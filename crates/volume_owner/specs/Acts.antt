-- Contract: what a call of an owner is made of: steps of its volume, puts of its objects into the store, their removals, and
-- gets.
use Rattle.std.specs.Prelude.{◌≡◌, ℕ, Bool, true, false, IfSome, Some, None, List, [], ◌∷◌, flat_map}
use Rattle.lsvd_base.specs.declared.entry.Entry.{Entry}
use Rattle.lsvd_base.specs.declared.entry.Entry.TheVariants as entries
use Rattle.lsvd_fault.specs.Faults.{Counts}
use Rattle.lsvd_names.specs.declared.name.ObjName.{ObjName}
use Rattle.lsvd_objstore.specs.Objects.{Objects, found, IsPut, MayBePut, IsRemoved, MayBeRemoved}
use Rattle.lsvd_objstore.specs.Store.{StoreState, ReceiptState, Put, Remove, IsAskedOnce, Becomes, OnlyCounts}
use Rattle.object_uploads.specs.State.{JobState}
use Rattle.vol_core.specs.declared.event.Event.{Event}
use Rattle.vol_core.specs.declared.event.Event.TheVariants as events
use Rattle.vol_core.specs.declared.reply.Reply.{Reply}
use Rattle.vol_core.specs.declared.reply.Reply.TheVariants as told
use Rattle.vol_core.specs.Volume.{VolumeState, SteppedVolume}
use Rattle.vol_core.specs.Step.{CountedStep}
use Rattle.vol_core.specs.View.{IsPutOutIn, object_name_in, removal_out}

-- ---- moments

-- a volume and its store at a moment
pub record Moment : Type 0 where
  pub volume : SteppedVolume
  pub store : StoreState

-- that of a volume and a store
abbrev pub moment_of : SteppedVolume → StoreState → Moment
moment_of volume store = record { volume = volume; store = store }

-- ---- acts

-- An act of a call: an event of the volume, with its reply; the put of a job's object; the removal of an object; or the gets of a
-- read. Those of the store tell whether one of its calls failed.
pub data Act (R : Type 0) : Type 0 where
  Made : (event : Event R) → (reply : Reply R) → Act R
  Puts : (job : JobState) → (failed : Bool) → Act R
  Removes : (number : ℕ) → (failed : Bool) → Act R
  Gets : (failed : Bool) → Act R

-- an entry is entered where the reply tells that
abbrev pub entered_if_told : {R : Type 0} → Entry → Reply R → List Entry
entered_if_told entry (told.Entered count) = entry ∷ []
entered_if_told entry reply = []

-- the entries that an event enters
abbrev pub entered_by_event : {R : Type 0} → Event R → Reply R → List Entry
entered_by_event (events.Write lba body) reply = entered_if_told (entries.Write lba body) reply
entered_by_event (events.Zero lba sectors) reply = entered_if_told (entries.Zero lba sectors) reply
entered_by_event event reply = []

-- those of an act
abbrev pub entered_by_act : {R : Type 0} → Act R → List Entry
entered_by_act (Made event reply) = entered_by_event event reply
entered_by_act (Puts job failed) = []
entered_by_act (Removes number failed) = []
entered_by_act (Gets failed) = []

-- the volume is told that a put is done only where the store has the object, and that a removal is only where it has not, where
-- it tells what it has
abbrev pub HasItsObject : {R : Type 0} → Event R → VolumeState → StoreState → Type 0
HasItsObject (events.JobDone job receipt) volume store =
    IfSome store.objects (λ objects.
    found objects (object_name_in volume job.name.number) ≡ Some job.bytes)
HasItsObject (events.RemoveDone number) volume store =
    IfSome store.objects (λ objects. found objects (object_name_in volume number) ≡ None)
HasItsObject event volume store = Unit {0}

-- a step of the volume, in which the store stays
pub record IsStepAct {R : Type 0} (state : R → ReceiptState) (event : Event R) (reply : Reply R) (old new : Moment) : Type 0 where
  pub step : CountedStep state event reply old.volume new.volume
  pub store : new.store ≡ old.store
  pub object : HasItsObject event old.volume.volume old.store

-- what a put leaves of the objects: the whole object, and where it failed perhaps what was there
abbrev pub PutLeaves : (failed : Bool) → ObjName → List ℕ → Objects → Objects → Type 0
PutLeaves false name bytes old new = IsPut name bytes old new
PutLeaves true name bytes old new = MayBePut name bytes old new

-- the put of a volume's own object that is out, in which the volume stays
pub record IsPutAct (job : JobState) (failed : Bool) (old new : Moment) : Type 0 where
  pub volume : new.volume ≡ old.volume
  pub out : IsPutOutIn old.volume.volume job.name.number job.bytes
  pub named : job.name ≡ object_name_in old.volume.volume job.name.number
  pub objects : Becomes (PutLeaves failed job.name job.bytes) old.store.objects new.store.objects
  pub asked : IsAskedOnce (Put job.name job.bytes) old.store.asked new.store.asked
  pub faults : Counts failed old.store.faults new.store.faults

-- what a removal leaves of the objects: no object of the name, and where it failed perhaps what was there
abbrev pub RemovalLeaves : (failed : Bool) → ObjName → Objects → Objects → Type 0
RemovalLeaves false name old new = IsRemoved name old new
RemovalLeaves true name old new = MayBeRemoved name old new

-- the removal of a volume's own object that is out, in which the volume stays
pub record IsRemoveAct (number : ℕ) (failed : Bool) (old new : Moment) : Type 0 where
  pub volume : new.volume ≡ old.volume
  pub out : removal_out old.volume.volume ≡ Some number
  pub objects : Becomes (RemovalLeaves failed (object_name_in old.volume.volume number)) old.store.objects new.store.objects
  pub asked : IsAskedOnce (Remove (object_name_in old.volume.volume number)) old.store.asked new.store.asked
  pub faults : Counts failed old.store.faults new.store.faults

-- gets, in which the volume stays, and what the store holds
pub record IsGetAct (failed : Bool) (old new : Moment) : Type 0 where
  pub volume : new.volume ≡ old.volume
  pub store : OnlyCounts old.store new.store
  pub faults : Counts failed old.store.faults new.store.faults

-- an act, between two moments
abbrev pub IsAct : {R : Type 0} → (R → ReceiptState) → Act R → Moment → Moment → Type 0
IsAct state (Made event reply) old new = IsStepAct state event reply old new
IsAct state (Puts job failed) old new = IsPutAct job failed old new
IsAct state (Removes number failed) old new = IsRemoveAct number failed old new
IsAct state (Gets failed) old new = IsGetAct failed old new

-- ---- one after the other

-- acts that were made one after the other
abbrev pub AreActs : {R : Type 0} → (R → ReceiptState) → List (Act R) → Moment → Moment → Type 0
AreActs state [] old new = new ≡ old
AreActs state (act ∷ rest) old new = (mid : Moment) × IsAct state act old mid × AreActs state rest mid new

-- acts were made, and nothing else, and they entered these entries
pub record IsMadeOfActs {R : Type 0} (state : R → ReceiptState) (added : List Entry) (old new : Moment) : Type 0 where
  pub acts : List (Act R)
  pub done : AreActs state acts old new
  pub entered : flat_map entered_by_act acts ≡ added

-- a volume made one step, of this event, which entered these entries
pub record MakesStep {R : Type 0} (state : R → ReceiptState) (event : Event R) (added : List Entry) (old new : SteppedVolume) :
    Type 0 where
  pub reply : Reply R
  pub step : CountedStep state event reply old new
  pub entered : entered_by_event event reply ≡ added

-- ---- stops

-- what a stop inside an act of a volume leaves of the objects: a put or a removal that is cut off leaves what one may leave that
-- failed
abbrev pub MayBeLeftInAct : {R : Type 0} → Act R → VolumeState → (old left : Objects) → Type 0
MayBeLeftInAct (Made event reply) volume old left = left ≡ old
MayBeLeftInAct (Puts job failed) volume old left = MayBePut job.name job.bytes old left
MayBeLeftInAct (Removes number failed) volume old left = MayBeRemoved (object_name_in volume number) old left
MayBeLeftInAct (Gets failed) volume old left = left ≡ old
