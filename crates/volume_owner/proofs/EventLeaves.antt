-- What an event leaves of a plain volume for which a store stands: its opening, its checkpoints and its objects; and of which
-- object it changes how far that has come.
use Rattle.std.proofs.Common.{◌≡◌, ℕ, nat_eq, inl}
use Rattle.std.proofs.Common.{inr, Bool, true, false, cond, not}
use Rattle.std.proofs.Common.{◌&&◌, ◌||◌, List, [], ◌∷◌, ◌++◌, refl, ◌∙◌, ap, Option, Some, None}
use Rattle.std.specs.Prelude.{IfSome}
use Rattle.std.proofs.Math.Bool.{or-true}
use Rattle.std.proofs.lemmas.Bool.{eq-eqb}
use Rattle.lsvd_device.specs.Calls.{Fuse}
use Rattle.object_format.specs.declared.expected.Expected.{Expected}
use Rattle.object_stream.specs.declared.object.CopiedSector.{CopiedSector}
use Rattle.object_uploads.specs.declared.rows.SealedRows.{SealedRows}
use Rattle.object_uploads.specs.declared.rows.SealedRows.TheVariants as sealed_rows
use Rattle.plain_disk.specs.declared.event.PlainEvent.{PlainEvent}
use Rattle.plain_disk.specs.declared.event.PlainEvent.TheVariants.{Write, Zero, Flush, Look, Release, Seal, TakeJob, JobDone}
use Rattle.plain_disk.specs.declared.event.PlainEvent.TheVariants.{JobFailed, SealCheckpoint, TakeRemove}
use Rattle.plain_disk.specs.declared.event.PlainEvent.TheVariants.{RemoveDone, RemoveFailed, PlanCopy, SealCopy, DropPlan}
use Rattle.plain_disk.specs.declared.event.PlainEvent.TheVariants.{Status}
use Rattle.plain_disk.specs.State.{PlainState, OpensFirst}
use Rattle.plain_disk.specs.Removals.{has, to_remove, with_removal, is_out}
use Rattle.plain_disk.specs.Reads.{are_pinned}
use Rattle.plain_disk.specs.Objects.{has_unsealed, is_busy}
use Rattle.plain_disk.specs.Collection.{planned_copy, with_plan, with_copy, after_sealed_copy}
use Rattle.plain_disk.specs.Step.{plain_after}
use Rattle.plain_disk.specs.Found.{SealsCheckpoints}
use Rattle.plain_disk.specs.Valid.{IsPlainVolume}
use Rattle.plain_disk.proofs.OpeningLemmas.{events_keep_opening}
use Rattle.plain_disk.proofs.MarkedLemmas.{events_seal}
use Rattle.lsvd_base.specs.Limits.{may_transfer}
use Rattle.refine_store.specs.Puts.{HasSourceSectors, IsObjectOf}
use Rattle.refine_store.proofs.KeepLemmas.{events_keep_object}
use Rattle.vol_core.specs.Step.{passing}
use Rattle.vol_core.proofs.StepLemmas.{passing_keeps}

-- whose removal is out was given out for it
abbrev pub IsGivenOut : PlainState → Type 0
IsGivenOut plain = IfSome plain.removal (λ number. has plain.given_out number ≡ true)

pub record LeavesObjects (plain after : PlainState) : Type 0 where
  pub opens : OpensFirst plain → OpensFirst after
  pub seals : SealsCheckpoints plain → SealsCheckpoints after
  pub out : IsGivenOut plain → IsGivenOut after
  pub held : after.held ≡ plain.held
  pub objects : OpensFirst plain → (volume : Expected) (n : ℕ) (bytes : List ℕ) → IsObjectOf volume plain n bytes
      → IsObjectOf volume after n bytes

pub nothing_leaves : (plain : PlainState) → LeavesObjects plain plain
nothing_leaves plain = record {
  opens = λ is. is;
  seals = λ is. is;
  out = λ is. is;
  held = refl;
  objects = λ opens volume n bytes is. is;
}

-- ---- what is out

either_out : (b : Bool) (x y : PlainState) → IsGivenOut x → IsGivenOut y → IsGivenOut (cond b x y)
either_out true x y first second = first
either_out false x y first second = second

pub has_last : (numbers : List ℕ) (n : ℕ) → has (numbers ++ n ∷ []) n ≡ true
has_last [] n = ap (λ b. b || false) (eq-eqb n n refl)
has_last (other ∷ numbers) n = ap (λ b. nat_eq other n || b) (has_last numbers n) ∙ or-true (nat_eq other n)

taking_out : (plain : PlainState) (out lowest : Option ℕ) → plain.removal ≡ out → IsGivenOut plain
    → IsGivenOut (with_removal out lowest plain)
taking_out plain None (Some n) is given = has_last plain.given_out n
taking_out plain None None is given = given
taking_out plain (Some other) lowest is given = given

planning_out : (plain : PlainState) (out : Option (List CopiedSector)) (sectors : List CopiedSector) → IsGivenOut plain
    → IsGivenOut (with_plan out sectors plain)
planning_out plain (Some plan) sectors given = given
planning_out plain None [] given = given
planning_out plain None (first ∷ more) given = given

copy_out : (plain : PlainState) (is_sealed : Bool) (out : Option (List CopiedSector)) → IsGivenOut plain
    → IsGivenOut (after_sealed_copy is_sealed out plain)
copy_out plain is_sealed None given = given
copy_out plain is_sealed (Some plan) given = either_out is_sealed (with_copy plan plain) plain given given

event_out : (plain : PlainState) (event : PlainEvent) → IsGivenOut plain → IsGivenOut (plain_after event plain)
event_out plain (Write lba body) given = given
event_out plain (Zero lba sectors) given = given
event_out plain Flush given = given
event_out plain (Look lba sectors) given = either_out (may_transfer plain.geometry lba sectors) _ plain given given
event_out plain (Release numbers) given = either_out (are_pinned numbers plain.pins) _ plain given given
event_out plain Seal given = either_out (has_unsealed plain && not (is_busy plain)) _ plain given given
event_out plain TakeJob given = given
event_out plain (JobDone job) given = given
event_out plain (JobFailed job) given = given
event_out plain SealCheckpoint given = either_out (is_busy plain) plain _ given given
event_out plain TakeRemove given = taking_out plain plain.removal (to_remove plain) refl given
event_out plain (RemoveDone number) given = either_out (is_out number plain.removal) _ plain tt given
event_out plain (RemoveFailed number) given = either_out (is_out number plain.removal) _ plain tt given
event_out plain PlanCopy given = planning_out plain plain.plan (planned_copy plain) given
event_out plain (SealCopy is_planned) given = copy_out plain (is_planned && not (is_busy plain)) plain.plan given
event_out plain DropPlan given = given
event_out plain Status given = given

-- ---- what holds keep

either_held : (b : Bool) (x y plain : PlainState) → x.held ≡ plain.held → y.held ≡ plain.held → (cond b x y).held ≡ plain.held
either_held true x y plain first second = first
either_held false x y plain first second = second

taking_held : (plain : PlainState) (out lowest : Option ℕ) → (with_removal out lowest plain).held ≡ plain.held
taking_held plain None (Some n) = refl
taking_held plain None None = refl
taking_held plain (Some other) lowest = refl

planning_held : (plain : PlainState) (out : Option (List CopiedSector)) (sectors : List CopiedSector)
    → (with_plan out sectors plain).held ≡ plain.held
planning_held plain (Some plan) sectors = refl
planning_held plain None [] = refl
planning_held plain None (first ∷ more) = refl

copy_held : (plain : PlainState) (is_sealed : Bool) (out : Option (List CopiedSector))
    → (after_sealed_copy is_sealed out plain).held ≡ plain.held
copy_held plain is_sealed None = refl
copy_held plain is_sealed (Some plan) = either_held is_sealed (with_copy plan plain) plain plain refl refl

event_held : (plain : PlainState) (event : PlainEvent) → (plain_after event plain).held ≡ plain.held
event_held plain (Write lba body) = refl
event_held plain (Zero lba sectors) = refl
event_held plain Flush = refl
event_held plain (Look lba sectors) = either_held (may_transfer plain.geometry lba sectors) _ plain plain refl refl
event_held plain (Release numbers) = either_held (are_pinned numbers plain.pins) _ plain plain refl refl
event_held plain Seal = either_held (has_unsealed plain && not (is_busy plain)) _ plain plain refl refl
event_held plain TakeJob = refl
event_held plain (JobDone job) = refl
event_held plain (JobFailed job) = refl
event_held plain SealCheckpoint = either_held (is_busy plain) plain _ plain refl refl
event_held plain TakeRemove = taking_held plain plain.removal (to_remove plain)
event_held plain (RemoveDone number) = either_held (is_out number plain.removal) _ plain plain refl refl
event_held plain (RemoveFailed number) = either_held (is_out number plain.removal) _ plain plain refl refl
event_held plain PlanCopy = planning_held plain plain.plan (planned_copy plain)
event_held plain (SealCopy is_planned) = copy_held plain (is_planned && not (is_busy plain)) plain.plan
event_held plain DropPlan = refl
event_held plain Status = refl

-- ---- the whole

-- what calls the device passes does not matter to what a plain volume opens with, nor to its objects
opens_passing : (left : Fuse) (plain : PlainState) → OpensFirst plain → OpensFirst (passing left plain)
opens_passing left plain is = record {
  number = is.number;
  end = is.end;
  payloads = is.payloads;
  inherited = is.inherited;
  zeros = is.zeros;
}

seals_passing : (left : Fuse) (plain : PlainState) → SealsCheckpoints plain → SealsCheckpoints (passing left plain)
seals_passing left plain is = record { sealed = is.sealed; marked = is.marked; removed = is.removed; out = is.out }

copied_passing : (left : Fuse) (plain : PlainState) (n : ℕ) (bytes : List ℕ) (rows : SealedRows)
    → HasSourceSectors plain n bytes rows → HasSourceSectors (passing left plain) n bytes rows
copied_passing left plain n bytes (sealed_rows.Data list) copied = tt
copied_passing left plain n bytes (sealed_rows.Copy list) copied = copied
copied_passing left plain n bytes sealed_rows.Checkpoint copied = tt

object_passing : (left : Fuse) (plain : PlainState) (volume : Expected) (n : ℕ) (bytes : List ℕ)
    → IsObjectOf volume plain n bytes → IsObjectOf volume (passing left plain) n bytes
object_passing left plain volume n bytes (inl is) = inl (record {
  first = is.first;
  rows = is.rows;
  is_checkpoint = is.is_checkpoint;
  says = is.says;
  places = is.places;
})
object_passing left plain volume n bytes (inr is) = inr (record {
  past = is.past;
  object = is.object;
  there = is.there;
  rows = is.rows;
  holds = is.holds;
  copied = copied_passing left plain n bytes is.rows is.copied;
})

pub event_leaves : (left now : Fuse) (plain : PlainState) (event : PlainEvent) → IsPlainVolume plain
    → LeavesObjects plain (passing now (plain_after event (passing left plain)))
event_leaves left now plain event valid =
    let ready : PlainState = passing left plain in
    let after : PlainState = plain_after event ready in
    let is = passing_keeps left plain valid in
    record {
      opens = λ opens. opens_passing now after (events_keep_opening ready event (opens_passing left plain opens));
      seals = λ seals. seals_passing now after (events_seal ready event is (seals_passing left plain seals));
      out = λ given. event_out ready event given;
      held = event_held ready event;
      objects = λ opens volume n bytes object. object_passing now after volume n bytes
          (events_keep_object volume ready n bytes event is (opens_passing left plain opens)
          (object_passing left plain volume n bytes object));
    }
