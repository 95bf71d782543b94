-- A put of an object begins, fails or is done, and the rig shows what that makes of the plain volume.
use Rattle.std.proofs.Common.{◌≡◌, ℕ, ◌+◌, ◌<◌, ◌≤◌, nat_eq, Bool, true, false, cond, List, [], ◌∷◌, length}
use Rattle.std.proofs.Common.{refl, sym, ◌∙◌, ap, subst}
use Rattle.std.proofs.Common.{inl, inr, arith}
use Rattle.std.specs.Prelude.{Option, Some, None, is_some, IsTrue, Result, Ok, Err, IfOk}
use Rattle.std.specs.List.{AllByRecursion, list_any}
use Rattle.std.specs.declared.alloc.AllocError.{AllocError}
use Rattle.std.proofs.lemmas.Bool.{cases_eq, ne_eqb}
use Rattle.lsvd_base.specs.declared.geometry.Geometry.{Geometry}
use Rattle.lsvd_names.specs.Names.{numbered_name}
use Rattle.lsvd_device.specs.Calls.{Budget}
use Rattle.lsvd_device.specs.Memory.{HasRoom}
use Rattle.lsvd_names.specs.declared.name.ObjName.{ObjName}
use Rattle.lsvd_objstore.specs.Memory.{Kept, told_receipt}
use Rattle.lsvd_objstore.specs.Store.{ReceiptState}
use Rattle.lsvd_objstore.specs.Objects.{Objects, found, IsPut}
use Rattle.object_recovery.specs.Checkpoints.{expected_of}
use Rattle.refine_mount.specs.Found.{HasHolds}
use Rattle.object_uploads.specs.State.{JobState}
use Rattle.object_uploads.specs.Order.{IsUploads}
use Rattle.object_uploads.specs.Image.{TellAlike}
use Rattle.object_uploads.specs.Changes.{IsOut, IsJobOf}
use Rattle.object_uploads.proofs.UploadsKept.{frontier_below}
use Rattle.obj_log.specs.State.{ObjLogState}
use Rattle.obj_log.specs.Changes.{expected_of_volume}
use Rattle.stopped_volume.specs.Store.{TellsBytes}
use Rattle.stopped_volume.specs.Super.{HasVolume}
use Rattle.upload_window.specs.declared.object.OpenObject.{OpenObject}
use Rattle.upload_window.specs.Window.{WindowState, Ascends, IsAcknowledged, has_number, below_lowest, below_open, is_ready}
use Rattle.upload_window.specs.Window.{lowest_ready, is_started, marked, acknowledged}
use Rattle.batcher.specs.declared.full.Full.TheVariants as full
use Rattle.plain_disk.specs.declared.event.PlainEvent.{PlainEvent}
use Rattle.plain_disk.specs.declared.event.PlainEvent.TheVariants as events
use Rattle.plain_disk.specs.declared.event.PlainReply.TheVariants as replies
use Rattle.plain_disk.specs.State.{PlainState}
use Rattle.plain_disk.specs.Objects.{reply_of_taken, window_after_take, window_after_failed}
use Rattle.plain_disk.specs.Removals.{has}
use Rattle.plain_disk.specs.Step.{plain_reply, plain_after}
use Rattle.plain_disk.proofs.CheckpointLemmas.{given_is_unneeded}
use Rattle.plain_disk.proofs.OpeningLemmas.{events_keep_opening}
use Rattle.plain_disk.proofs.MarkedLemmas.{events_seal}
use Rattle.refine_store.specs.Puts.{IsObjectOf, Inherits}
use Rattle.refine_store.proofs.JobLemmas.{job_is_object}
use Rattle.refine_store.proofs.KeepLemmas.{events_keep_object}
use Rattle.vol_core.specs.declared.event.Event.{Event}
use Rattle.vol_core.specs.declared.event.Event.TheVariants.{TakeJob, JobDone, JobFailed}
use Rattle.vol_core.specs.declared.reply.EntryRefusal.{EntryRefusal}
use Rattle.vol_core.specs.declared.reply.EntryRefusal.TheVariants as refusals
use Rattle.vol_core.specs.declared.reply.SealRefusal.{SealRefusal}
use Rattle.vol_core.specs.declared.reply.SealRefusal.TheVariants as seal_refusals
use Rattle.vol_core.specs.declared.reply.Reply.{Reply}
use Rattle.vol_core.specs.declared.reply.Reply.TheVariants as told
use Rattle.vol_core.specs.Volume.{VolumeState, SteppedVolume}
use Rattle.vol_core.specs.Events.{IsOfPut, IsOfDonePut, Tells, TellsRefusal, TellsSealRefusal}
use Rattle.vol_core.specs.Step.{IsOnItsWay, HasBytesOf, CountedStep}
use Rattle.replay_rig.specs.declared.answer.Answer.{Answer}
use Rattle.replay_rig.specs.declared.answer.Answer.TheVariants as answers
use Rattle.replay_rig.specs.Answers.{SaysReply, SaysCounts}
use Rattle.replay_rig.specs.Steps.{AnswersEvent, FailsPut}
use Rattle.replay_rig.specs.Puts.{PutView, put_of, is_put_out, out_put, with_begun, with_failed, without_put, IsPutOut}
use Rattle.replay_rig.specs.Puts.{IsJobTaken, lowest_out, lowest_started}
use Rattle.replay_rig.specs.Crash.{IsPutAs}
use Rattle.object_uploads.specs.Image.{IsReceiptFor}
use Rattle.replay_rig.specs.Rig.{RigState, rig_of, script_uuid, expected_of_plain, AreUnderWay, HasBytesOfObject, HasStored}
use Rattle.replay_rig.specs.Rig.{IsKeptObject, ShowsPlain}
use Rattle.replay_rig.proofs.PlainLemmas.{GrowsByOne, KeepsRemovals, is_no_removal, event_grows, event_keeps_removals}
use Rattle.replay_rig.proofs.PlainLemmas.{still_at_once, same_expected, described_still}
use Rattle.replay_rig.proofs.Says.{says_reply, done_counts}
use Rattle.replay_rig.proofs.Describing.{put_keeps_volume, put_inherits, put_leaves_none}
use Rattle.replay_rig.proofs.Stepped.{ShowsVolume, volume_shown, step_of_plain, bytes_kept, on_its_way, stored_still}
use Rattle.replay_rig.proofs.Stepped.{put_objects_still, young_still, KeepsUnderWay, same_under_way, goes_on}
use Rattle.replay_rig.proofs.WindowLemmas.{open_above, started_is_open, ready_is_open, marked_numbers, without_others}
use Rattle.replay_rig.proofs.WindowLemmas.{without_own, begun_under_way, failed_under_way, done_under_way, out_if_started}
use Rattle.replay_rig.proofs.WindowLemmas.{lowest_if_started}
use Rattle.replay_rig.proofs.WindowLemmas.{all_begun, all_failed, all_without, all_at}

-- ---- an object that is open, and one whose put is out

-- an open number is above the frontier, and not above the last
pub open_within : (n low : ℕ) (objects : List OpenObject) (last : ℕ) → Ascends low objects last
    → list_any (has_number n) objects ≡ true
    → (below_lowest objects last < n) × (n ≤ last)
open_within n low [] last ascends is = cc
open_within n low (object ∷ objects) last ascends is =
    let positive = ascends.0 in
    let most = (open_above n low (object ∷ objects) last ascends is).1 in
    elim (cases_eq object.number n) [
      | inl same ↦ (omega (arith, positive, same), most)
      | inr other ↦
          let not_here : nat_eq object.number n ≡ false = ne_eqb object.number n other in
          let later : list_any (has_number n) objects ≡ true = rw not_here at is in
          let above = (open_above n object.number objects last ascends.1 later).0 in
          (omega (arith, above), most)
    ]

-- so it is past the first of a rig, which opens there
open_in_rig : (n : ℕ) (rig : RigState) (plain : PlainState) → ShowsPlain rig plain
    → list_any (has_number n) plain.window.objects ≡ true
    → (1 < n) × (n ≤ plain.window.last)
open_in_rig n rig plain h is =
    let within = open_within n 0 plain.window.objects plain.window.last h.shows.valid.window.order is in
    let opened = h.shows.valid.opened in
    let first = h.opens.number in
    (omega (arith, within.0, opened, first), within.1)

pub out_listed : (n : ℕ) (rig : RigState) (plain : PlainState) → ShowsPlain rig plain
    → is_put_out (put_of n rig.puts) ≡ is_started n plain.window.objects
out_listed n rig plain h =
    let window = h.shows.valid.window in
    out_if_started n 0 plain.window.objects plain.window.last rig.puts window.order window.starts h.puts

pub lowest_listed : (rig : RigState) (plain : PlainState) → ShowsPlain rig plain
    → lowest_out rig.puts ≡ lowest_started plain.window.objects
lowest_listed rig plain h = lowest_if_started plain.window.objects rig.puts h.shows.valid.window.starts h.puts

pub out_in_list : (n : ℕ) (old now : RigState) → ((plain : PlainState) × ShowsPlain old plain) → old ≡ now
    → ((plain : PlainState) → ShowsPlain now plain → IsTrue (is_started n plain.window.objects))
    → is_put_out (put_of n old.puts) ≡ true
out_in_list n old now known same out =
    out_listed n old known.0 known.1 ∙ out known.0 (subst (λ (r : RigState). ShowsPlain r known.0) same known.1)

-- its bytes are those of the volume's sealed object
out_of_volume : (n : ℕ) (bytes : List ℕ) (rig : RigState) (plain : PlainState) → ShowsPlain rig plain
    → is_started n plain.window.objects ≡ true
    → IsPutOut n bytes rig.puts → IsOut rig.volume.volume.objects.uploads n bytes
out_of_volume n bytes rig plain h started is = record {
  started = ap (λ (w : WindowState). is_started n w.objects) h.shows.objects.window ∙ started;
  sealed = all_at (λ put. HasBytesOf rig.volume.volume put.number put.bytes) n rig.puts (out_put n bytes) is h.bytes;
}

-- ---- the rig after a step of a put

-- the rig a line later, with this volume, what the store has and the objects under way
abbrev rig_after : RigState → SteppedVolume → Objects → List PutView → RigState
rig_after old volume objects puts = rig_of volume objects puts old.is_stopping (old.lines + 1)

with_list : (old : RigState) (volume : SteppedVolume) (objects : Objects) (list puts : List PutView) (plain : PlainState)
    → list ≡ puts
    → ShowsPlain (rig_after old volume objects puts) plain → ShowsPlain (rig_after old volume objects list) plain
with_list old volume objects list puts plain same shows = subst (λ now. ShowsPlain (rig_after old volume objects now) plain)
    (sym same) shows

-- what is known of an object under way
record IsKnownPut (plain : PlainState) (volume : VolumeState) (put : PutView) : Type 0 where
  object : HasBytesOfObject plain put
  waits : IsOnItsWay volume put.number
  bytes : HasBytesOf volume put.number put.bytes

all_known : (plain : PlainState) (volume : VolumeState) (puts : List PutView) → AllByRecursion (HasBytesOfObject plain) puts
    → AllByRecursion (λ put. IsOnItsWay volume put.number) puts
    → AllByRecursion (λ put. HasBytesOf volume put.number put.bytes) puts
    → AllByRecursion (IsKnownPut plain volume) puts
all_known plain volume [] objects waits bytes = tt
all_known plain volume (put ∷ puts) objects waits bytes =
    (record { object = objects.0; waits = waits.0; bytes = bytes.0 }, all_known plain volume puts objects.1 waits.1 bytes.1)

known_puts : (rig : RigState) (plain : PlainState) → ShowsPlain rig plain
    → AllByRecursion (IsKnownPut plain rig.volume.volume) rig.puts
known_puts rig plain h =
    all_known plain rig.volume.volume rig.puts h.put_objects (on_its_way rig.volume.volume plain rig.puts h.shows h.puts) h.bytes

known_objects : (plain : PlainState) (volume : VolumeState) (puts : List PutView) → AllByRecursion (IsKnownPut plain volume) puts
    → AllByRecursion (HasBytesOfObject plain) puts
known_objects plain volume [] all = tt
known_objects plain volume (put ∷ puts) all = (all.0.object, known_objects plain volume puts all.1)

known_waits : (plain : PlainState) (volume : VolumeState) (puts : List PutView) → AllByRecursion (IsKnownPut plain volume) puts
    → AllByRecursion (λ put. IsOnItsWay volume put.number) puts
known_waits plain volume [] all = tt
known_waits plain volume (put ∷ puts) all = (all.0.waits, known_waits plain volume puts all.1)

known_bytes : (plain : PlainState) (volume : VolumeState) (puts : List PutView) → AllByRecursion (IsKnownPut plain volume) puts
    → AllByRecursion (λ put. HasBytesOf volume put.number put.bytes) puts
known_bytes plain volume [] all = tt
known_bytes plain volume (put ∷ puts) all = (all.0.bytes, known_bytes plain volume puts all.1)

-- it shows the plain volume after the event, where these objects are under way then, and the store has what it is to have
puts_go_on : (old : RigState) (volume : SteppedVolume) (objects : Objects) (puts : List PutView) (event : Event Kept)
    (reply : Reply Kept)
    (asked : PlainEvent) (plain : PlainState)
    → (h : ShowsPlain old plain) → CountedStep told_receipt event reply old.volume volume
    → ShowsVolume h.epoch volume.volume (plain_after asked plain)
    → AreUnderWay (plain_after asked plain).window.objects puts → AllByRecursion (IsKnownPut plain old.volume.volume) puts
    → KeepsRemovals plain (plain_after asked plain) → HasStored (plain_after asked plain) objects
    → HasVolume script_uuid plain.geometry plain.chain h.epoch objects → Inherits script_uuid plain objects
    → HasHolds (expected_of_plain plain) [] objects
    → ShowsPlain (rig_after old volume objects puts) (plain_after asked plain)
puts_go_on old volume objects puts event reply asked plain h of now are known removals stored described inherits holds =
    let next : PlainState = plain_after asked plain in
    let grows = event_grows plain asked in
    let object_stays = λ (number : ℕ) (bytes : List ℕ) (is : IsObjectOf (expected_of_plain plain) plain number bytes).
    events_keep_object (expected_of_plain plain) plain number bytes asked h.shows.valid h.opens is in
    record {
      shows = now.shows;
      pending = now.pending;
      epoch = h.epoch;
      own = now.own;
      described = described_still plain next h.epoch objects grows described;
      inherits = grows.inherits objects inherits;
      begun = omega (arith, h.begun);
      uuid_is = now.uuid_is;
      opens = events_keep_opening plain asked h.opens;
      seals = events_seal plain asked h.shows.valid h.seals;
      stopping = h.stopping ∙ sym grows.told;
      puts = are;
      put_objects = put_objects_still plain next puts grows object_stays (known_objects plain old.volume.volume puts known);
      bytes = bytes_kept old.volume.volume volume.volume puts of.step.bytes (known_waits plain old.volume.volume puts known)
          (on_its_way volume.volume next puts now.shows are) (known_bytes plain old.volume.volume puts known);
      stored = stored;
      unheld = grows.held ∙ h.unheld;
      holds = subst (λ volume. HasHolds volume [] objects) (sym (same_expected plain next grows)) holds;
      removes = still_at_once plain next removals h.removes;
      young = young_still old volume objects puts old.is_stopping plain next grows (omega (arith, of.count))
          (omega (arith, of.step.numbers.commits)) h.young;
    }

-- no step of a put needs room on the device
no_room_asked : (budget : Option Budget) → IsTrue (is_some budget) → HasRoom 0 0 budget
no_room_asked None told = cc
no_room_asked (Some budget) told = (omega arith, omega arith)

-- ---- a mark in the window

marked_back : (n : ℕ) (started : Bool) (window : WindowState) (number : ℕ) → IsAcknowledged (marked n started window) number
    → IsAcknowledged window number
marked_back n started window number is =
    record { was_entered = is.was_entered; not_open = sym (marked_numbers number n started window.objects) ∙ is.not_open }

marked_forth : (n : ℕ) (started : Bool) (window : WindowState) (number : ℕ) → IsAcknowledged window number
    → IsAcknowledged (marked n started window) number
marked_forth n started window number is =
    record { was_entered = is.was_entered; not_open = marked_numbers number n started window.objects ∙ is.not_open }

-- the store has what it had where the window was marked
stored_marked : (n : ℕ) (started : Bool) (old : RigState) (plain : PlainState) (asked : PlainEvent) → ShowsPlain old plain
    → (plain_after asked plain).window ≡ marked n started plain.window → is_no_removal asked ≡ true
    → HasStored (plain_after asked plain) old.objects
stored_marked n started old plain asked h is no_removal =
    stored_still plain (plain_after asked plain) old.objects (event_grows plain asked)
    (event_keeps_removals plain asked no_removal)
    (λ number bytes object. events_keep_object (expected_of_plain plain) plain number bytes asked h.shows.valid h.opens object)
    (λ number positive a. marked_back n started plain.window number (subst (λ (w : WindowState). IsAcknowledged w number) is a))
    (λ number positive a. subst (λ (w : WindowState). IsAcknowledged w number) (sym is)
    (marked_forth n started plain.window number a))
    h.stored

-- ---- a put begins

-- what the plain volume answers
not_refused : (why : EntryRefusal) (number : ℕ) → TellsRefusal why (replies.Taken number) → ⊥
not_refused refusals.Range number tells = cc
not_refused (refusals.Full (full.Sectors sectors)) number tells = cc
not_refused (refusals.Full (full.Entries count)) number tells = cc
not_refused (refusals.NoRoom lacking left) number tells = cc
not_refused refusals.Fault number tells = cc
not_refused refusals.OutOfMemory number tells = tells

not_unsealed : (why : SealRefusal) (number : ℕ) → TellsSealRefusal why (replies.Taken number) → ⊥
not_unsealed seal_refusals.NotPlanned number tells = cc
not_unsealed seal_refusals.Busy number tells = cc
not_unsealed seal_refusals.OutOfMemory number tells = tells

none_taken : (lowest : Option ℕ) (volume : VolumeState) (reply : Reply Kept) → ((job : JobState) → reply ≡ told.Taken job → ⊥)
    → Tells told_receipt volume reply (reply_of_taken lowest) → lowest ≡ None
none_taken None volume reply not_taken tells = refl
none_taken (Some number) volume (told.Taken job) not_taken tells = absurd (not_taken job refl)
none_taken (Some number) volume (told.NotEntered entry why) not_taken tells = absurd (not_refused why number tells)
none_taken (Some number) volume (told.Planned plan) not_taken tells = (let same = tells.1 in cc)
none_taken (Some number) volume (told.Removing receipt) not_taken tells = (let same = tells.0 in cc)
none_taken (Some number) volume (told.Copying plan) not_taken tells = (let same = tells.1 in cc)
none_taken (Some number) volume (told.NotSealed copied why) not_taken tells = absurd (not_unsealed why number tells)
none_taken (Some number) volume told.OutOfMemory not_taken tells = absurd tells
none_taken (Some number) volume reply not_taken tells = cc

some_taken : (lowest : Option ℕ) (n : ℕ) → reply_of_taken lowest ≡ replies.Taken n → lowest ≡ Some n
some_taken None n is = cc
some_taken (Some number) n is = (let same : number ≡ n = cc in ap Some same)

-- none is ready
none_begun : (old : RigState) (volume : SteppedVolume) (reply : Reply Kept) (plain : PlainState)
    → ((job : JobState) → reply ≡ told.Taken job → ⊥)
    → CountedStep told_receipt TakeJob reply old.volume volume → (h : ShowsPlain old plain)
    → Tells told_receipt old.volume.volume reply (plain_reply plain events.TakeJob)
    → ShowsVolume h.epoch volume.volume (plain_after events.TakeJob plain)
    → SaysReply (plain_reply plain events.TakeJob) answers.Nothing
    × ShowsPlain (rig_after old volume old.objects old.puts) (plain_after events.TakeJob plain)
none_begun old volume reply plain not_taken of h tells now =
    let none : lowest_ready plain.window.objects ≡ None = none_taken (lowest_ready plain.window.objects) old.volume.volume reply
    not_taken tells in
    let keeps : KeepsUnderWay plain.window (window_after_take (lowest_ready plain.window.objects) plain.window) =
    subst (λ lowest. KeepsUnderWay plain.window (window_after_take lowest plain.window)) (sym none)
    (same_under_way plain.window) in (
      subst (λ lowest. SaysReply (reply_of_taken lowest) answers.Nothing) (sym none) refl,
      goes_on old volume TakeJob reply events.TakeJob plain h of now keeps
          (event_keeps_removals plain events.TakeJob refl),
    )

pub begun_none : (old : RigState) (volume : SteppedVolume) (reply : Reply Kept) (list : List PutView) → list ≡ old.puts
    → ((job : JobState) → reply ≡ told.Taken job → ⊥) → CountedStep told_receipt TakeJob reply old.volume volume
    → AnswersEvent events.TakeJob answers.Nothing old (rig_after old volume old.objects list)
begun_none old volume reply list same not_taken of = record {
  by = λ plain h.
      let room = no_room_asked old.volume.volume.log.commits.disk.budget h.pending.told in
      elim (step_of_plain h.epoch TakeJob reply plain old.volume volume (volume_shown old plain h) room of) [
        | inl s ↦
            let tells = subst (λ e. Tells told_receipt old.volume.volume reply (plain_reply plain e)) s.asks s.tells in
            let now = subst (λ e. ShowsVolume h.epoch volume.volume (plain_after e plain)) s.asks s.now in
            let made = none_begun old volume reply plain not_taken of h tells now in
            (made.0, with_list old volume old.objects list old.puts (plain_after events.TakeJob plain) same made.1)
        | inr none ↦ (let e : false ≡ true = none.may in cc)
      ];
}

-- all receipts of a store in memory tell their bytes
all_told : TellsBytes told_receipt
all_told receipt = refl

-- the job has the bytes of the plain volume's object
job_of_rig : (rig : RigState) (plain : PlainState) (n : ℕ) (job : JobState) → ShowsPlain rig plain
    → IsUploads rig.volume.volume.objects.uploads
    → list_any (has_number n) plain.window.objects ≡ true → TellAlike true rig.volume.volume.objects.uploads.queue
    → IsJobOf rig.volume.volume.objects.uploads n job → IsKnownPut plain rig.volume.volume (out_put n job.bytes)
job_of_rig rig plain n job h uploads open_ told is_job =
    let objects : ObjLogState = rig.volume.volume.objects in
    let window : objects.uploads.window ≡ plain.window = h.shows.objects.window in
    let within = open_within n 0 plain.window.objects plain.window.last h.shows.valid.window.order open_ in
    let frontier = frontier_below objects.uploads uploads in
    let below = ap below_open window in
    let last = ap (λ (w : WindowState). w.last) window in
    let object = job_is_object h.shows.data_at objects plain n job uploads h.shows.valid h.shows.objects
    (omega (arith, within.0, frontier, below)) (omega (arith, within.1, last)) told is_job in
    let expected : expected_of_volume objects ≡ expected_of_plain plain =
    ap (λ (g : Geometry). expected_of objects.uploads.uuid g objects.uploads.ancestors) h.shows.objects.geometry
    ∙ ap (expected_of objects.uploads.uuid plain.geometry) h.shows.objects.ancestors
    ∙ ap (λ uuid. expected_of uuid plain.geometry (length plain.chain)) h.uuid_is in
    record {
      object = subst (λ e. IsObjectOf e plain n job.bytes) expected object;
      waits = ap (λ (w : WindowState). list_any (has_number n) w.objects) window ∙ open_;
      bytes = is_job.bytes;
    }

job_begun : (old : RigState) (volume : SteppedVolume) (job : JobState) (plain : PlainState)
    → IsUploads old.volume.volume.objects.uploads
    → CountedStep told_receipt TakeJob (told.Taken job) old.volume volume → (h : ShowsPlain old plain)
    → Tells told_receipt old.volume.volume (told.Taken job) (plain_reply plain events.TakeJob)
    → ShowsVolume h.epoch volume.volume (plain_after events.TakeJob plain)
    → ShowsPlain (rig_after old volume old.objects (with_begun job.name.number job.bytes old.puts))
    (plain_after events.TakeJob plain)
job_begun old volume job plain uploads of h tells now =
    let n : ℕ = job.name.number in
    let objects : List OpenObject = plain.window.objects in
    let lowest : lowest_ready objects ≡ Some n = some_taken (lowest_ready objects) n tells.0 in
    let open_ = ready_is_open n (is_ready objects) objects lowest in
    let window : window_after_take (lowest_ready objects) plain.window ≡ marked n true plain.window =
    ap (λ number. window_after_take number plain.window) lowest in
    let are = begun_under_way n job.bytes 0 objects plain.window.last old.puts h.shows.valid.window.order open_ h.puts in
    puts_go_on old volume old.objects (with_begun n job.bytes old.puts) TakeJob (told.Taken job) events.TakeJob plain h of now
    (subst (λ (w : WindowState). AreUnderWay w.objects (with_begun n job.bytes old.puts)) (sym window) are)
    (all_begun (IsKnownPut plain old.volume.volume) n job.bytes old.puts
    (job_of_rig old plain n job h uploads open_ (of.told all_told) tells.1)
    (known_puts old plain h))
    (event_keeps_removals plain events.TakeJob refl) (stored_marked n true old plain events.TakeJob h window refl) h.described
    h.inherits h.holds

pub begun_some : (old : RigState) (volume : SteppedVolume) (job : JobState) (number : ℕ) (list : List PutView)
    → number ≡ job.name.number
    → list ≡ with_begun job.name.number job.bytes old.puts
    → IsUploads old.volume.volume.objects.uploads
    → CountedStep told_receipt TakeJob (told.Taken job) old.volume volume
    → AnswersEvent events.TakeJob (answers.Put number) old (rig_after old volume old.objects list)
begun_some old volume job number list number_is same uploads of = record {
  by = λ plain h.
      let room = no_room_asked old.volume.volume.log.commits.disk.budget h.pending.told in
      elim (step_of_plain h.epoch TakeJob (told.Taken job) plain old.volume volume (volume_shown old plain h) room of) [
        | inl s ↦
            let tells = subst (λ e. Tells told_receipt old.volume.volume (told.Taken job) (plain_reply plain e)) s.asks s.tells in
            let now = subst (λ e. ShowsVolume h.epoch volume.volume (plain_after e plain)) s.asks s.now in
            let made = job_begun old volume job plain uploads of h tells now in (
              subst (λ reply. SaysReply reply (answers.Put number)) (sym tells.0) (ap answers.Put number_is),
              with_list old volume old.objects list (with_begun job.name.number job.bytes old.puts)
                  (plain_after events.TakeJob plain) same made,
            )
        | inr none ↦ (let e : false ≡ true = none.may in cc)
      ];
}

-- ---- a put fails

-- a job that comes back is that of the put
put_failed : (volume : VolumeState) (job : JobState) (n : ℕ) (put : Option ℕ) → IsOfPut volume job put → job.name.number ≡ n
    → IsOut volume.objects.uploads n job.bytes → put ≡ Some n
put_failed volume job n None of number out = absurd (of (subst (λ k. IsOut volume.objects.uploads k job.bytes) (sym number) out))
put_failed volume job n (Some other) of number out = ap Some (of.0 ∙ number)

job_failed : (n : ℕ) (old : RigState) (volume : SteppedVolume) (job : JobState) (reply : Reply Kept) (plain : PlainState)
    → is_started n plain.window.objects ≡ true → CountedStep told_receipt (JobFailed job) reply old.volume volume
    → (h : ShowsPlain old plain)
    → ShowsVolume h.epoch volume.volume (plain_after (events.JobFailed (Some n)) plain)
    → ShowsPlain (rig_after old volume old.objects (with_failed n old.puts)) (plain_after (events.JobFailed (Some n)) plain)
job_failed n old volume job reply plain started of h now =
    let objects : List OpenObject = plain.window.objects in
    let open_ = started_is_open n objects started in
    let window : window_after_failed (Some n) plain.window ≡ marked n false plain.window =
    ap (λ b. cond b (marked n false plain.window) plain.window) started in
    let are = failed_under_way n 0 objects plain.window.last old.puts h.shows.valid.window.order open_ h.puts in
    puts_go_on old volume old.objects (with_failed n old.puts) (JobFailed job) reply (events.JobFailed (Some n)) plain h of now
    (subst (λ (w : WindowState). AreUnderWay w.objects (with_failed n old.puts)) (sym window) are)
    (all_failed (IsKnownPut plain old.volume.volume) n old.puts
    (λ put known. record { object = known.object; waits = known.waits; bytes = known.bytes }) (known_puts old plain h))
    (event_keeps_removals plain (events.JobFailed (Some n)) refl)
    (stored_marked n false old plain (events.JobFailed (Some n)) h window refl) h.described h.inherits h.holds

pub failed_answers : (n : ℕ) (old : RigState) (volume : SteppedVolume) (job : JobState) (reply : Reply Kept) (list : List PutView)
    → ((plain : PlainState) → ShowsPlain old plain → IsTrue (is_started n plain.window.objects)) → job.name.number ≡ n
    → IsPutOut n job.bytes old.puts
    → list ≡ with_failed n old.puts → CountedStep told_receipt (JobFailed job) reply old.volume volume
    → FailsPut n (answers.Failed n) old (rig_after old volume old.objects list)
failed_answers n old volume job reply list out number is same of = record {
  by = λ plain h.
      let started = out plain h in
      let room = no_room_asked old.volume.volume.log.commits.disk.budget h.pending.told in
      elim (step_of_plain h.epoch (JobFailed job) reply plain old.volume volume (volume_shown old plain h) room of) [
        | inl s ↦
            let (put, asks, of_put) = s.asks in
            let put_is = put_failed old.volume.volume job n put of_put number
            (out_of_volume n job.bytes old plain h started is) in
            let asked : s.asked ≡ events.JobFailed (Some n) = asks ∙ ap events.JobFailed put_is in
            let now = subst (λ e. ShowsVolume h.epoch volume.volume (plain_after e plain)) asked s.now in
            let made = job_failed n old volume job reply plain started of h now in (
              refl,
              with_list old volume old.objects list (with_failed n old.puts) (plain_after (events.JobFailed (Some n)) plain) same
                  made,
            )
        | inr none ↦ (let e : false ≡ true = none.may in cc)
      ];
}

-- ---- a put is done

-- the store has the object of the put that is out, and gave a receipt for it
pub record IsMadePut (n : ℕ) (old : RigState) (store : Objects) (job : JobState) (receipt : Kept) : Type 0 where
  pub out : (plain : PlainState) → ShowsPlain old plain → IsTrue (is_started n plain.window.objects)
  pub bytes : List ℕ
  pub bytes_out : IsPutOut n bytes old.puts
  pub put : IsPut (numbered_name script_uuid n) bytes old.objects store
  pub named : receipt.name ≡ numbered_name script_uuid n
  pub number : job.name.number ≡ n
  pub job_out : IsPutOut n job.bytes old.puts

pub made_put : (n : ℕ) (old : RigState) (store : Objects) (job : JobState) (receipt : Kept)
    → ((plain : PlainState) → ShowsPlain old plain → IsTrue (is_started n plain.window.objects))
    → IsPutAs n old.puts old.objects store receipt → IsJobTaken n job old.puts → IsMadePut n old store job receipt
made_put n old store job receipt out made taken = record {
  out = out;
  bytes = made.bytes;
  bytes_out = made.out;
  put = made.put;
  named = made.named;
  number = taken.0;
  job_out = taken.1;
}

-- the receipt is for the bytes of the job
pub receipt_for_job : (n : ℕ) (puts : List PutView) (old new : Objects) (job : JobState) (receipt : Kept)
    → IsPutAs n puts old new receipt → IsJobTaken n job puts → IsReceiptFor job.bytes (told_receipt receipt)
receipt_for_job n puts old new job receipt made taken =
    let same : Some (out_put n made.bytes) ≡ Some (out_put n job.bytes) = sym made.out ∙ taken.1 in
    let puts_same : out_put n made.bytes ≡ out_put n job.bytes = cc in
    let bytes : receipt.bytes ≡ job.bytes = made.told ∙ ap (λ (p : PutView). p.bytes) puts_same in
    record { size = ap length bytes; told = bytes }

put_done : (volume : VolumeState) (job : JobState) (receipt : ReceiptState) (n : ℕ) (put : Option ℕ)
    → IsOfDonePut volume job receipt put
    → job.name.number ≡ n → volume.objects.uploads.uuid ≡ script_uuid → receipt.name ≡ numbered_name script_uuid n
    → IsOut volume.objects.uploads n job.bytes → put ≡ Some n
put_done volume job receipt n None of number uuid named out =
    let same : numbered_name script_uuid n ≡ numbered_name volume.objects.uploads.uuid job.name.number =
    ap (λ u. numbered_name u n) (sym uuid) ∙ ap (numbered_name volume.objects.uploads.uuid) (sym number) in
    absurd (of (subst (λ k. IsOut volume.objects.uploads k job.bytes) (sym number) out, named ∙ same))
put_done volume job receipt n (Some other) of number uuid named out = ap Some (of.0 ∙ number)

-- which objects are acknowledged then: the one that is done, and those that were
module _ (n : ℕ) (window : WindowState) (order : Ascends 0 window.objects window.last) where
  done_back : (number : ℕ) → (number ≡ n → ⊥) → IsAcknowledged (acknowledged n window) number → IsAcknowledged window number
  done_back number other is = record {
    was_entered = is.was_entered;
    not_open = sym (without_others number n window.objects other)
        ∙ is.not_open;
  }

  done_forth : (number : ℕ) → (number ≡ n → ⊥) → IsAcknowledged window number → IsAcknowledged (acknowledged n window) number
  done_forth number other is = record {
    was_entered = is.was_entered;
    not_open = without_others number n window.objects other
        ∙ is.not_open;
  }

  done_itself : n ≤ window.last → IsAcknowledged (acknowledged n window) n
  done_itself most = record { was_entered = most; not_open = without_own n 0 window.objects window.last order }

other_name : (number n : ℕ) → (number ≡ n → ⊥) → numbered_name script_uuid number ≡ numbered_name script_uuid n → ⊥
other_name number n other same = other (ap (λ (name : ObjName). name.number) same)

-- an object on its way was not removed: it is past the frontier
pub open_is_kept : (n : ℕ) (rig : RigState) (plain : PlainState) → ShowsPlain rig plain
    → list_any (has_number n) plain.window.objects ≡ true → has plain.removed n ≡ false
open_is_kept n rig plain h is = by_case (has plain.removed n) refl
  where
    by_case : (b : Bool) → has plain.removed n ≡ b → has plain.removed n ≡ false
    by_case false gone = gone
    by_case true gone =
        let valid = h.shows.valid in
        let given : has plain.given_out n ≡ true = ap (λ numbers. has numbers n) h.removes.gone ∙ gone in
        let before = (given_is_unneeded plain.checkpoint plain.given_out n valid.checkpoint.unneeded given).before in
        let within = open_within n 0 plain.window.objects plain.window.last valid.window.order is in
        absurd (omega (arith, before, within.0, valid.checkpoint.reached))

stored_done : (n : ℕ) (bytes : List ℕ) (plain next : PlainState) (old new : Objects) → GrowsByOne plain next
    → KeepsRemovals plain next → has plain.removed n ≡ false
    → next.window ≡ acknowledged n plain.window → Ascends 0 plain.window.objects plain.window.last → 1 < n → n ≤ plain.window.last
    → IsPut (numbered_name script_uuid n) bytes old new → IsObjectOf (expected_of_plain plain) plain n bytes
    → ((number : ℕ) (more : List ℕ) → IsObjectOf (expected_of_plain plain) plain number more
    → IsObjectOf (expected_of_plain plain) next number more)
    → HasStored plain old → HasStored next new
stored_done n bytes plain next old new grows removals kept window order past most put object keeps stored =
    let same : expected_of_plain next ≡ expected_of_plain plain = same_expected plain next grows in
    let object_next = λ (number : ℕ) (more : List ℕ) (is : IsObjectOf (expected_of_plain plain) plain number more).
    subst (λ e. IsObjectOf e next number more) (sym same) (keeps number more is) in
    record {
      there = λ number is. elim (cases_eq number n) [
        | inl itself ↦ (
          bytes,
          ap (λ k. found new (numbered_name script_uuid k)) itself ∙ put.put,
          subst (λ k. IsObjectOf (expected_of_plain next) next k bytes) (sym itself) (object_next n bytes object),
        )
        | inr other ↦
            let was = done_back n plain.window order number other (subst (λ (w : WindowState). IsAcknowledged w number)
            window is.acknowledged) in
            let had = stored.there number (record {
              some = is.some;
              acknowledged = was;
              kept = ap (λ numbers. has numbers number) (sym removals.removed) ∙ is.kept;
            }) in
            let stays = put.others (numbered_name script_uuid number) (other_name number n other) in
            (had.0, stays ∙ had.1, object_next number had.0 had.2)
      ];
      none_else = λ number not_. elim (cases_eq number n) [
        | inl itself ↦
            absurd (not_ (subst (IsKeptObject next) (sym itself) (record {
              some = omega (arith, past);
              acknowledged =
                  subst (λ (w : WindowState). IsAcknowledged w n) (sym window) (done_itself n plain.window order most);
              kept = ap (λ numbers. has numbers n) removals.removed ∙ kept;
            })))
        | inr other ↦
            put.others (numbered_name script_uuid number) (other_name number n other)
            ∙ stored.none_else number (λ is. not_ (record {
              some = is.some;
              acknowledged =
                  subst (λ (w : WindowState). IsAcknowledged w number) (sym window)
                  (done_forth n plain.window order number other is.acknowledged);
              kept = ap (λ numbers. has numbers number) removals.removed ∙ is.kept;
            }))
      ];
    }

job_done : (n : ℕ) (bytes : List ℕ) (old : RigState) (volume : SteppedVolume) (store : Objects) (job : JobState) (receipt : Kept)
    (reply : Reply Kept)
    (plain : PlainState)
    → is_started n plain.window.objects ≡ true → IsPutOut n bytes old.puts
    → IsPut (numbered_name script_uuid n) bytes old.objects store
    → CountedStep told_receipt (JobDone job receipt) reply old.volume volume → (h : ShowsPlain old plain)
    → ShowsVolume h.epoch volume.volume (plain_after (events.JobDone (Some n)) plain)
    → ShowsPlain (rig_after old volume store (without_put n old.puts)) (plain_after (events.JobDone (Some n)) plain)
job_done n bytes old volume store job receipt reply plain started is put of h now =
    let objects : List OpenObject = plain.window.objects in
    let next : PlainState = plain_after (events.JobDone (Some n)) plain in
    let order = h.shows.valid.window.order in
    let open_ = started_is_open n objects started in
    let within = open_in_rig n old plain h open_ in
    let window : next.window ≡ acknowledged n plain.window =
    ap (λ b. cond b (acknowledged n plain.window) plain.window) started in
    let are = done_under_way n 0 objects plain.window.last old.puts order open_ h.puts in
    let removals = event_keeps_removals plain (events.JobDone (Some n)) refl in
    puts_go_on old volume store (without_put n old.puts) (JobDone job receipt) reply (events.JobDone (Some n)) plain h of now
    (subst (λ (w : WindowState). AreUnderWay w.objects (without_put n old.puts)) (sym window) are)
    (all_without (IsKnownPut plain old.volume.volume) n old.puts (known_puts old plain h))
    removals
    (stored_done n bytes plain next old.objects store (event_grows plain (events.JobDone (Some n))) removals
    (open_is_kept n old plain h open_) window order
    within.0 within.1 put
    (all_at (HasBytesOfObject plain) n old.puts (out_put n bytes) is h.put_objects)
    (λ number more object. events_keep_object (expected_of_plain plain) plain number more (events.JobDone (Some n))
    h.shows.valid h.opens object)
    h.stored)
    (put_keeps_volume n bytes old.objects store plain.geometry plain.chain h.epoch put h.described)
    (put_inherits n bytes old.objects store plain put h.inherits)
    (put_leaves_none n bytes old.objects store plain.geometry (length plain.chain) put h.holds)

-- the plain volume's put is done, and the rig shows it
done_on : (n : ℕ) (old : RigState) (volume : SteppedVolume) (store : Objects) (job : JobState) (receipt : Kept)
    (reply : Reply Kept)
    (list : List PutView) (plain : PlainState)
    → IsMadePut n old store job receipt → list ≡ without_put n old.puts
    → CountedStep told_receipt (JobDone job receipt) reply old.volume volume
    → ShowsPlain old plain
    → Tells told_receipt old.volume.volume reply (plain_reply plain (events.JobDone (Some n)))
    × ShowsPlain (rig_after old volume store list) (plain_after (events.JobDone (Some n)) plain)
done_on n old volume store job receipt reply list plain made same of h =
    let started = made.out plain h in
    let room = no_room_asked old.volume.volume.log.commits.disk.budget h.pending.told in
    elim (step_of_plain h.epoch (JobDone job receipt) reply plain old.volume volume (volume_shown old plain h) room of) [
      | inl s ↦
          let (put, asks, of_put) = s.asks in
          let out = out_of_volume n job.bytes old plain h started made.job_out in
          let put_is = put_done old.volume.volume job (told_receipt receipt) n put of_put made.number h.uuid_is made.named out in
          let asked : s.asked ≡ events.JobDone (Some n) = asks ∙ ap events.JobDone put_is in
          let now = subst (λ e. ShowsVolume h.epoch volume.volume (plain_after e plain)) asked s.now in
          let done = job_done n made.bytes old volume store job receipt reply plain started made.bytes_out made.put of h now in (
            subst (λ e. Tells told_receipt old.volume.volume reply (plain_reply plain e)) asked s.tells,
            with_list old volume store list (without_put n old.puts) (plain_after (events.JobDone (Some n)) plain) same done,
          )
      | inr none ↦ (let e : false ≡ true = none.may in cc)
    ]

pub done_shows : (n : ℕ) (old : RigState) (volume : SteppedVolume) (store : Objects) (job : JobState) (receipt : Kept)
    (reply : Reply Kept)
    (list : List PutView) (plain : PlainState)
    → IsMadePut n old store job receipt → list ≡ without_put n old.puts
    → CountedStep told_receipt (JobDone job receipt) reply old.volume volume
    → ShowsPlain old plain → (now : PlainState) × ShowsPlain (rig_after old volume store list) now
done_shows n old volume store job receipt reply list plain made same of h =
    (plain_after (events.JobDone (Some n)) plain, (done_on n old volume store job receipt reply list plain made same of h).1)

pub done_answers : (n : ℕ) (old : RigState) (volume : SteppedVolume) (store : Objects) (job : JobState) (receipt : Kept)
    (reply : Reply Kept)
    (list : List PutView) (result : Result Answer AllocError)
    → IsMadePut n old store job receipt → list ≡ without_put n old.puts
    → CountedStep told_receipt (JobDone job receipt) reply old.volume volume
    → IfOk result (SaysCounts reply)
    → IfOk result (λ answer. AnswersEvent (events.JobDone (Some n)) answer old (rig_after old volume store list))
done_answers n old volume store job receipt reply list (Err error) made same of says = tt
done_answers n old volume store job receipt reply list (Ok answer) made same of says = record {
  by = λ plain h.
      let done = done_on n old volume store job receipt reply list plain made same of h in (
        says_reply old.volume.volume reply (plain_reply plain (events.JobDone (Some n))) answer done.0
            (done_counts plain (Some n)) says,
        done.1,
      );
}
