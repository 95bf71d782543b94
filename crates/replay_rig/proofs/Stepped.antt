-- A step of a volume with room for its calls is one of the plain volume that it shows.
use Rattle.std.proofs.Common.{◌≡◌, ℕ, ◌+◌, ◌<◌, ◌≤◌, ◌⊎◌, Bool, true, false, List, [], ◌∷◌, nat_eq, refl, sym, ◌∙◌, ap, subst}
use Rattle.std.proofs.Common.{inl, inr, arith}
use Rattle.std.specs.List.{AllByRecursion, list_any}
use Rattle.std.proofs.Math.Bool.{or-true}
use Rattle.std.proofs.lemmas.Bool.{eq-eqb}
use Rattle.lsvd_device.specs.Memory.{HasRoom}
use Rattle.lsvd_objstore.specs.Memory.{Kept, told_receipt}
use Rattle.lsvd_objstore.specs.Objects.{Objects}
use Rattle.upload_window.specs.declared.object.OpenObject.{OpenObject}
use Rattle.upload_window.specs.Window.{WindowState, IsAcknowledged, has_number}
use Rattle.plain_disk.specs.declared.event.PlainEvent.{PlainEvent}
use Rattle.plain_disk.specs.State.{PlainState}
use Rattle.plain_disk.specs.Removals.{has}
use Rattle.plain_disk.specs.Step.{plain_reply, plain_after}
use Rattle.plain_disk.proofs.OpeningLemmas.{events_keep_opening}
use Rattle.plain_disk.proofs.MarkedLemmas.{events_seal}
use Rattle.refine_log.specs.Pending.{ShowsPending}
use Rattle.refine_store.specs.Puts.{IsObjectOf}
use Rattle.refine_store.proofs.KeepLemmas.{events_keep_object}
use Rattle.refine_mount.specs.Found.{HasHolds}
use Rattle.vol_core.specs.declared.event.Event.{Event}
use Rattle.vol_core.specs.declared.reply.Reply.{Reply}
use Rattle.vol_core.specs.Volume.{VolumeState, SteppedVolume}
use Rattle.vol_core.specs.Shows.{Shows}
use Rattle.vol_core.specs.Events.{Asks, Tells}
use Rattle.vol_core.specs.Step.{most_of_step, may_lack_memory, lacks_memory, passing, IsOnItsWay, CountedStep}
use Rattle.vol_core.specs.Step.{HasBytesOf, KeepsBytes}
use Rattle.vol_core.specs.Stops.{HasOwnCommits}
use Rattle.replay_rig.specs.Puts.{PutView}
use Rattle.replay_rig.specs.Rig.{RigState, rig_of, script_uuid, owner_at, expected_of_plain, AreUnderWay, IsFirstUnderWay}
use Rattle.replay_rig.specs.Rig.{HasBytesOfObject, HasStored, IsYoung, ShowsPlain}
use Rattle.replay_rig.proofs.PlainLemmas.{GrowsByOne, KeepsRemovals, event_grows, still_at_once, same_expected, described_still}

-- ---- one step

-- what a volume alone shows of a plain volume, in an epoch
pub record ShowsVolume (epoch : ℕ) (volume : VolumeState) (plain : PlainState) : Type 0 where
  pub shows : Shows volume plain
  pub pending : ShowsPending volume.log plain.cache
  pub own : HasOwnCommits (owner_at epoch) volume
  pub uuid_is : volume.objects.uploads.uuid ≡ script_uuid

pub volume_shown : (rig : RigState) (plain : PlainState) → (h : ShowsPlain rig plain)
    → ShowsVolume h.epoch rig.volume.volume plain
volume_shown rig plain h = record { shows = h.shows; pending = h.pending; own = h.own; uuid_is = h.uuid_is }

-- the step is one of the plain volume
pub record StepsPlain (epoch : ℕ) (event : Event Kept) (reply : Reply Kept) (plain : PlainState) (old new : VolumeState) :
    Type 0 where
  pub asked : PlainEvent
  pub asks : Asks told_receipt old event asked
  pub tells : Tells told_receipt old reply (plain_reply plain asked)
  pub now : ShowsVolume epoch new (plain_after asked plain)

-- memory ran out, and the volume shows what it showed
pub record StepsNot (epoch : ℕ) (event : Event Kept) (reply : Reply Kept) (plain : PlainState) (new : VolumeState) : Type 0 where
  pub may : may_lack_memory event ≡ true
  pub lacks : lacks_memory reply ≡ true
  pub now : ShowsVolume epoch new plain

-- there is room on a device for what an event may ask for
abbrev pub HasRoomForEvent : Event Kept → VolumeState → Type 0
HasRoomForEvent event volume = HasRoom (most_of_step event).changes (most_of_step event).bytes volume.log.commits.disk.budget

pub step_of_plain : (epoch : ℕ) (event : Event Kept) (reply : Reply Kept) (plain : PlainState) (old new : SteppedVolume)
    → ShowsVolume epoch old.volume plain
    → HasRoomForEvent event old.volume → CountedStep told_receipt event reply old new
    → StepsPlain epoch event reply plain old.volume new.volume ⊎ StepsNot epoch event reply plain new.volume
step_of_plain epoch event reply plain old new h room of =
    let own = (of.step.stops (owner_at epoch) h.own).own in
    let uuid = of.step.sizes.uuid ∙ h.uuid_is in
    elim (of.step.step plain h.shows) [
      | inl s ↦
          let told = s.told room in
          let same : passing s.left plain ≡ plain = ap (λ f. passing f plain) (told.0 ∙ sym h.shows.fuse) in
          let after : PlainState = plain_after s.asked (passing s.left plain) in
          let shown : Shows new.volume after =
          subst (λ p. Shows new.volume p) (ap (λ f. passing f after) (sym told.1)) s.shows in
          inl (record {
            asked = s.asked;
            asks = s.asks;
            tells = subst (λ p. Tells told_receipt old.volume reply (plain_reply p s.asked)) same s.tells;
            now = record {
              shows = subst (λ p. Shows new.volume (plain_after s.asked p)) same shown;
              pending = subst (λ p. ShowsPending new.volume.log (plain_after s.asked p).cache) same (s.pending room h.pending);
              own = own;
              uuid_is = uuid;
            };
          })
      | inr n ↦ inr (record {
        may = n.may;
        lacks = n.lacks;
        now = record {
          shows = n.shows;
          pending = n.pending h.pending;
          own = own;
          uuid_is = uuid;
        };
      })
    ]

-- ---- the rig

-- each put of a list has P, which Q follows from
pub all_puts : (P Q : PutView → Type 0) (puts : List PutView) → ((put : PutView) → P put → Q put) → AllByRecursion P puts
    → AllByRecursion Q puts
all_puts P Q [] follows all = tt
all_puts P Q (put ∷ puts) follows all = (follows put all.0, all_puts P Q puts follows all.1)

-- each object under way is on its way
first_open : (object : OpenObject) (objects : List OpenObject) (n : ℕ) → object.number ≡ n
    → list_any (has_number n) (object ∷ objects) ≡ true
first_open object objects n is = (let here : nat_eq object.number n ≡ true = eq-eqb object.number n is in rw here refl)

later_open : (object : OpenObject) (objects : List OpenObject) (n : ℕ) → list_any (has_number n) objects ≡ true
    → list_any (has_number n) (object ∷ objects) ≡ true
later_open object objects n open_ = rw open_ (or-true (has_number n object))

all_later : (object : OpenObject) (objects : List OpenObject) (puts : List PutView)
    → AllByRecursion (λ put. list_any (has_number put.number) objects ≡ true) puts
    → AllByRecursion (λ put. list_any (has_number put.number) (object ∷ objects) ≡ true) puts
all_later object objects puts all =
    all_puts (λ put. list_any (has_number put.number) objects ≡ true) (λ put. list_any (has_number put.number) (object ∷ objects)
    ≡ true) puts
    (λ put is. later_open object objects put.number is) all

puts_open_by : (object : OpenObject) (objects : List OpenObject) (puts : List PutView) (b : Bool)
    → ((more : List PutView) → AreUnderWay objects more
    → AllByRecursion (λ put. list_any (has_number put.number) objects ≡ true) more)
    → IsFirstUnderWay b object puts (AreUnderWay objects)
    → AllByRecursion (λ put. list_any (has_number put.number) (object ∷ objects) ≡ true) puts
puts_open_by object objects [] true more are = absurd are
puts_open_by object objects (put ∷ puts) true more are =
    (first_open object objects put.number (sym are.0), all_later object objects puts (more puts are.2))
puts_open_by object objects puts false more are = all_later object objects puts (more puts are)

pub puts_open : (objects : List OpenObject) (puts : List PutView) → AreUnderWay objects puts
    → AllByRecursion (λ put. list_any (has_number put.number) objects ≡ true) puts
puts_open [] puts are = subst (AllByRecursion (λ put. list_any (has_number put.number) [] ≡ true)) (sym are) tt
puts_open (object ∷ objects) puts are = puts_open_by object objects puts object.was_started (puts_open objects) are

-- objects under way that are on their way before and after a step keep their bytes
pub bytes_kept : (old new : VolumeState) (puts : List PutView) → KeepsBytes old new
    → AllByRecursion (λ put. IsOnItsWay old put.number) puts → AllByRecursion (λ put. IsOnItsWay new put.number) puts
    → AllByRecursion (λ put. HasBytesOf old put.number put.bytes) puts
    → AllByRecursion (λ put. HasBytesOf new put.number put.bytes) puts
bytes_kept old new [] keeps before after all = tt
bytes_kept old new (put ∷ puts) keeps before after all =
    (keeps put.number put.bytes before.0 all.0 after.0, bytes_kept old new puts keeps before.1 after.1 all.1)

-- the window of a volume is that of the plain volume that it shows
pub on_its_way : (volume : VolumeState) (plain : PlainState) (puts : List PutView) → Shows volume plain
    → AreUnderWay plain.window.objects puts → AllByRecursion (λ put. IsOnItsWay volume put.number) puts
on_its_way volume plain puts shows are =
    subst (λ (w : WindowState). AllByRecursion (λ put. list_any (has_number put.number) w.objects ≡ true) puts)
    (sym shows.objects.window)
    (puts_open plain.window.objects puts are)

-- what the store has goes on, where no object was acknowledged
pub stored_still : (old new : PlainState) (objects : Objects) → GrowsByOne old new → KeepsRemovals old new
    → ((number : ℕ) (bytes : List ℕ) → IsObjectOf (expected_of_plain old) old number bytes
    → IsObjectOf (expected_of_plain old) new number bytes)
    → ((number : ℕ) → 0 < number → IsAcknowledged new.window number → IsAcknowledged old.window number)
    → ((number : ℕ) → 0 < number → IsAcknowledged old.window number → IsAcknowledged new.window number)
    → HasStored old objects → HasStored new objects
stored_still old new objects grows removals keeps back forth stored =
    let same : expected_of_plain new ≡ expected_of_plain old = same_expected old new grows in
    record {
      there = λ number is.
          let had = stored.there number (record {
            some = is.some;
            acknowledged = back number is.some is.acknowledged;
            kept = ap (λ numbers. has numbers number) (sym removals.removed) ∙ is.kept;
          }) in
          (had.0, had.1, subst (λ e. IsObjectOf e new number had.0) (sym same) (keeps number had.0 had.2));
      none_else = λ number not_. stored.none_else number (λ is. not_ (record {
        some = is.some;
        acknowledged = forth number is.some is.acknowledged;
        kept = ap (λ numbers. has numbers number) removals.removed ∙ is.kept;
      }));
    }

-- the objects under way keep the bytes of the plain volume's objects
pub put_objects_still : (old new : PlainState) (puts : List PutView) → GrowsByOne old new
    → ((number : ℕ) (bytes : List ℕ) → IsObjectOf (expected_of_plain old) old number bytes
    → IsObjectOf (expected_of_plain old) new number bytes)
    → AllByRecursion (HasBytesOfObject old) puts → AllByRecursion (HasBytesOfObject new) puts
put_objects_still old new puts grows keeps all =
    let same : expected_of_plain new ≡ expected_of_plain old = same_expected old new grows in
    all_puts (HasBytesOfObject old) (HasBytesOfObject new) puts
    (λ put has. subst (λ e. IsObjectOf e new put.number put.bytes) (sym same) (keeps put.number put.bytes has)) all

-- a volume that has grown by one is young still, one line later
pub young_still : (old : RigState) (volume : SteppedVolume) (objects : Objects) (puts : List PutView) (is_stopping : Bool)
    (plain next : PlainState)
    → GrowsByOne plain next → volume.steps ≤ old.volume.steps + 2
    → volume.volume.log.commits.number ≤ old.volume.volume.log.commits.number + 4
    → IsYoung old plain → IsYoung (rig_of volume objects puts is_stopping (old.lines + 1)) next
young_still old volume objects puts is_stopping plain next grows steps commits young = record {
  entries = omega (arith, young.entries, grows.entries, grows.end);
  objects = omega (arith, young.objects, grows.last);
  commits = omega (arith, young.commits, commits);
  steps = omega (arith, young.steps, steps);
}

-- which windows a step may leave that begins, fails and ends no put
pub record KeepsUnderWay (old new : WindowState) : Type 0 where
  pub under_way : (puts : List PutView) → AreUnderWay old.objects puts → AreUnderWay new.objects puts
  pub back : (number : ℕ) → 0 < number → IsAcknowledged new number → IsAcknowledged old number
  pub forth : (number : ℕ) → 0 < number → IsAcknowledged old number → IsAcknowledged new number

pub same_under_way : (window : WindowState) → KeepsUnderWay window window
same_under_way window = record { under_way = λ puts are. are; back = λ number positive is. is; forth = λ number positive is. is }

-- The rig shows the plain volume after an event that leaves the puts alone.
pub goes_on_with : (old : RigState) (volume : SteppedVolume) (lines : ℕ) (event : Event Kept) (reply : Reply Kept)
    (asked : PlainEvent) (plain : PlainState)
    → (h : ShowsPlain old plain) → CountedStep told_receipt event reply old.volume volume
    → ShowsVolume h.epoch volume.volume (plain_after asked plain)
    → KeepsUnderWay plain.window (plain_after asked plain).window → KeepsRemovals plain (plain_after asked plain)
    → old.lines ≤ lines
    → IsYoung (rig_of volume old.objects old.puts old.is_stopping lines) (plain_after asked plain)
    → ShowsPlain (rig_of volume old.objects old.puts old.is_stopping lines) (plain_after asked plain)
goes_on_with old volume lines event reply asked plain h of now keeps removals later young =
    let next : PlainState = plain_after asked plain in
    let grows = event_grows plain asked in
    let under_way = keeps.under_way old.puts h.puts in
    let object_stays = λ (number : ℕ) (bytes : List ℕ) (is : IsObjectOf (expected_of_plain plain) plain number bytes).
    events_keep_object (expected_of_plain plain) plain number bytes asked h.shows.valid h.opens is in
    record {
      shows = now.shows;
      pending = now.pending;
      epoch = h.epoch;
      own = now.own;
      described = described_still plain next h.epoch old.objects grows h.described;
      inherits = grows.inherits old.objects h.inherits;
      begun = omega (arith, h.begun, later);
      uuid_is = now.uuid_is;
      opens = events_keep_opening plain asked h.opens;
      seals = events_seal plain asked h.shows.valid h.seals;
      stopping = h.stopping ∙ sym grows.told;
      puts = under_way;
      put_objects = put_objects_still plain next old.puts grows object_stays h.put_objects;
      bytes = bytes_kept old.volume.volume volume.volume old.puts of.step.bytes
          (on_its_way old.volume.volume plain old.puts h.shows h.puts)
          (on_its_way volume.volume next old.puts now.shows under_way) h.bytes;
      stored = stored_still plain next old.objects grows removals object_stays keeps.back keeps.forth h.stored;
      unheld = grows.held ∙ h.unheld;
      holds = subst (λ volume. HasHolds volume [] old.objects) (sym (same_expected plain next grows)) h.holds;
      removes = still_at_once plain next removals h.removes;
      young = young;
    }

-- one line later
pub goes_on : (old : RigState) (volume : SteppedVolume) (event : Event Kept) (reply : Reply Kept) (asked : PlainEvent)
    (plain : PlainState)
    → (h : ShowsPlain old plain) → CountedStep told_receipt event reply old.volume volume
    → ShowsVolume h.epoch volume.volume (plain_after asked plain)
    → KeepsUnderWay plain.window (plain_after asked plain).window → KeepsRemovals plain (plain_after asked plain)
    → ShowsPlain (rig_of volume old.objects old.puts old.is_stopping (old.lines + 1)) (plain_after asked plain)
goes_on old volume event reply asked plain h of now keeps removals =
    goes_on_with old volume (old.lines + 1) event reply asked plain h of now keeps removals (omega arith)
    (young_still old volume old.objects old.puts old.is_stopping plain (plain_after asked plain)
    (event_grows plain asked) (omega (arith, of.count))
    (omega (arith, of.step.numbers.commits)) h.young)
