-- What a rig answers of its plain volume, and how it shows one whose device is told to stop.
use Rattle.std.proofs.Common.{◌≡◌, ℕ, ◌+◌, true, List, [], ◌∷◌, length, refl, sym, ◌∙◌, ap, subst, inl, inr, arith}
use Rattle.std.specs.Prelude.{Option, Some, None, is_some, IsTrue}
use Rattle.std.specs.List.{AllByRecursion}
use Rattle.std.proofs.lemmas.List.{length-map}
use Rattle.lsvd_device.specs.Calls.{Fuse, Budget}
use Rattle.lsvd_device.specs.Device.{DiskState, HoldsNow}
use Rattle.lsvd_device.specs.Medium.{Medium}
use Rattle.lsvd_device.specs.Stop.{HasNow}
use Rattle.lsvd_device.specs.Fuse.{with_new_fuse}
use Rattle.object_format.specs.declared.expected.Expected.{Expected}
use Rattle.cache_log.specs.Log.{LogState}
use Rattle.plain_disk.specs.Cache.{PlainCache}
use Rattle.plain_disk.specs.State.{PlainState}
use Rattle.plain_disk.specs.Stops.{stopping_after_calls}
use Rattle.plain_disk.proofs.OpeningLemmas.{stops_keep_opening}
use Rattle.plain_disk.proofs.MarkedLemmas.{stops_seal}
use Rattle.refine_log.specs.Fuses.{fuse_in}
use Rattle.refine_log.specs.Pending.{ShowsPending}
use Rattle.refine_log.proofs.Asked.{pending_count}
use Rattle.refine_log.proofs.PendingShown.{still_shows_pending}
use Rattle.refine_store.proofs.KeepLemmas.{copied_too}
use Rattle.refine_store.specs.Puts.{IsObjectOf}
use Rattle.transcript.specs.Letters.{under_way}
use Rattle.vol_core.specs.Volume.{VolumeState, SteppedVolume, with_budget_of}
use Rattle.vol_core.specs.Shows.{Shows}
use Rattle.vol_core.specs.Step.{passing, HasBytesOf}
use Rattle.vol_core.specs.Stops.{HasOwnCommits}
use Rattle.replay_rig.specs.Rig.{RigState, rig_of, script_uuid, owner_at, expected_of_plain, HasBytesOfObject, IsKeptObject}
use Rattle.replay_rig.specs.Rig.{ShowsPlain}
use Rattle.replay_rig.proofs.Stepped.{all_puts}
use Rattle.replay_rig.proofs.WindowLemmas.{under_way_numbers}

-- how many objects are under way
pub count_under_way : (rig : RigState) (plain : PlainState) → ShowsPlain rig plain
    → length rig.puts ≡ length (under_way plain.window)
count_under_way rig plain h =
    sym (length-map rig.puts (λ put. put.number)) ∙ ap length (under_way_numbers plain.window.objects rig.puts h.puts)

-- how many writes are pending
pending_at : (n count : ℕ) (moments : List Medium) → HoldsNow (λ now. n ≡ length now.pending) moments
    → HasNow (λ now. length now.pending ≡ count) moments → n ≡ count
pending_at n count [] holds has = absurd has
pending_at n count (now ∷ past) holds has = holds ∙ has

pub count_pending : (rig : RigState) (plain : PlainState) (disk : DiskState) (n : ℕ) → ShowsPlain rig plain
    → disk ≡ rig.volume.volume.log.commits.disk
    → HoldsNow (λ now. n ≡ length now.pending) disk.moments → n ≡ length plain.cache.pending
count_pending rig plain disk n h is holds =
    pending_at n (length plain.cache.pending) rig.volume.volume.log.commits.disk.moments
    (subst (λ (d : DiskState). HoldsNow (λ now. n ≡ length now.pending) d.moments) is holds)
    (pending_count rig.volume.volume.log plain.cache h.pending)

-- as many fates as writes
fates_at : (count fates : ℕ) (moments : List Medium) → fates ≡ count → HasNow (λ now. length now.pending ≡ count) moments
    → HoldsNow (λ now. fates ≡ length now.pending) moments
fates_at count fates [] is has = absurd has
fates_at count fates (now ∷ past) is has = is ∙ sym has

pub fates_pending : (rig : RigState) (plain : PlainState) (disk : DiskState) (fates : ℕ) → ShowsPlain rig plain
    → disk ≡ rig.volume.volume.log.commits.disk
    → fates ≡ length plain.cache.pending → HoldsNow (λ now. fates ≡ length now.pending) disk.moments
fates_pending rig plain disk fates h is count =
    subst (λ (d : DiskState). HoldsNow (λ now. fates ≡ length now.pending) d.moments) (sym is)
    (fates_at (length plain.cache.pending) fates rig.volume.volume.log.commits.disk.moments count
    (pending_count rig.volume.volume.log plain.cache h.pending))

-- ---- a device that is told to stop

set_fuse : (fuse : Fuse) (old new : Option Budget) → IsTrue (is_some old) → new ≡ with_new_fuse fuse old → (fuse_in new ≡ fuse)
    × IsTrue (is_some new)
set_fuse fuse None new told is = cc
set_fuse fuse (Some budget) new told is = (ap fuse_in is, ap is_some is)

object_with_cache : (volume : Expected) (plain : PlainState) (cache : PlainCache) (number : ℕ) (bytes : List ℕ)
    → IsObjectOf volume plain number bytes
    → IsObjectOf volume (record plain { cache = cache }) number bytes
object_with_cache volume plain cache number bytes (inl is) =
    inl (record { first = is.first; rows = is.rows; is_checkpoint = is.is_checkpoint; says = is.says; places = is.places })
object_with_cache volume plain cache number bytes (inr is) =
    inr (record {
      past = is.past;
      object = is.object;
      there = is.there;
      rows = is.rows;
      holds = is.holds;
      copied = copied_too plain (record plain { cache = cache }) number bytes is.rows refl refl is.copied;
    })

kept_with_cache : (plain : PlainState) (cache : PlainCache) (number : ℕ) → IsKeptObject plain number
    → IsKeptObject (record plain { cache = cache }) number
kept_with_cache plain cache number is = record { some = is.some; acknowledged = is.acknowledged; kept = is.kept }

kept_before : (plain : PlainState) (cache : PlainCache) (number : ℕ) → IsKeptObject (record plain { cache = cache }) number
    → IsKeptObject plain number
kept_before plain cache number is = record { some = is.some; acknowledged = is.acknowledged; kept = is.kept }

pub stopping_rig : (calls : ℕ) (old : RigState) (volume : SteppedVolume) (plain : PlainState) → ShowsPlain old plain
    → plain.cache.left ≡ None
    → volume ≡ record old.volume { volume = with_budget_of volume.volume.log.commits.disk old.volume.volume }
    → (Shows old.volume.volume plain → Shows volume.volume (passing (fuse_in volume.volume.log.commits.disk.budget) plain))
    → volume.volume.log.commits.disk.budget ≡ with_new_fuse (Some calls) old.volume.volume.log.commits.disk.budget
    → ShowsPlain (rig_of volume old.objects old.puts true (old.lines + 1)) (stopping_after_calls calls plain)
stopping_rig calls old volume plain h none rest shows budget =
    let disk : DiskState = volume.volume.log.commits.disk in
    let before : VolumeState = old.volume.volume in
    let cache : PlainCache = record plain.cache { left = Some calls } in
    let is : volume.volume ≡ with_budget_of disk before = ap (λ (v : SteppedVolume). v.volume) rest in
    let set = set_fuse (Some calls) before.log.commits.disk.budget disk.budget h.pending.told budget in
    let log : LogState = (with_budget_of disk before).log in
    let unspent = λ (spent : fuse_in before.log.commits.disk.budget ≡ Some 0).
    (let e : ◌≡◌ {A = Fuse} None (Some 0) = sym none ∙ h.shows.fuse ∙ spent in let f : fuse_in disk.budget ≡ Some 0 = cc in f) in
    let commits = ap (λ (v : SteppedVolume). v.volume.log.commits.number) rest in
    let steps = ap (λ (v : SteppedVolume). v.steps) rest in
    record {
      shows = subst (λ f. Shows volume.volume (passing f plain)) set.0 (shows h.shows);
      pending = subst (λ (v : VolumeState). ShowsPending v.log cache) (sym is)
          (still_shows_pending before.log log plain.cache cache h.pending
          (record { same_number = refl; same_body = refl; same_unfinished = refl }) refl set.1 unspent refl);
      epoch = h.epoch;
      own = subst (HasOwnCommits (owner_at h.epoch)) (sym is)
          (record { last = h.own.last; unfinished = h.own.unfinished; in_range = h.own.in_range });
      described = h.described;
      inherits = h.inherits;
      begun = omega (arith, h.begun);
      uuid_is = subst (λ (v : VolumeState). v.objects.uploads.uuid ≡ script_uuid) (sym is) h.uuid_is;
      opens = stops_keep_opening plain calls h.opens;
      seals = stops_seal plain calls h.seals;
      stopping = refl;
      puts = h.puts;
      put_objects = all_puts (HasBytesOfObject plain) (HasBytesOfObject (record plain { cache = cache })) old.puts
          (λ put has. object_with_cache (expected_of_plain plain) plain cache put.number put.bytes has) h.put_objects;
      bytes = subst (λ v. AllByRecursion (λ put. HasBytesOf v put.number put.bytes) old.puts) (sym is) h.bytes;
      stored = record {
        there = λ number is.
            let had = h.stored.there number (kept_before plain cache number is) in
            (had.0, had.1, object_with_cache (expected_of_plain plain) plain cache number had.0 had.2);
        none_else = λ number not_. h.stored.none_else number (λ is. not_ (kept_with_cache plain cache number is));
      };
      unheld = h.unheld;
      holds = h.holds;
      removes = record { none_out = h.removes.none_out; gone = h.removes.gone };
      young = record {
        entries = omega (arith, h.young.entries);
        objects = omega (arith, h.young.objects);
        commits = omega (arith, h.young.commits, commits);
        steps = omega (arith, h.young.steps, steps);
      };
    }
