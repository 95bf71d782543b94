-- What each call of the log leaves pending.
use Rattle.std.proofs.Common.{◌≡◌, ◌≢◌, ℕ, zero, suc, ◌+◌, ◌-◌, ◌*◌, ◌%◌, ◌<◌, ◌≤◌, ◌⊎◌, ◌==◌, Bool, true, false, List, []}
use Rattle.std.proofs.Common.{◌∷◌, ◌++◌, reverse, length, refl, sym, ◌∙◌, ap, subst, inl, inr, arith, if◌then◌else◌}
use Rattle.std.proofs.Common.{length-append}
use Rattle.std.specs.Prelude.{Option, Some, None, IfSome, IfNone, slice_index, option_map}
use Rattle.std.specs.List.{AllByRecursion}
use Rattle.std.proofs.Math.Path.{subst₂}
use Rattle.lsvd_base.specs.declared.entry.Entry.{Entry}
use Rattle.lsvd_device.specs.Medium.{Medium}
use Rattle.lsvd_device.specs.Calls.{Fuse, passes, write_cost, together}
use Rattle.lsvd_device.specs.Device.{DiskState, HasSize, HoldsNow}
use Rattle.lsvd_device.specs.Memory.{IsSynced}
use Rattle.lsvd_device.specs.Sequence.{Call, Write}
use Rattle.lsvd_device.specs.Stop.{HasNow}
use Rattle.log_record.specs.Grammar.{IsRecordOf}
use Rattle.commit_body.specs.declared.body.CommitBody.{CommitBody}
use Rattle.commit_body.specs.Body.{body_bytes}
use Rattle.commit_body.proofs.BodyLemmas.{is_one_sector}
use Rattle.log_room.specs.Room.{sector_bytes, pad_before, position, record_sectors}
use Rattle.commit_slot.specs.Slots.{gate_at}
use Rattle.commit_slot.specs.Commits.{CommitsState, IsAsBefore, IsBegun, IsMade, commit_cost, finished_number}
use Rattle.commit_slot.specs.Committing.{FailsToCommit}
use Rattle.commit_slot.specs.OnDisk.{AreOnDisk}
use Rattle.commit_slot.specs.Sequence.{commit_calls}
use Rattle.cache_log.specs.Rows.{byte_of}
use Rattle.cache_log.specs.Log.{LogState, all_rows, next_seq, append_cost, append_writes}
use Rattle.cache_log.specs.Committed.{body_of}
use Rattle.plain_disk.specs.declared.cache.PendingWrite.{PendingWrite}
use Rattle.plain_disk.specs.declared.cache.PendingWrite.TheVariants.{Pad, Record, OpenedGate}
use Rattle.plain_disk.specs.Log.{PlainLog, next_seq as next_plain_seq, with_record}
use Rattle.plain_disk.specs.Cache.{PlainCache, writes_of, after_writes, passes_entry, cache_after_commit}
use Rattle.refine_log.specs.Fuses.{fuse_in, calls_to_finish}
use Rattle.refine_log.specs.Shows.{commit_of, ShowsLog}
use Rattle.refine_log.specs.Laws.{CostsCommit}
use Rattle.refine_log.proofs.Following.{records_count}
use Rattle.refine_log.proofs.Shown.{some_as}
use Rattle.refine_log.proofs.FuseLemmas.{failed_commit_has_fuse}
use Rattle.refine_log.specs.Pending.{AreBytesOf, ArePendingOn, HasGateClosed, HasGateOpened, IsBrokenOff, ShowsPending}
use Rattle.refine_log.specs.PendingLaws.{CanTake, SyncedShowsPending, StillShowsPending, EntryShowsPending, CommitShowsPending}
use Rattle.refine_log.specs.PendingLaws.{FailedCommitShowsPending}
use Rattle.refine_log.proofs.Asked.{spent_after, moments_passed, none_made, AreCovered, IsAsked, asked, pending_count}
use Rattle.refine_log.proofs.Asked.{AreWrites, newest_of}
use Rattle.refine_log.proofs.Cached.{PendsAs, writes_as, log_as, commit_as}
use Rattle.refine_log.proofs.Bodies.{now_is, last_uuid}
use Rattle.refine_log.proofs.Gates.{broken_off}

-- ---- a commit that was broken off before

-- nothing passed, and nothing more is pending
record IsStill (old new : DiskState) (before after : List PendingWrite) : Type 0 where
  fuse : fuse_in new.budget ≡ Some 0
  moments : new.moments ≡ old.moments
  pending : after ≡ before

-- what a fuse broke off it still has
still_off : (old new : CommitsState) (before after : List PendingWrite) → new.number ≡ old.number
    → (fuse_in old.disk.budget ≡ Some 0 → IsStill old.disk new.disk before after)
    → IsBrokenOff (gate_at ((old.number + 1) % 3)) old.disk before → IsBrokenOff (gate_at ((new.number + 1) % 3)) new.disk after
still_off old new before after number stays broken =
    let still = stays broken.fuse in
    let P : List Medium → List PendingWrite → Type 0 =
    λ m w. (HasGateClosed (gate_at ((old.number + 1) % 3)) m × (w ≡ []))
    ⊎ (HasGateOpened (gate_at ((old.number + 1) % 3)) m × (w ≡ OpenedGate ∷ [])) in
    let there : P new.disk.moments after = subst₂ P (sym still.moments) (sym still.pending) broken.where_ in
    let Q : ℕ → Type 0 =
    λ n. (HasGateClosed (gate_at ((n + 1) % 3)) new.disk.moments × (after ≡ []))
    ⊎ (HasGateOpened (gate_at ((n + 1) % 3)) new.disk.moments × (after ≡ OpenedGate ∷ [])) in
    record { fuse = still.fuse; where_ = subst Q (sym number) there }

-- where a commit is unfinished, it is broken off
abbrev AreBrokenOff : CommitsState → List PendingWrite → Type 0
AreBrokenOff commits pending = IfSome commits.unfinished (λ more. IsBrokenOff (gate_at ((commits.number + 1) % 3))
    commits.disk pending)

still_broken : (old new : CommitsState) (before after : List PendingWrite) → IsAsBefore old new
    → (fuse_in old.disk.budget ≡ Some 0 → IsStill old.disk new.disk before after) → AreBrokenOff old before
    → AreBrokenOff new after
still_broken old new before after same stays broken =
    let P : Option CommitBody → Type 0 = λ u. IfSome u (λ more. IsBrokenOff (gate_at ((new.number + 1) % 3)) new.disk after) in
    subst P (sym same.same_unfinished)
    (some_as (λ more. IsBrokenOff (gate_at ((old.number + 1) % 3)) old.disk before)
    (λ more. IsBrokenOff (gate_at ((new.number + 1) % 3)) new.disk after) old.unfinished
    (λ more. still_off old new before after same.same_number stays) broken)

none_broken : (commits : CommitsState) (pending : List PendingWrite) → commits.unfinished ≡ None → AreBrokenOff commits pending
none_broken commits pending none =
    let P : Option CommitBody → Type 0 = λ u. IfSome u (λ more. IsBrokenOff (gate_at ((commits.number + 1) % 3)) commits.disk
    pending) in
    subst P (sym none) tt

-- ---- no call

none_pend : (moments : List Medium) (pending : List PendingWrite) → HasNow IsSynced moments → pending ≡ []
    → ArePendingOn (reverse pending) moments
none_pend [] pending synced none = absurd synced
none_pend (now ∷ past) pending synced none = subst (λ list. ArePendingOn (reverse list) (now ∷ past)) (sym none) synced.pending

pub synced_shows_pending : SyncedShowsPending
synced_shows_pending log cache told synced finished none = record {
  told = told;
  pending = none_pend log.commits.disk.moments cache.pending synced none;
  broken = none_broken log.commits cache.pending finished;
}

pub still_shows_pending : StillShowsPending
still_shows_pending old new cache after shows commits moments told fuse same = record {
  told = told;
  pending = subst₂ (λ m w. ArePendingOn (reverse w) m) (sym moments) (sym same) shows.pending;
  broken =
      still_broken old.commits new.commits cache.pending after.pending commits
      (λ is. record { fuse = fuse is; moments = moments; pending = same }) shows.broken;
}

-- ---- calls

-- a disk and a plain cache that shows it were asked for the same calls
record AreAsked (calls : List Call) (old new : LogState) (cache after : PlainCache) : Type 0 where
  shows : ShowsPending old cache
  left : cache.left ≡ fuse_in old.commits.disk.budget
  asked : IsAsked calls old.commits.disk new.commits.disk
  pends : PendsAs calls cache after

pending_after : (calls : List Call) (old new : LogState) (cache after : PlainCache) → AreAsked calls old new cache after
    → ArePendingOn (reverse after.pending) new.commits.disk.moments
pending_after calls old new cache after is =
    let P : Fuse → Type 0 = λ f. ArePendingOn (reverse after.pending) (moments_passed f calls old.commits.disk.moments) in
    subst (ArePendingOn (reverse after.pending)) (sym is.asked.moments)
    (subst P is.left (is.pends.pends old.commits.disk.moments is.shows.pending))

-- as before, where the fuse is spent
spent_stays : (calls : List Call) (old new : LogState) (cache after : PlainCache) → AreAsked calls old new cache after
    → fuse_in old.commits.disk.budget ≡ Some 0 → IsStill old.commits.disk new.commits.disk cache.pending after.pending
spent_stays calls old new cache after is spent = record {
  fuse = is.asked.fuse ∙ spent_after (fuse_in old.commits.disk.budget) (length calls) spent;
  moments = is.asked.moments ∙ none_made (fuse_in old.commits.disk.budget) calls old.commits.disk.moments spent;
  pending = is.pends.spent (is.left ∙ spent);
}

shows_after : (calls : List Call) (old new : LogState) (cache after : PlainCache) → AreAsked calls old new cache after
    → AreBrokenOff new.commits after.pending → ShowsPending new after
shows_after calls old new cache after is broken = record {
  told = is.asked.told;
  pending = pending_after calls old new cache after is;
  broken = broken;
}

-- where the commits are as before
same_after : (calls : List Call) (old new : LogState) (cache after : PlainCache) → AreAsked calls old new cache after
    → IsAsBefore old.commits new.commits → AreBrokenOff new.commits after.pending
same_after calls old new cache after is same =
    still_broken old.commits new.commits cache.pending after.pending same (spent_stays calls old new cache after is)
    is.shows.broken

-- ---- an entry

-- the next entry has the same seq
next_seq_shown : (log : LogState) (plain : PlainLog) → ShowsLog log plain → next_plain_seq plain ≡ next_seq log
next_seq_shown log plain is =
    let counted = is.counted in
    let long = length-append log.held log.rows in
    let count : length plain.records ≡ length (all_rows log) = ap length is.records
    ∙ records_count (all_rows log) log.room.log log.commits.body.tail.position in
    let last : plain.last.tail.seq ≡ log.commits.body.tail.seq = ap (λ c. c.tail.seq) is.last in
    omega (arith, counted, long, count, last)

some_pad : (sectors : ℕ) → (sectors == 0) ≡ false → 0 < sectors
some_pad zero some = cc
some_pad (suc sectors) some = omega arith

-- the writes of an entry, by whether it needs no pad
record AreWritesOf (has_none : Bool) (seq at head sectors : ℕ) (pad bytes : List ℕ) : Type 0 where
  covered : AreCovered ((if has_none then [] else Write head pad ∷ []) ++ Write at bytes ∷ [])
      (if has_none then write_cost (sector_bytes * sectors) else together (write_cost sector_bytes)
      (write_cost (sector_bytes * sectors)))
  writes : AreWrites ((if has_none then [] else Write head pad ∷ []) ++ Write at bytes ∷ [])
      (if has_none then Record seq ∷ [] else Pad seq ∷ Record seq ∷ [])

are_writes_of : (has_none : Bool) (entry : Entry) (seq at head sectors : ℕ) (pad bytes : List ℕ) → length pad ≤ sector_bytes
    → length bytes ≡ sector_bytes * sectors → IsRecordOf entry seq bytes → (has_none ≡ false → AreBytesOf (Pad seq) pad)
    → AreWritesOf has_none seq at head sectors pad bytes
are_writes_of true entry seq at head sectors pad bytes short whole is_record is_pad = record {
  covered = record { count = refl; changes = omega arith; bytes = omega (arith, whole) };
  writes = ((entry, is_record), tt);
}
are_writes_of false entry seq at head sectors pad bytes short whole is_record is_pad = record {
  covered = record { count = refl; changes = omega arith; bytes = omega (arith, short, whole) };
  writes = (is_pad refl, ((entry, is_record), tt));
}

pub entry_shows_pending : EntryShowsPending
entry_shows_pending old new cache entry are_made shows log same can costs =
    let sectors : ℕ = record_sectors entry in
    let seq : ℕ = next_seq old in
    let needed : ℕ = pad_before old.room sectors in
    let calls : List Call = append_writes old.room sectors costs.pad costs.bytes in
    let written : PlainCache = after_writes (writes_of cache.log entry) cache in
    let of = are_writes_of (needed == 0) entry seq (byte_of (position old.room sectors)) (byte_of old.room.head) sectors
    costs.pad costs.bytes costs.pad_size costs.size costs.is_record
    (λ some. (needed - 1, costs.is_pad (some_pad needed some))) in
    let writes : AreWrites calls (writes_of cache.log entry) =
    subst₂ (λ r n. AreWrites calls (if pad_before r sectors == 0 then Record n ∷ [] else Pad n ∷ Record n ∷ []))
    (sym log.room) (sym (next_seq_shown old cache.log log)) of.writes in
    let after : PlainCache = if passes_entry cache entry then record written { log = with_record cache.log entry } else written in
    let both : AreAsked calls old new cache after =
    record {
      shows = shows;
      left = can.left;
      asked = asked (append_cost old.room sectors) calls are_made old.commits.disk new.commits.disk of.covered can.room
          costs.costs;
      pends =
          log_as calls (passes_entry cache entry) cache written (with_record cache.log entry)
          (writes_as calls (writes_of cache.log entry) cache writes);
    } in
    shows_after calls old new cache after both (same_after calls old new cache after both same)

-- ---- a commit

commit_covered : (number : ℕ) (unfinished : Option CommitBody) (body : CommitBody) → length body.uuid ≡ 16
    → AreCovered (commit_calls number unfinished body) (commit_cost unfinished)
commit_covered number None body uuid =
    let whole : length (body_bytes body (number + 1)) ≡ 512 = is_one_sector body (number + 1) uuid in
    record { count = refl; changes = omega arith; bytes = omega (arith, whole) }
commit_covered number (Some more) body uuid =
    let whole : length (body_bytes body (number + 1 + 1)) ≡ 512 = is_one_sector body (number + 1 + 1) uuid in
    record { count = refl; changes = omega arith; bytes = omega (arith, whole) }

-- the calls of a commit of a log
abbrev calls_of : LogState → List Call
calls_of log = commit_calls log.commits.number log.commits.unfinished (body_of log)

uuid_of : (log : LogState) (cache : PlainCache) → ShowsPending log cache → AreOnDisk log.commits → length (body_of log).uuid ≡ 16
uuid_of log cache shows on_disk =
    let newest = newest_of log.commits.disk.moments (length cache.pending) (pending_count log cache shows) in
    last_uuid log.commits cache.pending newest.now newest.past newest.is on_disk shows.broken

commit_asked : (seq : ℕ) (is_made : Bool) (old new : LogState) (cache : PlainCache) → ShowsPending old cache
    → ShowsLog old cache.log
    → AreOnDisk old.commits → CanTake (commit_cost old.commits.unfinished) old.commits.disk cache → CostsCommit is_made old new
    → AreAsked (calls_of old) old new cache (cache_after_commit seq cache)
commit_asked seq is_made old new cache shows log on_disk can costs =
    let uuid = uuid_of old cache shows on_disk in
    record {
      shows = shows;
      left = can.left;
      asked =
          asked (commit_cost old.commits.unfinished) (calls_of old) is_made old.commits.disk new.commits.disk
          (commit_covered old.commits.number old.commits.unfinished (body_of old) uuid) can.room costs;
      pends = commit_as old.commits.number old.commits.unfinished (body_of old) seq cache log.unfinished;
    }

-- a commit that was made, of commits as they are on a device
pub made_shows_pending : (seq : ℕ) (old new : LogState) (cache : PlainCache) → ShowsPending old cache → ShowsLog old cache.log
    → AreOnDisk old.commits → CanTake (commit_cost old.commits.unfinished) old.commits.disk cache → CostsCommit true old new
    → IsMade (body_of old) old.commits new.commits → ShowsPending new (cache_after_commit seq cache)
made_shows_pending seq old new cache shows log on_disk can costs made =
    let both = commit_asked seq true old new cache shows log on_disk can costs in
    shows_after (calls_of old) old new cache (cache_after_commit seq cache) both
    (none_broken new.commits (cache_after_commit seq cache).pending made.same_unfinished)

pub commit_shows_pending : CommitShowsPending
commit_shows_pending seq old new cache shows log on_disk can costs made =
    made_shows_pending seq old new cache shows log on_disk.commits can costs made

-- ---- a commit that failed

none_passes : (fuse : Fuse) (n : ℕ) → fuse ≡ Some 0 → passes fuse (n + 1) ≡ true → ⊥
none_passes fuse n spent passed = (let e : passes (Some 0) (n + 1) ≡ true = sym (ap (λ f. passes f (n + 1)) spent) ∙ passed in
    grind (arith, e))

-- its second half is left, where none was before
begun_off : (seq : ℕ) (old new : LogState) (cache : PlainCache)
    → AreAsked (calls_of old) old new cache (cache_after_commit seq cache)
    → AreOnDisk old.commits → cache.log.unfinished ≡ None → old.commits.unfinished ≡ None
    → passes cache.left 3 ≡ true → passes cache.left 5 ≡ false
    → IsBrokenOff (gate_at ((old.commits.number + 1) % 3)) new.commits.disk (cache_after_commit seq cache).pending
begun_off seq old new cache both on_disk none finished begun stopped =
    let commits : CommitsState = old.commits in
    let newest = newest_of commits.disk.moments (length cache.pending) (pending_count old cache both.shows) in
    let gate : ℕ = gate_at ((commits.number + 1) % 3) in
    let P : Option CommitBody → Type 0 = λ u. IfNone u (HoldsNow (λ m. slice_index m.bytes gate ≢ 1) commits.disk.moments) in
    let size : HasSize commits.disk.size newest.now =
    (subst (AllByRecursion (HasSize commits.disk.size)) newest.is on_disk.is_disk.media).0 in
    let bytes = size.bytes in
    let least = on_disk.size in
    let A : Option CommitBody → Type 0 = λ u. IsAsked (commit_calls commits.number u (body_of old)) commits.disk
    new.commits.disk in
    broken_off commits.number (body_of old) seq cache commits.disk new.commits.disk newest.now newest.past
    (record {
      moments = newest.is;
      closed = record {
        uuid = uuid_of old cache both.shows on_disk;
        least = omega (arith, bytes, least);
        closed = now_is (λ m. slice_index m.bytes gate ≢ 1) commits.disk.moments newest.now newest.past newest.is
            (subst P finished on_disk.closed);
      };
      none = none;
      left = both.left;
      begun = begun;
      stopped = stopped;
      asked = subst A finished both.asked;
    })

-- whether one was before: then nothing passed
begun_in : (unfinished : Option CommitBody) (seq : ℕ) (old new : LogState) (cache : PlainCache)
    → AreAsked (calls_of old) old new cache (cache_after_commit seq cache) → AreOnDisk old.commits
    → cache.log.unfinished ≡ option_map commit_of old.commits.unfinished → old.commits.unfinished ≡ unfinished
    → IsBegun (body_of old) old.commits new.commits
    → passes cache.left (calls_to_finish unfinished + 3) ≡ true → passes cache.left (calls_to_finish unfinished + 5) ≡ false
    → AreBrokenOff new.commits (cache_after_commit seq cache).pending
begun_in None seq old new cache both on_disk shown is begun passed stopped =
    let after : List PendingWrite = (cache_after_commit seq cache).pending in
    let off = begun_off seq old new cache both on_disk (shown ∙ ap (option_map commit_of) is) is passed stopped in
    let number : new.commits.number ≡ old.commits.number = begun.same_number ∙ ap (finished_number old.commits.number) is in
    let P : ℕ → Type 0 = λ n. IsBrokenOff (gate_at ((n + 1) % 3)) new.commits.disk after in
    let Q : Option CommitBody → Type 0 = λ u.
    IfSome u (λ more. IsBrokenOff (gate_at ((new.commits.number + 1) % 3)) new.commits.disk after) in
    subst Q (sym begun.same_unfinished) (subst P (sym number) off)
begun_in (Some more) seq old new cache both on_disk shown is begun passed stopped =
    let P : Option CommitBody → Type 0 = λ u. IfSome u (λ b. IsBrokenOff (gate_at ((old.commits.number + 1) % 3)) old.commits.disk
    cache.pending) in
    let broken : IsBrokenOff (gate_at ((old.commits.number + 1) % 3)) old.commits.disk cache.pending =
    subst P is both.shows.broken in
    absurd (none_passes cache.left 4 (both.left ∙ broken.fuse) passed)

-- the same of a commit that failed
pub failed_shows_pending : (seq : ℕ) (old new : LogState) (cache : PlainCache) → ShowsPending old cache → ShowsLog old cache.log
    → AreOnDisk old.commits → CanTake (commit_cost old.commits.unfinished) old.commits.disk cache → CostsCommit false old new
    → FailsToCommit (body_of old) old.commits new.commits → ShowsPending new (cache_after_commit seq cache)
failed_shows_pending seq old new cache shows log on_disk can costs fails =
    let after : PlainCache = cache_after_commit seq cache in
    let both = commit_asked seq false old new cache shows log on_disk can costs in
    let has = failed_commit_has_fuse old new costs fails in
    let left : has.fuse ≡ cache.left = (has.told can.room).0 ∙ sym can.left in
    shows_after (calls_of old) old new cache after both
    (elim has.lets [
      | inl before ↦ same_after (calls_of old) old new cache after both before.0
      | inr (inl finished) ↦ none_broken new.commits after.pending finished.0.same_unfinished
      | inr (inr begun) ↦
          begun_in old.commits.unfinished seq old new cache both on_disk log.unfinished refl begun.0
          (ap (λ f. passes f (calls_to_finish old.commits.unfinished + 3)) (sym left) ∙ begun.1)
          (ap (λ f. passes f (calls_to_finish old.commits.unfinished + 5)) (sym left) ∙ begun.2)
    ])

pub failed_commit_shows_pending : FailedCommitShowsPending
failed_commit_shows_pending seq old new cache shows log on_disk can costs fails =
    failed_shows_pending seq old new cache shows log on_disk.commits can costs fails
