-- A mount of the plain volume, with its cache or without it, gives a plain volume.
use Rattle.std.proofs.Common.{arith, ℕ, ◌+◌, ◌-◌, ◌^◌, ◌<◌, ◌≤◌, ◌≡◌, Bool, true, not, ◌&&◌, None, List, length, take, drop, max}
use Rattle.std.proofs.Common.{false, eqb, [], ◌∷◌, cond, length-drop, refl, sym, ◌∙◌, ap, subst₂}
use Rattle.std.proofs.lemmas.List.{length-take, take-take}
use Rattle.std.proofs.lemmas.List.Elements.{All-nil, All-take, All-filter, All-weaker}
use Rattle.std.proofs.lemmas.List.Sums.{sum_by-take-le}
use Rattle.std.specs.Prelude.{IsTrue}
use Rattle.std.specs.List.{All}
use Rattle.lsvd_base.specs.declared.entry.Entry.{Entry}
use Rattle.lsvd_base.specs.Limits.{is_within_limits}
use Rattle.lsvd_base.specs.Range.{is_in_range}
use Rattle.object_stream.specs.Landed.{Numbers}
use Rattle.object_stream.specs.Stream.{end_after, end_at, last_number}
use Rattle.object_stream.proofs.StreamLemmas.{follow_first}
use Rattle.plain_disk.specs.declared.log.PlainCommit.{PlainCommit}
use Rattle.plain_disk.specs.declared.log.PlainRecord.{PlainRecord}
use Rattle.plain_disk.specs.Log.{PlainLog, commit_from, records_from, mounted_log, empty_from}
use Rattle.plain_disk.specs.Cache.{PlainCache, cache_with, kept_commit}
use Rattle.plain_disk.specs.State.{PlainState, PlainCheckpoint, stream_in, history_length, frontier_of, frontier_end}
use Rattle.plain_disk.specs.Checkpoints.{landed_checkpoint}
use Rattle.plain_disk.specs.Removals.{has, absent_of}
use Rattle.plain_disk.specs.Stops.{recovered_number, recovered_end, kept_count, cut_to_count, mounted_from, mounted_kept}
use Rattle.plain_disk.specs.Stops.{mounted_lost, mounted_on}
use Rattle.plain_disk.specs.Valid.{IsUnneeded, IsPlainCheckpoint, IsCommitWithin, IsLaterCommit, IsPlainLog, IsPlainVolume}
use Rattle.plain_disk.specs.Valid.{IsKeptByHold, MayLand, MountsKeepPlainVolume, MountsCommitEntries}
use Rattle.plain_disk.proofs.EndLemmas.{ends_from}
use Rattle.plain_disk.proofs.EventLemmas.{log_has_sectors}
use Rattle.plain_disk.proofs.CommitLemmas.{past_count, past_used, left_used}
use Rattle.plain_disk.proofs.FoldLemmas.{owners_of_cut}
use Rattle.plain_disk.proofs.CheckpointLemmas.{same_checkpoint, landed_is, none_of_both}
use Rattle.plain_disk.proofs.StopLemmas.{kept_is_later, recovers_frontier, recovers_base, recovers_sealed, recovers_end}
use Rattle.plain_disk.proofs.StopLemmas.{recovers_within}

-- ---- the log

-- of a log that a commit of it gives, the records from a seq on are left
mounted_log_is : (end seq count : ℕ) (log : PlainLog) (found : PlainCommit) → end ≤ seq → IsPlainLog end count log
    → IsCommitWithin log.size end count found → log.last.tail.seq ≤ found.tail.seq
    → IsPlainLog seq (max seq found.head.seq) (mounted_log found seq log)
mounted_log_is end seq count log found from h within after_last =
    let size : PlainRecord → ℕ = λ r. r.pad + r.sectors in
    let older = found.tail.seq - log.last.tail.seq in
    let kept = found.head.seq - found.tail.seq in
    let held : List PlainRecord = take kept (records_from log found.tail.seq) in
    let made : PlainCommit = commit_from seq (record log {
      head = found.head.position;
      last = found;
      records =
          held;
      unfinished = None;
    }) in
    let rest : List PlainRecord = drop (seq - found.tail.seq) held in
    let all = length-drop older log.records in
    let held_long = length-take kept (records_from log found.tail.seq) in
    let rest_long = length-drop (seq - found.tail.seq) held in
    let same = past_count made.tail.position rest in
    let order = within.order in
    let tail = within.tail in
    let head = within.head in
    let counted = h.counted in
    let count_held : length held ≡ kept = omega arith in
    let next : found.tail.seq + length held ≡ found.head.seq = omega arith in
    record {
      counted = omega (arith, same, rest_long, count_held);
      room = record {
        limit = h.room.limit;
        head = within.place;
        used = omega (
          arith,
          past_used made.tail.position rest,
          left_used (seq - found.tail.seq) held,
          sum_by-take-le size
              (records_from log found.tail.seq) kept,
          left_used older log.records,
          h.room.used,
        );
      };
      last = record { order = omega arith; tail = omega arith; head = omega (arith, next); place = within.place };
      unfinished = tt;
    }

-- ---- the volume

-- with its objects up to a number, and the entries up to a count that is within them and not before that object's end
pub cut_is : (state : PlainState) (number count : ℕ) (checkpoint : PlainCheckpoint) (gone : List ℕ) (cache : PlainCache)
    → IsPlainVolume state → state.number ≤ number → number ≤ last_number (stream_in state)
    → end_at (stream_in state) number ≤ count → count ≤ history_length state
    → IsPlainCheckpoint (stream_in state) number gone checkpoint
    → All (IsKeptByHold number gone) state.held
    → cache.log.size ≡ state.geometry.log → IsPlainLog (end_at (stream_in state) number) count cache.log
    → IsPlainVolume (record (cut_to_count number count state) {
      checkpoint = checkpoint;
      removed = gone;
      given_out = gone;
      cache = cache;
    })
cut_is state number count checkpoint gone cache h from sealed ends within newest held size log =
    let n = number - state.number in
    let objects = take n state.objects in
    let P : Entry → Type 0 = λ e. is_in_range state.geometry e ≡ true in
    let long = length-take n state.objects in
    let last : state.number + length objects ≡ number = omega arith in
    let first = ends_from state number h in
    let entries_long = length-take (count - state.end) state.entries in
    let counted : state.end + length (take (count - state.end) state.entries) ≡ count = omega arith in
    let end : end_after state.end (take n objects) ≡ end_at (stream_in state) number =
    ap (end_after state.end) (take-take n n state.objects (omega arith)) in
    let last_end : end_after state.end (take (state.number + length objects - state.number) objects)
    ≡ end_at (stream_in state) number =
    ap (λ k. end_after state.end (take (k - state.number) objects)) last ∙ end in
    record {
      limits = h.limits;
      sectors = h.sectors;
      owned = h.owned;
      payloads = h.payloads;
      in_range = All-take P (count - state.end) state.entries h.in_range;
      stream = record { ends = follow_first state.end n state.objects h.stream.ends; within = omega (arith, last_end, counted) };
      window = record { order = omega arith; starts = All-nil (λ object. IsTrue object.is_started → IsTrue object.was_started) };
      last = sym last;
      opened = from;
      begun = All-nil (λ object. IsTrue (object.was_started && object.is_checkpoint) → object.number ≤ number + 1);
      checkpoint = same_checkpoint (stream_in state) (take (count - state.end) state.entries) objects number number gone
          checkpoint newest (omega arith) (owners_of_cut state number count checkpoint.number h sealed newest.reached ends);
      held = held;
      log = subst₂ (λ e c. IsPlainLog e c cache.log) (sym end) (sym counted) log;
      size = size;
    }

-- the newest checkpoint that has landed is acknowledged then, and needs nothing that is gone
pub newest_is_found : (state : PlainState) (landed : Numbers) → IsPlainVolume state
    → IsPlainCheckpoint (stream_in state) (recovered_number landed state) (absent_of landed state.given_out)
    (landed_checkpoint landed state)
newest_is_found state landed h =
    let is = landed_is state landed h in
    record {
      numbered = is.numbered;
      reached = recovers_base state landed;
      holds = is.holds;
      still = is.still;
      unneeded = All-filter (λ number. not (landed number)) (IsUnneeded (landed_checkpoint landed state)) state.given_out
          is.unneeded;
    }

-- of what was not given out none is gone
not_gone : (landed : Numbers) (given_out : List ℕ) (number : ℕ) → has given_out number ≡ false
    → has (absent_of landed given_out) number ≡ false
not_gone landed [] number none = refl
not_gone landed (first ∷ rest) number none =
    let parts = none_of_both (eqb first number) (has rest number) none in
    elim (not (landed first)) as (λ b. has (cond b (first ∷ absent_of landed rest) (absent_of landed rest)) number ≡ false) [
      | true ↦ rw (parts.0) (not_gone landed rest number parts.1)
      | false ↦ not_gone landed rest number parts.1
    ]

-- what holds keep is there then
pub held_is_found : (state : PlainState) (landed : Numbers) → IsPlainVolume state → MayLand state landed
    → All (IsKeptByHold (recovered_number landed state) (absent_of landed state.given_out)) state.held
held_is_found state landed h may =
    let from = recovers_frontier state landed h may in
    All-weaker (IsKeptByHold (frontier_of state) state.given_out)
    (IsKeptByHold (recovered_number landed state) (absent_of landed state.given_out))
    (λ number kept. record {
      acknowledged = omega (arith, from, kept.acknowledged);
      kept = not_gone landed state.given_out number kept.kept;
    }) state.held h.held

-- whichever commit is found whose tail is not before the last one's
pub from_is : (state : PlainState) (landed : Numbers) (found : PlainCommit) → IsPlainVolume state → MayLand state landed
    → IsCommitWithin state.cache.log.size (frontier_end state) (history_length state) found
    → state.cache.log.last.tail.seq ≤ found.tail.seq
    → IsPlainVolume (mounted_from landed found state)
from_is state landed found h may place tail =
    let within = recovers_within state landed h in
    let head = place.head in
    let frontier = recovers_frontier state landed h may in
    cut_is state (recovered_number landed state) (kept_count landed found state) (landed_checkpoint landed state)
    (absent_of landed state.given_out)
    (cache_with (mounted_log found (recovered_end landed state) state.cache.log)) h (omega (arith, frontier, h.opened))
    (recovers_sealed state landed h)
    (omega arith) (omega arith) (newest_is_found state landed h) (held_is_found state landed h may) h.size
    (mounted_log_is (frontier_end state) (recovered_end landed state) (history_length state) state.cache.log found
    (recovers_end state landed h may) h.log place tail)

pub kept_is : (state : PlainState) (landed : Numbers) (kept : List Bool) → IsPlainVolume state → MayLand state landed
    → IsPlainVolume (mounted_kept landed kept state)
kept_is state landed kept h may =
    let later = kept_is_later (frontier_end state) (history_length state) kept state.cache h.log in
    from_is state landed (kept_commit kept state.cache) h may later.within later.tail

-- a log with nothing in it, of the length of a volume's, is one
empty_is : (size end : ℕ) → 0 < size → size ≤ 2 ^ 31 → IsPlainLog end end (empty_from size end)
empty_is size end some limit = record {
  counted = omega arith;
  room = record { limit = limit; head = some; used = omega arith };
  last = record { order = omega arith; tail = omega arith; head = omega arith; place = some };
  unfinished = tt;
}

pub lost_is : (state : PlainState) (landed : Numbers) → IsPlainVolume state → MayLand state landed
    → IsPlainVolume (mounted_lost landed state)
lost_is state landed h may =
    let end = recovered_end landed state in
    let size = state.cache.log.size in
    let frontier = recovers_frontier state landed h may in
    let some : 0 < size = omega (arith, h.log.room.head) in
    cut_is state (recovered_number landed state) end (landed_checkpoint landed state) (absent_of landed state.given_out)
    (cache_with (empty_from size end)) h (omega (arith, frontier, h.opened))
    (recovers_sealed state landed h)
    (omega arith) (recovers_within state landed h) (newest_is_found state landed h) (held_is_found state landed h may) h.size
    (empty_is size end some h.log.room.limit)

pub mounts_keep : MountsKeepPlainVolume
mounts_keep state landed kept h may = (kept_is state landed kept h may, lost_is state landed h may)

-- ---- what is committed then

-- the entries of the volume that was cut off
pub cut_count : (state : PlainState) (number count : ℕ) → IsPlainVolume state → end_at (stream_in state) number ≤ count
    → count ≤ history_length state
    → state.end + length (take (count - state.end) state.entries) ≡ count
cut_count state number count h ends within =
    let first = ends_from state number h in
    let long = length-take (count - state.end) state.entries in omega arith

-- the commit of a mount is of the entries up to the head that was found
mounted_head : (end seq count : ℕ) (log : PlainLog) (found : PlainCommit) → IsPlainLog end count log
    → IsLaterCommit log.size end count log.last found → (mounted_log found seq log).last.head.seq ≡ max seq found.head.seq
mounted_head end seq count log found h later =
    let older = found.tail.seq - log.last.tail.seq in
    let all = length-drop older log.records in
    let held_long = length-take (found.head.seq - found.tail.seq) (records_from log found.tail.seq) in
    let order = later.within.order in
    let head = later.within.head in
    let after_last = later.tail in
    let counted = h.counted in
    omega arith

-- and its last object's end
pub cut_end : (state : PlainState) (number count : ℕ) → end_at (stream_in (cut_to_count number count state)) number
    ≡ end_at (stream_in state) number
cut_end state number count =
    let n = number - state.number in
    ap (end_after state.end) (take-take n n state.objects (omega arith))

-- a new device may have another length
pub on_is : (state : PlainState) (landed : Numbers) (log : ℕ) → IsPlainVolume state → MayLand state landed
    → IsTrue (is_within_limits (record state.geometry { log = log })) → IsPlainVolume (mounted_on log landed state)
on_is state landed log h may limits =
    let number = recovered_number landed state in
    let end = recovered_end landed state in
    let size = log_has_sectors (record state.geometry { log = log }) limits in
    let was = lost_is state landed h may in
    let within = recovers_within state landed h in
    let counted = cut_count state number end h (omega arith) within in
    record {
      limits = limits;
      sectors = was.sectors;
      owned = was.owned;
      payloads = was.payloads;
      in_range = was.in_range;
      stream = was.stream;
      window = was.window;
      last = was.last;
      opened = was.opened;
      begun = was.begun;
      checkpoint = was.checkpoint;
      held = was.held;
      log = subst₂ (λ e c. IsPlainLog e c (empty_from log end)) (sym (cut_end state number end)) (sym counted)
          (empty_is log end size.0 size.1);
      size = refl;
    }

pub mounts_commit : MountsCommitEntries
mounts_commit state landed kept h may =
    let found : PlainCommit = kept_commit kept state.cache in
    let later = kept_is_later (frontier_end state) (history_length state) kept state.cache h.log in
    let number = recovered_number landed state in
    let end = recovered_end landed state in
    let within = recovers_within state landed h in
    let head = later.within.head in (
      mounted_head (frontier_end state) end (history_length state) state.cache.log found h.log later
          ∙ sym (cut_count state number (kept_count landed found state) h (omega arith) (omega arith)),
      sym (cut_count state number end h (omega arith) within),
    )
