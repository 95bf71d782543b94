-- A volume at rest goes on with the entries of a log that is found as a plain volume, which is what a mount is to make of it.
use Rattle.std.proofs.Common.{◌≡◌, ℕ, zero, suc, ◌+◌, ◌-◌, ◌≤◌, ◌==◌, Bool, true, false, if◌then◌else◌, max, List, [], ◌∷◌, ◌++◌}
use Rattle.std.proofs.Common.{length, take, drop, refl, sym, ◌∙◌, ap, subst, arith, length-append, length-drop}
use Rattle.std.specs.Prelude.{None}
use Rattle.std.specs.List.{All}
use Rattle.std.proofs.Math.Path.{subst₂}
use Rattle.std.proofs.lemmas.Bool.{eq-eqb}
use Rattle.std.proofs.lemmas.List.{take-take, take-append-drop}
use Rattle.std.proofs.lemmas.List.Elements.{All-append}
use Rattle.lsvd_base.specs.Range.{is_in_range}
use Rattle.log_room.specs.Room.{max_log}
use Rattle.commit_body.specs.declared.body.CommitBody.{CommitBody}
use Rattle.commit_body.specs.Body.{MayStand}
use Rattle.cache_log.specs.declared.row.Row.{Row}
use Rattle.cache_log.specs.Rows.{Follow}
use Rattle.cache_log.specs.Opening.{sectors_between}
use Rattle.cache_log.proofs.RowLemmas.{between_most}
use Rattle.object_stream.specs.Stream.{objects_to, last_number}
use Rattle.object_stream.proofs.StreamLemmas.{follow_first}
use Rattle.stopped_volume.specs.Device.{CacheOwner}
use Rattle.plain_disk.specs.declared.log.PlainCommit.{PlainCommit}
use Rattle.plain_disk.specs.declared.log.PlainRecord.{PlainRecord}
use Rattle.plain_disk.specs.Log.{PlainLog, point, place_of_first, past_pad, held_from, mounted_log}
use Rattle.plain_disk.specs.Cache.{cache_with}
use Rattle.plain_disk.specs.State.{PlainState, stream_in, frontier_of}
use Rattle.plain_disk.specs.Valid.{IsPlainLog}
use Rattle.plain_disk.proofs.CheckpointLemmas.{same_checkpoint}
use Rattle.plain_disk.proofs.CommitLemmas.{past_count, past_used, left_used}
use Rattle.plain_disk.proofs.EndLemmas.{frontier_is_sealed, ends_within}
use Rattle.plain_disk.proofs.FoldLemmas.{owners_of_first}
use Rattle.refine_log.specs.Shows.{records_of_rows}
use Rattle.refine_log.proofs.Following.{records_count, records_used}
use Rattle.refine_log.specs.Stops.{entries_past, HasCommit}
use Rattle.refine_mount.specs.Mounted.{end_of_object, mounted_without, log_found, committed_at}
use Rattle.refine_mount.specs.Laws.{MountedIsPlainVolume, MountedIsGoingOn}

-- ---- a plain volume

-- a log that was found, once it was committed from a seq on, has the records of the entries from there on
committed_is : (log end used : ℕ) (body : CommitBody) (rows : List Row) → MayStand body log → log ≤ max_log
    → Follow log body.tail.position used rows
    → used ≤ log → body.tail.seq + length rows ≡ body.head.seq → body.tail.seq ≤ end
    → IsPlainLog end (max end body.head.seq) (committed_at end (log_found log body rows))
committed_is log end used body rows may limit follow most seqs tail =
    let records : List PlainRecord = records_of_rows log body.tail.position rows in
    let k : ℕ = end - body.tail.seq in
    let place : ℕ = place_of_first body.head.position (drop k records) in
    let all = records_count rows log body.tail.position in
    let left = length-drop k records in
    let same = past_count place (drop k records) in
    let taken = records_used rows log body.tail.position used follow in
    let fewer = left_used k records in
    let unpadded = past_used place (drop k records) in
    record {
      counted = omega (arith, all, left, same, seqs, tail);
      room = record { limit = limit; head = may.head_inside; used = omega (arith, taken, fewer, unpadded, most) };
      last = record { order = omega arith; tail = omega arith; head = omega (arith, all, seqs); place = may.head_inside };
      unfinished = tt;
    }

pub mounted_is_plain_volume : MountedIsPlainVolume
mounted_is_plain_volume geometry checkpoint end plain body rows entries rest may are tail in_range count =
    let valid = rest.valid in
    let log : PlainLog = committed_at end (log_found geometry.log body rows) in
    let size : plain.cache.log.size ≡ geometry.log = valid.size ∙ ap (λ g. g.log) rest.geometry_is in
    let limit = valid.log.room.limit in
    let history = rest.history in
    let long = length-append plain.entries entries in
    let within = valid.stream.within in
    let stream = stream_in plain in
    let number = plain.checkpoint.number in
    let sealed : number ≤ last_number stream = omega (arith, valid.checkpoint.reached, frontier_is_sealed plain valid) in
    let owned = owners_of_first plain.number plain.end plain.entries entries stream.opening (objects_to stream number)
    (follow_first plain.end (number - plain.number) plain.objects valid.stream.ends) (ends_within plain number valid sealed) in
    let counted : max end body.head.seq ≡ plain.end + length (plain.entries ++ entries) = omega (arith, history, long, count) in
    record {
      limits = valid.limits;
      sectors = valid.sectors;
      owned = valid.owned;
      payloads = valid.payloads;
      in_range =
          All-append (λ entry. is_in_range plain.geometry entry ≡ true) plain.entries entries valid.in_range
          (subst (λ g. All (λ entry. is_in_range g entry ≡ true) entries) (sym rest.geometry_is) in_range);
      stream = record { ends = valid.stream.ends; within = omega (arith, within, long) };
      window = valid.window;
      last = valid.last;
      opened = valid.opened;
      begun = valid.begun;
      checkpoint = same_checkpoint stream (plain.entries ++ entries) plain.objects (frontier_of plain) (frontier_of plain)
          plain.given_out plain.checkpoint valid.checkpoint (omega arith) owned;
      held = valid.held;
      log =
          subst₂ (λ e c. IsPlainLog e c log) (sym rest.frontier) counted
          (committed_is geometry.log end (sectors_between geometry.log body) body rows may (omega (arith, size, limit)) are.follow
          (between_most geometry.log body may) are.seqs tail);
      size = ap (λ g. g.log) (sym rest.geometry_is);
    }

-- ---- a commit does not see the pad before the first record

-- the first record, where the tail is past its pad
abbrev pub unpadded : (is_past : Bool) → PlainRecord → PlainRecord
unpadded is_past stored = if is_past then record stored { pad = 0 } else stored

unpadded_at : (is_past : Bool) (stored : PlainRecord) → (unpadded is_past stored).at ≡ stored.at
unpadded_at true stored = refl
unpadded_at false stored = refl

pub unpadded_again : (is_past : Bool) (stored : PlainRecord) → unpadded is_past (record stored { pad = 0 })
    ≡ record stored { pad = 0 }
unpadded_again true stored = refl
unpadded_again false stored = refl

-- where the new tail is past that pad, it does not matter whether the old one was
unpadded_twice : (is_past : Bool) (stored : PlainRecord)
    → unpadded ((unpadded is_past stored).at == stored.at) (unpadded is_past stored) ≡ unpadded (stored.at == stored.at) stored
unpadded_twice true stored =
    unpadded_again (stored.at == stored.at) stored ∙ sym (ap (λ b. unpadded b stored) (eq-eqb stored.at stored.at refl))
unpadded_twice false stored = refl

pub same_place : (head tail k : ℕ) (records : List PlainRecord)
    → place_of_first head (drop k (past_pad tail records)) ≡ place_of_first head (drop k records)
same_place head tail zero [] = refl
same_place head tail zero (stored ∷ records) = unpadded_at (stored.at == tail) stored
same_place head tail (suc k) [] = refl
same_place head tail (suc k) (stored ∷ records) = refl

same_past : (head tail k : ℕ) (records : List PlainRecord)
    → past_pad (place_of_first head (drop k records)) (drop k (past_pad tail records))
    ≡ past_pad (place_of_first head (drop k records)) (drop k records)
same_past head tail zero [] = refl
same_past head tail zero (stored ∷ records) = ap (λ first. first ∷ records) (unpadded_twice (stored.at == tail) stored)
same_past head tail (suc k) [] = refl
same_past head tail (suc k) (stored ∷ records) = refl

-- the log past the pad before its first record
abbrev past_first : PlainLog → PlainLog
past_first log = record log { records = past_pad log.last.tail.position log.records }

same_committed : (seq : ℕ) (log : PlainLog) → committed_at seq (past_first log) ≡ committed_at seq log
same_committed seq log =
    let tail : ℕ = log.last.tail.position in
    let k : ℕ = seq - log.last.tail.seq in
    let place = same_place log.head tail k log.records in
    let count = past_count tail log.records in
    let records =
    ap (λ p. past_pad p (drop k (past_pad tail log.records))) place ∙ same_past log.head tail k log.records in
    λ i. record {
      size = log.size;
      head = log.head;
      last = record { tail = point seq (place i); head = point (max seq (log.last.tail.seq + count i)) log.head };
      records = records i;
      unfinished = None;
    }

-- ---- what a mount is to make

-- the log that is found is the plain one as its commit left it
found_held : (owner : CacheOwner) (plain : PlainState) (found : PlainCommit) (count : ℕ) (left : List ℕ)
    (has : HasCommit owner plain found count left)
    → plain.cache.log.size ≡ plain.geometry.log
    → log_found plain.geometry.log has.body has.rows ≡ past_first (held_from found plain.cache.log)
found_held owner plain found count left has size =
    let held : PlainLog = held_from found plain.cache.log in
    let records = has.placed ∙ ap (λ c. past_pad c.tail.position held.records) has.commit in
    λ i. record {
      size = sym size i;
      head = (has.commit i).head.position;
      last = has.commit i;
      records = records i;
      unfinished = None;
    }

-- and so the log that is mounted is the log that is found with a commit
pub mounted_log_is : (owner : CacheOwner) (plain : PlainState) (found : PlainCommit) (count : ℕ) (left : List ℕ)
    (has : HasCommit owner plain found count left)
    → plain.cache.log.size ≡ plain.geometry.log
    → committed_at count (log_found plain.geometry.log has.body has.rows) ≡ mounted_log found count plain.cache.log
mounted_log_is owner plain found count left has size =
    ap (committed_at count) (found_held owner plain found count left has size)
    ∙ same_committed count (held_from found plain.cache.log)

pub mounted_is_going_on : MountedIsGoingOn
mounted_is_going_on uuid owner plain found number objects left valid has_objects has =
    let end : ℕ = end_of_object number plain in
    let few : ℕ = end - plain.end in
    let many : ℕ = max end has.body.head.seq - plain.end in
    let log = mounted_log_is owner plain found end left has valid.size in
    let entries : take few plain.entries ++ entries_past plain end has.body.head.seq ≡ take (max end found.head.seq - plain.end)
    plain.entries =
    ap (λ l. l ++ drop few (take many plain.entries)) (sym (take-take few many plain.entries (omega arith)))
    ∙ take-append-drop few (take many plain.entries)
    ∙ ap (λ c. take (max end c.head.seq - plain.end) plain.entries) has.commit in
    λ i. record (mounted_without plain.geometry.log number plain) { entries = entries i; cache = cache_with (log i) }
