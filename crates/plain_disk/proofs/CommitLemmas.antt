-- The log of the plain volume under entries and commits.
use Rattle.std.proofs.Common.{arith, ℕ, ◌+◌, ◌-◌, ◌<◌, ◌≤◌, ◌≡◌, ◌==◌, Bool, true, false, cond, Option, Some, None, IfSome, List}
use Rattle.std.proofs.Common.{[], ◌∷◌, ◌++◌, length, drop, length-append, length-drop, refl, sym, subst}
use Rattle.std.proofs.lemmas.Bool.Decides.{nat_tests}
use Rattle.std.proofs.lemmas.List.Sums.{sum_by_push, sum_by-cons, sum_by-take-drop}
use Rattle.lsvd_base.specs.declared.entry.Entry.{Entry}
use Rattle.lsvd_device.specs.Calls.{passes, fuse_after}
use Rattle.log_room.specs.Room.{Room, IsRoom, need, free, record_sectors, after_record}
use Rattle.plain_disk.specs.declared.log.PlainCommit.{PlainCommit}
use Rattle.plain_disk.specs.declared.log.PlainRecord.{PlainRecord}
use Rattle.plain_disk.specs.declared.cache.PendingWrite.{PendingWrite}
use Rattle.plain_disk.specs.declared.cache.PendingWrite.TheVariants.{Body, ClosedGate, OpenedGate}
use Rattle.plain_disk.specs.Log.{PlainLog, used_by, room_in, record_of_next, with_record, commit_from, records_from, past_pad}
use Rattle.plain_disk.specs.Log.{with_commit}
use Rattle.plain_disk.specs.Cache.{PlainCache, after_writes, after_sync_of, after_first_half, after_second_half, after_finishing}
use Rattle.plain_disk.specs.Cache.{cache_after_commit}
use Rattle.plain_disk.specs.Valid.{IsCommitWithin, IsLaterCommit, IsPlainLog}

-- ---- more entries, or a later end

within_more : (size end count later more : ℕ) (commit : PlainCommit) → end ≤ later → count ≤ more
    → IsCommitWithin size end count commit
    → IsCommitWithin size later more commit
within_more size end count later more commit ends counts h = record {
  order = h.order;
  tail = omega (arith, h.tail);
  head = omega (arith, h.head);
  place = h.place;
}

unfinished_more : (size end count later more : ℕ) (last : PlainCommit) (unfinished : Option PlainCommit) → end ≤ later
    → count ≤ more
    → IfSome unfinished (IsLaterCommit size end count last) → IfSome unfinished (IsLaterCommit size later more last)
unfinished_more size end count later more last None ends counts h = h
unfinished_more size end count later more last (Some commit) ends counts h = record {
  within = within_more size end count later more commit ends counts h.within;
  tail = h.tail;
  head = h.head;
}

pub log_with_later_end : (end later count : ℕ) (log : PlainLog) → end ≤ later → IsPlainLog end count log
    → IsPlainLog later count log
log_with_later_end end later count log ends h = record {
  counted = h.counted;
  room = h.room;
  last = within_more log.size end count later count log.last ends (omega arith) h.last;
  unfinished = unfinished_more log.size end count later count log.last log.unfinished ends (omega arith) h.unfinished;
}

-- ---- the log with a record

record_room : (room : Room) (sectors : ℕ) → IsRoom room → need room sectors ≤ free room
    → (after_record room sectors).head < room.log
record_room room sectors h has = grind (arith, nat_tests)

pub record_keeps : (end count : ℕ) (log : PlainLog) (entry : Entry) → IsPlainLog end count log
    → need (room_in log) (record_sectors entry) ≤ free (room_in log) → IsPlainLog end (count + 1) (with_record log entry)
record_keeps end count log entry h has =
    let stored = record_of_next log entry in
    let size : PlainRecord → ℕ = λ r. r.pad + r.sectors in
    let used : used_by (log.records ++ stored ∷ []) ≡ used_by log.records + (stored.pad + stored.sectors) =
    sum_by_push size log.records stored in
    record {
      counted = omega (arith, h.counted, length-append log.records (stored ∷ []));
      room = record {
        limit = h.room.limit;
        head = record_room (room_in log) (record_sectors entry) h.room has;
        used = omega (arith, used, has, h.room.used);
      };
      last = within_more log.size end count end (count + 1) log.last (omega arith) (omega arith) h.last;
      unfinished = unfinished_more log.size end count end (count + 1) log.last log.unfinished (omega arith) (omega arith)
          h.unfinished;
    }

-- ---- the log with a commit

-- the records that are left are as many, and use no more
pub past_count : (tail : ℕ) (records : List PlainRecord) → length (past_pad tail records) ≡ length records
past_count tail [] = refl
past_count tail (stored ∷ records) = refl

used_first : (stored : PlainRecord) (records : List PlainRecord)
    → used_by (stored ∷ records) ≡ stored.pad + stored.sectors + used_by records
used_first stored records = let size : PlainRecord → ℕ = λ r. r.pad + r.sectors in sum_by-cons size stored records

past_first : (passed : Bool) (stored : PlainRecord) (records : List PlainRecord)
    → used_by (cond passed (record stored { pad = 0 }) stored ∷ records) ≤ used_by (stored ∷ records)
past_first true stored records = omega (arith, used_first (record stored { pad = 0 }) records, used_first stored records)
past_first false stored records = omega arith

pub past_used : (tail : ℕ) (records : List PlainRecord) → used_by (past_pad tail records) ≤ used_by records
past_used tail [] = omega arith
past_used tail (stored ∷ records) = past_first (stored.at == tail) stored records

pub left_used : (n : ℕ) (records : List PlainRecord) → used_by (drop n records) ≤ used_by records
left_used n records =
    let size : PlainRecord → ℕ = λ r. r.pad + r.sectors in
    let parts = sum_by-take-drop size records n in omega (arith, parts)

-- a commit of all entries comes after the last
commit_is_later : (end count : ℕ) (log : PlainLog) → end ≤ count → IsPlainLog end count log
    → IsLaterCommit log.size end count log.last (commit_from end log)
commit_is_later end count log inside h =
    let counted = h.counted in
    let head = h.last.head in
    record {
      within = record { order = omega arith; tail = omega arith; head = omega arith; place = h.room.head };
      tail = h.last.tail;
      head = omega arith;
    }

made_keeps : (end count : ℕ) (log : PlainLog) (commit : PlainCommit) → end ≤ count → IsPlainLog end count log
    → IsLaterCommit log.size end count log.last commit → IsPlainLog end count (with_commit commit log)
made_keeps end count log commit inside h later =
    let rest = records_from log commit.tail.seq in
    let long = length-drop (commit.tail.seq - log.last.tail.seq) log.records in
    let same = past_count commit.tail.position rest in
    let counted = h.counted in
    let tail = later.within.tail in
    let order = later.tail in
    record {
      counted = omega (arith, long, same);
      room = record {
        limit = h.room.limit;
        head = h.room.head;
        used = omega (
          arith,
          past_used commit.tail.position rest,
          left_used (commit.tail.seq - log.last.tail.seq)
              log.records,
          h.room.used,
        );
      };
      last = later.within;
      unfinished = tt;
    }

-- ---- the cache with a commit

-- a log of this size is one, and a commit comes after its last
abbrev pub IsLogOf : (size end count : ℕ) → PlainLog → Type 0
IsLogOf size end count log = (log.size ≡ size) × IsPlainLog end count log

abbrev IsBefore : (size end count : ℕ) → PlainCommit → PlainLog → Type 0
IsBefore size end count commit log = (log.size ≡ size) × IsPlainLog end count log
    × IsLaterCommit log.size end count log.last commit

pub either : (P : PlainCache → Type 0) (b : Bool) (x y : PlainCache) → P x → P y → P (cond b x y)
either P true x y is other = is
either P false x y is other = other

-- writes and a sync leave the log
pub synced_log : (writes : List PendingWrite) (cache : PlainCache) → (after_sync_of writes cache).log ≡ cache.log
synced_log writes cache =
    either (λ c. c.log ≡ cache.log) (passes cache.left (length writes + 1))
    (record cache { left = fuse_after cache.left (length writes + 1); pending = [] }) (after_writes writes cache) refl refl

first_half_keeps : (size end count : ℕ) (commit : PlainCommit) (cache : PlainCache) → IsBefore size end count commit cache.log
    → IsBefore size end count commit (after_first_half commit cache).log
first_half_keeps size end count commit cache h =
    let synced : PlainCache = after_sync_of (Body ∷ ClosedGate ∷ []) cache in
    let log = cache.log in
    either (λ c. IsBefore size end count commit c.log) (passes cache.left 3)
    (record synced { log = record log { unfinished = Some commit } }) synced
    (h.0, record { counted = h.1.counted; room = h.1.room; last = h.1.last; unfinished = h.2 }, h.2)
    (subst (IsBefore size end count commit) (sym (synced_log (Body ∷ ClosedGate ∷ []) cache)) h)

second_half_keeps : (size end count : ℕ) (commit : PlainCommit) (cache : PlainCache) → end ≤ count
    → IsBefore size end count commit cache.log
    → IsLogOf size end count (after_second_half commit cache).log
second_half_keeps size end count commit cache inside h =
    let synced : PlainCache = after_sync_of (OpenedGate ∷ []) cache in
    either (λ c. IsLogOf size end count c.log) (passes cache.left 2) (record synced { log = with_commit commit cache.log }) synced
    (h.0, made_keeps end count cache.log commit inside h.1 h.2)
    (subst (IsLogOf size end count) (sym (synced_log (OpenedGate ∷ []) cache)) (h.0, h.1))

pub finishing_keeps : (size end count : ℕ) (unfinished : Option PlainCommit) (cache : PlainCache) → end ≤ count
    → IsLogOf size end count cache.log
    → IfSome unfinished (IsLaterCommit cache.log.size end count cache.log.last)
    → IsLogOf size end count (after_finishing unfinished cache).log
finishing_keeps size end count None cache inside h later = h
finishing_keeps size end count (Some commit) cache inside h later =
    second_half_keeps size end count commit cache inside (h.0, h.1, later)

pub commit_keeps : (size end count : ℕ) (cache : PlainCache) → end ≤ count → IsLogOf size end count cache.log
    → IsLogOf size end count (cache_after_commit end cache).log
commit_keeps size end count cache inside h =
    let ready : PlainCache = after_finishing cache.log.unfinished cache in
    let is : IsLogOf size end count ready.log = finishing_keeps size end count cache.log.unfinished cache inside h
    h.1.unfinished in
    let commit : PlainCommit = commit_from end ready.log in
    second_half_keeps size end count commit (after_first_half commit ready) inside
    (first_half_keeps size end count commit ready (is.0, is.1, commit_is_later end count ready.log inside is.1))
