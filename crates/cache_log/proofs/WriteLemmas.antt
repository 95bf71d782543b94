-- A log before and after a write of its device.
use Rattle.std.proofs.Common.{◌≡◌, ℕ, ◌+◌, ◌-◌, ◌*◌, ◌/◌, ◌^◌, ◌<◌, ◌≤◌, List, [], ◌∷◌, ◌++◌, length, map, refl, sym, ◌∙◌, ap}
use Rattle.std.proofs.Common.{subst, inl, inr, arith, length-append, append_assoc}
use Rattle.std.specs.Prelude.{Option, Some, None, IfSome}
use Rattle.std.specs.List.{AllByRecursion}
use Rattle.std.proofs.lemmas.List.{map-append, length-map}
use Rattle.std.proofs.Math.Path.{subst₂}
use Rattle.std.proofs.lemmas.Bool.{cases_lt}
use Rattle.lsvd_base.specs.declared.entry.Entry.{Entry}
use Rattle.lsvd_base.specs.declared.entry.Entry.TheVariants as entries
use Rattle.lsvd_bytes.specs.Places.{with_bytes, bytes_at}
use Rattle.lsvd_bytes.proofs.PlaceLemmas.{keeps_length, reads_bytes_again}
use Rattle.lsvd_device.specs.Medium.{Medium, after_write}
use Rattle.lsvd_device.specs.Device.{HoldsSince, HasSize, HoldsNow, moments_after, FailsToWrite}
use Rattle.commit_body.specs.declared.body.CommitBody.{CommitBody}
use Rattle.commit_body.specs.declared.body.Mark.{Mark}
use Rattle.commit_slot.specs.Slots.{log_of}
use Rattle.commit_slot.specs.Commits.{CommitsState, Leaves, LeavesSince, IsAsBefore, IsLast}
use Rattle.commit_slot.specs.OnDisk.{AreOnDisk}
use Rattle.commit_slot.proofs.Passing.{passes_as, passes_on}
use Rattle.log_room.specs.Room.{Room, IsRoom, position, pad_before, need, free, after_record, record_sectors}
use Rattle.log_record.specs.Grammar.{IsHeaderOf, IsRecordOf}
use Rattle.log_record.specs.declared.head.Head.TheVariants.{Pad}
use Rattle.log_record.proofs.ForCallers.{has_one_sector, parts_of_record}
use Rattle.cache_log.specs.declared.row.Row.{Row}
use Rattle.cache_log.specs.Rows.{byte_of, log_sectors, seq_of, position_of, record_size, entry_of, StandsFrom, sectors_taken}
use Rattle.cache_log.specs.Rows.{next, AreNumbered, Follow, end_of_rows, HasPad, HaveRecords, since, between, entries_between}
use Rattle.cache_log.specs.Log.{entries_in, row_of, with_appended, start_with}
use Rattle.cache_log.specs.Committed.{LeavesEntries}
use Rattle.cache_log.specs.Writing.{IsWrittenAt, IsNotWrittenAt, IsPadded, FailsToPad}
use Rattle.cache_log.specs.Invariant.{IsFurther, Reach, IsLog, EachCommitted, IsCommitOfRows, IsCommitOfLog, AreCommitsOfLog}
use Rattle.cache_log.specs.Invariant.{Holds}
use Rattle.cache_log.proofs.CommittedLemmas.{each_as, each_both, each_same, each_of, last_as, HeldAt, are_commits, since_entries}
use Rattle.cache_log.proofs.CommittedLemmas.{holds_more}
use Rattle.cache_log.proofs.Places.{IsPlaced, placed, step_of, follow_more, end_is, AreFree, Apart, LieApart, lie_apart}
use Rattle.cache_log.proofs.Places.{first_apart}
use Rattle.cache_log.proofs.Reaches.{ReachWithin, restart, have_restart}
use Rattle.cache_log.proofs.ReadCounts.{as_before_then}
use Rattle.cache_log.proofs.Records.{Keeps, keeps_written, keeps_torn, keeps_records, entries_kept, have_more}
use Rattle.cache_log.proofs.RowLemmas.{sectors_part, sectors_count}
use Rattle.cache_log.proofs.Slices.{numbered_more, since_more, between_more}
use Rattle.cache_log.proofs.Stops.{IsWritten, last_written}

-- ---- the moments of a disk

-- over some calls the records stay, with the entries of before, and so far as they are committed they last at each moment
pub record StaysIn (log : ℕ) (mark : Mark) (rows all : List Row) (commits : CommitsState) (old new : List Medium) : Type 0 where
  pub records : HoldsNow (λ now. HaveRecords log mark.position mark.seq rows now.bytes) new
  pub entries : entries_in rows new ≡ entries_in rows old
  pub all_entries : entries_in all new ≡ entries_in all old
  pub last : HoldsNow (λ now. HeldAt log all (map (entry_of now.bytes) all) commits now) new
  pub since : HoldsNow (λ now. HoldsSince (HeldAt log all (map (entry_of now.bytes) all) commits) old new) old

-- what a step needs to know
pub record StandIn (log : ℕ) (mark : Mark) (rows all : List Row) (commits : CommitsState) (moments : List Medium) : Type 0 where
  pub records : HoldsNow (λ now. HaveRecords log mark.position mark.seq rows now.bytes) moments
  pub last : HoldsNow (λ now. HeldAt log all (map (entry_of now.bytes) all) commits now) moments

-- sectors that are none of a log's
pub record AreApart (at count log : ℕ) (mark : Mark) (rows full : List Row) (commits : CommitsState) : Type 0 where
  pub list : LieApart at count log mark.position rows
  pub from : ℕ
  pub all : LieApart at count log from full
  pub each : EachCommitted (λ body. LieApart at count log body.tail.position (between body full)) commits

nothing_since : (log : ℕ) (all : List Row) (commits : CommitsState) (old new : List Medium) → new ≡ old
    → HoldsNow (λ now. HoldsSince (HeldAt log all (map (entry_of now.bytes) all) commits) old new) old
nothing_since log all commits [] new same = tt
nothing_since log all commits (now ∷ past) new same = record { since = []; moments = same; each = tt }

pub stays_same : (log : ℕ) (mark : Mark) (rows all : List Row) (commits : CommitsState) (old new : List Medium)
    → StandIn log mark rows all commits old → new ≡ old → StaysIn log mark rows all commits old new
stays_same log mark rows all commits old new stand same = record {
  records = subst (HoldsNow (λ now. HaveRecords log mark.position mark.seq rows now.bytes)) (sym same) stand.records;
  entries = ap (entries_in rows) same;
  all_entries = ap (entries_in all) same;
  last = subst (HoldsNow (λ now. HeldAt log all (map (entry_of now.bytes) all) commits now)) (sym same) stand.last;
  since = nothing_since log all commits old new same;
}

-- a change of sectors that are none of the rows'
changed : (log : ℕ) (mark : Mark) (at count bytes : ℕ) (rows all : List Row) (commits : CommitsState) (now new : Medium)
    (past : List Medium) → bytes ≡ 512 * count → IsWritten (byte_of at) bytes now new
    → Keeps at count now.bytes new.bytes → AreApart at count log mark rows all commits
    → StandIn log mark rows all commits (now ∷ past)
    → StaysIn log mark rows all commits (now ∷ past) (new ∷ now ∷ past)
changed log mark at count bytes rows all commits now new past whole is keeps apart stand =
    let list : List Entry = map (entry_of now.bytes) all in
    let kept = keeps_records rows log mark.position at count mark.seq now.bytes new.bytes keeps apart.list stand.records in
    let same = entries_kept all log apart.from at count now.bytes new.bytes keeps apart.all in
    let P : CommitBody → Type 0 = λ b. LieApart at count log b.tail.position (between b all) in
    let held : HeldAt log all list commits new =
    each_as (λ b. P b × Holds log all list now b) (Holds log all list new) commits
    (λ b x. (
      (keeps_records (between b all) log b.tail.position at count b.tail.seq now.bytes new.bytes keeps x.0 x.1.0).records,
      last_written log b.tail.position b.tail.seq at count bytes (between b all) (entries_between b all list) now new whole
          is x.0 x.1.1,
    ))
    (each_both P (Holds log all list now) commits apart.each stand.last) in
    record {
      records = kept.records;
      entries = ap Some kept.entries;
      all_entries = ap Some same;
      last = subst (λ l. HeldAt log all l commits new) (sym same) held;
      since = record { since = new ∷ []; moments = refl; each = (held, tt) };
    }

pub stays_written : (log : ℕ) (mark : Mark) (at count size : ℕ) (rows all : List Row) (commits : CommitsState) (piece : List ℕ)
    (old new : List Medium) → length piece ≡ 512 * count
    → byte_of at + length piece ≤ size → AllByRecursion (HasSize size) old → AreApart at count log mark rows all commits
    → StandIn log mark rows all commits old
    → new ≡ moments_after (after_write (byte_of at) piece) old → StaysIn log mark rows all commits old new
stays_written log mark at count size rows all commits piece [] new whole within media apart stand moments =
    stays_same log mark rows all commits [] new stand moments
stays_written log mark at count size rows all commits piece (now ∷ past) new whole within media apart stand moments =
    let fits : byte_of at + length piece ≤ length now.bytes = (let e = media.0.bytes in omega (arith, e, within)) in
    let is : IsWritten (byte_of at) (length piece) now (after_write (byte_of at) piece now) =
    record { synced = refl; pending = refl; inside = (let e = media.0.synced in omega (arith, e, within)) } in
    subst (StaysIn log mark rows all commits (now ∷ past)) (sym moments)
    (changed log mark at count (length piece) rows all commits now (after_write (byte_of at) piece now) past whole is
    (keeps_written at count piece now.bytes whole fits) apart stand)

pub stays_failed : (log : ℕ) (mark : Mark) (at count bytes size : ℕ) (rows all : List Row) (commits : CommitsState)
    (old new : List Medium) → bytes ≡ 512 * count
    → byte_of at + bytes ≤ size → AllByRecursion (HasSize size) old → AreApart at count log mark rows all commits
    → StandIn log mark rows all commits old
    → FailsToWrite (byte_of at) bytes old new → StaysIn log mark rows all commits old new
stays_failed log mark at count bytes size rows all commits [] new whole within media apart stand fails =
    stays_same log mark rows all commits [] new stand fails
stays_failed log mark at count bytes size rows all commits (now ∷ past) new whole within media apart stand (inl same) =
    stays_same log mark rows all commits (now ∷ past) new stand same
stays_failed log mark at count bytes size rows all commits (now ∷ past) new whole within media apart stand
    (inr (torn, fails, moments)) =
    let fits : byte_of at + bytes ≤ length now.bytes = (let e = media.0.bytes in omega (arith, e, within)) in
    let is : IsWritten (byte_of at) bytes now torn = record {
      synced = fails.synced;
      pending = fails.pending;
      inside =
          (let e = media.0.synced in omega (arith, e, within));
    } in
    subst (StaysIn log mark rows all commits (now ∷ past)) (sym moments)
    (changed log mark at count bytes rows all commits now torn past whole is (keeps_torn at count bytes now torn whole fits fails)
    apart stand)

-- one change after the other
then_since : (log : ℕ) (all : List Row) (commits : CommitsState) (old middle new : List Medium)
    → entries_in all middle ≡ entries_in all old
    → HoldsNow (λ now. HoldsSince (HeldAt log all (map (entry_of now.bytes) all) commits) old middle) old
    → HoldsNow (λ now. HoldsSince (HeldAt log all (map (entry_of now.bytes) all) commits) middle new) middle
    → HoldsNow (λ now. HoldsSince (HeldAt log all (map (entry_of now.bytes) all) commits) old new) old
then_since log all commits [] middle new same a b = tt
then_since log all commits (now ∷ past) [] new same a b = absurd (cc)
then_since log all commits (now ∷ past) (to_next ∷ more) new same a b =
    let list : map (entry_of to_next.bytes) all ≡ map (entry_of now.bytes) all = cc in
    passes_on (HeldAt log all (map (entry_of now.bytes) all) commits) (now ∷ past) (to_next ∷ more) new a
    (subst (λ l. HoldsSince (HeldAt log all l commits) (to_next ∷ more) new) list b)

pub stays_then : (log : ℕ) (mark : Mark) (rows all : List Row) (commits : CommitsState) (old middle new : List Medium)
    → StaysIn log mark rows all commits old middle → StaysIn log mark rows all commits middle new
    → StaysIn log mark rows all commits old new
stays_then log mark rows all commits old middle new a b = record {
  records = b.records;
  entries = b.entries ∙ a.entries;
  all_entries = b.all_entries ∙ a.all_entries;
  last = b.last;
  since = then_since log all commits old middle new a.all_entries a.since b.since;
}

pub held_same : (log : ℕ) (all : List Row) (old new : CommitsState) (moments : List Medium) → IsAsBefore old new
    → HoldsNow (λ now. HeldAt log all (map (entry_of now.bytes) all) old now) moments
    → HoldsNow (λ now. HeldAt log all (map (entry_of now.bytes) all) new now) moments
held_same log all old new [] same held = tt
held_same log all old new (now ∷ past) same held = each_same (Holds log all (map (entry_of now.bytes) all) now) old new same held

since_same : (log : ℕ) (all : List Row) (commits other : CommitsState) (old new : List Medium) → IsAsBefore commits other
    → HoldsNow (λ now. HoldsSince (HeldAt log all (map (entry_of now.bytes) all) commits) old new) old
    → HoldsNow (λ now. HoldsSince (HeldAt log all (map (entry_of now.bytes) all) other) old new) old
since_same log all commits other [] new same since = tt
since_same log all commits other (now ∷ past) new same since =
    passes_as (HeldAt log all (map (entry_of now.bytes) all) commits) (HeldAt log all (map (entry_of now.bytes) all) other)
    (now ∷ past) new
    (λ medium held. each_same (Holds log all (map (entry_of now.bytes) all) medium) commits other same held) since

-- the same of other commits that are as these
pub stays_of : (log : ℕ) (mark : Mark) (rows all : List Row) (commits other : CommitsState) (old new : List Medium)
    → IsAsBefore other commits → StaysIn log mark rows all commits old new
    → StaysIn log mark rows all other old new
stays_of log mark rows all commits other old new same stays =
    let back : IsAsBefore commits other = record {
      same_number = sym same.same_number;
      same_body = sym same.same_body;
      same_unfinished = sym same.same_unfinished;
    } in
    record {
      records = stays.records;
      entries = stays.entries;
      all_entries = stays.all_entries;
      last = held_same log all commits other new back stays.last;
      since = since_same log all commits other old new back stays.since;
    }

-- ---- the log

pub log_stand : (place : Room) (mark : Mark) (held rows : List Row) (commits : CommitsState)
    → (log : IsLog place mark held rows commits) → StandIn place.log mark rows (held ++ rows) commits commits.disk.moments
log_stand place mark held rows commits log = record { records = log.is.records; last = log.is.last }

-- the device changed, and the log is as before
pub record IsSameLog (place : Room) (mark : Mark) (held rows : List Row) (old new : CommitsState) : Type 0 where
  pub log : IsLog place mark held rows new
  pub entries : entries_in rows new.disk.moments ≡ entries_in rows old.disk.moments
  pub all : entries_in (held ++ rows) new.disk.moments ≡ entries_in (held ++ rows) old.disk.moments
  pub since : IfSome (entries_in (held ++ rows) old.disk.moments)
      (λ list. HoldsSince (LeavesEntries place.log (held ++ rows) list (IsLast old)) old.disk.moments new.disk.moments)

-- what calls leave of the commits and of their disk
pub record AreSame (old new : CommitsState) : Type 0 where
  pub same : IsAsBefore old new
  pub size : new.disk.size ≡ old.disk.size
  pub leaves : LeavesSince (IsLast old) old.disk new.disk
  pub on_disk : AreOnDisk new

pub same_then : (old middle new : CommitsState) → AreSame old middle → AreSame middle new → AreSame old new
same_then old middle new a b =
    let n : log_of middle.disk.size ≡ log_of old.disk.size = ap log_of a.size in
    let moved : LeavesSince (IsLast middle) (record middle.disk { size = old.disk.size }) new.disk =
    (let Q : ℕ → Type 0 = λ s. LeavesSince (IsLast middle) (record middle.disk { size = s }) new.disk in
    subst Q a.size b.leaves) in
    let log : ℕ = log_of old.disk.size in
    record {
      same = as_before_then old middle new a.same b.same;
      size = b.size ∙ a.size;
      leaves = passes_on (Leaves log (IsLast old)) old.disk.moments middle.disk.moments new.disk.moments a.leaves
          (passes_as (Leaves log (IsLast middle)) (Leaves log (IsLast old)) middle.disk.moments new.disk.moments
          (λ medium leaves left may. let is = leaves left may in (is.0, is.1, last_as old middle is.0 is.1 a.same is.2, is.3))
          moved);
      on_disk = b.on_disk;
    }

pub log_since : (place : Room) (mark : Mark) (held rows : List Row) (old new : CommitsState) → IsLog place mark held rows old
    → AreSame old new
    → StaysIn place.log mark rows (held ++ rows) old old.disk.moments new.disk.moments
    → IfSome (entries_in (held ++ rows) old.disk.moments)
    (λ list. HoldsSince (LeavesEntries place.log (held ++ rows) list (IsLast old)) old.disk.moments new.disk.moments)
log_since place mark held rows old new log are stays =
    since_entries place (held ++ rows) old old.disk.moments new.disk.moments
    (are_commits place mark log.is.least held rows old log.is.room.used log.is.committed)
    (let Q : ℕ → Type 0 = λ n. HoldsSince (Leaves n (IsLast old)) old.disk.moments new.disk.moments in
    subst Q (sym log.is.sectors) are.leaves)
    stays.since

-- the log of commits that are as these, with what is read and what lasts
with_same : (place : Room) (mark : Mark) (held rows : List Row) (old new : CommitsState) → IsLog place mark held rows old
    → IsAsBefore old new → new.disk.size ≡ old.disk.size → AreOnDisk new
    → HoldsNow (λ now. HaveRecords place.log mark.position mark.seq rows now.bytes) new.disk.moments
    → HoldsNow (λ now. HeldAt place.log (held ++ rows) (map (entry_of now.bytes) (held ++ rows)) new now) new.disk.moments
    → IsLog place mark held rows new
with_same place mark held rows old new log same size on_disk records last =
    let is = log.is in
    let S : CommitBody → Option CommitBody → Type 0 = λ b u.
    (c : AreCommitsOfLog place mark is.least held rows b u) × (c.0.used ≡ place.used)
    × (since b.tail.seq (held ++ rows) ≡ held ++ rows) in
    let moved : S new.body new.unfinished =
    subst₂ S (sym same.same_body) (sym same.same_unfinished) (is.committed, log.used, log.from) in
    record {
      is = record {
        room = is.room;
        least = is.least;
        reach = is.reach;
        numbered = is.numbered;
        below = is.below;
        records = records;
        committed = moved.0;
        last = last;
        on_disk = on_disk;
        sectors = is.sectors ∙ ap log_of (sym size);
        fits = (let e = is.fits in omega (arith, e, size));
        numbers = is.numbers;
      };
      from = moved.2;
      used = moved.1;
    }

pub same_log : (place : Room) (mark : Mark) (held rows : List Row) (old new : CommitsState)
    → (log : IsLog place mark held rows old) → AreSame old new
    → StaysIn place.log mark rows (held ++ rows) old old.disk.moments new.disk.moments → IsSameLog place mark held rows old new
same_log place mark held rows old new log are stays = record {
  log = with_same place mark held rows old new log are.same are.size are.on_disk stays.records
      (held_same place.log (held ++ rows) old new new.disk.moments are.same stays.last);
  entries = stays.entries;
  all = stays.all_entries;
  since = log_since place mark held rows old new log are stays;
}

-- the device was read alone
pub read_log : (place : Room) (mark : Mark) (held rows : List Row) (old new : CommitsState) → IsLog place mark held rows old
    → IsAsBefore old new → new.disk.moments ≡ old.disk.moments → new.disk.size ≡ old.disk.size → AreOnDisk new
    → IsLog place mark held rows new
read_log place mark held rows old new log same moments size on_disk =
    let all : List Row = held ++ rows in
    with_same place mark held rows old new log same size on_disk
    (subst (HoldsNow (λ now. HaveRecords place.log mark.position mark.seq rows now.bytes)) (sym moments) log.is.records)
    (held_same place.log all old new new.disk.moments same
    (subst (HoldsNow (λ now. HeldAt place.log all (map (entry_of now.bytes) all) old now)) (sym moments) log.is.last))

-- what is free is none of the rows'
pub free_apart : (place : Room) (mark : Mark) (at count : ℕ) (held rows : List Row) (commits : CommitsState)
    → IsLog place mark held rows commits → AreFree place.log place.head place.used at count
    → AreApart at count place.log mark rows (held ++ rows) commits
free_apart place mark at count held rows commits log free =
    let is = log.is in
    let last = is.committed.0 in
    let least : is.least ≤ place.used = (let a = last.least in let b = last.most in omega (arith, a, b)) in
    let all : List Row = held ++ rows in
    let apart : (from used : ℕ) (list : List Row) → used ≤ place.used → Reach place from used list
    → LieApart at count place.log from list =
    λ from used list less reach. lie_apart list place.log from used place.used place.head at count reach.inside is.room.head
    is.room.used less reach.further free reach.follow in
    record {
      list = apart mark.position is.least rows least is.reach;
      from = commits.body.tail.position;
      all = subst (LieApart at count place.log commits.body.tail.position) log.from
          (apart commits.body.tail.position last.used (since commits.body.tail.seq all) last.most last.is.reach);
      each =
          each_as (IsCommitOfLog place mark is.least held rows) (λ body. LieApart at count place.log body.tail.position
          (between body all)) commits
          (λ body c. first_apart (between body all) c.is.more at count place.log body.tail.position
          (subst (LieApart at count place.log body.tail.position) c.is.whole
          (apart body.tail.position c.used (since body.tail.seq all) c.most c.is.reach)))
          (each_of place mark is.least held rows commits is.committed);
    }

-- ---- where a record and its pad go

-- what a record of this many sectors needs is free
pub record HasPlace (place : Room) (size : ℕ) : Type 0 where
  -- the sectors of the record
  pub free : AreFree place.log place.head place.used (position place size) size
  pub inside : position place size + size ≤ place.log
  -- the header of the pad
  pub pad : 0 < pad_before place size → AreFree place.log place.head place.used place.head 1
      × (place.head + pad_before place size ≤ place.log) × Apart (position place size) size place.head 1

pub has_place : (place : Room) (size : ℕ) → IsRoom place → need place size ≤ free place → HasPlace place size
has_place place size room enough =
    let some = room.used in
    let head = room.head in
    elim (cases_lt place.log (place.head + size)) [
      | inl more ↦
          let at : position place size ≡ 0 = grind arith in
          let pad : pad_before place size ≡ place.log - place.head = grind arith in
          let part : place.used + size ≤ place.head = omega (arith, pad, enough, some, head) in
          record {
            free = inr (at, part);
            inside = omega (arith, at, part, head);
            pad = λ more. (
              inl (refl, omega (arith, head), omega (arith, part, head)),
              omega (arith, pad, head),
              inr
                  (omega (arith, at, part)),
            );
          }
      | inr fits ↦
          let at : position place size ≡ place.head = grind arith in
          let none : pad_before place size ≡ 0 = grind arith in
          record {
            free = inl (at, omega (arith, fits), omega (arith, none, enough, some));
            inside = omega (arith, at, fits);
            pad = λ more. absurd (omega (arith, none, more));
          }
    ]

-- ---- a write of what is free

pub written_same : (at : ℕ) (piece : List ℕ) (old new : CommitsState) → IsWrittenAt at piece old new → AreSame old new
written_same at piece old new is = record {
  same = is.same;
  size = is.costs.calls.size;
  leaves = is.crash_safe;
  on_disk = is.on_disk;
}

pub not_written_same : (at : ℕ) (piece : List ℕ) (old new : CommitsState) → IsNotWrittenAt at piece old new → AreSame old new
not_written_same at piece old new is = record {
  same = is.same;
  size = is.costs.calls.size;
  leaves = is.crash_safe;
  on_disk = is.on_disk;
}

pub write_stays : (place : Room) (mark : Mark) (at count : ℕ) (held rows : List Row) (piece : List ℕ) (old new : CommitsState)
    → (log : IsLog place mark held rows old) → AreFree place.log place.head place.used at count
    → length piece ≡ 512 * count → byte_of at + length piece ≤ old.disk.size → IsWrittenAt (byte_of at) piece old new
    → StaysIn place.log mark rows (held ++ rows) old old.disk.moments new.disk.moments
write_stays place mark at count held rows piece old new log free whole within is =
    stays_written place.log mark at count old.disk.size rows (held ++ rows) old piece old.disk.moments new.disk.moments whole
    within log.is.on_disk.is_disk.media (free_apart place mark at count held rows old log free)
    (log_stand place mark held rows old log) is.moments

pub fail_stays : (place : Room) (mark : Mark) (at count : ℕ) (held rows : List Row) (piece : List ℕ) (old new : CommitsState)
    → (log : IsLog place mark held rows old) → AreFree place.log place.head place.used at count
    → length piece ≡ 512 * count → byte_of at + length piece ≤ old.disk.size → IsNotWrittenAt (byte_of at) piece old new
    → StaysIn place.log mark rows (held ++ rows) old old.disk.moments new.disk.moments
fail_stays place mark at count held rows piece old new log free whole within is =
    stays_failed place.log mark at count (length piece) old.disk.size rows (held ++ rows) old old.disk.moments new.disk.moments
    whole within log.is.on_disk.is_disk.media (free_apart place mark at count held rows old log free)
    (log_stand place mark held rows old log) is.moments

-- ---- the pad

-- the header of a pad stands where one is needed
abbrev pub PadStands : (place : Room) (seq size : ℕ) → Medium → Type 0
PadStands place seq size now = 0 < pad_before place size
    → IsHeaderOf (Pad (pad_before place size - 1)) seq (log_sectors place.head 1 now.bytes)

-- what was written at a place of the log stands there
written_there : (at count : ℕ) (piece bytes : List ℕ) → length piece ≡ 512 * count → byte_of at + length piece ≤ length bytes
    → log_sectors at count (with_bytes (byte_of at) piece bytes) ≡ piece
written_there at count piece bytes whole within =
    ap (λ n. bytes_at (byte_of at) n (with_bytes (byte_of at) piece bytes)) (sym whole)
    ∙ reads_bytes_again (byte_of at) piece bytes within

no_pad_stands : (place : Room) (seq size : ℕ) (moments : List Medium) → pad_before place size ≡ 0
    → HoldsNow (PadStands place seq size) moments
no_pad_stands place seq size [] none = tt
no_pad_stands place seq size (now ∷ past) none = λ some. absurd (omega (arith, none, some))

pad_stands : (place : Room) (seq size bytes : ℕ) (piece : List ℕ) (moments : List Medium)
    → IsHeaderOf (Pad (pad_before place size - 1)) seq piece → byte_of place.head + 512 ≤ bytes
    → AllByRecursion (HasSize bytes) moments
    → HoldsNow (PadStands place seq size) (moments_after (after_write (byte_of place.head) piece) moments)
pad_stands place seq size bytes piece [] is_pad within media = tt
pad_stands place seq size bytes piece (now ∷ past) is_pad within media =
    let whole : length piece ≡ 512 = has_one_sector (Pad (pad_before place size - 1)) seq piece is_pad in
    let there = written_there place.head 1 piece now.bytes whole (let e = media.0.bytes in omega (arith, whole, e, within)) in
    λ some. subst (IsHeaderOf (Pad (pad_before place size - 1)) seq) (sym there) is_pad

-- the log after its pad
pub record IsReady (place : Room) (mark : Mark) (held rows : List Row) (seq size : ℕ) (old middle : CommitsState) : Type 0 where
  pub same : IsSameLog place mark held rows old middle
  pub are : AreSame old middle
  pub stays : StaysIn place.log mark rows (held ++ rows) old old.disk.moments middle.disk.moments
  pub pad : HoldsNow (PadStands place seq size) middle.disk.moments

no_change : (commits : CommitsState) → AreOnDisk commits → AreSame commits commits
no_change commits on_disk = record {
  same = record { same_number = refl; same_body = refl; same_unfinished = refl };
  size = refl;
  leaves = record { since = []; moments = refl; each = tt };
  on_disk = on_disk;
}

pub ready : (place : Room) (mark : Mark) (held rows : List Row) (seq size : ℕ) (old middle : CommitsState)
    → IsLog place mark held rows old → need place size ≤ free place
    → IsPadded place size seq old middle → IsReady place mark held rows seq size old middle
ready place mark held rows seq size old middle log enough (inl none) =
    let P : CommitsState → Type 0 = λ c. IsReady place mark held rows seq size old c in
    let are = no_change old log.is.on_disk in
    let stays = stays_same place.log mark rows (held ++ rows) old old.disk.moments old.disk.moments
    (log_stand place mark held rows old log) refl in
    subst P (sym none.1) (record {
      same = same_log place mark held rows old old log are stays;
      are = are;
      stays = stays;
      pad = no_pad_stands place seq size old.disk.moments none.0;
    })
ready place mark held rows seq size old middle log enough (inr padded) =
    let some = padded.needed in
    let piece : List ℕ = padded.piece in
    let is = padded.written in
    let whole : length piece ≡ 512 = has_one_sector (Pad (pad_before place size - 1)) seq piece padded.is_pad in
    let goes = (has_place place size log.is.room enough).pad some in
    let within : byte_of place.head + 512 ≤ old.disk.size =
    (let e = log.is.fits in let f = goes.1 in omega (arith, e, f, some)) in
    let are = written_same (byte_of place.head) piece old middle is in
    let stays = write_stays place mark place.head 1 held rows piece old middle log goes.0 whole
    (omega (arith, whole, within)) is in
    record {
      same = same_log place mark held rows old middle log are stays;
      are = are;
      stays = stays;
      pad = subst (HoldsNow (PadStands place seq size)) (sym is.moments)
          (pad_stands place seq size old.disk.size piece old.disk.moments padded.is_pad within log.is.on_disk.is_disk.media);
    }

pub not_padded : (place : Room) (mark : Mark) (held rows : List Row) (seq size : ℕ) (old new : CommitsState)
    → IsLog place mark held rows old → need place size ≤ free place
    → FailsToPad place size seq old new → IsSameLog place mark held rows old new
not_padded place mark held rows seq size old new log enough fails =
    let some = fails.needed in
    let piece : List ℕ = fails.piece in
    let is = fails.not_written in
    let whole : length piece ≡ 512 = has_one_sector (Pad (pad_before place size - 1)) seq piece fails.is_pad in
    let goes = (has_place place size log.is.room enough).pad some in
    let within : byte_of place.head + 512 ≤ old.disk.size =
    (let e = log.is.fits in let f = goes.1 in omega (arith, e, f, some)) in
    same_log place mark held rows old new log (not_written_same (byte_of place.head) piece old new is)
    (fail_stays place mark place.head 1 held rows piece old new log goes.0 whole (omega (arith, whole, within)) is)

-- ---- one record more

-- a row has the sectors of its entry's record
pub row_size : (seq at : ℕ) (entry : Entry) → record_size (row_of seq at entry) ≡ record_sectors entry
row_size seq at (entries.Write lba body) = refl
row_size seq at (entries.Zero lba sectors) = refl

pub row_position : (seq at : ℕ) (entry : Entry) → position_of (row_of seq at entry) ≡ at
row_position seq at (entries.Write lba body) = refl
row_position seq at (entries.Zero lba sectors) = refl

pub row_seq : (seq at : ℕ) (entry : Entry) → seq_of (row_of seq at entry) ≡ seq
row_seq seq at (entries.Write lba body) = refl
row_seq seq at (entries.Zero lba sectors) = refl

-- the entry of a row at whose sectors its record was written
entry_written : (at seq : ℕ) (entry : Entry) (bytes : List ℕ) → byte_of (at + record_sectors entry) ≤ length bytes
    → IsRecordOf entry seq (log_sectors at (record_sectors entry) bytes) → entry_of bytes (row_of seq at entry) ≡ entry
entry_written at seq (entries.Write lba body) bytes fits is =
    let n : ℕ = length body / 512 in
    let entry : Entry = entries.Write lba body in
    let one : length (log_sectors at 1 bytes) ≡ 512 = sectors_count at 1 bytes (omega (arith, fits)) in
    let parts = parts_of_record entry seq (log_sectors at 1 bytes) (log_sectors (at + 1) n bytes) one
    (subst (IsRecordOf entry seq) (sectors_part at n bytes) is) in
    ap (entries.Write lba) parts.1
entry_written at seq (entries.Zero lba sectors) bytes fits is = refl

-- the row of an entry that has room
placed_row : (place : Room) (seq : ℕ) (entry : Entry) → IsRoom place → need place (record_sectors entry) ≤ free place
    → IsPlaced place.log place.head (row_of seq (position place (record_sectors entry)) entry)
placed_row place seq entry room enough =
    let at : ℕ = position place (record_sectors entry) in
    let size = row_size seq at entry in
    let P : ℕ → Type 0 = λ n. need place n ≤ place.log in
    placed place.log place.head (row_of seq at entry) room.head (subst P (sym size) (omega (arith, enough)))
    (row_position seq at entry ∙ ap (position place) (sym size))

padded_entry : (place : Room) (seq : ℕ) (entry : Entry)
    → 0 < pad_before place (record_size (row_of seq (position place (record_sectors entry)) entry))
    → 0 < pad_before place (record_sectors entry)
padded_entry place seq entry some = subst (λ n. 0 < pad_before place n)
    (row_size seq (position place (record_sectors entry)) entry) some

-- the rows of a log whose next entry has this seq, with one more
abbrev pub rows_with : Room → (seq : ℕ) → List Row → Entry → List Row
rows_with place seq rows entry = rows ++ row_of seq (position place (record_sectors entry)) entry ∷ []

-- a record of an entry, as it was written
pub record IsPiece (entry : Entry) (seq : ℕ) (piece : List ℕ) : Type 0 where
  pub is_record : IsRecordOf entry seq piece
  pub whole : length piece ≡ 512 * record_sectors entry

-- the mark of a log with one record more, which stands at a sector
abbrev pub mark_with : Mark → (at : ℕ) → List Row → Mark
mark_with mark at rows = record mark { position = start_with at mark.position rows }

-- at the newest moment one record more stands
pub record HasMoreIn (place : Room) (mark : Mark) (held rows : List Row) (entry : Entry) (commits : CommitsState)
    (old new : List Medium) : Type 0 where
  pub records : HoldsNow (λ now. HaveRecords place.log mark.position mark.seq
      (rows_with place (mark.seq + length rows) rows entry) now.bytes) new
  pub entries : entries_in (rows_with place (mark.seq + length rows) rows entry) new ≡ with_appended (entries_in rows old) entry
  pub all : entries_in (rows_with place (mark.seq + length rows) (held ++ rows) entry) new
      ≡ with_appended (entries_in (held ++ rows) old) entry
  pub last : HoldsNow (λ now. HeldAt place.log (rows_with place (mark.seq + length rows) (held ++ rows) entry)
      (map (entry_of now.bytes) (rows_with place (mark.seq + length rows) (held ++ rows) entry)) commits now) new

held_more : (log : ℕ) (rows : List Row) (row : Row) (list : List Entry) (entry : Entry) (commits : CommitsState) (medium : Medium)
    → EachCommitted (λ body. body.head.seq ≤ seq_of row) commits
    → length list ≡ length rows → HeldAt log rows list commits medium
    → HeldAt log (rows ++ row ∷ []) (list ++ entry ∷ []) commits medium
held_more log rows row list entry commits medium heads same held =
    each_as (λ b. (b.head.seq ≤ seq_of row) × Holds log rows list medium b)
    (Holds log (rows ++ row ∷ []) (list ++ entry ∷ []) medium) commits
    (λ body is. holds_more log rows row list entry body medium is.0 same is.1)
    (each_both (λ b. b.head.seq ≤ seq_of row) (Holds log rows list medium) commits heads held)

-- the entries with that of a row more
map_more : (f : Row → Entry) (rows : List Row) (row : Row) (entry : Entry) → f row ≡ entry
    → map f (rows ++ row ∷ []) ≡ map f rows ++ entry ∷ []
map_more f rows row entry is = map-append f rows (row ∷ []) ∙ ap (λ e. map f rows ++ e ∷ []) is

appended_in : (place : Room) (mark : Mark) (least size : ℕ) (held rows : List Row) (entry : Entry) (piece : List ℕ)
    (commits : CommitsState) (old new : List Medium)
    → IsRoom place → least ≤ place.log → Reach place mark.position least rows
    → need place (record_sectors entry) ≤ free place → IsPiece entry (mark.seq + length rows) piece
    → byte_of (position place (record_sectors entry)) + length piece ≤ size → AllByRecursion (HasSize size) old
    → EachCommitted (λ body. body.head.seq ≤ mark.seq + length rows) commits
    → StaysIn place.log mark rows (held ++ rows) commits old new
    → HoldsNow (PadStands place (mark.seq + length rows) (record_sectors entry)) old
    → new ≡ moments_after (after_write (byte_of (position place (record_sectors entry))) piece) old
    → HasMoreIn place mark held rows entry commits old new
appended_in place mark least size held rows entry piece commits [] new room most reach enough is_piece within media heads stays
    pad moments =
    let P : List Medium → Type 0 = λ m. HasMoreIn place mark held rows entry commits [] m in
    subst P (sym moments) (record { records = tt; entries = refl; all = refl; last = tt })
appended_in place mark least size held rows entry piece commits (now ∷ past) more room most reach enough is_piece within media
    heads stays pad moments =
    let count : ℕ = record_sectors entry in
    let at : ℕ = position place count in
    let seq : ℕ = mark.seq + length rows in
    let row : Row = row_of seq at entry in
    let all : List Row = held ++ rows in
    let whole = is_piece.whole in
    let fits : byte_of at + length piece ≤ length now.bytes = (let e = media.0.bytes in omega (arith, e, within)) in
    let medium : Medium = after_write (byte_of at) piece now in
    let new : List ℕ = medium.bytes in
    let long : byte_of (at + count) ≤ length new = (let e = keeps_length (byte_of at) piece now.bytes fits in
    omega (arith, e, fits, whole)) in
    let goes = has_place place count room enough in
    let keeps = keeps_written at count piece now.bytes whole fits in
    let there : log_sectors at count new ≡ piece = written_there at count piece now.bytes whole fits in
    let has : IsRecordOf entry seq (log_sectors at count new) = subst (IsRecordOf entry seq) (sym there) is_piece.is_record in
    let is : entry_of new row ≡ entry = entry_written at seq entry new long has in
    let set = placed_row place seq entry room enough in
    let header : HasPad place.log place.head seq row new = λ less.
    let padded = set.pad less in
    let some = padded_entry place seq entry padded.0 in
    subst₂ (λ n b. IsHeaderOf (Pad (n - 1)) seq b) (ap (pad_before place) (sym (row_size seq at entry)) ∙ padded.1)
    (sym (keeps place.head 1 (goes.pad some).2)) (pad some) in
    let own : IsRecordOf (entry_of new row) seq (log_sectors at count new) =
    subst (λ e. IsRecordOf e seq (log_sectors at count new)) (sym is) has in
    let stands_there : IsRecordOf (entry_of new row) seq (log_sectors (position_of row) (record_size row) new) =
    subst₂ (λ p n. IsRecordOf (entry_of new row) seq (log_sectors p n new)) (sym (row_position seq at entry))
    (sym (row_size seq at entry)) own in
    let kept : StaysIn place.log mark rows all commits (now ∷ past) (medium ∷ now ∷ past) =
    subst (StaysIn place.log mark rows all commits (now ∷ past)) moments stays in
    let listed = have_more rows row place.log mark.position place.head mark.seq new
    (end_is rows place.log mark.position least place.head reach.inside room.head most reach.further reach.follow) kept.records
    header stands_there in
    let list = map_more (entry_of new) rows row entry is in
    let full = map_more (entry_of new) all row entry is in
    let same : map (entry_of new) rows ≡ map (entry_of now.bytes) rows =
    (let e : entries_in rows (medium ∷ now ∷ past) ≡ entries_in rows (now ∷ past) = kept.entries in cc) in
    let same_all : map (entry_of new) all ≡ map (entry_of now.bytes) all =
    (let e : entries_in all (medium ∷ now ∷ past) ≡ entries_in all (now ∷ past) = kept.all_entries in cc) in
    let on : EachCommitted (λ b. b.head.seq ≤ seq_of row) commits =
    (let Q : ℕ → Type 0 = λ n. EachCommitted (λ b. b.head.seq ≤ n) commits in subst Q (sym (row_seq seq at entry)) heads) in
    let held_now : HeldAt place.log (all ++ row ∷ []) (map (entry_of new) all ++ entry ∷ []) commits medium =
    held_more place.log all row (map (entry_of new) all) entry commits medium on (length-map all (entry_of new)) kept.last in
    let P : List Medium → Type 0 = λ m. HasMoreIn place mark held rows entry commits (now ∷ past) m in
    subst P (sym moments) (record {
      records = listed;
      entries = ap Some (list ∙ ap (λ l. l ++ entry ∷ []) same);
      all = ap Some (full ∙ ap (λ l. l ++ entry ∷ []) same_all);
      last = subst (λ l. HeldAt place.log (all ++ row ∷ []) l commits medium) (sym full) held_now;
    })

-- as far as the head is from the tail, with one record more
further_after : (log tail used head sectors_taken next : ℕ) → tail < log → used + sectors_taken ≤ log
    → IsFurther log tail used head → IsFurther log head sectors_taken next → IsFurther log tail (used + sectors_taken) next
further_after log tail used head sectors_taken next inside most (inl a) (inl b) = inl (omega (arith, a, b))
further_after log tail used head sectors_taken next inside most (inl a) (inr b) = inr (omega (arith, a, b))
further_after log tail used head sectors_taken next inside most (inr a) (inl b) = inr (omega (arith, a, b))
further_after log tail used head sectors_taken next inside most (inr a) (inr b) = absurd (omega (arith, a, b, inside, most))

-- a record that has room, and where it stands
pub record HasRoom (place : Room) (row : Row) (size : ℕ) : Type 0 where
  pub room : IsRoom (after_record place size)
  pub stands : StandsFrom place.log place.head row
  pub takes : sectors_taken place.log place.head row ≡ need place size
  pub most : place.used + need place size ≤ place.log
  pub further : IsFurther place.log place.head (need place size) (after_record place size).head

has_room : (place : Room) (seq : ℕ) (entry : Entry) → IsRoom place → need place (record_sectors entry) ≤ free place
    → HasRoom place (row_of seq (position place (record_sectors entry)) entry) (record_sectors entry)
has_room place seq entry room enough =
    let count : ℕ = record_sectors entry in
    let at : ℕ = position place count in
    let row : Row = row_of seq at entry in
    let most : place.used + need place count ≤ place.log = (let e = room.used in omega (arith, enough, e)) in
    let set = placed_row place seq entry room enough in
    let takes : sectors_taken place.log place.head row ≡ need place count = set.takes ∙ ap (need place) (row_size seq at entry) in
    let step = step_of place.log place.head row room.head (omega (arith, most, takes)) set.stands in
    let to : next place.log row ≡ (after_record place count).head = set.to_next
    ∙ ap (λ n. (after_record place n).head) (row_size seq at entry) in
    record {
      room = record { limit = room.limit; head = subst (λ n. n < place.log) to step.inside; used = most };
      stands = set.stands;
      takes = takes;
      most = most;
      further = subst₂ (IsFurther place.log place.head) takes to step.further;
    }

-- the records up to the head, with one more
more_reach : (place : Room) (size from used : ℕ) (rows : List Row) (row : Row) → IsRoom place → used ≤ place.used
    → HasRoom place row size → Reach place from used rows
    → Reach (after_record place size) from (used + need place size) (rows ++ row ∷ [])
more_reach place size from used rows row room less has reach =
    let log : ℕ = place.log in
    let most = has.most in
    let u = room.used in
    let P : ℕ → Type 0 = λ n. Follow log from (used + n) (rows ++ row ∷ []) in
    record {
      inside = reach.inside;
      further = further_after log from used place.head (need place size) (after_record place size).head reach.inside
          (omega (arith, less, most)) reach.further has.further;
      follow = subst P has.takes (follow_more rows row log from used place.head reach.inside room.head (omega (arith, less, u))
          reach.further reach.follow has.stands);
    }

-- a commit of some rows is one of them with one more
more_commit : (place : Room) (size used : ℕ) (rows : List Row) (row : Row) (body : CommitBody) → IsRoom place → used ≤ place.used
    → HasRoom place row size → body.tail.seq ≤ seq_of row → body.head.seq ≤ seq_of row
    → IsCommitOfRows place rows used body → IsCommitOfRows (after_record place size) (rows ++ row ∷ [])
    (used + need place size) body
more_commit place size used rows row body room less has from to is =
    let log : ℕ = place.log in
    let more : since body.tail.seq (rows ++ row ∷ []) ≡ since body.tail.seq rows ++ row ∷ [] =
    since_more rows row body.tail.seq from in
    let same : between body (rows ++ row ∷ []) ≡ between body rows = between_more rows row body to in
    let reach = more_reach place size body.tail.position used (since body.tail.seq rows) row room less has is.reach in
    record {
      reach = subst (Reach (after_record place size) body.tail.position (used + need place size)) (sym more) reach;
      more = is.more ++ row ∷ [];
      whole = more ∙ ap (λ r. r ++ row ∷ []) is.whole ∙ append_assoc (between body rows) is.more (row ∷ [])
          ∙ ap (λ r. r ++ (is.more ++ row ∷ [])) (sym same);
      numbered = subst (AreNumbered body.tail.seq) (sym same) is.numbered;
      seqs = ap (λ r. body.tail.seq + length r) same ∙ is.seqs;
      end = ap (end_of_rows log body.tail.position) same ∙ is.end;
    }

-- the log with one entry more
pub record HasOneMore (place : Room) (mark : Mark) (held rows : List Row) (entry : Entry) (old new : CommitsState) : Type 0 where
  pub log : IsLog (after_record place (record_sectors entry)) (mark_with mark (position place (record_sectors entry)) rows) held
      (rows_with place (mark.seq + length rows) rows entry) new
  pub entries : entries_in (rows_with place (mark.seq + length rows) rows entry) new.disk.moments
      ≡ with_appended (entries_in rows old.disk.moments) entry
  pub all : entries_in (held ++ rows_with place (mark.seq + length rows) rows entry) new.disk.moments
      ≡ with_appended (entries_in (held ++ rows) old.disk.moments) entry
  pub stays : StaysIn place.log mark rows (held ++ rows) old old.disk.moments new.disk.moments

-- where the next commit's tail is then
pub record HasStart (place : Room) (mark : Mark) (rows : List Row) (row : Row) (most : ℕ) (moments : List Medium) (start : ℕ) :
    Type 0 where
  pub within : ReachWithin place start most (rows ++ row ∷ [])
  pub records : HoldsNow (λ now. HaveRecords place.log start mark.seq (rows ++ row ∷ []) now.bytes) moments

has_start : (place : Room) (mark : Mark) (rows : List Row) (row : Row) (at used most : ℕ) (moments : List Medium) → IsRoom place
    → used ≤ most → most ≤ place.log → position_of row ≡ at → Reach place mark.position used (rows ++ row ∷ [])
    → HoldsNow (λ now. HaveRecords place.log mark.position mark.seq (rows ++ row ∷ []) now.bytes) moments
    → HasStart place mark rows row most moments (mark_with mark at rows).position
has_start place mark [] row at used most moments room less enough is reach records =
    let P : ℕ → Type 0 = λ p. HasStart place mark [] row most moments p in
    let again = restart place mark.position used row [] room (omega (arith, less, enough)) reach in
    let w = again.within in
    subst P is (record {
      within = record { used = again.used; within = omega (arith, w, less); reach = again.reach };
      records = each_restart moments records;
    })
  where
    each_restart : (moments : List Medium)
        → HoldsNow (λ now. HaveRecords place.log mark.position mark.seq (row ∷ []) now.bytes) moments
        → HoldsNow (λ now. HaveRecords place.log (position_of row) mark.seq (row ∷ []) now.bytes) moments
    each_restart [] records = tt
    each_restart (now ∷ past) records = have_restart row [] place.log mark.position mark.seq now.bytes records
has_start place mark (first ∷ rows) row at used most moments room less enough is reach records =
    record { within = record { used = used; within = less; reach = reach }; records = records }

-- the commits of a log that has changed, where each has N sectors more in use
pub moved_commits : (place grown : Room) (mark after : Mark) (own least : ℕ) (held dropped rows left : List Row) (n : ℕ)
    (last : CommitBody) (unfinished : Option CommitBody)
    → ((body : CommitBody) → (c : IsCommitOfLog place mark own held rows body)
    → (d : IsCommitOfLog grown after least dropped left body) × (d.used ≡ c.used + n))
    → AreCommitsOfLog place mark own held rows last unfinished → AreCommitsOfLog grown after least dropped left last unfinished
moved_commits place grown mark after own least held dropped rows left n last None of are = ((of last are.0).0, tt)
moved_commits place grown mark after own least held dropped rows left n last (Some more) of are =
    let a = of last are.0 in
    let b = of more are.1.0 in
    let e = a.1 in
    let f = b.1 in
    let less = are.1.1 in
    (a.0, (b.0, omega (arith, e, f, less), are.1.2))

pub moved_first : (place grown : Room) (mark after : Mark) (own least : ℕ) (held dropped rows left : List Row) (n : ℕ)
    (last : CommitBody) (unfinished : Option CommitBody)
    → (of : (body : CommitBody) → (c : IsCommitOfLog place mark own held rows body)
    → (d : IsCommitOfLog grown after least dropped left body) × (d.used ≡ c.used + n))
    → (are : AreCommitsOfLog place mark own held rows last unfinished)
    → (moved_commits place grown mark after own least held dropped rows left n last unfinished of are).0.used ≡ are.0.used + n
unfolding moved_commits
moved_first place grown mark after own least held dropped rows left n last None of are = (of last are.0).1
moved_first place grown mark after own least held dropped rows left n last (Some more) of are = (of last are.0).1

pub one_more : (place : Room) (mark : Mark) (held rows : List Row) (entry : Entry) (piece : List ℕ) (old new : CommitsState)
    → IsLog place mark held rows old
    → need place (record_sectors entry) ≤ free place → IsPiece entry (mark.seq + length rows) piece
    → HoldsNow (PadStands place (mark.seq + length rows) (record_sectors entry)) old.disk.moments
    → IsWrittenAt (byte_of (position place (record_sectors entry))) piece old new
    → mark.seq + length rows + 1 < 2 ^ 64
    → HasOneMore place mark held rows entry old new
one_more place mark held rows entry piece old new log enough is_piece pad written numbers =
    let is = log.is in
    let whole = is_piece.whole in
    let count : ℕ = record_sectors entry in
    let at : ℕ = position place count in
    let seq : ℕ = mark.seq + length rows in
    let row : Row = row_of seq at entry in
    let all : List Row = held ++ rows in
    let grown : Room = after_record place count in
    let numbered : seq_of row ≡ seq = row_seq seq at entry in
    let assoc : (held ++ rows) ++ row ∷ [] ≡ held ++ (rows ++ row ∷ []) = append_assoc held rows (row ∷ []) in
    let goes = has_place place count is.room enough in
    let has = has_room place seq entry is.room enough in
    let within : byte_of at + length piece ≤ old.disk.size =
    (let e = goes.inside in let f = is.fits in omega (arith, e, f, whole)) in
    let stays = write_stays place mark at count held rows piece old new log goes.free whole within written in
    let last = is.committed.0 in
    let least : is.least ≤ place.used = (let a = last.least in let b = last.most in omega (arith, a, b)) in
    let heads = each_as (IsCommitOfLog place mark is.least held rows) (λ b. b.head.seq ≤ seq) old (λ b c. c.head)
    (each_of place mark is.least held rows old is.committed) in
    let u = is.room.used in
    let stand = appended_in place mark is.least old.disk.size held rows entry piece old old.disk.moments new.disk.moments is.room
    (omega (arith, least, u)) is.reach enough is_piece within is.on_disk.is_disk.media heads stays pad written.moments in
    let m = has.most in
    let start = has_start grown mark rows row at (is.least + need place count) (is.least + need place count) new.disk.moments
    has.room (omega arith) (omega (arith, m, least)) (row_position seq at entry)
    (more_reach place count mark.position is.least rows row is.room least has is.reach) stand.records in
    let own : ℕ = start.within.used in
    let w = start.within.within in
    let longer = length-append rows (row ∷ []) in
    let of : (body : CommitBody) → (c : IsCommitOfLog place mark is.least held rows body)
    → (d : IsCommitOfLog grown (mark_with mark at rows) own held (rows ++ row ∷ []) body)
    × (d.used ≡ c.used + need place count) =
    λ body c.
    let f = c.tail in
    let t = c.head in
    let l = c.least in
    let o = c.most in
    let Q : List Row → Type 0 = λ r. IsCommitOfRows grown r (c.used + need place count) body in (
      record {
        used = c.used + need place count;
        least = omega (arith, l, w);
        most = omega (arith, o);
        is = subst Q assoc (more_commit place count c.used all row body is.room o has (omega (arith, f, numbered))
            (omega (arith, t, numbered)) c.is);
        tail = f;
        head = omega (arith, t, longer);
      },
      refl,
    ) in
    let committed = moved_commits place grown mark (mark_with mark at rows) is.least own held held rows (rows ++ row ∷ [])
    (need place count) old.body old.unfinished of is.committed in
    let size = written.costs.calls.size in
    let tail_on = last.tail in
    let S : CommitBody → Option CommitBody → Type 0 = λ b u.
    (c : AreCommitsOfLog grown (mark_with mark at rows) own held (rows ++ row ∷ []) b u) × (c.0.used ≡ grown.used)
    × (since b.tail.seq (held ++ (rows ++ row ∷ [])) ≡ held ++ (rows ++ row ∷ [])) in
    let F : List Row → Type 0 = λ r. since old.body.tail.seq r ≡ r in
    let from : since old.body.tail.seq (all ++ row ∷ []) ≡ all ++ row ∷ [] =
    since_more all row old.body.tail.seq (omega (arith, tail_on, numbered)) ∙ ap (λ r. r ++ row ∷ []) log.from in
    let used : committed.0.used ≡ grown.used =
    (let e = moved_first place grown mark (mark_with mark at rows) is.least own held held rows (rows ++ row ∷ [])
    (need place count) old.body old.unfinished of is.committed in let f = log.used in omega (arith, e, f)) in
    let moved : S new.body new.unfinished = subst₂ S (sym written.same.same_body) (sym written.same.same_unfinished)
    (committed, used, subst F assoc from) in
    let L : List Row → Type 0 = λ r. HoldsNow (λ now. HeldAt place.log r (map (entry_of now.bytes) r) new now) new.disk.moments in
    let E : List Row → Type 0 = λ r. entries_in r new.disk.moments ≡ with_appended (entries_in all old.disk.moments) entry in
    record {
      log = record {
        is = record {
          room = has.room;
          least = own;
          reach = start.within.reach;
          numbered = numbered_more rows row mark.seq is.numbered numbered;
          below = is.below;
          records = start.records;
          committed = moved.0;
          last = subst L assoc (held_same place.log (all ++ row ∷ []) old new new.disk.moments written.same stand.last);
          on_disk = written.on_disk;
          sectors = is.sectors ∙ ap log_of (sym size);
          fits = (let e = is.fits in omega (arith, e, size));
          numbers = omega (arith, longer, numbers);
        };
        from = moved.2;
        used = moved.1;
      };
      entries = stand.entries;
      all = subst E assoc stand.all;
      stays = stays;
    }
