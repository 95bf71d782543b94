-- A log before and after `commit`.
use Rattle.std.proofs.Common.{◌≡◌, ℕ, ◌+◌, ◌-◌, ◌≤◌, ◌⊎◌, List, [], ◌∷◌, ◌++◌, length, take, drop, map, refl, sym, ◌∙◌, ap, subst}
use Rattle.std.proofs.Common.{inl, inr, arith, append-nil}
use Rattle.std.specs.Prelude.{Option, Some, None, IfSome, Result, Ok, Err, OnOk, OnErr}
use Rattle.std.specs.Option.{option_map}
use Rattle.std.specs.List.{AllByRecursion}
use Rattle.std.proofs.Math.Path.{subst₂}
use Rattle.std.proofs.Math.Seq.{take-append_seam, drop-append_seam}
use Rattle.std.proofs.lemmas.List.{take-append-drop, length-append, length-drop, length-take-le}
use Rattle.lsvd_base.specs.declared.entry.Entry.{Entry}
use Rattle.lsvd_device.specs.Medium.{Medium}
use Rattle.lsvd_device.specs.Device.{HoldsSince, HoldsNow}
use Rattle.log_room.specs.Room.{Room, room_of}
use Rattle.commit_body.specs.declared.body.CommitBody.{CommitBody}
use Rattle.commit_body.specs.declared.body.Mark.{Mark}
use Rattle.commit_body.specs.Body.{MayStand}
use Rattle.commit_slot.specs.Slots.{log_of}
use Rattle.commit_slot.specs.Commits.{CommitsState, Leaves, IsCommit, IsLast, IsLastOr, IsBegun, IsMade, IsMadeInPart}
use Rattle.commit_slot.specs.Commits.{finished_number, finished_body}
use Rattle.commit_slot.specs.Committing.{IsCommitted, FailsToCommit, IsCrashSafeCommit}
use Rattle.commit_slot.specs.OnDisk.{AreOnDisk}
use Rattle.commit_slot.specs.LogArea.{log_area, LeavesAsBefore, LeavesLogArea, KeepsLogArea, MakesLogAreaDurable, IsCommitting}
use Rattle.commit_slot.proofs.Passing.{passes_as}
use Rattle.cache_log.specs.declared.row.Row.{Row}
use Rattle.cache_log.specs.Rows.{entry_of, StandsFrom, AreNumbered, Follow, end_of_rows, HaveRecords, since, entries_since}
use Rattle.cache_log.specs.Rows.{between, entries_between}
use Rattle.cache_log.specs.Log.{entries_in, LogState}
use Rattle.cache_log.specs.Committed.{HasRecords, LeavesEntries, LeavesEntriesSince, sectors_from, EndsAtHead, IsOnDisk}
use Rattle.cache_log.specs.Committed.{HasSameList, IsReleased, IsCommittedLog, body_of}
use Rattle.cache_log.specs.Invariant.{Reach, RecordsLast, IsLog, IsLogHeld, EachCommitted, IsCommitOfRows, IsCommitOfLog}
use Rattle.cache_log.specs.Invariant.{AreCommitsOfLog, Holds}
use Rattle.cache_log.proofs.CommittedLemmas.{view_of, now_entries, now_committed, each_as, each_both, each_same, each_last}
use Rattle.cache_log.proofs.CommittedLemmas.{finished_has, has_records, leaves_entries, HeldAt, AreCommits, are_commits}
use Rattle.cache_log.proofs.LogAreaLemmas.{same_log_area, same_entries}
use Rattle.cache_log.proofs.Places.{some_size, taken_round, end_is}
use Rattle.cache_log.proofs.Reaches.{reach_is}
use Rattle.cache_log.proofs.RowLemmas.{run_of}
use Rattle.cache_log.proofs.Slices.{since_held, since_append, since_since, since_below, since_shorter, none_held, between_all}
use Rattle.cache_log.proofs.Slices.{between_held, between_since, map_since, map_between}

-- ---- the body of a commit of all entries

abbrev pub body_with : CommitBody → Room → Mark → List Row → CommitBody
body_with body place mark rows = record body {
  tail = mark;
  head = record { position = place.head; seq = mark.seq + length rows };
}

least_used : (place : Room) (mark : Mark) (held rows : List Row) (commits : CommitsState)
    → (log : IsLogHeld place mark held rows commits) → log.least ≤ place.used
least_used place mark held rows commits log = (let a = log.committed.0.least in let b = log.committed.0.most in
    omega (arith, a, b))

own_between : (place : Room) (mark : Mark) (held rows : List Row) (commits : CommitsState)
    → IsLogHeld place mark held rows commits
    → between (body_with commits.body place mark rows) (held ++ rows) ≡ rows
own_between place mark held rows commits log =
    let body : CommitBody = body_with commits.body place mark rows in
    between_held held rows mark.seq body (omega arith) log.below ∙ between_all rows mark.seq body log.numbered (omega arith)
    (omega arith)

pub own_commit : (place : Room) (mark : Mark) (held rows : List Row) (commits : CommitsState)
    → (log : IsLogHeld place mark held rows commits)
    → IsCommitOfRows place (held ++ rows) log.least (body_with commits.body place mark rows)
own_commit place mark held rows commits log =
    let from : since mark.seq (held ++ rows) ≡ rows = since_held held rows mark.seq log.below log.numbered in
    let mine = own_between place mark held rows commits log in
    let most = least_used place mark held rows commits log in
    let used = log.room.used in
    let r = log.reach in
    record {
      reach = subst (Reach place mark.position log.least) (sym from) r;
      more = [];
      whole = from ∙ sym (append-nil rows) ∙ ap (λ l. l ++ []) (sym mine);
      numbered = subst (AreNumbered mark.seq) (sym mine) log.numbered;
      seqs = ap (λ l. mark.seq + length l) mine;
      end = ap (end_of_rows place.log mark.position) mine ∙ end_is rows place.log mark.position log.least place.head r.inside
          log.room.head (omega (arith, most, used)) r.further r.follow;
    }

own_of_log : (place : Room) (mark : Mark) (held rows : List Row) (commits : CommitsState)
    → (log : IsLogHeld place mark held rows commits)
    → IsCommitOfLog place mark log.least held rows (body_with commits.body place mark rows)
own_of_log place mark held rows commits log = record {
  used = log.least;
  least = omega arith;
  most = least_used place mark held rows commits log;
  is = own_commit place mark held rows commits log;
  tail = omega arith;
  head = omega arith;
}

-- it may stand for the log
pub all_may : (place : Room) (mark : Mark) (held rows : List Row) (commits : CommitsState)
    → IsLogHeld place mark held rows commits → MayStand (body_with commits.body place mark rows) place.log
all_may place mark held rows commits log =
    let r = log.reach in
    let i = r.inside in
    let most = least_used place mark held rows commits log in
    let used = log.room.used in
    let run = run_of rows place.log mark.position log.least i (omega (arith, most, used)) r.follow in
    record {
      tail_inside = i;
      head_inside = log.room.head;
      in_order = omega arith;
      one_place = λ same.
          let none : log.least ≡ 0 = run.none (omega (arith, same)) in
          elim (r.further) [ inl e ↦ omega (arith, e, none) | inr e ↦ absurd (omega (arith, e, none, i)) ];
    }

-- ---- what every log promises

-- records that reach the head from the log's beginning, and by no more sectors from another place
start_first : (place : Room) (start least used : ℕ) (rows : List Row) → used ≤ place.log → least ≤ used → Reach place 0 used rows
    → Reach place start least rows → start ≡ 0
start_first place start least used [] most less first own =
    let a = first.follow in
    let b = own.follow in
    let i = own.inside in
    let j = first.inside in
    elim (first.further) [
      | inl e ↦ elim (own.further) [ inl f ↦ omega (arith, a, b, e, f) | inr f ↦ absurd (omega (arith, b, f, i)) ]
      | inr e ↦ absurd (omega (arith, a, e, j))
    ]
start_first place start least used (row ∷ rows) most less first own = start_in first.follow.0 own.follow.0
  where
    start_in : StandsFrom place.log 0 row → StandsFrom place.log start row → start ≡ 0
    start_in (inr round) stands = absurd (omega (arith, round.1))
    start_in (inl here) (inl there) = sym there.0 ∙ here.0
    start_in (inl here) (inr round) =
        let takes = taken_round place.log start row (omega (arith, round.0, round.1)) in
        let enough = own.follow.1 in
        let some = some_size row in
        let i = own.inside in
        elim (own.further) [
          | inl f ↦ absurd (elim (first.further) [
            | inl e ↦ omega (arith, e, f, takes, enough, some, i, less)
            | inr e ↦ omega (arith, e, f, takes, enough, some, i, less, most)
          ])
          | inr f ↦ absurd (elim (first.further) [
            | inl e ↦ omega (arith, e, f, takes, enough, some, i, less)
            | inr e ↦ omega (arith, e, f, takes, enough, some, i, less, most)
          ])
        ]

start_is : (place : Room) (mark : Mark) (held rows : List Row) (commits : CommitsState) → IsLog place mark held rows commits
    → commits.body.tail ≡ record { position = 0; seq = mark.seq } → mark.position ≡ 0
start_is place mark held rows commits log is =
    let last = log.is.committed.0 in
    let less = last.least in
    let m = last.most in
    let u = log.is.room.used in
    let R : Mark → Type 0 = λ t. Reach place t.position last.used (since t.seq (held ++ rows)) in
    let from : since mark.seq (held ++ rows) ≡ rows = since_held held rows mark.seq log.is.below log.is.numbered in
    let reach : Reach place 0 last.used rows = subst (Reach place 0 last.used) from (subst R is last.is.reach) in
    start_first place mark.position log.is.least last.used rows (omega (arith, m, u)) less reach log.is.reach

-- the sectors in use are those from the last commit's tail to the head
used_is : (place : Room) (mark : Mark) (held rows : List Row) (commits : CommitsState) → IsLog place mark held rows commits
    → place.used ≡ sectors_from place.log commits.body.tail.position place.head (held ++ rows)
used_is place mark held rows commits log =
    let last = log.is.committed.0 in
    let m = last.most in
    let u = log.is.room.used in
    sym log.used ∙ reach_is place commits.body.tail.position last.used (since commits.body.tail.seq (held ++ rows)) log.is.room
    (omega (arith, m, u)) last.is.reach
    ∙ ap (sectors_from place.log commits.body.tail.position place.head) log.from

pub is_on_disk : (place : Room) (mark : Mark) (held rows : List Row) (commits : CommitsState) (reserved : ℕ)
    → IsLog place mark held rows commits → IsOnDisk (view_of place mark held rows commits reserved)
is_on_disk place mark held rows commits reserved log =
    let is = log.is in
    let are = are_commits place mark is.least held rows commits is.room.used is.committed in
    record {
      commits = is.on_disk;
      sectors = is.sectors;
      used = used_is place mark held rows commits log;
      numbered = is.numbered;
      held = λ same. none_held held rows commits.body.tail.seq mark.seq (omega (arith, same)) is.below log.from is.numbered;
      start = start_is place mark held rows commits log;
      ends =
          each_as (λ body. (n : ℕ) × (n ≤ place.log) × IsCommitOfRows place (held ++ rows) n body)
          (EndsAtHead (view_of place mark held rows commits reserved)) commits (λ body one. one.2.end) are.each;
      all = refl;
      entries = refl;
      stands =
          let Q : ℕ → Type 0 = λ n. HoldsNow (Leaves n (IsLast commits)) commits.disk.moments in
          now_entries place (held ++ rows) commits commits.disk.moments are (subst Q (sym is.sectors) is.on_disk.stands) is.last;
      holds = now_committed place (held ++ rows) commits commits.disk.moments are is.last;
    }

-- ---- a moment of the commit

-- what a stop leaves of the log area it might have left before, or a read gave it
abbrev IsFine : Medium → Medium → Type 0
IsFine before medium = LeavesAsBefore before medium ⊎ LeavesLogArea (log_area before.bytes) medium

-- the records of a commit last at a moment, with these entries
abbrev Lasts : (log : ℕ) → List Row → List Entry → Medium → CommitBody → Type 0
Lasts log rows list medium body = RecordsLast log body.tail.position body.tail.seq (between body rows)
    (entries_between body rows list) medium

abbrev Reads : (log : ℕ) → List Row → Medium → CommitBody → Type 0
Reads log rows medium body = HaveRecords log body.tail.position body.tail.seq (between body rows) medium.bytes

durable_lasts : (log : ℕ) (rows : List Row) (before medium : Medium) (body : CommitBody) → Reads log rows before body
    → LeavesLogArea (log_area before.bytes) medium
    → Lasts log rows (map (entry_of before.bytes) rows) medium body
durable_lasts log rows before medium body have durable = λ left may.
    let same = same_log_area (between body rows) log body.tail.position body.tail.seq left before.bytes (durable left may) have in
    (same.0, same.1 ∙ sym (map_between (entry_of before.bytes) rows body))

fine_lasts : (log : ℕ) (rows : List Row) (before medium : Medium) (body : CommitBody)
    → Holds log rows (map (entry_of before.bytes) rows) before body → IsFine before medium
    → Lasts log rows (map (entry_of before.bytes) rows) medium body
fine_lasts log rows before medium body holds (inl as_before) = λ left may.
    let was = as_before left may in
    let had = holds.1 was.0 was.1 in
    let same = same_log_area (between body rows) log body.tail.position body.tail.seq left was.0 was.2 had.0 in
    (same.0, same.1 ∙ had.1)
fine_lasts log rows before medium body holds (inr durable) = durable_lasts log rows before medium body holds.0 durable

-- where the log area is as before, the same records are read
reads_same : (log : ℕ) (rows : List Row) (before medium : Medium) (body : CommitBody)
    → log_area medium.bytes ≡ log_area before.bytes → Reads log rows before body → Reads log rows medium body
reads_same log rows before medium body same reads =
    (same_log_area (between body rows) log body.tail.position body.tail.seq medium.bytes before.bytes same reads).0

-- a body is a commit of some rows
abbrev IsOne : Room → List Row → CommitBody → Type 0
IsOne place rows body = (used : ℕ) × (used ≤ place.log) × IsCommitOfRows place rows used body

-- what a log and a body of all its entries are at the moment before
pub record IsBefore (place : Room) (rows : List Row) (commits : CommitsState) (body : CommitBody) (before : Medium) : Type 0 where
  pub committed : AreCommits place rows commits
  pub all : IsOne place rows body
  pub records : Reads place.log rows before body
  pub last : HeldAt place.log rows (map (entry_of before.bytes) rows) commits before

committing_leaves : (place : Room) (rows : List Row) (commits : CommitsState) (body : CommitBody) (before medium : Medium)
    → IsBefore place rows commits body before
    → IsCommitting place.log commits body before medium → LeavesEntries place.log rows (map (entry_of before.bytes) rows)
    (IsLastOr commits body) medium
committing_leaves place rows commits body before medium was (inl (leaves, as_before)) = λ left may.
    let log : ℕ = place.log in
    let list : List Entry = map (entry_of before.bytes) rows in
    let is = leaves left may in
    let both = each_both (IsOne place rows) (Holds log rows list before) commits was.committed.each was.last in
    let one = each_last (λ b. IsOne place rows b × Holds log rows list before b) commits is.0 is.1 both is.2 in (
      is.0,
      is.1,
      inl is.2,
      is.3,
      has_records place one.0.0 rows list is.1 left one.0.1 one.0.2
          (fine_lasts log rows before medium is.1 one.1 (inl as_before) left may),
    )
committing_leaves place rows commits body before medium was (inr (leaves, durable)) = λ left may.
    let log : ℕ = place.log in
    let list : List Entry = map (entry_of before.bytes) rows in
    let is = leaves left may in
    let P : CommitBody → Type 0 = λ b. IsOne place rows b × Reads log rows before b in
    let old : EachCommitted P commits =
    each_both (IsOne place rows) (Reads log rows before) commits was.committed.each
    (each_as (Holds log rows list before) (Reads log rows before) commits (λ b holds. holds.0) was.last) in
    let one : P is.1 =
    elim (is.2) [
      | inl last ↦ each_last P commits is.0 is.1 old last
      | inr made ↦ subst P (sym made.same_body) (was.all, was.records)
    ] in (
      is.0,
      is.1,
      is.2,
      is.3,
      has_records place one.0.0 rows list is.1 left one.0.1 one.0.2
          (durable_lasts log rows before medium is.1 one.1 durable left may),
    )

-- ---- the moments of a disk

-- the same of the newest one
abbrev IsBeforeNow : Room → List Row → CommitsState → CommitBody → List Medium → Type 0
IsBeforeNow place rows commits body moments = HoldsNow (IsBefore place rows commits body) moments

since_in : (place : Room) (rows : List Row) (commits : CommitsState) (body : CommitBody) (old new : List Medium)
    → IsBeforeNow place rows commits body old
    → HoldsNow (λ before. HoldsSince (IsCommitting place.log commits body before) old new) old
    → IfSome (entries_in rows old) (λ list. HoldsSince (LeavesEntries place.log rows list (IsLastOr commits body)) old new)
since_in place rows commits body [] new was passes = tt
since_in place rows commits body (before ∷ past) new was passes =
    passes_as (IsCommitting place.log commits body before) (LeavesEntries place.log rows (map (entry_of before.bytes) rows)
    (IsLastOr commits body)) (before ∷ past) new
    (λ medium is. committing_leaves place rows commits body before medium was is) passes

-- the newest moment is fine
first_fine : (log : ℕ) (commits : CommitsState) (body : CommitBody) (before : Medium) (past since new : List Medium)
    → new ≡ since ++ (before ∷ past) → AllByRecursion (IsCommitting log commits body before) since
    → HoldsNow (IsFine before) new
first_fine log commits body before past [] new moments each =
    let fine : IsFine before before = inl (λ left may. (left, may, refl)) in
    subst (HoldsNow (IsFine before)) (sym moments) fine
first_fine log commits body before past (medium ∷ since) new moments each =
    let fine : IsFine before medium = elim (each.0) [ inl a ↦ inl a.1 | inr b ↦ inr b.1 ] in
    subst (HoldsNow (IsFine before)) (sym moments) fine

-- after the commit the records of the list stand, and all entries are the same
pub record AreKeptIn (log : ℕ) (mark : Mark) (rows all : List Row) (old new : List Medium) : Type 0 where
  pub records : HoldsNow (λ now. HaveRecords log mark.position mark.seq rows now.bytes) new
  pub entries : entries_in rows new ≡ entries_in rows old
  pub full : entries_in all new ≡ entries_in all old

kept_in : (log : ℕ) (mark : Mark) (rows all : List Row) (before : Medium) (past new : List Medium)
    → HaveRecords log mark.position mark.seq rows before.bytes → HoldsNow (λ now. log_area now.bytes ≡ log_area before.bytes) new
    → (now : Medium) (rest : List Medium) → new ≡ now ∷ rest → AreKeptIn log mark rows all (before ∷ past) new
kept_in log mark rows all before past new have kept now rest is =
    let same : log_area now.bytes ≡ log_area before.bytes =
    subst (HoldsNow (λ m. log_area m.bytes ≡ log_area before.bytes)) is kept in
    let records = same_log_area rows log mark.position mark.seq now.bytes before.bytes same have in
    let P : List Medium → Type 0 = λ m. AreKeptIn log mark rows all (before ∷ past) m in
    subst P (sym is) (record {
      records = records.0;
      entries = ap Some records.1;
      full = ap Some (same_entries all now.bytes before.bytes same);
    })

told_in : (P : Medium → Type 0) (before : Medium) (past since new : List Medium) → new ≡ since ++ (before ∷ past) → (now : Medium)
    × (rest : List Medium) × (new ≡ now ∷ rest)
told_in P before past [] new moments = (before, past, moments)
told_in P before past (medium ∷ since) new moments = (medium, since ++ (before ∷ past), moments)

pub are_kept : (log : ℕ) (mark : Mark) (rows all : List Row) (commits : CommitsState) (body : CommitBody) (old new : List Medium)
    → HoldsNow (λ now. HaveRecords log mark.position mark.seq rows now.bytes) old → KeepsLogArea old new
    → HoldsNow (λ before. HoldsSince (IsCommitting log commits body before) old new) old → AreKeptIn log mark rows all old new
are_kept log mark rows all commits body [] new records kept passes =
    let P : List Medium → Type 0 = λ m. AreKeptIn log mark rows all [] m in
    subst P (sym kept) (record { records = tt; entries = refl; full = refl })
are_kept log mark rows all commits body (before ∷ past) new records kept passes =
    let told = told_in (λ m. IsFine before m) before past passes.since new passes.moments in
    kept_in log mark rows all before past new records kept told.0 told.1 told.2

-- ---- which commits there are then

-- each commit that there may be after the call has P, if each of before has it and the body that was to be committed
each_made : (P : CommitBody → Type 0) (body : CommitBody) (old new : CommitsState) → IsMade body old new → P body
    → EachCommitted P new
each_made P body old new is has = (
  subst P (sym is.same_body) has,
  (let Q : Option CommitBody → Type 0 = λ u. IfSome u P in
      subst Q (sym is.same_unfinished) tt),
)

each_failed : (P : CommitBody → Type 0) (body : CommitBody) (old new : CommitsState) → IsMadeInPart body old new
    → EachCommitted P old → (IsBegun body old new → P body) → EachCommitted P new
each_failed P body old new (inl same) each has = each_same P old new same each
each_failed P body old new (inr (inl finished)) each has = (
  subst P (sym finished.same_body) (finished_has P old.body old.unfinished each.0 each.1),
  (let Q : Option CommitBody
      → Type 0 = λ u. IfSome u P in subst Q (sym finished.same_unfinished) tt),
)
each_failed P body old new (inr (inr begun)) each has = (
  subst P (sym begun.same_body) (finished_has P old.body old.unfinished each.0 each.1),
  (let Q : Option CommitBody → Type 0 =
      λ u. IfSome u P in subst Q (sym begun.same_unfinished) (has begun)),
)

-- what the call leaves of the commits
pub record HasTried (body : CommitBody) (old new : CommitsState) : Type 0 where
  pub outcome : IsCommitted body old new ⊎ FailsToCommit body old new
  pub crash_safe : IsCrashSafeCommit body old new
  pub kept : KeepsLogArea old.disk.moments new.disk.moments
  pub size : new.disk.size ≡ old.disk.size
  pub on_disk : AreOnDisk new

pub tried : {T E : Type 0} (result : Result T E) (body : CommitBody) (old new : CommitsState)
    → OnOk result (IsCommitted body old new) → OnErr result (FailsToCommit body old new)
    → IsCrashSafeCommit body old new → KeepsLogArea old.disk.moments new.disk.moments → new.disk.size ≡ old.disk.size
    → AreOnDisk new → HasTried body old new
tried (Ok x) body old new made fails safe kept size on_disk =
    record { outcome = inl made; crash_safe = safe; kept = kept; size = size; on_disk = on_disk }
tried (Err e) body old new made fails safe kept size on_disk =
    record { outcome = inr fails; crash_safe = safe; kept = kept; size = size; on_disk = on_disk }

-- the body that is committed is that of all entries
pub body_is : (body : CommitBody) (place : Room) (mark : Mark) (rows : List Row) (read : CommitBody) (position seq : ℕ)
    → read ≡ body → position ≡ place.head → seq ≡ mark.seq + length rows
    → record read { tail = mark; head = record { position = position; seq = seq } } ≡ body_with body place mark rows
body_is body place mark rows read position seq same at is =
    ap (λ (b : CommitBody). record b { tail = mark; head = record { position = position; seq = seq } }) same
    ∙ ap (λ p. record body { tail = mark; head = record { position = p; seq = seq } }) at
    ∙ ap (λ n. record body { tail = mark; head = record { position = place.head; seq = n } }) is

-- what the commit left, before it is seen what that released
pub left_by : {T E : Type 0} (result : Result T E) (place : Room) (mark : Mark) (held rows : List Row) (body : CommitBody)
    (old new : CommitsState) → IsLogHeld place mark held rows old → body ≡ body_with old.body place mark rows
    → OnOk result (IsCommitted body old new) → OnErr result (FailsToCommit body old new) → IsCrashSafeCommit body old new
    → KeepsLogArea old.disk.moments new.disk.moments → new.disk.size ≡ old.disk.size → AreOnDisk new
    → HasTried (body_with old.body place mark rows) old new
left_by result place mark held rows body old new log is made fails safe kept size on_disk =
    subst (λ b. HasTried b old new) is (tried result body old new made fails safe kept size on_disk)

-- the last commit, once the second half that was left is made
finished_one : (place : Room) (mark : Mark) (own : ℕ) (held rows : List Row) (last : CommitBody) (unfinished : Option CommitBody)
    → AreCommitsOfLog place mark own held rows last unfinished
    → IsCommitOfLog place mark own held rows (finished_body last unfinished)
finished_one place mark own held rows last None are = are.0
finished_one place mark own held rows last (Some more) are = are.1.0

commits_after : (place : Room) (mark : Mark) (held rows : List Row) (body : CommitBody) (old new : CommitsState) (own : ℕ)
    → HasTried body old new → AreCommitsOfLog place mark own held rows old.body old.unfinished
    → (mine : IsCommitOfLog place mark own held rows body) → mine.used ≡ own → body.tail.seq ≡ mark.seq
    → AreCommitsOfLog place mark own held rows new.body new.unfinished
commits_after place mark held rows body old new own is are mine used tail =
    let S : CommitBody → Option CommitBody → Type 0 = AreCommitsOfLog place mark own held rows in
    let finished = finished_one place mark own held rows old.body old.unfinished are in
    let less = finished.least in
    let before = finished.tail in
    let in_part : IsMadeInPart body old new → S new.body new.unfinished = λ part.
    elim part [
      | inl same ↦ subst₂ S (sym same.same_body) (sym same.same_unfinished) are
      | inr further ↦ elim further [
        | inl done ↦ subst₂ S (sym done.same_body) (sym done.same_unfinished) (finished, tt)
        | inr begun ↦ subst₂ S (sym begun.same_body) (sym begun.same_unfinished)
            (finished, (mine, omega (arith, used, less), omega (arith, tail, before)))
      ]
    ] in
    elim (is.outcome) [
      | inl made ↦ subst₂ S (sym made.made.same_body) (sym made.made.same_unfinished) (mine, tt)
      | inr failed ↦ in_part failed.made
    ]

-- at the newest moment each commit's records last
held_after : (place : Room) (rows : List Row) (body : CommitBody) (old new : CommitsState) (before : Medium) (past : List Medium)
    (now : Medium) → HasTried body old new
    → IsBefore place rows old body before → old.disk.moments ≡ before ∷ past → log_area now.bytes ≡ log_area before.bytes
    → IsFine before now
    → (MakesLogAreaDurable old.disk.moments new.disk.moments → LeavesLogArea (log_area before.bytes) now)
    → HeldAt place.log rows (map (entry_of before.bytes) rows) new now
held_after place rows body old new before past now is was told same fine durable =
    let log : ℕ = place.log in
    let list : List Entry = map (entry_of before.bytes) rows in
    let each : EachCommitted (Holds log rows list now) old =
    each_as (Holds log rows list before) (Holds log rows list now) old
    (λ b holds. (reads_same log rows before now b same holds.0, fine_lasts log rows before now b holds fine)) was.last in
    let mine : MakesLogAreaDurable old.disk.moments new.disk.moments → Holds log rows list now body = λ made.
    (reads_same log rows before now body same was.records, durable_lasts log rows before now body was.records (durable made)) in
    elim (is.outcome) [
      | inl is_made ↦ each_made (Holds log rows list now) body old new is_made.made (mine is_made.durable)
      | inr failed ↦ each_failed (Holds log rows list now) body old new failed.made each (λ begun. mine (failed.durable begun))
    ]

last_after : (place : Room) (rows : List Row) (body : CommitBody) (old new : CommitsState) (before later : List Medium)
    → HasTried body old new → old.disk.moments ≡ before → new.disk.moments ≡ later
    → IsBeforeNow place rows old body before
    → HoldsNow (λ now. HeldAt place.log rows (map (entry_of now.bytes) rows) new now) later
last_after place rows body old new before [] is told told_new was = tt
last_after place rows body old new [] (now ∷ rest) is told told_new was =
    let none : now ∷ rest ≡ [] = subst₂ KeepsLogArea told told_new is.kept in
    absurd (cc)
last_after place rows body old new (before ∷ past) (now ∷ rest) is told told_new was =
    let since : HoldsNow (λ b. HoldsSince (IsCommitting (log_of old.disk.size) old body b) (before ∷ past) (now ∷ rest))
    (before ∷ past) =
    subst₂ (λ m n. HoldsNow (λ b. HoldsSince (IsCommitting (log_of old.disk.size) old body b) m n) m) told told_new
    is.crash_safe.log_area in
    let fine : IsFine before now = first_fine (log_of old.disk.size) old body before past since.since (now ∷ rest) since.moments
    since.each in
    let durable : MakesLogAreaDurable old.disk.moments new.disk.moments → LeavesLogArea (log_area before.bytes) now =
    λ f. subst₂ MakesLogAreaDurable told told_new f in
    let same : log_area now.bytes ≡ log_area before.bytes = subst₂ KeepsLogArea told told_new is.kept in
    let listed : map (entry_of now.bytes) rows ≡ map (entry_of before.bytes) rows =
    same_entries rows now.bytes before.bytes same in
    subst (λ l. HeldAt place.log rows l new now) (sym listed) (held_after place rows body old new before past now is was told same
    fine durable)

-- ---- the log

before_in : (place : Room) (mark : Mark) (rows all : List Row) (commits : CommitsState) (body : CommitBody)
    (moments : List Medium) → AreCommits place all commits → IsOne place all body
    → body.tail ≡ mark → between body all ≡ rows
    → HoldsNow (λ now. HaveRecords place.log mark.position mark.seq rows now.bytes) moments
    → HoldsNow (λ now. HeldAt place.log all (map (entry_of now.bytes) all) commits now) moments
    → IsBeforeNow place all commits body moments
before_in place mark rows all commits body [] committed own tail mine records last = tt
before_in place mark rows all commits body (now ∷ past) committed own tail mine records last = record {
  committed = committed;
  all = own;
  records = subst₂ (λ t r. HaveRecords place.log t.position t.seq r now.bytes) (sym tail) (sym mine) records;
  last = last;
}

before_log : (place : Room) (mark : Mark) (held rows : List Row) (commits : CommitsState) → IsLogHeld place mark held rows commits
    → IsBeforeNow place (held ++ rows) commits (body_with commits.body place mark rows) commits.disk.moments
before_log place mark held rows commits log =
    let body : CommitBody = body_with commits.body place mark rows in
    let most = least_used place mark held rows commits log in
    let used = log.room.used in
    before_in place mark rows (held ++ rows) commits body commits.disk.moments
    (are_commits place mark log.least held rows commits used log.committed)
    (log.least, omega (arith, most, used), own_commit place mark held rows commits log) refl
    (own_between place mark held rows commits log) log.records log.last

-- the log after a commit of all its entries, made or not, before it is seen what that released
pub record IsLogAfter (place : Room) (mark : Mark) (held rows : List Row) (old new : CommitsState) : Type 0 where
  pub log : IsLogHeld place mark held rows new
  pub entries : entries_in rows new.disk.moments ≡ entries_in rows old.disk.moments
  pub all : entries_in (held ++ rows) new.disk.moments ≡ entries_in (held ++ rows) old.disk.moments
  pub since : IfSome (entries_in (held ++ rows) old.disk.moments)
      (λ list. HoldsSince (LeavesEntries place.log (held ++ rows) list (IsLastOr old (body_with old.body place mark rows)))
      old.disk.moments new.disk.moments)

pub log_after : (place : Room) (mark : Mark) (held rows : List Row) (old new : CommitsState) → IsLogHeld place mark held rows old
    → HasTried (body_with old.body place mark rows) old new
    → IsLogAfter place mark held rows old new
unfolding own_of_log
log_after place mark held rows old new log is =
    let body : CommitBody = body_with old.body place mark rows in
    let full : List Row = held ++ rows in
    let size = is.size in
    let P : ℕ → Type 0 = λ n. HoldsNow (λ before. HoldsSince (IsCommitting n old body before) old.disk.moments new.disk.moments)
    old.disk.moments in
    let since : P place.log = subst P (sym log.sectors) is.crash_safe.log_area in
    let kept = are_kept place.log mark rows full old body old.disk.moments new.disk.moments log.records is.kept since in
    let was = before_log place mark held rows old log in
    record {
      log = record {
        room = log.room;
        least = log.least;
        reach = log.reach;
        numbered = log.numbered;
        below = log.below;
        records = kept.records;
        committed = commits_after place mark held rows body old new log.least is log.committed
            (own_of_log place mark held rows old log) refl refl;
        last = last_after place full body old new old.disk.moments new.disk.moments is refl refl was;
        on_disk = is.on_disk;
        sectors = log.sectors ∙ ap log_of (sym size);
        fits = (let e = log.fits in omega (arith, e, size));
        numbers = log.numbers;
      };
      entries = kept.entries;
      all = kept.full;
      since = since_in place full old body old.disk.moments new.disk.moments was since;
    }

-- ---- what the last commit has released

-- the room where the records before the last commit's tail are held no more
abbrev pub released : Room → CommitBody → (held rows : List Row) → Room
released place body held rows = room_of place.log place.head
    (sectors_from place.log body.tail.position place.head (since body.tail.seq held ++ rows))

-- a commit of rows is one of those from a seq on that is not above its tail's
commit_since : (place : Room) (used now m : ℕ) (rows : List Row) (body : CommitBody) → m ≤ body.tail.seq
    → IsCommitOfRows place rows used body
    → IsCommitOfRows (room_of place.log place.head now) (since m rows) used body
commit_since place used now m rows body less is =
    let from : since body.tail.seq (since m rows) ≡ since body.tail.seq rows = since_since rows m body.tail.seq less in
    let mine : between body (since m rows) ≡ between body rows = between_since rows m body less in
    let r = is.reach in
    let F : List Row → Type 0 = Follow place.log body.tail.position used in
    record {
      reach = record { inside = r.inside; further = r.further; follow = subst F (sym from) r.follow };
      more = is.more;
      whole = from ∙ is.whole ∙ ap (λ r. r ++ is.more) (sym mine);
      numbered = subst (AreNumbered body.tail.seq) (sym mine) is.numbered;
      seqs = ap (λ r. body.tail.seq + length r) mine ∙ is.seqs;
      end = ap (end_of_rows place.log body.tail.position) mine ∙ is.end;
    }

commit_released : (place : Room) (now m : ℕ) (mark : Mark) (own : ℕ) (held left rows : List Row) (body : CommitBody)
    → m ≤ body.tail.seq → since m (held ++ rows) ≡ left ++ rows
    → (is : IsCommitOfLog place mark own held rows body) → is.used ≤ now
    → IsCommitOfLog (room_of place.log place.head now) mark own left rows body
commit_released place now m mark own held left rows body less split is most =
    let P : List Row → Type 0 = λ r. IsCommitOfRows (room_of place.log place.head now) r is.used body in
    record {
      used = is.used;
      least = is.least;
      most = most;
      is = subst P split (commit_since place is.used now m (held ++ rows) body less is.is);
      tail = is.tail;
      head = is.head;
    }

commits_released : (place : Room) (now : ℕ) (mark : Mark) (own : ℕ) (held left rows : List Row) (last : CommitBody)
    (unfinished : Option CommitBody) → since last.tail.seq (held ++ rows) ≡ left ++ rows
    → (are : AreCommitsOfLog place mark own held rows last unfinished) → are.0.used ≡ now
    → (c : AreCommitsOfLog (room_of place.log place.head now) mark own left rows last unfinished) × (c.0.used ≡ now)
unfolding commit_released
commits_released place now mark own held left rows last None split are used = (
  (
    commit_released place now last.tail.seq mark own held left rows last (omega arith) split are.0
        (omega (arith, used)),
    tt,
  ),
  used,
)
commits_released place now mark own held left rows last (Some more) split are used =
    let later = are.1.2 in
    let less = are.1.1 in (
      (
        commit_released place now last.tail.seq mark own held left rows last (omega arith) split are.0 (omega (arith, used)),
        (
          commit_released place now last.tail.seq mark own held left rows more later split are.1.0
              (omega (arith, used, less)),
          less,
          later,
        ),
      ),
      used,
    )

-- each is from the last one's tail on
each_from : (place : Room) (mark : Mark) (own : ℕ) (held rows : List Row) (commits : CommitsState)
    → AreCommitsOfLog place mark own held rows commits.body commits.unfinished
    → EachCommitted (λ b. commits.body.tail.seq ≤ b.tail.seq) commits
each_from place mark own held rows commits are = (omega arith, unfinished_from commits.body commits.unfinished are)
  where
    unfinished_from : (last : CommitBody) (unfinished : Option CommitBody)
        → AreCommitsOfLog place mark own held rows last unfinished → IfSome unfinished (λ b. last.tail.seq ≤ b.tail.seq)
    unfinished_from last None are = tt
    unfinished_from last (Some more) are = are.1.2

holds_since : (log m : ℕ) (rows : List Row) (bytes : List ℕ) (medium : Medium) (body : CommitBody) → m ≤ body.tail.seq
    → Holds log rows (map (entry_of bytes) rows) medium body
    → Holds log (since m rows) (map (entry_of bytes) (since m rows)) medium body
holds_since log m rows bytes medium body less holds =
    let mine : between body (since m rows) ≡ between body rows = between_since rows m body less in
    let list : entries_between body (since m rows) (map (entry_of bytes) (since m rows)) ≡ entries_between body rows
    (map (entry_of bytes) rows) =
    map_between (entry_of bytes) (since m rows) body ∙ ap (map (entry_of bytes)) mine
    ∙ sym (map_between (entry_of bytes) rows body) in
    subst₂ (λ r l. HaveRecords log body.tail.position body.tail.seq r medium.bytes
    × RecordsLast log body.tail.position body.tail.seq r l medium) (sym mine) (sym list) holds

last_since : (log : ℕ) (rows left : List Row) (commits : CommitsState) (moments : List Medium)
    → since commits.body.tail.seq rows ≡ left → EachCommitted (λ b. commits.body.tail.seq ≤ b.tail.seq) commits
    → HoldsNow (λ now. HeldAt log rows (map (entry_of now.bytes) rows) commits now) moments
    → HoldsNow (λ now. HeldAt log left (map (entry_of now.bytes) left) commits now) moments
last_since log rows left commits [] split from last = tt
last_since log rows left commits (now ∷ past) split from last =
    let m : ℕ = commits.body.tail.seq in
    let P : List Row → Type 0 = λ r. HeldAt log r (map (entry_of now.bytes) r) commits now in
    subst P split
    (each_as (λ b. (m ≤ b.tail.seq) × Holds log rows (map (entry_of now.bytes) rows) now b)
    (Holds log (since m rows) (map (entry_of now.bytes) (since m rows)) now) commits
    (λ b is. holds_since log m rows now.bytes now b is.0 is.1)
    (each_both (λ b. m ≤ b.tail.seq) (Holds log rows (map (entry_of now.bytes) rows) now) commits from last))

pub release_log : (place : Room) (mark : Mark) (held rows : List Row) (commits : CommitsState)
    → IsLogHeld place mark held rows commits
    → IsLog (released place commits.body held rows) mark (since commits.body.tail.seq held) rows commits
release_log place mark held rows commits log =
    let last : CommitBody = commits.body in
    let m : ℕ = last.tail.seq in
    let left : List Row = since m held in
    let first = log.committed.0 in
    let most = first.most in
    let u = log.room.used in
    let before = first.tail in
    let split : since m (held ++ rows) ≡ left ++ rows = since_append held rows m mark.seq before log.numbered in
    let now : ℕ = sectors_from place.log last.tail.position place.head (left ++ rows) in
    let used : first.used ≡ now = reach_is place last.tail.position first.used (since m (held ++ rows)) log.room
    (omega (arith, most, u)) first.is.reach ∙ ap (sectors_from place.log last.tail.position place.head) split in
    let are = commits_released place now mark log.least held left rows last commits.unfinished split log.committed used in
    let r = log.reach in
    record {
      is = record {
        room = record { limit = log.room.limit; head = log.room.head; used = omega (arith, used, most, u) };
        least = log.least;
        reach = record { inside = r.inside; further = r.further; follow = r.follow };
        numbered = log.numbered;
        below = since_below held m mark.seq log.below;
        records = log.records;
        committed = are.0;
        last = last_since place.log (held ++ rows) (left ++ rows) commits commits.disk.moments split
            (each_from place mark log.least held rows commits log.committed) log.last;
        on_disk = log.on_disk;
        sectors = log.sectors;
        fits = log.fits;
        numbers = log.numbers;
      };
      from = (let F : List Row → Type 0 = λ l. since m l ≡ l in subst F split (since_since (held ++ rows) m m (omega arith)));
      used = are.1;
    }

-- of some rows, of which D are held, the first N were taken from the front: those before a seq
pub record IsDropped (items left : List Row) (d n m : ℕ) : Type 0 where
  pub few : n ≤ d
  pub within : d - n ≤ length left
  pub held : take (d - n) left ≡ since m (take d items)
  pub rows : drop (d - n) left ≡ drop d items
  pub whole : left ≡ since m (take d items) ++ drop d items

pub dropped_of : (items left : List Row) (d n m seq : ℕ) → d ≤ length items → m ≤ seq → AreNumbered seq (drop d items)
    → left ≡ since m items → n + length left ≡ length items → IsDropped items left d n m
dropped_of items left d n m seq less before numbered is count =
    let held : List Row = since m (take d items) in
    let rows : List Row = drop d items in
    let whole : left ≡ held ++ rows = is ∙ ap (since m) (sym (take-append-drop d items))
    ∙ since_append (take d items) rows m seq before numbered in
    let long : length left ≡ length held + length rows = ap length whole ∙ length-append held rows in
    let rest = length-drop d items in
    let short : length held ≤ d = (let a = since_shorter (take d items) m in let b = length-take-le d items less in
    omega (arith, a, b)) in
    let left_of : d - n ≡ length held = omega (arith, long, rest, short, less, count) in
    record {
      few = omega (arith, long, rest, short, less, count);
      within = omega (arith, long, left_of);
      held = ap (λ k. take k left) left_of ∙ ap (take (length held)) whole ∙ take-append_seam held rows;
      rows = ap (λ k. drop k left) left_of ∙ ap (drop (length held)) whole ∙ drop-append_seam held rows;
      whole = whole;
    }

-- what was taken of the rows then
pub dropped_after : (place : Room) (mark : Mark) (items left : List Row) (d n m : ℕ) (old new : CommitsState) → d ≤ length items
    → IsLogHeld place mark (take d items) (drop d items) old
    → HasTried (body_with old.body place mark (drop d items)) old new → m ≡ new.body.tail.seq → left ≡ since m items
    → n + length left ≡ length items → IsDropped items left d n new.body.tail.seq
dropped_after place mark items left d n m old new less log is seq left_is count =
    let later = log_after place mark (take d items) (drop d items) old new log is in
    let P : ℕ → Type 0 = λ k. left ≡ since k items in
    dropped_of items left d n new.body.tail.seq mark.seq less later.log.committed.0.tail log.numbered (subst P seq left_is) count

-- the entries of those that are held still
entries_released : (rows left : List Row) (m : ℕ) (old new : List Medium) → since m rows ≡ left
    → entries_in rows new ≡ entries_in rows old → entries_in left new ≡ option_map (entries_since m rows) (entries_in rows old)
entries_released rows left m old new split same = released_in new ∙ ap (option_map (entries_since m rows)) same
  where
    released_in : (moments : List Medium) → entries_in left moments ≡ option_map (entries_since m rows) (entries_in rows moments)
    released_in [] = refl
    released_in (now ∷ past) = ap Some (ap (map (entry_of now.bytes)) (sym split) ∙ sym (map_since (entry_of now.bytes) rows m))

-- ---- what `commit` promises

-- after a commit that was made a stop leaves it, with all entries
made_in : (place : Room) (rows : List Row) (commits : CommitsState) (body : CommitBody) (number : ℕ) (moments : List Medium)
    → AreCommits place rows commits
    → HoldsNow (λ now. HeldAt place.log rows (map (entry_of now.bytes) rows) commits now) moments → commits.body ≡ body
    → HoldsNow (Leaves place.log (IsCommit number body)) moments
    → IfSome (entries_in rows moments) (λ list. HoldsNow (LeavesEntries place.log rows list (IsCommit number body)) moments)
made_in place rows commits body number [] are held is leaves = tt
made_in place rows commits body number (now ∷ past) are held is leaves =
    let list : List Entry = map (entry_of now.bytes) rows in
    leaves_entries place.log rows list (IsCommit number body) now leaves
    (λ left may n b made.
    let P : CommitBody → Type 0 = λ c. HasRecords place.log c (entries_between c rows list) left in
    let one = are.each.0 in
    subst P (is ∙ sym made.same_body) (has_records place one.0 rows list commits.body left one.1 one.2 (held.0.1 left may)))

pub record IsCommitTried {T E : Type 0} (result : Result T E) (old new : LogState) : Type 0 where
  pub same : HasSameList old new
  pub released : IsReleased old new
  pub ok : OnOk result (IsCommittedLog old new)
  pub stands : LeavesEntriesSince old (IsLastOr old.commits (body_of old)) new.commits.disk

made_log : {T E : Type 0} (result : Result T E) (place : Room) (mark : Mark) (held rows : List Row) (old new : CommitsState)
    (before after : ℕ) → place.log ≡ log_of new.disk.size
    → (log : IsLog (released place new.body held rows) mark (since new.body.tail.seq held) rows new)
    → OnOk result (IsCommitted (body_with old.body place mark rows) old new)
    → OnOk result (IsCommittedLog (view_of place mark held rows old before)
    (view_of (released place new.body held rows) mark (since new.body.tail.seq held) rows new after))
made_log (Ok x) place mark held rows old new before after sectors log made =
    let body : CommitBody = body_with old.body place mark rows in
    let number : ℕ = finished_number old.number old.unfinished + 1 in
    let left : List Row = since new.body.tail.seq held in
    let room : Room = released place new.body held rows in
    let P : ℕ → Type 0 = λ n. HoldsNow (Leaves n (IsCommit number body)) new.disk.moments in
    record {
      commits = made;
      stands = made_in room (left ++ rows) new body number new.disk.moments
          (are_commits room mark log.is.least left rows new log.is.room.used log.is.committed) log.is.last made.made.same_body
          (subst P (sym sectors) made.stands);
    }
made_log (Err e) place mark held rows old new before after sectors log made = tt

pub commit_tried : {T E : Type 0} (result : Result T E) (place : Room) (mark : Mark) (held rows : List Row)
    (old new : CommitsState) (before after : ℕ) (log : LogState) → view_of place mark held rows old before ≡ log
    → IsLogHeld place mark held rows old → HasTried (body_with old.body place mark rows) old new
    → OnOk result (IsCommitted (body_with old.body place mark rows) old new)
    → IsCommitTried result log (view_of (released place new.body held rows) mark (since new.body.tail.seq held) rows new after)
commit_tried result place mark held rows old new before after log seen is tries made =
    let m : ℕ = new.body.tail.seq in
    let later = log_after place mark held rows old new is tries in
    let done = release_log place mark held rows new later.log in
    let less = later.log.committed.0.tail in
    let split : since m (held ++ rows) ≡ since m held ++ rows = since_append held rows m mark.seq less is.numbered in
    subst (λ l. IsCommitTried result l (view_of (released place new.body held rows) mark (since m held) rows new after))
    seen (record {
      same = record { entries = later.entries; rows = refl; start = refl; first = refl };
      released = record {
        held = refl;
        all = entries_released (held ++ rows) (since m held ++ rows) m old.disk.moments new.disk.moments split later.all;
        room = refl;
      };
      ok = made_log result place mark held rows old new before after later.log.sectors done made;
      stands = later.since;
    })
