-- For `complete`: the log from the end of the objects on, before and after it is committed.
use Rattle.std.proofs.Common.{◌≡◌, ℕ, ◌+◌, ◌-◌, ◌<◌, ◌≤◌, Bool, true, List, [], ◌++◌, length, drop, sym, ◌∙◌, ap, subst, arith}
use Rattle.std.proofs.Common.{length-drop}
use Rattle.std.specs.Prelude.{Option, Some, None, IfSome, IsTrue, slice_index_or}
use Rattle.std.specs.Option.{option_map}
use Rattle.std.specs.List.{sum_by}
use Rattle.std.proofs.Math.Path.{subst₂}
use Rattle.std.proofs.lemmas.Bool.Decides.{nat_tests}
use Rattle.lsvd_base.specs.declared.entry.Entry.{Entry}
use Rattle.lsvd_base.specs.declared.geometry.Geometry.{Geometry}
use Rattle.lsvd_base.specs.Limits.{is_within_limits}
use Rattle.lsvd_device.specs.Medium.{Medium}
use Rattle.lsvd_device.specs.Device.{DiskState, HoldsSince, MakesCalls}
use Rattle.log_room.specs.Room.{Room, max_log, room_of}
use Rattle.commit_body.specs.declared.body.CommitBody.{CommitBody}
use Rattle.commit_body.specs.declared.body.Mark.{Mark}
use Rattle.commit_slot.specs.Commits.{CommitsState, IsAt, IsAsBefore, IsLastOr, IsMade, finished_number, commit_cost}
use Rattle.commit_slot.specs.Loading.{MakesAtMost}
use Rattle.commit_slot.proofs.Passing.{passes_as}
use Rattle.cache_log.specs.declared.row.Row.{Row}
use Rattle.cache_log.specs.Rows.{position_of, record_size, since, entries_since}
use Rattle.cache_log.specs.Reads.{reads_cost}
use Rattle.cache_log.specs.Log.{LogState, all_rows, next_seq, AreRowsOf, HasSameEntries, IsTrimmed, IsReadOnly}
use Rattle.cache_log.specs.Opening.{AreRowsInRange, is_row_in_range, sectors_between}
use Rattle.cache_log.specs.Committed.{body_of, HasSameList, IsReleased, LeavesEntries, LeavesEntriesSince, sectors_from}
use Rattle.obj_log.specs.State.{ObjLogState}
use Rattle.refine_mount.specs.Mounted.{data_in, AddsEntries}
use Rattle.vol_core.specs.Shows.{max_number}
use Rattle.vol_mount.specs.Costs.{again_cost}
use Rattle.vol_mount.specs.Steps.{IsOpenedUpTo, LeavesFrom}
use Rattle.vol_mount.proofs.AddLemmas.{follow_total, fewer_total, all_dropped}
use Rattle.vol_mount.proofs.CostLemmas.{most_then, most_more, most_reads, most_commit, fewer_reads}

-- ---- a log that was read

-- it has the same body to commit
body_same : (old middle : LogState) → HasSameEntries old middle → IsAsBefore old.commits middle.commits
    → body_of middle ≡ body_of old
body_same old middle same before =
    let seq : next_seq middle ≡ next_seq old = ap (λ n. n + length middle.rows) same.first
    ∙ ap (λ r. old.first + length r) same.rows in
    let tail : Mark = record { position = middle.start; seq = middle.first } in
    let head : Mark = record { position = old.room.head; seq = next_seq old } in
    ap {A = CommitBody} (λ b. record b { tail = tail; head = record { position = middle.room.head; seq = next_seq middle } })
    before.same_body
    ∙ ap (λ (r : Room). record old.commits.body { tail = tail; head = record { position = r.head; seq = next_seq middle } })
    same.room
    ∙ ap (λ s. record old.commits.body { tail = tail; head = record { position = old.room.head; seq = s } }) seq
    ∙ ap (λ p. record old.commits.body { tail = record { position = p; seq = middle.first }; head = head }) same.start
    ∙ ap (λ n. record old.commits.body { tail = record { position = old.start; seq = n }; head = head }) same.first

last_or_same : (old middle : LogState) (n : ℕ) (b : CommitBody) → HasSameEntries old middle
    → IsAsBefore old.commits middle.commits
    → IsLastOr middle.commits (body_of middle) n b
    → IsLastOr old.commits (body_of old) n b
last_or_same old middle n b same before is =
    let P : ℕ → CommitBody → Option CommitBody → CommitBody → Type 0 = λ number body unfinished next.
    IsLastOr (record old.commits { number = number; body = body; unfinished = unfinished }) next n b in
    subst (P old.commits.number old.commits.body old.commits.unfinished) (body_same old middle same before)
    (subst (λ u. P old.commits.number old.commits.body u (body_of middle)) before.same_unfinished
    (subst (λ c. P old.commits.number c middle.commits.unfinished (body_of middle)) before.same_body
    (subst (λ k. P k middle.commits.body middle.commits.unfinished (body_of middle)) before.same_number is)))

leaves_as : (log : ℕ) (rows : List Row) (list : List Entry) (P Q : ℕ → CommitBody → Type 0) (medium : Medium)
    → ((n : ℕ) (b : CommitBody) → P n b → Q n b) → LeavesEntries log rows list P medium
    → LeavesEntries log rows list Q medium
leaves_as log rows list P Q medium follows leaves = λ left may.
    let is = leaves left may in
    (is.0, is.1, follows is.0 is.1 is.2, is.3, is.4)

since_in : (entries : Option (List Entry)) (log : ℕ) (rows : List Row) (P Q : ℕ → CommitBody → Type 0) (old new : List Medium)
    → ((n : ℕ) (b : CommitBody) → P n b → Q n b)
    → IfSome entries (λ list. HoldsSince (LeavesEntries log rows list P) old new)
    → IfSome entries (λ list. HoldsSince (LeavesEntries log rows list Q) old new)
since_in None log rows P Q old new follows leaves = tt
since_in (Some list) log rows P Q old new follows leaves =
    passes_as (LeavesEntries log rows list P) (LeavesEntries log rows list Q) old new
    (λ medium is. leaves_as log rows list P Q medium follows is)
    leaves

-- moments since the log was read are those since before
since_read : (old middle : LogState) (new : DiskState) → HasSameEntries old middle → IsAsBefore old.commits middle.commits
    → middle.commits.disk.moments ≡ old.commits.disk.moments
    → LeavesEntriesSince middle (IsLastOr middle.commits (body_of middle)) new
    → LeavesEntriesSince old (IsLastOr old.commits (body_of old)) new
since_read old middle new same commits moments leaves =
    let P : Option (List Entry) → ℕ → List Row → List Medium → Type 0 =
    λ e n r m. IfSome e (λ list. HoldsSince (LeavesEntries n r list (IsLastOr old.commits (body_of old))) m new.moments) in
    let rows : all_rows middle ≡ all_rows old = ap (λ h. h ++ middle.rows) same.held ∙ ap (λ r. old.held ++ r) same.rows in
    let since : P middle.all middle.room.log (all_rows middle) middle.commits.disk.moments =
    since_in middle.all middle.room.log (all_rows middle) (IsLastOr middle.commits (body_of middle))
    (IsLastOr old.commits (body_of old))
    middle.commits.disk.moments new.moments
    (λ n b is. last_or_same old middle n b same commits is) leaves in
    subst₂ (λ r m. P old.all old.room.log r m) rows moments
    (subst (λ (r : Room). P old.all r.log (all_rows middle) middle.commits.disk.moments) same.room
    (subst (λ e. P e middle.room.log (all_rows middle) middle.commits.disk.moments) same.all since))

since_nothing : (entries : Option (List Entry)) (log : ℕ) (rows : List Row) (P : ℕ → CommitBody → Type 0) (old new : List Medium)
    → new ≡ old
    → IfSome entries (λ list. HoldsSince (LeavesEntries log rows list P) old new)
since_nothing None log rows P old new same = tt
since_nothing (Some list) log rows P old new same = record { since = []; moments = same; each = tt }

-- what is released of it is what is released of the log before
released_from : (old middle new : LogState) → HasSameEntries old middle → IsReleased middle new → IsReleased old new
released_from old middle new same released =
    let m : ℕ = new.commits.body.tail.seq in
    let rows : all_rows middle ≡ all_rows old = ap (λ h. h ++ middle.rows) same.held ∙ ap (λ r. old.held ++ r) same.rows in
    record {
      held = released.held ∙ ap (since m) same.held;
      all =
          released.all ∙ ap (λ r. option_map (entries_since m r) middle.all) rows
          ∙ ap (option_map (entries_since m (all_rows old))) same.all;
      room =
          released.room
          ∙ ap (λ (r : Room). room_of r.log r.head (sectors_from r.log new.commits.body.tail.position r.head (all_rows new)))
          same.room;
    }

made_from : (old middle new : LogState) → HasSameEntries old middle → IsAsBefore old.commits middle.commits
    → IsMade (body_of middle) middle.commits new.commits → IsMade (body_of old) old.commits new.commits
made_from old middle new same commits made =
    let number : finished_number middle.commits.number middle.commits.unfinished + 1 ≡ finished_number old.commits.number
    old.commits.unfinished + 1 =
    ap (λ n. finished_number n middle.commits.unfinished + 1) commits.same_number
    ∙ ap (λ u. finished_number old.commits.number u + 1) commits.same_unfinished in
    subst₂ (λ n b. IsAt n b None new.commits) number (body_same old middle same commits) made

-- ---- a log that was opened and trimmed

told_from : (n : ℕ) (list : List Entry) (told : Option (List Entry)) → n ≡ 0 → IfSome told (λ all. list ≡ drop n all)
    → IfSome told (λ all. all ≡ list)
told_from n list None none are = tt
told_from n list (Some all) none are = sym (are ∙ ap (λ k. drop k all) none)

module _ (geometry : Geometry) (end : ℕ) (commits : CommitsState) (old trimmed : LogState)
    (limits : IsTrue (is_within_limits geometry))
    (opened : IsOpenedUpTo geometry end commits old) (trims : IsTrimmed end old trimmed) where
  pub first_is : trimmed.first ≡ end
  first_is =
      let a = trims.first in
      let b = opened.opened.first in
      let c = opened.tail in
      omega (arith, a, b, c)

  none_skipped : end - trimmed.first ≡ 0
  none_skipped = (let a = first_is in omega (arith, a))

  -- it is read whole
  pub all_rows_are : (list : List Entry) → AreRowsOf (drop (end - trimmed.first) trimmed.rows) list → AreRowsOf trimmed.rows list
  all_rows_are list are = subst (λ n. AreRowsOf (drop n trimmed.rows) list) none_skipped are

  pub all_told : (list : List Entry) → IfSome trimmed.entries (λ all. list ≡ drop (end - trimmed.first) all)
      → IfSome trimmed.entries (λ all. all ≡ list)
  all_told list are = told_from (end - trimmed.first) list trimmed.entries none_skipped are

  -- its numbers and its rows
  pub next_is : trimmed.first + length trimmed.rows < max_number
  next_is =
      let a = first_is in
      let b = ap length trims.rows in
      let c = length-drop (end - old.first) old.rows in
      let d = opened.opened.rows.seqs in
      let e = opened.opened.first in
      let f = opened.tail in
      let g = opened.count in
      omega (arith, a, b, c, d, e, f, g)

  pub rows_in_range : AreRowsInRange geometry trimmed.rows
  rows_in_range =
      subst (AreRowsInRange geometry) (sym trims.rows)
      (all_dropped (λ row. IsTrue (is_row_in_range geometry row)) (end - old.first) old.rows opened.opened.rows.in_range)

  pub rows_have_room : sum_by record_size trimmed.rows ≤ max_log
  rows_have_room =
      let total = follow_total geometry.log commits.body.tail.position (sectors_between geometry.log commits.body) old.rows
      opened.opened.rows.follow in
      let fewer = fewer_total (end - old.first) old.rows in
      let same = ap (sum_by record_size) trims.rows in
      let tail = opened.may_stand.tail_inside in
      let head = opened.may_stand.head_inside in
      let most : sectors_between geometry.log commits.body ≤ geometry.log = grind (arith, nat_tests, tail, head) in
      let fits : geometry.log ≤ max_log = grind (arith, nat_tests, limits) in
      omega (arith, total, fewer, same, most, fits)

  -- ---- what happens to it then

  module _ (read : LogState) (made : Bool) (reads : IsReadOnly (length trimmed.rows - (end - trimmed.first)) made trimmed read)
    where
      pub number_low : read.commits.number < max_number
      number_low =
          let a = reads.commits.same.same_number in
          let b = ap (λ (c : CommitsState). c.number) trims.commits in
          let c = opened.opened.only.same.same_number in
          let d = opened.number in
          omega (arith, a, b, c, d)

      read_moments : read.commits.disk.moments ≡ old.commits.disk.moments
      read_moments = reads.commits.moments ∙ ap (λ (c : CommitsState). c.disk.moments) trims.commits

      -- the reads of its entries
      read_calls : MakesAtMost (reads_cost (length old.rows)) made old.commits.disk read.commits.disk
      read_calls =
          let b = ap length trims.rows in
          let c = length-drop (end - old.first) old.rows in
          let less : length trimmed.rows - (end - trimmed.first) ≤ length old.rows = omega (arith, b, c) in
          subst (λ (c : CommitsState). MakesAtMost (reads_cost (length old.rows)) made c.disk read.commits.disk) trims.commits
          (most_reads (length old.rows) made trimmed.commits.disk read.commits.disk
          (fewer_reads (length trimmed.rows - (end - trimmed.first)) (length old.rows) made trimmed.commits.disk
          read.commits.disk less
          reads.commits.reads))

      -- nothing more
      pub read_alone : MakesAtMost (again_cost (length old.rows)) made old.commits.disk read.commits.disk
      read_alone = most_more (reads_cost (length old.rows)) (commit_cost None) made old.commits.disk read.commits.disk read_calls

      pub leaves_alone : LeavesFrom end old read.commits.disk
      leaves_alone = (
        trimmed,
        trims,
        since_nothing trimmed.all trimmed.room.log (all_rows trimmed) (IsLastOr trimmed.commits (body_of trimmed))
            trimmed.commits.disk.moments
            read.commits.disk.moments reads.commits.moments,
      )

  module _ (read new : LogState) (reads : IsReadOnly (length trimmed.rows - (end - trimmed.first)) true trimmed read) where
    none_unfinished : read.commits.unfinished ≡ None
    none_unfinished =
        reads.commits.same.same_unfinished ∙ ap (λ (c : CommitsState). c.unfinished) trims.commits
        ∙ opened.opened.only.same.same_unfinished ∙ opened.finished

    -- it is committed, or that fails
    pub again_calls : (made : Bool) → MakesCalls (commit_cost read.commits.unfinished) made read.commits.disk new.commits.disk
        → MakesAtMost (again_cost (length old.rows)) made old.commits.disk new.commits.disk
    again_calls made calls =
        most_then (reads_cost (length old.rows)) (commit_cost None) made old.commits.disk read.commits.disk new.commits.disk
        (read_calls read true reads)
        (most_commit read.commits.unfinished made read.commits.disk new.commits.disk none_unfinished calls)

    pub leaves_again : LeavesEntriesSince read (IsLastOr read.commits (body_of read)) new.commits.disk
        → LeavesFrom end old new.commits.disk
    leaves_again leaves =
        (trimmed, trims, since_read trimmed read new.commits.disk reads.same reads.commits.same reads.commits.moments leaves)

    -- and then
    pub same_list : HasSameList read new → HasSameList trimmed new
    same_list same = record {
      entries = same.entries ∙ reads.same.entries;
      rows = same.rows ∙ reads.same.rows;
      start = same.start ∙ reads.same.start;
      first = same.first ∙ reads.same.first;
    }

    pub released_again : IsReleased read new → IsReleased trimmed new
    released_again released = released_from trimmed read new reads.same released

    pub made_again : IsMade (body_of read) read.commits new.commits → IsMade (body_of trimmed) trimmed.commits new.commits
    made_again made = made_from trimmed read new reads.same reads.commits.same made

-- where a log that was read has its rows, there the one before has them
pub added_from : (old read : LogState) → read.rows ≡ old.rows → read.first ≡ old.first
    → (row_of_none : Row) (entries : List Entry)
    (list before objects : ObjLogState) → list ≡ before → AddsEntries (data_in read row_of_none) entries list objects
    → AddsEntries (data_in old row_of_none) entries before objects
added_from old read rows first row_of_none entries list before objects same adds =
    let places : data_in read row_of_none ≡ data_in old row_of_none =
    ap (λ r. λ seq. position_of (slice_index_or r (seq - read.first) row_of_none) + 1) rows
    ∙ ap (λ n. λ seq. position_of (slice_index_or old.rows (seq - n) row_of_none) + 1) first in
    subst (λ l. AddsEntries (data_in old row_of_none) entries l objects) same
    (subst (λ d. AddsEntries d entries list objects) places adds)
