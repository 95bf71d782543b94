-- Whatever a stop leaves of the cache reads as a commit of the plain volume: the last one, the unfinished one, or the next one
-- while that is made.
use Rattle.std.proofs.Common.{◌≡◌, ℕ, ◌+◌, ◌-◌, ◌≤◌, ◌⊎◌, true, List, [], ◌∷◌, ◌++◌, length, map, take, drop, refl, sym, ◌∙◌, ap}
use Rattle.std.proofs.Common.{subst, inl, inr, arith, length-append}
use Rattle.std.specs.Prelude.{Option, Some, None, IfSome, OnSome, option_map}
use Rattle.std.specs.List.{AllByRecursion}
use Rattle.std.proofs.lemmas.List.{length-map, take_all}
use Rattle.std.proofs.lemmas.List.Elements.{All-from_recursion}
use Rattle.lsvd_base.specs.declared.entry.Entry.{Entry}
use Rattle.lsvd_base.specs.declared.geometry.Geometry.{Geometry}
use Rattle.lsvd_base.specs.Range.{is_in_range}
use Rattle.lsvd_device.specs.Medium.{Medium}
use Rattle.lsvd_device.specs.Device.{DiskState, IsDisk, HasSize, HoldsNow, HoldsSince}
use Rattle.commit_body.specs.declared.body.CommitBody.{CommitBody}
use Rattle.commit_slot.specs.Commits.{ReadsSettled, IsCommit, IsLast, IsLastOr, finished_number, finished_body}
use Rattle.cache_log.specs.declared.row.Row.{Row}
use Rattle.cache_log.specs.Rows.{byte_of, entry_of, end_of_rows, since, between, entries_between}
use Rattle.cache_log.specs.Log.{LogState, all_rows, entries_in, next_seq}
use Rattle.cache_log.specs.Committed.{body_of, HasRecords, LeavesEntries, LeavesEntriesSince, EndsAtHead}
use Rattle.cache_log.proofs.RowLemmas.{entries_range}
use Rattle.plain_disk.specs.declared.log.PlainCommit.{PlainCommit}
use Rattle.plain_disk.specs.Log.{commit_from, past_pad, held_from}
use Rattle.plain_disk.specs.Sectors.{AllInRange}
use Rattle.plain_disk.specs.State.{PlainState, frontier_of, frontier_end, logged_entries}
use Rattle.plain_disk.proofs.EndLemmas.{ends_from}
use Rattle.refine_log.specs.Shows.{commit_of, StandsAt}
use Rattle.refine_log.specs.Logged.{listed_from}
use Rattle.refine_log.proofs.Commits.{next_commit}
use Rattle.refine_log.proofs.Lists.{released, next_mark}
use Rattle.refine_log.proofs.Shown.{list_of}
use Rattle.stopped_volume.specs.Device.{CacheOwner, owner_of}
use Rattle.refine_log.specs.Stops.{IsFoundCommit, IsFoundOrNext, entries_past, HasCommit, StopKeeps, StopKeepsSince}
use Rattle.refine_log.specs.StopLaws.{ShowsStops, NowKeeps, SinceKeeps, CommittingKeeps, CommitStandsFor}
use Rattle.refine_log.proofs.EntryLemmas.{past_count, all_of_commit, entries_past_are, logged_past}
use Rattle.refine_log.proofs.HeldLemmas.{AreHeld, are_held, entries_are_between, between_since, between_first}
use Rattle.refine_log.proofs.ReadLemmas.{AreReadAs, read_as}
use Rattle.refine_log.proofs.Sizes.{left_size, since_sized}

-- ---- which commit

-- a commit is the last one, or the unfinished one
abbrev pub IsLastOrUnfinished : (number : ℕ) → CommitBody → Option CommitBody → (n : ℕ) → CommitBody → Type 0
IsLastOrUnfinished number last unfinished n body =
    IsCommit number last n body ⊎ ((more : CommitBody) × (unfinished ≡ Some more) × IsCommit (number + 1) more n body)

pub one_of : (number : ℕ) (last : CommitBody) (unfinished : Option CommitBody) (n : ℕ) (body : CommitBody)
    → IsCommit number last n body ⊎ IsCommit (finished_number number unfinished) (finished_body last unfinished) n body
    → IsLastOrUnfinished number last unfinished n body
one_of number last unfinished n body (inl is) = inl is
one_of number last None n body (inr is) = inl is
one_of number last (Some more) n body (inr is) = inr (more, refl, is)

-- a commit of the volume whose records are among those of a log
pub record IsOwn (owner : CacheOwner) (log : LogState) (body : CommitBody) : Type 0 where
  pub is_of : owner_of body ≡ owner
  pub from : log.commits.body.tail.seq ≤ body.tail.seq
  pub to : body.tail.seq ≤ log.first
  pub stands : StandsAt log body
  pub ends : EndsAtHead log body

-- bytes have this commit, and its number is at most this one
abbrev pub HasCommitUpTo : (owner : CacheOwner) → (most : ℕ) → PlainState → PlainCommit → (count : ℕ) → (left : List ℕ) → Type 0
HasCommitUpTo owner most plain found count left = (has : HasCommit owner plain found count left) × (has.number ≤ most)

module _ (owner : CacheOwner) (data_at : ℕ → ℕ) (log : LogState) (plain : PlainState)
    (shows : ShowsStops owner data_at log plain) where
  abbrev geometry : Geometry
  geometry = plain.geometry

  -- the log has the sectors that the volume's geometry gives it
  size_is : log.room.log ≡ geometry.log
  size_is = sym (ap (λ room. room.log) shows.log_is.room) ∙ shows.valid.size

  opened : plain.end ≤ frontier_end plain
  opened = ends_from plain (frontier_of plain) shows.valid

  -- each stop leaves the whole log
  pub log_fits : byte_of geometry.log ≤ log.commits.disk.size
  log_fits =
      let sectors = shows.on_disk.sectors in
      let least = shows.on_disk.commits.size in
      let size = size_is in
      omega (arith, sectors, least, size)

  -- ---- its commits

  last_own : IsOwn owner log log.commits.body
  last_own =
      let counted = shows.log_is.counted in
      let none : 0 ≡ log.commits.body.tail.seq - log.commits.body.tail.seq = omega arith in
      record {
        is_of = shows.committed.last;
        from = omega arith;
        to = omega (arith, counted);
        stands =
            inr (
            sym (ap (end_of_rows log.room.log log.commits.body.tail.position) (first_none (all_rows log)))
            ∙ ap (λ n. end_of_rows log.room.log log.commits.body.tail.position (take n (all_rows log))) none
            );
        ends = shows.on_disk.ends.0;
      }
    where
      first_none : (l : List Row) → take 0 l ≡ []
      first_none [] = refl
      first_none (r ∷ l) = refl

  more_own : (more : CommitBody) → log.commits.unfinished ≡ Some more → IsOwn owner log more
  more_own more is =
      let order = subst (λ u. IfSome u (λ b. (log.commits.body.tail.seq ≤ b.tail.seq) × (b.tail.seq ≤ log.first))) is
      shows.log_is.order in
      record {
        is_of = subst (λ u. IfSome u (λ b. owner_of b ≡ owner)) is shows.committed.unfinished;
        from = order.0;
        to = order.1;
        stands = subst (λ u. IfSome u (StandsAt log)) is shows.log_is.stands;
        ends = subst (λ u. IfSome u (EndsAtHead log)) is shows.on_disk.ends.1;
      }

  pub one_own : (n : ℕ) (body : CommitBody)
      → IsLastOrUnfinished log.commits.number log.commits.body log.commits.unfinished n body
      → IsOwn owner log body
  one_own n body (inl is) = subst (IsOwn owner log) (sym is.same_body) last_own
  one_own n body (inr (more, same, is)) = subst (IsOwn owner log) (sym is.same_body) (more_own more same)

  -- that of all entries has those of the list
  whole_stands : StandsAt log (body_of log)
  whole_stands =
      inl (next_mark log.room log.commits.body.tail log.held log.rows log.start log.first
      (list_of log plain.cache.log shows.log_is))

  whole_ends : EndsAtHead log (body_of log)
  whole_ends =
      let counted = shows.log_is.counted in
      let body : CommitBody = body_of log in
      let rest : List Row = since log.first log.held ++ log.rows in
      let left = released log.room log.commits.body.tail body.tail log.held log.rows log.start log.first
      (list_of log plain.cache.log shows.log_is) (omega (arith, counted)) (omega arith) whole_stands in
      let none = left.list.counted in
      let long = length-append (since log.first log.held) log.rows in
      let rows : between body (all_rows log) ≡ rest =
      between_since log.held log.rows body
      ∙ between_first rest log.first body left.list.numbered (omega arith)
      ∙ take_all (next_seq log - log.first) rest (omega (arith, none, long)) in
      ap (end_of_rows log.room.log log.start) rows ∙ left.list.reach.end

  whole_own : IsOwn owner log (body_of log)
  whole_own =
      let counted = shows.log_is.counted in
      record {
        is_of = shows.committed.last;
        from = omega (arith, counted);
        to = omega arith;
        stands = whole_stands;
        ends = whole_ends;
      }

  pub found_is : (n : ℕ) (body : CommitBody)
      → IsLastOrUnfinished log.commits.number log.commits.body log.commits.unfinished n body
      → IsFoundCommit (commit_of body) plain.cache.log
  found_is n body (inl of) = inl (ap commit_of of.same_body ∙ sym shows.log_is.last)
  found_is n body (inr (more, same, of)) =
      inr (ap (λ b. Some (commit_of b)) of.same_body ∙ sym (shows.log_is.unfinished ∙ ap (option_map commit_of) same))

  last_found : (n : ℕ) (body : CommitBody) → IsLast log.commits n body
      → IsOwn owner log body × IsFoundCommit (commit_of body) plain.cache.log
  last_found n body last =
      let which = one_of log.commits.number log.commits.body log.commits.unfinished n body last in
      (one_own n body which, found_is n body which)

  next_found : log.first ≡ frontier_end plain → (n : ℕ) (body : CommitBody) → IsLastOr log.commits (body_of log) n body
      → IsOwn owner log body × IsFoundOrNext plain (commit_of body)
  next_found first n body (inl last) = (let found = last_found n body last in (found.0, inl found.1))
  next_found first n body (inr is) = (
    subst (IsOwn owner log) (sym is.same_body) whole_own,
    inr (ap commit_of is.same_body
        ∙ sym (next_commit log plain.cache.log shows.log_is)
        ∙ ap (λ seq. commit_from seq plain.cache.log) first),
  )

  -- ---- what is left of a medium

  module _ (now : Medium) (past : List Medium) (is : log.commits.disk.moments ≡ now ∷ past) where
    abbrev entry_now : Row → Entry
    entry_now = entry_of now.bytes

    abbrev entries_now : List Entry
    entries_now = map entry_now (all_rows log)

    pub now_size : HasSize log.commits.disk.size now
    now_size = (subst (AllByRecursion (HasSize log.commits.disk.size)) is shows.on_disk.commits.is_disk.media).0

    told_now : log.all ≡ Some entries_now
    told_now = shows.on_disk.all ∙ ap (entries_in (all_rows log)) is

    pub leaves_now : LeavesEntries log.room.log (all_rows log) entries_now (IsLast log.commits) now
    leaves_now =
        let P : List Entry → Medium → Type 0 = λ list. LeavesEntries log.room.log (all_rows log) list (IsLast log.commits) in
        subst (HoldsNow (P entries_now)) is
        (subst (λ all. IfSome all (λ list. HoldsNow (P list) log.commits.disk.moments)) told_now shows.on_disk.stands)

    in_range_now : AllInRange geometry entries_now
    in_range_now = subst (λ all. IfSome all (AllInRange geometry)) told_now shows.committed.in_range

    -- past a count the log has the volume's entries
    logged_now : (count : ℕ) → frontier_end plain ≤ count
        → drop (count - log.commits.body.tail.seq) entries_now ≡ drop (count - plain.end) plain.entries
    logged_now count from =
        let P : List Entry → Type 0 = λ list. listed_from (frontier_end plain) log list ≡ logged_entries plain in
        logged_past log plain entry_now count shows.log_is.counted shows.logged.first opened from
        (subst (λ m. IfSome (entries_in log.rows m) P) is (subst (λ told. IfSome told P) shows.on_disk.entries
        shows.logged.entries))

    -- bytes that have the records of a commit, which are read, and are as long as the log
    module _ (left : List ℕ) (long : byte_of geometry.log ≤ length left) (number : ℕ) (body : CommitBody)
        (own : IsOwn owner log body)
        (settled : ReadsSettled log.room.log left body number)
        (has : HasRecords log.room.log body (entries_between body (all_rows log) entries_now) left) where
      abbrev rows_own : List Row
      rows_own = between body (all_rows log)

      slots : ReadsSettled geometry.log left body number
      slots = subst (λ n. ReadsSettled n left body number) size_is settled

      entries_own : entries_between body (all_rows log) entries_now ≡ map entry_now rows_own
      entries_own = entries_are_between entry_now (all_rows log) body

      held : AreHeld geometry.log plain.cache.log body rows_own
      held =
          subst (λ n. AreHeld n plain.cache.log body rows_own) size_is
          (are_held log plain.cache.log body shows.log_is own.from own.to own.stands own.ends)

      read : AreReadAs geometry body rows_own (map entry_now rows_own) left
      read =
          let InRange : Entry → Type 0 = λ entry. is_in_range geometry entry ≡ true in
          let fits = log_fits in
          let bytes = now_size.bytes in
          read_as geometry body rows_own held.used now.bytes left shows.valid.limits slots.reads.is_open.sector.may_stand
          (omega (arith, fits, bytes)) long held.reach
          (subst (AllInRange geometry) entries_own
          (all_of_commit log body InRange (all_rows log) entries_now log.commits.body.tail.seq shows.log_is.numbered
          (length-map (all_rows log) entry_now) own.from in_range_now))
          (subst (λ list. HasRecords geometry.log body list left) entries_own
          (subst (λ n. HasRecords n body (entries_between body (all_rows log) entries_now) left) size_is has))

      -- their entries are the volume's
      entries_are : (count : ℕ) → frontier_end plain ≤ count
          → drop (count - body.tail.seq) (map (entry_of left) read.rows) ≡ entries_past plain count body.head.seq
      entries_are count from =
          let begins = opened in
          let tail = own.to in
          let first = shows.logged.first in
          ap (drop (count - body.tail.seq)) (read.entries ∙ sym entries_own)
          ∙ past_count log body (all_rows log) entries_now log.commits.body.tail.seq count shows.log_is.numbered
          (length-map (all_rows log) entry_now) own.from (omega (arith, tail, first, from))
          ∙ ap (take (body.head.seq - count)) (logged_now count from)
          ∙ sym (entries_past_are plain count body.head.seq (omega (arith, begins, from)))

      pub has_commit : (found : PlainCommit) (count most : ℕ) → commit_of body ≡ found → frontier_end plain ≤ count
          → number ≤ most
          → HasCommitUpTo owner most plain found count left
      has_commit found count most is_found from few =
          let tail = own.to in
          let first = shows.logged.first in (
            record {
              number = number;
              body = body;
              is_of = own.is_of;
              commit = is_found;
              slots = slots;
              rows = read.rows;
              records = read.records;
              placed =
                  read.placed
                  ∙ sym held.records
                  ∙ ap (λ c. past_pad body.tail.position (held_from c plain.cache.log).records) is_found;
              tail = omega (arith, tail, first, from);
              entries = entries_are count from;
            },
            few,
          )

    -- where each commit with P is one of the log, and is found with Q
    module _ (P : ℕ → CommitBody → Type 0) (Q : PlainCommit → Type 0)
        (each : (number : ℕ) (body : CommitBody) → P number body → IsOwn owner log body × Q (commit_of body)) where
      stop_keeps : (medium : Medium) → HasSize log.commits.disk.size medium
          → LeavesEntries log.room.log (all_rows log) entries_now P medium
          → StopKeeps owner plain Q medium
      stop_keeps medium size leaves = λ left may.
          let is_left = leaves left may in
          let commit = each is_left.0 is_left.1 is_left.2 in
          let whole = left_size log.commits.disk.size medium left size may in
          let fits = log_fits in (
            commit_of is_left.1,
            commit.1,
            λ count from.
                (has_commit left (omega (arith, whole, fits)) is_left.0 is_left.1 commit.0 is_left.3 is_left.4
                (commit_of is_left.1)
                count is_left.0 refl from (omega arith)).0,
          )

      stop_keeps_since : (new : DiskState) → IsDisk new
          → HoldsSince (LeavesEntries log.room.log (all_rows log) entries_now P) log.commits.disk.moments new.moments
          → HoldsSince (StopKeeps owner plain Q) log.commits.disk.moments new.moments
      stop_keeps_since new is_disk leaves =
          let L : Medium → Type 0 = LeavesEntries log.room.log (all_rows log) entries_now P in
          subst (λ m. HoldsSince (StopKeeps owner plain Q) m new.moments) (sym is)
          (since_sized L (StopKeeps owner plain Q) log.commits.disk.size now past new now_size.bytes is_disk stop_keeps
          (subst (λ m. HoldsSince L m new.moments) is leaves))

  -- ---- what it keeps

  module _ (P : ℕ → CommitBody → Type 0) (Q : PlainCommit → Type 0)
      (each : (number : ℕ) (body : CommitBody) → P number body → IsOwn owner log body × Q (commit_of body)) where
    keeps_in : (moments : List Medium) → log.commits.disk.moments ≡ moments → (new : DiskState) → IsDisk new
        → LeavesEntriesSince log P new
        → StopKeepsSince owner log plain Q new
    keeps_in [] is new is_disk leaves =
        let told : log.all ≡ None = shows.on_disk.all ∙ ap (entries_in (all_rows log)) is in
        subst (λ all. OnSome all (HoldsSince (StopKeeps owner plain Q) log.commits.disk.moments new.moments)) (sym told) tt
    keeps_in (now ∷ past) is new is_disk leaves =
        let Leaves : List Entry → Type 0 =
        λ list. HoldsSince (LeavesEntries log.room.log (all_rows log) list P) log.commits.disk.moments new.moments in
        subst (λ all. OnSome all (HoldsSince (StopKeeps owner plain Q) log.commits.disk.moments new.moments))
        (sym (told_now now past is))
        (stop_keeps_since now past is P Q each new is_disk
        (subst (λ all. IfSome all Leaves) (told_now now past is) leaves))

    pub keeps_since : (new : DiskState) → IsDisk new → LeavesEntriesSince log P new → StopKeepsSince owner log plain Q new
    keeps_since = keeps_in log.commits.disk.moments refl

-- ---- the laws

pub now_keeps : NowKeeps
now_keeps owner data_at log plain shows = at_most_one log.commits.disk.moments refl
  where
    Q : PlainCommit → Type 0
    Q found = IsFoundCommit found plain.cache.log

    at_most_one : (moments : List Medium) → log.commits.disk.moments ≡ moments → HoldsNow (StopKeeps owner plain Q) moments
    at_most_one [] is = tt
    at_most_one (now ∷ past) is =
        stop_keeps owner data_at log plain shows now past is (IsLast log.commits) Q (last_found owner data_at log plain shows) now
        (now_size owner data_at log plain shows now past is) (leaves_now owner data_at log plain shows now past is)

pub since_keeps : SinceKeeps
since_keeps owner data_at log plain new shows is_disk leaves =
    keeps_since owner data_at log plain shows (IsLast log.commits) (λ found. IsFoundCommit found plain.cache.log)
    (last_found owner data_at log plain shows) new is_disk leaves

pub committing_keeps : CommittingKeeps
committing_keeps owner data_at log plain new shows first is_disk leaves =
    keeps_since owner data_at log plain shows (IsLastOr log.commits (body_of log)) (IsFoundOrNext plain)
    (next_found owner data_at log plain shows first) new is_disk leaves

pub commit_stands_for : CommitStandsFor
commit_stands_for owner plain found count left has long =
    let records = has.records.records in
    let list : List Entry = map (entry_of left) has.rows in
    let may = has.slots.reads.is_open.sector.may_stand in
    record {
      number = has.number;
      body = has.body;
      is_of = has.is_of;
      slots = has.slots;
      tail = has.tail;
      list = list;
      records = (has.rows, records, refl);
      in_range =
          All-from_recursion (λ entry. is_in_range plain.geometry entry ≡ true) list
          (entries_range plain.geometry has.rows has.body.tail.position records.used left may.tail_inside records.most long
          records.follow
          has.records.in_range);
      rest = ap (λ (c : PlainCommit). entries_past plain count c.head.seq) (sym has.commit) ∙ sym has.entries;
    }
