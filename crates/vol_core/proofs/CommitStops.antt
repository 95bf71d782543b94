-- What a stop keeps while the log commits all entries, and while an entry is appended to it.
use Rattle.std.proofs.Common.{◌≡◌, ℕ, ◌+◌, ◌⊎◌, Bool, true, false, if◌then◌else◌, List, [], ◌∷◌, ◌++◌, length, refl, sym}
use Rattle.std.proofs.Common.{◌∙◌, ap, subst, inl, inr, arith}
use Rattle.std.specs.Prelude.{Option, Some, None, IfSome, OnSome, option_map, Result, Ok, Err}
use Rattle.std.proofs.Math.Path.{subst₂}
use Rattle.std.proofs.lemmas.Bool.{cases_lt, lt-ltb, le-ltb, lt-leb, and_left}
use Rattle.std.proofs.lemmas.List.{length-map}
use Rattle.lsvd_base.specs.declared.entry.Entry.{Entry}
use Rattle.lsvd_base.specs.declared.geometry.Geometry.{Geometry}
use Rattle.lsvd_base.specs.Range.{is_in_range}
use Rattle.lsvd_device.specs.Medium.{Medium}
use Rattle.lsvd_device.specs.Device.{HoldsSince, DiskState, IsDisk}
use Rattle.commit_body.specs.declared.body.CommitBody.{CommitBody}
use Rattle.commit_slot.specs.Commits.{CommitsState, ReadsSettled, IsCommit, IsLast, IsLastOr, IsMade, finished_number}
use Rattle.commit_slot.specs.Commits.{finished_body}
use Rattle.commit_slot.proofs.Passing.{passes_as, passes_on}
use Rattle.cache_log.specs.declared.error.AppendError.{AppendError}
use Rattle.cache_log.specs.declared.error.AppendError.TheVariants as errors
use Rattle.cache_log.specs.declared.row.Row.{Row}
use Rattle.cache_log.specs.Rows.{seq_of, entry_of, AreNumbered, since, entries_since, entries_between}
use Rattle.cache_log.specs.Log.{LogState, all_rows, entries_in, IsTrimmed}
use Rattle.cache_log.specs.Committed.{body_of, HasRecords, LeavesEntries, LeavesEntriesSince, IsOnDisk, HasSameList, IsReleased}
use Rattle.plain_disk.specs.declared.log.PlainCommit.{PlainCommit}
use Rattle.plain_disk.specs.State.{PlainState, frontier_end}
use Rattle.plain_disk.proofs.EndLemmas.{frontier_ends}
use Rattle.refine_log.proofs.Shown.{trimmed_shows_same}
use Rattle.stopped_volume.specs.Device.{CacheOwner}
use Rattle.refine_log.specs.Stops.{HasCommitted, IsFoundCommit, IsFoundOrNext, StopKeeps, StopKeepsSince}
use Rattle.refine_log.specs.StopLaws.{ShowsStops}
use Rattle.refine_log.proofs.StopLemmas.{since_keeps, committing_keeps}
use Rattle.refine_log.proofs.CommittedLemmas.{same_has_committed, trimmed_has_committed, appended_has_committed}
use Rattle.refine_log.proofs.CommittedLemmas.{commit_has_committed}
use Rattle.vol_core.specs.Calls.{CommitsFrom, Appends, EntersLog}
use Rattle.vol_core.proofs.CommitLemmas.{shown_next}
use Rattle.vol_core.proofs.LoggedLemmas.{logged_trimmed}

-- ---- the commits stay the volume's own

module _ (owner : CacheOwner) (geometry : Geometry) where
  -- also after a commit, or one that failed
  pub commit_owns : (seq : ℕ) (is_made : Bool) (old new : LogState) → HasCommitted owner geometry old
      → CommitsFrom seq is_made old new
      → HasCommitted owner geometry new
  commit_owns seq true old new own commit =
      commit_has_committed owner geometry commit.middle new (trimmed_has_committed owner geometry old commit.middle seq own
      commit.trimmed)
      commit.released (inl (commit.made refl).commits.made)
  commit_owns seq false old new own commit =
      commit_has_committed owner geometry commit.middle new (trimmed_has_committed owner geometry old commit.middle seq own
      commit.trimmed)
      commit.released (inr (commit.failed refl).made)

  append_owns : (entry : Entry) (result : Result ℕ AppendError) (old new : LogState) → is_in_range geometry entry ≡ true
      → HasCommitted owner geometry old → Appends entry result old new → HasCommitted owner geometry new
  append_owns entry (Ok at) old new may own appends =
      appended_has_committed owner geometry old new entry at own may appends.ok appends.keeps.commits
  append_owns entry (Err (errors.NoRoom needed left)) old new may own appends =
      subst (HasCommitted owner geometry) (sym appends.err.untouched) own
  append_owns entry (Err errors.DeviceFault) old new may own appends =
      same_has_committed owner geometry old new own appends.err.same appends.keeps.commits

  -- and after an entry came to the log
  pub enter_owns : (entry : Entry) (end : ℕ) (result : Result ℕ AppendError) (old new : LogState)
      → is_in_range geometry entry ≡ true
      → HasCommitted owner geometry old → EntersLog entry end result old new → HasCommitted owner geometry new
  enter_owns entry end result old new may own (inl at_once) = append_owns entry result old new may own at_once.appends
  enter_owns entry end result old new may own (inr after) = owns_after after.then
    where
      owns_after : (CommitsFrom end false old new × (result ≡ Err errors.DeviceFault))
          ⊎ ((middle : LogState) × CommitsFrom end true old middle × Appends entry result middle new)
          → HasCommitted owner geometry new
      owns_after (inl failed) = commit_owns end false old new own failed.0
      owns_after (inr (middle, commit, appends)) =
          append_owns entry result middle new may (commit_owns end true old middle own commit) appends

-- ---- what is told

-- what follows from one fact, where a value is told
as_told : {A : Type 0} (P Q : Type 0) (told : Option A) → (P → Q) → OnSome told P → OnSome told Q
as_told P Q None follows is = tt
as_told P Q (Some x) follows is = follows is

-- what is kept of some commits is kept of others that they are
pub kept_as : (owner : CacheOwner) (log : LogState) (plain : PlainState) (P Q : PlainCommit → Type 0) (new : DiskState)
    → ((found : PlainCommit) → P found → Q found) → StopKeepsSince owner log plain P new → StopKeepsSince owner log plain Q new
kept_as owner log plain P Q new follows keeps =
    let old : List Medium = log.commits.disk.moments in
    as_told (HoldsSince (StopKeeps owner plain P) old new.moments) (HoldsSince (StopKeeps owner plain Q) old new.moments) log.all
    (passes_as (StopKeeps owner plain P) (StopKeeps owner plain Q) old new.moments
    (λ medium each left may. (let is = each left may in (is.0, follows is.0 is.1, is.2)))) keeps

-- ---- after a commit

entries_count : (rows : List Row) (moments : List Medium) → IfSome (entries_in rows moments) (λ list. length list ≡ length rows)
entries_count rows [] = tt
entries_count rows (now ∷ past) = length-map rows (entry_of now.bytes)

-- what is left of a log when the records before a commit's tail are released has that commit's entries still
rows_left : (body : CommitBody) (rows : List Row) (list : List Entry) → AreNumbered body.tail.seq rows
    → entries_between body rows (entries_since body.tail.seq rows list) ≡ entries_between body rows list
rows_left body [] list are = refl
rows_left body (row ∷ rows) [] are = refl
rows_left body (row ∷ rows) (entry ∷ list) are =
    let own = are.0 in
    let tail : ℕ = body.tail.seq in
    ap (λ b. entries_between body (row ∷ rows) (if b then entries_since tail rows list else entry ∷ list))
    (le-ltb (seq_of row) tail (omega (arith, own)))

entries_left : (body : CommitBody) (held rows : List Row) (list : List Entry) → AreNumbered body.tail.seq rows
    → length list ≡ length (held ++ rows)
    → entries_between body (since body.tail.seq held ++ rows) (entries_since body.tail.seq (held ++ rows) list)
    ≡ entries_between body (held ++ rows) list
entries_left body [] rows list are count = rows_left body rows list are
entries_left body (row ∷ held) rows [] are count = absurd (omega (arith, count))
entries_left body (row ∷ held) rows (entry ∷ list) are count =
    let tail : ℕ = body.tail.seq in
    let kept : Bool → List Row = λ b. (if b then since tail held else row ∷ held) ++ rows in
    let left : Bool → List Entry = λ b. if b then entries_since tail (held ++ rows) list else entry ∷ list in
    let rest : List Entry = entries_between body (held ++ rows) list in
    elim (cases_lt (seq_of row) tail) [
      | inl less ↦
          ap (λ b. entries_between body (kept b) (left b)) (lt-ltb (seq_of row) tail less)
          ∙ entries_left body held rows list are (omega (arith, count))
          ∙ sym (ap (λ b. if b then entry ∷ rest else rest) (and_left _ _ (lt-leb tail (seq_of row) less)))
      | inr on ↦ ap (λ b. entries_between body (kept b) (left b)) (le-ltb (seq_of row) tail on)
    ]

module _ (before after : LogState) (on_disk : IsOnDisk before) (same : HasSameList before after)
    (released : IsReleased before after)
    (made : IsMade (body_of before) before.commits after.commits) where
  abbrev Either : ℕ → CommitBody → Type 0
  Either = IsLastOr before.commits (body_of before)

  made_is : (number : ℕ) (body : CommitBody) → IsLast after.commits number body
      → IsCommit (finished_number before.commits.number before.commits.unfinished + 1) (body_of before) number body
  made_is number body (inl is) =
      record { same_number = is.same_number ∙ made.same_number; same_body = is.same_body ∙ made.same_body }
  made_is number body (inr is) = record {
    same_number = is.same_number ∙ ap (finished_number after.commits.number) made.same_unfinished ∙ made.same_number;
    same_body = is.same_body ∙ ap (finished_body after.commits.body) made.same_unfinished ∙ made.same_body;
  }

  log_is : after.room.log ≡ before.room.log
  log_is = ap (λ room. room.log) released.room

  -- a commit after it has the entries of the log before it
  leaves_before : (list : List Entry) (medium : Medium) → length list ≡ length (all_rows before)
      → LeavesEntries after.room.log (all_rows after) (entries_since after.commits.body.tail.seq (all_rows before) list)
      (IsLast after.commits) medium
      → LeavesEntries before.room.log (all_rows before) list Either medium
  leaves_before list medium count leaves = λ left may.
      let is = leaves left may in
      let commit = made_is is.0 is.1 is.2 in
      let tail : after.commits.body.tail.seq ≡ is.1.tail.seq =
      ap (λ (b : CommitBody). b.tail.seq) (made.same_body ∙ sym commit.same_body) in
      let first : before.first ≡ is.1.tail.seq = ap (λ (b : CommitBody). b.tail.seq) (sym commit.same_body) in
      let rows : all_rows after ≡ since is.1.tail.seq before.held ++ before.rows =
      (λ i. released.held i ++ same.rows i) ∙ ap (λ seq. since seq before.held ++ before.rows) tail in
      let entries : entries_between is.1 (all_rows after)
      (entries_since after.commits.body.tail.seq (all_rows before) list)
      ≡ entries_between is.1 (all_rows before) list =
      (λ i. entries_between is.1 (rows i) (entries_since (tail i) (all_rows before) list))
      ∙ entries_left is.1 before.held before.rows list (subst (λ seq. AreNumbered seq before.rows) first on_disk.numbered)
      count in (
        is.0,
        is.1,
        inr commit,
        subst (λ n. ReadsSettled n left is.1 is.0) log_is is.3,
        subst₂ (λ n l. HasRecords n is.1 l left) log_is entries is.4,
      )

  -- so each moment after it leaves what one in its midst may leave
  leaves_in : (told later : Option (List Entry)) (new : DiskState) → IfSome told (λ list. length list ≡ length (all_rows before))
      → later ≡ option_map (entries_since after.commits.body.tail.seq (all_rows before)) told
      → IfSome told (λ list. HoldsSince (LeavesEntries before.room.log (all_rows before) list Either) before.commits.disk.moments
      after.commits.disk.moments)
      → IfSome later (λ list. HoldsSince (LeavesEntries after.room.log (all_rows after) list (IsLast after.commits))
      after.commits.disk.moments new.moments)
      → IfSome told (λ list. HoldsSince (LeavesEntries before.room.log (all_rows before) list Either) before.commits.disk.moments
      new.moments)
  leaves_in None later new count is first second = tt
  leaves_in (Some list) later new count is first second =
      let middle : List Medium = after.commits.disk.moments in
      let L : Medium → Type 0 = LeavesEntries before.room.log (all_rows before) list Either in
      let M : List Entry → Medium → Type 0 = λ l. LeavesEntries after.room.log (all_rows after) l (IsLast after.commits) in
      let kept : List Entry = entries_since after.commits.body.tail.seq (all_rows before) list in
      passes_on L before.commits.disk.moments middle new.moments first
      (passes_as (M kept) L middle new.moments (λ medium. leaves_before list medium count)
      (subst (λ t. IfSome t (λ l. HoldsSince (M l) middle new.moments)) is second))

  leaves_after : (new : DiskState) → LeavesEntriesSince before Either after.commits.disk
      → LeavesEntriesSince after (IsLast after.commits) new → LeavesEntriesSince before Either new
  leaves_after new first second =
      leaves_in before.all after.all new
      (subst (λ t. IfSome t (λ list. length list ≡ length (all_rows before))) (sym on_disk.all)
      (entries_count (all_rows before) before.commits.disk.moments))
      released.all first second

-- ---- what is kept

module _ (owner : CacheOwner) (data_at : ℕ → ℕ) (old : LogState) (plain : PlainState)
    (shows : ShowsStops owner data_at old plain) (seq : ℕ) (end : seq ≡ frontier_end plain) where
  -- once the list begins at the frontier's end, while all entries are committed
  trimmed_keeps : (middle : LogState) (new : DiskState) → IsTrimmed seq old middle → IsOnDisk middle → IsDisk new
      → LeavesEntriesSince middle (IsLastOr middle.commits (body_of middle)) new
      → StopKeepsSince owner old plain (IsFoundOrNext plain) new
  trimmed_keeps middle new trimmed on_disk is_disk leaves =
      let count = shown_next old plain shows.log_is shows.valid in
      let ends = frontier_ends plain shows.valid in
      let begins = shows.logged.first in
      let from = trimmed.first in
      let stops : ShowsStops owner data_at middle plain = record {
        valid = shows.valid;
        log_is = trimmed_shows_same old middle plain.cache.log seq shows.log_is (omega (arith, end, ends, count)) trimmed;
        logged = logged_trimmed data_at seq old middle plain (omega (arith, end)) trimmed shows.logged;
        committed = trimmed_has_committed owner plain.geometry old middle seq shows.committed trimmed;
        on_disk = on_disk;
      } in
      subst₂ (λ all (commits : CommitsState). OnSome all
      (HoldsSince (StopKeeps owner plain (IsFoundOrNext plain)) commits.disk.moments new.moments)) trimmed.all trimmed.commits
      (committing_keeps owner data_at middle plain new stops (omega (arith, from, begins, end)) is_disk leaves)

  -- while a commit is made, or fails
  pub commit_keeps_stops : (is_made : Bool) (new : LogState) → CommitsFrom seq is_made old new
      → StopKeepsSince owner old plain (IsFoundOrNext plain) new.commits.disk
  commit_keeps_stops is_made new commit =
      trimmed_keeps commit.middle new.commits.disk commit.trimmed commit.was_on_disk commit.on_disk.commits.is_disk commit.stands

  -- and while an entry is appended after it
  after_keep_stops : (entry : Entry) (result : Result ℕ AppendError) (new : LogState) → IsDisk new.commits.disk
      → (CommitsFrom seq false old new × (result ≡ Err errors.DeviceFault))
      ⊎ ((middle : LogState) × CommitsFrom seq true old middle × Appends entry result middle new)
      → StopKeepsSince owner old plain (IsFoundOrNext plain) new.commits.disk
  after_keep_stops entry result new is_disk (inl failed) = commit_keeps_stops false new failed.0
  after_keep_stops entry result new is_disk (inr (middle, commit, appends)) =
      trimmed_keeps commit.middle new.commits.disk commit.trimmed commit.was_on_disk is_disk
      (leaves_after commit.middle middle commit.was_on_disk commit.list commit.released (commit.made refl).commits.made
      new.commits.disk commit.stands appends.keeps.stands)

  -- at once, or after a commit
  pub enter_keeps_stops : (entry : Entry) (result : Result ℕ AppendError) (new : LogState) → IsDisk new.commits.disk
      → EntersLog entry seq result old new
      → StopKeepsSince owner old plain (IsFoundOrNext plain) new.commits.disk
  enter_keeps_stops entry result new is_disk (inl at_once) =
      kept_as owner old plain (λ found. IsFoundCommit found plain.cache.log) (IsFoundOrNext plain) new.commits.disk
      (λ found is. inl is)
      (since_keeps owner data_at old plain new.commits.disk shows is_disk at_once.appends.keeps.stands)
  enter_keeps_stops entry result new is_disk (inr after) = after_keep_stops entry result new is_disk after.then
