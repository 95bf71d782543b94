-- What a commit of a volume's log, and an entry of it, leave pending, where the device has room for their calls.
use Rattle.std.proofs.Common.{◌≡◌, ℕ, ◌≤◌, Bool, true, false, refl, sym, ◌∙◌, ap, subst, inl, inr, arith}
use Rattle.std.specs.Prelude.{Option, Some, None, is_some, IsTrue, Result, Ok, Err}
use Rattle.lsvd_base.specs.declared.entry.Entry.{Entry}
use Rattle.lsvd_device.specs.Calls.{Fuse, Budget, Cost, fuse_after, Takes}
use Rattle.lsvd_device.specs.Memory.{HasRoom}
use Rattle.log_room.specs.Room.{record_sectors}
use Rattle.commit_slot.specs.Commits.{CommitsState, commit_cost}
use Rattle.commit_slot.specs.OnDisk.{AreOnDisk}
use Rattle.cache_log.specs.declared.error.AppendError.{AppendError}
use Rattle.cache_log.specs.declared.error.AppendError.TheVariants as errors
use Rattle.cache_log.specs.Log.{LogState, next_seq}
use Rattle.plain_disk.specs.Cache.{PlainCache, cache_after_commit}
use Rattle.plain_disk.specs.State.{PlainState, frontier_end}
use Rattle.plain_disk.specs.Entries.{batch_refusal, commits_for_room, after_entering}
use Rattle.plain_disk.specs.Valid.{IsPlainVolume}
use Rattle.plain_disk.proofs.EndLemmas.{frontier_ends}
use Rattle.refine_log.specs.Shows.{ShowsLog}
use Rattle.refine_log.specs.Logged.{HasLoggedEntries}
use Rattle.refine_log.specs.Fuses.{fuse_in}
use Rattle.refine_log.proofs.Shown.{trimmed_shows_same}
use Rattle.refine_log.specs.Pending.{ShowsPending}
use Rattle.refine_log.specs.PendingLaws.{CanTake}
use Rattle.refine_log.proofs.PendingShown.{still_shows_pending, entry_shows_pending, made_shows_pending, failed_shows_pending}
use Rattle.vol_core.specs.Step.{passing}
use Rattle.vol_core.specs.Calls.{CommitsFrom, Appends, EntersAtOnce, EntersLog}
use Rattle.vol_core.proofs.CommitLemmas.{with_left, shown_next, CommitsAs, commit_has_fuse}
use Rattle.vol_core.proofs.PlainEntering.{failed_cache, comes_at_once, comes_after_commit}
use Rattle.vol_core.proofs.AppendLemmas.{most_of_append, room_for_append, cache_by, append_cache}
use Rattle.vol_core.proofs.LogEntering.{most_for, room_for_first, room_for_second, room_then, none_first, one_first}

-- a disk that told its budget tells it after calls
pub told_stays : (cost : Cost) (are_made : Bool) (old new : Option Budget) → Takes cost are_made old new → IsTrue (is_some old)
    → IsTrue (is_some new)
told_stays cost are_made None new takes told = absurd (cc)
told_stays cost are_made (Some budget) new takes told = subst (λ o. IsTrue (is_some o)) (sym takes.1) refl

-- the calls that the plain cache passes are no matter
pub with_left_pends : (log : LogState) (cache : PlainCache) (left : Fuse) → ShowsPending log cache
    → ShowsPending log (with_left left cache)
with_left_pends log cache left pends = record { told = pends.told; pending = pends.pending; broken = pends.broken }

-- ---- a commit

-- the records before the frontier's end are dropped first, which changes no commit
trimmed_pends : (old middle : LogState) (cache : PlainCache) (left : Fuse) → middle.commits ≡ old.commits → ShowsPending old cache
    → ShowsPending middle (with_left left cache)
trimmed_pends old middle cache left same pends =
    still_shows_pending old middle cache (with_left left cache) pends
    (record {
      same_number = ap (λ (c : CommitsState). c.number) same;
      same_body = ap (λ (c : CommitsState). c.body) same;
      same_unfinished = ap (λ (c : CommitsState). c.unfinished) same;
    })
    (ap (λ (c : CommitsState). c.disk.moments) same)
    (subst (λ (c : CommitsState). IsTrue (is_some c.disk.budget)) (sym same) pends.told)
    (λ is. ap (λ (c : CommitsState). fuse_in c.disk.budget) same ∙ is)
    refl

commit_then : (seq : ℕ) (is_made : Bool) (old new : LogState) (cache : PlainCache) → (commit : CommitsFrom seq is_made old new)
    → ShowsPending commit.middle cache → ShowsLog commit.middle cache.log → AreOnDisk commit.middle.commits
    → CanTake (commit_cost commit.middle.commits.unfinished) commit.middle.commits.disk cache
    → ShowsPending new (cache_after_commit seq cache)
commit_then seq true old new cache commit pends is on_disk can =
    made_shows_pending seq commit.middle new cache pends is on_disk can commit.calls (commit.made refl).commits.made
commit_then seq false old new cache commit pends is on_disk can =
    failed_shows_pending seq commit.middle new cache pends is on_disk can commit.calls (commit.failed refl)

-- a commit, that was made or failed, of a log that shows the plain volume's
pub commit_pends : (is_made : Bool) (old new : LogState) (plain : PlainState) → ShowsLog old plain.cache.log → IsPlainVolume plain
    → AreOnDisk old.commits → HasRoom (commit_cost old.commits.unfinished).changes (commit_cost old.commits.unfinished).bytes
    old.commits.disk.budget
    → ShowsPending old plain.cache → CommitsFrom (frontier_end plain) is_made old new
    → ShowsPending new (cache_after_commit (frontier_end plain) (with_left (fuse_in old.commits.disk.budget) plain.cache))
commit_pends is_made old new plain is valid on_disk room pends commit =
    let end : ℕ = frontier_end plain in
    let cache : PlainCache = with_left (fuse_in old.commits.disk.budget) plain.cache in
    let same = commit.trimmed.commits in
    let count = shown_next old plain is valid in
    let below : end ≤ next_seq old = omega (arith, count, frontier_ends plain valid) in
    let can : CanTake (commit_cost old.commits.unfinished) old.commits.disk cache = record { left = refl; room = room } in
    commit_then end is_made old new cache commit
    (trimmed_pends old commit.middle plain.cache (fuse_in old.commits.disk.budget) same pends)
    (trimmed_shows_same old commit.middle plain.cache.log end is below commit.trimmed)
    (subst AreOnDisk (sym same) on_disk)
    (subst (λ (c : CommitsState). CanTake (commit_cost c.unfinished) c.disk cache) (sym same) can)

-- ---- an append

append_pends : (entry : Entry) (result : Result ℕ AppendError) (old new : LogState) (cache : PlainCache) → ShowsPending old cache
    → ShowsLog old cache.log → cache.left ≡ fuse_in old.commits.disk.budget
    → HasRoom (most_of_append (record_sectors entry)).changes (most_of_append (record_sectors entry)).bytes
    old.commits.disk.budget
    → Appends entry result old new → ShowsPending new (cache_by result entry cache)
append_pends entry (Ok at) old new cache pends is left room appends =
    entry_shows_pending old new cache entry true pends is appends.keeps.commits
    (record { left = left; room = room_for_append old.room (record_sectors entry) old.commits.disk.budget room }) appends.ok.calls
append_pends entry (Err (errors.NoRoom needed left_over)) old new cache pends is left room appends =
    subst (λ l. ShowsPending l cache) (sym appends.err.untouched) pends
append_pends entry (Err errors.DeviceFault) old new cache pends is left room appends =
    entry_shows_pending old new cache entry false pends is appends.keeps.commits
    (record { left = left; room = room_for_append old.room (record_sectors entry) old.commits.disk.budget room })
    appends.err.calls

-- ---- an entry that comes to the log

module _ (entry : Entry) (data_at : ℕ → ℕ) (old : LogState) (plain : PlainState) (is : ShowsLog old plain.cache.log)
    (valid : IsPlainVolume plain)
    (logged : HasLoggedEntries data_at old plain) (taken : batch_refusal plain entry ≡ None) (on_disk : AreOnDisk old.commits)
    (room : HasRoom (most_for old.commits.unfinished entry).changes (most_for old.commits.unfinished entry).bytes
    old.commits.disk.budget)
    (pends : ShowsPending old plain.cache) where
  -- the plain volume whose device passes what the log's does
  abbrev state : PlainState
  state = passing (fuse_in old.commits.disk.budget) plain

  abbrev ready : PlainCache
  ready = cache_after_commit (frontier_end state) state.cache

  room_to_commit : HasRoom (commit_cost old.commits.unfinished).changes (commit_cost old.commits.unfinished).bytes
      old.commits.disk.budget
  room_to_commit = room_for_first (commit_cost old.commits.unfinished) (most_of_append (record_sectors entry))
      old.commits.disk.budget room

  pends_at_once : (result : Result ℕ AppendError) (new : LogState) → EntersAtOnce entry (frontier_end plain) result old new
      → ShowsPending new (after_entering entry state).cache
  pends_at_once result new at_once =
      let comes = comes_at_once state entry taken (none_first entry data_at old plain is valid logged taken result new at_once) in
      subst (ShowsPending new) (sym (append_cache state entry state.cache result old new comes is at_once.appends))
      (append_pends entry result old new state.cache (with_left_pends old plain.cache (fuse_in old.commits.disk.budget) pends) is
      refl
      (room_for_second (commit_cost old.commits.unfinished) (most_of_append (record_sectors entry)) old.commits.disk.budget room)
      at_once.appends)

  -- a commit first, by the fuse that the device tells
  record CommitsByOwn (is_made : Bool) (new : LogState) : Type 0 where
    commits : CommitsAs is_made (fuse_in old.commits.disk.budget) data_at old new plain
    left : ready.left ≡ fuse_in new.commits.disk.budget

  commits_by_own : (is_made : Bool) (new : LogState) → CommitsFrom (frontier_end plain) is_made old new → CommitsByOwn is_made new
  commits_by_own is_made new commit =
      let then = commit_has_fuse is_made data_at old new plain is valid logged commit in
      let told = then.told room_to_commit in
      let own = subst (λ f. CommitsAs is_made f data_at old new plain) told.0 then.commits in
      record {
        commits = own;
        left = own.left ∙ ap (λ f. fuse_after f (commit_cost old.commits.unfinished).calls) (sym told.0) ∙ sym told.1;
      }

  pends_after_failed : (new : LogState) → commits_for_room plain entry ≡ true → CommitsFrom (frontier_end plain) false old new
      → ShowsPending new (after_entering entry state).cache
  pends_after_failed new first commit =
      let own = commits_by_own false new commit in
      let comes = comes_after_commit state entry false taken first own.commits.passed in
      subst (ShowsPending new) (sym (failed_cache state entry ready comes))
      (commit_pends false old new plain is valid on_disk room_to_commit pends commit)

  pends_after_made : (middle : LogState) (result : Result ℕ AppendError) (new : LogState) → commits_for_room plain entry ≡ true
      → CommitsFrom (frontier_end plain) true old middle → Appends entry result middle new
      → ShowsPending new (after_entering entry state).cache
  pends_after_made middle result new first commit appends =
      let own = commits_by_own true middle commit in
      let cost : Cost = commit_cost old.commits.unfinished in
      let takes : Takes cost true old.commits.disk.budget middle.commits.disk.budget =
      subst (λ (c : CommitsState). Takes (commit_cost c.unfinished) true c.disk.budget middle.commits.disk.budget)
      commit.trimmed.commits
      commit.calls.calls.budget in
      let comes = comes_after_commit state entry true taken first own.commits.passed in
      subst (ShowsPending new) (sym (append_cache state entry ready result middle new comes own.commits.log appends))
      (append_pends entry result middle new ready (commit_pends true old middle plain is valid on_disk room_to_commit
      pends commit)
      own.commits.log own.left
      (room_then cost (most_of_append (record_sectors entry)) true old.commits.disk.budget middle.commits.disk.budget takes room)
      appends)

  -- at once, or after a commit
  pub enter_pends : (result : Result ℕ AppendError) (new : LogState) → EntersLog entry (frontier_end plain) result old new
      → ShowsPending new (after_entering entry state).cache
  enter_pends result new (inl at_once) = pends_at_once result new at_once
  enter_pends result new (inr after) =
      let first = one_first entry data_at old plain is valid logged taken result new after in
      elim after.then [
        | inl failed ↦ pends_after_failed new first failed.0
        | inr (middle, commit, appends) ↦ pends_after_made middle result new first commit appends
      ]
