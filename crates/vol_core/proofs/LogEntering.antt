-- An entry that comes to the log does what it does in the plain volume, where the device has some fuse.
use Rattle.std.proofs.Common.{◌≡◌, ℕ, ◌+◌, ◌<◌, ◌≤◌, ◌⊎◌, Bool, true, false, not, ◌&&◌, [], ◌∷◌, length, refl, sym, ◌∙◌, ap}
use Rattle.std.proofs.Common.{subst, inl, inr, arith, length-append}
use Rattle.std.specs.Prelude.{Option, Some, None, Result, Ok, Err, nat_le, nat_lt}
use Rattle.std.proofs.lemmas.Bool.{le-leb, lt-leb, lt-ltb, le-ltb, leb-true}
use Rattle.lsvd_base.specs.declared.entry.Entry.{Entry}
use Rattle.lsvd_device.specs.Calls.{Fuse, Budget, Cost, together, passes, fuse_after, Takes}
use Rattle.lsvd_device.specs.Memory.{HasRoom}
use Rattle.log_room.specs.Room.{need, free, position, record_sectors}
use Rattle.commit_body.specs.declared.body.CommitBody.{CommitBody}
use Rattle.commit_slot.specs.Commits.{CommitsState, commit_cost}
use Rattle.cache_log.specs.declared.error.AppendError.{AppendError}
use Rattle.cache_log.specs.declared.error.AppendError.TheVariants as errors
use Rattle.cache_log.specs.Log.{LogState, next_seq, row_of}
use Rattle.plain_disk.specs.Log.{PlainLog}
use Rattle.plain_disk.specs.Cache.{PlainCache, cache_after_commit}
use Rattle.plain_disk.specs.State.{PlainState, history_length, frontier_end}
use Rattle.plain_disk.specs.Entries.{batch_refusal, has_room_for, commits_for_room}
use Rattle.plain_disk.specs.Valid.{IsPlainVolume}
use Rattle.plain_disk.proofs.EndLemmas.{frontier_ends}
use Rattle.refine_log.specs.Shows.{ShowsLog}
use Rattle.refine_log.specs.Logged.{HasLoggedEntries}
use Rattle.refine_log.specs.Fuses.{fuse_in, calls_to_finish}
use Rattle.refine_log.proofs.PlainCommits.{IsCacheOf, calls_before, calls_of_commit, commit_made}
use Rattle.vol_core.specs.Step.{passing}
use Rattle.vol_core.specs.Calls.{CommitsFrom, Appends, EntersAtOnce, EntersAfterCommit, EntersLog}
use Rattle.vol_core.proofs.CommitLemmas.{with_left, shown_next, shown_calls, CommitsAs, commit_with, commit_has_fuse}
use Rattle.vol_core.proofs.LoggedLemmas.{ReachesEnd, reaches_from_end}
use Rattle.vol_core.proofs.PlainEntering.{EntersPlain, commit_failed, comes_at_once, comes_after_commit}
use Rattle.vol_core.proofs.AppendLemmas.{reply_to_append, log_by, entries_by, places_by, calls_by, most_of_append, room_for_fewer}
use Rattle.vol_core.proofs.AppendLemmas.{append_has_fuse, append_shows, append_logged, append_does}

-- what a commit before an entry, and the entry, take at most
abbrev pub most_for : Option CommitBody → Entry → Cost
most_for unfinished entry = together (commit_cost unfinished) (most_of_append (record_sectors entry))

-- an entry that came to the log does this in the plain volume whose device has some fuse, the disk's own where it is told
pub record EntersWith (entry : Entry) (result : Result ℕ AppendError) (data_at : ℕ → ℕ) (old new : LogState)
    (plain : PlainState) : Type 0 where
  pub left : Fuse
  pub log : PlainLog
  pub spent : Fuse
  pub does : EntersPlain (passing left plain) entry (reply_to_append result (history_length plain)) log spent
      (entries_by result plain.entries entry)
  pub shows : ShowsLog new log
  pub logged : HasLoggedEntries (places_by result data_at (history_length plain)) new
      (record plain { entries = entries_by result plain.entries entry })
  pub next : next_seq new ≤ next_seq old + 1
  pub number : new.commits.number ≤ old.commits.number + 2
  pub told : HasRoom (most_for old.commits.unfinished entry).changes (most_for old.commits.unfinished entry).bytes
      old.commits.disk.budget
      → (left ≡ fuse_in old.commits.disk.budget) × (spent ≡ fuse_in new.commits.disk.budget)

-- ---- room for the calls

pub room_for_first : (first second : Cost) (budget : Option Budget)
    → HasRoom (together first second).changes (together first second).bytes budget
    → HasRoom first.changes first.bytes budget
room_for_first first second budget room =
    room_for_fewer first.changes first.bytes (first.changes + second.changes) (first.bytes + second.bytes) budget (omega arith)
    (omega arith) room

pub room_for_second : (first second : Cost) (budget : Option Budget)
    → HasRoom (together first second).changes (together first second).bytes budget
    → HasRoom second.changes second.bytes budget
room_for_second first second budget room =
    room_for_fewer second.changes second.bytes (first.changes + second.changes) (first.bytes + second.bytes) budget (omega arith)
    (omega arith) room

-- where there is room for two, there is room for the second after the first
pub room_then : (first second : Cost) (are_made : Bool) (old new : Option Budget) → Takes first are_made old new
    → HasRoom (together first second).changes (together first second).bytes old
    → HasRoom second.changes second.bytes new
room_then first second are_made None new takes room = absurd room
room_then first second are_made (Some budget) new (left, same, within) room =
    let calls = room.0 in
    let bytes = room.1 in
    let took = within (omega (arith, calls)) (omega (arith, bytes)) in
    let a = took.calls in
    let b = took.bytes in
    subst (HasRoom second.changes second.bytes) (sym same) (omega (arith, calls, a), omega (arith, bytes, b))

-- ---- fuses

-- a fuse that passes N calls more
abbrev with_more : Fuse → ℕ → Fuse
with_more None n = None
with_more (Some left) n = Some (left + n)

passes_more : (fuse : Fuse) (n : ℕ) → passes (with_more fuse n) n ≡ true
passes_more None n = refl
passes_more (Some left) n = le-leb n (left + n) (omega arith)

more_after : (fuse : Fuse) (n : ℕ) → fuse_after (with_more fuse n) n ≡ fuse
more_after None n = refl
more_after (Some left) n = ap Some (omega arith)

more_again : (fuse : Fuse) (n : ℕ) → passes fuse n ≡ true → with_more (fuse_after fuse n) n ≡ fuse
more_again None n passed = refl
more_again (Some left) n passed = ap Some (let most = leb-true n left passed in omega (arith, most))

calls_of : (unfinished : Option CommitBody) → (commit_cost unfinished).calls ≡ calls_to_finish unfinished + 5
calls_of None = refl
calls_of (Some body) = refl

-- ---- an append

append_next : (entry : Entry) (result : Result ℕ AppendError) (old new : LogState) → Appends entry result old new
    → next_seq new ≤ next_seq old + 1
append_next entry (Ok at) old new appends =
    let first = appends.ok.first in
    let rows = ap length appends.ok.rows in
    let more = length-append old.rows (row_of (next_seq old) (position old.room (record_sectors entry)) entry ∷ []) in
    omega (arith, first, rows, more)
append_next entry (Err (errors.NoRoom needed left)) old new appends =
    let same = ap (λ (l : LogState). next_seq l) appends.err.untouched in omega (arith, same)
append_next entry (Err errors.DeviceFault) old new appends =
    let first = appends.err.same.first in
    let rows = ap length appends.err.same.rows in
    omega (arith, first, rows)

module _ (entry : Entry) (data_at : ℕ → ℕ) (old : LogState) (plain : PlainState) (is : ShowsLog old plain.cache.log)
    (valid : IsPlainVolume plain)
    (logged : HasLoggedEntries data_at old plain) (taken : batch_refusal plain entry ≡ None) where
  tail_seq : plain.cache.log.last.tail.seq ≡ old.commits.body.tail.seq
  tail_seq = ap (λ c. c.tail.seq) is.last

  counted : next_seq old ≡ history_length plain
  counted = shown_next old plain is valid

  room_has : need old.room (record_sectors entry) ≤ free old.room → has_room_for plain.cache entry ≡ true
  room_has enough = ap (λ r. nat_le (need r (record_sectors entry)) (free r)) is.room
      ∙ le-leb (need old.room (record_sectors entry)) (free old.room) enough

  room_lacks : free old.room < need old.room (record_sectors entry) → has_room_for plain.cache entry ≡ false
  room_lacks few = ap (λ r. nat_le (need r (record_sectors entry)) (free r)) is.room
      ∙ lt-leb (need old.room (record_sectors entry)) (free old.room) few

  first_by : (room releases : Bool) → has_room_for plain.cache entry ≡ room
      → nat_lt plain.cache.log.last.tail.seq (frontier_end plain) ≡ releases
      → commits_for_room plain entry ≡ (not room && releases)
  first_by room releases has released =
      ap (λ b. not b && nat_lt plain.cache.log.last.tail.seq (frontier_end plain)) has ∙ ap (λ b. not room && b) released

  -- no commit comes first
  pub none_first : (result : Result ℕ AppendError) (new : LogState) → EntersAtOnce entry (frontier_end plain) result old new
      → commits_for_room plain entry ≡ false
  none_first (Ok at) new at_once = first_by true _ (room_has at_once.appends.ok.had_room) refl
  none_first (Err errors.DeviceFault) new at_once = first_by true _ (room_has at_once.appends.err.had_room) refl
  none_first (Err (errors.NoRoom needed left)) new at_once =
      let few = at_once.appends.err in
      let less = few.too_few in
      let a = few.needed_is in
      let b = few.left_is in
      let last = at_once.last refl in
      let seq = tail_seq in
      first_by false false (room_lacks (omega (arith, less, a, b)))
      (le-ltb plain.cache.log.last.tail.seq (frontier_end plain) (omega (arith, last, seq)))

  -- a commit comes first
  pub one_first : (result : Result ℕ AppendError) (new : LogState) → EntersAfterCommit entry (frontier_end plain) result old new
      → commits_for_room plain entry ≡ true
  one_first result new after =
      let few = after.first.err in
      let less = few.too_few in
      let a = few.needed_is in
      let b = few.left_is in
      let releases = after.releases in
      let seq = tail_seq in
      first_by false true (room_lacks (omega (arith, less, a, b)))
      (lt-ltb plain.cache.log.last.tail.seq (frontier_end plain) (omega (arith, releases, seq)))

  enters_at_once : (result : Result ℕ AppendError) (new : LogState) → ReachesEnd old plain
      → EntersAtOnce entry (frontier_end plain) result old new
      → EntersWith entry result data_at old new plain
  enters_at_once result new reaches at_once =
      let appends = at_once.appends in
      let some = append_has_fuse entry result old new plain.cache.log is appends in
      let state : PlainState = passing some.fuse plain in
      let comes = comes_at_once state entry taken (none_first result new at_once) in
      let same = appends.keeps.commits.same_number in
      record {
        left = some.fuse;
        log = log_by result plain.cache.log entry;
        spent = fuse_after some.fuse (calls_by result plain.cache.log entry);
        does = append_does state entry state.cache result old new plain.cache.log some.fuse comes
            (record { same_log = refl; same_left = refl }) is appends some.lets;
        shows = append_shows entry result old new plain.cache.log is appends;
        logged = append_logged entry result data_at old new plain plain.cache.log is (frontier_ends plain valid) counted reaches
            logged appends;
        next = append_next entry result old new appends;
        number = omega (arith, same);
        told = λ room.
            let own = some.told (room_for_second (commit_cost old.commits.unfinished)
            (most_of_append (record_sectors entry)) old.commits.disk.budget room) in
            (own.0, sym own.1);
      }

  -- ---- after a commit

  enters_after_failed : (new : LogState) → commits_for_room plain entry ≡ true → CommitsFrom (frontier_end plain) false old new
      → EntersWith entry (Err errors.DeviceFault) data_at old new plain
  enters_after_failed new first commit =
      let then = commit_has_fuse false data_at old new plain is valid logged commit in
      let state : PlainState = passing then.fuse plain in
      let ready : PlainCache = cache_after_commit (frontier_end state) state.cache in
      let same = then.commits.next in
      record {
        left = then.fuse;
        log = ready.log;
        spent = ready.left;
        does = commit_failed state entry ready (comes_after_commit state entry false taken first then.commits.passed);
        shows = then.commits.log;
        logged = then.commits.logged;
        next = omega (arith, same);
        number = then.commits.number;
        told = λ room.
            let own = then.told (room_for_first (commit_cost old.commits.unfinished)
            (most_of_append (record_sectors entry)) old.commits.disk.budget room) in
            (own.0, then.commits.left ∙ sym own.1);
      }

  -- a commit that was made, with any fuse that passes its calls
  module _ (middle : LogState) (commit : CommitsFrom (frontier_end plain) true old middle) where
    abbrev calls : ℕ
    calls = (commit_cost old.commits.unfinished).calls

    abbrev made_log : PlainLog
    made_log = (cache_after_commit (frontier_end plain) (with_left None plain.cache)).log

    made_with : (fuse : Fuse) → passes fuse calls ≡ true → CommitsAs true fuse data_at old middle plain
    made_with fuse passed =
        commit_with fuse true data_at old middle plain is valid logged commit
        (subst (λ (c : CommitsState). passes fuse (calls_to_finish c.unfinished + 5) ≡ true) (sym commit.trimmed.commits)
        (ap (passes fuse) (sym (calls_of old.commits.unfinished)) ∙ passed))

    same_made : (fuse : Fuse) → passes fuse calls ≡ true
        → (cache_after_commit (frontier_end plain) (with_left fuse plain.cache)).log ≡ made_log
    same_made fuse passed =
        let count : calls_before plain.cache.log.unfinished + 5 ≡ calls =
        calls_of_commit plain.cache.log.unfinished ∙ shown_calls old plain.cache.log is in
        (commit_made (frontier_end plain) (with_left fuse plain.cache) (ap (passes fuse) count ∙ passed)).same_log
        ∙ sym (commit_made (frontier_end plain) (with_left None plain.cache) refl).same_log

    -- the disk's own fuse, less the calls of the commit, is what the append is told
    told_after : (left spent : Fuse) (new : LogState)
        → (HasRoom (most_of_append (record_sectors entry)).changes (most_of_append (record_sectors entry)).bytes
        middle.commits.disk.budget
        → (left ≡ fuse_in middle.commits.disk.budget) × (fuse_in new.commits.disk.budget ≡ spent))
        → HasRoom (most_for old.commits.unfinished entry).changes (most_for old.commits.unfinished entry).bytes
        old.commits.disk.budget
        → (with_more left calls ≡ fuse_in old.commits.disk.budget) × (spent ≡ fuse_in new.commits.disk.budget)
    told_after left spent new told room =
        let cost : Cost = commit_cost old.commits.unfinished in
        let first = commit_has_fuse true data_at old middle plain is valid logged commit in
        let own = first.told (room_for_first cost (most_of_append (record_sectors entry)) old.commits.disk.budget room) in
        let passed : passes first.fuse calls ≡ true = ap (passes first.fuse) (sym (shown_calls old plain.cache.log is))
        ∙ first.commits.passed in
        let takes : Takes cost true old.commits.disk.budget middle.commits.disk.budget =
        subst (λ (c : CommitsState). Takes
        (commit_cost c.unfinished) true c.disk.budget middle.commits.disk.budget) commit.trimmed.commits
        commit.calls.calls.budget in
        let then = told (room_then cost
        (most_of_append (record_sectors entry)) true old.commits.disk.budget middle.commits.disk.budget takes room) in (
          ap (λ f. with_more f calls) (then.0 ∙ own.1) ∙ more_again first.fuse calls passed ∙ own.0,
          sym then.1,
        )

    enters_after_made : (result : Result ℕ AppendError) (new : LogState) → commits_for_room plain entry ≡ true
        → Appends entry result middle new
        → EntersWith entry result data_at old new plain
    enters_after_made result new first appends =
        let shown : ShowsLog middle made_log = (made_with None refl).log in
        let some = append_has_fuse entry result middle new made_log shown appends in
        let left : Fuse = with_more some.fuse calls in
        let passed = passes_more some.fuse calls in
        let made = made_with left passed in
        let state : PlainState = passing left plain in
        let ready : PlainCache = cache_after_commit (frontier_end state) state.cache in
        let comes = comes_after_commit state entry true taken first made.passed in
        let is_cache : IsCacheOf made_log some.fuse ready =
        record { same_log = same_made left passed; same_left = made.left ∙ more_after some.fuse calls } in
        let kept = appends.keeps.commits.same_number in
        let same = made.next in
        record {
          left = left;
          log = log_by result made_log entry;
          spent = fuse_after some.fuse (calls_by result made_log entry);
          does = append_does state entry ready result middle new made_log some.fuse comes is_cache shown appends some.lets;
          shows = append_shows entry result middle new made_log shown appends;
          logged = append_logged entry result data_at middle new plain made_log shown (frontier_ends plain valid) (same ∙ counted)
              (reaches_from_end middle plain made.first) made.logged appends;
          next = (let more = append_next entry result middle new appends in omega (arith, more, same));
          number = (let most = made.number in omega (arith, kept, most));
          told = told_after some.fuse (fuse_after some.fuse (calls_by result made_log entry)) new some.told;
        }

  -- ---- at once, or after a commit

  enters_after : (result : Result ℕ AppendError) (new : LogState) → commits_for_room plain entry ≡ true
      → (CommitsFrom (frontier_end plain) false old new × (result ≡ Err errors.DeviceFault))
      ⊎ ((middle : LogState) × CommitsFrom (frontier_end plain) true old middle × Appends entry result middle new)
      → EntersWith entry result data_at old new plain
  enters_after result new first (inl failed) =
      subst (λ r. EntersWith entry r data_at old new plain) (sym failed.1) (enters_after_failed new first failed.0)
  enters_after result new first (inr (middle, commit, appends)) = enters_after_made middle commit result new first appends

  enters_in : (result : Result ℕ AppendError) (new : LogState) → ReachesEnd old plain
      → EntersLog entry (frontier_end plain) result old new
      → EntersWith entry result data_at old new plain
  enters_in result new reaches (inl at_once) = enters_at_once result new reaches at_once
  enters_in result new reaches (inr after) = enters_after result new (one_first result new after) after.then

pub enters_with : (entry : Entry) (result : Result ℕ AppendError) (data_at : ℕ → ℕ) (old new : LogState) (plain : PlainState)
    → ShowsLog old plain.cache.log → IsPlainVolume plain → HasLoggedEntries data_at old plain → batch_refusal plain entry ≡ None
    → ReachesEnd old plain → EntersLog entry (frontier_end plain) result old new
    → EntersWith entry result data_at old new plain
enters_with entry result data_at old new plain is valid logged taken reaches enters =
    enters_in entry data_at old plain is valid logged taken result new reaches enters
