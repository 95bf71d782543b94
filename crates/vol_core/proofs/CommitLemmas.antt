-- A commit of the log does what a commit of the plain volume does whose device has some fuse.
use Rattle.std.proofs.Common.{◌≡◌, ℕ, ◌+◌, ◌-◌, ◌≤◌, Bool, true, false, length, refl, ◌∙◌, ap, subst, inl, inr, arith}
use Rattle.std.proofs.Common.{length-append, length-drop}
use Rattle.std.specs.Prelude.{Option, Some, None, option_map}
use Rattle.lsvd_device.specs.Calls.{Fuse, fuse_after}
use Rattle.commit_body.specs.declared.body.CommitBody.{CommitBody}
use Rattle.commit_slot.specs.Commits.{CommitsState, IsMadeInPart, finished_number, commit_cost}
use Rattle.cache_log.specs.Log.{LogState, all_rows, next_seq, IsTrimmed}
use Rattle.cache_log.specs.Committed.{body_of}
use Rattle.plain_disk.specs.Cache.{PlainCache, commit_calls_after, passes_commit, cache_after_commit}
use Rattle.plain_disk.specs.Log.{PlainLog}
use Rattle.plain_disk.specs.State.{PlainState, history_length, frontier_end}
use Rattle.plain_disk.specs.Valid.{IsPlainVolume}
use Rattle.plain_disk.proofs.EndLemmas.{frontier_ends}
use Rattle.refine_log.specs.Shows.{commit_of, ShowsLog}
use Rattle.refine_log.specs.Logged.{HasLoggedEntries}
use Rattle.refine_log.specs.Fuses.{LetsCommit}
use Rattle.refine_log.specs.Laws.{HasFuse, IsToldFuse}
use Rattle.refine_log.proofs.Following.{records_count}
use Rattle.refine_log.proofs.Shown.{trimmed_shows_same}
use Rattle.refine_log.proofs.PlainCommits.{plain_commit_takes_calls}
use Rattle.refine_log.proofs.Commits.{commit_shows_commit}
use Rattle.refine_log.proofs.FuseLemmas.{made_commit_has_fuse, failed_commit_has_fuse}
use Rattle.vol_core.specs.Calls.{CommitsFrom}
use Rattle.vol_core.proofs.LoggedLemmas.{logged_alike, logged_trimmed}

-- ---- counts

-- a log has as many entries as the plain volume's history
pub shown_next : (log : LogState) (plain : PlainState) → ShowsLog log plain.cache.log → IsPlainVolume plain
    → next_seq log ≡ history_length plain
shown_next log plain is valid =
    let counted = is.counted in
    let seq : plain.cache.log.last.tail.seq ≡ log.commits.body.tail.seq = ap (λ c. c.tail.seq) is.last in
    let many : length plain.cache.log.records ≡ length (all_rows log) =
    ap length is.records ∙ records_count (all_rows log) log.room.log log.commits.body.tail.position in
    let long = length-append log.held log.rows in
    let whole = valid.log.counted in
    omega (arith, counted, seq, many, long, whole)

-- ---- what a commit leaves

-- the plain volume's cache whose device has this fuse
abbrev pub with_left : Fuse → PlainCache → PlainCache
with_left fuse cache = record cache { left = fuse }

-- What a commit with its tail at the frontier's end leaves of a log, where it does what the plain volume's does whose device has
-- this fuse.
pub record CommitsAs (is_made : Bool) (fuse : Fuse) (data_at : ℕ → ℕ) (old new : LogState) (plain : PlainState) : Type 0 where
  pub log : ShowsLog new (cache_after_commit (frontier_end plain) (with_left fuse plain.cache)).log
  pub passed : passes_commit (with_left fuse plain.cache) ≡ is_made
  pub left : (cache_after_commit (frontier_end plain) (with_left fuse plain.cache)).left
      ≡ fuse_after fuse (commit_cost old.commits.unfinished).calls
  pub logged : HasLoggedEntries data_at new plain
  pub first : new.first ≡ frontier_end plain
  pub next : next_seq new ≡ next_seq old
  pub number : new.commits.number ≤ old.commits.number + 2

-- the calls of a commit are as many on both
calls_are : (unfinished : Option CommitBody) → commit_calls_after (option_map commit_of unfinished)
    ≡ (commit_cost unfinished).calls
calls_are None = refl
calls_are (Some body) = refl

pub shown_calls : (log : LogState) (plain : PlainLog) → ShowsLog log plain
    → commit_calls_after plain.unfinished ≡ (commit_cost log.commits.unfinished).calls
shown_calls log plain is = ap commit_calls_after is.unfinished ∙ calls_are log.commits.unfinished

-- ---- numbers

one_finished : (number : ℕ) (unfinished : Option CommitBody) → finished_number number unfinished ≤ number + 1
one_finished number None = omega arith
one_finished number (Some body) = omega arith

number_in_part : (body : CommitBody) (old new : CommitsState) → IsMadeInPart body old new → new.number ≤ old.number + 2
number_in_part body old new (inl at) = (let same = at.same_number in omega (arith, same))
number_in_part body old new (inr (inl at)) =
    (let same = at.same_number in omega (arith, same, one_finished old.number old.unfinished))
number_in_part body old new (inr (inr at)) =
    (let same = at.same_number in omega (arith, same, one_finished old.number old.unfinished))

commit_number : (end : ℕ) (is_made : Bool) (old new : LogState) → CommitsFrom end is_made old new
    → new.commits.number ≤ old.commits.number + 2
commit_number end true old new commit =
    let before : CommitsState = commit.middle.commits in
    let is = (commit.made refl).commits.made.same_number in
    let same : before.number ≡ old.commits.number = ap (λ c. c.number) commit.trimmed.commits in
    omega (arith, is, same, one_finished before.number before.unfinished)
commit_number end false old new commit =
    let same : commit.middle.commits.number ≡ old.commits.number = ap (λ c. c.number) commit.trimmed.commits in
    let most = number_in_part (body_of commit.middle) commit.middle.commits new.commits (commit.failed refl).made in
    omega (arith, most, same)

pub trimmed_next : (end : ℕ) (old middle : LogState) → end ≤ next_seq old → IsTrimmed end old middle
    → next_seq middle ≡ next_seq old
trimmed_next end old middle below trimmed =
    let first = trimmed.first in
    let many : length middle.rows ≡ length old.rows - (end - old.first) = ap length trimmed.rows
    ∙ length-drop (end - old.first) old.rows in
    omega (arith, first, many, below)

-- ---- a commit

-- with a fuse that lets it get as far as it got
pub commit_with : (fuse : Fuse) (is_made : Bool) (data_at : ℕ → ℕ) (old new : LogState) (plain : PlainState)
    → ShowsLog old plain.cache.log → IsPlainVolume plain → HasLoggedEntries data_at old plain
    → (commit : CommitsFrom (frontier_end plain) is_made old new)
    → LetsCommit fuse is_made (body_of commit.middle) commit.middle.commits new.commits
    → CommitsAs is_made fuse data_at old new plain
commit_with fuse is_made data_at old new plain is valid logged commit lets =
    let middle : LogState = commit.middle in
    let end : ℕ = frontier_end plain in
    let cache : PlainCache = with_left fuse plain.cache in
    let count = shown_next old plain is valid in
    let below : end ≤ next_seq old = omega (arith, count, frontier_ends plain valid) in
    let ready = trimmed_shows_same old middle plain.cache.log end is below commit.trimmed in
    let begins = logged.first in
    let from = commit.trimmed.first in
    let first : middle.first ≡ end = omega (arith, from, begins) in
    let then = commit_shows_commit middle new cache is_made ready commit.list commit.released
    (λ made. (commit.made made).commits.made) lets in
    let list = commit.list in
    let same_next : next_seq new ≡ next_seq middle = (let a = list.first in let b = ap length list.rows in omega (arith, a, b)) in
    record {
      log = subst (λ n. ShowsLog new (cache_after_commit n cache).log) first then.0;
      passed = then.1;
      left = plain_commit_takes_calls end cache ∙ ap (fuse_after fuse) (shown_calls old plain.cache.log is);
      logged = logged_alike data_at middle new plain list.first list.rows list.entries
          (logged_trimmed data_at end old middle plain (omega arith) commit.trimmed logged);
      first = list.first ∙ first;
      next = same_next ∙ trimmed_next end old middle below commit.trimmed;
      number = commit_number end is_made old new commit;
    }

fuse_of_commit : (end : ℕ) (is_made : Bool) (old new : LogState) → (commit : CommitsFrom end is_made old new)
    → HasFuse commit.middle new is_made
fuse_of_commit end true old new commit = made_commit_has_fuse commit.middle new commit.calls
fuse_of_commit end false old new commit = failed_commit_has_fuse commit.middle new commit.calls (commit.failed refl)

-- with some fuse, which is the disk's where it is told
pub record CommitsWithFuse (is_made : Bool) (data_at : ℕ → ℕ) (old new : LogState) (plain : PlainState) : Type 0 where
  pub fuse : Fuse
  pub commits : CommitsAs is_made fuse data_at old new plain
  pub told : IsToldFuse fuse (commit_cost old.commits.unfinished) old.commits.disk new.commits.disk

pub commit_has_fuse : (is_made : Bool) (data_at : ℕ → ℕ) (old new : LogState) (plain : PlainState)
    → ShowsLog old plain.cache.log → IsPlainVolume plain → HasLoggedEntries data_at old plain
    → CommitsFrom (frontier_end plain) is_made old new
    → CommitsWithFuse is_made data_at old new plain
commit_has_fuse is_made data_at old new plain is valid logged commit =
    let some = fuse_of_commit (frontier_end plain) is_made old new commit in
    record {
      fuse = some.fuse;
      commits = commit_with some.fuse is_made data_at old new plain is valid logged commit some.lets;
      told = subst (λ (c : CommitsState). IsToldFuse some.fuse (commit_cost c.unfinished) c.disk new.commits.disk)
          commit.trimmed.commits some.told;
    }
