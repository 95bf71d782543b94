-- How far a commit of the plain cache gets, by the calls that its device passes.
use Rattle.std.proofs.Common.{◌≡◌, ℕ, ◌+◌, ◌-◌, ◌≤◌, Bool, true, false, cond, List, [], ◌∷◌, length, refl, sym, ◌∙◌, ap, inl, inr}
use Rattle.std.proofs.Common.{arith}
use Rattle.std.specs.Prelude.{Option, Some, None, nat_le}
use Rattle.std.proofs.lemmas.Bool.{leb-true, cases_Bool}
use Rattle.lsvd_device.specs.Calls.{Fuse, passes, fuse_after}
use Rattle.plain_disk.specs.declared.cache.PendingWrite.{PendingWrite}
use Rattle.plain_disk.specs.declared.cache.PendingWrite.TheVariants.{Body, ClosedGate, OpenedGate}
use Rattle.plain_disk.specs.declared.log.PlainCommit.{PlainCommit}
use Rattle.plain_disk.specs.Log.{PlainLog, commit_from, with_commit}
use Rattle.plain_disk.specs.Cache.{PlainCache, after_writes, after_sync_of, after_first_half, after_second_half, after_halves}
use Rattle.plain_disk.specs.Cache.{after_finishing, commit_calls_after, cache_after_commit}
use Rattle.refine_log.specs.Laws.{PlainCommitTakesCalls}

-- a cache has this log, and its device passes these calls
pub record IsCacheOf (log : PlainLog) (left : Fuse) (cache : PlainCache) : Type 0 where
  pub same_log : cache.log ≡ log
  pub same_left : cache.left ≡ left

-- ---- fuses

-- of one call more than a fuse does not pass nothing is left
all_spent : (fuse : Fuse) (n : ℕ) → passes fuse (n + 1) ≡ false → fuse_after fuse n ≡ fuse_after fuse (n + 1)
all_spent None n stops = refl
all_spent (Some left) n stops = ap Some (grind arith)

-- a spent fuse passes no call
spent_passes : (fuse : Fuse) (m n : ℕ) → passes fuse m ≡ false → 1 ≤ n → passes (fuse_after fuse m) n ≡ false
spent_passes None m n stops some = stops
spent_passes (Some left) m n stops some = grind arith

same_test : (left m n : ℕ) → m ≤ left → nat_le n (left - m) ≡ nat_le (m + n) left
same_test left m n less = grind arith

passed_on : (fuse : Fuse) (m n : ℕ) (b : Bool) → passes fuse m ≡ true → passes fuse (m + n) ≡ b → passes (fuse_after fuse m) n ≡ b
passed_on None m n b first both = both
passed_on (Some left) m n b first both = (let less : m ≤ left = leb-true m left first in same_test left m n less ∙ both)

pub stops_later : (fuse : Fuse) (m n : ℕ) → m ≤ n → passes fuse m ≡ false → passes fuse n ≡ false
stops_later None m n less stops = stops
stops_later (Some left) m n less stops = grind arith

passes_less : (fuse : Fuse) (m n : ℕ) → passes fuse (m + n) ≡ true → passes fuse m ≡ true
passes_less None m n both = refl
passes_less (Some left) m n both = grind arith

lower_on : (fuse : Fuse) (m n : ℕ) → fuse_after (fuse_after fuse m) n ≡ fuse_after fuse (m + n)
lower_on None m n = refl
lower_on (Some left) m n = ap Some (omega arith)

none_left : (fuse : Fuse) → fuse_after fuse 0 ≡ fuse
none_left None = refl
none_left (Some left) = ap Some (omega arith)

none_passes : (fuse : Fuse) → passes fuse 0 ≡ true
none_passes None = refl
none_passes (Some left) = grind arith

-- ---- one half

chosen : (P : PlainCache → Type 0) (b : Bool) (x y : PlainCache) → (b ≡ true → P x) → (b ≡ false → P y) → P (cond b x y)
chosen P true x y is other = is refl
chosen P false x y is other = other refl

-- writes and a sync leave the log, and take their calls
synced : (writes : List PendingWrite) (cache : PlainCache)
    → IsCacheOf cache.log (fuse_after cache.left (length writes + 1)) (after_sync_of writes cache)
synced writes cache =
    chosen (IsCacheOf cache.log (fuse_after cache.left (length writes + 1))) (passes cache.left (length writes + 1))
    (record cache { left = fuse_after cache.left (length writes + 1); pending = [] }) (after_writes writes cache)
    (λ _. record { same_log = refl; same_left = refl })
    (λ stops. record { same_log = refl; same_left = all_spent cache.left (length writes) stops })

-- the log after a half that its device passed or not
abbrev pub log_if : (is_made : Bool) (made log : PlainLog) → PlainLog
log_if true made log = made
log_if false made log = log

-- a half that was passed has this log, and else leaves the log
half_if : (made : PlainLog) (cache half : PlainCache) (left : Fuse) (passed is_made : Bool) → passed ≡ is_made
    → IsCacheOf cache.log left half
    → IsCacheOf (log_if is_made made cache.log) left (cond passed (record half { log = made }) half)
half_if made cache half left true true same is = record { same_log = refl; same_left = is.same_left }
half_if made cache half left false false same is = is
half_if made cache half left true false same is = absurd (cc)
half_if made cache half left false true same is = absurd (cc)

first_half : (commit : PlainCommit) (cache : PlainCache) (is_made : Bool) → passes cache.left 3 ≡ is_made
    → IsCacheOf (log_if is_made (record cache.log { unfinished = Some commit }) cache.log) (fuse_after cache.left 3)
    (after_first_half commit cache)
first_half commit cache is_made passed =
    half_if (record cache.log { unfinished = Some commit }) cache (after_sync_of (Body ∷ ClosedGate ∷ []) cache)
    (fuse_after cache.left 3)
    (passes cache.left 3) is_made passed (synced (Body ∷ ClosedGate ∷ []) cache)

second_half : (commit : PlainCommit) (cache : PlainCache) (is_made : Bool) → passes cache.left 2 ≡ is_made
    → IsCacheOf (log_if is_made (with_commit commit cache.log) cache.log) (fuse_after cache.left 2)
    (after_second_half commit cache)
second_half commit cache is_made passed =
    half_if (with_commit commit cache.log) cache (after_sync_of (OpenedGate ∷ []) cache) (fuse_after cache.left 2)
    (passes cache.left 2) is_made passed (synced (OpenedGate ∷ []) cache)

-- ---- both halves

-- the second half, where what came before it is told
second_then : (commit : PlainCommit) (cache : PlainCache) (log : PlainLog) (left : Fuse) (is_made : Bool)
    → IsCacheOf log left cache
    → passes left 2 ≡ is_made
    → IsCacheOf (log_if is_made (with_commit commit log) log) (fuse_after left 2) (after_second_half commit cache)
second_then commit cache log left is_made is passed =
    let half = second_half commit cache is_made (ap (λ f. passes f 2) is.same_left ∙ passed) in
    record {
      same_log = half.same_log ∙ ap (λ l. log_if is_made (with_commit commit l) l) is.same_log;
      same_left = half.same_left ∙ ap (λ f. fuse_after f 2) is.same_left;
    }

halves_made : (commit : PlainCommit) (cache : PlainCache) → passes cache.left 5 ≡ true
    → IsCacheOf (with_commit commit cache.log) (fuse_after cache.left 5) (after_halves commit cache)
halves_made commit cache passed =
    let begun = passes_less cache.left 3 2 passed in
    let both = second_then commit (after_first_half commit cache) (record cache.log { unfinished = Some commit })
    (fuse_after cache.left 3) true
    (first_half commit cache true begun)
    (passed_on cache.left 3 2 true begun passed) in
    record { same_log = both.same_log; same_left = both.same_left ∙ lower_on cache.left 3 2 }

halves_begun : (commit : PlainCommit) (cache : PlainCache) → passes cache.left 3 ≡ true → passes cache.left 5 ≡ false
    → IsCacheOf (record cache.log { unfinished = Some commit }) (fuse_after cache.left 5) (after_halves commit cache)
halves_begun commit cache begun stopped =
    let both = second_then commit (after_first_half commit cache) (record cache.log { unfinished = Some commit })
    (fuse_after cache.left 3) false
    (first_half commit cache true begun)
    (passed_on cache.left 3 2 false begun stopped) in
    record { same_log = both.same_log; same_left = both.same_left ∙ lower_on cache.left 3 2 }

halves_stopped : (commit : PlainCommit) (cache : PlainCache) → passes cache.left 3 ≡ false
    → IsCacheOf cache.log (fuse_after cache.left 5) (after_halves commit cache)
halves_stopped commit cache stopped =
    let both = second_then commit (after_first_half commit cache) cache.log (fuse_after cache.left 3) false
    (first_half commit cache false stopped)
    (spent_passes cache.left 3 2 stopped (omega arith)) in
    record { same_log = both.same_log; same_left = both.same_left ∙ lower_on cache.left 3 2 }

-- ---- the unfinished commit first

-- the calls of the second half that was left, and the log once it was made
abbrev pub calls_before : Option PlainCommit → ℕ
calls_before None = 0
calls_before (Some commit) = 2

abbrev pub finished_log : Option PlainCommit → PlainLog → PlainLog
finished_log None log = log
finished_log (Some commit) log = with_commit commit log

finishing : (unfinished : Option PlainCommit) (cache : PlainCache) (is_made : Bool)
    → passes cache.left (calls_before unfinished) ≡ is_made
    → IsCacheOf (log_if is_made (finished_log unfinished cache.log) cache.log) (fuse_after cache.left (calls_before unfinished))
    (after_finishing unfinished cache)
finishing None cache true passed = record { same_log = refl; same_left = sym (none_left cache.left) }
finishing None cache false stopped = record { same_log = refl; same_left = sym (none_left cache.left) }
finishing (Some commit) cache is_made passed = second_half commit cache is_made passed

-- ---- a commit

-- the log with a commit of all entries, and with its first half alone
abbrev pub log_made : (seq : ℕ) → PlainLog → PlainLog
log_made seq log = with_commit (commit_from seq log) log

abbrev pub log_begun : (seq : ℕ) → PlainLog → PlainLog
log_begun seq log = record log { unfinished = Some (commit_from seq log) }

-- the calls of the second half that was left of a cache, and its log once it was made
abbrev pub calls_first : PlainCache → ℕ
calls_first cache = calls_before cache.log.unfinished

abbrev pub log_ready : PlainCache → PlainLog
log_ready cache = finished_log cache.log.unfinished cache.log

-- the cache once that half was made, or failed
abbrev ready : PlainCache → PlainCache
ready cache = after_finishing cache.log.unfinished cache

abbrev IsReady : (cache : PlainCache) → PlainLog → Type 0
IsReady cache log = IsCacheOf log (fuse_after cache.left (calls_first cache)) (ready cache)

-- a commit of a cache leaves this log
abbrev pub IsAfterCommit : (seq : ℕ) (cache : PlainCache) → PlainLog → Type 0
IsAfterCommit seq cache log = IsCacheOf log (fuse_after cache.left (calls_first cache + 5)) (cache_after_commit seq cache)

after_ready : (of : PlainLog → PlainLog) (seq : ℕ) (cache : PlainCache) (log : PlainLog) → IsReady cache log
    → IsCacheOf (of (ready cache).log) (fuse_after (ready cache).left 5) (cache_after_commit seq cache)
    → IsAfterCommit seq cache (of log)
after_ready of seq cache log is halves = record {
  same_log = halves.same_log ∙ ap of is.same_log;
  same_left = halves.same_left ∙ ap (λ f. fuse_after f 5) is.same_left ∙ lower_on cache.left (calls_first cache) 5;
}

-- what is passed after it
ready_passes : (cache : PlainCache) (log : PlainLog) (n : ℕ) (b : Bool) → IsReady cache log
    → passes cache.left (calls_first cache) ≡ true
    → passes cache.left (calls_first cache + n) ≡ b → passes (ready cache).left n ≡ b
ready_passes cache log n b is first both = ap (λ f. passes f n) is.same_left
    ∙ passed_on cache.left (calls_first cache) n b first both

pub commit_made : (seq : ℕ) (cache : PlainCache) → passes cache.left (calls_first cache + 5) ≡ true
    → IsAfterCommit seq cache (log_made seq (log_ready cache))
commit_made seq cache passed =
    let log : PlainLog = log_ready cache in
    let first = passes_less cache.left (calls_first cache) 5 passed in
    let is = finishing cache.log.unfinished cache true first in
    after_ready (log_made seq) seq cache log is
    (halves_made (commit_from seq (ready cache).log) (ready cache) (ready_passes cache log 5 true is first passed))

pub commit_begun : (seq : ℕ) (cache : PlainCache) → passes cache.left (calls_first cache + 3) ≡ true
    → passes cache.left (calls_first cache + 5) ≡ false
    → IsAfterCommit seq cache (log_begun seq (log_ready cache))
commit_begun seq cache begun stopped =
    let log : PlainLog = log_ready cache in
    let first = passes_less cache.left (calls_first cache) 3 begun in
    let is = finishing cache.log.unfinished cache true first in
    after_ready (log_begun seq) seq cache log is
    (halves_begun (commit_from seq (ready cache).log) (ready cache) (ready_passes cache log 3 true is first begun)
    (ready_passes cache log 5 false is first stopped))

pub commit_finished : (seq : ℕ) (cache : PlainCache) → passes cache.left (calls_first cache) ≡ true
    → passes cache.left (calls_first cache + 3) ≡ false
    → IsAfterCommit seq cache (log_ready cache)
commit_finished seq cache first stopped =
    let log : PlainLog = log_ready cache in
    let is = finishing cache.log.unfinished cache true first in
    after_ready (λ l. l) seq cache log is
    (halves_stopped (commit_from seq (ready cache).log) (ready cache) (ready_passes cache log 3 false is first stopped))

pub commit_stopped : (seq : ℕ) (cache : PlainCache) → passes cache.left (calls_first cache) ≡ false
    → IsAfterCommit seq cache cache.log
commit_stopped seq cache stopped =
    let is = finishing cache.log.unfinished cache false stopped in
    let none : passes (ready cache).left 3 ≡ false =
    ap (λ f. passes f 3) is.same_left ∙ spent_passes cache.left (calls_first cache) 3 stopped (omega arith) in
    after_ready (λ l. l) seq cache cache.log is (halves_stopped (commit_from seq (ready cache).log) (ready cache) none)

-- ---- its calls

pub calls_of_commit : (unfinished : Option PlainCommit) → calls_before unfinished + 5 ≡ commit_calls_after unfinished
calls_of_commit None = refl
calls_of_commit (Some commit) = refl

takes_calls : (seq : ℕ) (cache : PlainCache) → (cache_after_commit seq cache).left ≡ fuse_after cache.left (calls_first cache + 5)
takes_calls seq cache =
    let n : ℕ = calls_first cache in
    elim (cases_Bool (passes cache.left (n + 5))) [
      | inl made ↦ (commit_made seq cache made).same_left
      | inr stopped ↦ elim (cases_Bool (passes cache.left (n + 3))) [
        | inl begun ↦ (commit_begun seq cache begun stopped).same_left
        | inr before ↦ elim (cases_Bool (passes cache.left n)) [
          | inl first ↦ (commit_finished seq cache first before).same_left
          | inr none ↦ (commit_stopped seq cache none).same_left
        ]
      ]
    ]

pub plain_commit_takes_calls : PlainCommitTakesCalls
plain_commit_takes_calls seq cache = takes_calls seq cache ∙ ap (fuse_after cache.left) (calls_of_commit cache.log.unfinished)
