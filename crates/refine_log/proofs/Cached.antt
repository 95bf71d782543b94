-- The writes that are pending on the plain cache are pending on a disk that is asked for the same calls.
use Rattle.std.proofs.Common.{◌≡◌, ℕ, ◌+◌, ◌%◌, Bool, true, false, List, [], ◌∷◌, ◌++◌, reverse, length, take, refl, sym, ◌∙◌}
use Rattle.std.proofs.Common.{ap, subst, arith, if◌then◌else◌, length-append, append-nil}
use Rattle.std.specs.Prelude.{Option, Some, None, option_map}
use Rattle.std.proofs.lemmas.List.{take_all, take-append-le}
use Rattle.lsvd_device.specs.Medium.{Medium}
use Rattle.lsvd_device.specs.Calls.{Fuse, passes, fuse_after}
use Rattle.lsvd_device.specs.Sequence.{Call, Write, Sync, moments_with_all, passed_of}
use Rattle.commit_body.specs.declared.body.CommitBody.{CommitBody}
use Rattle.commit_body.specs.Body.{body_bytes}
use Rattle.commit_slot.specs.Slots.{body_at, gate_at}
use Rattle.commit_slot.specs.Commits.{finished_number}
use Rattle.commit_slot.specs.Sequence.{first_half_calls, second_half_calls, finish_calls, commit_calls}
use Rattle.plain_disk.specs.declared.cache.PendingWrite.{PendingWrite}
use Rattle.plain_disk.specs.declared.cache.PendingWrite.TheVariants.{Body, ClosedGate, OpenedGate}
use Rattle.plain_disk.specs.declared.log.PlainCommit.{PlainCommit}
use Rattle.plain_disk.specs.Log.{PlainLog, commit_from, with_commit}
use Rattle.plain_disk.specs.Cache.{PlainCache, after_writes, after_sync_of, after_first_half, after_second_half, after_finishing}
use Rattle.plain_disk.specs.Cache.{cache_after_commit}
use Rattle.refine_log.specs.Shows.{commit_of}
use Rattle.refine_log.specs.Pending.{ArePendingOn}
use Rattle.refine_log.proofs.Asked.{passed_most, none_of, spent_after, moments_passed, one_by_one, all_made, passed_then}
use Rattle.refine_log.proofs.Asked.{AreWrites, writes_count, writes_pend, passed_pend, sync_clears}

-- The plain cache is asked for these calls, and is this one then. The writes that are pending on it are pending on a disk that is
-- asked for them, if those before were, and where none passes, they are those before.
pub record PendsAs (calls : List Call) (old new : PlainCache) : Type 0 where
  pub left : new.left ≡ fuse_after old.left (length calls)
  pub pends : (moments : List Medium) → ArePendingOn (reverse old.pending) moments
      → ArePendingOn (reverse new.pending) (moments_passed old.left calls moments)
  pub spent : old.left ≡ Some 0 → new.pending ≡ old.pending

-- ---- no call, and calls after others

none_left : (fuse : Fuse) → fuse ≡ fuse_after fuse 0
none_left None = refl
none_left (Some left) = ap Some (omega arith)

lower_on : (fuse : Fuse) (m n : ℕ) → fuse_after (fuse_after fuse m) n ≡ fuse_after fuse (m + n)
lower_on None m n = refl
lower_on (Some left) m n = ap Some (omega arith)

none_as : (cache : PlainCache) → PendsAs [] cache cache
none_as cache = record {
  left = none_left cache.left;
  pends = λ moments has.
      subst (λ list. ArePendingOn (reverse cache.pending) (moments_with_all list moments))
      (sym (take_all (passed_of cache.left 0) [] (omega arith))) has;
  spent = λ _. refl;
}

then_as : (a b : List Call) (old middle new : PlainCache) → PendsAs a old middle → PendsAs b middle new → PendsAs (a ++ b) old new
then_as a b old middle new first second = record {
  left =
      second.left ∙ ap (λ f. fuse_after f (length b)) first.left ∙ lower_on old.left (length a) (length b)
      ∙ ap (fuse_after old.left) (sym (length-append a b));
  pends = λ moments has.
      let P : Fuse → Type 0 = λ f. ArePendingOn (reverse new.pending) (moments_passed f b (moments_passed old.left a moments)) in
      subst (ArePendingOn (reverse new.pending)) (sym (passed_then old.left a b moments))
      (subst P first.left (second.pends (moments_passed old.left a moments) (first.pends moments has)));
  spent = λ is. second.spent (first.left ∙ spent_after old.left (length a) is) ∙ first.spent is;
}

-- ---- writes

pub writes_as : (calls : List Call) (writes : List PendingWrite) (cache : PlainCache) → AreWrites calls writes
    → PendsAs calls cache (after_writes writes cache)
writes_as calls writes cache are =
    let count : length calls ≡ length writes = writes_count calls writes are in
    record {
      left = ap (fuse_after cache.left) (sym count);
      pends = λ moments has.
          let P : ℕ → Type 0 = λ n. ArePendingOn (reverse (cache.pending ++ take (passed_of cache.left n) writes))
          (moments_passed cache.left calls moments) in
          subst P count (passed_pend cache.left calls writes cache.pending moments are has);
      spent = λ is.
          ap (λ f. cache.pending ++ take (passed_of f (length writes)) writes) is
          ∙ ap (λ n. cache.pending ++ take n writes) (none_of (length writes))
          ∙ append-nil cache.pending;
    }

-- ---- writes and a sync

all_spent : (fuse : Fuse) (n : ℕ) → passes fuse (n + 1) ≡ false → fuse_after fuse n ≡ fuse_after fuse (n + 1)
all_spent None n stopped = refl
all_spent (Some left) n stopped = ap Some (grind arith)

last_stopped : (fuse : Fuse) (n : ℕ) → passes fuse (n + 1) ≡ false → passed_of fuse (n + 1) ≡ passed_of fuse n
last_stopped None n stopped = cc
last_stopped (Some left) n stopped = grind arith

spent_stops : (n : ℕ) → passes (Some 0) (n + 1) ≡ false
spent_stops n = grind arith

chosen : (P : PlainCache → Type 0) (b : Bool) (x y : PlainCache) → (b ≡ true → P x) → (b ≡ false → P y) → P (if b then x else y)
chosen P true x y is other = is refl
chosen P false x y is other = other refl

-- the sync passes
synced_as : (calls : List Call) (writes : List PendingWrite) (cache : PlainCache) → AreWrites calls writes
    → passes cache.left (length writes + 1) ≡ true
    → PendsAs (calls ++ Sync ∷ []) cache (record cache { left = fuse_after cache.left (length writes + 1); pending = [] })
synced_as calls writes cache are made =
    let n : ℕ = length writes in
    let size : length (calls ++ Sync ∷ []) ≡ n + 1 =
    length-append calls (Sync ∷ []) ∙ ap (λ m. m + 1) (writes_count calls writes are) in
    record {
      left = ap (fuse_after cache.left) (sym size);
      pends = λ moments has.
          subst (ArePendingOn [])
          (sym (all_made cache.left (calls ++ Sync ∷ []) moments (ap (passes cache.left) size ∙ made)
          ∙ one_by_one calls (Sync ∷ []) moments))
          (sync_clears (moments_with_all calls moments) (reverse (cache.pending ++ writes))
          (writes_pend calls writes cache.pending moments are has));
      spent = λ is. absurd (let e : ◌≡◌ {A = Bool} true false = sym made ∙ ap (λ f. passes f (n + 1)) is ∙ spent_stops n in cc);
    }

-- it does not, nor does a call after it
stopped_as : (calls : List Call) (writes : List PendingWrite) (cache : PlainCache) → AreWrites calls writes
    → passes cache.left (length writes + 1) ≡ false → PendsAs (calls ++ Sync ∷ []) cache (after_writes writes cache)
stopped_as calls writes cache are stopped =
    let n : ℕ = length writes in
    let count : length calls ≡ n = writes_count calls writes are in
    let alone = writes_as calls writes cache are in
    let size : length (calls ++ Sync ∷ []) ≡ n + 1 = length-append calls (Sync ∷ []) ∙ ap (λ m. m + 1) count in
    let same : passed_of cache.left (length (calls ++ Sync ∷ [])) ≡ passed_of cache.left (length calls) =
    ap (passed_of cache.left) size ∙ last_stopped cache.left n stopped ∙ ap (passed_of cache.left) (sym count) in
    record {
      left = all_spent cache.left n stopped ∙ ap (fuse_after cache.left) (sym size);
      pends = λ moments has.
          subst (ArePendingOn (reverse (after_writes writes cache).pending))
          (sym (ap (λ m. moments_with_all (take m (calls ++ Sync ∷ [])) moments) same
          ∙ ap (λ list. moments_with_all list moments)
          (take-append-le (passed_of cache.left (length calls)) calls (Sync ∷ []) (passed_most cache.left (length calls)))))
          (alone.pends moments has);
      spent = alone.spent;
    }

sync_as : (calls : List Call) (writes : List PendingWrite) (cache : PlainCache) → AreWrites calls writes
    → PendsAs (calls ++ Sync ∷ []) cache (after_sync_of writes cache)
sync_as calls writes cache are =
    chosen (PendsAs (calls ++ Sync ∷ []) cache) (passes cache.left (length writes + 1))
    (record cache { left = fuse_after cache.left (length writes + 1); pending = [] }) (after_writes writes cache)
    (synced_as calls writes cache are)
    (stopped_as calls writes cache are)

-- ---- a commit

-- the log has no part in it
pub log_as : (calls : List Call) (has : Bool) (old half : PlainCache) (log : PlainLog) → PendsAs calls old half
    → PendsAs calls old (if has then record half { log = log } else half)
log_as calls true old half log is = record { left = is.left; pends = is.pends; spent = is.spent }
log_as calls false old half log is = is

first_half_as : (number : ℕ) (body : CommitBody) (commit : PlainCommit) (cache : PlainCache)
    → PendsAs (first_half_calls number body) cache (after_first_half commit cache)
first_half_as number body commit cache =
    log_as (first_half_calls number body) (passes cache.left 3) cache (after_sync_of (Body ∷ ClosedGate ∷ []) cache)
    (record cache.log { unfinished = Some commit })
    (sync_as (Write (body_at ((number + 1) % 3)) (body_bytes body (number + 1)) ∷ Write (gate_at ((number + 2) % 3))
    (0 ∷ []) ∷ [])
    (Body ∷ ClosedGate ∷ []) cache ((number + 1, body, refl), (refl, tt)))

second_half_as : (number : ℕ) (commit : PlainCommit) (cache : PlainCache)
    → PendsAs (second_half_calls number) cache (after_second_half commit cache)
second_half_as number commit cache =
    log_as (second_half_calls number) (passes cache.left 2) cache (after_sync_of (OpenedGate ∷ []) cache)
    (with_commit commit cache.log)
    (sync_as (Write (gate_at ((number + 1) % 3)) (1 ∷ []) ∷ []) (OpenedGate ∷ []) cache (refl, tt))

finish_as : (number : ℕ) (unfinished : Option CommitBody) (cache : PlainCache)
    → PendsAs (finish_calls number unfinished) cache (after_finishing (option_map commit_of unfinished) cache)
finish_as number None cache = none_as cache
finish_as number (Some more) cache = second_half_as number (commit_of more) cache

-- a commit of the plain cache does what the log's does
pub commit_as : (number : ℕ) (unfinished : Option CommitBody) (body : CommitBody) (seq : ℕ) (cache : PlainCache)
    → cache.log.unfinished ≡ option_map commit_of unfinished
    → PendsAs (commit_calls number unfinished body) cache (cache_after_commit seq cache)
commit_as number unfinished body seq cache same =
    let last : ℕ = finished_number number unfinished in
    let ready : PlainCache = after_finishing cache.log.unfinished cache in
    let commit : PlainCommit = commit_from seq ready.log in
    let P : Option PlainCommit → Type 0 = λ u. PendsAs (finish_calls number unfinished) cache (after_finishing u cache) in
    then_as (finish_calls number unfinished) (first_half_calls last body ++ second_half_calls last) cache ready
    (cache_after_commit seq cache)
    (subst P (sym same) (finish_as number unfinished cache))
    (then_as (first_half_calls last body) (second_half_calls last) ready (after_first_half commit ready)
    (cache_after_commit seq cache)
    (first_half_as last body commit ready)
    (second_half_as last commit (after_first_half commit ready)))
