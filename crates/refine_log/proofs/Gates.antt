-- A commit that a fuse broke off after its first half, before its gate was opened or after.
use Rattle.std.proofs.Common.{◌≡◌, ◌≢◌, ℕ, ◌+◌, ◌%◌, ◌<◌, ◌≤◌, ◌⊎◌, true, false, zero, suc, List, [], ◌∷◌, length, take, refl}
use Rattle.std.proofs.Common.{sym, ◌∙◌, ap, inl, inr, arith}
use Rattle.std.specs.Prelude.{Some, None, slice_index}
use Rattle.std.proofs.lemmas.Bool.{cases_lt}
use Rattle.lsvd_bytes.specs.Places.{with_bytes}
use Rattle.lsvd_device.specs.Calls.{Fuse, passes, fuse_after}
use Rattle.lsvd_device.specs.Medium.{Medium}
use Rattle.lsvd_device.specs.Device.{DiskState}
use Rattle.lsvd_device.specs.Sequence.{Call, moments_with_all, passed_of}
use Rattle.lsvd_device.specs.declared.fate.Fate.TheVariants.{Kept}
use Rattle.lsvd_device.proofs.Stopped.{get_outside, length-put}
use Rattle.commit_body.specs.declared.body.CommitBody.{CommitBody}
use Rattle.commit_body.specs.Body.{body_bytes}
use Rattle.commit_body.proofs.BodyLemmas.{is_one_sector}
use Rattle.commit_slot.specs.Slots.{body_at, gate_at}
use Rattle.commit_slot.specs.Sequence.{commit_calls}
use Rattle.plain_disk.specs.declared.cache.PendingWrite.{PendingWrite}
use Rattle.plain_disk.specs.declared.cache.PendingWrite.TheVariants.{OpenedGate}
use Rattle.plain_disk.specs.declared.log.PlainCommit.{PlainCommit}
use Rattle.plain_disk.specs.Log.{commit_from}
use Rattle.plain_disk.specs.Cache.{PlainCache, after_halves, after_finishing, cache_after_commit}
use Rattle.refine_log.specs.Fuses.{fuse_in}
use Rattle.refine_log.specs.Pending.{HasGateClosed, HasGateOpened, IsBrokenOff}
use Rattle.refine_log.proofs.Asked.{moments_passed, IsAsked}

-- ---- the bytes

-- the bytes after the writes of a first half
abbrev bytes_after : ℕ → CommitBody → List ℕ → List ℕ
bytes_after number body bytes =
    with_bytes (gate_at ((number + 2) % 3)) (0 ∷ [])
    (with_bytes (body_at ((number + 1) % 3)) (body_bytes body (number + 1)) bytes)

slots_differ : (n : ℕ) → ((n + 2) % 3 < (n + 1) % 3) ⊎ ((n + 1) % 3 < (n + 2) % 3)
slots_differ n =
    elim (cases_lt ((n + 2) % 3) ((n + 1) % 3)) [
      | inl less ↦ inl less
      | inr other ↦ inr (omega (arith, other))
    ]

-- the gate of the next slot is as before
gate_kept : (number : ℕ) (body : CommitBody) (bytes : List ℕ) → length body.uuid ≡ 16 → 4096 ≤ length bytes
    → slice_index (bytes_after number body bytes) (gate_at ((number + 1) % 3)) ≡ slice_index bytes (gate_at ((number + 1) % 3))
gate_kept number body bytes uuid fits =
    let piece : List ℕ = body_bytes body (number + 1) in
    let whole : length piece ≡ 512 = is_one_sector body (number + 1) uuid in
    let next : (number + 1) % 3 < 3 = omega arith in
    let third : (number + 2) % 3 < 3 = omega arith in
    let middle : List ℕ = with_bytes (body_at ((number + 1) % 3)) piece bytes in
    let long : length middle ≡ length bytes =
    length-put Kept (body_at ((number + 1) % 3)) piece bytes (omega (arith, whole, next, fits)) in
    get_outside (gate_at ((number + 2) % 3)) 1 (gate_at ((number + 1) % 3)) (0 ∷ []) middle (omega arith)
    (omega (arith, long, third, fits))
    (elim (slots_differ number) [
      | inl less ↦ inr (omega (arith, less))
      | inr less ↦ inl (omega (arith, less))
    ])
    ∙ get_outside (body_at ((number + 1) % 3)) 512 (gate_at ((number + 1) % 3)) piece bytes (omega (arith, whole))
    (omega (arith, next, fits))
    (inr (omega arith))

-- ---- the moments

-- a disk on which a commit is asked for: its next gate is closed
pub record HasNextGateClosed (number : ℕ) (body : CommitBody) (now : Medium) : Type 0 where
  pub uuid : length body.uuid ≡ 16
  pub least : 4096 ≤ length now.bytes
  pub closed : slice_index now.bytes (gate_at ((number + 1) % 3)) ≢ 1

still_closed : (number : ℕ) (body : CommitBody) (now : Medium) → HasNextGateClosed number body now
    → slice_index (bytes_after number body now.bytes) (gate_at ((number + 1) % 3)) ≢ 1
still_closed number body now is = λ e. is.closed (sym (gate_kept number body now.bytes is.uuid is.least) ∙ e)

first_made : (number : ℕ) (body : CommitBody) (now : Medium) (past moments : List Medium) → HasNextGateClosed number body now
    → moments ≡ moments_with_all (take 3 (commit_calls number None body)) (now ∷ past)
    → HasGateClosed (gate_at ((number + 1) % 3)) moments
first_made number body now past moments is made = record {
  bytes = bytes_after number body now.bytes;
  past = _;
  is_still = made;
  closed = still_closed number body now is;
}

gate_opened : (number : ℕ) (body : CommitBody) (now : Medium) (past moments : List Medium) → HasNextGateClosed number body now
    → moments ≡ moments_with_all (take 4 (commit_calls number None body)) (now ∷ past)
    → HasGateOpened (gate_at ((number + 1) % 3)) moments
gate_opened number body now past moments is made = record {
  bytes = bytes_after number body now.bytes;
  past = _;
  is_written = made;
  closed = still_closed number body now is;
}

-- ---- the plain cache

three_pend : (commit : PlainCommit) (cache : PlainCache) → (after_halves commit (record cache { left = Some 3 })).pending ≡ []
three_pend commit cache = refl

four_pend : (commit : PlainCommit) (cache : PlainCache) → (after_halves commit (record cache { left = Some 4 })).pending
    ≡ OpenedGate ∷ []
four_pend commit cache = refl

commit_pends : (seq : ℕ) (cache : PlainCache) (left : Fuse) (pending : List PendingWrite) → cache.log.unfinished ≡ None
    → cache.left ≡ left
    → ((commit : PlainCommit) → (after_halves commit (record cache { left = left })).pending ≡ pending)
    → (cache_after_commit seq cache).pending ≡ pending
commit_pends seq cache left pending none is done =
    ap (λ u. (after_halves (commit_from seq (after_finishing u cache).log) (after_finishing u cache)).pending) none
    ∙ ap (λ f. (after_halves (commit_from seq cache.log) (record cache { left = f })).pending) is
    ∙ done (commit_from seq cache.log)

-- ---- both

three_or_four : (fuse : Fuse) → passes fuse 3 ≡ true → passes fuse 5 ≡ false → (fuse ≡ Some 3) ⊎ (fuse ≡ Some 4)
three_or_four None made failed = cc
three_or_four (Some zero) made failed = absurd (grind (arith, made))
three_or_four (Some (suc zero)) made failed = absurd (grind (arith, made))
three_or_four (Some (suc (suc zero))) made failed = absurd (grind (arith, made))
three_or_four (Some (suc (suc (suc zero)))) made failed = inl refl
three_or_four (Some (suc (suc (suc (suc zero))))) made failed = inr refl
three_or_four (Some (suc (suc (suc (suc (suc left)))))) made failed = absurd (grind (arith, failed))

-- a commit of which the fuse passed the first half, and not the second
pub record IsBegunOn (number : ℕ) (body : CommitBody) (cache : PlainCache) (old new : DiskState) (now : Medium)
    (past : List Medium) : Type 0 where
  pub moments : old.moments ≡ now ∷ past
  pub closed : HasNextGateClosed number body now
  pub none : cache.log.unfinished ≡ None
  pub left : cache.left ≡ fuse_in old.budget
  pub begun : passes cache.left 3 ≡ true
  pub stopped : passes cache.left 5 ≡ false
  pub asked : IsAsked (commit_calls number None body) old new

passed_from : (number : ℕ) (body : CommitBody) (cache : PlainCache) (old new : DiskState) (now : Medium)
    (past : List Medium) (n k : ℕ)
    → IsBegunOn number body cache old new now past → cache.left ≡ Some n → passed_of (Some n) 5 ≡ k
    → new.moments ≡ moments_with_all (take k (commit_calls number None body)) (now ∷ past)
passed_from number body cache old new now past n k is left passed =
    let calls : List Call = commit_calls number None body in
    is.asked.moments
    ∙ ap (λ f. moments_passed f calls old.moments) (sym is.left ∙ left)
    ∙ ap (λ m. moments_with_all (take m calls) old.moments) passed
    ∙ ap (moments_with_all (take k calls)) is.moments

spent_by : (number : ℕ) (body : CommitBody) (cache : PlainCache) (old new : DiskState) (now : Medium) (past : List Medium) (n : ℕ)
    → IsBegunOn number body cache old new now past → cache.left ≡ Some n → n ≤ 5 → fuse_in new.budget ≡ Some 0
spent_by number body cache old new now past n is left few =
    is.asked.fuse ∙ ap (λ f. fuse_after f 5) (sym is.left ∙ left) ∙ ap Some (omega (arith, few))

-- it broke the commit off
pub broken_off : (number : ℕ) (body : CommitBody) (seq : ℕ) (cache : PlainCache) (old new : DiskState) (now : Medium)
    (past : List Medium)
    → IsBegunOn number body cache old new now past
    → IsBrokenOff (gate_at ((number + 1) % 3)) new (cache_after_commit seq cache).pending
broken_off number body seq cache old new now past is =
    elim (three_or_four cache.left is.begun is.stopped) [
      | inl three ↦
          record {
            fuse = spent_by number body cache old new now past 3 is three (omega arith);
            where_ =
                inl (
                  first_made number body now past new.moments is.closed (passed_from number body cache old new now past 3 3 is
                      three (omega arith)),
                  commit_pends seq cache (Some 3) [] is.none three (λ commit. three_pend commit cache),
                );
          }
      | inr four ↦
          record {
            fuse = spent_by number body cache old new now past 4 is four (omega arith);
            where_ =
                inr (
                  gate_opened number body now past new.moments is.closed (passed_from number body cache old new now past 4 4 is
                      four (omega arith)),
                  commit_pends seq cache (Some 4) (OpenedGate ∷ []) is.none four (λ commit. four_pend commit cache),
                );
          }
    ]
