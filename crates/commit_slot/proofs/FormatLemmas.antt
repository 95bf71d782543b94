-- The calls of formatting.
use Rattle.std.proofs.Common.{◌≡◌, ◌≢◌, ℕ, ◌+◌, ◌-◌, ◌<◌, ◌≤◌, List, [], ◌∷◌, ◌++◌, length, take, replicate, get_or, refl, sym}
use Rattle.std.proofs.Common.{◌∙◌, ap, subst, inl, inr, arith}
use Rattle.std.specs.Prelude.{codes, Bool, true, false}
use Rattle.std.proofs.lemmas.List.{length-replicate, take-replicate, drop-replicate}
use Rattle.lsvd_bytes.specs.Places.{with_bytes, bytes_at}
use Rattle.lsvd_device.specs.Medium.{Medium, after_write, after_sync}
use Rattle.lsvd_device.specs.Calls.{write_cost, sync_cost, together}
use Rattle.lsvd_device.specs.Device.{DiskState, IsDisk, HasSize, HoldsNow, moments_after}
use Rattle.lsvd_device.specs.Sequence.{Call, Write, Sync}
use Rattle.commit_body.specs.declared.body.CommitBody.{CommitBody}
use Rattle.commit_body.specs.Body.{IsBody, body_bytes}
use Rattle.commit_body.proofs.BodyLemmas.{magic-body, is_one_sector}
use Rattle.commit_slot.specs.Slots.{log_of, body_at, gate_at}
use Rattle.commit_slot.specs.Lasting.{Lasts}
use Rattle.commit_slot.specs.Commits.{IsOlder, first_half_cost, second_half_cost}
use Rattle.commit_slot.specs.States.{IsOpen, IsClosed, IsSettled}
use Rattle.commit_slot.specs.Sequence.{Costs}
use Rattle.commit_slot.specs.Formatting.{clear_cost, format_cost, clear_calls, first_body_calls, first_open_calls, format_calls}
use Rattle.commit_slot.specs.Formatting.{clear_bytes}
use Rattle.commit_slot.specs.Clearing.{IsNoCommit, IsClear, IsClearSlot, IsFirstWritten, WritesFirst, OpensFirst}
use Rattle.commit_slot.proofs.LastingLemmas.{Apart, part_before, still_there}
use Rattle.commit_slot.proofs.Passing.{after_step}
use Rattle.commit_slot.proofs.SlotStates.{body_lies, gate_lies, written_keeps, written_there, sync_keeps, zero_is_closed}
use Rattle.commit_slot.proofs.SlotStates.{one_is_open}
use Rattle.commit_slot.proofs.Steps.{media_of}
use Rattle.lsvd_device.proofs.Passed.{Asks, passed_then, passed_failed}
use Rattle.lsvd_device.proofs.Together.{made_then, failed_then}
use Rattle.commit_slot.proofs.CallLemmas.{costs_then, write_costs, sync_costs}

-- ---- zeros

pub length-clear : length clear_bytes ≡ 3072
unfolding clear_bytes
length-clear = length-replicate {A = ℕ} 3072 0

zeros_in : (size at count : ℕ) → at + count ≤ size → bytes_at at count (replicate size 0) ≡ replicate count 0
zeros_in size at count within = ap (take count) (drop-replicate {X = ℕ} at size 0)
    ∙ take-replicate {X = ℕ} count (size - at) 0 (omega (arith, within))

clear_in : (at count : ℕ) → at + count ≤ 3072 → bytes_at at count clear_bytes ≡ replicate count 0
unfolding clear_bytes
clear_in at count within = zeros_in 3072 at count within

-- what was cleared is zeros
cleared : (at count : ℕ) (bytes : List ℕ) → at + count ≤ 3072 → 3072 ≤ length bytes
    → bytes_at at count (with_bytes 0 clear_bytes bytes) ≡ replicate count 0
cleared at count bytes within fits =
    let new : List ℕ = with_bytes 0 clear_bytes bytes in
    let front : take 3072 new ≡ clear_bytes =
    written_there 0 3072 clear_bytes bytes length-clear (omega (arith, length-clear, fits)) in
    part_before at count 3072 new within ∙ ap (bytes_at at count) front ∙ clear_in at count within

-- zeros are no body
pub zeros_are_none : (slot : ℕ) (sector : List ℕ) → sector ≡ replicate 512 0 → IsNoCommit slot sector
zeros_are_none slot sector is log n body also =
    let magic : take 8 sector ≡ codes "LSVDCMT1" = ap (take 8) also.bytes ∙ magic-body body n in
    let zeros : take 8 sector ≡ replicate 8 0 = ap (take 8) is ∙ take-replicate {X = ℕ} 8 512 0 (omega arith) in
    let first : get_or (codes "LSVDCMT1") 0 0 ≡ get_or (replicate 8 0) 0 0 = ap (λ xs. get_or xs 0 0) (sym magic ∙ zeros) in
    let e : 76 ≡ 0 = first in
    absurd (omega (arith, e))

-- ---- the slots are cleared

-- zeros stand in the slots
HasZeros : Medium → Type 0
HasZeros medium = (at count : ℕ) → at + count ≤ 3072 → bytes_at at count medium.bytes ≡ replicate count 0

clear_slot : (size slot : ℕ) (medium : Medium) → slot < 3 → 4096 ≤ size → HasSize size medium → HasZeros medium
    → IsClearSlot slot (after_sync medium)
unfolding HasZeros
clear_slot size slot medium below least has zeros = record {
  sector =
      sync_keeps size slot (body_at slot) 512 (IsNoCommit slot) medium has least below (body_lies slot)
      (zeros_are_none slot _ (zeros (body_at slot) 512 (omega (arith, below))));
  gate = sync_keeps size slot (gate_at slot) 1 IsClosed medium has least below (gate_lies slot)
      (zero_is_closed _ (zeros (gate_at slot) 1 (omega (arith, below))));
}

has_zeros : (size : ℕ) (medium : Medium) → 4096 ≤ size → HasSize size medium → HasZeros (after_write 0 clear_bytes medium)
unfolding HasZeros
has_zeros size medium least has = λ at count within. cleared at count medium.bytes within (let e = has.bytes in
    omega (arith, e, least))

holds_unit : (moments : List Medium) → HoldsNow (λ medium. Unit {0}) moments
holds_unit [] = tt
holds_unit (now ∷ past) = tt

pub clears : (old middle new : DiskState) → 4096 ≤ old.size → IsDisk old → IsDisk middle → middle.size ≡ old.size
    → middle.moments ≡ moments_after (after_write 0 clear_bytes) old.moments
    → new.moments ≡ moments_after after_sync middle.moments → HoldsNow IsClear new.moments
clears old middle new least is_disk is_disk' size moments moments' =
    let any : Medium → Type 0 = λ medium. Unit {0} in
    let all : HoldsNow any old.moments = holds_unit old.moments in
    let zeros = after_step any HasZeros old.size (after_write 0 clear_bytes) old.moments middle.moments
    (λ medium has _. has_zeros old.size medium least has)
    (media_of old.size old (record { is_disk = is_disk; size' = refl })) all moments in
    let clear = after_step HasZeros IsClear old.size after_sync middle.moments new.moments
    (λ medium has zeros slot below. clear_slot old.size slot medium below least has zeros)
    (media_of old.size middle (record { is_disk = is_disk'; size' = size })) zeros.1 moments' in
    clear.1

-- ---- the first commit's first half

record IsFirstBody (piece : List ℕ) (medium : Medium) : Type 0 where
  piece' : bytes_at (body_at 0) 512 medium.bytes ≡ piece
  third : Lasts (body_at 2) 512 (IsNoCommit 2) medium

record IsFirstClosed (piece : List ℕ) (medium : Medium) : Type 0 where
  piece' : bytes_at (body_at 0) 512 medium.bytes ≡ piece
  gate : bytes_at (gate_at 1) 1 medium.bytes ≡ 0 ∷ []
  third : Lasts (body_at 2) 512 (IsNoCommit 2) medium

differ : (a b : ℕ) → a < b → a ≢ b
differ a b less = λ e. omega (arith, less, e)

first_body : (size : ℕ) (piece : List ℕ) (medium : Medium) → 4096 ≤ size → length piece ≡ 512 → HasSize size medium
    → IsClear medium → IsFirstBody piece (after_write (body_at 0) piece medium)
first_body size piece medium least whole has clear =
    let within : body_at 0 + length piece ≤ size = omega (arith, whole, least) in
    let keeps = written_keeps size (body_at 0) piece medium has within in
    let apart : Apart (body_at 0) (length piece) (body_at 2) 512 = inr (omega (arith, whole)) in
    record {
      piece' = written_there (body_at 0) 512 piece medium.bytes whole (let e = has.bytes in omega (arith, e, within));
      third = keeps (body_at 2) 512 (IsNoCommit 2) apart (clear 2 (omega arith)).sector;
    }

first_closed : (size : ℕ) (piece : List ℕ) (medium : Medium) → 4096 ≤ size → HasSize size medium → IsFirstBody piece medium
    → IsFirstClosed piece (after_write (gate_at 1) (0 ∷ []) medium)
first_closed size piece medium least has first =
    let within : gate_at 1 + 1 ≤ size = omega (arith, least) in
    let fits : gate_at 1 + 1 ≤ length medium.bytes = (let e = has.bytes in omega (arith, e, within)) in
    record {
      piece' = still_there (gate_at 1) (0 ∷ []) medium.bytes (body_at 0) 512 fits (inl (omega arith)) ∙ first.piece';
      gate = written_there (gate_at 1) 1 (0 ∷ []) medium.bytes refl fits;
      third = written_keeps size (gate_at 1) (0 ∷ []) medium has within (body_at 2) 512 (IsNoCommit 2) (inr (omega arith))
          first.third;
    }

none_is_older : (log : ℕ) (bytes : List ℕ) → IsNoCommit 2 bytes → IsOlder log 2 0 bytes
none_is_older log bytes none body n is = absurd (none log n body is)

first_written : (size log : ℕ) (body : CommitBody) (piece : List ℕ) (medium : Medium) → 4096 ≤ size → IsBody piece log 0 body 0
    → HasSize size medium → IsFirstClosed piece medium
    → IsFirstWritten log body (after_sync medium)
first_written size log body piece medium least is has first = record {
  sector =
      sync_keeps size 0 (body_at 0) 512 (λ bytes. IsBody bytes log 0 body 0) medium has least (omega arith) (body_lies 0)
      (let P : List ℕ → Type 0 = λ bytes. IsBody bytes log 0 body 0 in subst P (sym first.piece') is);
  closed = sync_keeps size 1 (gate_at 1) 1 IsClosed medium has least (omega arith) (gate_lies 1) (zero_is_closed _ first.gate);
  older = sync_keeps size 2 (body_at 2) 512 (IsOlder log 2 0) medium has least (omega arith) (body_lies 2)
      (none_is_older log _ first.third.now);
}

pub record AreFirstWritten (piece : List ℕ) (old middle next : DiskState) : Type 0 where
  pub least : 4096 ≤ old.size
  pub whole : length piece ≡ 512
  pub is_disk : IsDisk old
  pub is_disk' : IsDisk middle
  pub is_disk'' : IsDisk next
  pub size : middle.size ≡ old.size
  pub size' : next.size ≡ middle.size
  pub moments : middle.moments ≡ moments_after (after_write (body_at 0) piece) old.moments
  pub moments' : next.moments ≡ moments_after (after_write (gate_at 1) (0 ∷ [])) middle.moments

pub writes_first : (body : CommitBody) (piece : List ℕ) (old middle next new : DiskState) → AreFirstWritten piece old middle next
    → IsBody piece (log_of old.size) 0 body 0
    → new.moments ≡ moments_after after_sync next.moments → WritesFirst body old new
writes_first body piece old middle next new are is_body moments = λ clear.
    let size : ℕ = old.size in
    let first = after_step IsClear (IsFirstBody piece) size (after_write (body_at 0) piece) old.moments middle.moments
    (λ medium has holds. first_body size piece medium are.least are.whole has holds)
    (media_of size old (record { is_disk = are.is_disk; size' = refl })) clear are.moments in
    let second = after_step (IsFirstBody piece) (IsFirstClosed piece) size (after_write (gate_at 1) (0 ∷ [])) middle.moments
    next.moments (λ medium has holds. first_closed size piece medium are.least has holds)
    (media_of size middle (record { is_disk = are.is_disk'; size' = are.size })) first.1 are.moments' in
    let third = after_step (IsFirstClosed piece) (IsFirstWritten (log_of size) body) size after_sync next.moments new.moments
    (λ medium has holds. first_written size (log_of size) body piece medium are.least is_body has holds)
    (media_of size next (record { is_disk = are.is_disk''; size' = are.size' ∙ are.size })) second.1 moments in
    third.1

-- ---- its second half

record IsFirstOpened (log : ℕ) (body : CommitBody) (medium : Medium) : Type 0 where
  first : IsFirstWritten log body medium
  gate : bytes_at (gate_at 0) 1 medium.bytes ≡ 1 ∷ []

first_opened : (size log : ℕ) (body : CommitBody) (medium : Medium) → 4096 ≤ size → HasSize size medium
    → IsFirstWritten log body medium → IsFirstOpened log body (after_write (gate_at 0) (1 ∷ []) medium)
first_opened size log body medium least has first =
    let within : gate_at 0 + 1 ≤ size = omega (arith, least) in
    let keeps = written_keeps size (gate_at 0) (1 ∷ []) medium has within in
    record {
      first = record {
        sector = keeps (body_at 0) 512 (λ bytes. IsBody bytes log 0 body 0) (inl (omega arith)) first.sector;
        closed = keeps (gate_at 1) 1 IsClosed (inr (omega arith)) first.closed;
        older = keeps (body_at 2) 512 (IsOlder log 2 0) (inr (omega arith)) first.older;
      };
      gate = written_there (gate_at 0) 1 (1 ∷ []) medium.bytes refl (let e = has.bytes in omega (arith, e, within));
    }

first_settled : (size log : ℕ) (body : CommitBody) (medium : Medium) → 4096 ≤ size → HasSize size medium
    → IsFirstOpened log body medium → IsSettled log 0 body (after_sync medium)
first_settled size log body medium least has opened = record {
  sector = sync_keeps size 0 (body_at 0) 512 (λ bytes. IsBody bytes log 0 body 0) medium has least (omega arith) (body_lies 0)
      opened.first.sector.now;
  gate = sync_keeps size 0 (gate_at 0) 1 IsOpen medium has least (omega arith) (gate_lies 0) (one_is_open _ opened.gate);
  closed = sync_keeps size 1 (gate_at 1) 1 IsClosed medium has least (omega arith) (gate_lies 1) opened.first.closed.now;
  older = sync_keeps size 2 (body_at 2) 512 (IsOlder log 2 0) medium has least (omega arith) (body_lies 2) opened.first.older.now;
}

pub opens_first : (old middle new : DiskState) → 4096 ≤ old.size → IsDisk old → IsDisk middle → middle.size ≡ old.size
    → middle.moments ≡ moments_after (after_write (gate_at 0) (1 ∷ [])) old.moments
    → new.moments ≡ moments_after after_sync middle.moments → OpensFirst old new
opens_first old middle new least is_disk is_disk' same moments moments' = λ body first.
    let size : ℕ = old.size in
    let opened = after_step (IsFirstWritten (log_of size) body) (IsFirstOpened (log_of size) body) size
    (after_write (gate_at 0) (1 ∷ [])) old.moments middle.moments
    (λ medium has holds. first_opened size (log_of size) body medium least has holds)
    (media_of size old (record { is_disk = is_disk; size' = refl })) first moments in
    let settled = after_step (IsFirstOpened (log_of size) body) (IsSettled (log_of size) 0 body) size after_sync middle.moments
    new.moments
    (λ medium has holds. first_settled size (log_of size) body medium least has holds)
    (media_of size middle (record { is_disk = is_disk'; size' = same })) opened.1 moments' in
    settled.1

-- ---- all of it

pub formats : (body : CommitBody) (old middle next new : DiskState) → middle.size ≡ old.size → next.size ≡ middle.size
    → HoldsNow IsClear middle.moments → WritesFirst body middle next → OpensFirst next new
    → HoldsNow (IsSettled (log_of old.size) 0 body) new.moments
formats body old middle next new size size' clear writes opens =
    let first : HoldsNow (IsFirstWritten (log_of next.size) body) next.moments =
    (let P : ℕ → Type 0 = λ n. HoldsNow (IsFirstWritten (log_of n) body) next.moments in subst P (sym size') (writes clear)) in
    let Q : ℕ → Type 0 = λ n. HoldsNow (IsSettled (log_of n) 0 body) new.moments in
    subst Q (size' ∙ size) (opens body first)

-- ---- what a fuse lets pass of formatting

clear_costs : Asks clear_calls clear_cost
clear_costs = costs_then (Write 0 clear_bytes ∷ []) (Sync ∷ []) (write_cost 3072) sync_cost
    (write_costs 0 clear_bytes 3072 length-clear) sync_costs

first_costs : (body : CommitBody) → length (body_bytes body 0) ≡ 512 → Asks (first_body_calls body) first_half_cost
first_costs body whole =
    let w : Call = Write (body_at 0) (body_bytes body 0) in
    let v : Call = Write (gate_at 1) (0 ∷ []) in
    costs_then (w ∷ []) (v ∷ Sync ∷ []) (write_cost 512) (together (write_cost 1) sync_cost) (write_costs _ _ 512 whole)
    (costs_then (v ∷ []) (Sync ∷ []) (write_cost 1) sync_cost (write_costs _ _ 1 refl) sync_costs)

pub clear_failed : (body : CommitBody) (old new : DiskState) → Costs clear_cost clear_calls false old new
    → Costs format_cost (format_calls body) false old new
clear_failed body old new clear = record {
  calls = failed_then clear_cost (together first_half_cost second_half_cost) old new clear.calls;
  performed = passed_failed clear_calls (first_body_calls body ++ first_open_calls) clear_cost old new clear_costs clear.calls
      clear.performed;
}

pub first_failed : (body : CommitBody) (old middle new : DiskState) → length body.uuid ≡ 16
    → Costs clear_cost clear_calls true old middle → Costs first_half_cost (first_body_calls body) false middle new
    → Costs format_cost (format_calls body) false old new
first_failed body old middle new uuid clear first = record {
  calls = made_then clear_cost (together first_half_cost second_half_cost) false old middle new clear.calls
      (failed_then first_half_cost second_half_cost middle new first.calls);
  performed = passed_then clear_calls (first_body_calls body ++ first_open_calls) clear_cost old middle new clear_costs
      clear.calls clear.performed
      (passed_failed (first_body_calls body) first_open_calls first_half_cost middle new
      (first_costs body (is_one_sector body 0 uuid)) first.calls first.performed);
}

pub all_formats : (body : CommitBody) (is_made : Bool) (old middle next new : DiskState) → length body.uuid ≡ 16
    → Costs clear_cost clear_calls true old middle
    → Costs first_half_cost (first_body_calls body) true middle next → Costs second_half_cost first_open_calls is_made next new
    → Costs format_cost (format_calls body) is_made old new
all_formats body is_made old middle next new uuid clear first opens = record {
  calls = made_then clear_cost (together first_half_cost second_half_cost) is_made old middle new clear.calls
      (made_then first_half_cost second_half_cost is_made middle next new first.calls opens.calls);
  performed = passed_then clear_calls (first_body_calls body ++ first_open_calls) clear_cost old middle new clear_costs
      clear.calls clear.performed
      (passed_then (first_body_calls body) first_open_calls first_half_cost middle next new
      (first_costs body (is_one_sector body 0 uuid)) first.calls first.performed opens.performed);
}
