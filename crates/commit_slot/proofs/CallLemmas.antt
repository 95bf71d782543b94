-- What the calls of a commit ask for, and which of them a fuse lets pass.
use Rattle.std.proofs.Common.{◌≡◌, ℕ, ◌+◌, ◌%◌, true, false, List, [], ◌∷◌, ◌++◌, length, refl, sym, subst, arith, length-append}
use Rattle.std.specs.Prelude.{Option, Some, None, Result, Ok, Err, OnOk, is_ok}
use Rattle.lsvd_device.specs.Calls.{Cost, write_cost, sync_cost, together, PassesNone}
use Rattle.lsvd_device.specs.Device.{DiskState, MakesCalls, FailsAlone}
use Rattle.lsvd_device.specs.Sequence.{Call, Write, Sync, moments_with, bytes_of_all, MakesThosePassed}
use Rattle.lsvd_device.proofs.Passed.{Asks, passed_one, passed_then, passed_failed}
use Rattle.commit_body.specs.declared.body.CommitBody.{CommitBody}
use Rattle.commit_body.specs.Body.{body_bytes}
use Rattle.commit_slot.specs.Slots.{body_at, gate_at}
use Rattle.commit_slot.specs.Commits.{CommitsState, finished_number, first_half_cost, second_half_cost, finish_cost}
use Rattle.commit_slot.specs.Sequence.{first_half_calls, second_half_calls, finish_calls, commit_calls}

bytes_together : (a b : List Call) → bytes_of_all (a ++ b) ≡ bytes_of_all a + bytes_of_all b
bytes_together [] b = omega arith
bytes_together (call ∷ a) b = (let e = bytes_together a b in omega (arith, e))

ok_of : {T E : Type 0} (result : Result T E) (P : Type 0) → OnOk result P → is_ok result ≡ true → P
ok_of (Ok value) P holds is = holds
ok_of (Err error) P holds is = grind arith

-- one call that answered this
pub passed_of_result : {T E : Type 0} (result : Result T E) (cost : Cost) (call : Call) (old new : DiskState)
    → Asks (call ∷ []) cost → OnOk result (new.moments ≡ moments_with call old.moments)
    → MakesCalls cost (is_ok result) old new → (PassesNone old.budget → FailsAlone (is_ok result) old new)
    → MakesThosePassed (call ∷ []) old new
passed_of_result result cost call old new asks ok calls blown =
    passed_one call cost (is_ok result) old new asks (ok_of result (new.moments ≡ moments_with call old.moments) ok) calls blown

-- ---- the calls of a commit

pub write_costs : (at : ℕ) (piece : List ℕ) (bytes : ℕ) → length piece ≡ bytes → Asks (Write at piece ∷ []) (write_cost bytes)
write_costs at piece bytes is = record { count = refl; changes = refl; bytes = omega (arith, is) }

pub sync_costs : Asks (Sync ∷ []) sync_cost
sync_costs = record { count = refl; changes = refl; bytes = refl }

pub costs_then : (a b : List Call) (first second : Cost) → Asks a first → Asks b second → Asks (a ++ b) (together first second)
costs_then a b first second is is' =
    let many : length (a ++ b) ≡ length a + length b = length-append a b in
    let bytes : bytes_of_all (a ++ b) ≡ bytes_of_all a + bytes_of_all b = bytes_together a b in
    let c = is.count in
    let c' = is'.count in
    let d = is.changes in
    let d' = is'.changes in
    let e = is.bytes in
    let e' = is'.bytes in
    record { count = omega (arith, many, c, c'); changes = omega (arith, many, d, d'); bytes = omega (arith, bytes, e, e') }

pub first_half_costs : (number : ℕ) (body : CommitBody) → length (body_bytes body (number + 1)) ≡ 512
    → Asks (first_half_calls number body) first_half_cost
first_half_costs number body whole =
    let w : Call = Write (body_at ((number + 1) % 3)) (body_bytes body (number + 1)) in
    let v : Call = Write (gate_at ((number + 2) % 3)) (0 ∷ []) in
    costs_then (w ∷ []) (v ∷ Sync ∷ []) (write_cost 512) (together (write_cost 1) sync_cost) (write_costs _ _ 512 whole)
    (costs_then (v ∷ []) (Sync ∷ []) (write_cost 1) sync_cost (write_costs _ _ 1 refl) sync_costs)

pub second_half_costs : (number : ℕ) → Asks (second_half_calls number) second_half_cost
second_half_costs number =
    let w : Call = Write (gate_at ((number + 1) % 3)) (1 ∷ []) in
    costs_then (w ∷ []) (Sync ∷ []) (write_cost 1) sync_cost (write_costs _ _ 1 refl) sync_costs

pub finish_costs : (number : ℕ) (unfinished : Option CommitBody) → Asks (finish_calls number unfinished) (finish_cost unfinished)
finish_costs number None = record { count = refl; changes = refl; bytes = refl }
finish_costs number (Some more) = second_half_costs number

-- what is left of a commit
pub finish_of : (number : ℕ) (more : CommitBody) (unfinished : Option CommitBody) (old new : DiskState) → unfinished ≡ Some more
    → MakesThosePassed (second_half_calls number) old new
    → MakesThosePassed (finish_calls number unfinished) old new
finish_of number more unfinished old new is passed =
    (let P : Option CommitBody → Type 0 = λ u. MakesThosePassed (finish_calls number u) old new in subst P (sym is) passed)

-- the first half of the next commit failed
pub passed_to_begin : (old : CommitsState) (body : CommitBody) (middle new : DiskState)
    → length (body_bytes body (finished_number old.number old.unfinished + 1)) ≡ 512
    → MakesCalls (finish_cost old.unfinished) true old.disk middle → MakesThosePassed (finish_calls old.number old.unfinished)
    old.disk middle
    → MakesCalls first_half_cost false middle new
    → MakesThosePassed (first_half_calls (finished_number old.number old.unfinished) body) middle new
    → MakesThosePassed (commit_calls old.number old.unfinished body) old.disk new
passed_to_begin old body middle new whole calls first calls' second =
    let n : ℕ = finished_number old.number old.unfinished in
    passed_then (finish_calls old.number old.unfinished) (first_half_calls n body ++ second_half_calls n)
    (finish_cost old.unfinished) old.disk middle new
    (finish_costs old.number old.unfinished) calls first
    (passed_failed (first_half_calls n body) (second_half_calls n) first_half_cost middle new (first_half_costs n body whole)
    calls' second)

-- it was made, and then its second half
pub all_passed : (old : CommitsState) (body : CommitBody) (middle next new : DiskState)
    → length (body_bytes body (finished_number old.number old.unfinished + 1)) ≡ 512
    → MakesCalls (finish_cost old.unfinished) true old.disk middle → MakesThosePassed (finish_calls old.number old.unfinished)
    old.disk middle
    → MakesCalls first_half_cost true middle next
    → MakesThosePassed (first_half_calls (finished_number old.number old.unfinished) body) middle next
    → MakesThosePassed (second_half_calls (finished_number old.number old.unfinished)) next new
    → MakesThosePassed (commit_calls old.number old.unfinished body) old.disk new
all_passed old body middle next new whole calls first calls' second third =
    let n : ℕ = finished_number old.number old.unfinished in
    passed_then (finish_calls old.number old.unfinished) (first_half_calls n body ++ second_half_calls n)
    (finish_cost old.unfinished) old.disk middle new
    (finish_costs old.number old.unfinished) calls first
    (passed_then (first_half_calls n body) (second_half_calls n) first_half_cost middle next new (first_half_costs n body whole)
    calls' second third)
