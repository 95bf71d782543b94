-- What the owner's calls and its errors tell a session: it refuses no sectors that are in range.
use Rattle.std.proofs.Common.{◌≡◌, ℕ, ◌^◌, ◌<◌, ◌≤◌, ◌↔◌, Bool, true, false, List, [], refl, arith}
use Rattle.std.specs.Prelude.{IsErrOf, OnOk, Result, Ok, Err, is_err}
use Rattle.lsvd_base.specs.declared.entry.Entry.{Entry}
use Rattle.lsvd_fault.specs.declared.stream.Failed.{Failed}
use Rattle.lsvd_objstore.specs.Store.{StoreState, ReceiptState}
use Rattle.nbd_session.specs.BlockDevice.{is_io}
use Rattle.vol_core.specs.Volume.{SteppedVolume}
use Rattle.volume_owner.specs.declared.error.OwnerError.{OwnerError}
use Rattle.volume_owner.specs.declared.error.OwnerError.TheVariants as owner_errors
use Rattle.volume_owner.specs.Acts.{Moment, moment_of}
use Rattle.volume_owner.specs.Calls.{IsCall, FlushOf}
use Rattle.volume_owner.specs.Errors.{is_eio}
use Rattle.volume_owner.specs.Owner.{most_of_call}
use Rattle.volume_server.specs.OwnerDevice.{Calls, Flushes, of_owner}

-- what is in range is not refused for it
not_refused : {T : Type 0} (passes : Bool) → passes ≡ true
    → (IsErrOf {T = T} (Err owner_errors.Range) owner_errors.Range ↔ (passes ≡ false)) → ⊥
not_refused true is refused = let bad : true ≡ false = refused.0 refl in cc
not_refused false is refused = cc

-- a call that is answered with an error entered nothing
pub not_done : {R T : Type 0} (state : R → ReceiptState) (passes : Bool) (error : OwnerError) (old new : Moment)
    → passes ≡ true → (IsErrOf {T = T} (Err error) owner_errors.Range ↔ (passes ≡ false))
    → Calls state [] (is_eio {T = T} (Err error)) old new → Calls state [] (is_io (Err (of_owner error))) old new
not_done {T = T} state passes owner_errors.Range old new is refused call = absurd (not_refused {T = T} passes is refused)
not_done state passes owner_errors.Eio old new is refused call = call
not_done state passes owner_errors.OutOfMemory old new is refused call = call

-- a call leaves room for a flush
pub leaves_room : {R : Type 0} (state : R → ReceiptState) (added : List Entry) (failed : Bool) (old new : SteppedVolume)
    (old_store new_store : StoreState)
    → IsCall state most_of_call added failed old new old_store new_store → old.steps < 2 ^ 58 → new.steps ≤ 2 ^ 59
leaves_room state added failed old new old_store new_store call room = omega (arith, call.steps.steps, room)

-- a flush, which keeps the store
durable_if : (P : Type 0) (result : Result ℕ Failed) → OnOk result P → is_err result ≡ false → P
durable_if P (Ok count) is done = is
durable_if P (Err failed) is done = let bad : ⊥ = cc in absurd bad

pub flushes : {R : Type 0} (state : R → ReceiptState) (result : Result ℕ Failed) (old new : SteppedVolume) (store : StoreState)
    → FlushOf state result old new → Flushes state (is_err result) (moment_of old store) (moment_of new store)
flushes state result old new store is = record {
  step = is.step;
  steps = is.steps;
  faults = is.faults;
  store = refl;
  durable = λ done. durable_if _ result is.durable done;
}
