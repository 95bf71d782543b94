-- What a mount made or left, with the cache or without it.
use Rattle.std.proofs.Common.{◌≡◌, ℕ, List, Bool, true, false, ap}
use Rattle.std.specs.Prelude.{Ok, Err}
use Rattle.lsvd_device.specs.Device.{DiskState}
use Rattle.lsvd_objstore.specs.Store.{StoreState, ReceiptState}
use Rattle.stopped_volume.specs.Store.{TellsBytes}
use Rattle.commit_slot.specs.Slots.{log_of}
use Rattle.vol_mount.specs.Mounted.{MountedState}
use Rattle.vol_mount.specs.declared.error.MountError.{MountError}
use Rattle.vol_mount.specs.declared.error.MountError.TheVariants as mounts
use Rattle.vol_recover.proofs.ForCallers.{IsOfSomeVolume, made_kept, made_lost, not_kept, not_lost}
use Rattle.volume_commands.specs.declared.error.CommandError.TheVariants as errors
use Rattle.refusals.specs.declared.refusal.Refusal.{Refusal}
use Rattle.volume_commands.specs.Mounting.{MountEnds}
use Rattle.volume_commands.specs.Serving.{of_mount}
use Rattle.volume_commands.specs.World.{IsConstant}
use Rattle.volume_commands.proofs.Served.{cost_counts, format_counts, mount_counts_none}

-- it is some volume with the uuid that was asked for
pub made_some : {D R : Type 0} (disk_state : D → DiskState) (receipt_state : R → ReceiptState) (is_lost : Bool)
    (uuid : List ℕ) (disk : DiskState) (old new : StoreState) (mounted : MountedState)
    → MountEnds disk_state receipt_state is_lost uuid disk old new (Ok mounted)
    → IsOfSomeVolume uuid (log_of disk.size) mounted
made_some disk_state receipt_state true uuid disk old new mounted ends =
    (made_lost disk_state (TellsBytes receipt_state) uuid disk old new mounted ends).some_volume
made_some disk_state receipt_state false uuid disk old new mounted ends =
    (made_kept disk_state (TellsBytes receipt_state) uuid disk old new mounted ends).some_volume

-- a fault was counted, by the store or by the disk
pub fault_counts_none : {D S R : Type 0} (disk_state : D → DiskState) (store_state : S → StoreState)
    (receipt_state : R → ReceiptState) (is_lost : Bool) (uuid : List ℕ) (first left : D) (old new : S) (error : MountError)
    → MountEnds disk_state receipt_state is_lost uuid (disk_state first) (store_state old) (store_state new) (Err (left, error))
    → of_mount error ≡ errors.Fault → IsConstant (λ disk. (disk_state disk).faults)
    → IsConstant (λ store. (store_state store).faults) → ⊥
fault_counts_none disk_state store_state receipt_state true uuid first left old new error ends is disks stores =
    let none =
    not_lost disk_state (TellsBytes receipt_state) uuid (disk_state first) (store_state old) (store_state new) left error
    ends in
    mount_counts_none (λ disk. (disk_state disk).faults) (λ store. (store_state store).faults) first left old new error
    (format_counts uuid error (disk_state first) (disk_state left) none.costs) none.faults is disks stores
fault_counts_none disk_state store_state receipt_state false uuid first left old new error ends is disks stores =
    let none =
    not_kept disk_state (TellsBytes receipt_state) uuid (disk_state first) (store_state old) (store_state new) left error
    ends in
    mount_counts_none (λ disk. (disk_state disk).faults) (λ store. (store_state store).faults) first left old new error
    (cost_counts _ error (disk_state first) (disk_state left) none.costs) none.faults is disks stores

-- what a command is refused for is what the mount was
pub refusal_is : (error : MountError) (why : Refusal) → of_mount error ≡ errors.Refused why → error ≡ mounts.Refused why
refusal_is (mounts.Refused refusal) why is =
    let told : errors.Refused refusal ≡ errors.Refused why = is in
    let same : refusal ≡ why = cc in ap (λ r. mounts.Refused r) same
refusal_is mounts.StoreFault why is = (let bad : ⊥ = cc in absurd bad)
refusal_is mounts.DeviceFault why is = (let bad : ⊥ = cc in absurd bad)
refusal_is mounts.OutOfMemory why is = (let bad : ⊥ = cc in absurd bad)

-- a mount that was refused left the objects
pub refusal_keeps : {D R : Type 0} (disk_state : D → DiskState) (receipt_state : R → ReceiptState) (is_lost : Bool)
    (uuid : List ℕ) (disk : DiskState) (left : D) (old new : StoreState) (why : Refusal)
    → MountEnds disk_state receipt_state is_lost uuid disk old new (Err (left, mounts.Refused why)) → new.objects ≡ old.objects
refusal_keeps disk_state receipt_state true uuid disk left old new why ends =
    (not_lost disk_state (TellsBytes receipt_state) uuid disk old new left (mounts.Refused why) ends).store (λ fault. fault)
refusal_keeps disk_state receipt_state false uuid disk left old new why ends =
    (not_kept disk_state (TellsBytes receipt_state) uuid disk old new left (mounts.Refused why) ends).store (λ fault. fault)
