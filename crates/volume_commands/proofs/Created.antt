-- What an error of a creation is to the command.
use Rattle.std.proofs.Common.{◌≡◌, ℕ, List, refl, sym, ◌∙◌, ap, subst}
use Rattle.std.specs.Prelude.{Option, Some, None}
use Rattle.lsvd_base.specs.declared.geometry.Geometry.{Geometry}
use Rattle.lsvd_device.specs.Device.{DiskState}
use Rattle.lsvd_fault.specs.Faults.{Counts}
use Rattle.lsvd_objstore.specs.Objects.{Objects}
use Rattle.lsvd_objstore.specs.Store.{Becomes}
use Rattle.refusals.specs.declared.refusal.Refusal.{Refusal}
use Rattle.refusals.specs.declared.refusal.Refusal.TheVariants as reasons
use Rattle.vol_recover.specs.declared.creating.CreateError.{CreateError}
use Rattle.vol_recover.specs.declared.creating.CreateError.TheVariants as create_errors
use Rattle.vol_recover.specs.Creating.{MayPut, IsSuperThere, NotCreatedWithStore, is_put_fault}
use Rattle.volume_commands.specs.declared.error.CommandError.TheVariants as errors
use Rattle.volume_commands.specs.Creating.{of_creation}
use Rattle.volume_commands.specs.World.{IsConstant}
use Rattle.volume_commands.proofs.Served.{stands_still}

-- it is a refusal only where the volume exists
exists_alone : (error : CreateError) (why : Refusal) → of_creation error ≡ errors.Refused why
    → (error ≡ create_errors.Exists) × (why ≡ reasons.Exists)
exists_alone create_errors.Exists why is = (refl, (let same : reasons.Exists ≡ why = cc in sym same))
exists_alone create_errors.StoreFault why is = (let bad : ⊥ = cc in absurd bad)
exists_alone create_errors.DeviceFault why is = (let bad : ⊥ = cc in absurd bad)
exists_alone create_errors.OutOfMemory why is = (let bad : ⊥ = cc in absurd bad)

none_put : (old new : Option Objects) → Becomes (λ a b. b ≡ a) old new → new ≡ old
none_put None new same = same
none_put (Some objects) new same = same.1 ∙ ap (λ o. Some o) same.2

pub refuses_existing : (uuid : List ℕ) (geometry : Geometry) (disk left : DiskState) (old new : Option Objects)
    (error : CreateError)
    (why : Refusal) → NotCreatedWithStore uuid geometry disk left old new error → of_creation error ≡ errors.Refused why
    → (why ≡ reasons.Exists) × IsSuperThere uuid old × (new ≡ old)
refuses_existing uuid geometry disk left old new error why none is =
    let exists = exists_alone error why is in (
      exists.1,
      none.exists exists.0,
      none_put old new (subst (λ e. Becomes (MayPut uuid geometry e) old new) exists.0 none.puts),
    )

-- where no disk and no store count a fault, it is none
pub creation_counts_none : {D S : Type 0} (disk_state : D → DiskState) (store_faults : S → ℕ) (uuid : List ℕ)
    (geometry : Geometry) (disk left : D) (first last : S) (old new : Option Objects) (error : CreateError)
    → NotCreatedWithStore uuid geometry (disk_state disk) (disk_state left) old new error
    → Counts (is_put_fault error) (store_faults first) (store_faults last) → of_creation error ≡ errors.Fault
    → IsConstant (λ d. (disk_state d).faults) → IsConstant store_faults → ⊥
creation_counts_none disk_state store_faults uuid geometry disk left first last old new create_errors.Exists none counts is disks
    stores =
    let bad : ⊥ = cc in bad
creation_counts_none disk_state store_faults uuid geometry disk left first last old new create_errors.StoreFault none counts is
    disks stores =
    stands_still store_faults first last stores counts
creation_counts_none disk_state store_faults uuid geometry disk left first last old new create_errors.DeviceFault none counts is
    disks stores =
    stands_still (λ d. (disk_state d).faults) disk left disks none.calls.calls.faults
creation_counts_none disk_state store_faults uuid geometry disk left first last old new create_errors.OutOfMemory none counts is
    disks stores =
    let bad : ⊥ = cc in bad
