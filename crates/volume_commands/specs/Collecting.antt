-- Contract: what a run of `collect` does and says.
use Rattle.std.specs.Prelude.{◌≡◌, ℕ, Bool, Ok, List, ◌++◌, Option, codes, decimal}
use Rattle.std.specs.Io.KnownBytes.{Appends}
use Rattle.lsvd_device.specs.Device.{DiskState}
use Rattle.lsvd_objstore.specs.Store.{StoreState, ReceiptState}
use Rattle.command_line.specs.declared.mount.MountRequest.{MountRequest}
use Rattle.vol_mount.specs.Mounted.{MountedState}
use Rattle.volume_owner.specs.Acts.{Moment}
use Rattle.volume_owner.specs.Collecting.{CollectAllOf}
use Rattle.volume_owner.specs.declared.collecting_all.Collected.{Collected}
use Rattle.volume_commands.specs.declared.report.Report.{Report}
use Rattle.volume_commands.specs.Mounting.{WorksOn, WorksFor}
use Rattle.volume_commands.specs.Output.{Tells}
use Rattle.volume_commands.specs.World.{Places}

-- ---- the output

-- the lines that tell how many sectors were copied, and how many objects were removed
abbrev pub collected_text : Collected → List ℕ
collected_text collected =
    codes "copied " ++ decimal collected.copied ++ codes "\nremoved " ++ decimal collected.removed ++ codes "\n"

abbrev pub IsCollectedText : List ℕ → Type 0
IsCollectedText text = (collected : Collected) × (text ≡ collected_text collected)

-- what the output took, where the run ended so
abbrev pub TellsCollection : Report → (old new : Option (List ℕ)) → Type 0
TellsCollection = Tells IsCollectedText

-- ---- what is done

-- A volume that was mounted was collected: nothing was entered, no victim is left, it is drained, and the lines tell what was
-- copied and removed.
pub record CollectsMounted {R : Type 0} (receipt_state : R → ReceiptState) (mounted : MountedState) (store : StoreState)
    (closing : Moment) (old new : Option (List ℕ)) : Type 0 where
  pub collected : Collected
  pub collects : CollectAllOf receipt_state (Ok collected) mounted.volume closing.volume store closing.store
  pub told : Appends old new (collected_text collected)

-- The volume that is asked for was mounted of this disk and this store, and collected and let go, which left them so.
abbrev pub CollectsOn : {D R : Type 0} → (D → DiskState) → (R → ReceiptState) → MountRequest → (disk disk_left : DiskState)
    → (store store_left : StoreState) → (old new : Option (List ℕ)) → Type 0
CollectsOn disk_state receipt_state request disk disk_left store store_left old new =
    WorksOn disk_state receipt_state request (λ mounted mid closing.
    CollectsMounted receipt_state mounted mid closing old new) disk disk_left store store_left

-- So it was of the store that stood at its path and of the disk at that of its cache, or a new one there, which stand there as
-- they were left.
abbrev pub Collects : {D R : Type 0} → (tells : Bool) → (D → DiskState) → (R → ReceiptState) → MountRequest
    → (before after : Places) → (old new : Option (List ℕ)) → Type 0
Collects tells disk_state receipt_state request before after old new =
    WorksFor tells disk_state receipt_state request (λ mounted mid closing.
    CollectsMounted receipt_state mounted mid closing old new) before after
