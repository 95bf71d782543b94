-- Contract: what a run of `serve` does and says.
use Rattle.std.specs.Prelude.{◌≡◌, ℕ, Bool, false, List, [], ◌++◌, Option, Result, Ok, Err, codes, decimal}
use Rattle.std.specs.Io.KnownBytes.{Appends}
use Rattle.lsvd_device.specs.Device.{DiskState}
use Rattle.lsvd_objstore.specs.Store.{StoreState, ReceiptState}
use Rattle.command_line.specs.declared.serve.ServeRequest.{ServeRequest}
use Rattle.vol_mount.specs.declared.error.MountError.{MountError}
use Rattle.vol_mount.specs.declared.error.MountError.TheVariants as mounts
use Rattle.vol_mount.specs.Mounted.{MountedState}
use Rattle.volume_owner.specs.Acts.{Moment, moment_of}
use Rattle.volume_owner.specs.Calls.{IsLengthOf, IsDrained}
use Rattle.volume_owner.specs.declared.error.OwnerError.{OwnerError}
use Rattle.volume_owner.specs.declared.error.OwnerError.TheVariants as owners
use Rattle.volume_server.specs.OwnerDevice.{Calls, owner_relations}
use Rattle.volume_server.specs.Serving.{ListenerState, ConnectionState, GivesClients, EndsLane, AreClients}
use Rattle.volume_server.specs.declared.serving.Lane.{Lane}
use Rattle.volume_server.specs.declared.serving.LaneEnd.{LaneEnd}
use Rattle.volume_server.specs.declared.serving.LaneEnd.TheVariants as lanes
use Rattle.volume_commands.specs.declared.error.CommandError.{CommandError}
use Rattle.volume_commands.specs.declared.error.CommandError.TheVariants as errors
use Rattle.volume_commands.specs.declared.report.Report.{Report}
use Rattle.volume_commands.specs.Mounting.{WorksOn, WorksFor}
use Rattle.volume_commands.specs.Output.{Tells}
use Rattle.volume_commands.specs.World.{Places}

-- ---- errors

-- what an error of a mount is to a command
abbrev pub of_mount : MountError → CommandError
of_mount (mounts.Refused why) = errors.Refused why
of_mount mounts.StoreFault = errors.Fault
of_mount mounts.DeviceFault = errors.Fault
of_mount mounts.OutOfMemory = errors.OutOfMemory

-- and one of the owner of a volume, who refuses no range in a drain
abbrev pub of_owner : OwnerError → CommandError
of_owner owners.Range = errors.Fault
of_owner owners.Eio = errors.Fault
of_owner owners.OutOfMemory = errors.OutOfMemory

-- a server is done, unless its listener failed
abbrev pub judged : LaneEnd → Result (Unit {0}) CommandError
judged lanes.Counted = Ok tt
judged lanes.Closed = Ok tt
judged lanes.Failed = Err errors.Fault

-- ---- the output

-- the line that tells a volume that was mounted: how many entries its history has, and the number of the object before the first
-- missing one
abbrev pub mounted_line : (entries number : ℕ) → List ℕ
mounted_line entries number = codes "mounted " ++ decimal entries ++ codes " " ++ decimal number ++ codes "\n"

-- the line that tells how many entries the history has at the end
abbrev pub writes_line : ℕ → List ℕ
writes_line entries = codes "writes " ++ decimal entries ++ codes "\n"

abbrev pub serving_text : (kept number entries : ℕ) → List ℕ
serving_text kept number entries = mounted_line kept number ++ writes_line entries

-- a text of both lines
abbrev pub IsServingText : List ℕ → Type 0
IsServingText text = (kept : ℕ) × (number : ℕ) × (entries : ℕ) × (text ≡ serving_text kept number entries)

-- what the output took, where the run ended so
abbrev pub TellsServing : Report → (old new : Option (List ℕ)) → Type 0
TellsServing = Tells IsServingText

-- ---- what is done

-- A volume was drained, whose history has so many entries: none was added, and each is in an object that is acknowledged.
pub record Drains {R : Type 0} (receipt_state : R → ReceiptState) (entries : ℕ) (old closing : Moment) : Type 0 where
  pub count : IsLengthOf entries old.volume.volume
  pub calls : Calls receipt_state [] false old closing
  pub drained : IsDrained closing.volume.volume

-- A volume that was mounted was served to the clients that came, one after the other: as many as were to be, or all before the
-- listener was closed. Then it was drained. The lines tell how many entries its history had and the number of its last object,
-- and how many entries it has at the end, with those of the clients.
pub record ServesMounted {R L K : Type 0} (receipt_state : R → ReceiptState) (listener_state : L → ListenerState)
    (coming : L → Option (List K)) (link_state : K → ConnectionState) (sessions : ℕ) (links : Option (List K))
    (mounted : MountedState) (store : StoreState) (closing : Moment) (old new : Option (List ℕ)) : Type 0 where
  pub lane : Lane
  pub succeeds : lane.end ≡ lanes.Failed → ⊥
  pub ends : EndsLane sessions lane
  pub clients : L
  pub after : L
  pub gives : GivesClients lane (listener_state clients) (listener_state after)
  pub last : Moment
  pub served : AreClients (owner_relations receipt_state) link_state lane.served links (coming after)
      (moment_of mounted.volume store) last
  pub entries : ℕ
  pub drains : Drains receipt_state entries last closing
  pub told : Appends old new (serving_text mounted.entries mounted.number entries)

-- The volume that is asked for was mounted of this disk and this store, and served and let go, which left them so.
abbrev pub ServesOn : {D R L K : Type 0} → (D → DiskState) → (R → ReceiptState) → (L → ListenerState) → (L → Option (List K))
    → (K → ConnectionState) → ServeRequest → (links : Option (List K)) → (disk disk_left : DiskState)
    → (store store_left : StoreState) → (old new : Option (List ℕ)) → Type 0
ServesOn disk_state receipt_state listener_state coming link_state request links disk disk_left store store_left old new =
    WorksOn disk_state receipt_state request.mount (λ mounted mid closing.
    ServesMounted receipt_state listener_state coming link_state request.sessions links mounted mid closing old new)
    disk disk_left store store_left

-- So it was of the store that stood at its path and of the disk at that of its cache, or a new one there, which stand there as
-- they were left, for the clients that came to the socket.
abbrev pub Serves : {D R L K : Type 0} → (tells : Bool) → (D → DiskState) → (R → ReceiptState) → (L → ListenerState)
    → (L → Option (List K)) → (K → ConnectionState) → ServeRequest → (links : Option (List K)) → (before after : Places)
    → (old new : Option (List ℕ)) → Type 0
Serves tells disk_state receipt_state listener_state coming link_state request links before after old new =
    WorksFor tells disk_state receipt_state request.mount (λ mounted mid closing.
    ServesMounted receipt_state listener_state coming link_state request.sessions links mounted mid closing old new)
    before after
