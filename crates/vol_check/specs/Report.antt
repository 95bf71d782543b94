-- Contract: what a check reports of a volume: lists, each of them a filter over the names and headers that the store has of it.
use Rattle.std.specs.Prelude.{◌≡◌, ℕ, ◌-◌, ◌^◌, ◌<◌, ◌≤◌, ◌⊎◌, ◌↔◌, true, Option, Some, None, IsTrue, List}
use Rattle.std.specs.Prelude.{length}
use Rattle.std.specs.List.{AllPairs, Contains}
use Rattle.std.specs.List.Sorted.{IsStrictlyIncreasing}
use Rattle.lsvd_names.specs.Names.{numbered_name}
use Rattle.lsvd_objstore.specs.Objects.{Objects, found}
use Rattle.object_format.specs.declared.expected.Expected.{Expected}
use Rattle.object_format.specs.declared.header.Header.{Header}
use Rattle.object_format.specs.declared.kind.Kind.TheVariants as kinds
use Rattle.object_format.specs.declared.reason.BadObject.{BadObject as BadReason}
use Rattle.object_format.specs.declared.rows.Rows.{Rows}
use Rattle.object_format.specs.declared.rows.Rows.TheVariants as rows_of
use Rattle.object_format.specs.Header.{IsObjectHeader}
use Rattle.ckpt_format.specs.Reading.{IsCheckpointRefusedAs}
use Rattle.object_stream.specs.declared.owner.Owner.{Owner}
use Rattle.object_stream.specs.Stream.{Owners, is_own}
use Rattle.object_stream.specs.Replay.{object_name, source_at, expected_at, HasParts, Replays}
use Rattle.super_format.specs.declared.super_object.Super.{Super}
use Rattle.super_format.specs.Super.{geometry_with}
use Rattle.stopped_volume.specs.Ancestors.{uuid_in_chain}
use Rattle.stopped_volume.specs.Expected.{expected_alone}
use Rattle.stopped_volume.specs.Holds.{IsHeld, HasCheckpoint}
use Rattle.stopped_volume.specs.Needed.{IsNeeded}
use Rattle.stopped_volume.specs.Objects.{landed_in}
use Rattle.stopped_volume.specs.Opening.{IsCheckpointOf}
use Rattle.stopped_volume.specs.Super.{HasSuper}
use Rattle.super_recovery.specs.declared.error.SuperError.TheVariants as supers
use Rattle.super_recovery.specs.Found.{IsVolumeRefused}
use Rattle.object_recovery.specs.declared.error.RecoverError.{RecoverError}
use Rattle.object_recovery.specs.declared.error.RecoverError.TheVariants as errors
use Rattle.object_recovery.specs.Checkpoints.{expected_of, IsNoCheckpoint}
use Rattle.object_recovery.specs.Judging.{AreGood, IsRun}
use Rattle.object_recovery.specs.Recovery.{AreAllGood, IsBadThere}
use Rattle.refusals.specs.declared.refusal.Refusal.TheVariants.{NoVolume, BadSuper, NoCheckpoint, BadObject}
use Rattle.vol_check.specs.declared.error.CheckError.{CheckError}
use Rattle.vol_check.specs.declared.error.CheckError.TheVariants.{Refused, StoreFault, OutOfMemory}
use Rattle.vol_check.specs.declared.report.ObjectOfLevel.{ObjectOfLevel}
use Rattle.vol_check.specs.declared.report.CheckReport.{CheckReport}

-- ---- lists of numbers

-- they are just those that a name may have and of which this holds, each once, ascending
pub record AreJust (Such : ℕ → Type 0) (numbers : List ℕ) : Type 0 where
  pub ascending : IsStrictlyIncreasing numbers
  pub same : (number : ℕ) → number < 2 ^ 64 → Contains numbers number ↔ Such number

-- the store has an object of this number
abbrev pub IsThere : Expected → Objects → (number : ℕ) → Type 0
IsThere volume objects number = IsTrue (landed_in objects volume number)

-- and its header is that of a checkpoint
pub record HasCheckpointHeader (volume : Expected) (objects : Objects) (number : ℕ) : Type 0 where
  pub bytes : List ℕ
  pub present : found objects (object_name volume number) ≡ Some bytes
  pub header : Header
  pub is_header : IsObjectHeader bytes (length bytes) (expected_alone volume number) header
  pub kind : header.kind ≡ kinds.Checkpoint

-- ---- what is missing

-- rows of a copy name this source of the sector k
abbrev pub NamesSource : Rows → (k source : ℕ) → Type 0
NamesSource (rows_of.Data list) k source = ⊥
NamesSource (rows_of.Copy list) k source = source_at list.items k ≡ Some source
NamesSource rows_of.Checkpoint k source = ⊥

-- The object of a number past a checkpoint with these owners, and up to the last one, is a copy; and as far as the objects before
-- it were replayed, the sector k is still owned by this source, which the copy names there.
pub record IsSource (volume : Expected) (objects : Objects) (base end : ℕ) (owned : Owners) (last source : ℕ) : Type 0 where
  pub number : ℕ
  pub past : base < number
  pub within : number ≤ last
  pub end_before : ℕ
  pub before : Owners
  pub replayed : Replays objects volume base end owned (number - 1 - base) end_before before
  pub bytes : List ℕ
  pub present : found objects (object_name volume number) ≡ Some bytes
  pub header : Header
  pub rows : Rows
  pub payload : List ℕ
  pub parts : HasParts (expected_at volume number end_before) bytes header rows payload
  pub k : ℕ
  pub names : NamesSource rows k source
  pub owns : is_own source (before k) ≡ true

-- some sector has this owner
abbrev pub HasOwner : Owners → Owner → Type 0
HasOwner owned owner = (k : ℕ) × (owned k ≡ Some owner)

abbrev pub owner_at : (level number : ℕ) → Owner
owner_at level number = record { level = level; number = number }

-- The newest checkpoint, which has this number and maps sectors to these owners, an object after it up to the last one, a hold,
-- or a checkpoint that a hold names has named the object of a level.
abbrev pub IsNamed : Expected → Objects → (base end : ℕ) → Owners → (last level number : ℕ) → Type 0
IsNamed volume objects base end owned last level number =
    HasOwner owned (owner_at level number)
    ⊎ ((level ≡ 0) × IsSource volume objects base end owned last number)
    ⊎ ((level ≡ 0) × IsHeld volume objects number)
    ⊎ ((checkpoint : ℕ) × IsHeld volume objects checkpoint × (held_end : ℕ) × (kept : Owners)
    × IsCheckpointOf volume objects checkpoint held_end kept × HasOwner kept (owner_at level number))

-- the store does not have it
abbrev pub IsAbsent : Objects → (uuid_at : ℕ → Option (List ℕ)) → (level number : ℕ) → Type 0
IsAbsent objects uuid_at level number =
    (uuid : List ℕ) × (uuid_at level ≡ Some uuid) × (found objects (numbered_name uuid number) ≡ None)

-- the object of a level, and one of the volume's own
abbrev pub object_at : (level number : ℕ) → ObjectOfLevel
object_at level number = record { level = level; number = number }

abbrev pub own_object : (number : ℕ) → ObjectOfLevel
own_object number = object_at 0 number

-- by level first, then by number
abbrev pub ComesBefore : ObjectOfLevel → ObjectOfLevel → Type 0
ComesBefore first second = (first.level < second.level) ⊎ ((first.level ≡ second.level) × (first.number < second.number))

-- they are just those that a name may have and of which this holds, each once, ascending
pub record AreJustMissing (Such : (level number : ℕ) → Type 0) (list : List ObjectOfLevel) : Type 0 where
  pub ascending : AllPairs ComesBefore list
  pub same : (level number : ℕ) → number < 2 ^ 64 → Contains list (object_at level number) ↔ Such level number

-- ---- the report

-- The report of the objects that a store has of a volume, by the uuids of its levels. The newest checkpoint and the last object
-- before the first missing one are those of a mount, and the objects past that checkpoint are good.
pub record IsReportOf (volume : Expected) (uuid_at : ℕ → Option (List ℕ)) (objects : Objects) (report : CheckReport) :
    Type 0 where
  pub volume_is : report.uuid ≡ volume.uuid
  pub base : ℕ
  pub end : ℕ
  pub owned : Owners
  pub checkpoint : IsCheckpointOf volume objects base end owned
  pub run : IsRun volume objects base report.last
  pub good : AreGood volume objects report.last (λ number. base < number)
  pub whole : (number : ℕ) → IsHeld volume objects number → IsThere volume objects number → HasCheckpoint volume objects number
  pub holds : AreJust (IsHeld volume objects) report.holds.items
  pub checkpoints : AreJust (λ number. (number ≤ report.last) × HasCheckpointHeader volume objects number)
      report.checkpoints.items
  pub stranded : AreJust (λ number. (report.last < number) × IsThere volume objects number) report.stranded.items
  pub unneeded : AreJust (λ number. (number ≤ report.last) × IsThere volume objects number
      × (IsNeeded volume objects base owned number → ⊥)) report.unneeded.items
  pub missing : AreJustMissing (λ level number. IsNamed volume objects base end owned report.last level number
      × IsAbsent objects uuid_at level number) report.missing.items

-- the volume that a super object says, but for the numbers and ends of its objects
abbrev pub volume_said : (uuid : List ℕ) → Super → Expected
volume_said uuid said = expected_of uuid (geometry_with said 0) (length said.chain)

pub record IsReport (uuid : List ℕ) (objects : Objects) (report : CheckReport) : Type 0 where
  pub said : Super
  pub says : HasSuper uuid said objects
  pub is : IsReportOf (volume_said uuid said) (uuid_in_chain uuid said.chain) objects report

-- ---- refusals

-- the store has an object of this number, and it is no checkpoint, for this first reason
abbrev pub IsBadCheckpoint : Expected → Objects → (number : ℕ) → BadReason → Type 0
IsBadCheckpoint volume objects number reason =
    (bytes : List ℕ) × (found objects (object_name volume number) ≡ Some bytes)
    × IsCheckpointRefusedAs bytes (expected_alone volume number) reason

-- No object past the newest checkpoint is bad. The checkpoint that a hold names is, and it is the one with the least number.
pub record IsBadHeld (volume : Expected) (objects : Objects) (number : ℕ) (reason : BadReason) : Type 0 where
  pub base : ℕ
  pub good : AreAllGood volume objects base
  pub is_held : IsHeld volume objects number
  pub bad : IsBadCheckpoint volume objects number reason
  pub lower : (other : ℕ) → other < number → IsHeld volume objects other → IsThere volume objects other
      → HasCheckpoint volume objects other

-- why the objects of a volume are refused: for no object that is absent
abbrev pub IsWhyNotChecked : Expected → Objects → RecoverError → Type 0
IsWhyNotChecked volume objects errors.NoCheckpoint = (number : ℕ) → IsNoCheckpoint volume objects number
IsWhyNotChecked volume objects (errors.BadObject number reason) =
    IsBadThere volume objects number reason ⊎ IsBadHeld volume objects number reason
IsWhyNotChecked volume objects (errors.MissingObject number) = ⊥
IsWhyNotChecked volume objects (errors.BaseMissing uuid) = ⊥
IsWhyNotChecked volume objects errors.StoreFault = Unit {0}
IsWhyNotChecked volume objects errors.OutOfMemory = Unit {0}

abbrev pub AreObjectsRefused : (uuid : List ℕ) → Objects → RecoverError → Type 0
AreObjectsRefused uuid objects error =
    (said : Super) × HasSuper uuid said objects × IsWhyNotChecked (volume_said uuid said) objects error

-- why a volume is not checked
abbrev pub IsCheckRefused : (uuid : List ℕ) → Objects → CheckError → Type 0
IsCheckRefused uuid objects (Refused NoVolume) = IsVolumeRefused uuid objects supers.NoVolume
IsCheckRefused uuid objects (Refused (BadSuper reason)) = IsVolumeRefused uuid objects (supers.BadSuper reason)
IsCheckRefused uuid objects (Refused NoCheckpoint) = AreObjectsRefused uuid objects errors.NoCheckpoint
IsCheckRefused uuid objects (Refused (BadObject number reason)) =
    AreObjectsRefused uuid objects (errors.BadObject number reason)
IsCheckRefused uuid objects StoreFault = Unit {0}
IsCheckRefused uuid objects OutOfMemory = Unit {0}
IsCheckRefused uuid objects error = ⊥
