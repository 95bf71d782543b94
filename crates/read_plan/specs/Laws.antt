-- Contract: what a plan gives for each sector.
use Rattle.std.specs.Prelude.{◌≡◌, ℕ, ◌+◌, Option, Some, None, IfSome, List, length}
use Rattle.std.specs.List.{AllByRecursion}
use Rattle.lsvd_objstore.specs.Store.{ReceiptState}
use Rattle.cache_log.specs.Log.{LogState}
use Rattle.object_stream.specs.Changes.{sector_of}
use Rattle.volume_maps.specs.declared.place.VolumePlace.{VolumePlace}
use Rattle.volume_maps.specs.declared.place.VolumePlace.TheVariants.{Log, Object}
use Rattle.object_uploads.specs.State.{StoredObject, QueueState}
use Rattle.object_uploads.specs.Queue.{stored_at}
use Rattle.read_plan.specs.Plan.{PlanState, PiecesFit, Gives}
use Rattle.read_plan.specs.Places.{IsLogged, HoldsPlace}

-- a receipt tells all bytes of its object
pub record TellsAll (receipt : ReceiptState) : Type 0 where
  pub bytes : List ℕ
  pub told : receipt.told ≡ Some bytes
  pub size : receipt.size ≡ length bytes

-- A sector at this place: where an object has it, as its receipt tells it, and else what the log has, or zeros.
abbrev pub IsSectorAt : LogState → QueueState → Option VolumePlace → (sector : List ℕ) → Type 0
IsSectorAt log queue None sector = IsLogged log None sector
IsSectorAt log queue (Some (Log place)) sector = IsLogged log (Some (Log place)) sector
IsSectorAt log queue (Some (Object place)) sector =
    (object : StoredObject) → stored_at queue place ≡ Some object
    → IfSome object.receipt.told (λ told. sector ≡ sector_of (object.front + place.sector) told)

-- where the receipts of a plan tell all bytes, it gives each sector that it holds
abbrev pub GivesSectors : Type 0
GivesSectors =
    (log : LogState) (queue : QueueState) (place : Option VolumePlace) (i : ℕ) (plan : PlanState) (bytes : List ℕ)
    → PiecesFit plan → AllByRecursion (λ piece. TellsAll piece.receipt) plan.pieces
    → HoldsPlace log queue place i plan → Gives plan bytes → IsSectorAt log queue place (sector_of i bytes)
