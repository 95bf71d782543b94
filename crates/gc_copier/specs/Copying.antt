-- Contract: what a copy gives, and what it asks of the store.
use Rattle.std.specs.Prelude.{◌≡◌, ℕ, ◌+◌, ◌*◌, ◌≤◌, Bool, true, false, Option, Some, None, IfSome, List, ◌++◌, length}
use Rattle.std.specs.Prelude.{Result, Ok, Err, IfOk, IsErrOf}
use Rattle.std.specs.List.{All, Contains}
use Rattle.lsvd_bytes.specs.Places.{bytes_at}
use Rattle.lsvd_fault.specs.Faults.{Counts}
use Rattle.lsvd_objstore.specs.Store.{StoreState, StoreCall, Get, OnlyCounts}
use Rattle.object_format.specs.declared.copy_row.CopyRow.{CopyRow}
use Rattle.gc_copier.specs.declared.error.CopyError.{CopyError}
use Rattle.gc_copier.specs.declared.error.CopyError.TheVariants.{Failed, OutOfMemory}
use Rattle.gc_copier.specs.Plan.{SourceState, PlanState, IsPlan, numbers_of, sectors_of}

-- ---- the data of a row

-- the bytes of a payload where a row's data stand
abbrev pub data_in : CopyRow → (payload : List ℕ) → List ℕ
data_in row payload = bytes_at (512 * row.place) (512 * row.sectors) payload

-- where the receipt of a source tells its object's bytes, these are those that a row has there
abbrev pub AreTold : SourceState → CopyRow → (bytes : List ℕ) → Type 0
AreTold source row bytes =
    IfSome source.receipt.told (λ told. bytes ≡ bytes_at (512 * (source.front + row.source.place)) (512 * row.sectors) told)

-- these are the data of a row, as they are told by the source of its number
abbrev pub AreData : List SourceState → CopyRow → (bytes : List ℕ) → Type 0
AreData sources row bytes =
    (source : SourceState) → Contains sources source → source.number ≡ row.source.number → AreTold source row bytes

-- ---- what was copied

-- what was copied: the rows of the copy object to come, the objects that data were taken from, and the payload
pub record CopiedState : Type 0 where
  pub rows : List CopyRow
  pub sources : List SourceState
  pub payload : List ℕ

-- these are the rows and the sources of a plan, and the payload is all data of the rows
pub record IsCopied (rows : List CopyRow) (sources : List SourceState) (payload : List ℕ) : Type 0 where
  pub plan : IsPlan rows sources
  pub size : length payload ≡ 512 * sectors_of rows
  pub contents : All (λ (row : CopyRow). AreData sources row (data_in row payload)) rows

-- what was copied by a plan: its rows and its sources, and the data that these tell
pub record IsCopyOf (plan : PlanState) (copied : CopiedState) : Type 0 where
  pub rows : copied.rows ≡ plan.rows
  pub sources : copied.sources ≡ plan.sources
  pub payload : IsCopied plan.rows plan.sources copied.payload

-- ---- what is asked of the store

-- a get of payload of one of the sources
pub record IsPayloadGet (sources : List SourceState) (call : StoreCall) : Type 0 where
  pub source : SourceState
  pub is : Contains sources source
  pub at : ℕ
  pub count : ℕ
  pub gets : call ≡ Get source.receipt.name at count
  pub from : 512 * source.front ≤ at
  pub to : at + count ≤ source.receipt.size

-- where a store tells its gets, only such gets were added to them, and no more than so many
abbrev pub AddsGets : List SourceState → (most : ℕ) → (old new : Option (List StoreCall)) → Type 0
AddsGets sources most None new = new ≡ None
AddsGets sources most (Some calls) new =
    (more : List StoreCall) × (new ≡ Some (more ++ calls)) × (length more ≤ most) × All (IsPayloadGet sources) more

-- nothing but gets of payload was asked of a store, no more than so many, and none of them failed, or just one
pub record AsksGets (sources : List SourceState) (most : ℕ) (failed : Bool) (old new : StoreState)
    (old_gets new_gets : Option (List StoreCall)) : Type 0 where
  pub gets : AddsGets sources most old_gets new_gets
  pub unchanged : OnlyCounts old new
  pub count : Counts failed old.faults new.faults

-- a copy failed because the store did
abbrev pub has_failed : {T : Type 0} → Result T CopyError → Bool
has_failed (Ok value) = false
has_failed (Err (Failed number)) = true
has_failed (Err OutOfMemory) = false

-- ---- the contract of a copy

-- What a copy by a plan gives, and what it asks of a store: no more gets than the plan has rows. `Failed` names the number of a
-- source, and `OutOfMemory` comes where no get was asked.
pub record Copies (plan : PlanState) (result : Result CopiedState CopyError) (old new : StoreState)
    (old_gets new_gets : Option (List StoreCall)) : Type 0 where
  pub copied : IfOk result (IsCopyOf plan)
  pub failed : (number : ℕ) → IsErrOf result (Failed number) → Contains (numbers_of plan.sources) number
  pub asks : AsksGets plan.sources (length plan.rows) (has_failed result) old new old_gets new_gets
  pub memory : IsErrOf result OutOfMemory → new_gets ≡ old_gets
