-- An object of the store that is adopted.
use Rattle.std.proofs.Common.{◌≡◌, ℕ, false, Option, Some, None, sym, ap, subst}
use Rattle.std.specs.Prelude.{IfSome}
use Rattle.std.specs.Option.{IsSome}
use Rattle.lsvd_objstore.specs.Objects.{Objects}
use Rattle.lsvd_objstore.specs.Store.{ReceiptState, Finds}
use Rattle.object_format.specs.declared.expected.Expected.{Expected}
use Rattle.object_format.specs.declared.header.Header.{Header}
use Rattle.object_format.specs.declared.rows.Rows.{Rows}
use Rattle.object_format.specs.declared.rows.Rows.TheVariants as rows_of
use Rattle.object_format.specs.Object.{IsObject}
use Rattle.object_stream.specs.Replay.{object_name}
use Rattle.object_uploads.specs.declared.rows.SealedRows.{SealedRows}
use Rattle.object_uploads.specs.declared.rows.SealedRows.TheVariants as sealed_rows
use Rattle.object_uploads.specs.Queue.{FitSealed, is_checkpoint}
use Rattle.obj_log.proofs.FitLemmas.{object_fits, copy_fits}
use Rattle.object_recovery.specs.declared.judging.Reached.{Reached}
use Rattle.object_recovery.specs.Adoption.{adoptable_rows, IsReadToAdopt, IsNotAdopted, IsStoredAs, IsLeftAt}
use Rattle.object_recovery.specs.Read.{IsReadAs}
use Rattle.object_recovery.proofs.FindLemmas.{of_told}

-- ---- its rows fit the maps

fit_by : (receipt : ReceiptState) (expected : Expected) (header : Header) (rows_read : Rows) (rows : SealedRows)
    → adoptable_rows rows_read ≡ Some rows → IsReadAs receipt expected header rows_read → FitSealed expected.sectors rows
fit_by receipt expected header (rows_of.Data list) rows is was =
    let same : sealed_rows.Data list ≡ rows = cc in
    subst (FitSealed expected.sectors) same (object_fits was.bytes receipt.size expected header list was.is_object)
fit_by receipt expected header (rows_of.Copy list) rows is was =
    let same : sealed_rows.Copy list ≡ rows = cc in
    subst (FitSealed expected.sectors) same (copy_fits was.bytes receipt.size expected header list was.is_object)
fit_by receipt expected header rows_of.Checkpoint rows is was = absurd cc

pub rows_fit : (receipt : ReceiptState) (expected : Expected) (rows : SealedRows) (end : ℕ)
    → IsReadToAdopt receipt expected rows end → FitSealed expected.sectors rows
rows_fit receipt expected rows end is = fit_by receipt expected is.header is.rows_read rows is.adoptable is.read

-- they are none of a checkpoint
pub no_checkpoint : (rows_read : Rows) (rows : SealedRows) → adoptable_rows rows_read ≡ Some rows → is_checkpoint rows ≡ false
no_checkpoint (rows_of.Data list) rows is =
    let same : sealed_rows.Data list ≡ rows = cc in
    ap is_checkpoint (sym same)
no_checkpoint (rows_of.Copy list) rows is =
    let same : sealed_rows.Copy list ≡ rows = cc in
    ap is_checkpoint (sym same)
no_checkpoint rows_of.Checkpoint rows is = absurd cc

-- ---- where the store tells its objects

pub stored_as : (told : Option Objects) (expected : Expected) (receipt : ReceiptState) (rows : SealedRows) (end : ℕ)
    → Finds (object_name expected expected.number) told (Some receipt) → IsSome receipt.told
    → IsReadToAdopt receipt expected rows end
    → IfSome told (λ objects. IsStoredAs objects expected rows end receipt)
stored_as None expected receipt rows end finds some is = tt
stored_as (Some objects) expected receipt rows end finds some is = record {
  bytes = finds.0;
  present = finds.1;
  header = is.header;
  rows_read = is.rows_read;
  adoptable = is.adoptable;
  is_object =
      of_told (λ bytes size. IsObject bytes size expected is.header is.rows_read)
      (object_name expected expected.number) finds.0 receipt finds.2 some is.read.told;
  end_is = is.end_is;
  receipt_is = record { size = finds.2.size; told = finds.2.told };
}

pub left_at : (told : Option Objects) (expected : Expected) (receipt : ReceiptState) (reached : Reached)
    → Finds (object_name expected expected.number) told (Some receipt) → IsSome receipt.told
    → IfSome receipt.told (λ bytes. IsNotAdopted bytes receipt.size expected reached)
    → IfSome told (λ objects. IsLeftAt objects expected reached)
left_at None expected receipt reached finds some is = tt
left_at (Some objects) expected receipt reached finds some is = record {
  bytes = finds.0;
  present = finds.1;
  left = of_told (λ bytes size. IsNotAdopted bytes size expected reached) (object_name expected expected.number) finds.0 receipt
      finds.2 some is;
}
