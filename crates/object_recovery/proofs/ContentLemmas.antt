-- What the object of a stream has that the store has and that may be adopted, by the stream's content.
use Rattle.std.proofs.Common.{◌≡◌, ℕ, Option, Some, List}
use Rattle.std.proofs.Common.{refl, sym, ◌∙◌, ap, subst}
use Rattle.std.specs.Global.{Vec}
use Rattle.lsvd_base.specs.declared.entry.Entry.{Entry}
use Rattle.lsvd_objstore.specs.Objects.{Objects}
use Rattle.object_format.specs.declared.copy_row.CopyRow.{CopyRow}
use Rattle.object_format.specs.declared.data_row.DataRow.{DataRow}
use Rattle.object_format.specs.declared.rows.Rows.{Rows}
use Rattle.object_format.specs.declared.rows.Rows.TheVariants as rows_of
use Rattle.object_format.specs.Laws.{AreSameRows}
use Rattle.object_stream.specs.declared.object.CopiedSector.{CopiedSector}
use Rattle.object_stream.specs.declared.object.Content.TheVariants as content
use Rattle.object_stream.specs.Changes.{change_at, change_in}
use Rattle.object_stream.specs.Replay.{source_at}
use Rattle.object_stream.specs.Stored.{CopiesSources, HasContent}
use Rattle.object_stream.specs.Stream.{Owners, source_in}
use Rattle.object_stream.specs.Value.{copied_in}
use Rattle.object_uploads.specs.declared.rows.SealedRows.{SealedRows}
use Rattle.object_uploads.specs.declared.rows.SealedRows.TheVariants as sealed_rows
use Rattle.object_recovery.specs.Adoption.{adoptable_rows}

-- the rows of an object that may be adopted are these, and those of a data object do what its entries do
pub record IsDataOf (part : List Entry) (rows_read : Rows) (rows : SealedRows) (payload : List ℕ) : Type 0 where
  pub list : Vec DataRow
  pub rows_are : rows ≡ sealed_rows.Data list
  pub read_is : rows_read ≡ rows_of.Data list
  pub changes : (k : ℕ) → change_in list.items payload k ≡ change_at part k

-- those of a copy have its sources, and of each sector that its source owns still just what that has
pub record IsCopyOf (objects : Objects) (uuid_at : ℕ → Option (List ℕ)) (before : Owners) (pairs : List CopiedSector)
    (rows_read : Rows) (rows : SealedRows) (payload : List ℕ) : Type 0 where
  pub list : Vec CopyRow
  pub rows_are : rows ≡ sealed_rows.Copy list
  pub read_is : rows_read ≡ rows_of.Copy list
  pub sources : (k : ℕ) → source_at list.items k ≡ source_in pairs k
  pub copied : CopiesSources objects uuid_at before (source_in pairs) (copied_in list.items payload)

module _ (objects : Objects) (uuid_at : ℕ → Option (List ℕ)) (before : Owners) (part : List Entry) (payload other : List ℕ)
    (same_payload : payload ≡ other) where
  pub data_of : (rows_read others : Rows) (rows : SealedRows) → adoptable_rows rows_read ≡ Some rows
      → AreSameRows rows_read others
      → HasContent objects uuid_at before content.Data part others other → IsDataOf part rows_read rows payload
  data_of (rows_of.Data list) (rows_of.Data others) rows is same has = record {
    list = list;
    rows_are = cc;
    read_is = refl;
    changes = λ k.
        ap (λ items. change_in items payload k) same ∙ (ap (λ p. change_in others.items p k) same_payload ∙ has k);
  }
  data_of (rows_of.Copy list) (rows_of.Data others) rows is same has = absurd same
  data_of rows_of.Checkpoint (rows_of.Data others) rows is same has = absurd same
  data_of rows_read (rows_of.Copy others) rows is same has = absurd has
  data_of rows_read rows_of.Checkpoint rows is same has = absurd has

  pub copy_of : (pairs : List CopiedSector) (rows_read others : Rows) (rows : SealedRows) → adoptable_rows rows_read ≡ Some rows
      → AreSameRows rows_read others → HasContent objects uuid_at before (content.Copy pairs) part others other
      → IsCopyOf objects uuid_at before pairs rows_read rows payload
  copy_of pairs (rows_of.Copy list) (rows_of.Copy others) rows is same has = record {
    list = list;
    rows_are = cc;
    read_is = refl;
    sources = λ k. ap (λ items. source_at items k) same ∙ has.0 k;
    copied =
        subst (λ items. CopiesSources objects uuid_at before (source_in pairs) (copied_in items payload)) (sym same)
        (subst (λ p. CopiesSources objects uuid_at before (source_in pairs) (copied_in others.items p)) (sym same_payload) has.1);
  }
  copy_of pairs (rows_of.Data list) (rows_of.Copy others) rows is same has = absurd same
  copy_of pairs rows_of.Checkpoint (rows_of.Copy others) rows is same has = absurd same
  copy_of pairs rows_read (rows_of.Data others) rows is same has = absurd has
  copy_of pairs rows_read rows_of.Checkpoint rows is same has = absurd has
