-- A removal that begins: the receipt that is handed out has its object's name.
use Rattle.std.proofs.Common.{◌≡◌, ℕ, Some, List, refl, sym, ◌∙◌, ap, subst}
use Rattle.std.specs.List.{All}
use Rattle.lsvd_names.specs.declared.name.ObjName.{ObjName}
use Rattle.lsvd_names.specs.Names.{numbered_name}
use Rattle.lsvd_objstore.specs.Store.{ReceiptState}
use Rattle.upload_window.specs.Window.{WindowState}
use Rattle.object_uploads.specs.State.{QueueState}
use Rattle.object_uploads.specs.Order.{IsUploads}
use Rattle.object_uploads.specs.Removal.{IsRemovedNext, TakesRemoval}
use Rattle.object_uploads.specs.Invariant.{IsKnown, TakesFromQueue}
use Rattle.object_uploads.proofs.NamesKept.{IsNamed, named_without, name_of}
use Rattle.object_uploads.proofs.UploadsKept.{whole, uploads_changed}

module _ (uuid : List ℕ) (sectors ancestors : ℕ) (window : WindowState) (old new : QueueState) (number : ℕ)
    (receipt : ReceiptState)
    (are : IsUploads (whole uuid sectors ancestors old window)) (taken : TakesFromQueue number receipt old new) where
  pub uploads_without : IsKnown new → IsUploads (whole uuid sectors ancestors new window)
  uploads_without known =
      uploads_changed uuid sectors ancestors window old new are taken.rest known
      (subst (All (IsNamed uuid)) (sym taken.receipts) (named_without uuid number old.receipts are.known.named))

  taken_name : receipt.name ≡ numbered_name uuid number
  taken_name = name_of uuid number old.receipts receipt are.known.named taken.was

  same_number : receipt.name.number ≡ number
  same_number = ap (λ (name : ObjName). name.number) taken_name

  pub own_name : receipt.name ≡ numbered_name uuid receipt.name.number
  own_name = taken_name ∙ ap (numbered_name uuid) (sym same_number)

  pub removed_next : IsRemovedNext old.removal old.maps.objects (Some number)
      → IsRemovedNext old.removal old.maps.objects (Some receipt.name.number)
  removed_next next = subst (λ n. IsRemovedNext old.removal old.maps.objects (Some n)) (sym same_number) next

  pub takes_removal : TakesRemoval receipt.name.number receipt (whole uuid sectors ancestors old window)
      (whole uuid sectors ancestors new window)
  takes_removal =
      subst (λ n. TakesRemoval n receipt (whole uuid sectors ancestors old window) (whole uuid sectors ancestors new window))
      (sym same_number)
      (record {
        rest = record {
          uuid = refl;
          sectors = refl;
          ancestors = refl;
          window = refl;
          frontier = taken.rest.frontier;
          end = taken.rest.end;
          sealed = taken.rest.sealed;
          inherited = taken.rest.inherited;
          settled = taken.rest.settled;
          log = taken.rest.log;
        };
        was = taken.was;
        receipts = taken.receipts;
        removal = taken.removal;
        objects = taken.objects;
      })
