-- Whether receipts tell their bytes: what a call leaves says it of those before it.
use Rattle.std.proofs.Common.{◌≡◌, ℕ, zero, suc, ◌+◌, ◌<◌, cond, Bool, true, false, Option, Some, None, List, [], ◌∷◌, ◌++◌}
use Rattle.std.proofs.Common.{take, drop, sym, ◌∙◌, subst, arith}
use Rattle.std.specs.Prelude.{nat_lt, IsSome, IfSome, map, option_to_list}
use Rattle.std.specs.List.{All, AllByRecursion}
use Rattle.std.specs.Option.{is_some}
use Rattle.std.proofs.lemmas.List.Elements.{All-nil, All-cons, All-head, All-tail}
use Rattle.lsvd_objstore.specs.Store.{ReceiptState}
use Rattle.upload_window.specs.Window.{is_started}
use Rattle.object_uploads.specs.State.{SealedState, NumberedReceipt, QueueState, UploadsState}
use Rattle.object_uploads.specs.Queue.{with_at, with_spare, with_receipt, receipt_in, receipts_of}
use Rattle.object_uploads.specs.Order.{IsUploads}
use Rattle.object_uploads.specs.Changes.{index_of, IsSealedNext, with_job, IsPutDone}
use Rattle.object_uploads.specs.Image.{TellAlike}
use Rattle.object_uploads.specs.Invariant.{IsOpenAt}
use Rattle.object_uploads.specs.Receipts.{AllTell, AllInheritedTell, AllSealedTell}
use Rattle.object_uploads.specs.Removal.{with_receipt_of, TakesRemoval, TakesBackRemoval}
use Rattle.object_uploads.specs.declared.rows.SealedRows.{SealedRows}
use Rattle.object_uploads.proofs.OpenLemmas.{started_at}
use Rattle.object_uploads.proofs.TellLemmas.{Tells, all_without_receipt}
use Rattle.refine_objects.specs.Shows.{TellsAsOne}

-- a receipt of an object past the frontier tells its bytes, or does not
abbrev SealedTells : (tells : Bool) → SealedState → Type 0
SealedTells tells sealed = IfSome sealed.receipt (λ (receipt : ReceiptState). is_some receipt.told ≡ tells)

-- ---- the same receipts

pub same_alike : (tells : Bool) (old new : QueueState) → new.receipts ≡ old.receipts → new.inherited ≡ old.inherited
    → new.sealed ≡ old.sealed → TellAlike tells new → TellAlike tells old
same_alike tells old new receipts inherited sealed alike = record {
  known = subst (λ list. AllTell tells list) receipts alike.known;
  inherited = subst (λ list. AllInheritedTell tells list) inherited alike.inherited;
  sealed = subst (λ list. AllSealedTell tells list) sealed alike.sealed;
}

-- ---- an object more, and a put that begins or fails

first_of_more : (P : SealedState → Type 0) (list : List SealedState) (last : SealedState)
    → AllByRecursion P (list ++ last ∷ []) → AllByRecursion P list
first_of_more P [] last all = tt
first_of_more P (first ∷ list) last all = (all.0, first_of_more P list last all.1)

pub sealed_alike : (tells : Bool) (bytes : List ℕ) (rows : SealedRows) (end : ℕ) (old new : UploadsState)
    → IsSealedNext bytes rows end old new → TellAlike tells new.queue → TellAlike tells old.queue
sealed_alike tells bytes rows end old new sealed alike = record {
  known = subst (λ list. AllTell tells list) sealed.settled.receipts alike.known;
  inherited = subst (λ list. AllInheritedTell tells list) sealed.settled.inherited alike.inherited;
  sealed = first_of_more (SealedTells tells) old.queue.sealed _
      (subst (λ list. AllSealedTell tells list) sealed.sealed alike.sealed);
}

without_spare : (tells has_spare : Bool) (index : ℕ) (list : List SealedState)
    → AllSealedTell tells (with_at index (with_spare has_spare) list) → AllSealedTell tells list
without_spare tells has_spare index [] all = tt
without_spare tells has_spare zero (first ∷ list) all = (all.0, all.1)
without_spare tells has_spare (suc index) (first ∷ list) all = (all.0, without_spare tells has_spare index list all.1)

pub job_alike : (tells started : Bool) (number : ℕ) (uploads : UploadsState)
    → TellAlike tells (with_job number started uploads).queue → TellAlike tells uploads.queue
job_alike tells started number uploads alike = record {
  known = alike.known;
  inherited = alike.inherited;
  sealed = without_spare tells _ (index_of uploads number) uploads.queue.sealed alike.sealed;
}

-- ---- a put that is done

module _ (P : NumberedReceipt → Type 0) where
  pub first_part : (first more : List NumberedReceipt) → All P (first ++ more) → All P first
  first_part [] more all = All-nil P
  first_part (one ∷ first) more all =
      All-cons P one first (All-head P one (first ++ more) all) (first_part first more (All-tail P one (first ++ more) all))

  pub later_part : (first more : List NumberedReceipt) → All P (first ++ more) → All P more
  later_part [] more all = all
  later_part (one ∷ first) more all = later_part first more (All-tail P one (first ++ more) all)

-- objects that are settled told what their receipts tell
first_tells : (tells : Bool) (number : ℕ) (own : Option ReceiptState) (rest : List NumberedReceipt)
    → All (Tells tells) (map (λ receipt. record { number = number; receipt = receipt }) (option_to_list own) ++ rest)
    → IfSome own (λ (receipt : ReceiptState). is_some receipt.told ≡ tells) × All (Tells tells) rest
first_tells tells number None rest all = (tt, all)
first_tells tells number (Some receipt) rest all =
    let one : NumberedReceipt = record { number = number; receipt = receipt } in
    (All-head (Tells tells) one rest all, All-tail (Tells tells) one rest all)

settled_tell : (tells : Bool) (number : ℕ) (list : List SealedState) → All (Tells tells) (receipts_of number list)
    → AllSealedTell tells list
settled_tell tells number [] all = tt
settled_tell tells number (first ∷ list) all =
    let parts = first_tells tells (number + 1) first.receipt (receipts_of (number + 1) list) all in
    (parts.0, settled_tell tells (number + 1) list parts.1)

whole_tells : (P : SealedState → Type 0) (count : ℕ) (list : List SealedState) → AllByRecursion P (take count list)
    → AllByRecursion P (drop count list) → AllByRecursion P list
whole_tells P zero list first rest = rest
whole_tells P (suc count) [] first rest = tt
whole_tells P (suc count) (one ∷ list) first rest = (first.0, whole_tells P count list first.1 rest)

-- the one that was acknowledged had none before
before_given : (tells : Bool) (index : ℕ) (receipt : ReceiptState) (list : List SealedState) → IsOpenAt index list false
    → AllSealedTell tells (with_at index (with_receipt receipt) list) → AllSealedTell tells list
before_given tells index receipt [] opened all = tt
before_given tells zero receipt (first ∷ list) opened all =
    (subst (λ own. IfSome own (λ (r : ReceiptState). is_some r.told ≡ tells)) (sym opened.0) tt, all.1)
before_given tells (suc index) receipt (first ∷ list) opened all =
    (all.0, before_given tells index receipt list opened all.1)

pub done_alike : (tells : Bool) (number : ℕ) (receipt : ReceiptState) (old new : UploadsState) → IsUploads old
    → is_started number old.window.objects ≡ true → IsPutDone number receipt old new → TellAlike tells new.queue
    → TellAlike tells old.queue
done_alike tells number receipt old new is started done alike =
    let index = index_of old number in
    let given = with_at index (with_receipt receipt) old.queue.sealed in
    let settled = receipts_of old.queue.frontier (take done.count given) in
    let known : All (Tells tells) (old.queue.receipts ++ settled) =
    subst (λ list. AllTell tells list) done.settled.receipts alike.known in
    let found = started_at number (old.queue.frontier + 1) old.queue.sealed old.window.objects is.opened started in
    record {
      known = first_part (Tells tells) old.queue.receipts settled known;
      inherited = subst (λ list. AllInheritedTell tells list) done.settled.inherited alike.inherited;
      sealed = before_given tells index receipt old.queue.sealed found.1
          (whole_tells (SealedTells tells) done.count given
          (settled_tell tells old.queue.frontier (take done.count given)
          (later_part (Tells tells) old.queue.receipts settled known))
          (subst (λ list. AllSealedTell tells list) done.settled.sealed alike.sealed));
    }

-- ---- removals

-- where there is a receipt, only one of both is told
told_once : (tells other : Bool) (number : ℕ) (list : List NumberedReceipt) → All (Tells tells) list → All (Tells other) list
    → IsSome (receipt_in list number) → tells ≡ other
told_once tells other number [] all others some = absurd cc
told_once tells other number (first ∷ rest) all others some =
    sym (All-head (Tells tells) first rest all) ∙ All-head (Tells other) first rest others

-- one that begins leaves the receipt of the newest checkpoint
pub taken_alike : (tells : Bool) (number : ℕ) (receipt : ReceiptState) (old new : UploadsState) → IsUploads new
    → 0 < new.queue.maps.objects.checkpoint → TakesRemoval number receipt old new → TellsAsOne old.queue
    → TellAlike tells new.queue → TellAlike tells old.queue
taken_alike tells number receipt old new is some takes (other, was) alike =
    let left : All (Tells other) new.queue.receipts =
    subst (λ list. AllTell other list) (sym takes.receipts)
    (all_without_receipt (Tells other) number old.queue.receipts was.known) in
    let newest = new.queue.maps.objects.checkpoint in
    let same = told_once other tells newest new.queue.receipts left alike.known
    (is.known.follow newest some (omega arith) is.known.checkpoint) in
    subst (λ told. TellAlike told old.queue) same was

with_again : (P : NumberedReceipt → Type 0) (test : Bool) (own first : NumberedReceipt) (rest kept : List NumberedReceipt)
    → All P (cond test (own ∷ first ∷ rest) (first ∷ kept)) → (All P kept → All P rest) → All P (first ∷ rest)
with_again P true own first rest kept all before = All-tail P own (first ∷ rest) all
with_again P false own first rest kept all before =
    All-cons P first rest (All-head P first kept all) (before (All-tail P first kept all))

before_with : (P : NumberedReceipt → Type 0) (number : ℕ) (receipt : ReceiptState) (list : List NumberedReceipt)
    → All P (with_receipt_of number receipt list) → All P list
before_with P number receipt [] all = All-nil P
before_with P number receipt (first ∷ rest) all =
    with_again P (nat_lt number first.number) (record { number = number; receipt = receipt }) first rest
    (with_receipt_of number receipt rest) all (before_with P number receipt rest)

-- one that failed put a receipt back
pub back_alike : (tells : Bool) (number : ℕ) (receipt : ReceiptState) (old new : UploadsState)
    → TakesBackRemoval number receipt old new → TellAlike tells new.queue → TellAlike tells old.queue
back_alike tells number receipt old new back alike = record {
  known = before_with (Tells tells) number receipt old.queue.receipts
      (subst (λ list. AllTell tells list) back.receipts alike.known);
  inherited = subst (λ list. AllInheritedTell tells list) back.rest.inherited alike.inherited;
  sealed = subst (λ list. AllSealedTell tells list) back.rest.sealed alike.sealed;
}
