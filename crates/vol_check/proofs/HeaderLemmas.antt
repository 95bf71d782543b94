-- Which objects have the header of a checkpoint, by the first bytes that were read of them.
use Rattle.std.proofs.Common.{◌≡◌, ℕ, Bool, false, Option, Some, None, List, length, ◌∙◌, ap, subst}
use Rattle.std.specs.Prelude.{◌↔◌, IsTrue, IfSome}
use Rattle.std.specs.Option.{IsSome}
use Rattle.std.proofs.lemmas.Bool.{false≢true}
use Rattle.lsvd_objstore.specs.Objects.{Objects}
use Rattle.lsvd_objstore.specs.Store.{ReceiptState, Finds}
use Rattle.object_format.specs.declared.expected.Expected.{Expected}
use Rattle.object_format.specs.declared.header.Header.{Header}
use Rattle.object_format.specs.declared.kind.Kind.TheVariants as kinds
use Rattle.object_format.specs.declared.reason.BadObject.{BadObject}
use Rattle.object_format.specs.Header.{IsObjectHeader}
use Rattle.object_format.proofs.ObjectLemmas.{same_header}
use Rattle.object_stream.specs.Replay.{object_name}
use Rattle.stopped_volume.specs.Expected.{expected_alone}
use Rattle.object_recovery.specs.declared.error.RecoverError.TheVariants as errors
use Rattle.object_recovery.specs.Read.{AreFirstOf, IsReadHeader, HasNoHeader}
use Rattle.object_recovery.proofs.FindLemmas.{of_told}
use Rattle.object_recovery.proofs.ReadLemmas.{header_of_all}
use Rattle.vol_check.specs.Report.{HasCheckpointHeader}

-- a test says whether the object of a number has the header of a checkpoint
abbrev pub SaysHeader : (is : Bool) → Expected → (number : ℕ) → Objects → Type 0
SaysHeader is volume number objects = IsTrue is ↔ HasCheckpointHeader volume objects number

-- it has none where its first bytes are no header
none_begins : (volume : Expected) (number : ℕ) (objects : Objects) (receipt : ReceiptState) (reason : BadObject) (other : ℕ)
    → Finds (object_name volume number) (Some objects) (Some receipt) → IsSome receipt.told
    → HasNoHeader receipt (expected_alone volume number) (errors.BadObject other reason) → SaysHeader false volume number objects
none_begins volume number objects receipt reason other (bytes, present, receipt_of) some none = (
  λ is. absurd (false≢true is),
  λ has.
      let expected = expected_alone volume number in
      let no_header = of_told (λ b size. (header : Header) → IsObjectHeader b size expected header → ⊥)
      (object_name volume number) bytes receipt receipt_of some none in
      let same : has.bytes ≡ bytes = let there = has.present in cc in
      absurd (no_header has.header (subst (λ b. IsObjectHeader b (length b) expected has.header) same has.is_header)),
)

pub none_read : (volume : Expected) (number : ℕ) (told : Option Objects) (receipt : ReceiptState) (reason : BadObject)
    (other : ℕ) → Finds (object_name volume number) told (Some receipt) → IsSome receipt.told
    → HasNoHeader receipt (expected_alone volume number) (errors.BadObject other reason)
    → IfSome told (SaysHeader false volume number)
none_read volume number None receipt reason other finds some none = tt
none_read volume number (Some objects) receipt reason other finds some none =
    none_begins volume number objects receipt reason other finds some none

-- else the header that they are says it
module _ (volume : Expected) (number : ℕ) (objects : Objects) (receipt : ReceiptState) (first : List ℕ) (header : Header)
    (finds : Finds (object_name volume number) (Some objects) (Some receipt)) (some : IsSome receipt.told)
    (read : IsReadHeader receipt (expected_alone volume number) first header) where
  abbrev expected : Expected
  expected = expected_alone volume number

  told_header : (told : Option (List ℕ)) → AreFirstOf told first
      → IfSome told (λ b. IsObjectHeader b receipt.size expected header)
  told_header None are = tt
  told_header (Some all) are = header_of_all all first are receipt.size expected header read.header_is

  of_all : IsObjectHeader finds.0 (length finds.0) expected header
  of_all =
      of_told (λ b size. IsObjectHeader b size expected header) (object_name volume number) finds.0 receipt finds.2 some
      (told_header receipt.told read.first)

  is_one : header.kind ≡ kinds.Checkpoint → HasCheckpointHeader volume objects number
  is_one kind = record { bytes = finds.0; present = finds.1; header = header; is_header = of_all; kind = kind }

  has_kind : HasCheckpointHeader volume objects number → header.kind ≡ kinds.Checkpoint
  has_kind has =
      let same : has.bytes ≡ finds.0 = let there = has.present in let here = finds.1 in cc in
      let one = same_header finds.0 (length finds.0) expected header has.header of_all
      (subst (λ b. IsObjectHeader b (length b) expected has.header) same has.is_header) in
      ap (λ (h : Header). h.kind) one ∙ has.kind

  by_kind : (is : Bool) → IsTrue is ↔ (header.kind ≡ kinds.Checkpoint) → SaysHeader is volume number objects
  by_kind is same = (λ so. is_one (same.0 so), λ has. same.1 (has_kind has))

pub read_kind : (volume : Expected) (number : ℕ) (told : Option Objects) (receipt : ReceiptState) (first : List ℕ)
    (header : Header) (is : Bool) → IsTrue is ↔ (header.kind ≡ kinds.Checkpoint)
    → Finds (object_name volume number) told (Some receipt)
    → IsSome receipt.told
    → IsReadHeader receipt (expected_alone volume number) first header
    → IfSome told (SaysHeader is volume number)
read_kind volume number None receipt first header is same finds some read = tt
read_kind volume number (Some objects) receipt first header is same finds some read =
    by_kind volume number objects receipt first header finds some read is same
