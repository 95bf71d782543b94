-- Contract: what is read of an object: its header and its rows, or the first reason for which it is none.
use Rattle.std.specs.Prelude.{◌≡◌, ℕ, ◌≤◌, min, Option, Some, None, IfSome, List, length, take}
use Rattle.object_format.specs.declared.expected.Expected.{Expected}
use Rattle.object_format.specs.declared.header.Header.{Header}
use Rattle.object_format.specs.declared.rows.Rows.{Rows}
use Rattle.object_format.specs.Header.{IsObjectHeader}
use Rattle.object_format.specs.Object.{IsObject}
use Rattle.object_format.specs.Tests.{IsObjectRefusedAs}
use Rattle.object_format.specs.declared.reason.BadObject.{BadObject}
use Rattle.lsvd_objstore.specs.Store.{ReceiptState}
use Rattle.object_recovery.specs.declared.reading.ReadObject.{ReadObject}
use Rattle.object_recovery.specs.declared.reading.ReadObject.TheVariants as read
use Rattle.object_recovery.specs.Judging.{IsEndOf}
use Rattle.object_recovery.specs.declared.error.RecoverError.{RecoverError}
use Rattle.object_recovery.specs.declared.error.RecoverError.TheVariants as errors

-- bytes are the first so many of an object, where its bytes are told
abbrev pub AreFirstOf : Option (List ℕ) → (bytes : List ℕ) → Type 0
AreFirstOf None bytes = Unit {0}
AreFirstOf (Some told) bytes = bytes ≡ take (length bytes) told

-- and as many as a header has, or all where there are fewer
pub record HasHead (receipt : ReceiptState) (bytes : List ℕ) : Type 0 where
  pub count : length bytes ≡ min receipt.size 64
  pub first : AreFirstOf receipt.told bytes

-- the first bytes of an object, no more than a header has, begin with this header under the expected number
pub record IsReadHeader (receipt : ReceiptState) (expected : Expected) (bytes : List ℕ) (header : Header) : Type 0 where
  pub few : length bytes ≤ 64
  pub first : AreFirstOf receipt.told bytes
  pub header_is : IsObjectHeader bytes receipt.size expected header

-- Some bytes, with as many as the object has, are an object of the grammar under the expected number, with this header and these
-- rows; where the object's are told, they are.
pub record IsReadAs (receipt : ReceiptState) (expected : Expected) (header : Header) (rows : Rows) : Type 0 where
  pub bytes : List ℕ
  pub is_object : IsObject bytes receipt.size expected header rows
  pub told : IfSome receipt.told (λ told. IsObject told receipt.size expected header rows)

-- an error of a read of an object: where it is that of a bad object, it has the first reason for which the object is none of the
-- grammar under the expected number
abbrev pub IsWhyNotRead : ReceiptState → Expected → RecoverError → Type 0
IsWhyNotRead receipt expected errors.NoCheckpoint = ⊥
IsWhyNotRead receipt expected (errors.BadObject number reason) =
    (number ≡ expected.number) × IfSome receipt.told (λ told. IsObjectRefusedAs told receipt.size expected reason)
IsWhyNotRead receipt expected (errors.MissingObject number) = ⊥
IsWhyNotRead receipt expected (errors.BaseMissing uuid) = ⊥
IsWhyNotRead receipt expected errors.StoreFault = Unit {0}
IsWhyNotRead receipt expected errors.OutOfMemory = Unit {0}

-- where a read of a header tells of a bad object, no header that its bytes begin with may stand under the expected number
abbrev pub HasNoHeader : ReceiptState → Expected → RecoverError → Type 0
HasNoHeader receipt expected errors.NoCheckpoint = ⊥
HasNoHeader receipt expected (errors.BadObject number reason) =
    IfSome receipt.told (λ told. (header : Header) → IsObjectHeader told receipt.size expected header → ⊥)
HasNoHeader receipt expected (errors.MissingObject number) = ⊥
HasNoHeader receipt expected (errors.BaseMissing uuid) = ⊥
HasNoHeader receipt expected errors.StoreFault = Unit {0}
HasNoHeader receipt expected errors.OutOfMemory = Unit {0}

-- where an object's bytes are told, they are refused for this reason; and this is their end where they are of the grammar by
-- themselves
abbrev pub IsToldRefused : ReceiptState → Expected → BadObject → Type 0
IsToldRefused receipt expected reason = IfSome receipt.told (λ told. IsObjectRefusedAs told receipt.size expected reason)

abbrev pub IsToldEnd : ReceiptState → Expected → Option ℕ → Type 0
IsToldEnd receipt expected end = IfSome receipt.told (λ told. IsEndOf told receipt.size expected end)

-- an object was read so under the expected number
abbrev pub IsReadOf : ReceiptState → Expected → ReadObject → Type 0
IsReadOf receipt expected (read.Whole rows end) = (header : Header) × IsReadAs receipt expected header rows
    × (header.end_seq ≡ end)
IsReadOf receipt expected (read.Bad reason end) = IsToldRefused receipt expected reason × IsToldEnd receipt expected end
