-- What is read in the first bytes of an object is so of the whole.
use Rattle.std.proofs.Common.{◌≡◌, ℕ, ◌+◌, ◌-◌, ◌*◌, ◌<◌, ◌≤◌, inl, inr, min, Option, Some, None, List, length, take, drop, refl}
use Rattle.std.proofs.Common.{sym, ◌∙◌, ap, subst, arith}
use Rattle.std.specs.Prelude.{IsTrue, IfSome}
use Rattle.std.specs.Int.{w64}
use Rattle.std.specs.Option.{IsSome, IsSomeAnd}
use Rattle.std.proofs.lemmas.Bool.{cases_lt}
use Rattle.std.proofs.lemmas.List.{take-take, drop-take, length-take, take_all}
use Rattle.lsvd_bytes.specs.Places.{bytes_at, number_at}
use Rattle.object_format.specs.declared.header.Header.{Header}
use Rattle.object_format.specs.declared.expected.Expected.{Expected}
use Rattle.object_format.specs.declared.reason.BadObject as reason_type
use Rattle.object_format.specs.declared.reason.BadObject.TheVariants as reasons
use Rattle.object_format.specs.declared.kind.Kind.TheVariants as kinds
use Rattle.object_format.specs.declared.rows.Rows.{Rows}
use Rattle.object_format.specs.declared.rows.Rows.TheVariants as rows_of
use Rattle.object_format.specs.declared.rows_reading.RowsReadError.TheVariants.{Bad}
use Rattle.object_format.specs.Layout.{front_sectors, rows_end, rows_length, padding}
use Rattle.object_format.specs.Header.{header_in, has_due_seqs, is_header_within_limits, IsObjectHeader}
use Rattle.object_format.specs.Rows.{AreObjectRows}
use Rattle.object_format.specs.Object.{IsObject}
use Rattle.object_format.specs.Tests.{code_of, is_length, PassesObjectTest, IsObjectRefusedAs, IsObjectReason}
use Rattle.object_format.proofs.HeaderLemmas.{length-header_bytes}
use Rattle.object_format.proofs.ObjectLemmas.{rows_end_first, refused_as_rows}
use Rattle.object_format.proofs.TestLemmas.{header_passes}
use Rattle.lsvd_objstore.specs.Store.{ReceiptState}
use Rattle.object_recovery.specs.declared.error.RecoverError.TheVariants.{BadObject}
use Rattle.object_recovery.specs.Read.{AreFirstOf, IsReadHeader, IsReadAs, IsWhyNotRead, HasNoHeader}

-- ---- the first bytes

-- a part of the first bytes is a part of all
same_part : (n at count : ℕ) (all : List ℕ) → at + count ≤ n → bytes_at at count (take n all) ≡ bytes_at at count all
same_part n at count all inside =
    let more : n ≡ at + (n - at) = omega arith in
    let enough : count ≤ n - at = omega arith in
    ap (λ m. take count (drop at (take m all))) more
    ∙ ap (take count) (drop-take at (n - at) all)
    ∙ take-take count (n - at) (drop at all) enough

module _ (all bytes : List ℕ) (first : AreFirstOf (Some all) bytes) where
  part_of_all : (at count : ℕ) → at + count ≤ length bytes → bytes_at at count bytes ≡ bytes_at at count all
  part_of_all at count inside = ap (bytes_at at count) first ∙ same_part (length bytes) at count all inside

  head_of_all : 64 ≤ length bytes → take 64 bytes ≡ take 64 all
  head_of_all long = ap (take 64) first ∙ take-take 64 (length bytes) all long

  no_longer : length bytes ≤ length all
  no_longer = omega (arith, ap length first, length-take (length bytes) all)

-- ---- headers and objects

-- bytes that begin alike have one header
pub moved_header : (bytes others : List ℕ) (size : ℕ) (expected : Expected) (header : Header) → take 64 bytes ≡ take 64 others
    → IsObjectHeader bytes size expected header → IsObjectHeader others size expected header
moved_header bytes others size expected header same is = record {
  head = sym same ∙ is.head;
  has_size = is.has_size;
  uuid = is.uuid;
  number = is.number;
  seqs = is.seqs;
  limits = is.limits;
  widths = is.widths;
}

-- a front has the header
front_long : (header : Header) → 64 ≤ 512 * front_sectors header
front_long header = omega (arith, rows_end_first header)

module _ (all bytes : List ℕ) (first : AreFirstOf (Some all) bytes) (size : ℕ) (expected : Expected) (header : Header)
    (rows : Rows)
    (long : 512 * front_sectors header ≤ length bytes) where
  rows_in_all : bytes_at 64 (rows_length header.kind header.rows) bytes ≡ bytes_at 64 (rows_length header.kind header.rows) all
  rows_in_all = part_of_all all bytes first 64 (rows_length header.kind header.rows) (omega (arith, rows_end_first header))

  zeros_in_all : bytes_at (rows_end header) (padding header) bytes ≡ bytes_at (rows_end header) (padding header) all
  zeros_in_all = part_of_all all bytes first (rows_end header) (padding header) (omega (arith, rows_end_first header))

  head_in_all : take 64 bytes ≡ take 64 all
  head_in_all = head_of_all all bytes first (omega (arith, front_long header))

  -- the front of an object is read as the whole
  whole_object : IsObject bytes size expected header rows → IsObject all size expected header rows
  whole_object is = record {
    head = moved_header bytes all size expected header head_in_all is.head;
    whole_front = omega (arith, no_longer all bytes first);
    rows_are = is.rows_are;
    row_bytes = sym rows_in_all ∙ is.row_bytes;
    zeros = sym zeros_in_all ∙ is.zeros;
  }

  front_of_object : IsObject all size expected header rows → IsObject bytes size expected header rows
  front_of_object is = record {
    head = moved_header all bytes size expected header (sym head_in_all) is.head;
    whole_front = long;
    rows_are = is.rows_are;
    row_bytes = rows_in_all ∙ is.row_bytes;
    zeros = zeros_in_all ∙ is.zeros;
  }

-- ---- refusals

-- the tests of a header ask for the first bytes alone
same_test : (bytes others : List ℕ) (size : ℕ) (expected : Expected) (reason : reason_type.BadObject) → code_of reason < 8
    → take 64 bytes ≡ take 64 others
    → PassesObjectTest bytes size expected reason → PassesObjectTest others size expected reason
same_test bytes others size expected reasons.Length low same is = subst (λ head. IsTrue (is_length (header_in head) size)) same is
same_test bytes others size expected reasons.Magic low same is = sym (ap (take 8) same) ∙ is
same_test bytes others size expected reasons.Kind low same is = subst (λ head. IsSome (header_in head)) same is
same_test bytes others size expected reasons.Uuid low same is = sym (ap (bytes_at 12 16) same) ∙ is
same_test bytes others size expected reasons.Number low same is = sym (ap (number_at w64 28) same) ∙ is
same_test bytes others size expected reasons.Seqs low same is =
    subst (λ head. IsSomeAnd (header_in head) (λ header. IsTrue (has_due_seqs expected header))) same is
same_test bytes others size expected reasons.Counts low same is =
    subst (λ head. IsSomeAnd (header_in head) (λ header. IsTrue (is_header_within_limits expected header))) same is
same_test bytes others size expected reasons.Rows low same is = absurd (omega (arith, low))

-- the last test is that of the rows
last_test : (reason : reason_type.BadObject) → code_of reason ≤ 8
last_test reasons.Length = omega arith
last_test reasons.Magic = omega arith
last_test reasons.Kind = omega arith
last_test reasons.Uuid = omega arith
last_test reasons.Number = omega arith
last_test reasons.Seqs = omega arith
last_test reasons.Counts = omega arith
last_test reasons.Rows = omega arith

is_last : (reason : reason_type.BadObject) → 8 ≤ code_of reason → reason ≡ reasons.Rows
is_last reasons.Length from = absurd (omega (arith, from))
is_last reasons.Magic from = absurd (omega (arith, from))
is_last reasons.Kind from = absurd (omega (arith, from))
is_last reasons.Uuid from = absurd (omega (arith, from))
is_last reasons.Number from = absurd (omega (arith, from))
is_last reasons.Seqs from = absurd (omega (arith, from))
is_last reasons.Counts from = absurd (omega (arith, from))
is_last reasons.Rows from = refl

-- what begins with no header is refused for its first bytes
refused_head : (bytes others : List ℕ) (size : ℕ) (expected : Expected) (reason : reason_type.BadObject)
    → take 64 bytes ≡ take 64 others
    → ((header : Header) → IsObjectHeader bytes size expected header → ⊥)
    → IsObjectRefusedAs bytes size expected reason → IsObjectRefusedAs others size expected reason
refused_head bytes others size expected reason same none refused = record {
  earlier = λ other below. same_test bytes others size expected other (omega (arith, below, last_test reason)) same
      (refused.earlier other below);
  failed = λ passes.
      elim (cases_lt (code_of reason) 8) [
        | inl low ↦ refused.failed (same_test others bytes size expected reason low (sym same) passes)
        | inr from ↦
            let is : PassesObjectTest others size expected reasons.Rows =
            subst (PassesObjectTest others size expected) (is_last reason from) passes in
            none is.0 (moved_header others bytes size expected is.0 (sym same) is.2.head)
      ];
}

-- an object is refused for its rows where its front is
refused_front : (all bytes : List ℕ) (size : ℕ) (expected : Expected) (header : Header) (reason : reason_type.BadObject)
    → AreFirstOf (Some all) bytes
    → IsObjectHeader bytes size expected header → 512 * front_sectors header ≤ length bytes → reason ≡ reasons.Rows
    → IsObjectRefusedAs bytes size expected reason → IsObjectRefusedAs all size expected reason
refused_front all bytes size expected header reason first is long rows refused =
    let head = moved_header bytes all size expected header (head_of_all all bytes first (omega (arith, front_long header))) is in
    subst (IsObjectRefusedAs all size expected) (sym rows)
    (refused_as_rows all size expected header head
    (λ others object. refused.failed (subst (PassesObjectTest bytes size expected) (sym rows)
    (header, others, front_of_object all bytes first size expected header others long object))))

-- what is refused is no object
pub refused_is_none : (bytes : List ℕ) (size : ℕ) (expected : Expected) (reason : reason_type.BadObject)
    → IsObjectRefusedAs bytes size expected reason
    → (header : Header) (rows : Rows) → IsObject bytes size expected header rows → ⊥
refused_is_none bytes size expected reason refused header rows is =
    elim (cases_lt (code_of reason) 8) [
      | inl low ↦ refused.failed (header_passes bytes size expected header reason low is.head)
      | inr from ↦ refused.failed (subst (PassesObjectTest bytes size expected) (sym (is_last reason from)) (header, rows, is))
    ]

-- ---- what the reads say of the object

-- the bytes of a header are 64
header_long : (bytes : List ℕ) (size : ℕ) (expected : Expected) (header : Header) → IsObjectHeader bytes size expected header
    → 64 ≤ length bytes
header_long bytes size expected header is =
    omega (arith, ap length is.head, length-header_bytes header is.widths.uuid, length-take 64 bytes)

-- bytes that go on have the header
pub longer_header : (bytes others : List ℕ) (size : ℕ) (expected : Expected) (header : Header) → length bytes ≤ 64
    → take (length bytes) others ≡ bytes
    → IsObjectHeader bytes size expected header → IsObjectHeader others size expected header
longer_header bytes others size expected header few kept is =
    let exact : length bytes ≡ 64 = omega (arith, header_long bytes size expected header is) in
    let same : take 64 bytes ≡ take 64 others = take_all 64 bytes (omega arith) ∙ sym kept ∙ ap (λ n. take n others) exact in
    moved_header bytes others size expected header same is

-- the first bytes, 64 or all where there are fewer, begin as the whole does
pub same_head : (all bytes : List ℕ) (size : ℕ) → length bytes ≡ min size 64 → AreFirstOf (Some all) bytes → size ≡ length all
    → take 64 bytes ≡ take 64 all
same_head all bytes size count first whole =
    elim (cases_lt (length bytes) 64) [
      | inl short ↦ ap (take 64) (first ∙ take_all (length bytes) all (omega arith))
      | inr long ↦ head_of_all all bytes first long
    ]

-- they are refused as the whole is
pub why_no_header : (receipt : ReceiptState) (expected : Expected) (bytes : List ℕ) (reason : reason_type.BadObject)
    → AreFirstOf receipt.told bytes
    → length bytes ≡ min receipt.size 64 → IfSome receipt.told (λ told. receipt.size ≡ length told)
    → ((header : Header) → IsObjectHeader bytes receipt.size expected header → ⊥)
    → IsObjectRefusedAs bytes receipt.size expected reason → IsWhyNotRead receipt expected (BadObject expected.number reason)
why_no_header receipt expected bytes reason first count whole none refused = (refl, of_told receipt.told first whole)
  where
    of_told : (told : Option (List ℕ)) → AreFirstOf told bytes → IfSome told (λ all. receipt.size ≡ length all)
        → IfSome told (λ all. IsObjectRefusedAs all receipt.size expected reason)
    of_told None first whole = tt
    of_told (Some all) first whole = refused_head bytes all receipt.size expected reason
        (same_head all bytes receipt.size count first whole) none refused

-- and have no header that the whole has
pub no_header : (receipt : ReceiptState) (expected : Expected) (bytes : List ℕ) (reason : reason_type.BadObject)
    → AreFirstOf receipt.told bytes
    → length bytes ≡ min receipt.size 64 → IfSome receipt.told (λ told. receipt.size ≡ length told)
    → ((header : Header) → IsObjectHeader bytes receipt.size expected header → ⊥)
    → HasNoHeader receipt expected (BadObject expected.number reason)
no_header receipt expected bytes reason first count whole none = of_told receipt.told first whole
  where
    of_told : (told : Option (List ℕ)) → AreFirstOf told bytes → IfSome told (λ all. receipt.size ≡ length all)
        → IfSome told (λ all. (header : Header) → IsObjectHeader all receipt.size expected header → ⊥)
    of_told None first whole = tt
    of_told (Some all) first whole = λ header is.
        none header
        (moved_header all bytes receipt.size expected header (sym (same_head all bytes receipt.size count first whole)) is)

-- the header of the first bytes is that of the whole
pub header_of_all : (all bytes : List ℕ) → AreFirstOf (Some all) bytes → (size : ℕ) (expected : Expected) (header : Header)
    → IsObjectHeader bytes size expected header → IsObjectHeader all size expected header
header_of_all all bytes first size expected header is =
    moved_header bytes all size expected header (head_of_all all bytes first (header_long bytes size expected header is)) is

-- a checkpoint has no rows
checkpoint_has_no_rows : (volume : ℕ) (header : Header) (rows : Rows) → header.kind ≡ kinds.Checkpoint
    → AreObjectRows volume header rows
    → header.rows ≡ 0
checkpoint_has_no_rows volume header (rows_of.Data rows) kind are = let other = are.kind in cc
checkpoint_has_no_rows volume header (rows_of.Copy rows) kind are = let other = are.kind in cc
checkpoint_has_no_rows volume header rows_of.Checkpoint kind are = sym are.count

-- one with rows is refused for them
pub why_no_checkpoint : (receipt : ReceiptState) (expected : Expected) (bytes : List ℕ) (header : Header)
    → IsReadHeader receipt expected bytes header
    → header.kind ≡ kinds.Checkpoint → (header.rows ≡ 0 → ⊥)
    → IsWhyNotRead receipt expected (BadObject expected.number reasons.Rows)
why_no_checkpoint receipt expected bytes header is kind some = (refl, of_told receipt.told is.first)
  where
    of_told : (told : Option (List ℕ)) → AreFirstOf told bytes
        → IfSome told (λ all. IsObjectRefusedAs all receipt.size expected reasons.Rows)
    of_told None first = tt
    of_told (Some all) first =
        let same = head_of_all all bytes first (header_long bytes receipt.size expected header is.header_is) in
        refused_as_rows all receipt.size expected header (moved_header bytes all receipt.size expected header same is.header_is)
        (λ rows object. some (checkpoint_has_no_rows expected.sectors header rows kind object.rows_are))

-- what is refused for its rows in the front is so as a whole
pub why_no_rows : (receipt : ReceiptState) (expected : Expected) (bytes : List ℕ) (header : Header)
    (reason : reason_type.BadObject)
    → AreFirstOf receipt.told bytes
    → IsObjectHeader bytes receipt.size expected header → 512 * front_sectors header ≤ length bytes
    → IsObjectReason bytes receipt.size expected (Bad reason) → IsWhyNotRead receipt expected (BadObject expected.number reason)
why_no_rows receipt expected bytes header reason first is long refused = (refl, of_told receipt.told first)
  where
    of_told : (told : Option (List ℕ)) → AreFirstOf told bytes
        → IfSome told (λ all. IsObjectRefusedAs all receipt.size expected reason)
    of_told None first = tt
    of_told (Some all) first = refused_front all bytes receipt.size expected header reason first is long refused.0 refused.1

-- what is an object in the front is so as a whole
pub read_as : (receipt : ReceiptState) (expected : Expected) (bytes : List ℕ) (header : Header) (rows : Rows)
    → AreFirstOf receipt.told bytes
    → IsObject bytes receipt.size expected header rows → IsReadAs receipt expected header rows
read_as receipt expected bytes header rows first is = record { bytes = bytes; is_object = is; told = of_told receipt.told first }
  where
    of_told : (told : Option (List ℕ)) → AreFirstOf told bytes
        → IfSome told (λ all. IsObject all receipt.size expected header rows)
    of_told None first = tt
    of_told (Some all) first = whole_object all bytes first receipt.size expected header rows is.whole_front is
