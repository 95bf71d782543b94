-- The tests of a header, one by one and together.
use Rattle.std.proofs.Common.{◌≡◌, ℕ, ◌<◌, ◌≤◌, ◌==◌, IsTrue, Option, Some, None, List, length, take, sym, ◌∙◌, ap, subst, arith}
use Rattle.std.proofs.Common.{rules}
use Rattle.std.proofs.lemmas.Bool.Decides.{nat_tests}
use Rattle.std.proofs.lemmas.List.{length-take-le}
use Rattle.std.specs.Int.{w64}
use Rattle.std.specs.Option.{IsSome, IsSomeAnd}
use Rattle.lsvd_bytes.specs.Places.{bytes_at, number_at}
use Rattle.object_format.specs.declared.header.Header.{Header}
use Rattle.object_format.specs.declared.expected.Expected.{Expected}
use Rattle.object_format.specs.declared.reason.BadObject.{BadObject}
use Rattle.object_format.specs.declared.reason.BadObject.TheVariants as reasons
use Rattle.object_format.specs.Layout.{length_of}
use Rattle.object_format.specs.Header.{header_in, has_due_seqs, is_header_within_limits, IsObjectHeader}
use Rattle.object_format.specs.Tests.{code_of, is_length, PassesObjectTest, IsObjectRefusedAs}
use Rattle.object_format.proofs.PartLemmas.{IsBytes, bytes_of_part}
use Rattle.object_format.proofs.HeaderLemmas.{magic-header, uuid-header, number-header, header_in-header_bytes}
use Rattle.object_format.proofs.HeaderLemmas.{bytes_of_header_in, widths_of_header_in, uuid_of_header_in, number_of_header_in}

-- ---- a header passes each test

pub header_in-IsHeader : (bytes : List ℕ) (size : ℕ) (expected : Expected) (header : Header)
    → IsObjectHeader bytes size expected header
    → header_in (take 64 bytes) ≡ Some header
header_in-IsHeader bytes size expected header is = ap header_in is.head ∙ header_in-header_bytes header is.widths

same_length : (a b : ℕ) → a ≡ b → IsTrue (a == b)
same_length a b is = grind (arith, nat_tests)

pub header_passes : (bytes : List ℕ) (size : ℕ) (expected : Expected) (header : Header) (reason : BadObject)
    → code_of reason < 8 → IsObjectHeader bytes size expected header → PassesObjectTest bytes size expected reason
header_passes bytes size expected header reasons.Length h is =
    let P : Option Header → Type 0 = λ o. IsTrue (is_length o size) in
    subst P (sym (header_in-IsHeader bytes size expected header is)) (same_length _ _ is.has_size)
header_passes bytes size expected header reasons.Magic h is = ap (take 8) is.head ∙ magic-header header
header_passes bytes size expected header reasons.Kind h is =
    let P : Option Header → Type 0 = λ o. IsSome o in
    subst P (sym (header_in-IsHeader bytes size expected header is)) (search rules)
header_passes bytes size expected header reasons.Uuid h is =
    ap (bytes_at 12 16) is.head ∙ uuid-header header is.widths.uuid ∙ is.uuid
header_passes bytes size expected header reasons.Number h is =
    ap (number_at w64 28) is.head ∙ number-header header is.widths ∙ is.number
header_passes bytes size expected header reasons.Seqs h is =
    let P : Option Header → Type 0 = λ o. IsSomeAnd o (λ x. IsTrue (has_due_seqs expected x)) in
    subst P (sym (header_in-IsHeader bytes size expected header is)) is.seqs
header_passes bytes size expected header reasons.Counts h is =
    let P : Option Header → Type 0 = λ o. IsSomeAnd o (λ x. IsTrue (is_header_within_limits expected x)) in
    subst P (sym (header_in-IsHeader bytes size expected header is)) is.limits
header_passes bytes size expected header reasons.Rows h is = absurd (omega (arith, h))

-- bytes that fail a test do not begin with a header
pub no_header : (bytes : List ℕ) (size : ℕ) (expected : Expected) (reason : BadObject) → code_of reason < 8
    → (PassesObjectTest bytes size expected reason → ⊥) → (header : Header) → IsObjectHeader bytes size expected header → ⊥
no_header bytes size expected reason below failed header is = failed (header_passes bytes size expected header reason below is)

-- ---- what the tests have found

pub record Found (bytes : List ℕ) (size : ℕ) (expected : Expected) (header : Header) : Type 0 where
  pub long : PassesObjectTest bytes size expected reasons.Length
  pub magic : PassesObjectTest bytes size expected reasons.Magic
  pub header_is : header_in (take 64 bytes) ≡ Some header

kind_passes : (bytes : List ℕ) (size : ℕ) (expected : Expected) (header : Header) → header_in (take 64 bytes) ≡ Some header
    → PassesObjectTest bytes size expected reasons.Kind
kind_passes bytes size expected header is = let P : Option Header → Type 0 = λ o. IsSome o in subst P (sym is) (search rules)

earlier : (bytes : List ℕ) (size : ℕ) (expected : Expected) (header : Header) (n : ℕ) → Found bytes size expected header → n ≤ 7
    → (4 < n → PassesObjectTest bytes size expected reasons.Uuid) → (5 < n → PassesObjectTest bytes size expected reasons.Number)
    → (6 < n → PassesObjectTest bytes size expected reasons.Seqs)
    → (other : BadObject) → code_of other < n → PassesObjectTest bytes size expected other
earlier bytes size expected header n is below uuid number seqs reasons.Length h = is.long
earlier bytes size expected header n is below uuid number seqs reasons.Magic h = is.magic
earlier bytes size expected header n is below uuid number seqs reasons.Kind h =
    kind_passes bytes size expected header is.header_is
earlier bytes size expected header n is below uuid number seqs reasons.Uuid h = uuid h
earlier bytes size expected header n is below uuid number seqs reasons.Number h = number h
earlier bytes size expected header n is below uuid number seqs reasons.Seqs h = seqs h
earlier bytes size expected header n is below uuid number seqs reasons.Counts h = absurd (omega (arith, h, below))
earlier bytes size expected header n is below uuid number seqs reasons.Rows h = absurd (omega (arith, h, below))

-- each reason from the kind on
pub fails_kind : (bytes : List ℕ) (size : ℕ) (expected : Expected) → header_in (take 64 bytes) ≡ None
    → PassesObjectTest bytes size expected reasons.Kind → ⊥
fails_kind bytes size expected is passes =
    let P : Option Header → Type 0 = λ o. IsSome o in
    no_some (subst P is passes)
  where
    no_some : IsSome {T = Header} None → ⊥
    no_some h = cc

pub fails_uuid : (bytes : List ℕ) (size : ℕ) (expected : Expected) (header : Header) → header_in (take 64 bytes) ≡ Some header
    → (header.uuid ≡ expected.uuid → ⊥) → PassesObjectTest bytes size expected reasons.Uuid → ⊥
fails_uuid bytes size expected header is failed passes = failed (sym (uuid_of_header_in (take 64 bytes) header is) ∙ passes)

pub fails_number : (bytes : List ℕ) (size : ℕ) (expected : Expected) (header : Header) → header_in (take 64 bytes) ≡ Some header
    → (header.number ≡ expected.number → ⊥) → PassesObjectTest bytes size expected reasons.Number → ⊥
fails_number bytes size expected header is failed passes = failed (sym (number_of_header_in (take 64 bytes) header is) ∙ passes)

pub fails_seqs : (bytes : List ℕ) (size : ℕ) (expected : Expected) (header : Header) → header_in (take 64 bytes) ≡ Some header
    → (IsTrue (has_due_seqs expected header) → ⊥) → PassesObjectTest bytes size expected reasons.Seqs → ⊥
fails_seqs bytes size expected header is failed passes =
    let P : Option Header → Type 0 = λ o. IsSomeAnd o (λ x. IsTrue (has_due_seqs expected x)) in
    failed (subst P is passes)

pub fails_counts : (bytes : List ℕ) (size : ℕ) (expected : Expected) (header : Header) → header_in (take 64 bytes) ≡ Some header
    → (IsTrue (is_header_within_limits expected header) → ⊥) → PassesObjectTest bytes size expected reasons.Counts → ⊥
fails_counts bytes size expected header is failed passes =
    let P : Option Header → Type 0 = λ o. IsSomeAnd o (λ x. IsTrue (is_header_within_limits expected x)) in
    failed (subst P is passes)

pub refused_as_uuid : (bytes : List ℕ) (size : ℕ) (expected : Expected) (header : Header) → Found bytes size expected header
    → (header.uuid ≡ expected.uuid → ⊥) → IsObjectRefusedAs bytes size expected reasons.Uuid
refused_as_uuid bytes size expected header is failed = record {
  earlier = earlier bytes size expected header 4 is (omega arith) (λ h. absurd (omega (arith, h)))
      (λ h. absurd (omega (arith, h))) (λ h. absurd (omega (arith, h)));
  failed = fails_uuid bytes size expected header is.header_is failed;
}

uuid_passes : (bytes : List ℕ) (size : ℕ) (expected : Expected) (header : Header) → Found bytes size expected header
    → header.uuid ≡ expected.uuid → PassesObjectTest bytes size expected reasons.Uuid
uuid_passes bytes size expected header is uuid = uuid_of_header_in (take 64 bytes) header is.header_is ∙ uuid

number_passes : (bytes : List ℕ) (size : ℕ) (expected : Expected) (header : Header) → Found bytes size expected header
    → header.number ≡ expected.number → PassesObjectTest bytes size expected reasons.Number
number_passes bytes size expected header is number = number_of_header_in (take 64 bytes) header is.header_is ∙ number

seqs_pass : (bytes : List ℕ) (size : ℕ) (expected : Expected) (header : Header) → Found bytes size expected header
    → IsTrue (has_due_seqs expected header) → PassesObjectTest bytes size expected reasons.Seqs
seqs_pass bytes size expected header is seqs =
    let P : Option Header → Type 0 = λ o. IsSomeAnd o (λ x. IsTrue (has_due_seqs expected x)) in
    subst P (sym is.header_is) seqs

pub refused_as_number : (bytes : List ℕ) (size : ℕ) (expected : Expected) (header : Header) → Found bytes size expected header
    → header.uuid ≡ expected.uuid → (header.number ≡ expected.number → ⊥) → IsObjectRefusedAs bytes size expected reasons.Number
refused_as_number bytes size expected header is uuid failed = record {
  earlier = earlier bytes size expected header 5 is (omega arith) (λ _. uuid_passes bytes size expected header is uuid)
      (λ h. absurd (omega (arith, h))) (λ h. absurd (omega (arith, h)));
  failed = fails_number bytes size expected header is.header_is failed;
}

pub refused_as_seqs : (bytes : List ℕ) (size : ℕ) (expected : Expected) (header : Header) → Found bytes size expected header
    → header.uuid ≡ expected.uuid → header.number ≡ expected.number
    → (IsTrue (has_due_seqs expected header) → ⊥) → IsObjectRefusedAs bytes size expected reasons.Seqs
refused_as_seqs bytes size expected header is uuid number failed = record {
  earlier = earlier bytes size expected header 6 is (omega arith) (λ _. uuid_passes bytes size expected header is uuid)
      (λ _. number_passes bytes size expected header is number) (λ h. absurd (omega (arith, h)));
  failed = fails_seqs bytes size expected header is.header_is failed;
}

pub refused_as_counts : (bytes : List ℕ) (size : ℕ) (expected : Expected) (header : Header) → Found bytes size expected header
    → header.uuid ≡ expected.uuid → header.number ≡ expected.number → IsTrue (has_due_seqs expected header)
    → (IsTrue (is_header_within_limits expected header) → ⊥) → IsObjectRefusedAs bytes size expected reasons.Counts
refused_as_counts bytes size expected header is uuid number seqs failed = record {
  earlier = earlier bytes size expected header 7 is (omega arith) (λ _. uuid_passes bytes size expected header is uuid)
      (λ _. number_passes bytes size expected header is number) (λ _. seqs_pass bytes size expected header is seqs);
  failed = fails_counts bytes size expected header is.header_is failed;
}

-- ---- bytes that pass each test begin with a header

is_size : (size : ℕ) (header : Header) → IsTrue (is_length (Some header) size) → size ≡ length_of header
is_size size header is = grind (arith, nat_tests)

pub header_if_passes : (bytes : List ℕ) (size : ℕ) (expected : Expected) (header : Header) → 64 ≤ length bytes → IsBytes bytes
    → Found bytes size expected header → header.uuid ≡ expected.uuid → header.number ≡ expected.number
    → IsTrue (has_due_seqs expected header) → IsTrue (is_header_within_limits expected header)
    → IsObjectHeader bytes size expected header
header_if_passes bytes size expected header room fits is uuid number seqs limits =
    let P : Option Header → Type 0 = λ o. IsTrue (is_length o size) in
    let head_size = length-take-le 64 bytes (omega (arith, room)) in
    let head_fits : IsBytes (take 64 bytes) = bytes_of_part 0 64 bytes fits in
    record {
      head = bytes_of_header_in (take 64 bytes) header head_size head_fits is.magic is.header_is;
      has_size = is_size size header (subst P is.header_is is.long);
      uuid = uuid;
      number = number;
      seqs = seqs;
      limits = limits;
      widths = widths_of_header_in (take 64 bytes) header head_size head_fits is.header_is;
    }
