-- The bytes of a header, and the fields that are read in them.
use Rattle.std.proofs.Common.{◌≡◌, ℕ, ◌+◌, ◌^◌, ◌<◌, Option, Some, None, List, ◌++◌, length, take, codes, refl, sym, ◌∙◌, ap}
use Rattle.std.proofs.Common.{append_assoc, subst, arith}
use Rattle.std.proofs.lemmas.Bool.Decides.{nat_tests}
use Rattle.std.proofs.lemmas.List.{length-append, take_at, take_all}
use Rattle.std.proofs.lemmas.Nat.{from_be_bytes-to_be_bytes_4, from_be_bytes-to_be_bytes_8}
use Rattle.std.specs.Int.{w32, w64, to_be_bytes}
use Rattle.std.specs.Option.{option_map}
use Rattle.lsvd_bytes.specs.Places.{bytes_at, number_at}
use Rattle.object_format.specs.declared.kind.Kind.{Kind}
use Rattle.object_format.specs.declared.kind.Kind.TheVariants.{Data, Copy, Checkpoint}
use Rattle.object_format.specs.declared.header.Header.{Header}
use Rattle.object_format.specs.Layout.{number_of, kind_from}
use Rattle.object_format.specs.Header.{header_bytes, header_with, header_in, HasWidths}
use Rattle.object_format.proofs.PartLemmas.{IsBytes, part_of_u32, part_of_u64, u32_fits, u64_fits, front_more, number_behind}
use Rattle.object_format.proofs.PartLemmas.{length_of_part}

-- ---- kinds

pub kind_from-number_of : (kind : Kind) → kind_from (number_of kind) ≡ Some kind
kind_from-number_of Data = refl
kind_from-number_of Copy = refl
kind_from-number_of Checkpoint = refl

pub number_of-kind_from : (number : ℕ) (kind : Kind) → kind_from number ≡ Some kind → number ≡ number_of kind
number_of-kind_from number Data is = grind (arith, nat_tests)
number_of-kind_from number Copy is = grind (arith, nat_tests)
number_of-kind_from number Checkpoint is = grind (arith, nat_tests)

number_of_fits : (kind : Kind) → number_of kind < 2 ^ 32
number_of_fits Data = omega arith
number_of_fits Copy = omega arith
number_of_fits Checkpoint = omega arith

-- ---- the shape of a header

-- what stands up to the end of the uuid, and after it
abbrev front_of : Header → List ℕ
front_of header = codes "LSVDOBJ1" ++ to_be_bytes w32 (number_of header.kind) ++ header.uuid

numbers_of : Header → List ℕ
numbers_of header =
    to_be_bytes w64 header.number
    ++ to_be_bytes w64 header.first_seq
    ++ to_be_bytes w64 header.end_seq
    ++ to_be_bytes w32 header.rows
    ++ to_be_bytes w64 header.payload

apart : (front a b c d e : List ℕ) → front ++ a ++ b ++ c ++ d ++ e ≡ front ++ (a ++ b ++ c ++ d ++ e)
apart front a b c d e = simp append_assoc refl

header_splits : (header : Header) → header_bytes header ≡ front_of header ++ numbers_of header
unfolding header_bytes numbers_of
header_splits header =
    apart (front_of header) (to_be_bytes w64 header.number) (to_be_bytes w64 header.first_seq)
    (to_be_bytes w64 header.end_seq) (to_be_bytes w32 header.rows) (to_be_bytes w64 header.payload)

length-front_of : (header : Header) → length header.uuid ≡ 16 → length (front_of header) ≡ 28
length-front_of header uuid = omega (
  arith,
  length-append (codes "LSVDOBJ1" ++ to_be_bytes w32 (number_of header.kind))
      header.uuid,
  uuid,
)

length-numbers_of : (header : Header) → length (numbers_of header) ≡ 36
unfolding numbers_of
length-numbers_of header = refl

pub length-header_bytes : (header : Header) → length header.uuid ≡ 16 → length (header_bytes header) ≡ 64
length-header_bytes header uuid =
    ap length (header_splits header)
    ∙ length-append (front_of header) (numbers_of header)
    ∙ omega (arith, length-front_of header uuid, length-numbers_of header)

-- ---- what is read in a header

pub magic-header : (header : Header) → take 8 (header_bytes header) ≡ codes "LSVDOBJ1"
magic-header header = ap (take 8) (header_splits header)

kind-header : (header : Header) → number_at w32 8 (header_bytes header) ≡ number_of header.kind
kind-header header =
    ap (number_at w32 8) (header_splits header) ∙ from_be_bytes-to_be_bytes_4 (number_of header.kind) (number_of_fits header.kind)

pub uuid-header : (header : Header) → length header.uuid ≡ 16 → bytes_at 12 16 (header_bytes header) ≡ header.uuid
uuid-header header uuid =
    ap (bytes_at 12 16) (header_splits header) ∙ take_at header.uuid (numbers_of header) 16 uuid

u64-header : (at : ℕ) (header : Header) → length header.uuid ≡ 16
    → number_at w64 (28 + at) (header_bytes header) ≡ number_at w64 at (numbers_of header)
u64-header at header uuid =
    ap (number_at w64 (28 + at)) (header_splits header) ∙ number_behind w64 28 at (front_of header) (numbers_of header)
    (length-front_of header uuid)

pub number-header : (header : Header) → HasWidths header → number_at w64 28 (header_bytes header) ≡ header.number
unfolding numbers_of
number-header header widths = u64-header 0 header widths.uuid ∙ from_be_bytes-to_be_bytes_8 header.number widths.number

first_seq-header : (header : Header) → HasWidths header → number_at w64 36 (header_bytes header) ≡ header.first_seq
unfolding numbers_of
first_seq-header header widths = u64-header 8 header widths.uuid ∙ from_be_bytes-to_be_bytes_8 header.first_seq widths.first_seq

end_seq-header : (header : Header) → HasWidths header → number_at w64 44 (header_bytes header) ≡ header.end_seq
unfolding numbers_of
end_seq-header header widths = u64-header 16 header widths.uuid ∙ from_be_bytes-to_be_bytes_8 header.end_seq widths.end_seq

rows-header : (header : Header) → HasWidths header → number_at w32 52 (header_bytes header) ≡ header.rows
unfolding numbers_of
rows-header header widths =
    ap (number_at w32 52) (header_splits header)
    ∙ number_behind w32 28 24 (front_of header) (numbers_of header) (length-front_of header widths.uuid)
    ∙ from_be_bytes-to_be_bytes_4 header.rows widths.rows

payload-header : (header : Header) → HasWidths header → number_at w64 56 (header_bytes header) ≡ header.payload
unfolding numbers_of
payload-header header widths = u64-header 28 header widths.uuid ∙ from_be_bytes-to_be_bytes_8 header.payload widths.payload

-- the header with these fields
abbrev header_of : Kind → List ℕ → (number first_seq end_seq rows payload : ℕ) → Header
header_of kind uuid number first_seq end_seq rows payload = record {
  kind = kind;
  uuid = uuid;
  number = number;
  first_seq = first_seq;
  end_seq = end_seq;
  rows = rows;
  payload = payload;
}

header_with-header_bytes : (header : Header) → HasWidths header → header_with header.kind (header_bytes header) ≡ header
header_with-header_bytes header widths =
    let head = header_bytes header in
    ap (λ x. header_of header.kind x (number_at w64 28 head) (number_at w64 36 head) (number_at w64 44 head)
    (number_at w32 52 head) (number_at w64 56 head)) (uuid-header header widths.uuid)
    ∙ ap (λ x. header_of header.kind header.uuid x (number_at w64 36 head) (number_at w64 44 head) (number_at w32 52 head)
    (number_at w64 56 head)) (number-header header widths)
    ∙ ap (λ x. header_of header.kind header.uuid header.number x (number_at w64 44 head) (number_at w32 52 head)
    (number_at w64 56 head)) (first_seq-header header widths)
    ∙ ap (λ x. header_of header.kind header.uuid header.number header.first_seq x (number_at w32 52 head) (number_at w64 56 head))
    (end_seq-header header widths)
    ∙ ap (λ x. header_of header.kind header.uuid header.number header.first_seq header.end_seq x (number_at w64 56 head))
    (rows-header header widths)
    ∙ ap (λ x. header_of header.kind header.uuid header.number header.first_seq header.end_seq header.rows x)
    (payload-header header widths)

-- the header that was written is read again
pub header_in-header_bytes : (header : Header) → HasWidths header → header_in (header_bytes header) ≡ Some header
header_in-header_bytes header widths =
    let head = header_bytes header in
    ap (λ number. option_map (λ kind. header_with kind head) (kind_from number)) (kind-header header)
    ∙ ap (option_map (λ kind. header_with kind head)) (kind_from-number_of header.kind)
    ∙ ap (λ x. Some x) (header_with-header_bytes header widths)

-- ---- a header that was read has its bytes

-- where the value of an option is, and what it was made of
pub found : (option : Option Kind) (f : Kind → Header) (header : Header) → option_map f option ≡ Some header
    → (kind : Kind) × (option ≡ Some kind) × (f kind ≡ header)
found None f header is = cc
found (Some kind) f header is = (kind, refl, cc)

bytes_of_kind : (head : List ℕ) (kind : Kind) → length head ≡ 64 → IsBytes head → take 8 head ≡ codes "LSVDOBJ1"
    → number_at w32 8 head ≡ number_of kind → head ≡ header_bytes (header_with kind head)
unfolding header_bytes
bytes_of_kind head kind size fits magic is_kind =
    let kind_part = part_of_u32 8 head (omega (arith, size)) fits ∙ ap (to_be_bytes w32) is_kind in
    let to_kind = front_more 8 4 head (codes "LSVDOBJ1") _ magic kind_part in
    let to_uuid = front_more 12 16 head _ _ to_kind refl in
    let to_number = front_more 28 8 head _ _ to_uuid (part_of_u64 28 head (omega (arith, size)) fits) in
    let to_first_seq = front_more 36 8 head _ _ to_number (part_of_u64 36 head (omega (arith, size)) fits) in
    let to_end_seq = front_more 44 8 head _ _ to_first_seq (part_of_u64 44 head (omega (arith, size)) fits) in
    let to_rows = front_more 52 4 head _ _ to_end_seq (part_of_u32 52 head (omega (arith, size)) fits) in
    let to_payload = front_more 56 8 head _ _ to_rows (part_of_u64 56 head (omega (arith, size)) fits) in
    sym (take_all 64 head (omega (arith, size))) ∙ to_payload

widths_of_kind : (head : List ℕ) (kind : Kind) → length head ≡ 64 → IsBytes head → HasWidths (header_with kind head)
widths_of_kind head kind size fits = record {
  uuid = length_of_part 12 16 head (omega (arith, size));
  number = u64_fits 28 head fits;
  first_seq = u64_fits 36 head fits;
  end_seq = u64_fits 44 head fits;
  rows = u32_fits 52 head fits;
  payload = u64_fits 56 head fits;
}

pub bytes_of_header_in : (head : List ℕ) (header : Header) → length head ≡ 64 → IsBytes head → take 8 head ≡ codes "LSVDOBJ1"
    → header_in head ≡ Some header → head ≡ header_bytes header
bytes_of_header_in head header size fits magic is =
    let f = found (kind_from (number_at w32 8 head)) (λ kind. header_with kind head) header is in
    bytes_of_kind head f.0 size fits magic (number_of-kind_from (number_at w32 8 head) f.0 f.1) ∙ ap header_bytes f.2

pub widths_of_header_in : (head : List ℕ) (header : Header) → length head ≡ 64 → IsBytes head → header_in head ≡ Some header
    → HasWidths header
widths_of_header_in head header size fits is =
    let f = found (kind_from (number_at w32 8 head)) (λ kind. header_with kind head) header is in
    subst HasWidths f.2 (widths_of_kind head f.0 size fits)

-- its uuid and its number are those of the bytes
pub uuid_of_header_in : (head : List ℕ) (header : Header) → header_in head ≡ Some header → bytes_at 12 16 head ≡ header.uuid
uuid_of_header_in head header is =
    let f = found (kind_from (number_at w32 8 head)) (λ kind. header_with kind head) header is in
    ap (λ (h : Header). h.uuid) f.2

pub number_of_header_in : (head : List ℕ) (header : Header) → header_in head ≡ Some header → number_at w64 28 head ≡ header.number
number_of_header_in head header is =
    let f = found (kind_from (number_at w32 8 head)) (λ kind. header_with kind head) header is in
    ap (λ (h : Header). h.number) f.2
