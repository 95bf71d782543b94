-- The bytes of an object that says a number, and what is read in them.
use Rattle.std.proofs.Common.{◌≡◌, ℕ, ◌^◌, ◌<◌, List, ◌++◌, length, take, sym, ◌∙◌, ap, append_assoc, arith}
use Rattle.std.proofs.lemmas.List.{length-append, take_at, drop_at, take_all}
use Rattle.std.proofs.lemmas.Nat.{from_be_bytes-to_be_bytes_8}
use Rattle.std.specs.Int.{w64, to_be_bytes}
use Rattle.lsvd_bytes.specs.Places.{bytes_at, number_at}
use Rattle.lsvd_bytes.proofs.PlaceLemmas.{IsBytes, width_64}
use Rattle.super_format.specs.Numbered.{numbered_bytes, IsNumbered, HasFields}
use Rattle.super_format.proofs.PartLemmas.{length_of_part, part_of, front_more, number_behind}

splits : (magic uuid : List ℕ) (number : ℕ)
    → numbered_bytes magic uuid number ≡ magic ++ (uuid ++ to_be_bytes w64 number)
unfolding numbered_bytes
splits magic uuid number = append_assoc magic uuid (to_be_bytes w64 number)

pub length_of_numbered : (bytes magic uuid : List ℕ) (number : ℕ) → length magic ≡ 8 → IsNumbered bytes magic uuid number
    → length bytes ≡ 32
length_of_numbered bytes magic uuid number eight is =
    let rest = uuid ++ to_be_bytes w64 number in
    omega (
      arith,
      ap length (is.spelled ∙ splits magic uuid number),
      length-append magic rest,
      length-append uuid (to_be_bytes w64 number),
      eight,
      is.uuid_width,
    )

magic_again : (magic uuid : List ℕ) (number : ℕ) → length magic ≡ 8 → take 8 (numbered_bytes magic uuid number) ≡ magic
magic_again magic uuid number eight =
    ap (take 8) (splits magic uuid number) ∙ take_at magic (uuid ++ to_be_bytes w64 number) 8 eight

uuid_again : (magic uuid : List ℕ) (number : ℕ) → length magic ≡ 8 → length uuid ≡ 16
    → bytes_at 8 16 (numbered_bytes magic uuid number) ≡ uuid
uuid_again magic uuid number eight sixteen =
    let rest = uuid ++ to_be_bytes w64 number in
    ap (bytes_at 8 16) (splits magic uuid number) ∙ ap (take 16) (drop_at magic rest 8 eight)
    ∙ take_at uuid (to_be_bytes w64 number) 16 sixteen

number_again : (bytes magic uuid : List ℕ) (number : ℕ) → length magic ≡ 8 → IsNumbered bytes magic uuid number
    → number_at w64 24 bytes ≡ number
unfolding numbered_bytes
number_again bytes magic uuid number eight is =
    ap (number_at w64 24) is.spelled
    ∙ number_behind w64 24 0 (magic ++ uuid) (to_be_bytes w64 number)
    (omega (arith, length-append magic uuid, eight, is.uuid_width))
    ∙ from_be_bytes-to_be_bytes_8 number is.number_width

-- such an object has its fields
pub fields_of_numbered : (bytes magic uuid : List ℕ) (number : ℕ) → length magic ≡ 8 → IsNumbered bytes magic uuid number
    → HasFields bytes magic uuid number
fields_of_numbered bytes magic uuid number eight is = record {
  size = length_of_numbered bytes magic uuid number eight is;
  has_magic = ap (take 8) is.spelled ∙ magic_again magic uuid number eight;
  has_uuid = ap (bytes_at 8 16) is.spelled ∙ uuid_again magic uuid number eight is.uuid_width;
  has_number = number_again bytes magic uuid number eight is;
}

-- 32 bytes with the fields are such an object
pub numbered_if_reads : (bytes magic uuid : List ℕ) (number : ℕ) → IsBytes bytes → number < 2 ^ 64
    → HasFields bytes magic uuid number → IsNumbered bytes magic uuid number
unfolding numbered_bytes
numbered_if_reads bytes magic uuid number fits number_fits has =
    let to_uuid = front_more 8 16 bytes _ _ has.has_magic has.has_uuid in
    let part = part_of w64 width_64 24 bytes (omega (arith, has.size)) fits in
    let to_number = front_more 24 8 bytes _ _ to_uuid (part ∙ ap (to_be_bytes w64) has.has_number) in
    record {
      spelled = sym (take_all 32 bytes (omega (arith, has.size))) ∙ to_number;
      uuid_width = ap length (sym has.has_uuid) ∙ length_of_part 8 16 bytes (omega (arith, has.size));
      number_width = number_fits;
    }

-- two that are the same bytes say the same volume and the same number
pub one_uuid : (bytes magic : List ℕ) (uuid another : List ℕ) (m n : ℕ) → length magic ≡ 8
    → IsNumbered bytes magic uuid m → IsNumbered bytes magic another n → uuid ≡ another
one_uuid bytes magic uuid another m n eight is other =
    sym (fields_of_numbered bytes magic uuid m eight is).has_uuid
    ∙ (fields_of_numbered bytes magic another n eight other).has_uuid

pub one_number : (bytes magic : List ℕ) (uuid another : List ℕ) (m n : ℕ) → length magic ≡ 8
    → IsNumbered bytes magic uuid m → IsNumbered bytes magic another n → m ≡ n
one_number bytes magic uuid another m n eight is other =
    sym (number_again bytes magic uuid m eight is) ∙ number_again bytes magic another n eight other
