-- The fields that are read in the bytes of a message make those bytes.
use Rattle.std.proofs.Common.{◌≡◌, ℕ, ◌+◌, ◌^◌, ◌<◌, ◌≤◌, List, ◌++◌, length, take, drop, get_or, codes, sym, ◌∙◌, ap, inl, inr}
use Rattle.std.proofs.Common.{arith}
use Rattle.std.proofs.lemmas.Bool.{cases_lt}
use Rattle.std.proofs.lemmas.List.{length-take, length-take-le, length-drop, take_all, get_or-take, get_or-drop, get_or_past}
use Rattle.std.proofs.Math.Seq.{take-add}
use Rattle.std.specs.Int.{Width, w16, w32, w64, byte_len, to_be_bytes}
use Rattle.lsvd_bytes.specs.Places.{bytes_at, number_at}
use Rattle.lsvd_bytes.proofs.PlaceLemmas.{IsNumberWidth, width_16, width_32, width_64}
use Rattle.nbd_wire.specs.Messages.{IsOptionHead, IsRequest}
use Rattle.nbd_wire.specs.Fields.{option_head_in, request_in}

-- each element is a byte
abbrev pub AreBytes : List ℕ → Type 0
AreBytes bytes = (i : ℕ) → get_or bytes i 0 < 256

bytes_of_part : (at count : ℕ) (bytes : List ℕ) → AreBytes bytes → AreBytes (bytes_at at count bytes)
bytes_of_part at count bytes fits i =
    elim (cases_lt i count) [
      | inl inside ↦ rw (get_or-take count (drop at bytes) i 0 inside, get_or-drop at bytes i 0) (fits (at + i))
      | inr past ↦ rw (get_or_past (bytes_at at count bytes) i 0 (omega (arith, length-take count (drop at bytes), past)))
          (omega arith)
    ]

-- a number is written as the bytes that it was read in
pub part_of : (w : Width) → IsNumberWidth w → (at : ℕ) (bytes : List ℕ) → at + byte_len w ≤ length bytes → AreBytes bytes
    → bytes_at at (byte_len w) bytes ≡ to_be_bytes w (number_at w at bytes)
part_of w wide at bytes room fits =
    sym (wide.bytes_again (bytes_at at (byte_len w) bytes)
    (length-take-le (byte_len w) (drop at bytes) (omega (arith, length-drop at bytes, room)))
    (bytes_of_part at (byte_len w) bytes fits))

-- a front and the part after it are a longer front
pub front_more : (at count : ℕ) (bytes front part : List ℕ) → take at bytes ≡ front → bytes_at at count bytes ≡ part
    → take (at + count) bytes ≡ front ++ part
front_more at count bytes front part is_front is_part =
    take-add at count bytes ∙ ap (λ xs. xs ++ take count (drop at bytes)) is_front ∙ ap (λ xs. front ++ xs) is_part

pub number_16_fits : (at : ℕ) (bytes : List ℕ) → AreBytes bytes → number_at w16 at bytes < 2 ^ 16
number_16_fits at bytes fits = let part = bytes_of_part at 2 bytes fits in omega (arith, part 0, part 1)

pub number_32_fits : (at : ℕ) (bytes : List ℕ) → AreBytes bytes → number_at w32 at bytes < 2 ^ 32
number_32_fits at bytes fits =
    let part = bytes_of_part at 4 bytes fits in omega (arith, part 0, part 1, part 2, part 3)

number_64_fits : (at : ℕ) (bytes : List ℕ) → AreBytes bytes → number_at w64 at bytes < 2 ^ 64
number_64_fits at bytes fits =
    let part = bytes_of_part at 8 bytes fits in
    omega (arith, part 0, part 1, part 2, part 3, part 4, part 5, part 6, part 7)

-- sixteen bytes with the magic are the head of an option
pub is_option_head : (bytes : List ℕ) → length bytes ≡ 16 → AreBytes bytes → take 8 bytes ≡ codes "IHAVEOPT"
    → IsOptionHead bytes (option_head_in bytes)
is_option_head bytes size fits magic =
    let to_option = front_more 8 4 bytes _ _ magic (part_of w32 width_32 8 bytes (omega (arith, size)) fits) in
    let to_length = front_more 12 4 bytes _ _ to_option (part_of w32 width_32 12 bytes (omega (arith, size)) fits) in
    record {
      spelled = sym (take_all 16 bytes (omega (arith, size))) ∙ to_length;
      option = number_32_fits 8 bytes fits;
      length = number_32_fits 12 bytes fits;
    }

-- 28 bytes with the magic are a request
pub is_request : (bytes : List ℕ) → length bytes ≡ 28 → AreBytes bytes → number_at w32 0 bytes ≡ 0x25609513
    → IsRequest bytes (request_in bytes)
is_request bytes size fits magic =
    let to_magic = part_of w32 width_32 0 bytes (omega (arith, size)) fits ∙ ap (to_be_bytes w32) magic in
    let to_flags = front_more 4 2 bytes _ _ to_magic (part_of w16 width_16 4 bytes (omega (arith, size)) fits) in
    let to_kind = front_more 6 2 bytes _ _ to_flags (part_of w16 width_16 6 bytes (omega (arith, size)) fits) in
    let to_cookie = front_more 8 8 bytes _ _ to_kind (part_of w64 width_64 8 bytes (omega (arith, size)) fits) in
    let to_offset = front_more 16 8 bytes _ _ to_cookie (part_of w64 width_64 16 bytes (omega (arith, size)) fits) in
    let to_length = front_more 24 4 bytes _ _ to_offset (part_of w32 width_32 24 bytes (omega (arith, size)) fits) in
    record {
      spelled = sym (take_all 28 bytes (omega (arith, size))) ∙ to_length;
      flags = number_16_fits 4 bytes fits;
      kind = number_16_fits 6 bytes fits;
      cookie = number_64_fits 8 bytes fits;
      offset = number_64_fits 16 bytes fits;
      length = number_32_fits 24 bytes fits;
    }
