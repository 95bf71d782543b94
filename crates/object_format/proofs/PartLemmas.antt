-- Numbers and bytes at places of a list.
use Rattle.std.proofs.Common.{◌≡◌, ℕ, ◌+◌, ◌^◌, ◌<◌, ◌≤◌, List, ◌++◌, length, take, drop, get_or, refl, sym, ◌∙◌, ap, inl, inr}
use Rattle.std.proofs.Common.{arith}
use Rattle.std.proofs.lemmas.Bool.{cases_lt}
use Rattle.std.proofs.lemmas.List.{length-take, length-take-le, length-drop, drop_at, drop-drop, get_or-take, get_or-drop}
use Rattle.std.proofs.lemmas.List.{get_or_past}
use Rattle.std.proofs.lemmas.Nat.{be_bytes_4, be_bytes_8}
use Rattle.std.proofs.Math.Seq.{take-add}
use Rattle.std.specs.Int.{Width, w32, w64, to_be_bytes}
use Rattle.lsvd_bytes.specs.Places.{bytes_at, number_at}

-- each element is a byte
abbrev pub IsBytes : List ℕ → Type 0
IsBytes bytes = (i : ℕ) → get_or bytes i 0 < 256

pub bytes_of_part : (at count : ℕ) (bytes : List ℕ) → IsBytes bytes → IsBytes (take count (drop at bytes))
bytes_of_part at count bytes fits i =
    elim (cases_lt i count) [
      | inl inside ↦ rw (get_or-take count (drop at bytes) i 0 inside, get_or-drop at bytes i 0) (fits (at + i))
      | inr past ↦ rw (get_or_past (take count (drop at bytes)) i 0 (omega (arith, length-take count (drop at bytes), past)))
          (omega arith)
    ]

pub length_of_part : (at count : ℕ) (bytes : List ℕ) → at + count ≤ length bytes → length (take count (drop at bytes)) ≡ count
length_of_part at count bytes room = length-take-le count (drop at bytes) (omega (arith, length-drop at bytes, room))

-- a number is written as the bytes that it was read in
pub part_of_u32 : (at : ℕ) (bytes : List ℕ) → at + 4 ≤ length bytes → IsBytes bytes
    → bytes_at at 4 bytes ≡ to_be_bytes w32 (number_at w32 at bytes)
part_of_u32 at bytes room fits =
    sym (be_bytes_4 (take 4 (drop at bytes)) (number_at w32 at bytes) (length_of_part at 4 bytes room)
    (bytes_of_part at 4 bytes fits) refl)

pub part_of_u64 : (at : ℕ) (bytes : List ℕ) → at + 8 ≤ length bytes → IsBytes bytes
    → bytes_at at 8 bytes ≡ to_be_bytes w64 (number_at w64 at bytes)
part_of_u64 at bytes room fits =
    sym (be_bytes_8 (take 8 (drop at bytes)) (number_at w64 at bytes) (length_of_part at 8 bytes room)
    (bytes_of_part at 8 bytes fits) refl)

-- a number that was read has its width
pub u32_fits : (at : ℕ) (bytes : List ℕ) → IsBytes bytes → number_at w32 at bytes < 2 ^ 32
u32_fits at bytes fits =
    let part = bytes_of_part at 4 bytes fits in
    omega (arith, part 0, part 1, part 2, part 3)

pub u64_fits : (at : ℕ) (bytes : List ℕ) → IsBytes bytes → number_at w64 at bytes < 2 ^ 64
u64_fits at bytes fits =
    let part = bytes_of_part at 8 bytes fits in
    omega (arith, part 0, part 1, part 2, part 3, part 4, part 5, part 6, part 7)

-- a front and the part after it are a longer front
pub front_more : (at count : ℕ) (bytes front part : List ℕ) → take at bytes ≡ front → bytes_at at count bytes ≡ part
    → take (at + count) bytes ≡ front ++ part
front_more at count bytes front part is_front is_part =
    take-add at count bytes ∙ ap (λ xs. xs ++ take count (drop at bytes)) is_front ∙ ap (λ xs. front ++ xs) is_part

-- a number after a front is that of the rest
pub number_behind : (w : Width) (size at : ℕ) (front rest : List ℕ) → length front ≡ size
    → number_at w (size + at) (front ++ rest) ≡ number_at w at rest
number_behind w size at front rest is =
    ap (λ xs. number_at w 0 xs) (sym (drop-drop at size (front ++ rest)) ∙ ap (drop at) (drop_at front rest size is))

pub bytes_of_rest : (at : ℕ) (bytes : List ℕ) → IsBytes bytes → IsBytes (drop at bytes)
bytes_of_rest at bytes fits i = rw (get_or-drop at bytes i 0) (fits (at + i))
