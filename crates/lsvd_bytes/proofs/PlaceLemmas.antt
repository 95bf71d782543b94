-- Reads and writes at a place of a list of bytes.
use Rattle.std.proofs.Common.{◌≡◌, ℕ, ◌+◌, ◌-◌, ◌*◌, ◌^◌, ◌<◌, ◌≤◌, List, ◌++◌, length, take, drop, get_or, refl, sym, ◌∙◌, ap}
use Rattle.std.proofs.Common.{append_assoc, arith, inl, inr}
use Rattle.std.proofs.lemmas.Bool.{cases_lt}
use Rattle.std.proofs.lemmas.List.{length-append, length-take, length-take-le, length-drop, take_at, drop_at, take-append-le}
use Rattle.std.proofs.lemmas.List.{drop-append-le, take-append-drop, drop-drop, get_or-take, get_or-drop, get_or_past}
use Rattle.std.proofs.lemmas.Nat.{be_bytes_2, be_bytes_4, be_bytes_8, from_be_bytes-to_be_bytes_2, from_be_bytes-to_be_bytes_4}
use Rattle.std.proofs.lemmas.Nat.{from_be_bytes-to_be_bytes_8}
use Rattle.std.specs.Int.{Width, w16, w32, w64, byte_len, from_be_bytes, to_be_bytes}
use Rattle.lsvd_bytes.specs.Places.{bytes_at, with_bytes}
use Rattle.lsvd_bytes.specs.Laws.{ReadsBytesAgain, ReadsNumberAgain, KeepsLength, KeepsOtherBytes, KeepsOtherNumbers}
use Rattle.lsvd_bytes.specs.Laws.{RewritesBytes, RewritesNumber}

-- ---- bytes

-- the bytes before the place, then the value and those after it
front_first : (at : ℕ) (value bytes : List ℕ)
    → with_bytes at value bytes ≡ take at bytes ++ (value ++ drop (at + length value) bytes)
front_first at value bytes = append_assoc (take at bytes) value (drop (at + length value) bytes)

pub reads_bytes_again : ReadsBytesAgain
reads_bytes_again at value bytes room =
    let rest = drop (at + length value) bytes in
    ap (λ xs. bytes_at at (length value) xs) (front_first at value bytes)
    ∙ ap (take (length value)) (drop_at (take at bytes) (value ++ rest) at (length-take-le at bytes (omega arith)))
    ∙ take_at value rest (length value) refl

pub keeps_length : KeepsLength
keeps_length at value bytes room =
    let rest = drop (at + length value) bytes in
    let whole = length-append (take at bytes ++ value) rest in
    let head = length-append (take at bytes) value in
    let front = length-take-le at bytes (omega arith) in
    let tail = length-drop (at + length value) bytes in
    omega (arith, whole, head, front, tail, room)

-- bytes inside a front are read from it alone
in_front : (there count : ℕ) (front rest : List ℕ) → there + count ≤ length front
    → bytes_at there count (front ++ rest) ≡ bytes_at there count front
in_front there count front rest inside =
    ap (take count) (drop-append-le there front rest (omega arith))
    ∙ take-append-le count (drop there front) rest (omega (arith, length-drop there front, inside))

-- bytes past a front are read from the rest alone
past_front : (there count : ℕ) (front rest other : List ℕ) → length front ≡ length other → length front ≤ there
    → bytes_at there count (front ++ rest) ≡ bytes_at there count (other ++ rest)
past_front there count front rest other same past =
    let place : length front + (there - length front) ≡ there = omega arith in
    let left = drop-drop (there - length front) (length front) (front ++ rest) in
    let right = drop-drop (there - length front) (length front) (other ++ rest) in
    let cut = drop_at front rest (length front) refl in
    let cut_other = drop_at other rest (length front) (sym same) in
    ap (λ n. bytes_at n count (front ++ rest)) (sym place)
    ∙ ap (take count) (sym left ∙ ap (drop (there - length front)) (cut ∙ sym cut_other) ∙ right)
    ∙ ap (λ n. bytes_at n count (other ++ rest)) place

pub keeps_other_bytes : KeepsOtherBytes
keeps_other_bytes at value bytes there count room (inl before) =
    let size : length (take at bytes) ≡ at = length-take-le at bytes (omega arith) in
    ap (λ xs. bytes_at there count xs) (front_first at value bytes)
    ∙ in_front there count (take at bytes) (value ++ drop (at + length value) bytes) (omega arith)
    ∙ sym (in_front there count (take at bytes) (drop at bytes) (omega arith))
    ∙ ap (λ xs. bytes_at there count xs) (take-append-drop at bytes)
keeps_other_bytes at value bytes there count room (inr past) =
    let end = at + length value in
    let size : length (take at bytes ++ value) ≡ end = length-append (take at bytes) value
    ∙ ap (λ n. n + length value) (length-take-le at bytes (omega arith)) in
    past_front there count (take at bytes ++ value) (drop end bytes) (take end bytes) (size ∙ sym (length-take-le end bytes room))
    (omega arith)
    ∙ ap (λ xs. bytes_at there count xs) (take-append-drop end bytes)

pub rewrites_bytes : RewritesBytes
rewrites_bytes at count bytes room =
    let value = bytes_at at count bytes in
    let size : length value ≡ count = length-take-le count (drop at bytes) (omega (arith, length-drop at bytes, room)) in
    front_first at value bytes
    ∙ ap (λ n. take at bytes ++ (value ++ drop (at + n) bytes)) size
    ∙ ap (λ xs. take at bytes ++ (value ++ xs)) (sym (drop-drop count at bytes))
    ∙ ap (λ xs. take at bytes ++ xs) (take-append-drop count (drop at bytes))
    ∙ take-append-drop at bytes

-- ---- numbers

-- each element is a byte
abbrev pub IsBytes : List ℕ → Type 0
IsBytes bytes = (i : ℕ) → get_or bytes i 0 < 256

bytes_of_part : (at count : ℕ) (bytes : List ℕ) → IsBytes bytes → IsBytes (bytes_at at count bytes)
bytes_of_part at count bytes fits i =
    elim (cases_lt i count) [
      | inl inside ↦ rw (get_or-take count (drop at bytes) i 0 inside, get_or-drop at bytes i 0) (fits (at + i))
      | inr past ↦ rw (get_or_past (bytes_at at count bytes) i 0 (omega (arith, length-take count (drop at bytes), past)))
          (omega arith)
    ]

-- numbers of a width and their bytes
pub record IsNumberWidth (w : Width) : Type 0 where
  pub size : (number : ℕ) → length (to_be_bytes w number) ≡ byte_len w
  pub number_again : (number : ℕ) → number < 2 ^ (8 * byte_len w) → from_be_bytes w (to_be_bytes w number) ≡ number
  pub bytes_again : (bytes : List ℕ) → length bytes ≡ byte_len w → IsBytes bytes → to_be_bytes w (from_be_bytes w bytes) ≡ bytes

pub width_16 : IsNumberWidth w16
width_16 = record {
  size = λ number. refl;
  number_again = λ number fits. from_be_bytes-to_be_bytes_2 number fits;
  bytes_again = λ bytes size fits. be_bytes_2 bytes _ size fits refl;
}

pub width_32 : IsNumberWidth w32
width_32 = record {
  size = λ number. refl;
  number_again = λ number fits. from_be_bytes-to_be_bytes_4 number fits;
  bytes_again = λ bytes size fits. be_bytes_4 bytes _ size fits refl;
}

pub width_64 : IsNumberWidth w64
width_64 = record {
  size = λ number. refl;
  number_again = λ number fits. from_be_bytes-to_be_bytes_8 number fits;
  bytes_again = λ bytes size fits. be_bytes_8 bytes _ size fits refl;
}

pub reads_number_again : (w : Width) → IsNumberWidth w → ReadsNumberAgain w
reads_number_again w wide at number bytes room fits =
    let value = to_be_bytes w number in
    let size = wide.size number in
    ap (λ n. from_be_bytes w (bytes_at at n (with_bytes at value bytes))) (sym size)
    ∙ ap (from_be_bytes w) (reads_bytes_again at value bytes (omega (arith, size, room)))
    ∙ wide.number_again number fits

pub keeps_other_numbers : KeepsOtherNumbers
keeps_other_numbers at value bytes w there room apart =
    ap (from_be_bytes w) (keeps_other_bytes at value bytes there (byte_len w) room apart)

pub rewrites_number : (w : Width) → IsNumberWidth w → RewritesNumber w
rewrites_number w wide at bytes room fits =
    let value = bytes_at at (byte_len w) bytes in
    let size : length value ≡ byte_len w =
    length-take-le (byte_len w) (drop at bytes) (omega (arith, length-drop at bytes, room)) in
    ap (λ xs. with_bytes at xs bytes) (wide.bytes_again value size (bytes_of_part at (byte_len w) bytes fits))
    ∙ rewrites_bytes at (byte_len w) bytes room
