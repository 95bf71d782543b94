-- Numbers and bytes at places of a list, and what writes one after the other leave.
use Rattle.std.proofs.Common.{◌≡◌, ℕ, ◌+◌, ◌-◌, ◌^◌, ◌<◌, ◌≤◌, List, [], ◌∷◌, ◌++◌, length, take, drop, refl, sym, ◌∙◌, ap}
use Rattle.std.proofs.Common.{append_assoc, inl, inr, arith}
use Rattle.std.proofs.lemmas.Bool.{cases_lt}
use Rattle.std.proofs.lemmas.List.{length-append, length-take, length-take-le, length-drop, take_at, drop_at, drop_all, drop-drop}
use Rattle.std.proofs.lemmas.List.{append-nil, get_or-take, get_or-drop, get_or_past}
use Rattle.std.proofs.Math.Seq.{take-add}
use borrow.Rule.Slice.PartMut.{put_mid}
use Rattle.std.specs.Int.{Width, w64, byte_len, to_be_bytes}
use Rattle.lsvd_bytes.specs.Places.{bytes_at, number_at}
use Rattle.lsvd_bytes.proofs.PlaceLemmas.{IsBytes, IsNumberWidth}

-- ---- reading

bytes_of_part : (at count : ℕ) (bytes : List ℕ) → IsBytes bytes → IsBytes (bytes_at at count bytes)
bytes_of_part at count bytes fits i =
    elim (cases_lt i count) [
      | inl inside ↦ rw (get_or-take count (drop at bytes) i 0 inside, get_or-drop at bytes i 0) (fits (at + i))
      | inr past ↦ rw (get_or_past (bytes_at at count bytes) i 0 (omega (arith, length-take count (drop at bytes), past)))
          (omega arith)
    ]

pub bytes_of_rest : (at : ℕ) (bytes : List ℕ) → IsBytes bytes → IsBytes (drop at bytes)
bytes_of_rest at bytes fits i = rw (get_or-drop at bytes i 0) (fits (at + i))

pub length_of_part : (at count : ℕ) (bytes : List ℕ) → at + count ≤ length bytes → length (bytes_at at count bytes) ≡ count
length_of_part at count bytes room = length-take-le count (drop at bytes) (omega (arith, length-drop at bytes, room))

-- a number is written as the bytes that it was read in
pub part_of : (w : Width) → IsNumberWidth w → (at : ℕ) (bytes : List ℕ) → at + byte_len w ≤ length bytes → IsBytes bytes
    → bytes_at at (byte_len w) bytes ≡ to_be_bytes w (number_at w at bytes)
part_of w wide at bytes room fits =
    sym (wide.bytes_again (bytes_at at (byte_len w) bytes) (length_of_part at (byte_len w) bytes room)
    (bytes_of_part at (byte_len w) bytes fits))

-- a number that was read has its width
pub number_64_fits : (at : ℕ) (bytes : List ℕ) → IsBytes bytes → number_at w64 at bytes < 2 ^ 64
number_64_fits at bytes fits =
    let part = bytes_of_part at 8 bytes fits in
    omega (arith, part 0, part 1, part 2, part 3, part 4, part 5, part 6, part 7)

-- a front and the part after it are a longer front
pub front_more : (at count : ℕ) (bytes front part : List ℕ) → take at bytes ≡ front → bytes_at at count bytes ≡ part
    → take (at + count) bytes ≡ front ++ part
front_more at count bytes front part is_front is_part =
    take-add at count bytes ∙ ap (λ xs. xs ++ take count (drop at bytes)) is_front ∙ ap (λ xs. front ++ xs) is_part

-- a number after a front is that of the rest
pub number_behind : (w : Width) (size at : ℕ) (front rest : List ℕ) → length front ≡ size
    → number_at w (size + at) (front ++ rest) ≡ number_at w at rest
number_behind w size at front rest is =
    ap (λ xs. number_at w 0 xs) (sym (drop-drop at size (front ++ rest)) ∙ ap (drop at) (drop_at front rest size is))

-- a list that is no longer with others after it has none after it
pub no_more : (xs ys : List ℕ) → length (xs ++ ys) ≡ length xs → ys ≡ []
no_more xs [] same = refl
no_more xs (y ∷ ys) same = absurd (omega (arith, length-append xs (y ∷ ys), same))

-- ---- writing

-- what is written after what was written is written with it
pub written_after : (at m n : ℕ) (a b old mid new : List ℕ) → length a ≡ m → length b ≡ n → at + m + n ≤ length old
    → mid ≡ take at old ++ a ++ drop (at + m) old
    → new ≡ take (at + m) mid ++ b ++ drop (at + m + n) mid
    → new ≡ take at old ++ (a ++ b) ++ drop (at + (m + n)) old
written_after at m n a b old mid new a_size b_size room is_mid is_new =
    let front = take at old ++ a in
    let size : length front ≡ at + m = omega (
      arith,
      length-append (take at old) a,
      length-take-le at old
          (omega (arith, room)),
      a_size,
    ) in
    let end : at + m + n ≡ at + (m + n) = omega arith in
    let before : take (at + m) mid ≡ front = ap (take (at + m)) is_mid ∙ take_at front (drop (at + m) old) (at + m) size in
    let behind : drop (at + m + n) mid ≡ drop (at + (m + n)) old =
    sym (drop-drop n (at + m) mid)
    ∙ ap (drop n) (ap (drop (at + m)) is_mid ∙ drop_at front (drop (at + m) old) (at + m) size)
    ∙ drop-drop n (at + m) old
    ∙ ap (λ k. drop k old) end in
    is_new
    ∙ ap (λ xs. xs ++ b ++ drop (at + m + n) mid) before
    ∙ ap (λ xs. front ++ b ++ xs) behind
    ∙ ap (λ xs. xs ++ drop (at + (m + n)) old) (append_assoc (take at old) a b)

-- a front with what is written after it is a longer front
pub written_front : (at count : ℕ) (front value old new : List ℕ) → take at old ≡ front → length front ≡ at
    → length value ≡ count → new ≡ take at old ++ value ++ drop (at + count) old
    → take (at + count) new ≡ front ++ value
written_front at count front value old new is_front front_size value_size is_new =
    let size : length (take at old ++ value) ≡ at + count =
    length-append (take at old) value ∙ ap (λ n. n + length value) (ap length is_front ∙ front_size)
    ∙ ap (λ n. at + n) value_size in
    ap (take (at + count)) is_new
    ∙ take_at (take at old ++ value) (drop (at + count) old) (at + count) size
    ∙ ap (λ xs. xs ++ value) is_front

-- what is written from the end of a front to the end of a list
pub written_to_end : (at : ℕ) (front rest part : List ℕ) → length front ≡ at
    → put_mid at (length (front ++ rest) - at) (front ++ rest) part ≡ front ++ part
written_to_end at front rest part size =
    let list = front ++ rest in
    ap (λ xs. take at list ++ (part ++ xs)) (drop_all (length list - at) (drop at list) (omega (arith, length-drop at list)))
    ∙ ap (λ xs. take at list ++ xs) (append-nil part)
    ∙ ap (λ xs. xs ++ part) (take_at front rest at size)
