-- The bytes of a body, and the parts that are read in them.
use Rattle.std.proofs.Common.{◌≡◌, ℕ, ◌+◌, ◌-◌, ◌%◌, ◌^◌, ◌<◌, ◌≤◌, List, ◌++◌, length, take, drop, replicate, get_or, codes}
use Rattle.std.proofs.Common.{refl, sym, ◌∙◌, ap, subst, append_assoc, inl, inr, arith}
use Rattle.std.proofs.lemmas.Bool.{cases_lt}
use Rattle.std.proofs.lemmas.List.{length-append, length-replicate, length-take, length-take-le, length-drop, take_at, drop_at}
use Rattle.std.proofs.lemmas.List.{drop_all, drop-drop, take_rest, take-append-drop, append-nil, get_or-take, get_or-drop}
use Rattle.std.proofs.lemmas.List.{get_or_past}
use Rattle.std.proofs.lemmas.Nat.{be_bytes_8, from_be_bytes-to_be_bytes_8}
use Rattle.std.proofs.Math.Seq.{take-add}
use borrow.Rule.Slice.PartMut.{put_mid}
use Rattle.std.specs.Int.{w64, to_be_bytes}
use Rattle.lsvd_bytes.specs.Places.{number_at}
use Rattle.commit_body.specs.declared.body.CommitBody.{CommitBody}
use Rattle.commit_body.specs.Body.{filler, mark_bytes, body_bytes, MayStand, IsMarkOf64Bits, HasNumbersOf64Bits, IsBody}
use Rattle.commit_body.specs.Fields.{mark_in, number_in, body_in}
use Rattle.commit_body.specs.Laws.{IsOneSector, DeterminesBody}

-- ---- the shape of a body

pub length-filler : length filler ≡ 440
unfolding filler
length-filler = length-replicate {A = ℕ} 440 0

-- what stands after the uuid
numbers_of : CommitBody → ℕ → List ℕ
numbers_of body number =
    to_be_bytes w64 body.epoch ++ to_be_bytes w64 number ++ mark_bytes body.tail ++ mark_bytes body.head ++ filler

-- what stands up to there
abbrev front_of : CommitBody → List ℕ
front_of body = codes "LSVDCMT1" ++ body.uuid

front_apart : (front a b c d e : List ℕ) → front ++ a ++ b ++ c ++ d ++ e ≡ front ++ (a ++ b ++ c ++ d ++ e)
front_apart front a b c d e = simp append_assoc refl

body_splits : (body : CommitBody) (number : ℕ) → body_bytes body number ≡ front_of body ++ numbers_of body number
unfolding body_bytes numbers_of
body_splits body number =
    front_apart (front_of body) (to_be_bytes w64 body.epoch) (to_be_bytes w64 number) (mark_bytes body.tail)
    (mark_bytes body.head) filler

length-numbers_of : (body : CommitBody) (number : ℕ) → length (numbers_of body number) ≡ 488
unfolding numbers_of
length-numbers_of body number =
    length-append (to_be_bytes w64 body.epoch ++ to_be_bytes w64 number ++ mark_bytes body.tail ++ mark_bytes body.head) filler
    ∙ ap (λ n. 48 + n) length-filler

length-body : (body : CommitBody) (number : ℕ) → length (body_bytes body number) ≡ 496 + length body.uuid
length-body body number =
    let front = length-append (codes "LSVDCMT1") body.uuid in
    let whole = ap length (body_splits body number) ∙ length-append (front_of body) (numbers_of body number) in
    omega (arith, front, whole, length-numbers_of body number)

pub is_one_sector : IsOneSector
is_one_sector body number size = omega (arith, length-body body number, size)

-- ---- the numbers after the uuid

epoch_of : (body : CommitBody) (number : ℕ) → body.epoch < 2 ^ 64 → number_at w64 0 (numbers_of body number) ≡ body.epoch
unfolding numbers_of
epoch_of body number fits = from_be_bytes-to_be_bytes_8 body.epoch fits

commit_of : (body : CommitBody) (number : ℕ) → number < 2 ^ 64 → number_at w64 8 (numbers_of body number) ≡ number
unfolding numbers_of
commit_of body number fits = from_be_bytes-to_be_bytes_8 number fits

tail_position_of : (body : CommitBody) (number : ℕ) → body.tail.position < 2 ^ 64
    → number_at w64 16 (numbers_of body number) ≡ body.tail.position
unfolding numbers_of
tail_position_of body number fits = from_be_bytes-to_be_bytes_8 body.tail.position fits

tail_seq_of : (body : CommitBody) (number : ℕ) → body.tail.seq < 2 ^ 64
    → number_at w64 24 (numbers_of body number) ≡ body.tail.seq
unfolding numbers_of
tail_seq_of body number fits = from_be_bytes-to_be_bytes_8 body.tail.seq fits

head_position_of : (body : CommitBody) (number : ℕ) → body.head.position < 2 ^ 64
    → number_at w64 32 (numbers_of body number) ≡ body.head.position
unfolding numbers_of
head_position_of body number fits = from_be_bytes-to_be_bytes_8 body.head.position fits

head_seq_of : (body : CommitBody) (number : ℕ) → body.head.seq < 2 ^ 64
    → number_at w64 40 (numbers_of body number) ≡ body.head.seq
unfolding numbers_of
head_seq_of body number fits = from_be_bytes-to_be_bytes_8 body.head.seq fits

-- a body but for the zeros
abbrev head_of : CommitBody → ℕ → List ℕ
head_of body number =
    codes "LSVDCMT1"
    ++ body.uuid
    ++ to_be_bytes w64 body.epoch
    ++ to_be_bytes w64 number
    ++ mark_bytes body.tail
    ++ mark_bytes body.head

-- ---- a sector is one body

-- two lists with ends of one length that are one list have one front and one end
same_front : (a b c d : List ℕ) → length b ≡ length d → a ++ b ≡ c ++ d → a ≡ c
same_front a b c d ends same =
    let size : length c ≡ length a = omega (arith, ap length same, length-append a b, length-append c d, ends) in
    sym (take_at a b (length a) refl) ∙ ap (take (length a)) same ∙ take_at c d (length a) size

same_end : (a b c d : List ℕ) → length b ≡ length d → a ++ b ≡ c ++ d → b ≡ d
same_end a b c d ends same =
    let size : length c ≡ length a = omega (arith, ap length same, length-append a b, length-append c d, ends) in
    sym (drop_at a b (length a) refl) ∙ ap (drop (length a)) same ∙ drop_at c d (length a) size

-- the body with these parts
abbrev body_with : List ℕ → (epoch tail_position tail_seq head_position head_seq : ℕ) → CommitBody
body_with uuid epoch tail_position tail_seq head_position head_seq = record {
  uuid = uuid;
  epoch = epoch;
  tail = record { position = tail_position; seq = tail_seq };
  head = record { position = head_position; seq = head_seq };
}

-- bodies with the same parts are one body
same_body : (a b : CommitBody) → a.uuid ≡ b.uuid → a.epoch ≡ b.epoch
    → a.tail.position ≡ b.tail.position → a.tail.seq ≡ b.tail.seq
    → a.head.position ≡ b.head.position → a.head.seq ≡ b.head.seq
    → a ≡ b
same_body a b uuid epoch tail_position tail_seq head_position head_seq =
    ap (λ x. body_with x a.epoch a.tail.position a.tail.seq a.head.position a.head.seq) uuid
    ∙ ap (λ x. body_with b.uuid x a.tail.position a.tail.seq a.head.position a.head.seq) epoch
    ∙ ap (λ x. body_with b.uuid b.epoch x a.tail.seq a.head.position a.head.seq) tail_position
    ∙ ap (λ x. body_with b.uuid b.epoch b.tail.position x a.head.position a.head.seq) tail_seq
    ∙ ap (λ x. body_with b.uuid b.epoch b.tail.position b.tail.seq x a.head.seq) head_position
    ∙ ap (λ x. body_with b.uuid b.epoch b.tail.position b.tail.seq b.head.position x) head_seq

pub determines_body : DeterminesBody
determines_body a b m n fits fits' same =
    let ends = length-numbers_of a m ∙ sym (length-numbers_of b n) in
    let parts = sym (body_splits a m) ∙ same ∙ body_splits b n in
    let front = same_front (front_of a) (numbers_of a m) (front_of b) (numbers_of b n) ends parts in
    let numbers = same_end (front_of a) (numbers_of a m) (front_of b) (numbers_of b n) ends parts in
    let read : (at : ℕ) → number_at w64 at (numbers_of a m) ≡ number_at w64 at (numbers_of b n) =
    λ at. ap (number_at w64 at) numbers in (
      same_body a b (ap (drop 8) front)
          (sym (epoch_of a m fits.epoch) ∙ read 0 ∙ epoch_of b n fits'.epoch)
          (sym (tail_position_of a m fits.tail.position) ∙ read 16 ∙ tail_position_of b n fits'.tail.position)
          (sym (tail_seq_of a m fits.tail.seq) ∙ read 24 ∙ tail_seq_of b n fits'.tail.seq)
          (sym (head_position_of a m fits.head.position) ∙ read 32 ∙ head_position_of b n fits'.head.position)
          (sym (head_seq_of a m fits.head.seq) ∙ read 40 ∙ head_seq_of b n fits'.head.seq),
      sym (commit_of a m fits.commit) ∙ read 8 ∙ commit_of b n fits'.commit,
    )

-- ---- a body has the magic and the zeros

pub magic-body : (body : CommitBody) (number : ℕ) → take 8 (body_bytes body number) ≡ codes "LSVDCMT1"
magic-body body number = ap (take 8) (body_splits body number)

filler-numbers : (body : CommitBody) (number : ℕ) → drop 48 (numbers_of body number) ≡ filler
unfolding numbers_of
filler-numbers body number = refl

pub filler-body : (body : CommitBody) (number : ℕ) → length (body_bytes body number) ≡ 512
    → drop 72 (body_bytes body number) ≡ filler
filler-body body number whole =
    let front : length (front_of body) ≡ 24 =
    omega (arith, length-append (codes "LSVDCMT1") body.uuid, length-body body number, whole) in
    ap (drop 72) (body_splits body number)
    ∙ sym (drop-drop 48 24 (front_of body ++ numbers_of body number))
    ∙ ap (drop 48) (drop_at (front_of body) (numbers_of body number) 24 front)
    ∙ filler-numbers body number

-- ---- a sector with the magic and the zeros has the bytes of the body that is read in it

-- each element is a byte
abbrev pub IsBytes : List ℕ → Type 0
IsBytes bytes = (i : ℕ) → get_or bytes i 0 < 256

bytes_of_part : (at count : ℕ) (bytes : List ℕ) → IsBytes bytes → IsBytes (take count (drop at bytes))
bytes_of_part at count bytes fits i =
    elim (cases_lt i count) [
      | inl inside ↦ rw (get_or-take count (drop at bytes) i 0 inside, get_or-drop at bytes i 0) (fits (at + i))
      | inr past ↦ rw (get_or_past (take count (drop at bytes)) i 0 (omega (arith, length-take count (drop at bytes), past)))
          (omega arith)
    ]

-- a number is written as the eight bytes that it was read in
part_of_u64 : (at : ℕ) (bytes : List ℕ) → at + 8 ≤ length bytes → IsBytes bytes
    → take 8 (drop at bytes) ≡ to_be_bytes w64 (number_at w64 at bytes)
part_of_u64 at bytes room fits =
    sym (be_bytes_8 (take 8 (drop at bytes)) (number_at w64 at bytes)
    (length-take-le 8 (drop at bytes) (omega (arith, length-drop at bytes, room)))
    (bytes_of_part at 8 bytes fits) refl)

-- a front and the part after it are a longer front
front_more : (at count : ℕ) (bytes front part : List ℕ) → take at bytes ≡ front → take count (drop at bytes) ≡ part
    → take (at + count) bytes ≡ front ++ part
front_more at count bytes front part is_front is_part =
    take-add at count bytes ∙ ap (λ xs. xs ++ take count (drop at bytes)) is_front ∙ ap (λ xs. front ++ xs) is_part

-- the same of the two numbers of a mark
front_mark : (at : ℕ) (bytes front : List ℕ) → at + 16 ≤ length bytes → IsBytes bytes → take at bytes ≡ front
    → take (at + 16) bytes ≡ front ++ mark_bytes (mark_in at bytes)
front_mark at bytes front room fits is_front =
    let position = to_be_bytes w64 (number_at w64 at bytes) in
    let seq = to_be_bytes w64 (number_at w64 (at + 8) bytes) in
    let to_position = front_more at 8 bytes front position is_front (part_of_u64 at bytes (omega (arith, room)) fits) in
    let to_seq = front_more (at + 8) 8 bytes (front ++ position) seq to_position
    (part_of_u64 (at + 8) bytes (omega (arith, room)) fits) in
    let end : at + 16 ≡ at + 8 + 8 = omega arith in
    ap (λ n. take n bytes) end ∙ to_seq ∙ append_assoc front position seq

pub body_of_parts : (sector : List ℕ) → length sector ≡ 512 → IsBytes sector → take 8 sector ≡ codes "LSVDCMT1"
    → drop 72 sector ≡ filler → sector ≡ body_bytes (body_in sector) (number_in sector)
unfolding body_bytes
body_of_parts sector size fits magic zeros =
    let to_uuid = front_more 8 16 sector (codes "LSVDCMT1") (take 16 (drop 8 sector)) magic refl in
    let to_epoch = front_more 24 8 sector _ _ to_uuid (part_of_u64 24 sector (omega (arith, size)) fits) in
    let to_number = front_more 32 8 sector _ _ to_epoch (part_of_u64 32 sector (omega (arith, size)) fits) in
    let to_tail = front_mark 40 sector _ (omega (arith, size)) fits to_number in
    let to_head = front_mark 56 sector _ (omega (arith, size)) fits to_tail in
    sym (take-append-drop 72 sector) ∙ ap (λ xs. xs ++ drop 72 sector) to_head
    ∙ ap (λ xs. head_of (body_in sector) (number_in sector) ++ xs) zeros

number_fits : (at : ℕ) (bytes : List ℕ) → IsBytes bytes → number_at w64 at bytes < 2 ^ 64
number_fits at bytes fits =
    let part = bytes_of_part at 8 bytes fits in
    omega (arith, part 0, part 1, part 2, part 3, part 4, part 5, part 6, part 7)

mark_fits : (at : ℕ) (bytes : List ℕ) → IsBytes bytes → IsMarkOf64Bits (mark_in at bytes)
mark_fits at bytes fits = record { position = number_fits at bytes fits; seq = number_fits (at + 8) bytes fits }

pub numbers_fit : (sector : List ℕ) → IsBytes sector → HasNumbersOf64Bits (body_in sector) (number_in sector)
numbers_fit sector fits = record {
  epoch = number_fits 24 sector fits;
  commit = number_fits 32 sector fits;
  tail = mark_fits 40 sector fits;
  head = mark_fits 56 sector fits;
}

-- ---- which sectors are bodies

-- a sector that passes each test is a body
pub body_if_passes : (sector : List ℕ) (log slot : ℕ) → length sector ≡ 512 → IsBytes sector
    → take 8 sector ≡ codes "LSVDCMT1" → drop 72 sector ≡ filler → number_in sector % 3 ≡ slot → MayStand (body_in sector) log
    → IsBody sector log slot (body_in sector) (number_in sector)
body_if_passes sector log slot size fits magic zeros in_slot may_stand = record {
  bytes = body_of_parts sector size fits magic zeros;
  in_slot = in_slot;
  may_stand = may_stand;
  numbers = numbers_fit sector fits;
}

-- a sector is no body in a slot of a log
abbrev pub IsNoBody : List ℕ → ℕ → ℕ → Type 0
IsNoBody sector log slot = (body : CommitBody) (number : ℕ) → IsBody sector log slot body number → ⊥

pub no_magic : (sector : List ℕ) (log slot : ℕ) → (take 8 sector ≡ codes "LSVDCMT1" → ⊥) → IsNoBody sector log slot
no_magic sector log slot failed body number is = failed (ap (take 8) is.bytes ∙ magic-body body number)

pub no_filler : (sector : List ℕ) (log slot : ℕ) → length sector ≡ 512 → (drop 72 sector ≡ filler → ⊥)
    → IsNoBody sector log slot
no_filler sector log slot size failed body number is =
    failed (ap (drop 72) is.bytes ∙ filler-body body number (sym (ap length is.bytes) ∙ size))

-- a body is the one that is read in its sector
is_read : (sector : List ℕ) (log slot : ℕ) (body : CommitBody) (number : ℕ) → length sector ≡ 512 → IsBytes sector
    → IsBody sector log slot body number → (body ≡ body_in sector) × (number ≡ number_in sector)
is_read sector log slot body number size fits is =
    let magic = ap (take 8) is.bytes ∙ magic-body body number in
    let zeros = ap (drop 72) is.bytes ∙ filler-body body number (sym (ap length is.bytes) ∙ size) in
    determines_body body (body_in sector) number (number_in sector) is.numbers (numbers_fit sector fits)
    (sym is.bytes ∙ body_of_parts sector size fits magic zeros)

pub no_slot : (sector : List ℕ) (log slot : ℕ) → length sector ≡ 512 → IsBytes sector
    → (number_in sector % 3 ≡ slot → ⊥) → IsNoBody sector log slot
no_slot sector log slot size fits failed body number is =
    failed (ap (λ n. n % 3) (sym (is_read sector log slot body number size fits is).1) ∙ is.in_slot)

pub no_place : (sector : List ℕ) (log slot : ℕ) → length sector ≡ 512 → IsBytes sector
    → (MayStand (body_in sector) log → ⊥) → IsNoBody sector log slot
no_place sector log slot size fits failed body number is =
    let P : CommitBody → Type 0 = λ b. MayStand b log in
    failed (subst P (is_read sector log slot body number size fits is).0 is.may_stand)

-- ---- the zeros after the numbers

-- the rest of a sector, as a slice of it shows it
abbrev pub rest : List ℕ → List ℕ
rest sector = take (length sector - 72) (drop 72 sector)

zeros_are : (sector : List ℕ) → length sector ≡ 512 → replicate (length (rest sector)) 0 ≡ filler
unfolding filler
zeros_are sector size =
    ap (λ n. replicate n 0) (ap length (take_rest sector 72) ∙ length-drop 72 sector ∙ ap (λ n. n - 72) size)

pub filler-from_zeros : (sector : List ℕ) → length sector ≡ 512
    → rest sector ≡ replicate (length (rest sector)) 0
    → drop 72 sector ≡ filler
filler-from_zeros sector size zeros = sym (take_rest sector 72) ∙ zeros ∙ zeros_are sector size

pub zeros-from_filler : (sector : List ℕ) → length sector ≡ 512 → drop 72 sector ≡ filler
    → rest sector ≡ replicate (length (rest sector)) 0
zeros-from_filler sector size is_filler = take_rest sector 72 ∙ is_filler ∙ sym (zeros_are sector size)

-- ---- writing

-- what is written after what was written is written with it
pub written_after : (at : ℕ) (a b old mid new : List ℕ) → at + length a + length b ≤ length old
    → mid ≡ take at old ++ a ++ drop (at + length a) old
    → new ≡ take (at + length a) mid ++ b ++ drop (at + length a + length b) mid
    → new ≡ take at old ++ (a ++ b) ++ drop (at + (length a + length b)) old
written_after at a b old mid new room is_mid is_new =
    let n = at + length a in
    let front = take at old ++ a in
    let size : length front ≡ n = length-append (take at old) a
    ∙ ap (λ k. k + length a) (length-take-le at old (omega (arith, room))) in
    let end : n + length b ≡ at + (length a + length b) = omega arith in
    let before : take n mid ≡ front = ap (take n) is_mid ∙ take_at front (drop n old) n size in
    let behind : drop (n + length b) mid ≡ drop (at + (length a + length b)) old =
    sym (drop-drop (length b) n mid)
    ∙ ap (drop (length b)) (ap (drop n) is_mid ∙ drop_at front (drop n old) n size)
    ∙ drop-drop (length b) n old
    ∙ ap (λ k. drop k old) end in
    is_new
    ∙ ap (λ xs. xs ++ b ++ drop (n + length b) mid) before
    ∙ ap (λ xs. front ++ b ++ xs) behind
    ∙ ap (λ xs. xs ++ drop (at + (length a + length b)) old) (append_assoc (take at old) a b)

-- a front with what is written after it is a longer front
pub written_front : (at count : ℕ) (front value old new : List ℕ) → take at old ≡ front → length front ≡ at
    → length value ≡ count → new ≡ take at old ++ value ++ drop (at + count) old
    → take (at + count) new ≡ front ++ value
written_front at count front value old new is_front front_size value_size is_new =
    let size : length (take at old ++ value) ≡ at + count =
    length-append (take at old) value ∙ ap (λ n. n + length value) (ap length is_front ∙ front_size)
    ∙ ap (λ n. at + n) value_size in
    ap (take (at + count)) is_new
    ∙ take_at (take at old ++ value) (drop (at + count) old) (at + count) size
    ∙ ap (λ xs. xs ++ value) is_front

-- what is written from a place to the end of a list
written_to_end : (at : ℕ) (list part : List ℕ) → at ≤ length list
    → put_mid at (length list - at) list part ≡ take at list ++ part
written_to_end at list part room =
    ap (λ xs. take at list ++ (part ++ xs)) (drop_all (length list - at) (drop at list) (omega (arith, length-drop at list)))
    ∙ ap (λ xs. take at list ++ xs) (append-nil part)

-- zeros after the numbers make the body
pub filled_body : (body : CommitBody) (number : ℕ) (bytes zeros : List ℕ) → length bytes ≡ 512
    → take 72 bytes ≡ head_of body number
    → zeros ≡ replicate (length (rest bytes)) 0
    → put_mid 72 (length bytes - 72) bytes zeros ≡ body_bytes body number
unfolding body_bytes
filled_body body number bytes zeros size is_head is_zeros =
    written_to_end 72 bytes zeros (omega (arith, size))
    ∙ ap (λ xs. xs ++ zeros) is_head
    ∙ ap (λ xs. head_of body number ++ xs) (is_zeros ∙ zeros_are bytes size)
