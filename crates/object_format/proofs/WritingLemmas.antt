-- What writes one after the other leave, and what an object's front has after them.
use Rattle.std.proofs.Common.{◌≡◌, ℕ, ◌+◌, ◌-◌, ◌*◌, ◌≤◌, List, ◌++◌, length, take, drop, replicate, sym, ◌∙◌, ap, append_assoc}
use Rattle.std.proofs.Common.{arith}
use Rattle.std.proofs.lemmas.List.{length-append, length-take-le, length-drop, take_at, drop_at, drop_all, drop-drop, append-nil}
use Rattle.std.proofs.lemmas.List.{take_rest}
use Rattle.std.proofs.lemmas.Slice.{take-put_mid}
use borrow.Rule.Slice.PartMut.{put_mid}
use Rattle.object_format.specs.declared.header.Header.{Header}
use Rattle.object_format.specs.declared.rows.Rows.{Rows}
use Rattle.object_format.specs.Layout.{rows_end, front_sectors, padding}
use Rattle.object_format.specs.Header.{header_bytes}
use Rattle.object_format.specs.Rows.{rows_bytes}
use Rattle.object_format.specs.Writing.{front_bytes}

-- what is written after what was written is written with it
pub written_after : (at : ℕ) (a b old mid new : List ℕ) → at + length a + length b ≤ length old
    → mid ≡ take at old ++ a ++ drop (at + length a) old
    → new ≡ take (at + length a) mid ++ b ++ drop (at + length a + length b) mid
    → new ≡ take at old ++ (a ++ b) ++ drop (at + (length a + length b)) old
written_after at a b old mid new room is_mid is_new =
    let n = at + length a in
    let front = take at old ++ a in
    let size : length front ≡ n = length-append (take at old) a
    ∙ ap (λ k. k + length a) (length-take-le at old (omega (arith, room))) in
    let end : n + length b ≡ at + (length a + length b) = omega arith in
    let before : take n mid ≡ front = ap (take n) is_mid ∙ take_at front (drop n old) n size in
    let behind : drop (n + length b) mid ≡ drop (at + (length a + length b)) old =
    sym (drop-drop (length b) n mid)
    ∙ ap (drop (length b)) (ap (drop n) is_mid ∙ drop_at front (drop n old) n size)
    ∙ drop-drop (length b) n old
    ∙ ap (λ k. drop k old) end in
    is_new
    ∙ ap (λ xs. xs ++ b ++ drop (n + length b) mid) before
    ∙ ap (λ xs. front ++ b ++ xs) behind
    ∙ ap (λ xs. xs ++ drop (at + (length a + length b)) old) (append_assoc (take at old) a b)

-- a front with what is written after it is a longer front
pub written_front : (at count : ℕ) (front value old new : List ℕ) → take at old ≡ front → length front ≡ at
    → length value ≡ count → new ≡ take at old ++ value ++ drop (at + count) old
    → take (at + count) new ≡ front ++ value
written_front at count front value old new is_front front_size value_size is_new =
    let size : length (take at old ++ value) ≡ at + count =
    length-append (take at old) value ∙ ap (λ n. n + length value) (ap length is_front ∙ front_size)
    ∙ ap (λ n. at + n) value_size in
    ap (take (at + count)) is_new
    ∙ take_at (take at old ++ value) (drop (at + count) old) (at + count) size
    ∙ ap (λ xs. xs ++ value) is_front

-- what is written from a place to the end of a list
written_to_end : (at : ℕ) (list part : List ℕ) → at ≤ length list
    → put_mid at (length list - at) list part ≡ take at list ++ part
written_to_end at list part room =
    ap (λ xs. take at list ++ (part ++ xs)) (drop_all (length list - at) (drop at list) (omega (arith, length-drop at list)))
    ∙ ap (λ xs. take at list ++ xs) (append-nil part)

-- the front after the header and the rows were written
abbrev with_rows : ℕ → (old head part : List ℕ) → List ℕ
with_rows at old head part = put_mid 64 (at - 64) (head ++ drop 64 old) part

length-with_rows : (at : ℕ) (old head part : List ℕ) → 64 ≤ at → at ≤ length old → length head ≡ 64 → length part ≡ at - 64
    → length (with_rows at old head part) ≡ length old
length-with_rows at old head part low room head_size part_size =
    let whole = head ++ drop 64 old in
    omega (
      arith,
      length-append (take 64 whole) (part ++ drop (at - 64) (drop 64 whole)),
      length-take-le 64 whole (omega (arith, length-append head (drop 64 old), head_size)),
      length-append part (drop (at - 64) (drop 64 whole)),
      length-drop (at - 64) (drop 64 whole),
      length-drop 64 whole,
      length-append head (drop 64 old),
      length-drop 64 old,
      head_size,
      part_size,
    )

take-with_rows : (at : ℕ) (old head part : List ℕ) → 64 ≤ at → length head ≡ 64 → length part ≡ at - 64
    → take at (with_rows at old head part) ≡ head ++ part
take-with_rows at old head part low head_size part_size =
    let whole = head ++ drop 64 old in
    take-put_mid 64 (at - 64) whole part at (omega (arith, part_size, low))
    (omega (arith, length-append head (drop 64 old), head_size))
    ∙ ap (λ xs. xs ++ part) (take_at head (drop 64 old) 64 head_size)

-- the part of the front into which the rows are written
pub length-row_slot : (at : ℕ) (old head : List ℕ) → at ≤ length old → length head ≡ 64
    → length (take (at - 64) (drop 64 (head ++ drop 64 old))) ≡ at - 64
length-row_slot at old head room size =
    length-take-le (at - 64) (drop 64 (head ++ drop 64 old))
    (omega (arith, length-drop 64 (head ++ drop 64 old), length-append head (drop 64 old), length-drop 64 old, size, room))

same_parts : (a b c x y z : List ℕ) → a ≡ x → b ≡ y → c ≡ z → a ++ b ++ c ≡ x ++ y ++ z
same_parts a b c x y z first second third =
    ap (λ xs. xs ++ b ++ c) first ∙ ap (λ xs. x ++ xs ++ c) second ∙ ap (λ xs. x ++ y ++ xs) third

-- the header, the rows and zeros, written one after the other, are the front of an object
pub front_if_written : (header : Header) (rows : Rows) (at : ℕ) (old head part zeros : List ℕ) → at ≡ rows_end header
    → length old ≡ 512 * front_sectors header → length head ≡ 64 → length part ≡ at - 64
    → head ≡ header_bytes header → part ≡ rows_bytes rows
    → zeros ≡ replicate (length (take (length (with_rows at old head part) - at) (drop at (with_rows at old head part)))) 0
    → put_mid at (length (with_rows at old head part) - at) (with_rows at old head part) zeros ≡ front_bytes header rows
front_if_written header rows at old head part zeros is_at size head_size part_size is_head is_part is_zeros =
    let list = with_rows at old head part in
    let low : 64 ≤ at = omega (arith, is_at) in
    let room : at ≤ length old = omega (arith, is_at, size) in
    let whole : length list ≡ length old = length-with_rows at old head part low room head_size part_size in
    let count : length (take (length list - at) (drop at list)) ≡ padding header =
    ap length (take_rest list at) ∙ length-drop at list ∙ omega (arith, whole, is_at, size) in
    written_to_end at list zeros (omega (arith, whole, room))
    ∙ ap (λ xs. xs ++ zeros) (take-with_rows at old head part low head_size part_size)
    ∙ same_parts head part zeros (header_bytes header) (rows_bytes rows) (replicate (padding header) 0) is_head is_part
    (is_zeros ∙ ap (λ n. replicate n 0) count)
