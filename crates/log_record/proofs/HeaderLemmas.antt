-- The bytes of a header, and the numbers that are read in them.
use Rattle.std.proofs.Common.{◌≡◌, ℕ, ◌+◌, ◌-◌, ◌^◌, ◌<◌, ◌≤◌, List, [], ◌++◌, length, take, drop, replicate, get_or, codes, refl}
use Rattle.std.proofs.Common.{sym, ◌∙◌, ap, append-nil, inl, inr, arith}
use Rattle.std.proofs.lemmas.Bool.{cases_lt}
use Rattle.std.proofs.lemmas.List.{length-append, length-replicate, length-take, length-take-le, length-drop, take_at, drop_all}
use Rattle.std.proofs.lemmas.List.{take_rest, take-append-drop, get_or-take, get_or-drop, get_or_past}
use Rattle.std.proofs.lemmas.Nat.{be_bytes_4, be_bytes_8, from_be_bytes-to_be_bytes_4, from_be_bytes-to_be_bytes_8}
use Rattle.std.proofs.Math.Seq.{take-add}
use borrow.Rule.Slice.PartMut.{put_mid}
use Rattle.std.specs.Int.{w32, w64, from_be_bytes, to_be_bytes}
use Rattle.log_record.specs.declared.head.Head.{Head}
use Rattle.log_record.specs.declared.head.Head.TheVariants.{Write, Zero, Pad}
use Rattle.log_record.specs.Numbers.{kind_of, lba_of, sectors_of, kind_in, seq_in, lba_in, sectors_in, HasNumbers, filler}
use Rattle.log_record.specs.Grammar.{header, header_of, IsHeaderOf}

-- ---- the one spelling of a header

pub spelled : (head : Head) (seq : ℕ) (sector : List ℕ) → IsHeaderOf head seq sector → sector ≡ header_of head seq
unfolding IsHeaderOf
spelled head seq sector is = is

pub is_spelled : (head : Head) (seq : ℕ) (sector : List ℕ) → sector ≡ header_of head seq → IsHeaderOf head seq sector
unfolding IsHeaderOf
is_spelled head seq sector is = is

-- ---- lengths

pub length-filler : length filler ≡ 476
unfolding filler
length-filler = length-replicate {A = ℕ} 476 0

-- a header but for the zeros
abbrev pub front : (kind seq lba sectors : ℕ) → List ℕ
front kind seq lba sectors =
    codes "LSVDREC1" ++ to_be_bytes w32 kind ++ to_be_bytes w64 seq ++ to_be_bytes w64 lba ++ to_be_bytes w64 sectors

pub length-header : (kind seq lba sectors : ℕ) → length (header kind seq lba sectors) ≡ 512
unfolding header
length-header kind seq lba sectors =
    length-append (front kind seq lba sectors) filler ∙ ap (λ n. length (front kind seq lba sectors) + n) length-filler

-- ---- reading

pub kind_in-header : (kind seq lba sectors : ℕ) (rest : List ℕ) → kind < 2 ^ 32
    → kind_in (header kind seq lba sectors ++ rest) ≡ kind
unfolding header
kind_in-header kind seq lba sectors rest fits = from_be_bytes-to_be_bytes_4 kind fits

pub seq_in-header : (kind seq lba sectors : ℕ) (rest : List ℕ) → seq < 2 ^ 64
    → seq_in (header kind seq lba sectors ++ rest) ≡ seq
unfolding header
seq_in-header kind seq lba sectors rest fits = from_be_bytes-to_be_bytes_8 seq fits

pub lba_in-header : (kind seq lba sectors : ℕ) (rest : List ℕ) → lba < 2 ^ 64
    → lba_in (header kind seq lba sectors ++ rest) ≡ lba
unfolding header
lba_in-header kind seq lba sectors rest fits = from_be_bytes-to_be_bytes_8 lba fits

pub sectors_in-header : (kind seq lba sectors : ℕ) (rest : List ℕ) → sectors < 2 ^ 64
    → sectors_in (header kind seq lba sectors ++ rest) ≡ sectors
unfolding header
sectors_in-header kind seq lba sectors rest fits = from_be_bytes-to_be_bytes_8 sectors fits

pub magic-header : (kind seq lba sectors : ℕ) → take 8 (header kind seq lba sectors) ≡ codes "LSVDREC1"
unfolding header
magic-header kind seq lba sectors = refl

pub filler-header : (kind seq lba sectors : ℕ) → drop 36 (header kind seq lba sectors) ≡ filler
unfolding header
filler-header kind seq lba sectors = refl

kind_fits : (head : Head) → kind_of head < 2 ^ 32
kind_fits (Write lba sectors) = omega arith
kind_fits (Zero lba sectors) = omega arith
kind_fits (Pad sectors) = omega arith

-- the numbers that stand in a header are those that it was made of
pub HasNumbers-header_of : (head : Head) (seq : ℕ) → lba_of head < 2 ^ 64 → sectors_of head < 2 ^ 64
    → HasNumbers (header_of head seq) head
HasNumbers-header_of head seq lba sectors =
    let bytes = header_of head seq in
    let whole : bytes ++ [] ≡ bytes = append-nil bytes in
    record {
      kind = ap kind_in (sym whole) ∙ kind_in-header (kind_of head) seq (lba_of head) (sectors_of head) [] (kind_fits head);
      lba = ap lba_in (sym whole) ∙ lba_in-header (kind_of head) seq (lba_of head) (sectors_of head) [] lba;
      sectors = ap sectors_in (sym whole) ∙ sectors_in-header (kind_of head) seq (lba_of head) (sectors_of head) [] sectors;
    }

-- numbers are those of one head
pub one_head : (sector : List ℕ) (a b : Head) → HasNumbers sector a → HasNumbers sector b → a ≡ b
one_head sector (Write lba sectors) (Write lba' sectors') h k = cc
one_head sector (Write lba sectors) (Zero lba' sectors') h k = absurd (omega (arith, h.kind, k.kind))
one_head sector (Write lba sectors) (Pad sectors') h k = absurd (omega (arith, h.kind, k.kind))
one_head sector (Zero lba sectors) (Write lba' sectors') h k = absurd (omega (arith, h.kind, k.kind))
one_head sector (Zero lba sectors) (Zero lba' sectors') h k = cc
one_head sector (Zero lba sectors) (Pad sectors') h k = absurd (omega (arith, h.kind, k.kind))
one_head sector (Pad sectors) (Write lba' sectors') h k = absurd (omega (arith, h.kind, k.kind))
one_head sector (Pad sectors) (Zero lba' sectors') h k = absurd (omega (arith, h.kind, k.kind))
one_head sector (Pad sectors) (Pad sectors') h k = cc

-- ---- a sector with the parts of a header is that header

-- each element is a byte
abbrev pub IsBytes : List ℕ → Type 0
IsBytes bytes = (i : ℕ) → get_or bytes i 0 < 256

bytes_of_part : (at count : ℕ) (bytes : List ℕ) → IsBytes bytes → IsBytes (take count (drop at bytes))
bytes_of_part at count bytes fits i =
    elim (cases_lt i count) [
      | inl inside ↦ rw (get_or-take count (drop at bytes) i 0 inside, get_or-drop at bytes i 0) (fits (at + i))
      | inr past ↦ rw (get_or_past (take count (drop at bytes)) i 0 (omega (arith, length-take count (drop at bytes), past)))
          (omega arith)
    ]

length_of_part : (at count : ℕ) (bytes : List ℕ) → at + count ≤ length bytes → length (take count (drop at bytes)) ≡ count
length_of_part at count bytes room = length-take-le count (drop at bytes) (omega (arith, length-drop at bytes, room))

part_of_u32 : (at number : ℕ) (bytes : List ℕ) → at + 4 ≤ length bytes → IsBytes bytes
    → from_be_bytes w32 (take 4 (drop at bytes)) ≡ number → take 4 (drop at bytes) ≡ to_be_bytes w32 number
part_of_u32 at number bytes room fits read =
    sym (be_bytes_4 (take 4 (drop at bytes)) number (length_of_part at 4 bytes room) (bytes_of_part at 4 bytes fits) (sym read))

part_of_u64 : (at number : ℕ) (bytes : List ℕ) → at + 8 ≤ length bytes → IsBytes bytes
    → from_be_bytes w64 (take 8 (drop at bytes)) ≡ number → take 8 (drop at bytes) ≡ to_be_bytes w64 number
part_of_u64 at number bytes room fits read =
    sym (be_bytes_8 (take 8 (drop at bytes)) number (length_of_part at 8 bytes room) (bytes_of_part at 8 bytes fits) (sym read))

-- a front and the part after it are a longer front
front_more : (at count : ℕ) (bytes front part : List ℕ) → take at bytes ≡ front → take count (drop at bytes) ≡ part
    → take (at + count) bytes ≡ front ++ part
front_more at count bytes front part is_front is_part =
    take-add at count bytes ∙ ap (λ xs. xs ++ take count (drop at bytes)) is_front ∙ ap (λ xs. front ++ xs) is_part

-- what is in a sector that is a header of these numbers
pub record HasParts (sector : List ℕ) (kind seq lba sectors : ℕ) : Type 0 where
  pub of_magic : take 8 sector ≡ codes "LSVDREC1"
  pub of_kind : kind_in sector ≡ kind
  pub of_seq : seq_in sector ≡ seq
  pub of_lba : lba_in sector ≡ lba
  pub of_sectors : sectors_in sector ≡ sectors
  pub of_zeros : drop 36 sector ≡ filler

pub header_of_parts : (sector : List ℕ) (kind seq lba sectors : ℕ) → length sector ≡ 512 → IsBytes sector
    → HasParts sector kind seq lba sectors → sector ≡ header kind seq lba sectors
unfolding header
header_of_parts sector kind seq lba sectors size fits parts =
    let to_kind = front_more 8 4 sector _ _ parts.of_magic (part_of_u32 8 kind sector (omega (arith, size)) fits parts.of_kind) in
    let to_seq = front_more 12 8 sector _ _ to_kind (part_of_u64 12 seq sector (omega (arith, size)) fits parts.of_seq) in
    let to_lba = front_more 20 8 sector _ _ to_seq (part_of_u64 20 lba sector (omega (arith, size)) fits parts.of_lba) in
    let to_sectors = front_more 28 8 sector _ _ to_lba (part_of_u64 28 sectors sector (omega (arith, size)) fits
    parts.of_sectors) in
    sym (take-append-drop 36 sector) ∙ ap (λ xs. xs ++ drop 36 sector) to_sectors
    ∙ ap (λ xs. front kind seq lba sectors ++ xs) parts.of_zeros

-- ---- the zeros after the numbers

-- the rest of a sector, as a slice of it shows it
abbrev pub rest : List ℕ → List ℕ
rest sector = take (length sector - 36) (drop 36 sector)

zeros_are : (sector : List ℕ) → length sector ≡ 512 → replicate (length (rest sector)) 0 ≡ filler
unfolding filler
zeros_are sector size =
    ap (λ n. replicate n 0) (ap length (take_rest sector 36) ∙ length-drop 36 sector ∙ ap (λ n. n - 36) size)

pub filler-from_zeros : (sector : List ℕ) → length sector ≡ 512
    → rest sector ≡ replicate (length (rest sector)) 0
    → drop 36 sector ≡ filler
filler-from_zeros sector size zeros = sym (take_rest sector 36) ∙ zeros ∙ zeros_are sector size

pub zeros-from_filler : (sector : List ℕ) → length sector ≡ 512 → drop 36 sector ≡ filler
    → rest sector ≡ replicate (length (rest sector)) 0
zeros-from_filler sector size is_filler = take_rest sector 36 ∙ is_filler ∙ sym (zeros_are sector size)

-- ---- writing

-- a front with what is written after it is a longer front
pub written_front : (at : ℕ) (front value old new : List ℕ) → take at old ≡ front → length front ≡ at
    → new ≡ take at old ++ value ++ drop (at + length value) old
    → take (at + length value) new ≡ front ++ value
written_front at front value old new is_front front_size is_new =
    let size : length (take at old ++ value) ≡ at + length value = length-append (take at old) value
    ∙ ap (λ n. n + length value) (ap length is_front ∙ front_size) in
    ap (take (at + length value)) is_new
    ∙ take_at (take at old ++ value) (drop (at + length value) old) (at + length value) size
    ∙ ap (λ xs. xs ++ value) is_front

-- what is written from a place to the end of a list
pub written_to_end : (at : ℕ) (list part : List ℕ) → at ≤ length list
    → put_mid at (length list - at) list part ≡ take at list ++ part
written_to_end at list part room =
    ap (λ xs. take at list ++ (part ++ xs)) (drop_all (length list - at) (drop at list) (omega (arith, length-drop at list)))
    ∙ ap (λ xs. take at list ++ xs) (append-nil part)

-- zeros after the numbers make the header
pub filled_header : (kind seq lba sectors : ℕ) (bytes zeros : List ℕ) → length bytes ≡ 512
    → take 36 bytes ≡ front kind seq lba sectors
    → zeros ≡ replicate (length (rest bytes)) 0
    → put_mid 36 (length bytes - 36) bytes zeros ≡ header kind seq lba sectors
unfolding header
filled_header kind seq lba sectors bytes zeros size is_front is_zeros =
    written_to_end 36 bytes zeros (omega (arith, size))
    ∙ ap (λ xs. xs ++ zeros) is_front
    ∙ ap (λ xs. front kind seq lba sectors ++ xs) (is_zeros ∙ zeros_are bytes size)

-- headers of the same numbers
pub header-same : (k k' seq l l' n n' : ℕ) → k ≡ k' → l ≡ l' → n ≡ n' → header k seq l n ≡ header k' seq l' n'
header-same k k' seq l l' n n' kind lba sectors =
    ap (λ x. header x seq l n) kind ∙ ap (λ x. header k' seq x n) lba ∙ ap (λ x. header k' seq l' x) sectors
