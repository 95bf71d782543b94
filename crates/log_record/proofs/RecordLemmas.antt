-- Records and their entries.
use Rattle.std.proofs.Common.{◌≡◌, ℕ, ◌-◌, ◌*◌, ◌/◌, ◌^◌, ◌<◌, ◌≤◌, List, [], ◌++◌, length, take, drop, sym, ◌∙◌, ap, arith}
use Rattle.std.proofs.lemmas.List.{length-append, length-take-le, take_at, drop_at, drop_all}
use borrow.Rule.Slice.PartMut.{put_mid}
use Rattle.lsvd_base.specs.declared.entry.Entry.{Entry}
use Rattle.lsvd_base.specs.declared.entry.Entry.TheVariants.{Write, Zero}
use Rattle.log_room.specs.Room.{record_sectors}
use Rattle.log_record.specs.Numbers.{kind_of, lba_of, sectors_of, kind_in, seq_in, lba_in, sectors_in}
use Rattle.log_record.specs.Grammar.{header, header_of, head_of, data_of, record_of, IsHeaderOf, IsRecordOf}
use Rattle.log_record.specs.Laws.{HasWholeSectors, HasOneSector, HasItsSectors, IsHeaderAndData, HasNumbersOf64Bits}
use Rattle.log_record.specs.Laws.{DeterminesEntry}
use Rattle.log_record.proofs.HeaderLemmas.{spelled, is_spelled, written_to_end, length-header, kind_in-header, seq_in-header}
use Rattle.log_record.proofs.HeaderLemmas.{lba_in-header, sectors_in-header}

-- ---- the one spelling of a record

record_spelled : (entry : Entry) (seq : ℕ) (bytes : List ℕ) → IsRecordOf entry seq bytes → bytes ≡ record_of entry seq
unfolding IsRecordOf
record_spelled entry seq bytes is = is

is_record : (entry : Entry) (seq : ℕ) (bytes : List ℕ) → bytes ≡ record_of entry seq → IsRecordOf entry seq bytes
unfolding IsRecordOf
is_record entry seq bytes is = is

pub has_one_sector : HasOneSector
has_one_sector head seq sector is = ap length (spelled head seq sector is)
    ∙ length-header (kind_of head) seq (lba_of head) (sectors_of head)

whole_record : (entry : Entry) (seq : ℕ) → HasWholeSectors entry → length (record_of entry seq) ≡ 512 * record_sectors entry
whole_record (Write lba body) seq whole =
    let size = length-append (header 1 seq lba (length body / 512)) body in
    omega (arith, size, length-header 1 seq lba (length body / 512), whole)
whole_record (Zero lba sectors) seq whole =
    let size = length-append (header 2 seq lba sectors) [] in
    omega (arith, size, length-header 2 seq lba sectors)

pub has_its_sectors : HasItsSectors
has_its_sectors entry seq bytes whole is = ap length (record_spelled entry seq bytes is) ∙ whole_record entry seq whole

-- ---- a header, and data

parts_of : (entry : Entry) (seq : ℕ) (sector rest : List ℕ) → length sector ≡ 512 → sector ++ rest ≡ record_of entry seq
    → (sector ≡ header_of (head_of entry) seq) × (rest ≡ data_of entry)
parts_of entry seq sector rest size same =
    let head : List ℕ = header_of (head_of entry) seq in
    let many = length-header (kind_of (head_of entry)) seq (lba_of (head_of entry)) (sectors_of (head_of entry)) in (
      sym (take_at sector rest 512 size) ∙ ap (take 512) same ∙ take_at head (data_of entry) 512 many,
      sym (drop_at sector rest 512 size) ∙ ap (drop 512) same ∙ drop_at head (data_of entry) 512 many,
    )

pub is_header_and_data : IsHeaderAndData
is_header_and_data entry seq sector rest size = (
  (λ is. let parts = parts_of entry seq sector rest size (record_spelled entry seq (sector ++ rest) is) in
      (is_spelled (head_of entry) seq sector parts.0, parts.1)),
  (λ parts. is_record entry seq (sector ++ rest) (ap (λ xs. xs ++ rest) (spelled (head_of entry) seq sector parts.0)
      ∙ ap (λ xs. header_of (head_of entry) seq ++ xs) parts.1)),
)

-- ---- headers with something after them

same_kind : (k s l n k' s' l' n' : ℕ) (rest rest' : List ℕ) → k < 2 ^ 32 → k' < 2 ^ 32
    → header k s l n ++ rest ≡ header k' s' l' n' ++ rest' → k ≡ k'
same_kind k s l n k' s' l' n' rest rest' fits fits' same =
    sym (kind_in-header k s l n rest fits) ∙ ap kind_in same ∙ kind_in-header k' s' l' n' rest' fits'

same_seq : (k s l n k' s' l' n' : ℕ) (rest rest' : List ℕ) → s < 2 ^ 64 → s' < 2 ^ 64
    → header k s l n ++ rest ≡ header k' s' l' n' ++ rest' → s ≡ s'
same_seq k s l n k' s' l' n' rest rest' fits fits' same =
    sym (seq_in-header k s l n rest fits) ∙ ap seq_in same ∙ seq_in-header k' s' l' n' rest' fits'

same_lba : (k s l n k' s' l' n' : ℕ) (rest rest' : List ℕ) → l < 2 ^ 64 → l' < 2 ^ 64
    → header k s l n ++ rest ≡ header k' s' l' n' ++ rest' → l ≡ l'
same_lba k s l n k' s' l' n' rest rest' fits fits' same =
    sym (lba_in-header k s l n rest fits) ∙ ap lba_in same ∙ lba_in-header k' s' l' n' rest' fits'

same_sectors : (k s l n k' s' l' n' : ℕ) (rest rest' : List ℕ) → n < 2 ^ 64 → n' < 2 ^ 64
    → header k s l n ++ rest ≡ header k' s' l' n' ++ rest' → n ≡ n'
same_sectors k s l n k' s' l' n' rest rest' fits fits' same =
    sym (sectors_in-header k s l n rest fits) ∙ ap sectors_in same ∙ sectors_in-header k' s' l' n' rest' fits'

same_rest : (k s l n k' s' l' n' : ℕ) (rest rest' : List ℕ)
    → header k s l n ++ rest ≡ header k' s' l' n' ++ rest' → rest ≡ rest'
same_rest k s l n k' s' l' n' rest rest' same =
    sym (drop_at (header k s l n) rest 512 (length-header k s l n))
    ∙ ap (drop 512) same
    ∙ drop_at (header k' s' l' n') rest' 512 (length-header k' s' l' n')

same_entry : (a b : Entry) (m n : ℕ) → HasNumbersOf64Bits a → HasNumbersOf64Bits b → m < 2 ^ 64 → n < 2 ^ 64
    → record_of a m ≡ record_of b n → (a ≡ b) × (m ≡ n)
same_entry (Write lba body) (Write lba' body') m n fits fits' seq seq' same =
    let k = length body / 512 in
    let k' = length body' / 512 in
    let same_at : lba ≡ lba' = same_lba 1 m lba k 1 n lba' k' body body' fits fits' same in
    let same_body : body ≡ body' = same_rest 1 m lba k 1 n lba' k' body body' same in
    (cc, same_seq 1 m lba k 1 n lba' k' body body' seq seq' same)
same_entry (Write lba body) (Zero lba' sectors') m n fits fits' seq seq' same =
    absurd (omega (arith, same_kind 1 m lba (length body / 512) 2 n lba' sectors' body [] (omega arith) (omega arith) same))
same_entry (Zero lba sectors) (Write lba' body') m n fits fits' seq seq' same =
    absurd (omega (arith, same_kind 2 m lba sectors 1 n lba' (length body' / 512) [] body' (omega arith) (omega arith) same))
same_entry (Zero lba sectors) (Zero lba' sectors') m n fits fits' seq seq' same =
    let same_at : lba ≡ lba' = same_lba 2 m lba sectors 2 n lba' sectors' [] [] fits.0 fits'.0 same in
    let same_count : sectors ≡ sectors' = same_sectors 2 m lba sectors 2 n lba' sectors' [] [] fits.1 fits'.1 same in
    (cc, same_seq 2 m lba sectors 2 n lba' sectors' [] [] seq seq' same)

pub determines_entry : DeterminesEntry
determines_entry a b m n bytes fits fits' seq seq' is is' =
    same_entry a b m n fits fits' seq seq' (sym (record_spelled a m bytes is) ∙ record_spelled b n bytes is')

-- ---- writing a record

has_header : (entry : Entry) → 1 ≤ record_sectors entry
has_header (Write lba body) = omega arith
has_header (Zero lba sectors) = omega arith

-- a record has room for its header
pub length-header_part : (entry : Entry) (bytes : List ℕ) → length bytes ≡ 512 * record_sectors entry
    → length (take 512 bytes) ≡ 512
length-header_part entry bytes size = length-take-le 512 bytes (omega (arith, size, has_header entry))

-- the data after the header that was written first
pub write_with_data : (entry : Entry) (lba seq : ℕ) (body bytes written copied : List ℕ) → entry ≡ Write lba body
    → IsHeaderOf (head_of entry) seq written → copied ≡ body
    → IsRecordOf entry seq (put_mid 512 (length (written ++ drop 512 bytes) - 512) (written ++ drop 512 bytes) copied)
write_with_data entry lba seq body bytes written copied is is_header is_body =
    let size : length written ≡ 512 = has_one_sector (head_of entry) seq written is_header in
    let whole = written ++ drop 512 bytes in
    is_record entry seq _ (written_to_end 512 whole copied (omega (arith, length-append written (drop 512 bytes), size))
    ∙ ap (λ xs. xs ++ copied) (take_at written (drop 512 bytes) 512 size ∙ spelled (head_of entry) seq written is_header)
    ∙ ap (λ xs. header_of (head_of entry) seq ++ xs) (is_body ∙ sym (ap data_of is)))

-- nothing stands after the header of a zeroing
pub zero_has_no_data : (entry : Entry) (lba sectors seq : ℕ) (bytes written : List ℕ) → entry ≡ Zero lba sectors
    → length bytes ≡ 512 * record_sectors entry → IsHeaderOf (head_of entry) seq written
    → IsRecordOf entry seq (written ++ drop 512 bytes)
zero_has_no_data entry lba sectors seq bytes written is size is_header =
    let one : record_sectors entry ≡ 1 = ap record_sectors is in
    is_record entry seq (written ++ drop 512 bytes) (
    ap (λ xs. written ++ xs) (drop_all 512 bytes (omega (arith, size, one)) ∙ sym (ap data_of is))
    ∙ ap (λ xs. xs ++ data_of entry) (spelled (head_of entry) seq written is_header))
