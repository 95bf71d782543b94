-- What writes leave of the records of a log.
use Rattle.std.proofs.Common.{◌≡◌, ℕ, ◌+◌, ◌-◌, ◌*◌, ◌≤◌, List, [], ◌∷◌, ◌++◌, length, take, drop, map, refl, sym, ◌∙◌, ap, subst}
use Rattle.std.proofs.Common.{inl, inr, arith}
use Rattle.std.proofs.lemmas.List.{take-append-drop, take-append-le, drop-append-le, length-take-le, length-drop}
use Rattle.std.proofs.Math.Path.{subst₂}
use Rattle.std.proofs.Math.Seq.{drop-append-add}
use Rattle.lsvd_base.specs.declared.entry.Entry.TheVariants as entries
use Rattle.lsvd_bytes.specs.Places.{with_bytes, bytes_at}
use Rattle.lsvd_bytes.proofs.PlaceLemmas.{keeps_other_bytes}
use Rattle.lsvd_device.specs.Medium.{Medium, IsTorn}
use Rattle.log_record.specs.Grammar.{IsHeaderOf, IsRecordOf}
use Rattle.log_record.specs.declared.head.Head.TheVariants.{Pad}
use Rattle.cache_log.specs.declared.row.Row.{Row}
use Rattle.cache_log.specs.declared.row.Row.TheVariants.{Write, Zero}
use Rattle.cache_log.specs.Rows.{byte_of, log_sectors, position_of, record_size, entry_of, next, end_of_rows, HasPad, HaveRecords}
use Rattle.cache_log.proofs.Places.{Apart, LieApart}

-- all sectors of the log apart from some are as before
abbrev pub Keeps : (at count : ℕ) → (old new : List ℕ) → Type 0
Keeps at count old new = (sector n : ℕ) → Apart at count sector n → log_sectors sector n new ≡ log_sectors sector n old

-- a write keeps all other sectors
pub keeps_written : (at count : ℕ) (piece old : List ℕ) → length piece ≡ 512 * count → byte_of at + length piece ≤ length old
    → Keeps at count old (with_bytes (byte_of at) piece old)
keeps_written at count piece old whole inside = λ sector n apart.
    keeps_other_bytes (byte_of at) piece old (byte_of sector) (512 * n) inside
    (elim apart [
      | inl before ↦ inl (omega (arith, before))
      | inr after ↦ inr (omega (arith, after, whole))
    ])

-- bytes that end by another byte stand before it
part_before : (there n at : ℕ) (bytes : List ℕ) → there + n ≤ at → at ≤ length bytes
    → bytes_at there n bytes ≡ bytes_at there n (take at bytes)
part_before there n at bytes before inside =
    let whole : take at bytes ++ drop at bytes ≡ bytes = take-append-drop at bytes in
    let count : length (take at bytes) ≡ at = length-take-le at bytes inside in
    let dropped : drop there (take at bytes ++ drop at bytes) ≡ drop there (take at bytes) ++ drop at bytes =
    drop-append-le there (take at bytes) (drop at bytes) (omega (arith, count, before)) in
    let enough : n ≤ length (drop there (take at bytes)) =
    (let e = length-drop there (take at bytes) in omega (arith, e, count, before)) in
    ap (bytes_at there n) (sym whole) ∙ ap (take n) dropped ∙ take-append-le n (drop there (take at bytes)) (drop at bytes) enough

part_after : (there n at : ℕ) (bytes : List ℕ) → at ≤ there → at ≤ length bytes
    → bytes_at there n bytes ≡ bytes_at (there - at) n (drop at bytes)
part_after there n at bytes after inside =
    let count : length (take at bytes) ≡ at = length-take-le at bytes inside in
    let place : there ≡ length (take at bytes) + (there - at) = omega (arith, count, after) in
    ap (bytes_at there n) (sym (take-append-drop at bytes))
    ∙ ap (λ k. take n (drop k (take at bytes ++ drop at bytes))) place
    ∙ ap (take n) (drop-append-add (take at bytes) (drop at bytes) (there - at))

-- a write that failed keeps all other sectors
pub keeps_torn : (at count bytes : ℕ) (old new : Medium) → bytes ≡ 512 * count → byte_of at + bytes ≤ length old.bytes
    → IsTorn (byte_of at) bytes old new → Keeps at count old.bytes new.bytes
keeps_torn at count bytes old new whole inside torn = λ sector n apart.
    elim apart [
      | inl before ↦
          part_before (byte_of sector) (512 * n) (byte_of at) new.bytes (omega (arith, before)) (let e = torn.length in
          omega (arith, e, inside))
          ∙ ap (bytes_at (byte_of sector) (512 * n)) torn.before
          ∙ sym (part_before (byte_of sector) (512 * n) (byte_of at) old.bytes (omega (arith, before)) (omega (arith, inside)))
      | inr after ↦
          part_after (byte_of sector) (512 * n) (byte_of at + bytes) new.bytes (omega (arith, after, whole)) (let e =
          torn.length in omega (arith, e, inside))
          ∙ ap (bytes_at (byte_of sector - (byte_of at + bytes)) (512 * n)) torn.behind
          ∙ sym (part_after (byte_of sector) (512 * n) (byte_of at + bytes) old.bytes (omega (arith, after, whole)) inside)
    ]

-- an entry whose record lies apart from a change is as before
entry_kept : (row : Row) (at count : ℕ) (old new : List ℕ) → Keeps at count old new
    → Apart at count (position_of row) (record_size row) → entry_of new row ≡ entry_of old row
entry_kept (Write own on lba sectors) at count old new keeps apart =
    ap (entries.Write lba) (keeps (on + 1) sectors (elim apart [
      | inl before ↦ inl (omega (arith, before))
      | inr after ↦ inr (omega (arith, after))
    ]))
entry_kept (Zero own on lba sectors) at count old new keeps apart = refl

-- what is left of records after a change of other sectors
pub record AreKept (log from seq : ℕ) (rows : List Row) (old new : List ℕ) : Type 0 where
  pub records : HaveRecords log from seq rows new
  pub entries : map (entry_of new) rows ≡ map (entry_of old) rows

pub entries_kept : (rows : List Row) (log from at count : ℕ) (old new : List ℕ) → Keeps at count old new
    → LieApart at count log from rows → map (entry_of new) rows ≡ map (entry_of old) rows
entries_kept [] log from at count old new keeps apart = refl
entries_kept (row ∷ rows) log from at count old new keeps (here, more) =
    ap (λ entry. entry ∷ map (entry_of new) rows) (entry_kept row at count old new keeps here.sectors)
    ∙ ap (λ list. entry_of old row ∷ list) (entries_kept rows log (next log row) at count old new keeps more)

records_kept : (rows : List Row) (log from at count seq : ℕ) (old new : List ℕ) → Keeps at count old new
    → LieApart at count log from rows → HaveRecords log from seq rows old
    → HaveRecords log from seq rows new
records_kept [] log from at count seq old new keeps apart have = tt
records_kept (row ∷ rows) log from at count seq old new keeps (here, more) (pad, bytes, have) = (
  (λ some. subst (IsHeaderOf (Pad (log - from - 1)) seq) (sym (keeps from 1 (here.pad some))) (pad some)),
  subst₂ (λ entry piece. IsRecordOf entry seq piece) (sym (entry_kept row at count old new keeps here.sectors))
      (sym (keeps (position_of row) (record_size row) here.sectors)) bytes,
  records_kept rows log (next log row) at count (seq + 1) old new keeps more have,
)

-- records that lie apart from a change are kept
pub keeps_records : (rows : List Row) (log from at count seq : ℕ) (old new : List ℕ) → Keeps at count old new
    → LieApart at count log from rows → HaveRecords log from seq rows old
    → AreKept log from seq rows old new
keeps_records rows log from at count seq old new keeps apart have = record {
  records = records_kept rows log from at count seq old new keeps apart have;
  entries = entries_kept rows log from at count old new keeps apart;
}

-- the records with one more after them
pub have_more : (rows : List Row) (row : Row) (log from head seq : ℕ) (bytes : List ℕ) → end_of_rows log from rows ≡ head
    → HaveRecords log from seq rows bytes → HasPad log head (seq + length rows) row bytes
    → IsRecordOf (entry_of bytes row) (seq + length rows) (log_sectors (position_of row) (record_size row) bytes)
    → HaveRecords log from seq (rows ++ row ∷ []) bytes
have_more [] row log from head seq bytes end have pad at =
    let none : seq + length {A = Row} [] ≡ seq = omega arith in
    let P : ℕ → Type 0 = λ h. HasPad log h seq row bytes in
    let Q : ℕ → Type 0 = λ n. HasPad log head n row bytes in
    let R : ℕ → Type 0 = λ n. IsRecordOf (entry_of bytes row) n (log_sectors (position_of row) (record_size row) bytes) in
    (subst P (sym end) (subst Q none pad), subst R none at, tt)
have_more (first ∷ rows) row log from head seq bytes end (before, here, have) pad at =
    let more : seq + length (first ∷ rows) ≡ (seq + 1) + length rows = omega arith in
    let P : ℕ → Type 0 = λ n. HasPad log head n row bytes in
    let R : ℕ → Type 0 = λ n. IsRecordOf (entry_of bytes row) n (log_sectors (position_of row) (record_size row) bytes) in
    (before, here, have_more rows row log (next log first) head (seq + 1) bytes end have (subst P more pad) (subst R more at))
