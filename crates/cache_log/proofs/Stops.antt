-- What a stop leaves of the records of a log.
use Rattle.std.proofs.Common.{◌≡◌, ℕ, ◌+◌, ◌-◌, ◌*◌, ◌<◌, ◌≤◌, List, ◌∷◌, length, drop, get_or, sym, ◌∙◌, ap, subst, inl, inr}
use Rattle.std.proofs.Common.{arith}
use Rattle.std.specs.List.{All}
use Rattle.std.proofs.lemmas.Bool.{cases_lt}
use Rattle.std.proofs.lemmas.List.{length-take-le, length-drop, get_or-take, get_or-drop}
use Rattle.std.proofs.lemmas.List.Elements.{All-cons}
use Rattle.lsvd_bytes.specs.Places.{with_bytes, bytes_at}
use Rattle.lsvd_bytes.proofs.PlaceLemmas.{keeps_length, keeps_other_bytes, reads_bytes_again}
use Rattle.lsvd_device.specs.Medium.{Medium, LiesOutside, MayLeave}
use Rattle.lsvd_base.specs.declared.entry.Entry.{Entry}
use Rattle.cache_log.specs.declared.row.Row.{Row}
use Rattle.cache_log.specs.Rows.{byte_of}
use Rattle.cache_log.specs.Invariant.{RecordsLast}
use Rattle.cache_log.proofs.Places.{LieApart}
use Rattle.cache_log.proofs.Records.{Keeps, keeps_written, keeps_records}

-- ---- bytes one by one

byte_at : (at count i : ℕ) (bytes : List ℕ) → i < count → get_or (bytes_at at count bytes) i 0 ≡ get_or bytes (at + i) 0
byte_at at count i bytes inside = get_or-take count (drop at bytes) i 0 inside ∙ get_or-drop at bytes i 0

-- a byte of a piece that was put among others, and one of the others
byte_put : (at : ℕ) (piece bytes : List ℕ) (i : ℕ) → at + length piece ≤ length bytes → at ≤ i → i < at + length piece
    → get_or (with_bytes at piece bytes) i 0 ≡ get_or piece (i - at) 0
byte_put at piece bytes i fits from to =
    let place : at + (i - at) ≡ i = omega (arith, from) in
    ap (λ n. get_or (with_bytes at piece bytes) n 0) (sym place)
    ∙ sym (byte_at at (length piece) (i - at) (with_bytes at piece bytes) (omega (arith, from, to)))
    ∙ ap (λ xs. get_or xs (i - at) 0) (reads_bytes_again at piece bytes fits)

byte_apart : (at : ℕ) (piece bytes : List ℕ) (i : ℕ) → at + length piece ≤ length bytes
    → LiesOutside i (record { at = at; count = length piece }) → get_or (with_bytes at piece bytes) i 0 ≡ get_or bytes i 0
byte_apart at piece bytes i fits apart =
    let same : bytes_at i 1 (with_bytes at piece bytes) ≡ bytes_at i 1 bytes =
    keeps_other_bytes at piece bytes i 1 fits (elim apart [ inl before ↦ inl (omega (arith, before)) | inr after ↦ inr after ]) in
    let place : i + 0 ≡ i = omega arith in
    ap (λ n. get_or (with_bytes at piece bytes) n 0) (sym place)
    ∙ sym (byte_at i 1 0 (with_bytes at piece bytes) (omega arith))
    ∙ ap (λ xs. get_or xs 0 0) same
    ∙ byte_at i 1 0 bytes (omega arith)
    ∙ ap (λ n. get_or bytes n 0) place

-- ---- one range more that was written

-- one range more was written
pub record IsWritten (at count : ℕ) (old new : Medium) : Type 0 where
  pub synced : new.synced ≡ old.synced
  pub pending : new.pending ≡ record { at = at; count = count } ∷ old.pending
  pub inside : at + count ≤ length old.synced

-- what a stop leaves, with what stood at the last sync put into that range
abbrev pub restored : (at count : ℕ) → Medium → List ℕ → List ℕ
restored at count old left = with_bytes at (bytes_at at count old.synced) left

restored_count : (at count : ℕ) (old : Medium) → at + count ≤ length old.synced → length (bytes_at at count old.synced) ≡ count
restored_count at count old inside = length-take-le count (drop at old.synced) (let e = length-drop at old.synced in
    omega (arith, e, inside))

restored_byte : (at count : ℕ) (old new : Medium) (left : List ℕ) → IsWritten at count old new → MayLeave new left → (i : ℕ)
    → All (LiesOutside i) old.pending
    → get_or (restored at count old left) i 0 ≡ get_or old.synced i 0
restored_byte at count old new left is may i all =
    let piece : List ℕ = bytes_at at count old.synced in
    let many : length piece ≡ count = restored_count at count old is.inside in
    let fits : at + length piece ≤ length left = (let e = may.count in let f = ap length is.synced in let g = is.inside in
    omega (arith, many, e, f, g)) in
    let outside : LiesOutside i (record { at = at; count = count }) → get_or (restored at count old left) i 0 ≡ get_or old.synced
    i 0 = λ apart.
    let there : LiesOutside i (record { at = at; count = length piece }) =
    (let P : ℕ → Type 0 = λ n. LiesOutside i (record { at = at; count = n }) in subst P (sym many) apart) in
    let more : All (LiesOutside i) (record { at = at; count = count } ∷ old.pending) =
    All-cons (LiesOutside i) (record { at = at; count = count }) old.pending apart all in
    byte_apart at piece left i fits there ∙ may.elsewhere i (subst (All (LiesOutside i)) (sym is.pending) more)
    ∙ ap (λ xs. get_or xs i 0) is.synced in
    elim (cases_lt i at) [
      | inl before ↦ outside (inl before)
      | inr from ↦ elim (cases_lt i (at + count)) [
        | inl inside ↦
            let place : at + (i - at) ≡ i = omega (arith, from) in
            byte_put at piece left i fits (omega (arith, from)) (omega (arith, many, inside))
            ∙ byte_at at count (i - at) old.synced (omega (arith, from, inside))
            ∙ ap (λ n. get_or old.synced n 0) place
        | inr after ↦ outside (inr (omega (arith, after)))
      ]
    ]

-- a stop before that range was written might have left it
pub may_have_left : (at count : ℕ) (old new : Medium) (left : List ℕ) → IsWritten at count old new → MayLeave new left
    → MayLeave old (restored at count old left)
may_have_left at count old new left is may =
    let piece : List ℕ = bytes_at at count old.synced in
    let many : length piece ≡ count = restored_count at count old is.inside in
    let fits : at + length piece ≤ length left = (let e = may.count in let f = ap length is.synced in let g = is.inside in
    omega (arith, many, e, f, g)) in
    record {
      count = keeps_length at piece left fits ∙ may.count ∙ ap length is.synced;
      elsewhere = restored_byte at count old new left is may;
    }

-- the records last where a change lies apart from them
pub last_written : (log from seq at count bytes : ℕ) (rows : List Row) (list : List Entry) (old new : Medium)
    → bytes ≡ 512 * count → IsWritten (byte_of at) bytes old new
    → LieApart at count log from rows → RecordsLast log from seq rows list old → RecordsLast log from seq rows list new
last_written log from seq at count bytes rows list old new whole is apart last = λ left may.
    let before : List ℕ = restored (byte_of at) bytes old left in
    let was = last before (may_have_left (byte_of at) bytes old new left is may) in
    let many : length (bytes_at (byte_of at) bytes old.synced) ≡ bytes = restored_count (byte_of at) bytes old is.inside in
    let fits : byte_of at + length (bytes_at (byte_of at) bytes old.synced) ≤ length left =
    (let e = may.count in let f = ap length is.synced in let g = is.inside in omega (arith, many, e, f, g)) in
    let same : Keeps at count left before = keeps_written at count (bytes_at (byte_of at) bytes old.synced) left (many
    ∙ whole) fits in
    let kept = keeps_records rows log from at count seq before left (λ sector n lies. sym (same sector n lies)) apart was.0 in
    (kept.records, kept.entries ∙ was.1)
