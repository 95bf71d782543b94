-- The piece of a log that was read ahead.
use Rattle.std.proofs.Common.{◌≡◌, ℕ, ◌+◌, ◌-◌, ◌≤◌, List, [], ◌∷◌, ◌++◌, length, take, drop, sym, ◌∙◌, ap, subst}
use Rattle.std.proofs.Common.{arith}
use Rattle.std.specs.Prelude.{Result, Ok, Err, OnOk}
use Rattle.std.proofs.Math.Path.{subst₂}
use Rattle.std.proofs.lemmas.List.{drop-drop, take-take, drop-take, take-append-le, take_all}
use Rattle.lsvd_bytes.specs.Places.{bytes_at}
use Rattle.lsvd_device.specs.Medium.{Medium}
use Rattle.lsvd_device.specs.Device.{HoldsNow}
use Rattle.cache_log.specs.declared.reading_ahead.ReadAhead.{ReadAhead}
use Rattle.cache_log.specs.Pieces.{IsReadAhead, HasPiece}

empty_stands : (buffer : List ℕ) (at len : ℕ) (moments : List Medium) → len ≡ 0
    → HoldsNow (λ now. take len buffer ≡ bytes_at at len now.bytes) moments
empty_stands buffer at len [] none = tt
empty_stands buffer at len (now ∷ past) none =
    ap (λ n. take n buffer) none ∙ sym (ap (λ n. take n (drop at now.bytes)) none)

-- a piece of no bytes stands anywhere
pub none_ahead : (ahead : ReadAhead) (moments : List Medium) → ahead.len ≡ 0 → IsReadAhead ahead moments
none_ahead ahead moments none = record {
  within = omega (arith, none);
  stands = empty_stands ahead.buffer.items ahead.at ahead.len moments none;
}

-- a part of a list's beginning is that part of the list
within_take : (xs : List ℕ) (len skipped count : ℕ) → skipped + count ≤ len
    → bytes_at skipped count (take len xs) ≡ bytes_at skipped count xs
within_take xs len skipped count inside =
    let rest : skipped + (len - skipped) ≡ len = omega (arith, inside) in
    ap (λ n. take count (drop skipped (take n xs))) (sym rest) ∙ ap (take count) (drop-take skipped (len - skipped) xs)
    ∙ take-take count (len - skipped) (drop skipped xs) (omega (arith, inside))

part_in : (buffer bytes : List ℕ) (at len skipped count : ℕ) → take len buffer ≡ bytes_at at len bytes → skipped + count ≤ len
    → bytes_at skipped count buffer ≡ bytes_at (at + skipped) count bytes
part_in buffer bytes at len skipped count stands inside =
    sym (within_take buffer len skipped count inside) ∙ ap (bytes_at skipped count) stands
    ∙ within_take (drop at bytes) len skipped count inside ∙ ap (take count) (drop-drop skipped at bytes)

-- what is taken out of the piece stands on the device
pub taken_ahead : (ahead : ReadAhead) (moments : List Medium) (at count : ℕ) (buf : List ℕ) → IsReadAhead ahead moments
    → HasPiece ahead at count → buf ≡ bytes_at (at - ahead.at) count ahead.buffer.items
    → HoldsNow (λ now. buf ≡ take count (drop at now.bytes)) moments
taken_ahead ahead [] at count buf is has taken = tt
taken_ahead ahead (now ∷ past) at count buf is has taken =
    let b = has.begins in
    let e = has.ends in
    let place : ahead.at + (at - ahead.at) ≡ at = omega (arith, b) in
    taken ∙ part_in ahead.buffer.items now.bytes ahead.at ahead.len (at - ahead.at) count is.stands (omega (arith, b, e))
    ∙ ap (λ from. take count (drop from now.bytes)) place

-- what was read into the first bytes of a buffer are those bytes of it
pub front_read : {T E : Type 0} (r : Result T E) (after buf rest : List ℕ) (at count size : ℕ) (moments : List Medium)
    → after ≡ buf ++ rest → length buf ≡ count → size ≡ count
    → OnOk r (HoldsNow (λ now. buf ≡ take size (drop at now.bytes)) moments)
    → OnOk r (HoldsNow (λ now. take count after ≡ bytes_at at count now.bytes) moments)
front_read (Ok x) after buf rest at count size moments is whole same read =
    let first : take count after ≡ buf = ap (take count) is ∙ take-append-le count buf rest (omega (arith, whole))
    ∙ take_all count buf (omega (arith, whole)) in
    subst₂ (λ xs n. HoldsNow (λ now. xs ≡ take n (drop at now.bytes)) moments) (sym first) same read
front_read (Err e) after buf rest at count size moments is whole same read = tt

-- a buffer that was lent as a slice, written and given back
pub given_back : (after items : List ℕ) (len : ℕ) → length after ≡ length items → length items ≡ len
    → take len (after ++ drop (length after) items) ≡ after
given_back after items len same long =
    let size : length after ≡ len = same ∙ long in
    take-append-le len after (drop (length after) items) (omega (arith, size)) ∙ take_all len after (omega (arith, size))

-- a buffer that begins with what was read is a piece
pub piece_read : (ahead : ReadAhead) (after : List ℕ) (moments : List Medium) → ahead.buffer.items ≡ after
    → ahead.len ≤ length after → HoldsNow (λ now. take ahead.len after ≡ bytes_at ahead.at ahead.len now.bytes) moments
    → IsReadAhead ahead moments
piece_read ahead after moments is room read = record {
  within = subst (λ xs. ahead.len ≤ length xs) (sym is) room;
  stands = subst (λ xs. HoldsNow (λ now. take ahead.len xs ≡ bytes_at ahead.at ahead.len now.bytes) moments) (sym is) read;
}
