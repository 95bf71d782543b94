-- The rows of extents make the changes of their places.
use Rattle.std.proofs.Common.{◌≡◌, ℕ, ◌+◌, ◌-◌, ◌*◌, ◌<◌, ◌≤◌, inl, inr, true, cond, Option, Some, None, List, [], ◌∷◌, ◌++◌}
use Rattle.std.proofs.Common.{length, take, drop, refl, sym, ap, ◌∙◌, arith, append_assoc, length-append, length-take}
use Rattle.std.proofs.Common.{length-drop}
use Rattle.std.specs.Prelude.{is_some}
use Rattle.std.specs.Option.{option_map}
use Rattle.std.proofs.lemmas.Bool.{cases_Bool, cases_lt, cond-true, cond-false, false≢true}
use Rattle.std.proofs.lemmas.List.{take-append-le, take-take, drop-append-le, drop-drop, drop-take, drop_at}
use Rattle.lsvd_base.specs.declared.entry.Entry.{Entry}
use Rattle.extent_map.specs.declared.extent.Extent.{Extent}
use Rattle.extent_map.specs.Extents.{is_within, place_at}
use Rattle.extent_map.proofs.Places.{within, not_below, not_past}
use Rattle.object_format.specs.declared.data_row.DataRow.{DataRow}
use Rattle.object_format.specs.Rows.{payload_at, data_payload}
use Rattle.object_stream.specs.declared.change.Change.{Change}
use Rattle.object_stream.specs.declared.change.Change.TheVariants.{Put}
use Rattle.object_stream.specs.Changes.{sector_of, change_from, change_in}
use Rattle.batcher.specs.declared.place.BatchPlace.{BatchPlace}
use Rattle.batcher.specs.declared.place.BatchPlace.TheVariants.{Data, Zeros}
use Rattle.batcher.specs.Places.{place_on, entry_body_at, change_of}
use Rattle.batcher.specs.Rows.{row_place, extent_row, joins, joined, rows_from, rows_of, piece_at, piece_of, payload_bytes}
use Rattle.batcher.specs.Rows.{IsInBody}
use Rattle.batcher.specs.Rows.{AreInBodies}
use Rattle.batcher.proofs.RowLemmas.{rows_end, rows_start, rows_on, rows_off, payload_same, goes_parts, has_payload}
use Rattle.batcher.proofs.PieceLemmas.{length-piece}
use Rattle.batcher.proofs.PlaceLemmas.{within_parts}

-- ---- a sector of a piece

-- the i-th sector of the part of some bytes is that of the bytes, further on
sector_part : (bytes : List ℕ) (from sectors i : ℕ) → i < sectors
    → sector_of i (take (512 * sectors) (drop (512 * from) bytes)) ≡ sector_of (from + i) bytes
sector_part bytes from sectors i low =
    let part = drop (512 * from) bytes in
    let rest = 512 * sectors - 512 * i in
    let splits : 512 * sectors ≡ 512 * i + rest = omega (arith, low) in
    ap (λ n. take 512 (drop (512 * i) (take n part))) splits
    ∙ ap (take 512) (drop-take (512 * i) rest part)
    ∙ take-take 512 rest (drop (512 * i) part) (omega (arith, low))
    ∙ ap (take 512) (drop-drop (512 * i) (512 * from) bytes)
    ∙ ap (λ n. take 512 (drop n bytes)) (omega arith)

-- a sector of a part in the midst of bytes
sector_midst : (front part back : List ℕ) (place i : ℕ) → length front ≡ 512 * place → 512 * (i + 1) ≤ length part
    → sector_of (place + i) (front ++ (part ++ back)) ≡ sector_of i part
sector_midst front part back place i starts inside =
    ap (λ n. take 512 (drop n (front ++ (part ++ back)))) (omega (arith, starts))
    ∙ ap (take 512) (sym (drop-drop (512 * i) (length front) (front ++ (part ++ back))))
    ∙ ap (λ list. take 512 (drop (512 * i) list)) (drop_at front (part ++ back) (length front) refl)
    ∙ ap (take 512) (drop-append-le (512 * i) part back (omega (arith, inside)))
    ∙ take-append-le 512 (drop (512 * i) part) back (omega (arith, inside, length-drop (512 * i) part))

-- what the row of an extent does to its i-th sector is what the place there does
place_does : (entries : List Entry) (front back : List ℕ) (payload sectors i : ℕ) (place : BatchPlace)
    → IsInBody entries sectors place
    → length front ≡ 512 * payload → i < sectors
    → change_from (row_place payload place) (front ++ (piece_at entries sectors place ++ back)) i ≡ change_of entries
    (place_on i place)
place_does entries front back payload sectors i (Data entry from) is starts low =
    let part = piece_at entries sectors (Data entry from) in
    let body = entry_body_at entries entry in
    let size : 512 * (i + 1) ≤ length part =
    omega (arith, length-take (512 * sectors) (drop (512 * from) body), length-drop (512 * from) body, is.1, low) in
    ap Put (sector_midst front part back payload i starts size ∙ sector_part body from sectors i low)
place_does entries front back payload sectors i Zeros is starts low = refl

-- ---- the rows from a row on

-- the data of a row, if it has any, end where the payload does by then
abbrev pub EndsAt : Option ℕ → (sectors payload : ℕ) → Type 0
EndsAt None sectors payload = Unit {0}
EndsAt (Some place) sectors payload = place + sectors ≡ payload

next_ends : (payload sectors : ℕ) (place : BatchPlace)
    → EndsAt (row_place payload place) sectors (payload + payload_at sectors (row_place payload place))
next_ends payload sectors (Data entry from) = refl
next_ends payload sectors Zeros = tt

joined_ends : (place : Option ℕ) (sectors more payload after : ℕ) → EndsAt place sectors payload → after ≡ payload + more
    → EndsAt place (sectors + more) after
joined_ends None sectors more payload after ends is = tt
joined_ends (Some place) sectors more payload after ends is = omega (arith, ends, is)

-- a sector past a row, of data that go on with its own
same_sector : (all : List ℕ) (place : Option ℕ) (next : BatchPlace) (sectors payload i j : ℕ) → EndsAt place sectors payload
    → is_some place ≡ true
    → is_some (row_place payload next) ≡ true → i ≡ sectors + j
    → change_from place all i ≡ change_from (row_place payload next) all j
same_sector all None next sectors payload i j ends some other is = absurd (false≢true some)
same_sector all (Some place) Zeros sectors payload i j ends some other is = absurd (false≢true other)
same_sector all (Some place) (Data entry from) sectors payload i j ends some other is =
    ap (λ n. Put (sector_of n all)) (omega (arith, ends, is))

module _ (entries : List Entry) (all : List ℕ) where
  -- what extents do to a sector, by their places
  abbrev pub does : List (Extent BatchPlace) → ℕ → Option Change
  does extents k = option_map (change_of entries) (place_at place_on extents k)

  -- what rows are to do to a sector, of which the first is this one
  abbrev pub from_row : DataRow → List (Extent BatchPlace) → ℕ → Option Change
  from_row row extents k = cond (is_within row.lba row.sectors k) (Some (change_from row.place all (k - row.lba)))
      (does extents k)

  module _ (payload : ℕ) (extent : Extent BatchPlace) (extents : List (Extent BatchPlace)) (front : List ℕ)
      (is : all ≡ front ++ payload_bytes entries (extent ∷ extents)) (starts : length front ≡ 512 * payload)
      (here : IsInBody entries extent.sectors extent.place) where
    -- a sector of the extent
    extent_does : (k : ℕ) → extent.lba ≤ k → k < extent.lba + extent.sectors
        → change_from (row_place payload extent.place) all (k - extent.lba) ≡ change_of entries
        (place_on (k - extent.lba) extent.place)
    extent_does k low high =
        ap (λ list. change_from (row_place payload extent.place) list (k - extent.lba)) is
        ∙ place_does entries front (payload_bytes entries extents) payload extent.sectors (k - extent.lba) extent.place here
        starts (omega (arith, low, high))

    bytes_after : all ≡ (front ++ piece_of entries extent) ++ payload_bytes entries extents
    bytes_after = is ∙ sym (append_assoc front (piece_of entries extent) (payload_bytes entries extents))

    starts_after : length (front ++ piece_of entries extent) ≡ 512 * (payload + data_payload (extent_row payload extent))
    starts_after =
        omega (
          arith,
          length-append front (piece_of entries extent),
          starts,
          length-piece entries extent here,
          payload_same
              payload extent,
        )

    -- a row of the extent alone does what the extent does
    own_row : (k : ℕ) → from_row (extent_row payload extent) extents k ≡ does (extent ∷ extents) k
    own_row k =
        elim (cases_Bool (is_within extent.lba extent.sectors k)) [
          | inl covers ↦
              let range = within_parts extent.lba extent.sectors k covers in
              cond-true (is_within extent.lba extent.sectors k)
              (Some (change_from (row_place payload extent.place) all (k - extent.lba))) (does extents k) covers
              ∙ ap Some (extent_does k range.0 range.1)
              ∙ ap (option_map (change_of entries))
              (sym (cond-true (is_within extent.lba extent.sectors k) (Some (place_on (k - extent.lba) extent.place))
              (place_at place_on extents k) covers))
          | inr bare ↦
              cond-false (is_within extent.lba extent.sectors k)
              (Some (change_from (row_place payload extent.place) all (k - extent.lba))) (does extents k) bare
              ∙ ap (option_map (change_of entries))
              (sym (cond-false (is_within extent.lba extent.sectors k) (Some (place_on (k - extent.lba) extent.place))
              (place_at place_on extents k) bare))
        ]

    -- a row that the extent goes on with does what both do
    joined_row : (row : DataRow) → joins row (extent_row payload extent) ≡ true → EndsAt row.place row.sectors payload → (k : ℕ)
        → from_row (joined row (extent_row payload extent)) extents k ≡ from_row row (extent ∷ extents) k
    joined_row row goes ends k =
        let parts = goes_parts row (extent_row payload extent) goes in
        let long = is_within row.lba (row.sectors + extent.sectors) k in
        let short = is_within row.lba row.sectors k in
        let next = is_within extent.lba extent.sectors k in
        let first : Option Change = Some (change_from row.place all (k - row.lba)) in
        let place : Option BatchPlace = Some (place_on (k - extent.lba) extent.place) in
        elim (cases_lt k row.lba) [
          | inl early ↦
              cond-false long first (does extents k) (not_below row.lba (row.sectors + extent.sectors) k early)
              ∙ ap (option_map (change_of entries))
              (sym (cond-false next place (place_at place_on extents k)
              (not_below extent.lba extent.sectors k (omega (arith, parts.0, early)))))
              ∙ sym (cond-false short first (does (extent ∷ extents) k) (not_below row.lba row.sectors k early))
          | inr from ↦ elim (cases_lt k (row.lba + row.sectors)) [
            | inl inside ↦
                cond-true long first (does extents k) (within row.lba (row.sectors + extent.sectors) k from
                (omega (arith, inside)))
                ∙ sym (cond-true short first (does (extent ∷ extents) k) (within row.lba row.sectors k from inside))
            | inr past ↦ elim (cases_lt k (extent.lba + extent.sectors)) [
              | inl low ↦
                  let after : extent.lba ≤ k = omega (arith, parts.0, past) in
                  cond-true long first (does extents k) (within row.lba (row.sectors + extent.sectors) k from
                  (omega (arith, parts.0, low)))
                  ∙ ap Some
                  (same_sector all row.place extent.place row.sectors payload (k - row.lba) (k - extent.lba) ends parts.1 parts.2
                  (omega (arith, parts.0, after))
                  ∙ extent_does k after low)
                  ∙ ap (option_map (change_of entries))
                  (sym (cond-true next place (place_at place_on extents k) (within extent.lba extent.sectors k after low)))
                  ∙ sym (cond-false short first (does (extent ∷ extents) k) (not_past row.lba row.sectors k past))
              | inr high ↦
                  cond-false long first (does extents k) (not_past row.lba (row.sectors + extent.sectors) k
                  (omega (arith, parts.0, high)))
                  ∙ ap (option_map (change_of entries))
                  (sym (cond-false next place (place_at place_on extents k) (not_past extent.lba extent.sectors k high)))
                  ∙ sym (cond-false short first (does (extent ∷ extents) k) (not_past row.lba row.sectors k past))
            ]
          ]
        ]

  rows_change : (row : DataRow) (payload : ℕ) (extents : List (Extent BatchPlace)) (front : List ℕ)
      → all ≡ front ++ payload_bytes entries extents
      → length front ≡ 512 * payload → AreInBodies entries extents → EndsAt row.place row.sectors payload → (k : ℕ)
      → change_in (rows_from (Some row) payload extents) all k ≡ from_row row extents k
  rows_change row payload [] front is starts bodies ends k = ap (λ rows. change_in rows all k) (rows_end (Some row) payload)
  rows_change row payload (extent ∷ extents) front is starts bodies ends k =
      let next = extent_row payload extent in
      let after = payload + data_payload next in
      let more = front ++ piece_of entries extent in
      let bytes = bytes_after payload extent extents front is starts bodies.0 in
      let size = starts_after payload extent extents front is starts bodies.0 in
      elim (cases_Bool (joins row next)) [
        | inl goes ↦
            let parts = goes_parts row next goes in
            ap (λ rows. change_in rows all k) (rows_on row payload extent extents goes)
            ∙ rows_change (joined row next) after extents more bytes size bodies.1
            (joined_ends row.place row.sectors extent.sectors payload after ends
            (ap (λ n. payload + n) (has_payload extent.sectors next.place parts.2))) k
            ∙ joined_row payload extent extents front is starts bodies.0 row goes ends k
        | inr stops ↦
            let rest = rows_change next after extents more bytes size bodies.1 (next_ends payload extent.sectors extent.place) k
            ∙ own_row payload extent extents front is starts bodies.0 k in
            ap (λ rows. change_in rows all k) (rows_off row payload extent extents stops)
            ∙ ap (λ o. cond (is_within row.lba row.sectors k) (Some (change_from row.place all (k - row.lba))) o) rest
      ]

-- the rows and the payload of extents do to each sector what its place there does
pub rows_of_change : (entries : List Entry) (extents : List (Extent BatchPlace)) → AreInBodies entries extents → (k : ℕ)
    → change_in (rows_of extents) (payload_bytes entries extents) k ≡ option_map (change_of entries) (place_at place_on extents k)
rows_of_change entries [] bodies k = ap (λ rows. change_in rows [] k) (rows_end None 0)
rows_of_change entries (extent ∷ extents) bodies k =
    let all = payload_bytes entries (extent ∷ extents) in
    let row = extent_row 0 extent in
    ap (λ rows. change_in rows all k) (rows_start 0 extent extents)
    ∙ rows_change entries all row (0 + data_payload row) extents (piece_of entries extent) refl
    (starts_after entries all 0 extent extents [] refl refl bodies.0) bodies.1 (next_ends 0 extent.sectors extent.place) k
    ∙ own_row entries all 0 extent extents [] refl refl bodies.0 k
