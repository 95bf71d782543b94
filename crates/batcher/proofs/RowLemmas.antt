-- The rows of extents, one after the other.
use Rattle.std.proofs.Common.{◌≡◌, ℕ, ◌+◌, ◌≤◌, ◌==◌, true, false, ◌&&◌, cond, Option, Some, None, List, [], ◌∷◌, ◌++◌, length}
use Rattle.std.proofs.Common.{refl, sym, ap, ◌∙◌, inl, inr, append_assoc, arith}
use Rattle.std.specs.Prelude.{is_some, option_to_list}
use Rattle.std.specs.List.{sum_by}
use Rattle.std.proofs.lemmas.Bool.{cases_Bool, and_parts, eqb-true, false≢true}
use Rattle.std.proofs.lemmas.List.Sums.{sum_by-cons}
use Rattle.extent_map.specs.declared.extent.Extent.{Extent}
use Rattle.object_format.specs.declared.data_row.DataRow.{DataRow}
use Rattle.object_format.specs.Rows.{payload_at, data_payload}
use Rattle.batcher.specs.declared.place.BatchPlace.{BatchPlace}
use Rattle.batcher.specs.declared.place.BatchPlace.TheVariants.{Data, Zeros}
use Rattle.batcher.specs.Rows.{row_place, extent_row, joins, joined, rows_from, rows_of, extent_payload}

-- ---- one extent more

pub rows_end : (last : Option DataRow) (payload : ℕ) → rows_from last payload [] ≡ option_to_list last
unfolding rows_from
rows_end None payload = refl
rows_end (Some row) payload = refl

pub rows_start : (payload : ℕ) (extent : Extent BatchPlace) (extents : List (Extent BatchPlace))
    → rows_from None payload (extent ∷ extents) ≡ rows_from (Some (extent_row payload extent))
    (payload + data_payload (extent_row payload extent)) extents
unfolding rows_from
rows_start payload extent extents = refl

pub rows_on : (row : DataRow) (payload : ℕ) (extent : Extent BatchPlace) (extents : List (Extent BatchPlace))
    → joins row (extent_row payload extent) ≡ true
    → rows_from (Some row) payload (extent ∷ extents)
    ≡ rows_from (Some (joined row (extent_row payload extent))) (payload + data_payload (extent_row payload extent)) extents
unfolding rows_from
rows_on row payload extent extents goes =
    let after = payload + data_payload (extent_row payload extent) in
    ap (λ b. cond b (rows_from (Some (joined row (extent_row payload extent))) after extents)
    (row ∷ rows_from (Some (extent_row payload extent)) after extents)) goes

pub rows_off : (row : DataRow) (payload : ℕ) (extent : Extent BatchPlace) (extents : List (Extent BatchPlace))
    → joins row (extent_row payload extent) ≡ false
    → rows_from (Some row) payload (extent ∷ extents)
    ≡ row ∷ rows_from (Some (extent_row payload extent)) (payload + data_payload (extent_row payload extent)) extents
unfolding rows_from
rows_off row payload extent extents stops =
    let after = payload + data_payload (extent_row payload extent) in
    ap (λ b. cond b (rows_from (Some (joined row (extent_row payload extent))) after extents)
    (row ∷ rows_from (Some (extent_row payload extent)) after extents)) stops

-- ---- one extent more in the making

module _ (front : List DataRow) (last : Option DataRow) (payload added : ℕ) (extent : Extent BatchPlace) (row : DataRow)
    (is : row ≡ extent_row payload extent) (adds : added ≡ data_payload row) (more : List (Extent BatchPlace)) where
  after_is : payload + added ≡ payload + data_payload (extent_row payload extent)
  after_is = ap (λ n. payload + n) (adds ∙ ap data_payload is)

  pub made_first : last ≡ None → front ++ rows_from (Some row) (payload + added) more ≡ front ++ rows_from last payload
      (extent ∷ more)
  made_first none =
      ap (λ rows. front ++ rows)
      (ap (λ r. rows_from (Some r) (payload + added) more) is
      ∙ ap (λ n. rows_from (Some (extent_row payload extent)) n more) after_is
      ∙ sym (rows_start payload extent more)
      ∙ ap (λ l. rows_from l payload (extent ∷ more)) (sym none))

  pub made_on : (before : DataRow) → last ≡ Some before → joins before row ≡ true
      → front ++ rows_from (Some (joined before row)) (payload + added) more ≡ front ++ rows_from last payload (extent ∷ more)
  made_on before some goes =
      ap (λ rows. front ++ rows)
      (ap (λ r. rows_from (Some (joined before r)) (payload + added) more) is
      ∙ ap (λ n. rows_from (Some (joined before (extent_row payload extent))) n more) after_is
      ∙ sym (rows_on before payload extent more (ap (joins before) (sym is) ∙ goes))
      ∙ ap (λ l. rows_from l payload (extent ∷ more)) (sym some))

  pub made_off : (before : DataRow) (rows : List DataRow) → last ≡ Some before → joins before row ≡ false
      → rows ≡ front ++ before ∷ []
      → rows ++ rows_from (Some row) (payload + added) more ≡ front ++ rows_from last payload (extent ∷ more)
  made_off before rows some stops pushed =
      ap (λ list. list ++ rows_from (Some row) (payload + added) more) pushed
      ∙ append_assoc front (before ∷ []) (rows_from (Some row) (payload + added) more)
      ∙ ap (λ list. front ++ list)
      (ap (λ r. before ∷ rows_from (Some r) (payload + added) more) is
      ∙ ap (λ n. before ∷ rows_from (Some (extent_row payload extent)) n more) after_is
      ∙ sym (rows_off before payload extent more (ap (joins before) (sym is) ∙ stops))
      ∙ ap (λ l. rows_from l payload (extent ∷ more)) (sym some))

-- ---- how many there are, and their payload

same_payload : (payload sectors : ℕ) (place : BatchPlace) → payload_at sectors (row_place payload place) ≡ payload_at sectors
    (row_place 0 place)
same_payload payload sectors (Data entry from) = refl
same_payload payload sectors Zeros = refl

pub payload_same : (payload : ℕ) (extent : Extent BatchPlace) → data_payload (extent_row payload extent) ≡ extent_payload extent
payload_same payload extent = same_payload payload extent.sectors extent.place

-- two rows touch and have data, or one of this does not hold
pub goes_parts : (row next : DataRow) → joins row next ≡ true
    → (row.lba + row.sectors ≡ next.lba) × (is_some row.place ≡ true) × (is_some next.place ≡ true)
goes_parts row next goes =
    let touches = row.lba + row.sectors == next.lba in
    let outer = and_parts (touches && is_some row.place) (is_some next.place) goes in
    let inner = and_parts touches (is_some row.place) outer.0 in
    (eqb-true (row.lba + row.sectors) next.lba inner.0, inner.1, outer.1)

pub has_payload : (sectors : ℕ) (place : Option ℕ) → is_some place ≡ true → payload_at sectors place ≡ sectors
has_payload sectors None some = absurd (false≢true some)
has_payload sectors (Some place) some = refl

pub joined_payload : (row next : DataRow) → joins row next ≡ true
    → data_payload (joined row next) ≡ data_payload row + data_payload next
joined_payload row next goes =
    let parts = goes_parts row next goes in
    omega (
      arith,
      has_payload (row.sectors + next.sectors) row.place parts.1,
      has_payload row.sectors row.place parts.1,
      has_payload next.sectors next.place parts.2,
    )

pub rows_few : (row : DataRow) (payload : ℕ) (extents : List (Extent BatchPlace))
    → length (rows_from (Some row) payload extents) ≤ 1 + length extents
rows_few row payload [] = omega (arith, ap length (rows_end (Some row) payload))
rows_few row payload (extent ∷ extents) =
    let next = extent_row payload extent in
    let after = payload + data_payload next in
    elim (cases_Bool (joins row next)) [
      | inl goes ↦ omega (arith, ap length (rows_on row payload extent extents goes), rows_few (joined row next) after extents)
      | inr stops ↦ omega (arith, ap length (rows_off row payload extent extents stops), rows_few next after extents)
    ]

pub rows_of_few : (extents : List (Extent BatchPlace)) → length (rows_of extents) ≤ length extents
rows_of_few [] = omega (arith, ap length (rows_end None 0))
rows_of_few (extent ∷ extents) =
    omega (
      arith,
      ap length (rows_start 0 extent extents),
      rows_few (extent_row 0 extent)
          (0 + data_payload (extent_row 0 extent)) extents,
    )

rows_sum : (row : DataRow) (payload : ℕ) (extents : List (Extent BatchPlace))
    → sum_by data_payload (rows_from (Some row) payload extents) ≡ data_payload row + sum_by extent_payload extents
rows_sum row payload [] = omega (arith, ap (sum_by data_payload) (rows_end (Some row) payload))
rows_sum row payload (extent ∷ extents) =
    let next = extent_row payload extent in
    let after = payload + data_payload next in
    let same = payload_same payload extent in
    let more = sum_by-cons extent_payload extent extents in
    elim (cases_Bool (joins row next)) [
      | inl goes ↦
          omega (
            arith,
            ap (sum_by data_payload) (rows_on row payload extent extents goes),
            rows_sum (joined row next) after
                extents,
            joined_payload row next goes,
            same,
            more,
          )
      | inr stops ↦
          omega (
            arith,
            ap (sum_by data_payload) (rows_off row payload extent extents stops),
            sum_by-cons data_payload row (rows_from (Some next) after extents),
            rows_sum next after extents,
            same,
            more,
          )
    ]

pub rows_of_sum : (extents : List (Extent BatchPlace)) → sum_by data_payload (rows_of extents) ≡ sum_by extent_payload extents
rows_of_sum [] = ap (sum_by data_payload) (rows_end None 0)
rows_of_sum (extent ∷ extents) =
    omega (
      arith,
      ap (sum_by data_payload) (rows_start 0 extent extents),
      rows_sum (extent_row 0 extent) (0 + data_payload (extent_row 0 extent)) extents,
      sum_by-cons extent_payload extent extents,
    )
