-- The rows of extents keep the one spelling of an object's rows.
use Rattle.std.proofs.Common.{◌≡◌, ℕ, ◌+◌, ◌<◌, ◌≤◌, ◌==◌, inl, inr, Bool, true, false, ◌&&◌, leb, ltb, Option, Some, None, List}
use Rattle.std.proofs.Common.{[], ◌∷◌, refl, sym, ap, subst, ◌∙◌, arith}
use Rattle.std.specs.Prelude.{IsTrue, is_some}
use Rattle.std.specs.List.{sum_by}
use Rattle.std.proofs.lemmas.Bool.{cases_Bool, cases_lt, and_from, or_left, or_right, lt-ltb, le-leb, eq-eqb, both_ways}
use Rattle.std.proofs.lemmas.List.Sums.{sum_by-cons}
use Rattle.extent_map.specs.declared.extent.Extent.{Extent}
use Rattle.extent_map.specs.Extents.{ComesBeforeFirst, IsShortest}
use Rattle.extent_map.specs.Join.{EndBy}
use Rattle.object_format.specs.declared.data_row.DataRow.{DataRow}
use Rattle.object_format.specs.Rows.{is_inside, differ, data_payload, is_at, data_may_follow, data_may_stand, data_rows_may_stand}
use Rattle.batcher.specs.declared.place.BatchPlace.{BatchPlace}
use Rattle.batcher.specs.declared.place.BatchPlace.TheVariants.{Data, Zeros}
use Rattle.batcher.specs.Places.{place_on}
use Rattle.batcher.specs.Rows.{row_place, extent_row, joins, joined, rows_from, rows_of, extent_payload}
use Rattle.batcher.proofs.RowLemmas.{rows_end, rows_start, rows_on, rows_off, payload_same, goes_parts, joined_payload}

-- ---- a row and the extents after it

-- a row ends before extents, and where they touch, not both are zeros
abbrev pub Follow : DataRow → List (Extent BatchPlace) → Type 0
Follow row [] = Unit {0}
Follow row (extent ∷ extents) =
    (row.lba + row.sectors ≤ extent.lba) × (row.lba + row.sectors ≡ extent.lba → row.place ≡ None → extent.place ≡ Zeros → ⊥)

zeros_place : (payload : ℕ) (place : BatchPlace) → row_place payload place ≡ None → place ≡ Zeros
zeros_place payload (Data entry from) none = cc
zeros_place payload Zeros none = refl

zeros_on : (sectors : ℕ) (place next : BatchPlace) → place ≡ Zeros → next ≡ Zeros → place_on sectors place ≡ next
zeros_on sectors place next is goes = ap (place_on sectors) is ∙ sym goes

row_follow : (payload : ℕ) (extent : Extent BatchPlace) (extents : List (Extent BatchPlace))
    → ComesBeforeFirst place_on extent extents
    → Follow (extent_row payload extent) extents
row_follow payload extent [] before = tt
row_follow payload extent (next ∷ extents) before = (
  before.in_order,
  λ touch none zeros. before.apart touch (zeros_on extent.sectors extent.place next.place
      (zeros_place payload extent.place none) zeros),
)

joined_follow : (row : DataRow) (payload : ℕ) (extent : Extent BatchPlace) (extents : List (Extent BatchPlace))
    → joins row (extent_row payload extent) ≡ true → ComesBeforeFirst place_on extent extents
    → Follow (joined row (extent_row payload extent)) extents
joined_follow row payload extent [] goes before = tt
joined_follow row payload extent (next ∷ extents) goes before =
    let parts = goes_parts row (extent_row payload extent) goes in (
      omega (arith, parts.0, before.in_order),
      λ touch none zeros. both_ways (is_some row.place) (ap is_some none) parts.1,
    )

-- ---- tests of one row

inside_is : (volume lba sectors : ℕ) → 0 < sectors → lba + sectors ≤ volume → IsTrue (is_inside volume lba sectors)
inside_is volume lba sectors some ends = and_from (ltb 0 sectors) (leb (lba + sectors) volume) (lt-ltb 0 sectors some)
    (le-leb (lba + sectors) volume ends)

-- a row may follow whatever its sectors are
follows_longer : (before : Option DataRow) (row next : DataRow) → IsTrue (data_may_follow before row)
    → IsTrue (data_may_follow before (joined row next))
follows_longer None row next follows = follows
follows_longer (Some before) row next follows = follows

place_at_payload : (payload : ℕ) (place : BatchPlace) → IsTrue (is_at payload (row_place payload place))
place_at_payload payload (Data entry from) = eq-eqb payload payload refl
place_at_payload payload Zeros = refl

-- two places differ of which one has data
differ_is : (payload : ℕ) (before : Option ℕ) (place : BatchPlace) → (is_some before && is_some (row_place payload place)) ≡ false
    → (before ≡ None → place ≡ Zeros → ⊥) → IsTrue (differ before (row_place payload place))
differ_is payload None (Data entry from) both zeros = refl
differ_is payload None Zeros both zeros = absurd (zeros refl refl)
differ_is payload (Some at) (Data entry from) both zeros = cc
differ_is payload (Some at) Zeros both zeros = refl

not_both : (a b c : Bool) → a ≡ true → (a && b && c) ≡ false → (b && c) ≡ false
not_both a b c is neither = sym (ap (λ x. x && b && c) is) ∙ neither

-- an extent after a row that it does not go on with may follow it
may_follow : (row : DataRow) (payload : ℕ) (extent : Extent BatchPlace) (extents : List (Extent BatchPlace))
    → Follow row (extent ∷ extents)
    → joins row (extent_row payload extent) ≡ false → IsTrue (data_may_follow (Some row) (extent_row payload extent))
may_follow row payload extent extents follow stops =
    let end = row.lba + row.sectors in
    let next = extent_row payload extent in
    let far = ltb end extent.lba in
    let near = (end == extent.lba) && differ row.place next.place in
    elim (cases_lt end extent.lba) [
      | inl gap ↦ or_left far near (lt-ltb end extent.lba gap)
      | inr close ↦
          let touch : end ≡ extent.lba = omega (arith, follow.0, close) in
          let both : (is_some row.place && is_some next.place) ≡ false =
          not_both (end == extent.lba) (is_some row.place) (is_some next.place) (eq-eqb end extent.lba touch) stops in
          or_right far near
          (and_from (end == extent.lba) (differ row.place next.place) (eq-eqb end extent.lba touch)
          (differ_is payload row.place extent.place both (follow.1 touch)))
    ]

-- ---- all rows

module _ (volume total : ℕ) where
  stands : (before : Option DataRow) (at : ℕ) (row : DataRow) → IsTrue (is_inside volume row.lba row.sectors)
      → IsTrue (data_may_follow before row) → IsTrue (is_at at row.place) → at + data_payload row ≤ total
      → IsTrue (data_may_stand volume total before at row)
  stands before at row inside follows placed room =
      let first = is_inside volume row.lba row.sectors && data_may_follow before row in
      and_from (first && is_at at row.place) (leb (at + data_payload row) total)
      (and_from first (is_at at row.place) (and_from (is_inside volume row.lba row.sectors) (data_may_follow before row) inside
      follows) placed)
      (le-leb (at + data_payload row) total room)

  rows_stand : (before : Option DataRow) (at payload : ℕ) (row : DataRow) (extents : List (Extent BatchPlace))
      → IsTrue (is_inside volume row.lba row.sectors) → IsTrue (data_may_follow before row) → IsTrue (is_at at row.place)
      → at + data_payload row ≡ payload → payload + sum_by extent_payload extents ≡ total → Follow row extents
      → IsShortest place_on extents → EndBy volume extents
      → IsTrue (data_rows_may_stand volume total before at (rows_from (Some row) payload extents))
  rows_stand before at payload row [] inside follows placed adds sums follow shortest ends =
      subst (λ list. IsTrue (data_rows_may_stand volume total before at list)) (sym (rows_end (Some row) payload))
      (and_from (data_may_stand volume total before at row) (at + data_payload row == total)
      (stands before at row inside follows placed (omega (arith, adds, sums)))
      (eq-eqb (at + data_payload row) total (omega (arith, adds, sums))))
  rows_stand before at payload row (extent ∷ extents) inside follows placed adds sums follow shortest ends =
      let next = extent_row payload extent in
      let after = payload + data_payload next in
      let more = sum_by-cons extent_payload extent extents in
      let same = payload_same payload extent in
      let sums_after : after + sum_by extent_payload extents ≡ total = omega (arith, sums, more, same) in
      elim (cases_Bool (joins row next)) [
        | inl goes ↦
            let parts = goes_parts row next goes in
            subst (λ list. IsTrue (data_rows_may_stand volume total before at list))
            (sym (rows_on row payload extent extents goes))
            (rows_stand before at after (joined row next) extents
            (inside_is volume row.lba (row.sectors + extent.sectors) (omega (arith, shortest.0)) (omega (arith, parts.0, ends.0)))
            (follows_longer before row next follows) placed (omega (arith, joined_payload row next goes, adds)) sums_after
            (joined_follow row payload extent extents goes shortest.1) shortest.2 ends.1)
        | inr stops ↦
            subst (λ list. IsTrue (data_rows_may_stand volume total before at list))
            (sym (rows_off row payload extent extents stops))
            (and_from (data_may_stand volume total before at row)
            (data_rows_may_stand volume total (Some row) (at + data_payload row) (rows_from (Some next) after extents))
            (stands before at row inside follows placed (omega (arith, adds, sums)))
            (subst (λ place. IsTrue (data_rows_may_stand volume total (Some row) place (rows_from (Some next) after extents)))
            (sym adds)
            (rows_stand (Some row) payload after next extents (inside_is volume extent.lba extent.sectors shortest.0 ends.0)
            (may_follow row payload extent extents follow stops) (place_at_payload payload extent.place) refl sums_after
            (row_follow payload extent extents shortest.1) shortest.2 ends.1)))
      ]

-- the rows of extents in a volume
pub rows_of_stand : (volume : ℕ) (extents : List (Extent BatchPlace)) → IsShortest place_on extents → EndBy volume extents
    → IsTrue (data_rows_may_stand volume (sum_by extent_payload extents) None 0 (rows_of extents))
rows_of_stand volume [] shortest ends =
    subst (λ list. IsTrue (data_rows_may_stand volume 0 None 0 list)) (sym (rows_end None 0)) refl
rows_of_stand volume (extent ∷ extents) shortest ends =
    let row = extent_row 0 extent in
    let total = sum_by extent_payload (extent ∷ extents) in
    subst (λ list. IsTrue (data_rows_may_stand volume total None 0 list)) (sym (rows_start 0 extent extents))
    (rows_stand volume total None 0 (0 + data_payload row) row extents (inside_is volume extent.lba extent.sectors shortest.0
    ends.0) refl
    (place_at_payload 0 extent.place) refl (omega (arith, sum_by-cons extent_payload extent extents))
    (row_follow 0 extent extents shortest.1)
    shortest.2 ends.1)
