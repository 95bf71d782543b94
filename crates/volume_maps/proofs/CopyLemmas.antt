-- The rows of a copy, settled one after the other and each part by part, and what they have to do with the copy's replay.
use Rattle.std.proofs.Common.{◌≡◌, ℕ, suc, ◌+◌, ◌-◌, ◌<◌, ◌≤◌, inl, inr, cond, Bool, true, false, ◌&&◌, Option, Some, None, List}
use Rattle.std.proofs.Common.{[], ◌∷◌, ◌++◌, length, take, get_or, refl, sym, ◌∙◌, ap, arith}
use Rattle.std.proofs.Math.Seq.{take-suc}
use Rattle.std.specs.Prelude.{IsTrue}
use Rattle.std.specs.List.{sum_by}
use Rattle.std.proofs.lemmas.Bool.{and_parts, cases_lt}
use Rattle.std.proofs.lemmas.Bool.Decides.{nat_tests}
use Rattle.std.proofs.lemmas.List.Sums.{sum_by_more, sum_by-take-le}
use Rattle.std.proofs.lemmas.Option.{same_Some}
use Rattle.extent_map.specs.declared.extent.Extent.{Extent}
use Rattle.extent_map.specs.Extents.{is_within, place_after_set, StartsRange, IsBare}
use Rattle.extent_map.proofs.Places.{within, not_below, not_past}
use Rattle.object_format.specs.declared.copy_row.CopyRow.{CopyRow}
use Rattle.object_format.specs.Rows.{copy_may_stand, copy_rows_may_stand}
use Rattle.object_stream.specs.Changes.{sector_of}
use Rattle.object_stream.specs.Stream.{owner_by_copy}
use Rattle.object_stream.specs.Replay.{source_at}
use Rattle.object_stream.specs.Value.{copied_in}
use Rattle.volume_maps.specs.declared.place.ObjectPlace.{ObjectPlace}
use Rattle.volume_maps.specs.Places.{object_on}
use Rattle.volume_maps.specs.Live.{is_in_object, is_live}
use Rattle.volume_maps.specs.Kept.{place_in_copy}
use Rattle.volume_maps.specs.Laws.{place_owner, SettlesCopyAsReplay, IsCopiedBy, SettlesCopyPlaces}
use Rattle.volume_maps.specs.Maps.{settled_by_copy_row, settled_by_copy}

-- one row more
pub copies_push : (number : ℕ) (rows : List CopyRow) (row : CopyRow) (before : Option ObjectPlace) (k : ℕ)
    → settled_by_copy number (rows ++ row ∷ []) before k ≡ settled_by_copy_row number row
    (settled_by_copy number rows before k) k
copies_push number [] row before k = refl
copies_push number (first ∷ rows) row before k =
    copies_push number rows row (settled_by_copy_row number first before k) k

-- the row that stands for one past the end of a list
abbrev pub no_row : CopyRow
no_row = record { lba = 0; sectors = 0; place = 0; source = record { level = 0; number = 0; place = 0 } }

module _ (rows : List CopyRow) (i : ℕ) (some : i < length rows) where
  -- the rows as far as the next one
  pub copies_more : (number : ℕ) (before : Option ObjectPlace) (k : ℕ)
      → settled_by_copy number (take (i + 1) rows) before k
      ≡ settled_by_copy_row number (get_or rows i no_row) (settled_by_copy number (take i rows) before k) k
  copies_more number before k =
      let next : i + 1 ≡ suc i = omega arith in
      ap (λ xs. settled_by_copy number xs before k) (ap (λ n. take n rows) next ∙ take-suc rows i no_row some)
      ∙ copies_push number (take i rows) (get_or rows i no_row) before k

  -- their sectors
  pub sectors_more : sum_by (λ (row : CopyRow). row.sectors) (take (i + 1) rows)
      ≡ sum_by (λ (row : CopyRow). row.sectors) (take i rows) + (get_or rows i no_row).sectors
  sectors_more = sum_by_more (λ (row : CopyRow). row.sectors) rows i no_row some

  -- which are no more than those of all rows
  pub sectors_most : sum_by (λ (row : CopyRow). row.sectors) (take i rows) + (get_or rows i no_row).sectors
      ≤ sum_by (λ (row : CopyRow). row.sectors) rows
  sectors_most = omega (arith, sectors_more, sum_by-take-le (λ (row : CopyRow). row.sectors) rows (i + 1))

-- ---- a row, part by part

-- the place of the copy that a row gives a sector
abbrev own_place : (number : ℕ) → CopyRow → ℕ → ObjectPlace
own_place number row k = record { level = 0; number = number; sector = row.place + (k - row.lba) }

-- a row as far as one sector
abbrev pub row_to : CopyRow → (end : ℕ) → CopyRow
row_to row end = record row { sectors = end - row.lba }

-- it gives a sector what another one gives it that has it as well, or as little
same_reach : (number : ℕ) (row : CopyRow) (sectors other : ℕ) (before : Option ObjectPlace) (k : ℕ)
    → is_within row.lba sectors k ≡ is_within row.lba other k
    → settled_by_copy_row number (record row { sectors = sectors }) before k
    ≡ settled_by_copy_row number (record row { sectors = other }) before k
same_reach number row sectors other before k same =
    ap (λ b. cond (b && is_live row.source.number before) (Some (own_place number row k)) before) same

-- a sector that it does not have is where it was
out_of_row : (number : ℕ) (row : CopyRow) (before : Option ObjectPlace) (k : ℕ) → is_within row.lba row.sectors k ≡ false
    → settled_by_copy_row number row before k ≡ before
out_of_row number row before k out =
    ap (λ b. cond (b && is_live row.source.number before) (Some (own_place number row k)) before) out

-- one that it has is its own, where it is in the source
in_row : (number : ℕ) (row : CopyRow) (before : Option ObjectPlace) (k : ℕ) → is_within row.lba row.sectors k ≡ true
    → settled_by_copy_row number row before k
    ≡ cond (is_live row.source.number before) (Some (own_place number row k)) before
in_row number row before k inside =
    ap (λ b. cond (b && is_live row.source.number before) (Some (own_place number row k)) before) inside

-- one that has no place gets none
none_stays : (number : ℕ) (row : CopyRow) (k : ℕ) → settled_by_copy_row number row None k ≡ None
none_stays number row k =
    elim (is_within row.lba row.sectors k) as (λ b. cond (b && false) (Some (own_place number row k)) None ≡ None) [
      | true ↦ refl
      | false ↦ refl
    ]

-- the place of a part of a row's sectors, where the copy has it
taken_at : (b : Bool) (own place : ObjectPlace) → cond b (Some own) None ≡ Some place → (b ≡ true) × (own ≡ place)
taken_at false own place is = absurd cc
taken_at true own place is = (refl, same_Some own place is)

left_at : (b : Bool) (own : ObjectPlace) → cond b (Some own) None ≡ None → b ≡ false
left_at false own is = refl
left_at true own is = absurd cc

-- which is in the copy
pub in_copy : (number : ℕ) (row : CopyRow) (part : Extent ObjectPlace) (place : ObjectPlace)
    → place_in_copy number row part ≡ Some place → place.number ≡ number
in_copy number row part place is =
    let own = own_place number row part.lba in
    ap (λ (p : ObjectPlace). p.number) (sym (taken_at (is_in_object row.source.number part.place) own place is).1)

module _ (number : ℕ) (row : CopyRow) (old : ℕ → Option ObjectPlace) where
  -- the sectors of a row up to one are settled, and no other
  abbrev pub IsSettledTo : (end : ℕ) → (ℕ → Option ObjectPlace) → Type 0
  IsSettledTo end places = (k : ℕ) → places k ≡ settled_by_copy_row number (row_to row end) (old k) k

  -- at first none is
  pub none_settled : IsSettledTo row.lba old
  none_settled k =
      sym (out_of_row number (row_to row row.lba) (old k) k (grind (arith, nat_tests)))

  module _ (places : ℕ → Option ObjectPlace) (from : ℕ) (order : row.lba ≤ from) (so_far : IsSettledTo from places) where
    -- a sector from there on is where it was
    as_before : (k : ℕ) → from ≤ k → places k ≡ old k
    as_before k past =
        so_far k ∙ out_of_row number (row_to row from) (old k) k (not_past row.lba (from - row.lba) k (omega (arith, order)))

    -- as far as that or further, one before that is settled
    settled_before : (k sectors : ℕ) → k < from → from ≤ row.lba + sectors
        → places k ≡ settled_by_copy_row number (record row { sectors = sectors }) (old k) k
    settled_before k sectors low reach =
        so_far k ∙ same_reach number row (from - row.lba) sectors (old k) k (elim (cases_lt k row.lba) [
          | inl below ↦ not_below row.lba (from - row.lba) k below ∙ sym (not_below row.lba sectors k below)
          | inr inside ↦ within row.lba (from - row.lba) k inside (omega (arith, order))
              ∙ sym (within row.lba sectors k inside (omega arith))
        ])

    -- so is one without a place
    settled_bare : (k sectors : ℕ) → from ≤ k → places k ≡ None
        → places k ≡ settled_by_copy_row number (record row { sectors = sectors }) (old k) k
    settled_bare k sectors past none =
        let was : old k ≡ None = sym (as_before k past) ∙ none in
        rw (none, was) (sym (none_stays number (record row { sectors = sectors }) k))

    -- and one past the end
    settled_past_end : (k sectors : ℕ) → from ≤ k → row.lba + sectors ≤ k
        → places k ≡ settled_by_copy_row number (record row { sectors = sectors }) (old k) k
    settled_past_end k sectors past high =
        as_before k past
        ∙ sym (out_of_row number (record row { sectors = sectors }) (old k) k (not_past row.lba sectors k high))

    -- where no sector is left that has a place, all of the row are settled
    pub all_settled : (k : ℕ) → from ≤ row.lba + row.sectors → IsBare from (row.lba + row.sectors - from) places
        → places k ≡ settled_by_copy_row number row (old k) k
    all_settled k high bare =
        elim (cases_lt k from) [
          | inl low ↦ settled_before k row.sectors low high
          | inr past ↦ elim (cases_lt k (row.lba + row.sectors)) [
            | inl inside ↦ settled_bare k row.sectors past (bare k past (omega arith))
            | inr out ↦ settled_past_end k row.sectors past out
          ]
        ]

    module _ (rest : ℕ) (part : Extent ObjectPlace) (starts : StartsRange object_on from rest places part) where
      -- the sector after the part
      abbrev past_part : ℕ
      past_part = part.lba + part.sectors

      -- the sectors outside the part are settled as far as that
      outside : (k : ℕ) → is_within part.lba part.sectors k ≡ false
          → places k ≡ settled_by_copy_row number (row_to row past_part) (old k) k
      outside k out =
          elim (cases_lt k from) [
            | inl low ↦ settled_before k (past_part - row.lba) low (omega (arith, order, starts.from))
            | inr high ↦ elim (cases_lt k part.lba) [
              | inl before ↦ settled_bare k (past_part - row.lba) high (starts.none_before k high before)
              | inr reached ↦ settled_past_end k (past_part - row.lba) high (grind (arith, nat_tests))
            ]
          ]

      -- one of the part, by whether the part is in the source
      inside : (k : ℕ) → is_within part.lba part.sectors k ≡ true
          → settled_by_copy_row number (row_to row past_part) (old k) k
          ≡ cond (is_in_object row.source.number part.place) (Some (own_place number row k)) (places k)
      inside k here =
          let low : part.lba ≤ k = grind (arith, nat_tests) in
          let high : k < past_part = grind (arith, nat_tests) in
          let same = as_before k (omega (arith, starts.from, low)) in
          let place = starts.places k low high in
          ap (λ p. settled_by_copy_row number (row_to row past_part) p k) (sym same)
          ∙ (in_row number (row_to row past_part) (places k) k
          (within row.lba (past_part - row.lba) k (omega (arith, order, starts.from, low)) (omega (arith, high)))
          ∙ ap (λ p. cond (is_live row.source.number p) (Some (own_place number row k)) (places k)) place)

      -- a part that the copy does not have stays
      left_by : (test : Bool) (k : ℕ) → is_within part.lba part.sectors k ≡ test
          → is_in_object row.source.number part.place ≡ false
          → places k ≡ settled_by_copy_row number (row_to row past_part) (old k) k
      left_by true k here other = sym (inside k here ∙ ap (λ b. cond b (Some (own_place number row k)) (places k)) other)
      left_by false k out other = outside k out

      pub left_settled : place_in_copy number row part ≡ None → IsSettledTo past_part places
      left_settled none k =
          left_by (is_within part.lba part.sectors k) k refl
          (left_at (is_in_object row.source.number part.place) (own_place number row part.lba) none)

      -- one that it has is set
      taken_by : (test : Bool) (k : ℕ) → is_within part.lba part.sectors k ≡ test
          → is_in_object row.source.number part.place ≡ true
          → cond test (Some (object_on (k - part.lba) (own_place number row part.lba))) (places k)
          ≡ settled_by_copy_row number (row_to row past_part) (old k) k
      taken_by true k here own =
          let low : part.lba ≤ k = grind (arith, nat_tests) in
          let on : row.place + (part.lba - row.lba) + (k - part.lba) ≡ row.place + (k - row.lba) =
          omega (arith, order, starts.from, low) in
          let same : Some (own_place number row k) ≡ settled_by_copy_row number (row_to row past_part) (old k) k =
          sym (inside k here ∙ ap (λ b. cond b (Some (own_place number row k)) (places k)) own) in
          rw on same
      taken_by false k out own = outside k out

      pub taken_settled : (place : ObjectPlace) (new : ℕ → Option ObjectPlace) → place_in_copy number row part ≡ Some place
          → ((k : ℕ) → new k ≡ place_after_set object_on part.lba part.sectors place places k) → IsSettledTo past_part new
      taken_settled place new some set k =
          let test = is_within part.lba part.sectors k in
          let taken = taken_at (is_in_object row.source.number part.place) (own_place number row part.lba) place some in
          set k
          ∙ ap (λ p. cond test (Some (object_on (k - part.lba) p)) (places k)) (sym taken.1)
          ∙ taken_by test k refl taken.0

-- ---- owners and places

-- a row that may stand after another begins where that ends, or past it
follows : (volume payload number place : ℕ) (before row : CopyRow)
    → IsTrue (copy_may_stand volume payload number (Some before) place row) → before.lba + before.sectors ≤ row.lba
follows volume payload number place before row stands = grind (arith, nat_tests)

module _ (volume payload number k : ℕ) (bytes : List ℕ) where
  first_stands : (place : ℕ) (before : Option CopyRow) (row : CopyRow) (rows : List CopyRow)
      → IsTrue (copy_rows_may_stand volume payload number before place (row ∷ rows))
      → IsTrue (copy_may_stand volume payload number before place row)
  first_stands place before row rows stand =
      (and_parts (copy_may_stand volume payload number before place row)
      (copy_rows_may_stand volume payload number (Some row) (place + row.sectors) rows) stand).0

  rest_stand : (place : ℕ) (before : Option CopyRow) (row : CopyRow) (rows : List CopyRow)
      → IsTrue (copy_rows_may_stand volume payload number before place (row ∷ rows))
      → IsTrue (copy_rows_may_stand volume payload number (Some row) (place + row.sectors) rows)
  rest_stand place before row rows stand =
      (and_parts (copy_may_stand volume payload number before place row)
      (copy_rows_may_stand volume payload number (Some row) (place + row.sectors) rows) stand).1

  -- rows after one that ends past a sector do not have it
  settled_past : (place : ℕ) (row : CopyRow) (rows : List CopyRow) (before : Option ObjectPlace)
      → IsTrue (copy_rows_may_stand volume payload number (Some row) place rows) → k < row.lba + row.sectors
      → settled_by_copy number rows before k ≡ before
  settled_past place row [] before stand low = refl
  settled_past place row (next ∷ rows) before stand low =
      let after : row.lba + row.sectors ≤ next.lba =
      follows volume payload number place row next (first_stands place (Some row) next rows stand) in
      let out : is_within next.lba next.sectors k ≡ false = not_below next.lba next.sectors k (omega arith) in
      ap (λ p. settled_by_copy number rows p k) (out_of_row number next before k out)
      ∙ settled_past (place + next.sectors) next rows before (rest_stand place (Some row) next rows stand) (omega arith)

  -- after the row that has a sector no other changes it
  settled_here : (place : ℕ) (earlier : Option CopyRow) (row : CopyRow) (rows : List CopyRow) (before : Option ObjectPlace)
      → is_within row.lba row.sectors k ≡ true
      → IsTrue (copy_rows_may_stand volume payload number earlier place (row ∷ rows))
      → settled_by_copy number (row ∷ rows) before k
      ≡ cond (is_live row.source.number before) (Some (own_place number row k)) before
  settled_here place earlier row rows before here stand =
      let low : k < row.lba + row.sectors = grind (arith, nat_tests) in
      settled_past (place + row.sectors) row rows (settled_by_copy_row number row before k)
      (rest_stand place earlier row rows stand) low
      ∙ in_row number row before k here

  -- and one that does not have it leaves it to the others
  settled_later : (row : CopyRow) (rows : List CopyRow) (before : Option ObjectPlace)
      → is_within row.lba row.sectors k ≡ false
      → settled_by_copy number (row ∷ rows) before k ≡ settled_by_copy number rows before k
  settled_later row rows before out = ap (λ p. settled_by_copy number rows p k) (out_of_row number row before k out)

  -- the owner of a sector that a row has
  owner_by : (live : Bool) (own place : ObjectPlace) → own.level ≡ 0 → own.number ≡ number
      → place_owner (cond live (Some own) (Some place))
      ≡ cond live (Some (record { level = 0; number = number })) (place_owner (Some place))
  owner_by true own place level same = rw (level, same) refl
  owner_by false own place level same = refl

  owner_of_row : (source : ℕ) (own : ObjectPlace) (before : Option ObjectPlace) → own.level ≡ 0 → own.number ≡ number
      → place_owner (cond (is_live source before) (Some own) before) ≡ owner_by_copy number (Some source) (place_owner before)
  owner_of_row source own None level same = refl
  owner_of_row source own (Some place) level same = owner_by (is_in_object source place) own place level same

  owner_by_test : (test : Bool) (place : ℕ) (earlier : Option CopyRow) (row : CopyRow) (rows : List CopyRow)
      (before : Option ObjectPlace)
      → is_within row.lba row.sectors k ≡ test
      → IsTrue (copy_rows_may_stand volume payload number earlier place (row ∷ rows))
      → place_owner (settled_by_copy number rows before k) ≡ owner_by_copy number (source_at rows k) (place_owner before)
      → place_owner (settled_by_copy number (row ∷ rows) before k)
      ≡ owner_by_copy number (cond test (Some row.source.number) (source_at rows k)) (place_owner before)
  owner_by_test true place earlier row rows before here stand rest =
      ap place_owner (settled_here place earlier row rows before here stand)
      ∙ owner_of_row row.source.number (own_place number row k) before refl refl
  owner_by_test false place earlier row rows before out stand rest =
      ap place_owner (settled_later row rows before out) ∙ rest

  owners_settled : (place : ℕ) (earlier : Option CopyRow) (rows : List CopyRow) (before : Option ObjectPlace)
      → IsTrue (copy_rows_may_stand volume payload number earlier place rows)
      → place_owner (settled_by_copy number rows before k) ≡ owner_by_copy number (source_at rows k) (place_owner before)
  owners_settled place earlier [] before stand = refl
  owners_settled place earlier (row ∷ rows) before stand =
      owner_by_test (is_within row.lba row.sectors k) place earlier row rows before refl stand
      (owners_settled (place + row.sectors) (Some row) rows before (rest_stand place earlier row rows stand))

  -- the place of a sector that a row has
  copied_by : (live : Bool) (row : CopyRow) (before : Option ObjectPlace) → is_live row.source.number before ≡ live
      → IsCopiedBy number bytes (Some row.source.number) (Some (sector_of (row.place + (k - row.lba)) bytes)) before
      (cond live (Some (own_place number row k)) before)
  copied_by true row before live = inl (live, row.place + (k - row.lba), refl, refl)
  copied_by false row before live = inr (live, refl)

  place_by_test : (test : Bool) (place : ℕ) (earlier : Option CopyRow) (row : CopyRow) (rows : List CopyRow)
      (before : Option ObjectPlace)
      → is_within row.lba row.sectors k ≡ test
      → IsTrue (copy_rows_may_stand volume payload number earlier place (row ∷ rows))
      → IsCopiedBy number bytes (source_at rows k) (copied_in rows bytes k) before (settled_by_copy number rows before k)
      → IsCopiedBy number bytes (cond test (Some row.source.number) (source_at rows k))
      (cond test (Some (sector_of (row.place + (k - row.lba)) bytes)) (copied_in rows bytes k)) before
      (settled_by_copy number (row ∷ rows) before k)
  place_by_test true place earlier row rows before here stand rest =
      rw (settled_here place earlier row rows before here stand)
      (copied_by (is_live row.source.number before) row before refl)
  place_by_test false place earlier row rows before out stand rest =
      rw (settled_later row rows before out) rest

  places_settled : (place : ℕ) (earlier : Option CopyRow) (rows : List CopyRow) (before : Option ObjectPlace)
      → IsTrue (copy_rows_may_stand volume payload number earlier place rows)
      → IsCopiedBy number bytes (source_at rows k) (copied_in rows bytes k) before (settled_by_copy number rows before k)
  places_settled place earlier [] before stand = inr (refl, refl)
  places_settled place earlier (row ∷ rows) before stand =
      place_by_test (is_within row.lba row.sectors k) place earlier row rows before refl stand
      (places_settled (place + row.sectors) (Some row) rows before (rest_stand place earlier row rows stand))

pub settles_copy_as_replay : SettlesCopyAsReplay
settles_copy_as_replay volume sectors number k rows before stand =
    owners_settled volume sectors number k [] 0 None rows before stand

pub settles_copy_places : SettlesCopyPlaces
settles_copy_places volume sectors number k rows payload before stand =
    places_settled volume sectors number k payload 0 None rows before stand
