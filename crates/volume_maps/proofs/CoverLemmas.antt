-- The ranges of an object's rows, row by row.
use Rattle.std.proofs.Common.{ℕ, suc, ◌+◌, ◌<◌, ◌≡◌, false, Option, Some, None, List, [], ◌∷◌, ◌++◌, length, take}
use Rattle.std.proofs.Common.{get_or, sym, ◌∙◌, ap, subst, arith}
use Rattle.std.proofs.Math.Seq.{take-suc}
use Rattle.std.specs.Prelude.{IfSome, is_some}
use Rattle.object_format.specs.declared.copy_row.CopyRow.{CopyRow}
use Rattle.object_format.specs.declared.data_row.DataRow.{DataRow}
use Rattle.reverse_map.specs.declared.range.SectorRange.{SectorRange}
use Rattle.volume_maps.specs.Covered.{Cover, CoverRows, CoverCopyRows}
use Rattle.volume_maps.proofs.CopyLemmas.{no_row}
use Rattle.volume_maps.proofs.RangeLemmas.{stays_in, comes_in}

-- ranges that have some sectors have them with one range more, and then those of that one
pub cover_more : (range : SectorRange) (ranges : List SectorRange) (lba sectors : ℕ) → Cover ranges lba sectors
    → Cover (ranges ++ range ∷ []) lba sectors
cover_more range ranges lba sectors cover k within = stays_in range k ranges (cover k within)

pub cover_last : (ranges : List SectorRange) (lba sectors : ℕ)
    → Cover (ranges ++ record { lba = lba; sectors = sectors } ∷ []) lba sectors
cover_last ranges lba sectors k within = comes_in (record { lba = lba; sectors = sectors }) k ranges within

-- ---- the rows of a data object

if_more : (range : SectorRange) (ranges : List SectorRange) (row : DataRow) (place : Option ℕ)
    → IfSome place (λ (place : ℕ). Cover ranges row.lba row.sectors)
    → IfSome place (λ (place : ℕ). Cover (ranges ++ range ∷ []) row.lba row.sectors)
if_more range ranges row None cover = cover
if_more range ranges row (Some place) cover = cover_more range ranges row.lba row.sectors cover

rows_more : (range : SectorRange) (ranges : List SectorRange) (rows : List DataRow) → CoverRows ranges rows
    → CoverRows (ranges ++ range ∷ []) rows
rows_more range ranges [] cover = cover
rows_more range ranges (row ∷ rows) cover =
    (if_more range ranges row row.place cover.0, rows_more range ranges rows cover.1)

rows_last : (ranges : List SectorRange) (rows : List DataRow) (row : DataRow) → CoverRows ranges rows
    → IfSome row.place (λ (place : ℕ). Cover ranges row.lba row.sectors) → CoverRows ranges (rows ++ row ∷ [])
rows_last ranges [] row cover last = (last, cover)
rows_last ranges (first ∷ rows) row cover last = (cover.0, rows_last ranges rows row cover.1 last)

abbrev pub no_data : DataRow
no_data = record { lba = 0; sectors = 0; place = None }

module _ (ranges : List SectorRange) (rows : List DataRow) (i : ℕ) (some : i < length rows)
    (cover : CoverRows ranges (take i rows)) where
  split : take (i + 1) rows ≡ take i rows ++ get_or rows i no_data ∷ []
  split =
      let next : i + 1 ≡ suc i = omega arith in
      ap (λ n. take n rows) next ∙ take-suc rows i no_data some

  no_cover : (place : Option ℕ) (lba sectors : ℕ) → is_some place ≡ false
      → IfSome place (λ (place : ℕ). Cover ranges lba sectors)
  no_cover None lba sectors none = tt
  no_cover (Some place) lba sectors none = absurd cc

  -- a row that puts nothing
  pub cleared_row : is_some (get_or rows i no_data).place ≡ false → CoverRows ranges (take (i + 1) rows)
  cleared_row none =
      let row = get_or rows i no_data in
      subst (CoverRows ranges) (sym split)
      (rows_last ranges (take i rows) row cover (no_cover row.place row.lba row.sectors none))

  if_some : (place : Option ℕ) (row : DataRow)
      → IfSome place (λ (place : ℕ). Cover (ranges ++ record { lba = row.lba; sectors = row.sectors } ∷ []) row.lba row.sectors)
  if_some None row = tt
  if_some (Some place) row = cover_last ranges row.lba row.sectors

  -- the range of a row more
  pub put_row : let row = get_or rows i no_data in
      CoverRows (ranges ++ record { lba = row.lba; sectors = row.sectors } ∷ []) (take (i + 1) rows)
  put_row =
      let row = get_or rows i no_data in
      let range : SectorRange = record { lba = row.lba; sectors = row.sectors } in
      subst (CoverRows (ranges ++ range ∷ [])) (sym split)
      (rows_last (ranges ++ range ∷ []) (take i rows) row (rows_more range ranges (take i rows) cover)
      (if_some row.place row))

-- ---- the rows of a copy

copies_more : (range : SectorRange) (ranges : List SectorRange) (rows : List CopyRow) → CoverCopyRows ranges rows
    → CoverCopyRows (ranges ++ range ∷ []) rows
copies_more range ranges [] cover = cover
copies_more range ranges (row ∷ rows) cover =
    (cover_more range ranges row.lba row.sectors cover.0, copies_more range ranges rows cover.1)

copies_last : (ranges : List SectorRange) (rows : List CopyRow) (row : CopyRow) → CoverCopyRows ranges rows
    → Cover ranges row.lba row.sectors → CoverCopyRows ranges (rows ++ row ∷ [])
copies_last ranges [] row cover last = (last, cover)
copies_last ranges (first ∷ rows) row cover last = (cover.0, copies_last ranges rows row cover.1 last)

pub copied_row : (ranges : List SectorRange) (rows : List CopyRow) (i : ℕ) → i < length rows
    → CoverCopyRows ranges (take i rows)
    → CoverCopyRows (ranges ++ record { lba = (get_or rows i no_row).lba; sectors = (get_or rows i no_row).sectors } ∷ [])
    (take (i + 1) rows)
copied_row ranges rows i some cover =
    let row = get_or rows i no_row in
    let range : SectorRange = record { lba = row.lba; sectors = row.sectors } in
    let next : i + 1 ≡ suc i = omega arith in
    let split : take (i + 1) rows ≡ take i rows ++ row ∷ [] = ap (λ n. take n rows) next ∙ take-suc rows i no_row some in
    subst (CoverCopyRows (ranges ++ range ∷ [])) (sym split)
    (copies_last (ranges ++ range ∷ []) (take i rows) row (copies_more range ranges (take i rows) cover)
    (cover_last ranges row.lba row.sectors))
