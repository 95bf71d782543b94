-- What rows that were read leave of each sector.
use Rattle.std.proofs.Common.{◌≡◌, ℕ, zero, suc, ◌+◌, ◌-◌, ◌*◌, ◌<◌, ◌≤◌, ◌⊎◌, inl, inr, Option, Some, None, List, [], ◌∷◌}
use Rattle.std.proofs.Common.{length, take, drop, sym}
use Rattle.std.proofs.Common.{◌∙◌, ap, subst, arith}
use Rattle.std.specs.Prelude.{IfSome, replicate}
use Rattle.std.specs.List.{AllByRecursion, slice_get}
use Rattle.std.proofs.lemmas.Bool.{cases_lt}
use Rattle.std.proofs.lemmas.List.{take-replicate, drop-replicate, length-replicate}
use Rattle.lsvd_base.specs.declared.entry.Entry.{Entry}
use Rattle.lsvd_base.specs.Image.{zero_sector}
use Rattle.lsvd_bytes.specs.Places.{with_bytes}
use Rattle.lsvd_bytes.proofs.PlaceLemmas.{keeps_length, keeps_other_bytes}
use Rattle.extent_map.specs.declared.extent.Extent.{Extent}
use Rattle.extent_map.specs.Extents.{place_at, IsShortest}
use Rattle.extent_map.specs.Laws.{StartsFrom}
use Rattle.extent_map.proofs.Places.{at_inside, at_below, at_past, after_row}
use Rattle.log_record.specs.Grammar.{data_of}
use Rattle.cache_log.specs.declared.row.Row.{Row}
use Rattle.cache_log.specs.declared.row.Row.TheVariants as row_kinds
use Rattle.cache_log.specs.Rows.{position_of, AreDataOfRow}
use Rattle.cache_log.specs.Log.{LogState, AgreesWith, IsReadFrom}
use Rattle.object_stream.specs.Changes.{sector_of}
use Rattle.volume_maps.specs.declared.place.LogPlace.TheVariants.{Data, Zeros}
use Rattle.volume_maps.specs.declared.place.VolumePlace.{VolumePlace}
use Rattle.volume_maps.specs.declared.place.VolumePlace.TheVariants.{Log, Object}
use Rattle.volume_maps.specs.Places.{volume_on}
use Rattle.object_uploads.specs.State.{QueueState}
use Rattle.read_plan.specs.Places.{IsLogSector, IsLogged}
use Rattle.read_plan.specs.Rows.{IsReadInto, IsRowRead, AreRowsRead}
use Rattle.read_plan.proofs.PartLemmas.{part_of_part, part_written}
use Rattle.read_plan.proofs.RowLemmas.{IsReadablePlace, IsGood, HasRecord, same_row, has_record}

-- the sectors of a part that was written are those of the whole from there on
sector_written : (start j : ℕ) (part old : List ℕ) → 512 * (j + 1) ≤ length part → 512 * start + length part ≤ length old
    → sector_of (start + j) (with_bytes (512 * start) part old) ≡ sector_of j part
sector_written start j part old inside room =
    let new = with_bytes (512 * start) part old in
    let at : 512 * (start + j) ≡ 512 * start + 512 * j = omega arith in
    ap (λ n. take 512 (drop n new)) at ∙ part_written (512 * start) (512 * j) 512 part old (omega (arith, inside)) room

-- ---- one row

-- a row of a read has a sector
pub record HasSector (lba i : ℕ) (row : Extent VolumePlace) : Type 0 where
  pub from : row.lba ≤ lba + i
  pub to : lba + i < row.lba + row.sectors

keeps_size_at : (log : LogState) (at count : ℕ) (place : VolumePlace) (old new : List ℕ) → at + count ≤ length old
    → IsReadInto log at count place old new → length new ≡ length old
keeps_size_at log at count (Log (Data seq sector)) old new room (part, size, read, is) =
    ap length is ∙ keeps_length at part old (omega (arith, room, size))
keeps_size_at log at count (Log (Zeros seq)) old new room is = ap length is
keeps_size_at log at count (Object place) old new room is = ap length is

keeps_sector_at : (log : LogState) (at count i : ℕ) (place : VolumePlace) (old new : List ℕ) → at + count ≤ length old
    → (512 * (i + 1) ≤ at) ⊎ (at + count ≤ 512 * i) → IsReadInto log at count place old new → sector_of i new ≡ sector_of i old
keeps_sector_at log at count i (Log (Data seq sector)) old new room apart (part, size, read, is) =
    ap (sector_of i) is
    ∙ keeps_other_bytes at part old (512 * i) 512 (omega (arith, room, size))
    (elim apart [ inl before ↦ inl (omega (arith, before)) | inr past ↦ inr (omega (arith, past, size)) ])
keeps_sector_at log at count i (Log (Zeros seq)) old new room apart is = ap (sector_of i) is
keeps_sector_at log at count i (Object place) old new room apart is = ap (sector_of i) is

-- ---- what the log gave for a sector of a row

if_some : {A : Type 0} (P Q : A → Type 0) (given : Option A) → ((a : A) → P a → Q a) → IfSome given P → IfSome given Q
if_some P Q None then none = tt
if_some P Q (Some a) then is = then a is

same_entry : (a b : Entry) → ◌≡◌ {A = Option Entry} (Some a) (Some b) → a ≡ b
same_entry a b is = cc

agrees_at : (rows : List Row) (list : List Entry) (index sector : ℕ) (row : Row) (entry : Entry) (bytes : List ℕ)
    → slice_get rows index ≡ Some row
    → slice_get list index ≡ Some entry → AreDataOfRow row sector (length bytes) → AgreesWith rows list sector bytes
    → bytes ≡ take (length bytes) (drop (512 * (sector - (position_of row + 1))) (data_of entry))
agrees_at [] list index sector row entry bytes is at there agrees = absurd cc
agrees_at (first ∷ rows) [] index sector row entry bytes is at there agrees = absurd cc
agrees_at (first ∷ rows) (one ∷ list) zero sector row entry bytes is at there agrees =
    let P : Row → Type 0 =
    λ r. AreDataOfRow r sector (length bytes)
    → bytes ≡ take (length bytes) (drop (512 * (sector - (position_of r + 1))) (data_of one)) in
    subst P (same_row first row is) agrees.0 there
    ∙ ap (λ e. take (length bytes) (drop (512 * (sector - (position_of row + 1))) (data_of e))) (same_entry one entry at)
agrees_at (first ∷ rows) (one ∷ list) (suc index) sector row entry bytes is at there agrees =
    agrees_at rows list index sector row entry bytes is at there agrees.1

begins_after : (row : Row) (sector count : ℕ) → AreDataOfRow row sector count → position_of row + 1 ≤ sector
begins_after (row_kinds.Write seq at lba sectors) sector count there = there.0
begins_after (row_kinds.Zero seq at lba sectors) sector count there = absurd there

-- the j-th sector of what was read of a record
sector_agrees : (log : LogState) (seq sector count j : ℕ) (part : List ℕ) → HasRecord log seq sector count
    → length part ≡ 512 * count → j < count
    → IsReadFrom log sector part → IsLogSector log seq (sector + j) (sector_of j part)
sector_agrees log seq sector count j part has size less read =
    if_some (λ list. AgreesWith log.rows list sector part)
    (λ list. (row : Row) (entry : Entry) → slice_get log.rows (seq - log.first) ≡ Some row
    → slice_get list (seq - log.first) ≡ Some entry
    → sector_of j part ≡ sector_of (sector + j - (position_of row + 1)) (data_of entry))
    log.entries
    (λ list agrees row entry stands at.
    let one = same_row has.row row (sym has.stands ∙ stands) in
    let there : AreDataOfRow row sector (length part) =
    subst (λ n. AreDataOfRow row sector n) (sym size) (subst (λ r. AreDataOfRow r sector (512 * count)) one has.there) in
    let from : position_of row + 1 ≤ sector = begins_after row sector (length part) there in
    let skipped = 512 * (sector - (position_of row + 1)) in
    let further : skipped + 512 * j ≡ 512 * (sector + j - (position_of row + 1)) = omega (arith, from) in
    ap (sector_of j) (agrees_at log.rows list (seq - log.first) sector row entry part stands at there agrees)
    ∙ part_of_part skipped (length part) 512 (512 * j) (data_of entry) (omega (arith, size, less))
    ∙ ap (λ n. take 512 (drop n (data_of entry))) further)
    read

-- a sector of zeros in a row's part was read, or is as before
reads_sector_at : (log : LogState) (queue : QueueState) (start count j : ℕ) (place : VolumePlace) (old new : List ℕ)
    → 512 * start + 512 * count ≤ length old → j < count → ((i : ℕ) → i < count → IsReadablePlace log queue (volume_on i place))
    → sector_of (start + j) old ≡ zero_sector → IsReadInto log (512 * start) (512 * count) place old new
    → IsLogged log (Some (volume_on j place)) (sector_of (start + j) new)
reads_sector_at log queue start count j (Log (Data seq sector)) old new room less places zeros (part, size, read, is) =
    subst (IsLogSector log seq (sector + j))
    (sym (ap (sector_of (start + j)) is ∙ sector_written start j part old (omega (arith, size, less))
    (omega (arith, room, size))))
    (sector_agrees log seq sector count j part (has_record log queue seq sector count (omega (arith, less)) places)
    size less read)
reads_sector_at log queue start count j (Log (Zeros seq)) old new room less places zeros is =
    ap (sector_of (start + j)) is ∙ zeros
reads_sector_at log queue start count j (Object place) old new room less places zeros is = ap (sector_of (start + j)) is ∙ zeros

module _ (lba sectors : ℕ) (log : LogState) (queue : QueueState) where
  room_of_row : (row : Extent VolumePlace) (old : List ℕ) → IsGood lba sectors log queue row → length old ≡ 512 * sectors
      → 512 * (row.lba - lba) + 512 * row.sectors ≤ length old
  room_of_row row old good size = (let from = good.inside.from in let to = good.inside.to in omega (arith, size, from, to))

  keeps_size : (row : Extent VolumePlace) (old new : List ℕ) → IsGood lba sectors log queue row → length old ≡ 512 * sectors
      → IsRowRead log lba row old new → length new ≡ 512 * sectors
  keeps_size row old new good size read =
      keeps_size_at log (512 * (row.lba - lba)) (512 * row.sectors) row.place old new (room_of_row row old good size) read ∙ size

  -- a sector of another row is as before
  keeps_sector : (row : Extent VolumePlace) (i : ℕ) (old new : List ℕ) → IsGood lba sectors log queue row
      → length old ≡ 512 * sectors
      → (lba + i < row.lba) ⊎ (row.lba + row.sectors ≤ lba + i) → IsRowRead log lba row old new
      → sector_of i new ≡ sector_of i old
  keeps_sector row i old new good size apart read =
      let from = good.inside.from in
      keeps_sector_at log (512 * (row.lba - lba)) (512 * row.sectors) i row.place old new (room_of_row row old good size)
      (elim apart [ inl below ↦ inl (omega (arith, from, below)) | inr past ↦ inr (omega (arith, from, past)) ]) read

  reads_sector : (row : Extent VolumePlace) (i : ℕ) (old new : List ℕ) → IsGood lba sectors log queue row
      → length old ≡ 512 * sectors
      → HasSector lba i row → sector_of i old ≡ zero_sector → IsRowRead log lba row old new
      → IsLogged log (Some (volume_on (lba + i - row.lba) row.place)) (sector_of i new)
  reads_sector row i old new good size has zeros read =
      let from = good.inside.from in
      let low = has.from in
      let high = has.to in
      let start = row.lba - lba in
      let j = lba + i - row.lba in
      let there : start + j ≡ i = omega (arith, from, low) in
      subst (λ n. IsLogged log (Some (volume_on j row.place)) (sector_of n new)) there
      (reads_sector_at log queue start row.sectors j row.place old new (room_of_row row old good size) (omega (arith, low, high))
      good.places
      (ap (λ n. sector_of n old) there ∙ zeros) read)

  -- ---- all rows

  all_keep_size : (rows : List (Extent VolumePlace)) (old new : List ℕ) → AllByRecursion (IsGood lba sectors log queue) rows
      → length old ≡ 512 * sectors → AreRowsRead log lba rows old new → length new ≡ 512 * sectors
  all_keep_size [] old new good size is = ap length is ∙ size
  all_keep_size (row ∷ rows) old new good size (middle, read, more) =
      all_keep_size rows middle new good.1 (keeps_size row old middle good.0 size read) more

  -- rows past a sector leave it as it was
  all_keep_sector : (rows : List (Extent VolumePlace)) (at i : ℕ) (old new : List ℕ) → IsShortest volume_on rows
      → StartsFrom at rows → lba + i < at
      → AllByRecursion (IsGood lba sectors log queue) rows → length old ≡ 512 * sectors → AreRowsRead log lba rows old new
      → sector_of i new ≡ sector_of i old
  all_keep_sector [] at i old new shortest starts below good size is = ap (sector_of i) is
  all_keep_sector (row ∷ rows) at i old new shortest starts below good size (middle, read, more) =
      all_keep_sector rows (row.lba + row.sectors) i middle new shortest.2 (after_row volume_on row rows shortest.1)
      (omega (arith, starts, below)) good.1 (keeps_size row old middle good.0 size read) more
      ∙ keeps_sector row i old middle good.0 size (inl (omega (arith, starts, below))) read

  all_read_sector : (rows : List (Extent VolumePlace)) (i : ℕ) (old new : List ℕ) → IsShortest volume_on rows
      → AllByRecursion (IsGood lba sectors log queue) rows → length old ≡ 512 * sectors → sector_of i old ≡ zero_sector
      → AreRowsRead log lba rows old new → IsLogged log (place_at volume_on rows (lba + i)) (sector_of i new)
  all_read_sector [] i old new shortest good size zeros is = ap (sector_of i) is ∙ zeros
  all_read_sector (row ∷ rows) i old new shortest good size zeros (middle, read, more) =
      let P : Option VolumePlace → Type 0 = λ p. IsLogged log p (sector_of i new) in
      let kept : length middle ≡ 512 * sectors = keeps_size row old middle good.0 size read in
      elim (cases_lt (lba + i) row.lba) [
        | inl below ↦
            subst P (sym (at_below volume_on row rows (lba + i) below))
            (all_read_sector rows i middle new shortest.2 good.1 kept (keeps_sector row i old middle good.0 size (inl below) read
            ∙ zeros) more)
        | inr from ↦ elim (cases_lt (lba + i) (row.lba + row.sectors)) [
          | inl to ↦
              subst P (sym (at_inside volume_on row rows (lba + i) from to))
              (subst (IsLogged log (Some (volume_on (lba + i - row.lba) row.place)))
              (sym (all_keep_sector rows (row.lba + row.sectors) i middle new shortest.2
              (after_row volume_on row rows shortest.1) to good.1 kept more))
              (reads_sector row i old middle good.0 size (record { from = from; to = to }) zeros read))
          | inr past ↦
              subst P (sym (at_past volume_on row rows (lba + i) past))
              (all_read_sector rows i middle new shortest.2 good.1 kept (keeps_sector row i old middle good.0 size (inr past) read
              ∙ zeros) more)
        ]
      ]

-- ---- what a read begins with

zeros_there : (i sectors : ℕ) → i < sectors → sector_of i (replicate (512 * sectors) 0) ≡ zero_sector
unfolding zero_sector
zeros_there i sectors less =
    ap (take 512) (drop-replicate (512 * i) (512 * sectors) 0)
    ∙ take-replicate 512 (512 * sectors - 512 * i) 0 (omega (arith, less))

-- of zeros each sector of a range is read by its place
pub range_is_read : (lba sectors : ℕ) (log : LogState) (queue : QueueState) (rows : List (Extent VolumePlace)) (bytes : List ℕ)
    → IsShortest volume_on rows → AllByRecursion (IsGood lba sectors log queue) rows
    → AreRowsRead log lba rows (replicate (512 * sectors) 0) bytes
    → (i : ℕ) → i < sectors → IsLogged log (place_at volume_on rows (lba + i)) (sector_of i bytes)
range_is_read lba sectors log queue rows bytes shortest good read i less =
    all_read_sector lba sectors log queue rows i (replicate (512 * sectors) 0) bytes shortest good
    (length-replicate (512 * sectors) 0)
    (zeros_there i sectors less) read

pub range_has_size : (lba sectors : ℕ) (log : LogState) (queue : QueueState) (rows : List (Extent VolumePlace)) (bytes : List ℕ)
    → AllByRecursion (IsGood lba sectors log queue) rows → AreRowsRead log lba rows (replicate (512 * sectors) 0) bytes
    → length bytes ≡ 512 * sectors
range_has_size lba sectors log queue rows bytes good read =
    all_keep_size lba sectors log queue rows (replicate (512 * sectors) 0) bytes good (length-replicate (512 * sectors) 0) read
