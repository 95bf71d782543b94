-- The pieces of rows: where each lies, and which of them fetches a sector.
use Rattle.std.proofs.Common.{◌≡◌, ℕ, ◌+◌, ◌-◌, ◌*◌, ◌<◌, ◌≤◌, ◌⊎◌, inl, inr, Option, Some, None, List, [], ◌∷◌, ◌++◌, refl, sym}
use Rattle.std.proofs.Common.{subst, arith}
use Rattle.std.specs.List.{AllByRecursion}
use Rattle.std.proofs.lemmas.Bool.{cases_lt}
use Rattle.extent_map.specs.declared.extent.Extent.{Extent}
use Rattle.extent_map.specs.Extents.{place_at, IsShortest}
use Rattle.extent_map.specs.Laws.{StartsFrom}
use Rattle.extent_map.proofs.Places.{at_inside, at_below, at_past, after_row}
use Rattle.cache_log.specs.Log.{LogState}
use Rattle.volume_maps.specs.declared.place.ObjectPlace.{ObjectPlace}
use Rattle.volume_maps.specs.declared.place.VolumePlace.{VolumePlace}
use Rattle.volume_maps.specs.declared.place.VolumePlace.TheVariants.{Log, Object}
use Rattle.volume_maps.specs.Places.{object_on, volume_on}
use Rattle.object_uploads.specs.State.{StoredObject, QueueState}
use Rattle.object_uploads.specs.Queue.{stored_at}
use Rattle.read_plan.specs.Plan.{PieceState, PieceFits}
use Rattle.read_plan.specs.Places.{Misses, Fetches, OneFetches, FetchPlace}
use Rattle.read_plan.specs.Rows.{piece_by, piece_from, row_pieces}
use Rattle.read_plan.proofs.RowLemmas.{IsReadablePlace, IsGood, HasObject, has_object}

all_append : {A : Type 0} (P : A → Type 0) (front back : List A) → AllByRecursion P front → AllByRecursion P back
    → AllByRecursion P (front ++ back)
all_append P [] back first second = second
all_append P (one ∷ front) back first second = (first.0, all_append P front back first.1 second)

-- ---- one row

-- pieces that miss a sector, before others
missed_first : (queue : QueueState) (place : Option VolumePlace) (i : ℕ) (front back : List PieceState)
    → AllByRecursion (Misses i) front
    → FetchPlace queue place i back → FetchPlace queue place i (front ++ back)
missed_first queue None i front back missed fetched = all_append (Misses i) front back missed fetched
missed_first queue (Some (Log place)) i front back missed fetched = all_append (Misses i) front back missed fetched
missed_first queue (Some (Object place)) i [] back missed fetched = fetched
missed_first queue (Some (Object place)) i (piece ∷ front) back missed fetched =
    inr (missed.0, missed_first queue (Some (Object place)) i front back missed.1 fetched)

misses_by : (given : Option StoredObject) (at count sector i : ℕ) → (at + count ≤ 512 * i) ⊎ (512 * (i + 1) ≤ at)
    → AllByRecursion (Misses i) (piece_by given at count sector)
misses_by None at count sector i apart = tt
misses_by (Some object) at count sector i apart = (apart, tt)

misses_from : (queue : QueueState) (at count i : ℕ) (place : VolumePlace) → (at + count ≤ 512 * i) ⊎ (512 * (i + 1) ≤ at)
    → AllByRecursion (Misses i) (piece_from queue at count place)
misses_from queue at count i (Log place) apart = tt
misses_from queue at count i (Object place) apart =
    misses_by (stored_at queue place) at count place.sector i apart

fetches_by : (queue : QueueState) (given : Option StoredObject) (start count j : ℕ) (place : ObjectPlace) (rest : List PieceState)
    → stored_at queue place ≡ given → HasObject given place.sector count → j < count
    → AllByRecursion (Misses (start + j)) rest
    → OneFetches queue (object_on j place) (start + j) (piece_by given (512 * start) (512 * count) place.sector ++ rest)
fetches_by queue None start count j place rest is has less missed = absurd (let none = has.is in cc)
fetches_by queue (Some object) start count j place rest is has less missed =
    let piece : Fetches queue (object_on j place) (start + j) (record {
      at = 512 * start;
      count = 512 * count;
      receipt = object.receipt;
      from = 512 * (object.front + place.sector);
    }) = record {
      from = omega arith;
      to = omega (arith, less);
      object = object;
      stored = is;
      receipt = refl;
      byte = omega arith;
    } in
    inl (piece, missed)

fetches_from : (log : LogState) (queue : QueueState) (start count j : ℕ) (place : VolumePlace) (rest : List PieceState)
    → j < count
    → ((i : ℕ) → i < count → IsReadablePlace log queue (volume_on i place)) → AllByRecursion (Misses (start + j)) rest
    → FetchPlace queue (Some (volume_on j place)) (start + j) (piece_from queue (512 * start) (512 * count) place ++ rest)
fetches_from log queue start count j (Log place) rest less places missed = missed
fetches_from log queue start count j (Object place) rest less places missed =
    fetches_by queue (stored_at queue place) start count j place rest refl
    (has_object (stored_at queue place) place.sector count (omega (arith, less)) places) less missed

inside_by : (given : Option StoredObject) (size at count sector sectors : ℕ) → HasObject given sector sectors
    → count ≡ 512 * sectors
    → at + count ≤ size → AllByRecursion (PieceFits size) (piece_by given at count sector)
inside_by None size at count sector sectors has is room = tt
inside_by (Some object) size at count sector sectors has is room =
    let one : ◌≡◌ {A = Option StoredObject} (Some object) (Some has.object) = has.is in
    let same : object ≡ has.object = cc in
    let covers = subst (λ (o : StoredObject). 512 * (o.front + sector) + 512 * sectors ≤ o.receipt.size) (sym same) has.covers in
    (record { read = room; object = omega (arith, covers, is) }, tt)

inside_from : (log : LogState) (queue : QueueState) (size at sectors : ℕ) (place : VolumePlace) → 0 < sectors
    → at + 512 * sectors ≤ size
    → ((i : ℕ) → i < sectors → IsReadablePlace log queue (volume_on i place))
    → AllByRecursion (PieceFits size) (piece_from queue at (512 * sectors) place)
inside_from log queue size at sectors (Log place) some room places = tt
inside_from log queue size at sectors (Object place) some room places =
    inside_by (stored_at queue place) size at (512 * sectors) place.sector sectors
    (has_object (stored_at queue place) place.sector sectors some places) refl room

-- ---- all rows

module _ (lba sectors : ℕ) (log : LogState) (queue : QueueState) where
  -- rows past a sector have no piece of it
  all_miss : (rows : List (Extent VolumePlace)) (at i : ℕ) → IsShortest volume_on rows → StartsFrom at rows → lba + i < at
      → AllByRecursion (IsGood lba sectors log queue) rows → AllByRecursion (Misses i) (row_pieces queue lba rows)
  all_miss [] at i shortest starts below good = tt
  all_miss (row ∷ rows) at i shortest starts below good =
      let from = good.0.inside.from in
      all_append (Misses i) (piece_from queue (512 * (row.lba - lba)) (512 * row.sectors) row.place) (row_pieces queue lba rows)
      (misses_from queue (512 * (row.lba - lba)) (512 * row.sectors) i row.place (inr (omega (arith, from, starts, below))))
      (all_miss rows (row.lba + row.sectors) i shortest.2 (after_row volume_on row rows shortest.1)
      (omega (arith, starts, below)) good.1)

  pub range_is_fetched : (rows : List (Extent VolumePlace)) (i : ℕ) → IsShortest volume_on rows
      → AllByRecursion (IsGood lba sectors log queue) rows
      → FetchPlace queue (place_at volume_on rows (lba + i)) i (row_pieces queue lba rows)
  range_is_fetched [] i shortest good = tt
  range_is_fetched (row ∷ rows) i shortest good =
      let from = good.0.inside.from in
      let at = 512 * (row.lba - lba) in
      let count = 512 * row.sectors in
      let front = piece_from queue at count row.place in
      let back = row_pieces queue lba rows in
      let P : Option VolumePlace → Type 0 = λ p. FetchPlace queue p i (front ++ back) in
      let more = range_is_fetched rows i shortest.2 good.1 in
      elim (cases_lt (lba + i) row.lba) [
        | inl below ↦
            subst P (sym (at_below volume_on row rows (lba + i) below))
            (missed_first queue (place_at volume_on rows (lba + i)) i front back
            (misses_from queue at count i row.place (inr (omega (arith, from, below)))) more)
        | inr low ↦ elim (cases_lt (lba + i) (row.lba + row.sectors)) [
          | inl high ↦
              let start = row.lba - lba in
              let j = lba + i - row.lba in
              let there : start + j ≡ i = omega (arith, from, low) in
              let missed : AllByRecursion (Misses i) back =
              all_miss rows (row.lba + row.sectors) i shortest.2 (after_row volume_on row rows shortest.1) high good.1 in
              subst P (sym (at_inside volume_on row rows (lba + i) low high))
              (subst (λ n. FetchPlace queue (Some (volume_on j row.place)) n (front ++ back)) there
              (fetches_from log queue start row.sectors j row.place back (omega (arith, low, high)) good.0.places
              (subst (λ n. AllByRecursion (Misses n) back) (sym there) missed)))
          | inr past ↦
              subst P (sym (at_past volume_on row rows (lba + i) past))
              (missed_first queue (place_at volume_on rows (lba + i)) i front back
              (misses_from queue at count i row.place (inl (omega (arith, from, past)))) more)
        ]
      ]

  pub pieces_lie_inside : (rows : List (Extent VolumePlace)) → AllByRecursion (IsGood lba sectors log queue) rows
      → AllByRecursion (PieceFits (512 * sectors)) (row_pieces queue lba rows)
  pieces_lie_inside [] good = tt
  pieces_lie_inside (row ∷ rows) good =
      let from = good.0.inside.from in
      let to = good.0.inside.to in
      all_append (PieceFits (512 * sectors)) (piece_from queue (512 * (row.lba - lba)) (512 * row.sectors) row.place)
      (row_pieces queue lba rows)
      (inside_from log queue (512 * sectors) (512 * (row.lba - lba)) row.sectors row.place good.0.some (omega (arith, from, to))
      good.0.places)
      (pieces_lie_inside rows good.1)
