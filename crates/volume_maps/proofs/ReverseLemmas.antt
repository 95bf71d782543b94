-- The reverse of the objects' map: where objects come and go, and where the map changes.
use Rattle.std.proofs.Common.{ℕ, ◌+◌, ◌-◌, ◌<◌, ◌≡◌, ◌≢◌, ◌⊎◌, inl, inr, Bool, true, false, cond, ◌&&◌, Option, Some, None}
use Rattle.std.proofs.Common.{List, [], ◌∷◌, ◌++◌, length, refl, sym, ◌∙◌, ap, subst, arith}
use Rattle.std.specs.Prelude.{IsTrue, IsSome, IfSome, ◌==◌, map}
use Rattle.std.proofs.lemmas.Bool.{and_parts}
use Rattle.std.proofs.lemmas.Bool.Decides.{nat_tests}
use Rattle.std.proofs.lemmas.List.{map-append, length-map}
use Rattle.std.proofs.lemmas.List.Sums.{sum_by-cons}
use Rattle.extent_map.specs.declared.extent.Extent.{Extent}
use Rattle.extent_map.specs.Extents.{is_within, place_at, place_after_set}
use Rattle.object_format.specs.declared.copy_row.CopyRow.{CopyRow}
use Rattle.object_format.specs.declared.data_row.DataRow.{DataRow}
use Rattle.object_table.specs.declared.row.ObjectRow.{ObjectRow}
use Rattle.object_table.specs.Table.{TableState, row_of, numbers, without, new_row, added, passed, IsNewest}
use Rattle.reverse_map.specs.declared.range.SectorRange.{SectorRange}
use Rattle.reverse_map.specs.Ranges.{ObjectRanges, is_in_ranges, ranges_of, with_range, without_object}
use Rattle.volume_maps.specs.declared.place.ObjectPlace.{ObjectPlace}
use Rattle.volume_maps.specs.Places.{object_on}
use Rattle.volume_maps.specs.Live.{is_in_object, is_live, sectors_in, live_sectors, MayGain}
use Rattle.volume_maps.specs.Kept.{IsKept}
use Rattle.volume_maps.specs.Maps.{row_object_place, settled_by_row, settled_by, settled_by_copy_row, settled_by_copy}
use Rattle.volume_maps.specs.Covered.{Cover, CoverRows, CoverCopyRows, IsReverse, with_sectors}
use Rattle.volume_maps.proofs.KeptLemmas.{last_row, kept_more}
use Rattle.volume_maps.proofs.RangeLemmas.{number_of, has_ranges, numbers_ranged, numbers_without, in_more, in_ranged}
use Rattle.volume_maps.proofs.RangeLemmas.{in_new_range, other_ranges}

-- ---- objects that come, change and go

-- other sectors are in an object only where its ranges have them
pub reverse_moved : (rows new : List (Extent ObjectPlace)) (table next : TableState) (objects : List ObjectRanges)
    → IsReverse rows table objects → numbers next.rows ≡ numbers table.rows
    → ((number k : ℕ) → IsTrue (is_live number (place_at object_on new k))
    → IsTrue (is_live number (place_at object_on rows k)) ⊎ IsTrue (is_in_ranges (ranges_of number objects) k))
    → IsReverse new next objects
reverse_moved rows new table next objects reverse same moved = record {
  reversed = λ number k live. elim (moved number k live) [
    | inl before ↦ reverse.reversed number k before
    | inr within ↦ within
  ];
  known = reverse.known ∙ sym same;
}

-- the same sectors are
pub reverse_same : (rows : List (Extent ObjectPlace)) (table next : TableState) (objects : List ObjectRanges)
    → IsReverse rows table objects → numbers next.rows ≡ numbers table.rows → IsReverse rows next objects
reverse_same rows table next objects reverse same =
    reverse_moved rows rows table next objects reverse same (λ number k live. inl live)

-- an object more
pub reverse_more : (rows : List (Extent ObjectPlace)) (table next : TableState) (objects : List ObjectRanges) (new : ObjectRow)
    (ranges : List SectorRange)
    → IsReverse rows table objects → next.rows ≡ table.rows ++ new ∷ []
    → IsReverse rows next (objects ++ record { number = new.number; ranges = ranges } ∷ [])
reverse_more rows table next objects new ranges reverse is =
    let last : ObjectRanges = record { number = new.number; ranges = ranges } in
    let more : numbers next.rows ≡ numbers table.rows ++ new.number ∷ [] =
    ap numbers is ∙ map-append (λ (row : ObjectRow). row.number) table.rows (new ∷ []) in
    record {
      reversed = λ other k live. in_more other k objects (last ∷ []) (reverse.reversed other k live);
      known = map-append number_of objects (last ∷ []) ∙ ap (λ ns. ns ++ new.number ∷ []) reverse.known ∙ sym more;
    }

-- a checkpoint passes all
numbers_passed : (rows : List ObjectRow) → numbers (map passed rows) ≡ numbers rows
numbers_passed [] = refl
numbers_passed (row ∷ rows) = ap (λ rest. row.number ∷ rest) (numbers_passed rows)

pub reverse_passed : (rows : List (Extent ObjectPlace)) (table : TableState) (objects : List ObjectRanges)
    → IsReverse rows table objects → IsReverse rows (record table { rows = map passed table.rows }) objects
reverse_passed rows table objects reverse =
    reverse_same rows table (record table { rows = map passed table.rows }) objects reverse (numbers_passed table.rows)

-- an object that comes with a number above all others
module _ (rows : List (Extent ObjectPlace)) (table : TableState) (objects : List ObjectRanges) (number payload front : ℕ)
    (kept : IsKept rows table) (reverse : IsReverse rows table objects) (newest : IsNewest table number) where
  pub kept_added : IsKept rows (added (new_row number payload front) table)
  kept_added =
      let new = new_row number payload front in
      kept_more rows table (added new table) new kept refl (omega (arith, newest.above_checkpoint)) newest.above_rows refl

  pub reverse_added : (ranges : List SectorRange) → IsReverse rows (added (new_row number payload front) table)
      (objects ++ record { number = number; ranges = ranges } ∷ [])
  reverse_added ranges =
      let new = new_row number payload front in
      reverse_more rows table (added new table) objects new ranges reverse refl

  -- may gain sectors
  pub gains_added : MayGain number (added (new_row number payload front) table)
  gains_added =
      let new = new_row number payload front in
      (new, last_row number table.rows new refl newest.above_rows, refl)

-- as many objects as the table has
pub same_length : (rows : List (Extent ObjectPlace)) (table : TableState) (objects : List ObjectRanges)
    → IsReverse rows table objects → length objects ≡ length table.rows
same_length rows table objects reverse =
    sym (length-map objects number_of) ∙ ap length reverse.known ∙ length-map table.rows (λ (row : ObjectRow). row.number)

-- where an object has no sector, none is live in it
first_by : (b c : Bool) (number sectors i : ℕ) (place : ObjectPlace) (rest : Option ObjectPlace) → (b ≡ true → 0 < sectors)
    → is_in_object number place ≡ c → cond c sectors 0 ≡ 0 → (IsTrue (is_live number rest) → ⊥)
    → IsTrue (is_live number (cond b (Some (object_on i place)) rest)) → ⊥
first_by false c number sectors i place rest some test none more live = more live
first_by true false number sectors i place rest some test none more live = cc
first_by true true number sectors i place rest some test none more live = omega (arith, some refl, none)

none_live : (number k : ℕ) (rows : List (Extent ObjectPlace)) → live_sectors number rows ≡ 0
    → IsTrue (is_live number (place_at object_on rows k)) → ⊥
none_live number k [] none live = cc
none_live number k (row ∷ rows) none live =
    let here : sectors_in number row + live_sectors number rows ≡ 0 = sym (sum_by-cons (sectors_in number) row rows) ∙ none in
    first_by (is_within row.lba row.sectors k) (is_in_object number row.place) number row.sectors (k - row.lba) row.place
    (place_at object_on rows k) (λ within. grind (arith, nat_tests)) refl (omega (arith, here))
    (none_live number k rows (omega (arith, here))) live

-- an object less, which has no sector
pub reverse_without : (rows : List (Extent ObjectPlace)) (table next : TableState) (objects : List ObjectRanges) (number : ℕ)
    → IsReverse rows table objects → live_sectors number rows ≡ 0 → next.rows ≡ without number table.rows
    → IsReverse rows next (without_object number objects)
reverse_without rows table next objects number reverse none is = record {
  reversed = λ other k live.
      let differ : other ≢ number = λ same.
      none_live number k rows none (subst (λ n. IsTrue (is_live n (place_at object_on rows k))) same live) in
      subst (λ ranges. IsTrue (is_in_ranges ranges k)) (sym (other_ranges number other objects differ))
      (reverse.reversed other k live);
  known = numbers_without number objects table.rows reverse.known ∙ ap numbers (sym is);
}

-- ---- an object's rows are settled

-- a sector that is in an object once those of another were settled was in it, or this is the other, whose ranges have it
abbrev IsLiveBy : (number : ℕ) → List SectorRange → (other k : ℕ) → Option ObjectPlace → Type 0
IsLiveBy number ranges other k before =
    IsTrue (is_live other before) ⊎ ((other ≡ number) × IsTrue (is_in_ranges ranges k))

module _ (number : ℕ) (ranges : List SectorRange) (other k : ℕ) where
  put_live : (b : Bool) (row : DataRow) (place : Option ℕ) (before : Option ObjectPlace)
      → is_within row.lba row.sectors k ≡ b → IfSome place (λ (place : ℕ). Cover ranges row.lba row.sectors)
      → IsTrue (is_live other (cond b (row_object_place number place (k - row.lba)) before))
      → IsLiveBy number ranges other k before
  put_live false row place before within cover live = inl live
  put_live true row None before within cover live = absurd cc
  put_live true row (Some place) before within cover live =
      let same : other ≡ number = grind (arith, nat_tests) in
      inr (same, cover k within)

  settled_live : (rows : List DataRow) (before : Option ObjectPlace) → CoverRows ranges rows
      → IsTrue (is_live other (settled_by number rows before k)) → IsLiveBy number ranges other k before
  settled_live [] before cover live = inl live
  settled_live (row ∷ rows) before cover live =
      elim (settled_live rows (settled_by_row number row before k) cover.1 live) [
        | inl live ↦ put_live (is_within row.lba row.sectors k) row row.place before refl cover.0 live
        | inr within ↦ inr within
      ]

  copy_live : (b c : Bool) (row : CopyRow) (at : ℕ) (before : Option ObjectPlace)
      → is_within row.lba row.sectors k ≡ b → Cover ranges row.lba row.sectors
      → IsTrue (is_live other (cond (b && c) (Some (record { level = 0; number = number; sector = at })) before))
      → IsLiveBy number ranges other k before
  copy_live false c row at before within cover live = inl live
  copy_live true false row at before within cover live = inl live
  copy_live true true row at before within cover live =
      let same : other ≡ number = grind (arith, nat_tests) in
      inr (same, cover k within)

  copied_live : (rows : List CopyRow) (before : Option ObjectPlace) → CoverCopyRows ranges rows
      → IsTrue (is_live other (settled_by_copy number rows before k)) → IsLiveBy number ranges other k before
  copied_live [] before cover live = inl live
  copied_live (row ∷ rows) before cover live =
      elim (copied_live rows (settled_by_copy_row number row before k) cover.1 live) [
        | inl live ↦ copy_live (is_within row.lba row.sectors k) (is_live row.source.number before) row
            (row.place + (k - row.lba)) before refl cover.0 live
        | inr within ↦ inr within
      ]

  in_its_ranges : (before : Option ObjectPlace) (objects : List ObjectRanges) → ranges_of number objects ≡ ranges
      → IsLiveBy number ranges other k before
      → IsTrue (is_live other before) ⊎ IsTrue (is_in_ranges (ranges_of other objects) k)
  in_its_ranges before objects are (inl live) = inl live
  in_its_ranges before objects are (inr within) =
      inr (subst (λ ranges. IsTrue (is_in_ranges ranges k)) (sym are ∙ ap (λ n. ranges_of n objects) (sym within.0)) within.1)

module _ (old new : List (Extent ObjectPlace)) (table next : TableState) (objects : List ObjectRanges) (number : ℕ)
    (ranges : List SectorRange) (reverse : IsReverse old table objects) (same : numbers next.rows ≡ numbers table.rows)
    (are : ranges_of number objects ≡ ranges) where
  pub reverse_settled : (rows : List DataRow) → CoverRows ranges rows
      → ((k : ℕ) → place_at object_on new k ≡ settled_by number rows (place_at object_on old k) k)
      → IsReverse new next objects
  reverse_settled rows cover places =
      reverse_moved old new table next objects reverse same (λ other k live.
      in_its_ranges number ranges other k (place_at object_on old k) objects are
      (settled_live number ranges other k rows (place_at object_on old k) cover
      (subst (λ place. IsTrue (is_live other place)) (places k) live)))

  pub reverse_copied : (rows : List CopyRow) → CoverCopyRows ranges rows
      → ((k : ℕ) → place_at object_on new k ≡ settled_by_copy number rows (place_at object_on old k) k)
      → IsReverse new next objects
  reverse_copied rows cover places =
      reverse_moved old new table next objects reverse same (λ other k live.
      in_its_ranges number ranges other k (place_at object_on old k) objects are
      (copied_live number ranges other k rows (place_at object_on old k) cover
      (subst (λ place. IsTrue (is_live other place)) (places k) live)))

-- ---- sectors get the places of an object from one on

module _ (old new : List (Extent ObjectPlace)) (table next : TableState) (objects : List ObjectRanges) (lba sectors : ℕ)
    (place : ObjectPlace) (reverse : IsReverse old table objects) (same : numbers next.rows ≡ numbers table.rows)
    (there : place.level ≡ 0 → IsSome (row_of place.number table.rows))
    (places : (k : ℕ) → place_at object_on new k ≡ place_after_set object_on lba sectors place (place_at object_on old) k) where
  -- in another volume's object
  clone_live : (b : Bool) (number k : ℕ) → (place.level == 0) ≡ false
      → IsTrue (is_live number (cond b (Some (object_on (k - lba) place)) (place_at object_on old k)))
      → IsTrue (is_live number (place_at object_on old k))
  clone_live false number k clone live = live
  clone_live true number k clone live =
      let none : is_live number (Some (object_on (k - lba) place)) ≡ false = rw clone refl in
      absurd cc

  -- in one of the volume's own
  own_live : (b : Bool) (number k : ℕ) → is_within lba sectors k ≡ b → (place.level == 0) ≡ true
      → IsTrue (is_live number (cond b (Some (object_on (k - lba) place)) (place_at object_on old k)))
      → IsTrue (is_live number (place_at object_on old k)) ⊎ IsTrue (is_in_ranges (ranges_of number
      (with_range place.number (record { lba = lba; sectors = sectors }) objects)) k)
  own_live false number k within own live = inl live
  own_live true number k within own live =
      let range : SectorRange = record { lba = lba; sectors = sectors } in
      let it : (place.number == number) ≡ true = (and_parts (place.level == 0) (place.number == number) live).1 in
      let here : place.number ≡ number = grind (arith, nat_tests) in
      let there = has_ranges place.number objects table.rows reverse.known (there (grind (arith, nat_tests))) in
      inr (subst (λ n. IsTrue (is_in_ranges (ranges_of n (with_range place.number range objects)) k)) here
      (in_new_range place.number k range objects there within))

  with_new : IsReverse old table (with_range place.number (record { lba = lba; sectors = sectors }) objects)
  with_new =
      let range : SectorRange = record { lba = lba; sectors = sectors } in record {
        reversed = λ number k live. in_ranged place.number number k range objects (reverse.reversed number k live);
        known = numbers_ranged place.number range objects ∙ reverse.known;
      }

  set_by : (b : Bool) → (place.level == 0) ≡ b → IsReverse new next (cond b
      (with_range place.number (record { lba = lba; sectors = sectors }) objects) objects)
  set_by false clone =
      reverse_moved old new table next objects reverse same (λ number k live.
      inl (clone_live (is_within lba sectors k) number k clone
      (subst (λ place. IsTrue (is_live number place)) (places k) live)))
  set_by true own =
      let range : SectorRange = record { lba = lba; sectors = sectors } in
      reverse_moved old new table next (with_range place.number range objects) with_new same (λ number k live.
      own_live (is_within lba sectors k) number k refl own
      (subst (λ place. IsTrue (is_live number place)) (places k) live))

  pub reverse_set : IsReverse new next (with_sectors lba sectors place objects)
  reverse_set = set_by (place.level == 0) refl
