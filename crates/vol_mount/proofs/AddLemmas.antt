-- For `add_all`: entries that are added to a list one after the other.
use Rattle.std.proofs.Common.{◌≡◌, ℕ, zero, suc, ◌+◌, ◌-◌, ◌^◌, ◌<◌, ◌≤◌, true, List, [], ◌∷◌, ◌++◌, length, drop, refl, sym, ◌∙◌}
use Rattle.std.proofs.Common.{ap, subst, arith, append_assoc, length-append}
use Rattle.std.specs.Prelude.{IsTrue, slice_index_or}
use Rattle.std.specs.List.{AllByRecursion, sum_by}
use Rattle.std.proofs.lemmas.List.{append-nil}
use Rattle.std.proofs.lemmas.List.Sums.{sum_by-cons, sum_by-append}
use Rattle.std.proofs.lemmas.Bool.Decides.{nat_tests}
use Rattle.lsvd_base.specs.declared.entry.Entry.{Entry}
use Rattle.lsvd_base.specs.declared.entry.Entry.TheVariants as entry_kinds
use Rattle.lsvd_base.specs.declared.geometry.Geometry.{Geometry}
use Rattle.lsvd_base.specs.Laws.{sector_count}
use Rattle.lsvd_base.specs.Limits.{is_within_limits}
use Rattle.lsvd_base.specs.Range.{is_in_range}
use Rattle.batcher.specs.Batch.{data_sectors}
use Rattle.extent_map.specs.State.{MapState}
use Rattle.log_room.specs.Room.{max_log}
use Rattle.cache_log.specs.declared.row.Row.{Row}
use Rattle.cache_log.specs.declared.row.Row.TheVariants as row_kinds
use Rattle.cache_log.specs.Rows.{seq_of, position_of, record_size, sectors_taken, next, Follow}
use Rattle.cache_log.specs.Log.{LogState, row_of, AreRowsOf}
use Rattle.cache_log.specs.Opening.{is_row_in_range, AreRowsInRange}
use Rattle.object_table.specs.Table.{TableState}
use Rattle.volume_maps.specs.declared.place.ObjectPlace.{ObjectPlace}
use Rattle.object_uploads.specs.State.{QueueState, UploadsState}
use Rattle.object_uploads.specs.Queue.{IsEntered}
use Rattle.object_uploads.specs.Changes.{IsNotSealed}
use Rattle.object_uploads.specs.Order.{IsUploads}
use Rattle.obj_log.specs.State.{ObjLogState}
use Rattle.obj_log.specs.Changes.{IsSame, IsAdded}
use Rattle.refine_mount.specs.Mounted.{data_in, AddsEntries}

-- ---- one after the other

pub same_self : (log : ObjLogState) → IsSame log log
same_self log = record {
  geometry = refl;
  first = refl;
  entries = refl;
  uploads = record {
    uuid = refl;
    sectors = refl;
    ancestors = refl;
    sealed = refl;
    window = refl;
    settled = record {
      frontier = refl;
      end = refl;
      receipts = refl;
      removal = refl;
      inherited = refl;
      places = record { settled = refl; log = refl; objects = refl; checkpoint = refl };
    };
  };
}

same_then : (old middle new : ObjLogState) → IsSame old middle → IsSame middle new → IsSame old new
same_then old middle new first second = record {
  geometry = second.geometry ∙ first.geometry;
  first = second.first ∙ first.first;
  entries = second.entries ∙ first.entries;
  uploads = record {
    uuid = second.uploads.uuid ∙ first.uploads.uuid;
    sectors = second.uploads.sectors ∙ first.uploads.sectors;
    ancestors = second.uploads.ancestors ∙ first.uploads.ancestors;
    sealed = second.uploads.sealed ∙ first.uploads.sealed;
    window = second.uploads.window ∙ first.uploads.window;
    settled = record {
      frontier = second.uploads.settled.frontier ∙ first.uploads.settled.frontier;
      end = second.uploads.settled.end ∙ first.uploads.settled.end;
      receipts = second.uploads.settled.receipts ∙ first.uploads.settled.receipts;
      removal = second.uploads.settled.removal ∙ first.uploads.settled.removal;
      inherited = second.uploads.settled.inherited ∙ first.uploads.settled.inherited;
      places = record {
        settled = second.uploads.settled.places.settled ∙ first.uploads.settled.places.settled;
        log = second.uploads.settled.places.log ∙ first.uploads.settled.places.log;
        objects = second.uploads.settled.places.objects ∙ first.uploads.settled.places.objects;
        checkpoint = second.uploads.settled.places.checkpoint ∙ first.uploads.settled.places.checkpoint;
      };
    };
  };
}

-- one entry more
pub adds_one_more : (data_at : ℕ → ℕ) (entries : List Entry) (entry : Entry) (old middle ready new : ObjLogState)
    → AddsEntries data_at entries old middle → IsSame middle ready → IsUploads ready.uploads
    → IsAdded entry (data_at (ready.batch.first + length ready.batch.entries)) ready new
    → AddsEntries data_at (entries ++ entry ∷ []) old new
adds_one_more data_at [] entry old middle ready new adds same uploads added =
    (ready, new, same_then old middle ready adds same, uploads, added, same_self new)
adds_one_more data_at (first ∷ more) entry old middle ready new adds same uploads added =
    (adds.0, adds.1, adds.2, adds.3, adds.4, adds_one_more data_at more entry adds.1 middle ready new adds.5 same uploads added)

-- no object was changed: the frontier, the objects' map and their table are as before
pub record HasSameObjects (old new : QueueState) : Type 0 where
  pub frontier : new.frontier ≡ old.frontier
  pub placed : new.maps.settled.rows ≡ old.maps.settled.rows
  pub rows : new.maps.objects.rows ≡ old.maps.objects.rows
  pub sealed : new.sealed ≡ old.sealed
  pub removal : new.removal ≡ old.removal

-- what the list is then
pub record HasAdded (entries : List Entry) (old new : ObjLogState) : Type 0 where
  pub geometry : new.batch.geometry ≡ old.batch.geometry
  pub first : new.batch.first ≡ old.batch.first
  pub entries_are : new.batch.entries ≡ old.batch.entries ++ entries
  pub window : new.uploads.window ≡ old.uploads.window
  pub uuid : new.uploads.uuid ≡ old.uploads.uuid
  pub ancestors : new.uploads.ancestors ≡ old.uploads.ancestors
  pub objects : HasSameObjects old.uploads.queue new.uploads.queue

same_objects : (old new : UploadsState) → IsNotSealed old new → HasSameObjects old.queue new.queue
same_objects old new same = record {
  frontier = same.settled.frontier;
  placed = same.settled.places.settled;
  rows = same.settled.places.objects;
  sealed = same.sealed;
  removal = same.settled.removal;
}

entered_objects : {entry : Entry} {seq data_at : ℕ} {old new : QueueState} → IsEntered entry seq data_at old new
    → HasSameObjects old new
entered_objects entered = record {
  frontier = entered.frontier;
  placed = ap (λ (settled : MapState ObjectPlace). settled.rows) entered.settled;
  rows = ap (λ (table : TableState). table.rows) entered.objects;
  sealed = entered.sealed;
  removal = entered.removal;
}

objects_then : (old middle new : QueueState) → HasSameObjects old middle → HasSameObjects middle new → HasSameObjects old new
objects_then old middle new first second = record {
  frontier = second.frontier ∙ first.frontier;
  placed = second.placed ∙ first.placed;
  rows = second.rows ∙ first.rows;
  sealed = second.sealed ∙ first.sealed;
  removal = second.removal ∙ first.removal;
}

pub has_added : (data_at : ℕ → ℕ) (entries : List Entry) (old new : ObjLogState) → AddsEntries data_at entries old new
    → HasAdded entries old new
has_added data_at [] old new same = record {
  geometry = same.geometry;
  first = same.first;
  entries_are = same.entries ∙ sym (append-nil old.batch.entries);
  window = same.uploads.window;
  uuid = same.uploads.uuid;
  ancestors = same.uploads.ancestors;
  objects = same_objects old.uploads new.uploads same.uploads;
}
has_added data_at (entry ∷ entries) old new adds =
    let same = adds.2 in
    let added = adds.4 in
    let rest = has_added data_at entries adds.1 new adds.5 in
    record {
      geometry = rest.geometry ∙ (added.geometry ∙ same.geometry);
      first = rest.first ∙ (added.first ∙ same.first);
      entries_are =
          rest.entries_are ∙ ap (λ list. list ++ entries) (added.entries ∙ ap (λ list. list ++ entry ∷ []) same.entries)
          ∙ append_assoc old.batch.entries (entry ∷ []) entries;
      window = rest.window ∙ (added.window ∙ same.uploads.window);
      uuid = rest.uuid ∙ (added.uuid ∙ same.uploads.uuid);
      ancestors = rest.ancestors ∙ (added.ancestors ∙ same.uploads.ancestors);
      objects =
          objects_then old.uploads.queue adds.0.uploads.queue new.uploads.queue (same_objects old.uploads adds.0.uploads
          same.uploads)
          (objects_then adds.0.uploads.queue adds.1.uploads.queue new.uploads.queue (entered_objects added.entered) rest.objects);
    }

-- ---- the sectors of records

-- rows that follow one another have no more than are in use
pub follow_total : (log from used : ℕ) (rows : List Row) → Follow log from used rows → sum_by record_size rows ≤ used
follow_total log from used [] follow = omega arith
follow_total log from used (row ∷ rows) follow =
    let rest = follow_total log (next log row) (used - sectors_taken log from row) rows follow.2 in
    let taken : record_size row ≤ sectors_taken log from row = grind (arith, nat_tests) in
    let within = follow.1 in
    let total = sum_by-cons record_size row rows in
    omega (arith, rest, taken, within, total)

pub fewer_total : (n : ℕ) (rows : List Row) → sum_by record_size (drop n rows) ≤ sum_by record_size rows
fewer_total zero rows = omega arith
fewer_total (suc n) [] = omega arith
fewer_total (suc n) (row ∷ rows) =
    let rest = fewer_total n rows in
    let total = sum_by-cons record_size row rows in
    omega (arith, rest, total)

pub all_dropped : {A : Type 0} (P : A → Type 0) (n : ℕ) (items : List A) → AllByRecursion P items
    → AllByRecursion P (drop n items)
all_dropped P zero items all = all
all_dropped P (suc n) [] all = tt
all_dropped P (suc n) (item ∷ items) all = all_dropped P n items all.1

-- ---- up to an entry

-- some row
abbrev pub a_row : Row
a_row = row_kinds.Zero 0 0 0 0

-- the first entries of some were added, whose records stand at the rows of a log's list
pub record IsAddedUpTo (log : LogState) (all rest : List Entry) (count : ℕ) (old new : ObjLogState) : Type 0 where
  pub done : List Entry
  pub whole : done ++ rest ≡ all
  pub counted : length done ≡ count
  pub adds : (row_of_none : Row) → AddsEntries (data_in log row_of_none) done old new

pub none_added : (log : LogState) (all rest : List Entry) (count : ℕ) (objects : ObjLogState) → rest ≡ all → count ≡ 0
    → IsAddedUpTo log all rest count objects objects
none_added log all rest count objects same none =
    record { done = []; whole = same; counted = sym none; adds = λ row_of_none. same_self objects }

-- ---- entries of rows

pub entry_in_range : (geometry : Geometry) (row : Row) (entry : Entry) → row ≡ row_of (seq_of row) (position_of row) entry
    → IsTrue (is_row_in_range geometry row) → is_in_range geometry entry ≡ true
entry_in_range geometry row (entry_kinds.Write lba body) is may = subst (λ r. IsTrue (is_row_in_range geometry r)) is may
entry_in_range geometry row (entry_kinds.Zero lba sectors) is may = subst (λ r. IsTrue (is_row_in_range geometry r)) is may

-- an entry carries fewer sectors of data than its record has
data_fits : (row : Row) (entry : Entry) → row ≡ row_of (seq_of row) (position_of row) entry
    → data_sectors entry + 1 ≤ record_size row
data_fits row (entry_kinds.Write lba body) is = (let same = ap record_size is in omega (arith, same))
data_fits row (entry_kinds.Zero lba sectors) is = (let same = ap record_size is in omega (arith, same))

pub data_total : (rows : List Row) (entries : List Entry) → AreRowsOf rows entries
    → sum_by data_sectors entries ≤ sum_by record_size rows
data_total [] [] are = omega arith
data_total [] (entry ∷ entries) are = absurd are
data_total (row ∷ rows) [] are = absurd are
data_total (row ∷ rows) (entry ∷ entries) are =
    let rest = data_total rows entries are.1 in
    let one = data_fits row entry are.0 in
    let a = sum_by-cons data_sectors entry entries in
    let b = sum_by-cons record_size row rows in
    omega (arith, rest, one, a, b)

-- and covers no more sectors than a volume has
covers_few : (geometry : Geometry) (entry : Entry) → IsTrue (is_within_limits geometry) → is_in_range geometry entry ≡ true
    → sector_count entry ≤ 2 ^ 31
covers_few geometry (entry_kinds.Write lba body) limits may = grind (arith, nat_tests, limits, may)
covers_few geometry (entry_kinds.Zero lba sectors) limits may = grind (arith, nat_tests, limits, may)

-- the row at an index is that of an entry
pub record HasRowAt (geometry : Geometry) (rows : List Row) (index : ℕ) (entry : Entry) : Type 0 where
  pub row : Row
  pub there : (d : Row) → slice_index_or rows index d ≡ row
  pub is_of : row ≡ row_of (seq_of row) (position_of row) entry
  pub in_range : IsTrue (is_row_in_range geometry row)
  pub inside : index < length rows

row_at : (geometry : Geometry) (rows : List Row) (done : List Entry) (entry : Entry) (rest : List Entry)
    → AreRowsOf rows (done ++ entry ∷ rest)
    → AreRowsInRange geometry rows → HasRowAt geometry rows (length done) entry
row_at geometry [] [] entry rest are may = absurd are
row_at geometry [] (first ∷ done) entry rest are may = absurd are
row_at geometry (row ∷ rows) [] entry rest are may =
    record { row = row; there = λ d. refl; is_of = are.0; in_range = may.0; inside = omega arith }
row_at geometry (row ∷ rows) (first ∷ done) entry rest are may =
    let more = row_at geometry rows done entry rest are.1 may.1 in
    let inside = more.inside in
    record { row = more.row; there = more.there; is_of = more.is_of; in_range = more.in_range; inside = omega (arith, inside) }

none_left : (rest : List Entry) → length rest ≡ 0 → rest ≡ []
none_left [] none = refl
none_left (entry ∷ rest) none = absurd (omega (arith, none))

-- ---- an entry more

module _ (log : LogState) (all : List Entry) (old : ObjLogState) (limits : IsTrue (is_within_limits old.batch.geometry))
    (empty : old.batch.entries ≡ [])
    (first : old.batch.first ≡ log.first) (seqs : log.first + length log.rows < 2 ^ 63) (rows : AreRowsOf log.rows all)
    (in_range : AreRowsInRange old.batch.geometry log.rows) (room : sum_by record_size log.rows ≤ max_log) where
  pub all_added : (rest : List Entry) (count : ℕ) (new : ObjLogState) → length rest ≡ 0 → IsAddedUpTo log all rest count old new
      → (row_of_none : Row) → AddsEntries (data_in log row_of_none) all old new
  all_added rest count new none is row_of_none =
      let whole : is.done ≡ all = sym (append-nil is.done) ∙ ap (λ r. is.done ++ r) (sym (none_left rest none)) ∙ is.whole in
      subst (λ list. AddsEntries (data_in log row_of_none) list old new) whole (is.adds row_of_none)

  module _ (entry : Entry) (rest : List Entry) (count : ℕ) (before ready : ObjLogState)
      (is : IsAddedUpTo log all (entry ∷ rest) count old before)
      (same : IsSame before ready) where
    added_before : HasAdded is.done old before
    added_before = has_added (data_in log a_row) is.done old before (is.adds a_row)

    at : HasRowAt old.batch.geometry log.rows (length is.done) entry
    at = row_at old.batch.geometry log.rows is.done entry rest (subst (AreRowsOf log.rows) (sym is.whole) rows) in_range

    -- its row
    pub index_inside : (index : ℕ) → index ≡ count → index < length log.rows
    index_inside index is_count =
        let inside = at.inside in
        let counted = is.counted in
        omega (arith, inside, counted, is_count)

    row_is : (index : ℕ) (row : Row) → index ≡ count → row ≡ slice_index_or log.rows index row → row ≡ at.row
    row_is index row is_count is_row = is_row ∙ ap (λ n. slice_index_or log.rows n row) (is_count ∙ sym is.counted) ∙ at.there row

    -- it may be added
    pub may_add : IsTrue (is_in_range ready.batch.geometry entry)
    may_add =
        subst (λ g. IsTrue (is_in_range g entry)) (sym (same.geometry ∙ added_before.geometry))
        (entry_in_range old.batch.geometry at.row entry at.is_of at.in_range)

    ready_entries : ready.batch.entries ≡ is.done
    ready_entries = same.entries ∙ added_before.entries_are ∙ ap (λ list. list ++ is.done) empty

    ready_next : ready.batch.first + length ready.batch.entries ≡ log.first + length is.done
    ready_next =
        let a = same.first ∙ added_before.first ∙ first in
        let b = ap length ready_entries in
        omega (arith, a, b)

    pub seq_fits : ready.batch.first + length ready.batch.entries < 2 ^ 64 - 1
    seq_fits =
        let a = ready_next in
        let b = at.inside in
        omega (arith, a, b, seqs)

    pub sectors_fit : sum_by data_sectors ready.batch.entries + data_sectors entry < 2 ^ 64
    sectors_fit =
        let total = data_total log.rows all rows in
        let whole = ap (sum_by data_sectors) is.whole in
        let a = sum_by-append data_sectors is.done (entry ∷ rest) in
        let b = sum_by-cons data_sectors entry rest in
        let c = ap (sum_by data_sectors) ready_entries in
        omega (arith, total, whole, a, b, c, room)

    pub places_fit : (position : ℕ) (row : Row) → position ≡ position_of row → position_of row + record_size row ≤ max_log
        → position + 1 + sector_count entry < 2 ^ 63
    places_fit position row is_position inside =
        let few = covers_few old.batch.geometry entry limits (entry_in_range old.batch.geometry at.row entry at.is_of
        at.in_range) in
        omega (arith, few, inside, is_position)

    -- its data begin past its record
    data_is : (position index : ℕ) (row : Row) → position ≡ position_of row → index ≡ count
        → row ≡ slice_index_or log.rows index row
        → (row_of_none : Row)
        → position + 1 ≡ data_in log row_of_none (ready.batch.first + length ready.batch.entries)
    data_is position index row is_position is_count is_row row_of_none =
        let seq : ready.batch.first + length ready.batch.entries - log.first ≡ length is.done =
        (let a = ready_next in omega (arith, a)) in
        let there : slice_index_or log.rows (ready.batch.first + length ready.batch.entries - log.first) row_of_none ≡ row =
        ap (λ n. slice_index_or log.rows n row_of_none) seq ∙ at.there row_of_none ∙ sym (row_is index row is_count is_row) in
        ap (λ p. p + 1) (is_position ∙ ap position_of (sym there))

    -- and then it is
    pub one_added : (position index later : ℕ) (row : Row) (new : ObjLogState) (left : List Entry) → position ≡ position_of row
        → index ≡ count
        → row ≡ slice_index_or log.rows index row → later ≡ count + 1 → IsUploads ready.uploads
        → IsAdded entry (position + 1) ready new → rest ≡ left → IsAddedUpTo log all left later old new
    one_added position index later row new left is_position is_count is_row is_later uploads added same_rest =
        let counted = is.counted in
        let long = length-append is.done (entry ∷ []) in
        record {
          done = is.done ++ entry ∷ [];
          whole = append_assoc is.done (entry ∷ []) left ∙ ap (λ r. is.done ++ entry ∷ r) (sym same_rest) ∙ is.whole;
          counted = omega (arith, counted, long, is_later);
          adds = λ row_of_none.
              adds_one_more (data_in log row_of_none) is.done entry old before ready new (is.adds row_of_none) same uploads
              (subst (λ at. IsAdded entry at ready new) (data_is position index row is_position is_count is_row row_of_none)
              added);
        }
