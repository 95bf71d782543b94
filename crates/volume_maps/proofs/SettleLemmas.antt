-- The rows of a data object, settled one after the other, and what they have to do with its entries.
use Rattle.std.proofs.Common.{◌≡◌, ℕ, suc, ◌+◌, ◌-◌, ◌/◌, ◌<◌, ◌≤◌, nat_lt, cond, Bool, true, false, Option, Some, None}
use Rattle.std.proofs.Common.{List, [], ◌∷◌, ◌++◌, length, refl, sym, ◌∙◌, ap, arith}
use Rattle.std.specs.Prelude.{IsTrue}
use Rattle.std.specs.Option.{option_or}
use Rattle.std.proofs.lemmas.Bool.Decides.{nat_tests}
use Rattle.lsvd_base.specs.declared.entry.Entry.{Entry}
use Rattle.extent_map.specs.Extents.{is_within}
use Rattle.extent_map.proofs.Places.{not_below}
use Rattle.object_format.specs.declared.data_row.DataRow.{DataRow}
use Rattle.volume_maps.specs.declared.place.ObjectPlace.{ObjectPlace}
use Rattle.volume_maps.specs.declared.place.LogPlace.{LogPlace}
use Rattle.volume_maps.specs.declared.place.LogPlace.TheVariants.{Data, Zeros}
use Rattle.object_format.specs.Rows.{data_payload, data_may_stand, data_rows_may_stand}
use Rattle.object_stream.specs.declared.change.Change.{Change}
use Rattle.object_stream.specs.declared.change.Change.TheVariants.{Put, Clear}
use Rattle.object_stream.specs.declared.owner.Owner.{Owner}
use Rattle.object_stream.specs.Changes.{sector_of, entry_change, change_at, change_from, change_in}
use Rattle.object_stream.specs.Stream.{owner_by_change}
use Rattle.volume_maps.specs.Places.{place_seq, place_left_by, left_at}
use Rattle.volume_maps.specs.Laws.{place_owner, SettlesAsReplay, IsPlacedBy, SettlesPlaces, LogKeepsLaterEntries}
use Rattle.lsvd_base.specs.declared.entry.Entry.TheVariants.{Write, Zero}
use Rattle.volume_maps.specs.Maps.{row_object_place, settled_by_row, settled_by, from_seq, logged_by_row, logged_by}

-- one row more
pub settled_push : (number : ℕ) (rows : List DataRow) (row : DataRow) (before : Option ObjectPlace) (k : ℕ)
    → settled_by number (rows ++ row ∷ []) before k ≡ settled_by_row number row
    (settled_by number rows before k) k
settled_push number [] row before k = refl
settled_push number (first ∷ rows) row before k =
    settled_push number rows row (settled_by_row number first before k) k

pub logged_push : (end : ℕ) (rows : List DataRow) (row : DataRow) (before : Option LogPlace) (k : ℕ)
    → logged_by end (rows ++ row ∷ []) before k ≡ logged_by_row end row (logged_by end rows before k) k
logged_push end [] row before k = refl
logged_push end (first ∷ rows) row before k = logged_push end rows row (logged_by_row end first before k) k

-- ---- owners

-- a row that may stand after another begins where that ends, or past it
pub follows : (volume payload place : ℕ) (before row : DataRow) → IsTrue (data_may_stand volume payload (Some before) place row)
    → before.lba + before.sectors ≤ row.lba
follows volume payload place before row stands = grind (arith, nat_tests)

pub first_stands : (volume payload place : ℕ) (before : Option DataRow) (row : DataRow) (rows : List DataRow)
    → IsTrue (data_rows_may_stand volume payload before place (row ∷ rows))
    → IsTrue (data_may_stand volume payload before place row)
first_stands volume payload place before row rows stand = grind (arith, nat_tests)

pub rest_stand : (volume payload place : ℕ) (before : Option DataRow) (row : DataRow) (rows : List DataRow)
    → IsTrue (data_rows_may_stand volume payload before place (row ∷ rows))
    → IsTrue (data_rows_may_stand volume payload (Some row) (place + data_payload row) rows)
rest_stand volume payload place before row rows stand = grind (arith, nat_tests)

module _ (volume payload number k : ℕ) (bytes : List ℕ) where
  -- rows after one that ends past a sector do not cover it
  pub settled_past : (place : ℕ) (row : DataRow) (rows : List DataRow) (before : Option ObjectPlace)
      → IsTrue (data_rows_may_stand volume payload (Some row) place rows) → k < row.lba + row.sectors
      → settled_by number rows before k ≡ before
  settled_past place row [] before stand low = refl
  settled_past place row (next ∷ rows) before stand low =
      let after : row.lba + row.sectors ≤ next.lba =
      follows volume payload place row next (first_stands volume payload place (Some row) next rows stand) in
      let out : is_within next.lba next.sectors k ≡ false = not_below next.lba next.sectors k (omega arith) in
      ap (λ b. settled_by number rows (cond b (row_object_place number next.place (k - next.lba)) before) k) out
      ∙ settled_past (place + data_payload next) next rows before (rest_stand volume payload place (Some row) next rows stand)
      (omega arith)

  owner_of_row : (place : Option ℕ) (i : ℕ) (before : Option Owner)
      → place_owner (row_object_place number place i) ≡ owner_by_change number (Some (change_from place bytes i)) before
  owner_of_row None i before = refl
  owner_of_row (Some place) i before = refl

  by_row : (test : Bool) (place : ℕ) (earlier : Option DataRow) (row : DataRow) (rows : List DataRow)
      (before : Option ObjectPlace)
      → is_within row.lba row.sectors k ≡ test → IsTrue (data_rows_may_stand volume payload earlier place (row ∷ rows))
      → place_owner (settled_by number rows before k) ≡ owner_by_change number (change_in rows bytes k) (place_owner before)
      → place_owner (settled_by number rows (cond test (row_object_place number row.place (k - row.lba)) before) k)
      ≡ owner_by_change number (cond test (Some (change_from row.place bytes (k - row.lba))) (change_in rows bytes k))
      (place_owner before)
  by_row false place earlier row rows before test stand rest = rest
  by_row true place earlier row rows before test stand rest =
      let low : k < row.lba + row.sectors = grind (arith, nat_tests) in
      ap place_owner (settled_past (place + data_payload row) row rows (row_object_place number row.place (k - row.lba))
      (rest_stand volume payload place earlier row rows stand) low)
      ∙ owner_of_row row.place (k - row.lba) (place_owner before)

  settles : (place : ℕ) (earlier : Option DataRow) (rows : List DataRow) (before : Option ObjectPlace)
      → IsTrue (data_rows_may_stand volume payload earlier place rows)
      → place_owner (settled_by number rows before k) ≡ owner_by_change number (change_in rows bytes k) (place_owner before)
  settles place earlier [] before stand = refl
  settles place earlier (row ∷ rows) before stand =
      by_row (is_within row.lba row.sectors k) place earlier row rows before refl stand
      (settles (place + data_payload row) (Some row) rows before (rest_stand volume payload place earlier row rows stand))

pub settles_as_replay : SettlesAsReplay
settles_as_replay volume sectors number k rows payload before stand =
    settles volume sectors number k payload 0 None rows before stand

-- ---- places in the object's payload

module _ (volume payload number k : ℕ) (bytes : List ℕ) where
  placed_by_row : (place : Option ℕ) (i : ℕ) (before : Option ObjectPlace)
      → IsPlacedBy number bytes (Some (change_from place bytes i)) before
      (row_object_place number place i)
  placed_by_row None i before = refl
  placed_by_row (Some place) i before = (place + i, refl, refl)

  placed_by_test : (test : Bool) (place : ℕ) (earlier : Option DataRow) (row : DataRow) (rows : List DataRow)
      (before : Option ObjectPlace)
      → is_within row.lba row.sectors k ≡ test → IsTrue (data_rows_may_stand volume payload earlier place (row ∷ rows))
      → IsPlacedBy number bytes (change_in rows bytes k) before (settled_by number rows before k)
      → IsPlacedBy number bytes (cond test (Some (change_from row.place bytes (k - row.lba)))
      (change_in rows bytes k)) before
      (settled_by number rows (cond test (row_object_place number row.place (k - row.lba)) before) k)
  placed_by_test false place earlier row rows before test stand rest = rest
  placed_by_test true place earlier row rows before test stand rest =
      let low : k < row.lba + row.sectors = grind (arith, nat_tests) in
      let own = row_object_place number row.place (k - row.lba) in
      let stays = settled_past volume payload number k bytes (place + data_payload row) row rows own
      (rest_stand volume payload place earlier row rows stand) low in
      rw stays (placed_by_row row.place (k - row.lba) before)

  placed : (place : ℕ) (earlier : Option DataRow) (rows : List DataRow) (before : Option ObjectPlace)
      → IsTrue (data_rows_may_stand volume payload earlier place rows)
      → IsPlacedBy number bytes (change_in rows bytes k) before (settled_by number rows before k)
  placed place earlier [] before stand = refl
  placed place earlier (row ∷ rows) before stand =
      placed_by_test (is_within row.lba row.sectors k) place earlier row rows before refl stand
      (placed (place + data_payload row) (Some row) rows before (rest_stand volume payload place earlier row rows stand))

pub settles_places : SettlesPlaces
settles_places volume sectors number k rows bytes before stand =
    placed volume sectors number k bytes 0 None rows before stand

-- ---- the log's map

-- where entries leave a sector, part by part
or_assoc : (a b c : Option LogPlace) → option_or (option_or a b) c ≡ option_or a (option_or b c)
or_assoc None b c = refl
or_assoc (Some a) b c = refl

or_none : (a : Option LogPlace) → option_or a None ≡ a
or_none None = refl
or_none (Some a) = refl

pub left_in_parts : (data_at : ℕ → ℕ) (first : ℕ) (entries later : List Entry) (k : ℕ)
    → left_at data_at first (entries ++ later) k ≡ option_or (left_at data_at (first + length entries) later k)
    (left_at data_at first entries k)
left_in_parts data_at first [] later k =
    let same : first + 0 ≡ first = omega arith in
    rw same (sym (or_none (left_at data_at first later k)))
left_in_parts data_at first (entry ∷ entries) later k =
    let same : first + suc (length entries) ≡ first + 1 + length entries = omega arith in
    rw same (
    ap (λ place. option_or place (place_left_by first (data_at first) entry k))
    (left_in_parts data_at (first + 1) entries later k)
    ∙ or_assoc (left_at data_at (first + 1 + length entries) later k) (left_at data_at (first + 1) entries k)
    (place_left_by first (data_at first) entry k)
    )

-- the seqs that entries leave are theirs
abbrev HasSeqOf : (from to : ℕ) → Option LogPlace → Type 0
HasSeqOf from to None = Unit {0}
HasSeqOf from to (Some place) = (from ≤ place_seq place) × (place_seq place < to)

seq_by_test : (test : Bool) (seq : ℕ) (place : LogPlace) → place_seq place ≡ seq
    → HasSeqOf seq (seq + 1) (cond test (Some place) None)
seq_by_test true seq place same = (omega arith, omega arith)
seq_by_test false seq place same = tt

seq_by : (seq data_at : ℕ) (entry : Entry) (k : ℕ) → HasSeqOf seq (seq + 1) (place_left_by seq data_at entry k)
seq_by seq data_at (Write lba body) k =
    seq_by_test (is_within lba (length body / 512) k) seq (Data seq (data_at + (k - lba))) refl
seq_by seq data_at (Zero lba sectors) k = seq_by_test (is_within lba sectors k) seq (Zeros seq) refl

seq_or : (from middle to : ℕ) (a b : Option LogPlace) → from ≤ middle → middle ≤ to → HasSeqOf middle to a
    → HasSeqOf from middle b → HasSeqOf from to (option_or a b)
seq_or from middle to None None low high of_a of_b = tt
seq_or from middle to None (Some b) low high of_a of_b = (of_b.0, omega (arith, of_b.1))
seq_or from middle to (Some a) b low high of_a of_b = (omega (arith, of_a.0), of_a.1)

seqs_left : (data_at : ℕ → ℕ) (first : ℕ) (entries : List Entry) (k : ℕ)
    → HasSeqOf first (first + length entries) (left_at data_at first entries k)
seqs_left data_at first [] k = tt
seqs_left data_at first (entry ∷ entries) k =
    let same : first + suc (length entries) ≡ first + 1 + length entries = omega arith in
    rw same (seq_or first (first + 1) (first + 1 + length entries) (left_at data_at (first + 1) entries k)
    (place_left_by first (data_at first) entry k)
    (omega arith) (omega arith) (seqs_left data_at (first + 1) entries k) (seq_by first (data_at first) entry k))

-- what is before a seq goes, and what is not stays
goes : (from end : ℕ) (place : Option LogPlace) → HasSeqOf from end place → from_seq end place ≡ None
goes from end None seq = refl
goes from end (Some place) seq = let yes_ : nat_lt (place_seq place) end ≡ true = grind (arith, nat_tests) in rw yes_ refl

stays : (end to : ℕ) (place : Option LogPlace) → HasSeqOf end to place → from_seq end place ≡ place
stays end to None seq = refl
stays end to (Some place) seq = let no_ : nat_lt (place_seq place) end ≡ false = grind (arith, nat_tests) in rw no_ refl

-- entries that do nothing to a sector leave it nowhere
none_by_test : (test : Bool) (change : Change) (place : LogPlace) → cond test (Some change) None ≡ None
    → cond test (Some place) None ≡ None
none_by_test true change place none = absurd cc
none_by_test false change place none = refl

none_by : (seq data_at : ℕ) (entry : Entry) (k : ℕ) → entry_change entry k ≡ None → place_left_by seq data_at entry k ≡ None
none_by seq data_at (Write lba body) k none =
    none_by_test (is_within lba (length body / 512) k) (Put (sector_of (k - lba) body)) (Data seq (data_at + (k - lba))) none
none_by seq data_at (Zero lba sectors) k none = none_by_test (is_within lba sectors k) Clear (Zeros seq) none

both_none : (a b : Option Change) → option_or a b ≡ None → (a ≡ None) × (b ≡ None)
both_none None b none = (refl, none)
both_none (Some a) b none = absurd cc

left_nowhere : (data_at : ℕ → ℕ) (first : ℕ) (entries : List Entry) (k : ℕ) → change_at entries k ≡ None
    → left_at data_at first entries k ≡ None
left_nowhere data_at first [] k none = refl
left_nowhere data_at first (entry ∷ entries) k none =
    let both = both_none (change_at entries k) (entry_change entry k) none in
    rw (left_nowhere data_at (first + 1) entries k both.0, none_by first (data_at first) entry k both.1) refl

-- the log's map after rows: as before where none covers a sector, and else without what is older
module _ (end k : ℕ) (bytes : List ℕ) where
  again_by : (test : Bool) (place : LogPlace) → nat_lt (place_seq place) end ≡ test → from_seq end (cond test None (Some place))
      ≡ cond test None (Some place)
  again_by true place test = refl
  again_by false place test = rw test refl

  again : (place : Option LogPlace) → from_seq end (from_seq end place) ≡ from_seq end place
  again None = refl
  again (Some place) = again_by (nat_lt (place_seq place) end) place refl

  kept_by : (test : Bool) (place : Option LogPlace) → cond test (from_seq end (from_seq end place)) (from_seq end place)
      ≡ from_seq end place
  kept_by true place = again place
  kept_by false place = refl

  -- rows leave what is left of a place
  older_gone : (rows : List DataRow) (place : Option LogPlace) → logged_by end rows (from_seq end place) k ≡ from_seq end place
  older_gone [] place = refl
  older_gone (row ∷ rows) place =
      ap (λ p. logged_by end rows p k) (kept_by (is_within row.lba row.sectors k) place) ∙ older_gone rows place

  uncovered : (test : Bool) (rows : List DataRow) (change : Change) (before : Option LogPlace)
      → (change_in rows bytes k ≡ None → logged_by end rows before k ≡ before)
      → cond test (Some change) (change_in rows bytes k) ≡ None
      → logged_by end rows (cond test (from_seq end before) before) k ≡ before
  uncovered true rows change before rest none = absurd cc
  uncovered false rows change before rest none = rest none

  pub as_before : (rows : List DataRow) (before : Option LogPlace) → change_in rows bytes k ≡ None
      → logged_by end rows before k ≡ before
  as_before [] before none = refl
  as_before (row ∷ rows) before none =
      uncovered (is_within row.lba row.sectors k) rows (change_from row.place bytes (k - row.lba)) before
      (as_before rows before) none

  covered : (test : Bool) (rows : List DataRow) (this change : Change) (before : Option LogPlace)
      → (change_in rows bytes k ≡ Some change → logged_by end rows before k ≡ from_seq end before)
      → cond test (Some this) (change_in rows bytes k) ≡ Some change → logged_by end rows (cond test (from_seq end before) before)
      k ≡ from_seq end before
  covered true rows this change before rest some = older_gone rows before
  covered false rows this change before rest some = rest some

  pub older_dropped : (rows : List DataRow) (before : Option LogPlace) (change : Change) → change_in rows bytes k ≡ Some change
      → logged_by end rows before k ≡ from_seq end before
  older_dropped [] before change some = absurd cc
  older_dropped (row ∷ rows) before change some =
      covered (is_within row.lba row.sectors k) rows (change_from row.place bytes (k - row.lba)) change before
      (older_dropped rows before change) some

later_stay : (end to : ℕ) (later earlier : Option LogPlace) (from : ℕ) → HasSeqOf end to later → HasSeqOf from end earlier
    → from_seq end (option_or later earlier) ≡ later
later_stay end to None earlier from of_later of_earlier = goes from end earlier of_earlier
later_stay end to (Some place) earlier from of_later of_earlier = stays end to (Some place) of_later

keeps_by : (data_at : ℕ → ℕ) (first k : ℕ) (entries later : List Entry) (rows : List DataRow) (payload : List ℕ)
    (change : Option Change)
    → change_in rows payload k ≡ change → change_at entries k ≡ change
    → logged_by (first + length entries) rows (left_at data_at first (entries ++ later) k) k
    ≡ left_at data_at (first + length entries) later k
keeps_by data_at first k entries later rows payload None by_rows by_entries =
    let end = first + length entries in
    as_before end k payload rows (left_at data_at first (entries ++ later) k) by_rows
    ∙ (left_in_parts data_at first entries later k
    ∙ (ap (option_or (left_at data_at end later k)) (left_nowhere data_at first entries k by_entries)
    ∙ or_none (left_at data_at end later k)))
keeps_by data_at first k entries later rows payload (Some change) by_rows by_entries =
    let end = first + length entries in
    older_dropped end k payload rows (left_at data_at first (entries ++ later) k) change by_rows
    ∙ (ap (from_seq end) (left_in_parts data_at first entries later k)
    ∙ later_stay end (end + length later) (left_at data_at end later k) (left_at data_at first entries k) first
    (seqs_left data_at end later k) (seqs_left data_at first entries k))

pub log_keeps_later : LogKeepsLaterEntries
log_keeps_later data_at first k entries later rows payload same =
    keeps_by data_at first k entries later rows payload (change_at entries k) same refl
