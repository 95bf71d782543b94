-- What reads of a log find.
use Rattle.std.proofs.Common.{◌≡◌, ℕ, ◌+◌, ◌-◌, ◌*◌, ◌/◌, ◌<◌, ◌≤◌, List, [], ◌∷◌, ◌++◌, zero, suc, get_or, length, take}
use Rattle.std.proofs.Common.{drop, map, refl, sym, ◌∙◌, ap, subst, inl, inr, arith}
use Rattle.std.specs.Prelude.{Some, IfSome, Result, Ok, Err, OnOk, IfOk}
use Rattle.std.proofs.Math.Path.{subst₂}
use Rattle.std.specs.List.{AllByRecursion, slice_get}
use Rattle.std.proofs.lemmas.List.{drop-drop, take-take, drop-take, take_more, take_all, get_or-drop, length-drop, length-take-le}
use Rattle.std.proofs.lemmas.List.{map-append, drop-map}
use Rattle.lsvd_base.specs.declared.entry.Entry.{Entry}
use Rattle.lsvd_bytes.specs.Places.{bytes_at}
use Rattle.lsvd_device.specs.Medium.{Medium}
use Rattle.lsvd_device.specs.Device.{HasSize, HoldsNow}
use Rattle.log_room.specs.Room.{Room}
use Rattle.log_record.specs.Grammar.{data_of}
use Rattle.commit_body.specs.declared.body.Mark.{Mark}
use Rattle.commit_slot.specs.Commits.{CommitsState}
use Rattle.cache_log.specs.declared.row.Row.{Row}
use Rattle.cache_log.specs.declared.row.Row.TheVariants.{Write, Zero}
use Rattle.cache_log.specs.Rows.{byte_of, seq_of, position_of, record_size, entry_of, AreDataOfRow, sectors_taken, next, Follow}
use Rattle.cache_log.specs.Log.{LogState, row_of, AreRowsOf, entries_in, AreData, AgreesWith, IsReadFrom}
use Rattle.cache_log.specs.Writing.{RowLiesInside, RowsLieInside}
use Rattle.cache_log.specs.Invariant.{IsLog}
use Rattle.cache_log.proofs.Places.{step_of}

-- each record of a log ends by the log's end
pub rows_inside : (rows : List Row) (log from used : ℕ) → from < log → used ≤ log → Follow log from used rows
    → AllByRecursion (λ row. position_of row + record_size row ≤ log) rows
rows_inside [] log from used inside most follow = tt
rows_inside (row ∷ rows) log from used inside most (stands, enough, more) =
    let step = step_of log from row inside (omega (arith, enough, most)) stands in
    (step.fits, rows_inside rows log (next log row) (used - sectors_taken log from row) step.inside (omega (arith, most)) more)

-- the data of a record lie inside the log
data_of_inside : (row : Row) (log sector count : ℕ) → position_of row + record_size row ≤ log → AreDataOfRow row sector count
    → 512 * sector + count ≤ 512 * log
data_of_inside (Write own at lba sectors) log sector count inside data' = omega (arith, inside, data'.0, data'.1)
data_of_inside (Zero own at lba sectors) log sector count inside data' = absurd data'

pub data_inside : (rows : List Row) (log sector count : ℕ) → AllByRecursion (λ row. position_of row + record_size row ≤ log) rows
    → AreData rows sector count → 512 * sector + count ≤ 512 * log
data_inside [] log sector count inside data' = absurd data'
data_inside (row ∷ rows) log sector count inside (inl here) = data_of_inside row log sector count inside.0 here
data_inside (row ∷ rows) log sector count inside (inr more) = data_inside rows log sector count inside.1 more

-- what stands at data sectors of a record is that part of its entry's data
data_part : (row : Row) (bytes buf : List ℕ) (sector : ℕ) → buf ≡ bytes_at (byte_of sector) (length buf) bytes
    → AreDataOfRow row sector (length buf)
    → buf ≡ take (length buf) (drop (512 * (sector - (position_of row + 1))) (data_of (entry_of bytes row)))
data_part (Write own at lba sectors) bytes buf sector read (first, last) =
    let skipped : ℕ = 512 * (sector - (at + 1)) in
    let place : byte_of (at + 1) + skipped ≡ byte_of sector = omega (arith, first) in
    let rest : skipped + (512 * sectors - skipped) ≡ 512 * sectors = omega (arith, first, last) in
    let part : drop skipped (take (512 * sectors) (drop (byte_of (at + 1)) bytes)) ≡ take (512 * sectors - skipped)
    (drop (byte_of sector) bytes) =
    ap (λ n. drop skipped (take n (drop (byte_of (at + 1)) bytes))) (sym rest)
    ∙ drop-take skipped (512 * sectors - skipped) (drop (byte_of (at + 1)) bytes)
    ∙ ap (take (512 * sectors - skipped)) (drop-drop skipped (byte_of (at + 1)) bytes)
    ∙ ap (λ n. take (512 * sectors - skipped) (drop n bytes)) place in
    read ∙ sym (ap (take (length buf)) part ∙ take-take (length buf) (512 * sectors - skipped) (drop (byte_of sector) bytes)
    (omega (arith, first, last)))
data_part (Zero own at lba sectors) bytes buf sector read data' = absurd data'

pub agrees : (rows : List Row) (bytes buf : List ℕ) (sector : ℕ) → buf ≡ bytes_at (byte_of sector) (length buf) bytes
    → AgreesWith rows (map (entry_of bytes) rows) sector buf
agrees [] bytes buf sector read = tt
agrees (row ∷ rows) bytes buf sector read = (data_part row bytes buf sector read, agrees rows bytes buf sector read)

is_read_in : (rows : List Row) (moments : List Medium) (buf : List ℕ) (sector : ℕ)
    → HoldsNow (λ now. buf ≡ take (length buf) (drop (byte_of sector) now.bytes)) moments
    → IfSome (entries_in rows moments) (λ list. AgreesWith rows list sector buf)
is_read_in rows [] buf sector read = tt
is_read_in rows (now ∷ past) buf sector read = agrees rows now.bytes buf sector read

-- what was read of a log's device
pub is_read : (log : LogState) (buf : List ℕ) (sector : ℕ) → log.entries ≡ entries_in log.rows log.commits.disk.moments
    → HoldsNow (λ now. buf ≡ take (length buf) (drop (byte_of sector) now.bytes)) log.commits.disk.moments
    → IsReadFrom log sector buf
is_read log buf sector is read =
    subst (λ list. IfSome list (λ list. AgreesWith log.rows list sector buf)) (sym is)
    (is_read_in log.rows log.commits.disk.moments buf sector read)

pub is_read_on_ok : {T E : Type 0} (r : Result T E) (log : LogState) (before buf : List ℕ) (sector at : ℕ) → at ≡ byte_of sector
    → length before ≡ length buf → log.entries ≡ entries_in log.rows log.commits.disk.moments
    → OnOk r (HoldsNow (λ now. buf ≡ take (length before) (drop at now.bytes)) log.commits.disk.moments)
    → OnOk r (IsReadFrom log sector buf)
is_read_on_ok (Ok x) log before buf sector at place same is read =
    is_read log buf sector is (subst₂ (λ n p. HoldsNow (λ now. buf ≡ take n (drop p now.bytes)) log.commits.disk.moments) same
    place read)
is_read_on_ok (Err e) log before buf sector at place same is read = tt

-- ---- entries one by one

-- past those that are skipped, the rows up to one and this one
taken_more : (rows : List Row) (skipped index : ℕ) (row : Row) → skipped ≤ index → index < length rows
    → row ≡ get_or rows index row
    → take ((index + 1) - skipped) (drop skipped rows) ≡ take (index - skipped) (drop skipped rows) ++ row ∷ []
taken_more rows skipped index row from inside is =
    let k : ℕ = index - skipped in
    let place : skipped + k ≡ index = omega (arith, from) in
    let here : get_or (drop skipped rows) k row ≡ row = get_or-drop skipped rows k row ∙ ap (λ n. get_or rows n row) place
    ∙ sym is in
    let less : k < length (drop skipped rows) = (let e = length-drop skipped rows in omega (arith, e, from, inside)) in
    let next : (index + 1) - skipped ≡ k + 1 = omega (arith, from) in
    ap (λ n. take n (drop skipped rows)) next ∙ take_more (drop skipped rows) k row less
    ∙ ap (λ r. take k (drop skipped rows) ++ r ∷ []) here

-- the entries of the rows from one on and before another
abbrev pub SoFar : List Row → (skipped index : ℕ) → List Entry → List Medium → Type 0
SoFar rows skipped index list moments =
    HoldsNow (λ now. list ≡ map (entry_of now.bytes) (take (index - skipped) (drop skipped rows))) moments

pub none_so_far : (rows : List Row) (skipped : ℕ) (list : List Entry) (moments : List Medium) → list ≡ []
    → SoFar rows skipped skipped list moments
none_so_far rows skipped list [] none = tt
none_so_far rows skipped list (now ∷ past) none =
    let zero : skipped - skipped ≡ 0 = omega arith in
    none ∙ sym (ap (λ n. map (entry_of now.bytes) (take n (drop skipped rows))) zero)

pub one_so_far : (rows : List Row) (skipped index : ℕ) (list : List Entry) (row : Row) (entry : Entry) (moments : List Medium)
    → skipped ≤ index → index < length rows
    → row ≡ get_or rows index row → SoFar rows skipped index list moments
    → HoldsNow (λ now. entry ≡ entry_of now.bytes row) moments
    → SoFar rows skipped (index + 1) (list ++ entry ∷ []) moments
one_so_far rows skipped index list row entry [] from inside is so_far read = tt
one_so_far rows skipped index list row entry (now ∷ past) from inside is so_far read =
    let k : ℕ = index - skipped in
    let more = taken_more rows skipped index row from inside is in
    ap (λ xs. xs ++ entry ∷ []) so_far ∙ ap (λ e. map (entry_of now.bytes) (take k (drop skipped rows)) ++ e ∷ []) read
    ∙ sym (ap (map (entry_of now.bytes)) more ∙ map-append (entry_of now.bytes) (take k (drop skipped rows)) (row ∷ []))

pub all_so_far : (rows : List Row) (skipped index : ℕ) (list : List Entry) (moments : List Medium) → length rows ≤ index
    → SoFar rows skipped index list moments
    → HoldsNow (λ now. list ≡ map (entry_of now.bytes) (drop skipped rows)) moments
all_so_far rows skipped index list [] end so_far = tt
all_so_far rows skipped index list (now ∷ past) end so_far =
    let enough : length (drop skipped rows) ≤ index - skipped = (let e = length-drop skipped rows in omega (arith, e, end)) in
    so_far ∙ ap (map (entry_of now.bytes)) (take_all (index - skipped) (drop skipped rows) enough)

-- ---- of which rows entries are

pub rows_more : (rows : List Row) (list : List Entry) (row : Row) (entry : Entry) → AreRowsOf rows list
    → row ≡ row_of (seq_of row) (position_of row) entry → AreRowsOf (rows ++ row ∷ []) (list ++ entry ∷ [])
rows_more [] [] row entry are is = (is, tt)
rows_more [] (other ∷ list) row entry are is = absurd are
rows_more (first ∷ rows) [] row entry are is = absurd are
rows_more (first ∷ rows) (other ∷ list) row entry are is = (are.0, rows_more rows list row entry are.1 is)

-- the entries are of the rows from one on and before another
abbrev pub AreOfSoFar : List Row → (skipped index : ℕ) → List Entry → Type 0
AreOfSoFar rows skipped index list = AreRowsOf (take (index - skipped) (drop skipped rows)) list

pub none_of_so_far : (rows : List Row) (skipped : ℕ) (list : List Entry) → list ≡ [] → AreOfSoFar rows skipped skipped list
none_of_so_far rows skipped list none =
    let zero : 0 ≡ skipped - skipped = omega arith in
    subst₂ (λ n l. AreRowsOf (take n (drop skipped rows)) l) zero (sym none) tt

pub one_of_so_far : (rows : List Row) (skipped index : ℕ) (list : List Entry) (row : Row) (entry : Entry) → skipped ≤ index
    → index < length rows
    → row ≡ get_or rows index row → AreOfSoFar rows skipped index list → row ≡ row_of (seq_of row) (position_of row) entry
    → AreOfSoFar rows skipped (index + 1) (list ++ entry ∷ [])
one_of_so_far rows skipped index list row entry from inside is so_far own =
    subst (λ r. AreRowsOf r (list ++ entry ∷ [])) (sym (taken_more rows skipped index row from inside is))
    (rows_more (take (index - skipped) (drop skipped rows)) list row entry so_far own)

pub all_of_so_far : (rows : List Row) (skipped index : ℕ) (list : List Entry) → length rows ≤ index
    → AreOfSoFar rows skipped index list → AreRowsOf (drop skipped rows) list
all_of_so_far rows skipped index list end so_far =
    let enough : length (drop skipped rows) ≤ index - skipped = (let e = length-drop skipped rows in omega (arith, e, end)) in
    subst (λ r. AreRowsOf r list) (take_all (index - skipped) (drop skipped rows) enough) so_far

-- a row that is one of many that lie inside the disk
pub row_lies : (rows : List Row) (index : ℕ) (row : Row) (log : ℕ) → index < length rows → row ≡ get_or rows index row
    → RowsLieInside rows log → RowLiesInside row log
row_lies [] index row log inside is all = absurd (omega (arith, inside))
row_lies (first ∷ rows) zero row log inside is all = subst (λ r. RowLiesInside r log) (sym is) all.0
row_lies (first ∷ rows) (suc index) row log inside is all = row_lies rows index row log (omega (arith, inside)) is all.1

-- what is read from a seq on, of a log whose device tells what it holds
entries_after : (rows : List Row) (skipped : ℕ) (list : List Entry) (moments : List Medium)
    → HoldsNow (λ now. list ≡ map (entry_of now.bytes) (drop skipped rows)) moments
    → IfSome (entries_in rows moments) (λ all. list ≡ drop skipped all)
entries_after rows skipped list [] read = tt
entries_after rows skipped list (now ∷ past) read = read ∙ sym (drop-map (entry_of now.bytes) skipped rows)

pub entries_on_ok : {L E : Type 0} (items : L → List Entry) (r : Result L E) (rows : List Row) (skipped : ℕ)
    (moments : List Medium)
    → IfOk r (λ list. HoldsNow (λ now. items list ≡ map (entry_of now.bytes) (drop skipped rows)) moments)
    → IfOk r (λ list. IfSome (entries_in rows moments) (λ all. items list ≡ drop skipped all))
entries_on_ok items (Ok list) rows skipped moments read = entries_after rows skipped (items list) moments read
entries_on_ok items (Err e) rows skipped moments read = tt

-- ---- the row of an entry

row_entry : (row : Row) (bytes : List ℕ) → byte_of (position_of row + record_size row) ≤ length bytes
    → row ≡ row_of (seq_of row) (position_of row) (entry_of bytes row)
row_entry (Write own at lba n) bytes fits =
    let many : length (bytes_at (byte_of (at + 1)) (512 * n) bytes) ≡ 512 * n =
    length-take-le (512 * n) (drop (byte_of (at + 1)) bytes) (let e = length-drop (byte_of (at + 1)) bytes in
    omega (arith, e, fits)) in
    let count : n ≡ length (bytes_at (byte_of (at + 1)) (512 * n) bytes) / 512 = omega (arith, many) in
    ap (Write own at lba) count
row_entry (Zero own at lba n) bytes fits = refl

row_matches : (rows : List Row) (index log : ℕ) (row : Row) (entry : Entry) (bytes : List ℕ)
    → AllByRecursion (λ r. position_of r + record_size r ≤ log) rows → byte_of log ≤ length bytes
    → index < length rows → row ≡ get_or rows index row → slice_get (map (entry_of bytes) rows) index ≡ Some entry
    → row ≡ row_of (seq_of row) (position_of row) entry
row_matches [] index log row entry bytes inside fits less is has = absurd (omega (arith, less))
row_matches (first ∷ rows) zero log row entry bytes inside fits less is has =
    let same : entry_of bytes first ≡ entry = cc in
    let i = inside.0 in
    let all : first ≡ row_of (seq_of first) (position_of first) (entry_of bytes first) =
    row_entry first bytes (omega (arith, i, fits)) in
    is ∙ all ∙ ap (λ r. row_of (seq_of r) (position_of r) (entry_of bytes first)) (sym is)
    ∙ ap (row_of (seq_of row) (position_of row)) same
row_matches (first ∷ rows) (suc index) log row entry bytes inside fits less is has =
    row_matches rows index log row entry bytes inside.1 fits (omega (arith, less)) is has

pub row_inside : (rows : List Row) (index log : ℕ) (row : Row) → AllByRecursion (λ r. position_of r + record_size r ≤ log) rows
    → index < length rows → row ≡ get_or rows index row → position_of row + record_size row ≤ log
row_inside [] index log row inside less is = absurd (omega (arith, less))
row_inside (first ∷ rows) zero log row inside less is = subst (λ r. position_of r + record_size r ≤ log) (sym is) inside.0
row_inside (first ∷ rows) (suc index) log row inside less is = row_inside rows index log row inside.1 (omega (arith, less)) is

pub matches_now : (rows : List Row) (index log size : ℕ) (row : Row) (moments : List Medium)
    → AllByRecursion (λ r. position_of r + record_size r ≤ log) rows → byte_of log ≤ size
    → AllByRecursion (HasSize size) moments → index < length rows → row ≡ get_or rows index row
    → IfSome (entries_in rows moments) (λ list. (entry : Entry) → slice_get list index ≡ Some entry
    → row ≡ row_of (seq_of row) (position_of row) entry)
matches_now rows index log size row [] inside fits media less is = tt
matches_now rows index log size row (now ∷ past) inside fits media less is = λ entry has.
    row_matches rows index log row entry now.bytes inside (let e = media.0.bytes in omega (arith, e, fits)) less is has

-- ---- a log

-- its records lie inside the log
pub list_inside : (place : Room) (mark : Mark) (held rows : List Row) (commits : CommitsState)
    → IsLog place mark held rows commits → AllByRecursion (λ row. position_of row + record_size row ≤ place.log) rows
list_inside place mark held rows commits log =
    let is = log.is in
    let last = is.committed.0 in
    let a = last.least in
    let b = last.most in
    let u = is.room.used in
    rows_inside rows place.log mark.position is.least is.reach.inside (omega (arith, a, b, u)) is.reach.follow

-- and all its rows do
pub all_inside : (place : Room) (mark : Mark) (held rows : List Row) (commits : CommitsState) → IsLog place mark held rows commits
    → AllByRecursion (λ row. position_of row + record_size row ≤ place.log) (held ++ rows)
all_inside place mark held rows commits log =
    let is = log.is in
    let last = is.committed.0 in
    let b = last.most in
    let u = is.room.used in
    let tail : ℕ = commits.body.tail.position in
    rows_inside (held ++ rows) place.log tail last.used last.is.reach.inside (omega (arith, b, u))
    (subst (Follow place.log tail last.used) log.from last.is.reach.follow)
