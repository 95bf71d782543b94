-- While a log that was opened is committed again, whatever a stop leaves reads as the commit that was found, or as that of the
-- volume that is mounted.
use Rattle.std.proofs.Common.{◌≡◌, ℕ, ◌+◌, ◌-◌, ◌<◌, ◌≤◌, ◌==◌, true, max, if◌then◌else◌, List, [], ◌∷◌, ◌++◌, zero, suc, length}
use Rattle.std.proofs.Common.{take, drop, map, refl, sym, ◌∙◌, ap, subst, inl, inr, arith, length-drop}
use Rattle.std.specs.Prelude.{Some, None, IfSome}
use Rattle.std.specs.List.{All}
use Rattle.std.proofs.Math.Path.{subst₂}
use Rattle.std.proofs.lemmas.Bool.{eq-eqb, le-ltb}
use Rattle.std.proofs.lemmas.List.{take-take, take_all, take-append-drop, length-map, drop-map}
use Rattle.std.proofs.lemmas.List.Elements.{All-drop, All-from_recursion}
use Rattle.lsvd_base.specs.declared.entry.Entry.{Entry}
use Rattle.lsvd_base.specs.declared.geometry.Geometry.{Geometry}
use Rattle.lsvd_base.specs.Range.{is_in_range}
use Rattle.lsvd_device.specs.Medium.{Medium}
use Rattle.lsvd_device.specs.Device.{HasSize, HoldsSince}
use Rattle.commit_body.specs.declared.body.CommitBody.{CommitBody}
use Rattle.commit_slot.specs.Commits.{CommitsState, ReadsSettled, IsLastOr, finished_body}
use Rattle.cache_log.specs.declared.row.Row.{Row}
use Rattle.cache_log.specs.Rows.{byte_of, entry_of, position_of, next, end_of_rows, entries_between}
use Rattle.cache_log.specs.Log.{LogState, all_rows, entries_in, start_of, IsTrimmed}
use Rattle.cache_log.specs.Opening.{IsOpenedLog}
use Rattle.cache_log.specs.Committed.{body_of, HasRecords, LeavesEntries}
use Rattle.cache_log.proofs.RowLemmas.{entries_range}
use Rattle.plain_disk.specs.declared.log.PlainCommit.{PlainCommit}
use Rattle.plain_disk.specs.Log.{PlainLog, point, place_of_first, commit_from, past_pad, held_from}
use Rattle.plain_disk.specs.Sectors.{AllInRange}
use Rattle.plain_disk.specs.State.{PlainState}
use Rattle.plain_disk.specs.Valid.{IsPlainVolume}
use Rattle.refine_log.specs.Shows.{commit_of, record_of_row, records_of_rows}
use Rattle.refine_log.proofs.Following.{Reaches, reach_behind, reach_from_first, records_count}
use Rattle.stopped_volume.specs.Device.{CacheOwner}
use Rattle.refine_log.specs.Stops.{entries_past, HasCommit}
use Rattle.refine_log.proofs.EntryLemmas.{entries_are}
use Rattle.refine_log.proofs.ReadLemmas.{read_as}
use Rattle.refine_log.proofs.Sizes.{left_size, since_sized}
use Rattle.refine_mount.specs.Mounted.{end_of_object, mounted_with, log_found, committed_at}
use Rattle.refine_mount.specs.Stops.{HasFoundOrMade, StopKeepsMount}
use Rattle.refine_mount.specs.Laws.{CommittingKeepsMount}
use Rattle.refine_mount.proofs.AgainLemmas.{cut_end, past_again, held_again}
use Rattle.refine_mount.proofs.GoingLemmas.{mounted_log_is}

-- ---- the rows past some of a log

-- where the first of them stands, and so does its record
place_past : (rows : List Row) (n log from head : ℕ)
    → place_of_first head (drop n (records_of_rows log from rows)) ≡ start_of head (drop n rows)
place_past [] zero log from head = refl
place_past [] (suc n) log from head = refl
place_past (row ∷ rows) zero log from head = refl
place_past (row ∷ rows) (suc n) log from head = place_past rows n log (next log row) head

-- no pad is before a record that stands where they begin
own_record : (log from : ℕ) (row : Row)
    → (if position_of row == position_of row then record (record_of_row log from row) { pad = 0 } else record_of_row log from row)
    ≡ record_of_row log (position_of row) row
own_record log from row =
    let at : ℕ = position_of row in
    ap (λ b. if b then record (record_of_row log from row) { pad = 0 } else record_of_row log from row) (eq-eqb at at refl)
    ∙ sym (ap (λ b. record (record_of_row log from row) { pad = if b then log - at else 0 }) (le-ltb at at (omega arith)))

records_past : (rows : List Row) (n log from head : ℕ)
    → past_pad (start_of head (drop n rows)) (drop n (records_of_rows log from rows))
    ≡ records_of_rows log (start_of head (drop n rows)) (drop n rows)
records_past [] zero log from head = refl
records_past [] (suc n) log from head = refl
records_past (row ∷ rows) zero log from head = ap (λ stored. stored ∷ records_of_rows log (next log row) rows)
    (own_record log from row)
records_past (row ∷ rows) (suc n) log from head = records_past rows n log (next log row) head

-- they reach from there as far
reach_start : (rows : List Row) (log from used head : ℕ) → Reaches log from used head rows
    → (left : ℕ) × Reaches log (start_of head rows) left head rows
reach_start [] log from used head is =
    (0, record { inside = subst (λ n. n < log) is.end is.inside; most = omega arith; follow = refl; end = refl })
reach_start (row ∷ rows) log from used head is = reach_from_first row rows log from used head is

reach_past : (rows : List Row) (n log from used head : ℕ) → Reaches log from used head rows
    → (left : ℕ) × Reaches log (start_of head (drop n rows)) left head (drop n rows)
reach_past rows n log from used head is =
    let behind = reach_behind (take n rows) (drop n rows) log from used head
    (subst (λ l. Reaches log from used head l) (sym (take-append-drop n rows)) is) in
    reach_start (drop n rows) log (end_of_rows log from (take n rows)) behind.0 head behind.1

-- ---- what is left

module _ (owner : CacheOwner) (plain : PlainState) (found : PlainCommit) (number : ℕ) (bytes : List ℕ)
    (valid : IsPlainVolume plain) (has : HasCommit owner plain found (end_of_object number plain) bytes)
    (long : byte_of plain.geometry.log ≤ length bytes) where
  abbrev geometry : Geometry
  geometry = plain.geometry

  abbrev end : ℕ
  end = end_of_object number plain

  abbrev mounted : PlainState
  mounted = mounted_with found number plain

  -- the commit that was found
  abbrev old : CommitBody
  old = has.body

  abbrev entries : List Entry
  entries = map (entry_of bytes) has.rows

  -- how many of its records are of entries in objects
  abbrev past : ℕ
  past = end - old.tail.seq

  -- the rows of the others
  abbrev rest : List Row
  rest = drop past has.rows

  -- the commit that is made
  abbrev new : CommitBody
  new = record old {
    tail = point end (start_of old.head.position rest);
    head = point (end + length rest) old.head.position;
  }

  own_reach : Reaches geometry.log old.tail.position has.records.records.used old.head.position has.rows
  own_reach =
      let records = has.records.records in
      record {
        inside = has.slots.reads.is_open.sector.may_stand.tail_inside;
        most = records.most;
        follow = records.follow;
        end = records.end;
      }

  in_range : AllInRange geometry entries
  in_range =
      let records = has.records.records in
      All-from_recursion (λ entry. is_in_range geometry entry ≡ true) entries
      (entries_range geometry has.rows old.tail.position records.used bytes
      has.slots.reads.is_open.sector.may_stand.tail_inside
      records.most long records.follow has.records.in_range)

  rest_count : length rest ≡ length has.rows - past
  rest_count = length-drop past has.rows

  -- of all entries a commit has those from its tail on up to its head
  entries_of : (log : LogState) (body : CommitBody) → old.tail.seq ≤ body.tail.seq
      → old.head.seq ≤ body.head.seq
      → entries_between body has.rows entries ≡ map (entry_of bytes) (drop (body.tail.seq - old.tail.seq) has.rows)
  entries_of log body from whole =
      let k : ℕ = body.tail.seq - old.tail.seq in
      let count = length-map has.rows (entry_of bytes) in
      let left = length-drop k entries in
      let seqs = has.records.records.seqs in
      entries_are log body has.rows entries old.tail.seq has.records.records.numbered count from
      ∙ take_all (body.head.seq - body.tail.seq) (drop k entries) (omega (arith, count, left, seqs, from, whole))
      ∙ drop-map (entry_of bytes) k has.rows

  module _ (left : List ℕ) (fits : byte_of geometry.log ≤ length left) (n : ℕ) where
    -- the commit that was found
    found_left : ReadsSettled geometry.log left old n → HasRecords geometry.log old (map (entry_of bytes) has.rows) left
        → HasCommit owner plain found end left
    found_left slots records =
        let read = read_as geometry old has.rows has.records.records.used bytes left valid.limits
        slots.reads.is_open.sector.may_stand
        long fits own_reach in_range records in
        record {
          number = n;
          body = old;
          is_of = has.is_of;
          commit = has.commit;
          slots = slots;
          rows = read.rows;
          records = read.records;
          placed = read.placed ∙ has.placed;
          tail = has.tail;
          entries = ap (drop past) read.entries ∙ has.entries;
        }

    -- the commit that is made
    abbrev of_log : PlainLog
    of_log = log_found geometry.log old has.rows

    log_is : committed_at end of_log ≡ mounted.cache.log
    log_is = mounted_log_is owner plain found end bytes has valid.size

    place_is : place_of_first old.head.position (drop past of_log.records) ≡ new.tail.position
    place_is = place_past has.rows past geometry.log old.tail.position old.head.position

    made_is : commit_of new ≡ commit_from end of_log
    made_is =
        let all = records_count has.rows geometry.log old.tail.position in
        let count = rest_count in
        let tail = has.tail in
        let next : end + length rest ≡ max end (old.tail.seq + length of_log.records) = omega (arith, all, count, tail) in
        λ i. record { tail = point end (sym place_is i); head = point (next i) old.head.position }

    made_placed : records_of_rows geometry.log new.tail.position rest
        ≡ past_pad new.tail.position (held_from mounted.cache.log.last mounted.cache.log).records
    made_placed =
        let p : ℕ = new.tail.position in
        sym (records_past has.rows past geometry.log old.tail.position old.head.position)
        ∙ sym (past_again p (drop past of_log.records))
        ∙ ap (λ place. past_pad p (past_pad place (drop past of_log.records))) (sym place_is)
        ∙ ap (λ (log : PlainLog). past_pad p log.records) (sym (held_again of_log end has.tail))
        ∙ ap (λ (log : PlainLog). past_pad p (held_from log.last log).records) log_is

    made_entries : map (entry_of bytes) rest ≡ entries_past mounted end new.head.seq
    made_entries =
        let seqs = has.records.records.seqs in
        let count = rest_count in
        let tail = has.tail in
        let head = ap (λ (c : PlainCommit). c.head.seq) has.commit in
        let few : ℕ = max end new.head.seq - plain.end in
        let many : ℕ = max end found.head.seq - plain.end in
        let same : max end old.head.seq - plain.end ≡ few = omega (arith, seqs, count, tail) in
        sym (drop-map (entry_of bytes) past has.rows)
        ∙ has.entries
        ∙ ap (λ k. drop (end - plain.end) (take k plain.entries)) same
        ∙ ap (drop (end - plain.end)) (sym (take-take few many plain.entries (omega (arith, same, head))))

    made_left : ReadsSettled geometry.log left new n → HasRecords geometry.log new (map (entry_of bytes) rest) left
        → HasCommit owner mounted mounted.cache.log.last (end_of_object number mounted) left
    made_left slots records =
        let InRange : Entry → Type 0 = λ entry. is_in_range geometry entry ≡ true in
        let used : ℕ = has.records.records.used in
        let reach = reach_past has.rows past geometry.log old.tail.position used old.head.position own_reach in
        let may = slots.reads.is_open.sector.may_stand in
        let read = read_as geometry new rest reach.0 bytes left valid.limits may long fits reach.1
        (subst (All InRange) (drop-map (entry_of bytes) past has.rows) (All-drop InRange past entries in_range)) records in
        let none : end - end ≡ 0 = omega arith in
        subst (λ count. HasCommit owner mounted mounted.cache.log.last count left) (sym (cut_end plain number))
        (record {
          number = n;
          body = new;
          is_of = has.is_of;
          commit = made_is ∙ ap (λ (log : PlainLog). log.last) log_is;
          slots = slots;
          rows = read.rows;
          records = read.records;
          placed = read.placed ∙ made_placed;
          tail = omega arith;
          entries = ap (λ k. drop k (map (entry_of left) read.rows)) none ∙ read.entries ∙ made_entries;
        })

  -- ---- while the log is committed again

  module _ (commits : CommitsState) (opened trimmed : LogState) (body_is : commits.body ≡ old) (none : commits.unfinished ≡ None)
      (is : IsOpenedLog geometry commits opened) (rows_are : opened.rows ≡ has.rows) (cut : IsTrimmed end opened trimmed) where
    own_is : trimmed.commits.body ≡ old
    own_is = ap (λ c. c.body) cut.commits ∙ is.only.same.same_body ∙ body_is

    finished_is : finished_body trimmed.commits.body trimmed.commits.unfinished ≡ old
    finished_is =
        let unfinished = ap (λ c. c.unfinished) cut.commits ∙ is.only.same.same_unfinished ∙ none in
        ap (finished_body trimmed.commits.body) unfinished ∙ own_is

    first_opened : opened.first ≡ old.tail.seq
    first_opened = is.first ∙ ap (λ (b : CommitBody). b.tail.seq) body_is

    rows_left : trimmed.rows ≡ rest
    rows_left = cut.rows ∙ (λ i. drop (end - first_opened i) (rows_are i))

    next_is : body_of trimmed ≡ new
    next_is =
        let head : opened.room.head ≡ old.head.position = ap (λ room. room.head) is.room
        ∙ ap (λ (b : CommitBody). b.head.position) body_is in
        let start : trimmed.start ≡ new.tail.position = cut.start ∙ (λ i. start_of (head i) (rows_left i)) in
        let head_now : trimmed.room.head ≡ old.head.position = ap (λ room. room.head) cut.room ∙ head in
        let from = cut.first in
        let begins = first_opened in
        let tail = has.tail in
        let first : trimmed.first ≡ end = omega (arith, from, begins, tail) in
        let last : trimmed.first + length trimmed.rows ≡ end + length rest = (λ i. first i + length (rows_left i)) in
        λ i. record (own_is i) { tail = point (first i) (start i); head = point (last i) (head_now i) }

    all_are : all_rows trimmed ≡ has.rows
    all_are =
        let k : ℕ = end - opened.first in
        (λ i. cut.held i ++ cut.rows i)
        ∙ ap (λ held. (held ++ take k opened.rows) ++ drop k opened.rows) is.held
        ∙ take-append-drop k opened.rows
        ∙ rows_are

    size_is : trimmed.room.log ≡ geometry.log
    size_is = ap (λ room. room.log) (cut.room ∙ is.room)

    -- what a stop leaves then
    is_left : (left : List ℕ) → byte_of geometry.log ≤ length left → (n : ℕ) (body : CommitBody)
        → IsLastOr trimmed.commits (body_of trimmed) n body
        → ReadsSettled trimmed.room.log left body n
        → HasRecords trimmed.room.log body (entries_between body (all_rows trimmed) entries) left
        → HasFoundOrMade owner plain found number left
    is_left left fits n body which settled records =
        let slots : ReadsSettled geometry.log left body n = subst (λ m. ReadsSettled m left body n) size_is settled in
        let of_rows : HasRecords geometry.log body (entries_between body has.rows entries) left =
        subst₂ (λ m rows. HasRecords m body (entries_between body rows entries) left) size_is all_are records in
        either which slots of_rows
      where
        as_found : body ≡ old → ReadsSettled geometry.log left body n
            → HasRecords geometry.log body (entries_between body has.rows entries) left
            → HasFoundOrMade owner plain found number left
        as_found same slots has_rows =
            let whole : old.tail.seq - old.tail.seq ≡ 0 = omega arith in
            let list : entries_between old has.rows entries ≡ map (entry_of bytes) has.rows =
            entries_of trimmed old (omega arith) (omega arith) ∙ ap (λ k. map (entry_of bytes) (drop k has.rows)) whole in
            inl (found_left left fits n (subst (λ b. ReadsSettled geometry.log left b n) same slots)
            (subst (λ l. HasRecords geometry.log old l left) list
            (subst (λ b. HasRecords geometry.log b (entries_between b has.rows entries) left) same has_rows)))

        as_made : body ≡ new → ReadsSettled geometry.log left body n
            → HasRecords geometry.log body (entries_between body has.rows entries) left
            → HasFoundOrMade owner plain found number left
        as_made same slots has_rows =
            let tail = has.tail in
            let seqs = has.records.records.seqs in
            let count = rest_count in
            let list : entries_between new has.rows entries ≡ map (entry_of bytes) rest =
            entries_of trimmed new (omega (arith, tail)) (omega (arith, seqs, count, tail)) in
            inr (made_left left fits n (subst (λ b. ReadsSettled geometry.log left b n) same slots)
            (subst (λ l. HasRecords geometry.log new l left) list
            (subst (λ b. HasRecords geometry.log b (entries_between b has.rows entries) left) same has_rows)))

        either : IsLastOr trimmed.commits (body_of trimmed) n body → ReadsSettled geometry.log left body n
            → HasRecords geometry.log body (entries_between body has.rows entries) left
            → HasFoundOrMade owner plain found number left
        either (inl (inl commit)) slots has_rows = as_found (commit.same_body ∙ own_is) slots has_rows
        either (inl (inr commit)) slots has_rows = as_found (commit.same_body ∙ finished_is) slots has_rows
        either (inr commit) slots has_rows = as_made (commit.same_body ∙ next_is) slots has_rows

pub committing_keeps_mount : CommittingKeepsMount
committing_keeps_mount owner plain found number bytes now past commits opened trimmed new valid has long bytes_are moments body_is
    none is rows_are cut is_disk leaves =
    let list : List Entry = map (entry_of bytes) has.rows in
    let media : List Medium = trimmed.commits.disk.moments in
    let L : List Entry → Medium → Type 0 =
    λ l. LeavesEntries trimmed.room.log (all_rows trimmed) l (IsLastOr trimmed.commits (body_of trimmed)) in
    let K : Medium → Type 0 = StopKeepsMount owner plain found number in
    let told : trimmed.all ≡ Some list =
    cut.all ∙ is.all ∙ is.entries
    ∙ ap (entries_in opened.rows) moments
    ∙ (λ i. Some (map (entry_of (bytes_are i)) (rows_are i))) in
    let same : media ≡ now ∷ past =
    ap (λ (c : CommitsState). c.disk.moments) cut.commits ∙ is.only.moments ∙ moments in
    let each : (medium : Medium) → HasSize (length bytes) medium → L list medium → K medium = λ medium size reads left may.
    let read = reads left may in
    let whole = left_size (length bytes) medium left size may in
    is_left owner plain found number bytes valid has long commits opened trimmed body_is none is rows_are cut left
    (omega (arith, whole, long)) read.0 read.1 read.2 read.3 read.4 in
    subst (λ m. HoldsSince K m new.moments) (sym same)
    (since_sized (L list) K (length bytes) now past new (ap length bytes_are) is_disk each
    (subst (λ m. HoldsSince (L list) m new.moments) same
    (subst (λ t. IfSome t (λ l. HoldsSince (L l) media new.moments)) told leaves)))
