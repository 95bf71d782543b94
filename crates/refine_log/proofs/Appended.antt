-- A log with one entry more shows the plain log with its record.
use Rattle.std.proofs.Common.{◌≡◌, ℕ, ◌+◌, ◌-◌, ◌<◌, ◌≤◌, ◌==◌, List, [], ◌∷◌, ◌++◌, length, take, drop, refl, sym, ◌∙◌, ap}
use Rattle.std.proofs.Common.{subst, inl, inr, arith, if◌then◌else◌, length-append, append_assoc, append-nil}
use Rattle.std.specs.Prelude.{Option, Some, None, IfSome}
use Rattle.std.proofs.Math.Path.{subst₂}
use Rattle.std.proofs.lemmas.Bool.{cases_lt}
use Rattle.std.proofs.lemmas.Bool.Decides.{nat_tests}
use Rattle.std.proofs.lemmas.List.{take-append-drop, take-append-le, drop-append-le}
use Rattle.lsvd_base.specs.declared.entry.Entry.{Entry}
use Rattle.lsvd_base.specs.declared.entry.Entry.TheVariants as entries
use Rattle.commit_body.specs.declared.body.CommitBody.{CommitBody}
use Rattle.commit_body.specs.declared.body.Mark.{Mark}
use Rattle.log_room.specs.Room.{Room, IsRoom, need, free, position, pad_before, record_sectors, after_record}
use Rattle.cache_log.specs.declared.row.Row.{Row}
use Rattle.cache_log.specs.Rows.{seq_of, position_of, record_size, StandsFrom, sectors_taken, next, end_of_rows, AreNumbered}
use Rattle.cache_log.specs.Log.{LogState, all_rows, next_seq, row_of, start_of, start_with}
use Rattle.plain_disk.specs.Log.{PlainLog, room_in, record_of_next, with_record}
use Rattle.refine_log.specs.Shows.{pad_from, record_of_row, records_of_rows, ShowsLog}
use Rattle.refine_log.specs.Laws.{AppendedShowsRecord}
use Rattle.refine_log.proofs.Following.{Reaches, reach_more, record_takes, records_behind}
use Rattle.refine_log.proofs.Lists.{IsMarkAt, StandsIn, numbered_more}
use Rattle.refine_log.proofs.Shown.{ListOf, list_of, IsUnfinishedOf, shows_of, shown_alike, some_as, IsOrdered, TailStandsIn}

-- ---- where its record stands

-- a row where a record of N sectors goes
record IsPlaced (room : Room) (sectors : ℕ) (row : Row) : Type 0 where
  stands : StandsFrom room.log room.head row
  takes : sectors_taken room.log room.head row ≡ need room sectors
  pad : pad_from room.log room.head row ≡ pad_before room sectors

placed : (room : Room) (sectors : ℕ) (row : Row) → IsRoom room → need room sectors ≤ free room → 1 ≤ sectors
    → record_size row ≡ sectors
    → position_of row ≡ position room sectors
    → IsPlaced room sectors row
placed room sectors row is enough some size at =
    let head = is.head in
    elim (cases_lt room.log (room.head + sectors)) [
      | inl more ↦
          let begin : position room sectors ≡ 0 = grind arith in
          let pad : pad_before room sectors ≡ room.log - room.head = grind arith in
          let here : position_of row ≡ 0 = at ∙ begin in
          let ahead : position_of row < room.head = omega (arith, here, pad, enough, more) in
          let own : pad_from room.log room.head row ≡ room.log - room.head = grind (arith, ahead) in
          let takes = record_takes room.log room.head row in
          record {
            stands = inr (here, omega (arith, ahead), omega (arith, size, pad, enough));
            takes = omega (arith, takes, own, pad, size);
            pad = own ∙ sym pad;
          }
      | inr fits ↦
          let same : position room sectors ≡ room.head = grind arith in
          let none : pad_before room sectors ≡ 0 = grind arith in
          let here : position_of row ≡ room.head = at ∙ same in
          let on : room.head ≤ position_of row = omega (arith, here) in
          let own : pad_from room.log room.head row ≡ 0 = grind (arith, on) in
          let takes = record_takes room.log room.head row in
          record {
            stands = inl (here, omega (arith, fits, size));
            takes = omega (arith, takes, own, none, size);
            pad = own ∙ sym none;
          }
    ]

row_size : (entry : Entry) (seq at : ℕ) → record_size (row_of seq at entry) ≡ record_sectors entry
row_size (entries.Write lba body) seq at = refl
row_size (entries.Zero lba sectors) seq at = refl

row_place : (entry : Entry) (seq at : ℕ) → position_of (row_of seq at entry) ≡ at
row_place (entries.Write lba body) seq at = refl
row_place (entries.Zero lba sectors) seq at = refl

row_seq : (entry : Entry) (seq at : ℕ) → seq_of (row_of seq at entry) ≡ seq
row_seq (entries.Write lba body) seq at = refl
row_seq (entries.Zero lba sectors) seq at = refl

some_sectors : (entry : Entry) → 1 ≤ record_sectors entry
some_sectors (entries.Write lba body) = omega arith
some_sectors (entries.Zero lba sectors) = omega arith

both_some : {A : Type 0} (P Q : A → Type 0) (o : Option A) → IfSome o P → IfSome o Q → IfSome o (λ x. P x × Q x)
both_some P Q None first second = tt
both_some P Q (Some x) first second = (first, second)

-- where the tail of a commit stands when one more row comes behind the others
mark_more : (before rest : List Row) (row : Row) (log from head later position : ℕ) → end_of_rows log from (before ++ rest) ≡ head
    → IsMarkAt position head (end_of_rows log from before) rest
    → IsMarkAt position later (end_of_rows log from before) (rest ++ row ∷ [])
mark_more before rest row log from head later position end (inr at) = inr at
mark_more before [] row log from head later position end (inl at) =
    inr (at ∙ sym end ∙ ap (end_of_rows log from) (append-nil before))
mark_more before (first ∷ rest) row log from head later position end (inl at) = inl at

stands_more : (room : Room) (tail mark : Mark) (rows : List Row) (row : Row) (later : ℕ) → end_of_rows room.log tail.position rows
    ≡ room.head
    → mark.seq ≤ tail.seq + length rows → StandsIn room tail rows mark
    → StandsIn (record room { head = later }) tail (rows ++ row ∷ []) mark
stands_more room tail mark rows row later end most stands =
    let k : ℕ = mark.seq - tail.seq in
    let inside : k ≤ length rows = omega (arith, most) in
    let whole : end_of_rows room.log tail.position (take k rows ++ drop k rows) ≡ room.head =
    ap (end_of_rows room.log tail.position) (take-append-drop k rows) ∙ end in
    subst₂ (λ before rest. IsMarkAt mark.position later (end_of_rows room.log tail.position before) rest)
    (sym (take-append-le k rows (row ∷ []) inside))
    (sym (drop-append-le k rows (row ∷ []) inside))
    (mark_more (take k rows) (drop k rows) row room.log tail.position room.head later mark.position whole stands)

start_more : (at start head later : ℕ) (rows : List Row) (row : Row) → position_of row ≡ at → start ≡ start_of head rows
    → start_with at start rows ≡ start_of later (rows ++ row ∷ [])
start_more at start head later [] row here is = sym here
start_more at start head later (first ∷ rows) row here is = is

-- the room with one more record
room_more : (room : Room) (sectors : ℕ) → IsRoom room → need room sectors ≤ free room → IsRoom (after_record room sectors)
room_more room sectors is enough = record {
  limit = is.limit;
  head = (let head = is.head in grind (arith, nat_tests, head, enough));
  used = (let used = is.used in omega (arith, used, enough));
}

-- the log with an entry's record
abbrev row_of_next : LogState → Entry → Row
row_of_next log entry = row_of (next_seq log) (position log.room (record_sectors entry)) entry

abbrev appended_log : Entry → LogState → LogState
appended_log entry log = record log {
  room = after_record log.room (record_sectors entry);
  rows = log.rows ++ row_of_next log entry ∷ [];
  start = start_with (position log.room (record_sectors entry)) log.start log.rows;
}

-- the rows of the log are one more
rows_appended : (log : LogState) (entry : Entry) → all_rows (appended_log entry log) ≡ all_rows log ++ row_of_next log entry ∷ []
rows_appended log entry = sym (append_assoc log.held log.rows (row_of_next log entry ∷ []))

next_is_head : (room : Room) (sectors : ℕ) (row : Row) → position_of row ≡ position room sectors → record_size row ≡ sectors
    → next room.log row ≡ (after_record room sectors).head
next_is_head room sectors row here size =
    ap (λ p. if p + record_size row == room.log then 0 else p + record_size row) here
    ∙ ap (λ n. if position room sectors + n == room.log then 0 else position room sectors + n) size

appended_reach : (room : Room) (from sectors : ℕ) (rows : List Row) (row : Row) → IsRoom room → need room sectors ≤ free room
    → IsPlaced room sectors row → Reaches room.log from room.used room.head rows
    → next room.log row ≡ (after_record room sectors).head
    → Reaches room.log from (after_record room sectors).used (after_record room sectors).head (rows ++ row ∷ [])
appended_reach room from sectors rows row is enough placed reach to =
    let takes = placed.takes in
    let most = is.used in
    let used : room.used + sectors_taken room.log room.head row ≡ room.used + need room sectors = ap (λ n. room.used + n) takes in
    subst₂ (λ u h. Reaches room.log from u h (rows ++ row ∷ [])) used to
    (reach_more rows row room.log from room.used room.head reach placed.stands (omega (arith, takes, enough, most)))

appended_list : (log : LogState) (entry : Entry) → ListOf log → need log.room (record_sectors entry) ≤ free log.room
    → IsPlaced log.room (record_sectors entry) (row_of_next log entry) → ListOf (appended_log entry log)
appended_list log entry is enough placed =
    let room : Room = log.room in
    let tail : Mark = log.commits.body.tail in
    let sectors : ℕ = record_sectors entry in
    let at : ℕ = position room sectors in
    let row : Row = row_of_next log entry in
    let here = row_place entry (next_seq log) at in
    let whole = sym (rows_appended log entry) in
    let counted = is.counted in
    let long = length-append log.held log.rows in
    let seq : seq_of row ≡ tail.seq + length (all_rows log) = row_seq entry (next_seq log) at ∙ omega (arith, counted, long) in
    let to = next_is_head room sectors row here (row_size entry (next_seq log) at) in
    record {
      is_room = room_more room sectors is.is_room enough;
      reach =
          subst (Reaches room.log tail.position (after_record room sectors).used (after_record room sectors).head) whole
          (appended_reach room tail.position sectors (all_rows log) row is.is_room enough placed is.reach to);
      numbered = subst (AreNumbered tail.seq) whole (numbered_more (all_rows log) row tail.seq is.numbered seq);
      counted = is.counted;
      begins = start_more at log.start room.head (after_record room sectors).head log.rows row here is.begins;
    }

-- its record is that of the next entry of the plain log
record_is : (log : LogState) (plain : PlainLog) (entry : Entry) → room_in plain ≡ log.room
    → IsPlaced log.room (record_sectors entry) (row_of_next log entry)
    → record_of_next plain entry ≡ record_of_row log.room.log log.room.head (row_of_next log entry)
record_is log plain entry same placed =
    let room : Room = log.room in
    let sectors : ℕ = record_sectors entry in
    let row : Row = row_of_next log entry in
    let pad : pad_before (room_in plain) sectors ≡ pad_from room.log room.head row = ap (λ r. pad_before r sectors) same
    ∙ sym placed.pad in
    let at : position (room_in plain) sectors ≡ position_of row =
    ap (λ r. position r sectors) same ∙ sym (row_place entry (next_seq log) (position room sectors)) in
    let size : sectors ≡ record_size row = sym (row_size entry (next_seq log) (position room sectors)) in
    λ i. record { pad = pad i; at = at i; sectors = size i }

-- the records of both, and where the tail of an unfinished commit stands
records_appended : (log : LogState) (plain : PlainLog) (entry : Entry) → ShowsLog log plain
    → IsPlaced log.room (record_sectors entry) (row_of_next log entry)
    → (with_record plain entry).records ≡ records_of_rows log.room.log log.commits.body.tail.position
    (all_rows (appended_log entry log))
records_appended log plain entry is placed =
    let size : ℕ = log.room.log in
    let from : ℕ = log.commits.body.tail.position in
    let row : Row = row_of_next log entry in
    ap (λ l. l ++ record_of_next plain entry ∷ []) is.records
    ∙ ap (λ r. records_of_rows size from (all_rows log) ++ r ∷ []) (record_is log plain entry is.room placed)
    ∙ ap (λ e. records_of_rows size from (all_rows log) ++ record_of_row size e row ∷ []) (sym is.end)
    ∙ sym (records_behind (all_rows log) (row ∷ []) size from)
    ∙ ap (records_of_rows size from) (sym (rows_appended log entry))

unfinished_appended : (log : LogState) (plain : PlainLog) (entry : Entry) → ShowsLog log plain
    → IsUnfinishedOf (appended_log entry log) (with_record plain entry)
unfinished_appended log plain entry is =
    let room : Room = log.room in
    let later : Room = after_record room (record_sectors entry) in
    let tail : Mark = log.commits.body.tail in
    let row : Row = row_of_next log entry in
    let counted = is.counted in
    let long = length-append log.held log.rows in
    let follows : (body : CommitBody) → TailStandsIn room tail (all_rows log) body × IsOrdered tail log.first body
    → TailStandsIn later tail (all_rows log ++ row ∷ []) body =
    λ body both. (let most = both.1.1 in
    stands_more room tail body.tail (all_rows log) row later.head is.end (omega (arith, most, counted, long)) both.0) in
    let both = both_some (TailStandsIn room tail (all_rows log)) (IsOrdered tail log.first) log.commits.unfinished is.stands
    is.order in
    record {
      same = is.unfinished;
      order = is.order;
      stands =
          subst (λ l. IfSome log.commits.unfinished (TailStandsIn later tail l)) (sym (rows_appended log entry))
          (some_as (λ body. TailStandsIn room tail (all_rows log) body × IsOrdered tail log.first body)
          (TailStandsIn later tail (all_rows log ++ row ∷ [])) log.commits.unfinished follows both);
    }

appended_shows : (log : LogState) (plain : PlainLog) (entry : Entry) → ShowsLog log plain
    → need log.room (record_sectors entry) ≤ free log.room
    → ShowsLog (appended_log entry log) (with_record plain entry)
appended_shows log plain entry is enough =
    let sectors : ℕ = record_sectors entry in
    let seq : ℕ = next_seq log in
    let at : ℕ = position log.room sectors in
    let row : Row = row_of_next log entry in
    let placed = placed log.room sectors row is.is_room enough (some_sectors entry) (row_size entry seq at)
    (row_place entry seq at) in
    shows_of (appended_log entry log) (with_record plain entry)
    (appended_list log entry (list_of log plain is) enough placed)
    (ap (λ r. r.log) is.room)
    (ap (λ r. (after_record r sectors).head) is.room)
    is.last
    (records_appended log plain entry is placed)
    (unfinished_appended log plain entry is)

pub appended_shows_record : AppendedShowsRecord
appended_shows_record old new plain entry at is appended commits = (
  shown_alike (appended_log entry old) new (with_record plain entry)
      (record {
        room = appended.room;
        held = appended.held;
        rows = appended.rows;
        start = appended.start ∙ ap (λ p. start_with p old.start old.rows) appended.at_head;
        first = appended.first;
        body = commits.same_body;
        unfinished = commits.same_unfinished;
      })
      (appended_shows old plain entry is appended.had_room),
  appended.at_head ∙ ap (λ r. position r (record_sectors entry)) (sym is.room),
)
