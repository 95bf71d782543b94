-- What the proofs of other crates know of logs: the laws, and what follows from them.
use Rattle.std.proofs.Common.{◌≡◌, ℕ, ◌+◌, ◌<◌, List, [], ◌∷◌, ◌++◌, length, map, refl, sym, ◌∙◌, ap, subst, arith}
use Rattle.std.specs.Prelude.{Option, Some, None, IfSome, true}
use Rattle.std.specs.Option.{option_map}
use Rattle.std.proofs.lemmas.Bool.Decides.{nat_tests}
use Rattle.std.proofs.lemmas.List.{length-map}
use Rattle.lsvd_base.specs.declared.entry.Entry.{Entry}
use Rattle.lsvd_device.specs.Medium.{Medium, MayLeave}
use Rattle.lsvd_device.specs.Device.{DiskState, HoldsSince, HoldsNow}
use Rattle.log_room.specs.Room.{room_of}
use Rattle.lsvd_device.specs.Calls.{Budget, Takes}
use Rattle.commit_body.specs.declared.body.CommitBody.{CommitBody}
use Rattle.commit_slot.specs.Commits.{CommitsState, IsAsBefore, IsLast, ReadsSettled}
use Rattle.commit_slot.proofs.Passing.{passes_as}
use Rattle.commit_slot.specs.LogArea.{log_area}
use Rattle.cache_log.specs.declared.row.Row.{Row}
use Rattle.cache_log.specs.Rows.{seq_of, position_of, entry_of, AreNumbered, HaveRecords, since, entries_since, entries_between}
use Rattle.cache_log.specs.Reads.{reads_cost}
use Rattle.cache_log.specs.Log.{LogState, all_rows, entries_in, row_of, AreRowsOf, HasSameEntries, up_to}
use Rattle.cache_log.specs.Opening.{sectors_between}
use Rattle.cache_log.specs.Committed.{HasRecords, LeavesEntries, LeavesEntriesSince, LeavesEntriesNow, HoldsCommittedNow}
use Rattle.cache_log.specs.Committed.{IsOnDisk, HasSameList, IsReleased, sectors_from}
use Rattle.cache_log.specs.Laws.{HaveOneList, AreReadAgain, AreAtMostTwoEach}
use Rattle.cache_log.proofs.LogAreaLemmas as area
use Rattle.cache_log.proofs.ReadCounts as counts
use Rattle.cache_log.proofs.ReadLemmas as reads
use Rattle.cache_log.proofs.RowLemmas as rows_of
use Rattle.cache_log.proofs.Slices.{entries_first, entries_numbered}

-- bytes have at most one list of records between a tail and a head
pub have_one_list : HaveOneList
have_one_list = rows_of.have_one_list

-- where the records of entries stand that a volume takes, they are read, and no others
pub are_read_again : AreReadAgain
are_read_again = rows_of.are_read_again

-- at most two headers are read for each row
pub at_most_two_each : AreAtMostTwoEach
at_most_two_each = counts.headers_most

-- of rows of entries, one more is of one entry more
pub rows_more : (rows : List Row) (list : List Entry) (row : Row) (entry : Entry) → AreRowsOf rows list
    → row ≡ row_of (seq_of row) (position_of row) entry → AreRowsOf (rows ++ row ∷ []) (list ++ entry ∷ [])
rows_more = reads.rows_more

-- where the same bytes stand in the log area, the same records do, with the same entries
pub same_log_area : (rows : List Row) (log from seq : ℕ) (left old : List ℕ) → log_area left ≡ log_area old
    → HaveRecords log from seq rows old
    → HaveRecords log from seq rows left × (map (entry_of left) rows ≡ map (entry_of old) rows)
same_log_area = area.same_log_area

-- a list of as many as a commit has is all up to its head
pub all_up_to : {A : Type 0} (body : CommitBody) (list : List A) → body.tail.seq + length list ≡ body.head.seq
    → up_to body list ≡ list
all_up_to body list seqs = area.all_up_to body list seqs

-- no read takes nothing
pub nothing_taken : (budget : Option Budget) → Takes (reads_cost 0) true budget budget
nothing_taken = counts.nothing_taken

-- commits that are as before twice are as before
pub as_before_then : (old middle new : CommitsState) → IsAsBefore old middle → IsAsBefore middle new → IsAsBefore old new
as_before_then = counts.as_before_then

-- ---- a log of which no record is held

-- its entries are all that it has, and their seqs follow one another
pub record HoldsNone (log : LogState) : Type 0 where
  pub held : log.held ≡ []
  pub all : log.all ≡ log.entries
  pub numbered : AreNumbered log.first log.rows
  pub count : IfSome log.entries (λ list. length list ≡ length log.rows)

entries_count : (rows : List Row) (moments : List Medium) → IfSome (entries_in rows moments) (λ list. length list ≡ length rows)
entries_count rows [] = tt
entries_count rows (now ∷ past) = length-map rows (entry_of now.bytes)

pub holds_none : (log : LogState) → IsOnDisk log → log.first ≡ log.commits.body.tail.seq → HoldsNone log
holds_none log is same =
    let none = is.held same in
    let P : Option (List Entry) → Type 0 = λ e. IfSome e (λ list. length list ≡ length log.rows) in
    record {
      held = none;
      all = is.all ∙ ap (λ h. entries_in (h ++ log.rows) log.commits.disk.moments) none ∙ sym is.entries;
      numbered = is.numbered;
      count = subst P (sym is.entries) (entries_count log.rows log.commits.disk.moments);
    }

-- what is reserved is no matter
pub none_reserved : (log : LogState) (reserved : ℕ) → HoldsNone log → HoldsNone (record log { reserved = reserved })
none_reserved log reserved is = record { held = is.held; all = is.all; numbered = is.numbered; count = is.count }

-- of a commit with the first one's seq the entries are those up to its head
pub is_up_to : (log : LogState) (list : List Entry) (body : CommitBody) → log.held ≡ [] → AreNumbered log.first log.rows
    → length list ≡ length log.rows → body.tail.seq ≡ log.first
    → entries_between body (all_rows log) list ≡ up_to body list
is_up_to log list body held numbered count tail =
    let P : ℕ → Type 0 = λ n. AreNumbered n log.rows in
    ap (λ h. entries_between body (h ++ log.rows) list) held
    ∙ entries_first log.rows list body.tail.seq body (subst P (sym tail) numbered) count (omega arith)

-- whatever a stop leaves reads as a commit with P, and has the entries up to its head
abbrev pub LeavesList : (log : ℕ) → List Entry → (ℕ → CommitBody → Type 0) → Medium → Type 0
LeavesList log list P medium =
    (left : List ℕ) → MayLeave medium left → (number : ℕ) × (body : CommitBody) × P number body
    × ReadsSettled log left body number × HasRecords log body (up_to body list) left

abbrev pub HoldsList : LogState → List Entry → Medium → Type 0
HoldsList log list medium =
    (left : List ℕ) → MayLeave medium left → (number : ℕ) (body : CommitBody) → IsLast log.commits number body
    → HasRecords log.room.log body (up_to body list) left

abbrev pub LeavesListSince : LogState → (ℕ → CommitBody → Type 0) → DiskState → Type 0
LeavesListSince log P new = IfSome log.entries (λ list. HoldsSince (LeavesList log.room.log list P) log.commits.disk.moments
    new.moments)

abbrev pub LeavesListNow : LogState → (ℕ → CommitBody → Type 0) → Type 0
LeavesListNow log P = IfSome log.entries (λ list. HoldsNow (LeavesList log.room.log list P) log.commits.disk.moments)

abbrev pub HoldsListNow : LogState → Type 0
HoldsListNow log = IfSome log.entries (λ list. HoldsNow (HoldsList log list) log.commits.disk.moments)

-- each commit with P has the first one's seq
abbrev pub AreFromFirst : LogState → (ℕ → CommitBody → Type 0) → Type 0
AreFromFirst log P = (number : ℕ) (body : CommitBody) → P number body → body.tail.seq ≡ log.first

pub leaves_list : (log : LogState) (list : List Entry) (P : ℕ → CommitBody → Type 0) (medium : Medium) → HoldsNone log
    → length list ≡ length log.rows → AreFromFirst log P
    → LeavesEntries log.room.log (all_rows log) list P medium → LeavesList log.room.log list P medium
leaves_list log list P medium is count from leaves = λ left may.
    let found = leaves left may in
    let Q : List Entry → Type 0 = λ l. HasRecords log.room.log found.1 l left in (
      found.0,
      found.1,
      found.2,
      found.3,
      subst Q
          (is_up_to log list found.1 is.held is.numbered count (from found.0 found.1 found.2)) found.4,
    )

-- where the entries are told, what holds of all of them holds of the list
told_list : (P Q : List Entry → Type 0) (all entries : Option (List Entry)) (n : ℕ) → all ≡ entries
    → IfSome entries (λ list. length list ≡ n) → ((list : List Entry) → length list ≡ n → P list → Q list) → IfSome all P
    → IfSome entries Q
told_list P Q all None n same count follows holds = tt
told_list P Q all (Some list) n same count follows holds = follows list count (let R : Option (List Entry) → Type 0 =
    λ e. IfSome e P in subst R same holds)

pub list_since : (log : LogState) (P : ℕ → CommitBody → Type 0) (new : DiskState) → HoldsNone log → AreFromFirst log P
    → LeavesEntriesSince log P new → LeavesListSince log P new
list_since log P new is from since =
    let old : List Medium = log.commits.disk.moments in
    told_list (λ list. HoldsSince (LeavesEntries log.room.log (all_rows log) list P) old new.moments)
    (λ list. HoldsSince (LeavesList log.room.log list P) old new.moments) log.all log.entries (length log.rows)
    is.all is.count
    (λ list count holds.
    passes_as (LeavesEntries log.room.log (all_rows log) list P) (LeavesList log.room.log list P) old new.moments
    (λ medium leaves. leaves_list log list P medium is count from leaves) holds) since

now_follows : (P Q : Medium → Type 0) (moments : List Medium) → ((now : Medium) → P now → Q now) → HoldsNow P moments
    → HoldsNow Q moments
now_follows P Q [] follows holds = tt
now_follows P Q (now ∷ past) follows holds = follows now holds

pub list_now : (log : LogState) (P : ℕ → CommitBody → Type 0) → HoldsNone log → AreFromFirst log P → LeavesEntriesNow log P
    → LeavesListNow log P
list_now log P is from now =
    let moments : List Medium = log.commits.disk.moments in
    told_list (λ list. HoldsNow (LeavesEntries log.room.log (all_rows log) list P) moments)
    (λ list. HoldsNow (LeavesList log.room.log list P) moments) log.all log.entries (length log.rows) is.all is.count
    (λ list count holds. now_follows _ _ moments (λ medium leaves. leaves_list log list P medium is count from leaves) holds) now

pub list_held : (log : LogState) → HoldsNone log → AreFromFirst log (IsLast log.commits) → HoldsCommittedNow log
    → HoldsListNow log
list_held log is from now =
    let moments : List Medium = log.commits.disk.moments in
    let H : List Entry → Medium → Type 0 = λ list medium.
    (left : List ℕ) → MayLeave medium left → (number : ℕ) (body : CommitBody) → IsLast log.commits number body
    → HasRecords log.room.log body (entries_between body (all_rows log) list) left in
    told_list (λ list. HoldsNow (H list) moments) (λ list. HoldsNow (HoldsList log list) moments) log.all log.entries
    (length log.rows) is.all is.count
    (λ list count holds. now_follows (H list) (HoldsList log list) moments
    (λ medium all left may number body last.
    let Q : List Entry → Type 0 = λ l. HasRecords log.room.log body l left in
    subst Q (is_up_to log list body is.held is.numbered count (from number body last)) (all left may number body last)) holds) now

-- ---- a commit of such a log

between_none : (log from : ℕ) (body : CommitBody) (rows : List Row) → rows ≡ [] → body.tail.seq + length rows ≡ body.head.seq
    → sectors_between log body ≡ 0
between_none log from body rows none seqs = (let e = ap length none in let same : body.tail.seq ≡ body.head.seq =
    omega (arith, e, seqs) in grind (arith, nat_tests, same))

-- the sectors in use are those of a commit of all its entries
pub from_is_between : (log : ℕ) (body : CommitBody) (rows : List Row) → body.tail.seq + length rows ≡ body.head.seq
    → sectors_from log body.tail.position body.head.position rows ≡ sectors_between log body
from_is_between log body [] seqs = sym (between_none log 0 body [] refl seqs)
from_is_between log body (row ∷ rows) seqs =
    let less : body.tail.seq < body.head.seq = omega (arith, seqs) in
    sym (grind (arith, nat_tests, less))

-- the room of a log is the same after a commit whose tail is that of the one before, and so is all else of the list
pub same_entries : (old new : LogState) → IsOnDisk old → HoldsNone old → new.commits.body.tail.seq ≡ old.first
    → new.commits.body.tail.position ≡ old.commits.body.tail.position → HasSameList old new → IsReleased old new
    → HasSameEntries old new
same_entries old new is none seq position same released =
    let m : ℕ = new.commits.body.tail.seq in
    let held : new.held ≡ [] = released.held ∙ ap (since m) none.held in
    let P : ℕ → Type 0 = λ n. AreNumbered n old.rows in
    let numbered : AreNumbered m old.rows = subst P (sym seq) none.numbered in
    let rows : all_rows new ≡ all_rows old = ap (λ h. h ++ new.rows) held ∙ same.rows ∙ ap (λ h. h ++ old.rows) (sym none.held) in
    record {
      entries = same.entries;
      rows = same.rows;
      all =
          released.all ∙ ap (λ r. option_map (entries_since m r) old.all) (ap (λ h. h ++ old.rows) none.held)
          ∙ ap (option_map (entries_since m old.rows)) none.all
          ∙ entries_numbered old.rows m old.entries numbered none.count ∙ sym none.all;
      held = held ∙ sym none.held;
      room =
          released.room
          ∙ ap (λ r. room_of old.room.log old.room.head (sectors_from old.room.log new.commits.body.tail.position
          old.room.head r)) rows
          ∙ ap (λ p. room_of old.room.log old.room.head (sectors_from old.room.log p old.room.head (all_rows old))) position
          ∙ ap (room_of old.room.log old.room.head) (sym is.used);
      start = same.start;
      first = same.first;
    }
