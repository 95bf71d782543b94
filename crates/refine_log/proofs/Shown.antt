-- Logs that show a log of the plain volume: as before, trimmed, and just formatted.
use Rattle.std.proofs.Common.{◌≡◌, ℕ, ◌+◌, ◌-◌, ◌≤◌, List, [], ◌++◌, take, drop, refl, sym, ◌∙◌, ap, subst, arith, length-append}
use Rattle.std.proofs.Common.{append_assoc}
use Rattle.std.specs.Prelude.{Option, Some, None, IfSome, option_map}
use Rattle.std.proofs.lemmas.List.{take-append-drop, length-take-le}
use Rattle.commit_body.specs.declared.body.CommitBody.{CommitBody}
use Rattle.commit_body.specs.declared.body.Mark.{Mark}
use Rattle.log_room.specs.Room.{Room, room_of, empty_log}
use Rattle.cache_log.specs.declared.row.Row.{Row}
use Rattle.cache_log.specs.Rows.{Follow, end_of_rows, AreNumbered}
use Rattle.cache_log.specs.Log.{LogState, all_rows, next_seq, start_of}
use Rattle.cache_log.specs.Committed.{first_body}
use Rattle.plain_disk.specs.Log.{PlainLog, used_by, empty_from}
use Rattle.refine_log.specs.Shows.{commit_of, records_of_rows, StandsAt, ShowsLog}
use Rattle.refine_log.specs.Laws.{FormattedShowsEmpty, SameShowsSame, TrimmedShowsSame}
use Rattle.refine_log.proofs.Following.{records_used}
use Rattle.refine_log.proofs.Lists.{ShowsList, StandsIn}

-- ---- the list of a log that is shown

abbrev pub ListOf : LogState → Type 0
ListOf log = ShowsList log.room log.commits.body.tail log.held log.rows log.start log.first

pub list_of : (log : LogState) (plain : PlainLog) → ShowsLog log plain → ListOf log
list_of log plain is = record {
  is_room = is.is_room;
  reach = record { inside = is.from; most = is.is_room.used; follow = is.follow; end = is.end };
  numbered = is.numbered;
  counted = is.counted;
  begins = is.start;
}

-- the unfinished commit of a log is one of its list
pub record IsUnfinishedOf (log : LogState) (plain : PlainLog) : Type 0 where
  pub same : plain.unfinished ≡ option_map commit_of log.commits.unfinished
  pub order : IfSome log.commits.unfinished (λ body. (log.commits.body.tail.seq ≤ body.tail.seq) × (body.tail.seq ≤ log.first))
  pub stands : IfSome log.commits.unfinished (StandsAt log)

pub shows_of : (log : LogState) (plain : PlainLog) → ListOf log → plain.size ≡ log.room.log → plain.head ≡ log.room.head
    → plain.last ≡ commit_of log.commits.body
    → plain.records ≡ records_of_rows log.room.log log.commits.body.tail.position (all_rows log) → IsUnfinishedOf log plain
    → ShowsLog log plain
shows_of log plain list size head last records unfinished =
    let reach = list.reach in
    let used : used_by plain.records ≡ log.room.used =
    ap used_by records ∙ records_used (all_rows log) log.room.log log.commits.body.tail.position log.room.used reach.follow in
    record {
      room = λ i. room_of (size i) (head i) (used i);
      last = last;
      unfinished = unfinished.same;
      records = records;
      is_room = list.is_room;
      from = reach.inside;
      follow = reach.follow;
      end = reach.end;
      numbered = list.numbered;
      counted = list.counted;
      start = list.begins;
      order = unfinished.order;
      stands = unfinished.stands;
    }

-- ---- as before

-- all that is shown of two logs is the same
pub record AreShownAlike (old new : LogState) : Type 0 where
  pub room : new.room ≡ old.room
  pub held : new.held ≡ old.held
  pub rows : new.rows ≡ old.rows
  pub start : new.start ≡ old.start
  pub first : new.first ≡ old.first
  pub body : new.commits.body ≡ old.commits.body
  pub unfinished : new.commits.unfinished ≡ old.commits.unfinished

-- the one log with all that is shown of the other
abbrev shown_as : (old new : LogState) → LogState
shown_as old new = record new {
  room = old.room;
  held = old.held;
  rows = old.rows;
  start = old.start;
  first = old.first;
  commits = record new.commits { body = old.commits.body; unfinished = old.commits.unfinished };
}

alike_is : (old new : LogState) → AreShownAlike old new → shown_as old new ≡ new
alike_is old new alike = λ i. record new {
  room = sym alike.room i;
  held = sym alike.held i;
  rows = sym alike.rows i;
  start = sym alike.start i;
  first = sym alike.first i;
  commits = record new.commits { body = sym alike.body i; unfinished = sym alike.unfinished i };
}

pub shown_alike : (old new : LogState) (plain : PlainLog) → AreShownAlike old new → ShowsLog old plain → ShowsLog new plain
shown_alike old new plain alike is =
    subst (λ log. ShowsLog log plain) (alike_is old new alike)
    (record {
      room = is.room;
      last = is.last;
      unfinished = is.unfinished;
      records = is.records;
      is_room = is.is_room;
      from = is.from;
      follow = is.follow;
      end = is.end;
      numbered = is.numbered;
      counted = is.counted;
      start = is.start;
      order = is.order;
      stands = is.stands;
    })

pub same_shows_same : SameShowsSame
same_shows_same old new plain is same commits =
    shown_alike old new plain
    (record {
      room = same.room;
      held = same.held;
      rows = same.rows;
      start = same.start;
      first = same.first;
      body = commits.same_body;
      unfinished = commits.same_unfinished;
    })
    is

-- ---- an unfinished commit

pub some_as : {A : Type 0} (P Q : A → Type 0) (o : Option A) → ((x : A) → P x → Q x) → IfSome o P → IfSome o Q
some_as P Q None follows holds = tt
some_as P Q (Some x) follows holds = follows x holds

-- the tail of a commit is not before the last one's, and not past the list's first entry
abbrev pub IsOrdered : (tail : Mark) → (first : ℕ) → CommitBody → Type 0
IsOrdered tail first body = (tail.seq ≤ body.tail.seq) × (body.tail.seq ≤ first)

-- and it stands in these rows
abbrev pub TailStandsIn : Room → (tail : Mark) → List Row → CommitBody → Type 0
TailStandsIn room tail rows body = StandsIn room tail rows body.tail

-- ---- trimmed

-- the log once the first entries were dropped
abbrev trimmed_log : (seq : ℕ) → LogState → LogState
trimmed_log seq log = record log {
  held = log.held ++ take (seq - log.first) log.rows;
  rows = drop (seq - log.first) log.rows;
  start = start_of log.room.head (drop (seq - log.first) log.rows);
  first = log.first + (seq - log.first);
}

trimmed_shows : (log : LogState) (plain : PlainLog) (seq : ℕ) → ShowsLog log plain → seq ≤ next_seq log
    → ShowsLog (trimmed_log seq log) plain
trimmed_shows log plain seq is below =
    let k : ℕ = seq - log.first in
    let room : Room = log.room in
    let tail : Mark = log.commits.body.tail in
    let whole : all_rows log ≡ all_rows (trimmed_log seq log) =
    ap (λ l. log.held ++ l) (sym (take-append-drop k log.rows))
    ∙ sym (append_assoc log.held (take k log.rows) (drop k log.rows)) in
    let counted = is.counted in
    let long = length-append log.held (take k log.rows) in
    let count = length-take-le k log.rows (omega (arith, below)) in
    record {
      room = is.room;
      last = is.last;
      unfinished = is.unfinished;
      records = is.records ∙ ap (records_of_rows room.log tail.position) whole;
      is_room = is.is_room;
      from = is.from;
      follow = subst (Follow room.log tail.position room.used) whole is.follow;
      end = ap (end_of_rows room.log tail.position) (sym whole) ∙ is.end;
      numbered = subst (AreNumbered tail.seq) whole is.numbered;
      counted = omega (arith, counted, long, count);
      start = refl;
      order =
          some_as (IsOrdered tail log.first) (IsOrdered tail (log.first + k)) log.commits.unfinished
          (λ body order. (order.0, (let most = order.1 in omega (arith, most)))) is.order;
      stands = subst (λ l. IfSome log.commits.unfinished (TailStandsIn room tail l)) whole is.stands;
    }

pub trimmed_shows_same : TrimmedShowsSame
trimmed_shows_same old new plain seq is below trimmed =
    shown_alike (trimmed_log seq old) new plain
    (record {
      room = trimmed.room;
      held = trimmed.held;
      rows = trimmed.rows;
      start = trimmed.start ∙ ap (start_of old.room.head) trimmed.rows;
      first = trimmed.first;
      body = ap (λ c. c.body) trimmed.commits;
      unfinished = ap (λ c. c.unfinished) trimmed.commits;
    })
    (trimmed_shows old plain seq is below)

-- ---- just formatted

pub formatted_shows_empty : FormattedShowsEmpty
formatted_shows_empty uuid epoch first old log some most is =
    let body : CommitBody = first_body uuid epoch first in
    let empty : LogState = record log {
      room = empty_log log.room.log;
      held = [];
      rows = [];
      start = 0;
      first = first;
      commits = record log.commits { body = body; unfinished = None };
    } in
    shown_alike empty log (empty_from log.room.log first)
    (record {
      room = is.room ∙ ap empty_log (sym (ap (λ r. r.log) is.room));
      held = is.held;
      rows = is.rows;
      start = is.start;
      first = is.first;
      body = is.commits.same_body;
      unfinished = is.commits.same_unfinished;
    })
    (record {
      room = refl;
      last = refl;
      unfinished = refl;
      records = refl;
      is_room = record { limit = most; head = some; used = omega arith };
      from = some;
      follow = refl;
      end = refl;
      numbered = tt;
      counted = omega arith;
      start = refl;
      order = tt;
      stands = tt;
    })
