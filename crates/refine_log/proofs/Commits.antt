-- A commit of a log, that was made or failed, does what a commit of the plain cache does.
use Rattle.std.proofs.Common.{◌≡◌, ℕ, ◌+◌, ◌-◌, ◌≤◌, Bool, true, false, max, List, [], ◌∷◌, ◌++◌, length, drop, refl, sym, ◌∙◌}
use Rattle.std.proofs.Common.{ap, subst, inl, inr, arith, length-append}
use Rattle.std.specs.Prelude.{Option, Some, None, IfSome, option_map}
use Rattle.std.proofs.lemmas.List.{drop_at}
use Rattle.commit_body.specs.declared.body.CommitBody.{CommitBody}
use Rattle.commit_body.specs.declared.body.Mark.{Mark}
use Rattle.commit_slot.specs.Commits.{IsAsBefore, IsFinished, IsBegun, IsMade, finished_body}
use Rattle.log_room.specs.Room.{room_of}
use Rattle.lsvd_device.specs.Calls.{passes}
use Rattle.cache_log.specs.declared.row.Row.{Row}
use Rattle.cache_log.specs.Rows.{end_of_rows, since}
use Rattle.cache_log.specs.Log.{LogState, all_rows, next_seq, start_of}
use Rattle.cache_log.specs.Committed.{body_of, sectors_from, HasSameList, IsReleased}
use Rattle.plain_disk.specs.declared.log.PlainRecord.{PlainRecord}
use Rattle.plain_disk.specs.Log.{PlainLog, point, place_of_first, records_from, commit_from, past_pad, with_commit}
use Rattle.plain_disk.specs.Cache.{PlainCache, passes_commit}
use Rattle.refine_log.specs.Shows.{commit_of, records_of_rows, StandsAt, ShowsLog}
use Rattle.refine_log.specs.Fuses.{calls_to_finish}
use Rattle.refine_log.specs.Laws.{CommitShowsCommit}
use Rattle.refine_log.proofs.Following.{reach_used, records_behind, records_count}
use Rattle.refine_log.proofs.Lists.{released_room, released, next_mark, numbered_first, none_since, all_since}
use Rattle.refine_log.proofs.Shown.{list_of, shows_of, AreShownAlike, shown_alike}
use Rattle.refine_log.proofs.PlainCommits.{calls_before, finished_log, log_made, log_begun, commit_made, commit_begun}
use Rattle.refine_log.proofs.PlainCommits.{commit_finished, commit_stopped, calls_of_commit, stops_later}

-- ---- the log once the records before a commit's tail are released

abbrev released_with : CommitBody → Option CommitBody → LogState → LogState
released_with body unfinished log = record log {
  held = since body.tail.seq log.held;
  room = released_room log.room body.tail (since body.tail.seq log.held ++ log.rows);
  commits = record log.commits { body = body; unfinished = unfinished };
}

released_shows : (log : LogState) (plain : PlainLog) (body : CommitBody) → ShowsLog log plain
    → log.commits.body.tail.seq ≤ body.tail.seq
    → body.tail.seq ≤ log.first → StandsAt log body
    → ShowsLog (released_with body None log) (with_commit (commit_of body) plain)
released_shows log plain body is order most stands =
    let is_to = released log.room log.commits.body.tail body.tail log.held log.rows log.start log.first (list_of log plain is)
    order most stands in
    shows_of (released_with body None log) (with_commit (commit_of body) plain) is_to.list
    (ap (λ r. r.log) is.room)
    (ap (λ r. r.head) is.room)
    refl
    (ap (λ c. past_pad body.tail.position (drop (body.tail.seq - c.tail.seq) plain.records)) is.last
    ∙ ap (λ l. past_pad body.tail.position (drop (body.tail.seq - log.commits.body.tail.seq) l)) is.records
    ∙ is_to.records)
    (record { same = refl; order = tt; stands = tt })

-- a log of which nothing is released
own_released : (log : LogState) (plain : PlainLog) → ShowsLog log plain
    → AreShownAlike log (released_with log.commits.body log.commits.unfinished log)
own_released log plain is =
    let list = list_of log plain is in
    let tail : Mark = log.commits.body.tail in
    let held : since tail.seq log.held ≡ log.held =
    all_since log.held tail.seq (numbered_first log.held log.rows tail.seq is.numbered) in
    record {
      room =
          ap (λ h. released_room log.room tail (h ++ log.rows)) held
          ∙ ap (room_of log.room.log log.room.head)
          (sym (reach_used (all_rows log) log.room.log tail.position log.room.used log.room.head list.reach));
      held = held;
      rows = refl;
      start = refl;
      first = refl;
      body = refl;
      unfinished = refl;
    }

-- what a commit leaves is a log of which was released what is before the tail of its last commit
new_alike : (old new : LogState) (body : CommitBody) (unfinished : Option CommitBody) → HasSameList old new → IsReleased old new
    → new.commits.body ≡ body → new.commits.unfinished ≡ unfinished
    → AreShownAlike (released_with body unfinished old) new
new_alike old new body unfinished same released is left =
    let held : new.held ≡ since body.tail.seq old.held = released.held ∙ ap (λ b. since b.tail.seq old.held) is in
    let all : all_rows new ≡ since body.tail.seq old.held ++ old.rows =
    ap (λ h. h ++ new.rows) held ∙ ap (λ r. since body.tail.seq old.held ++ r) same.rows in
    record {
      room =
          released.room
          ∙ ap (λ b. room_of old.room.log old.room.head (sectors_from old.room.log b.tail.position old.room.head (all_rows new)))
          is
          ∙ ap (released_room old.room body.tail) all;
      held = held;
      rows = same.rows;
      start = same.start;
      first = same.first;
      body = is;
      unfinished = left;
    }

-- ---- the next commit

pub place_is : (rows : List Row) (log from head : ℕ) → place_of_first head (records_of_rows log from rows) ≡ start_of head rows
place_is [] log from head = refl
place_is (row ∷ rows) log from head = refl

-- the records of the list's entries are those from its first one on
records_of_list : (log : LogState) (plain : PlainLog) → ShowsLog log plain
    → records_from plain log.first ≡ records_of_rows log.room.log (end_of_rows log.room.log log.commits.body.tail.position
    log.held) log.rows
records_of_list log plain is =
    let tail : Mark = log.commits.body.tail in
    let counted = is.counted in
    let held : List PlainRecord = records_of_rows log.room.log tail.position log.held in
    let rest : List PlainRecord = records_of_rows log.room.log (end_of_rows log.room.log tail.position log.held) log.rows in
    let count = records_count log.held log.room.log tail.position in
    ap (λ c. drop (log.first - c.tail.seq) plain.records) is.last
    ∙ ap (drop (log.first - tail.seq)) (is.records ∙ records_behind log.held log.rows log.room.log tail.position)
    ∙ drop_at held rest (log.first - tail.seq) (omega (arith, count, counted))

pub next_commit : (log : LogState) (plain : PlainLog) → ShowsLog log plain → commit_from log.first plain ≡ commit_of (body_of log)
next_commit log plain is =
    let tail : Mark = log.commits.body.tail in
    let head : plain.head ≡ log.room.head = ap (λ r. r.head) is.room in
    let counted = is.counted in
    let long = length-append log.held log.rows in
    let count : length plain.records ≡ length (all_rows log) = ap length is.records
    ∙ records_count (all_rows log) log.room.log tail.position in
    let last : plain.last.tail.seq ≡ tail.seq = ap (λ c. c.tail.seq) is.last in
    let seq : max log.first (plain.last.tail.seq + length plain.records) ≡ next_seq log =
    omega (arith, counted, long, count, last) in
    let place : place_of_first plain.head (records_from plain log.first) ≡ log.start =
    ap (λ h. place_of_first h (records_from plain log.first)) head
    ∙ ap (place_of_first log.room.head) (records_of_list log plain is)
    ∙ place_is log.rows log.room.log (end_of_rows log.room.log tail.position log.held) log.room.head
    ∙ sym is.start in
    λ i. record { tail = point log.first (place i); head = point (seq i) (head i) }

-- a log whose next commit was begun
begun_shows : (log : LogState) (plain : PlainLog) (body : CommitBody) → ShowsLog log plain
    → commit_of body ≡ commit_of (body_of log)
    → ShowsLog (record log { commits = record log.commits { unfinished = Some body } }) (log_begun log.first plain)
begun_shows log plain body is same =
    let counted = is.counted in
    let tail : body.tail ≡ record { position = log.start; seq = log.first } = ap (λ c. c.tail) same in
    let seq : body.tail.seq ≡ log.first = ap (λ m. m.seq) tail in
    let begun : LogState = record log { commits = record log.commits { unfinished = Some body } } in
    let at : body.tail.position ≡ start_of log.room.head (drop (body.tail.seq - log.commits.body.tail.seq) (all_rows log)) =
    ap (λ m. m.position) tail
    ∙ next_mark log.room log.commits.body.tail log.held log.rows log.start log.first (list_of log plain is)
    ∙ ap (λ s. start_of log.room.head (drop (s - log.commits.body.tail.seq) (all_rows log))) (sym seq) in
    shows_of begun (log_begun log.first plain) (list_of log plain is)
    (ap (λ r. r.log) is.room)
    (ap (λ r. r.head) is.room)
    is.last
    is.records
    (record {
      same = ap Some (next_commit log plain is ∙ sym same);
      order = (omega (arith, counted, seq), omega (arith, seq));
      stands = inl at;
    })

-- ---- the unfinished commit first

-- the log once its unfinished commit is finished, where it has one
abbrev finished : LogState → LogState
finished log = released_with (finished_body log.commits.body log.commits.unfinished) None log

none_finished : (log : LogState) (plain : PlainLog) → ShowsLog log plain → log.commits.unfinished ≡ None
    → ShowsLog (released_with log.commits.body None log) plain
none_finished log plain is none =
    let own = own_released log plain is in
    shown_alike log (released_with log.commits.body None log) plain
    (record { room = own.room; held = own.held; rows = refl; start = refl; first = refl; body = refl; unfinished = sym none }) is

finished_shows_in : (unfinished : Option CommitBody) (log : LogState) (plain : PlainLog) → ShowsLog log plain
    → log.commits.unfinished ≡ unfinished
    → ShowsLog (released_with (finished_body log.commits.body unfinished) None log)
    (finished_log (option_map commit_of unfinished) plain)
finished_shows_in None log plain is same = none_finished log plain is same
finished_shows_in (Some body) log plain is same =
    let order = subst (λ u. IfSome u (λ b. (log.commits.body.tail.seq ≤ b.tail.seq) × (b.tail.seq ≤ log.first))) same is.order in
    released_shows log plain body is order.0 order.1 (subst (λ u. IfSome u (StandsAt log)) same is.stands)

finished_shows : (log : LogState) (plain : PlainLog) → ShowsLog log plain
    → ShowsLog (finished log) (finished_log plain.unfinished plain)
finished_shows log plain is =
    subst (λ u. ShowsLog (finished log) (finished_log u plain)) (sym is.unfinished)
    (finished_shows_in log.commits.unfinished log plain is refl)

-- and the next one made on it, which holds none of the records before its list
made_alike : (log : LogState) (plain : PlainLog) (body : CommitBody) → ShowsLog log plain
    → ShowsLog (finished log) (finished_log plain.unfinished plain) → body.tail.seq ≡ log.first
    → AreShownAlike (released_with body None (finished log)) (released_with body None log)
made_alike log plain body is then seq =
    let counted = is.counted in
    let counted_then = then.counted in
    let middle : LogState = finished log in
    let numbered = numbered_first log.held log.rows log.commits.body.tail.seq is.numbered in
    let numbered_then = numbered_first middle.held middle.rows middle.commits.body.tail.seq then.numbered in
    let none : since body.tail.seq log.held ≡ [] =
    none_since log.held body.tail.seq log.commits.body.tail.seq numbered (omega (arith, counted, seq)) in
    let none_then : since body.tail.seq middle.held ≡ [] =
    none_since middle.held body.tail.seq middle.commits.body.tail.seq numbered_then (omega (arith, counted_then, seq)) in
    let held : since body.tail.seq log.held ≡ since body.tail.seq middle.held = none ∙ sym none_then in
    record {
      room = ap (λ h. released_room log.room body.tail (h ++ log.rows)) held;
      held = held;
      rows = refl;
      start = refl;
      first = refl;
      body = refl;
      unfinished = refl;
    }

made_shows : (log : LogState) (plain : PlainLog) → ShowsLog log plain
    → ShowsLog (released_with (body_of log) None log) (log_made log.first (finished_log plain.unfinished plain))
made_shows log plain is =
    let then = finished_shows log plain is in
    let middle : LogState = finished log in
    let ready : PlainLog = finished_log plain.unfinished plain in
    let counted = then.counted in
    let stands = next_mark middle.room middle.commits.body.tail middle.held middle.rows middle.start middle.first
    (list_of middle ready then) in
    subst (λ c. ShowsLog (released_with (body_of log) None log) (with_commit c ready)) (sym (next_commit middle ready then))
    (shown_alike (released_with (body_of log) None middle) (released_with (body_of log) None log)
    (with_commit (commit_of (body_of log)) ready)
    (made_alike log plain (body_of log) is then refl)
    (released_shows middle ready (body_of log) then (omega (arith, counted)) (omega arith) (inl stands)))

-- ---- how far a commit got

module _ (old new : LogState) (plain : PlainLog) (is : ShowsLog old plain) (same : HasSameList old new)
    (released : IsReleased old new) where
  as_before_shows : IsAsBefore old.commits new.commits → ShowsLog new plain
  as_before_shows at =
      shown_alike (released_with old.commits.body old.commits.unfinished old) new plain
      (new_alike old new old.commits.body old.commits.unfinished same released at.same_body at.same_unfinished)
      (shown_alike old (released_with old.commits.body old.commits.unfinished old) plain (own_released old plain is) is)

  finished_shows_new : IsFinished old.commits new.commits → ShowsLog new (finished_log plain.unfinished plain)
  finished_shows_new at =
      shown_alike (finished old) new (finished_log plain.unfinished plain)
      (new_alike old new (finished_body old.commits.body old.commits.unfinished) None same released at.same_body
      at.same_unfinished)
      (finished_shows old plain is)

  begun_shows_new : IsBegun (body_of old) old.commits new.commits
      → ShowsLog new (log_begun old.first (finished_log plain.unfinished plain))
  begun_shows_new at =
      let body : CommitBody = finished_body old.commits.body old.commits.unfinished in
      shown_alike (released_with body (Some (body_of old)) old) new (log_begun old.first (finished_log plain.unfinished plain))
      (new_alike old new body (Some (body_of old)) same released at.same_body at.same_unfinished)
      (begun_shows (finished old) (finished_log plain.unfinished plain) (body_of old) (finished_shows old plain is) refl)

  made_shows_new : IsMade (body_of old) old.commits new.commits
      → ShowsLog new (log_made old.first (finished_log plain.unfinished plain))
  made_shows_new at =
      shown_alike (released_with (body_of old) None old) new (log_made old.first (finished_log plain.unfinished plain))
      (new_alike old new (body_of old) None same released at.same_body at.same_unfinished)
      (made_shows old plain is)

-- ---- a commit

calls_same : (unfinished : Option CommitBody) → calls_to_finish unfinished ≡ calls_before (option_map commit_of unfinished)
calls_same None = refl
calls_same (Some body) = refl

-- what a fuse passes of the calls of a commit of the plain cache
plain_passes : (old : LogState) (cache : PlainCache) (n : ℕ) (b : Bool) → ShowsLog old cache.log
    → passes cache.left (calls_to_finish old.commits.unfinished + n) ≡ b
    → passes cache.left (calls_before cache.log.unfinished + n) ≡ b
plain_passes old cache n b is passed =
    ap (λ k. passes cache.left (k + n)) (ap calls_before is.unfinished ∙ sym (calls_same old.commits.unfinished)) ∙ passed

plain_first : (old : LogState) (cache : PlainCache) (b : Bool) → ShowsLog old cache.log
    → passes cache.left (calls_to_finish old.commits.unfinished) ≡ b
    → passes cache.left (calls_before cache.log.unfinished) ≡ b
plain_first old cache b is passed = ap (passes cache.left) (ap calls_before is.unfinished
    ∙ sym (calls_same old.commits.unfinished)) ∙ passed

-- the whole commit is passed exactly so
passed_whole : (cache : PlainCache) (b : Bool) → passes cache.left (calls_before cache.log.unfinished + 5) ≡ b
    → passes_commit cache ≡ b
passed_whole cache b passed = ap (passes cache.left) (sym (calls_of_commit cache.log.unfinished)) ∙ passed

pub commit_shows_commit : CommitShowsCommit
commit_shows_commit old new cache true is same released made lets =
    let passed = plain_passes old cache 5 true is lets in
    let then = commit_made old.first cache passed in (
      subst (ShowsLog new) (sym then.same_log) (made_shows_new old new cache.log is same released (made refl)),
      passed_whole cache
          true passed,
    )
commit_shows_commit old new cache false is same released made (inl (before, none)) =
    let stopped = plain_first old cache false is none in
    let then = commit_stopped old.first cache stopped in
    let n : ℕ = calls_before cache.log.unfinished in (
      subst (ShowsLog new) (sym then.same_log) (as_before_shows old new cache.log is same released before),
      passed_whole cache false (stops_later cache.left n (n + 5) (omega arith) stopped),
    )
commit_shows_commit old new cache false is same released made (inr (inl (at, first, none))) =
    let passed = plain_first old cache true is first in
    let stopped = plain_passes old cache 3 false is none in
    let then = commit_finished old.first cache passed stopped in
    let n : ℕ = calls_before cache.log.unfinished in (
      subst (ShowsLog new) (sym then.same_log) (finished_shows_new old new cache.log is same released at),
      passed_whole cache false (stops_later cache.left (n + 3) (n + 5) (omega arith) stopped),
    )
commit_shows_commit old new cache false is same released made (inr (inr (at, first, none))) =
    let passed = plain_passes old cache 3 true is first in
    let stopped = plain_passes old cache 5 false is none in
    let then = commit_begun old.first cache passed stopped in (
      subst (ShowsLog new) (sym then.same_log) (begun_shows_new old new cache.log is same released at),
      passed_whole cache
          false stopped,
    )
