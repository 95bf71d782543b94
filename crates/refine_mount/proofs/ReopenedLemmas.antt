-- A log that was opened, trimmed and committed again shows a log with such a commit, also where it has no entry left.
use Rattle.std.proofs.Common.{◌≡◌, ℕ, ◌+◌, ◌-◌, ◌≤◌, IsTrue, max, List, [], ◌++◌, length, drop, refl, sym, ◌∙◌, ap, subst, inl}
use Rattle.std.proofs.Common.{inr, arith}
use Rattle.std.specs.Prelude.{None}
use Rattle.std.proofs.lemmas.Bool.{cases_lt}
use Rattle.std.proofs.lemmas.Bool.Decides.{nat_tests}
use Rattle.std.proofs.lemmas.List.{take_all, drop_all}
use Rattle.lsvd_base.specs.declared.geometry.Geometry.{Geometry}
use Rattle.lsvd_base.specs.Limits.{is_within_limits}
use Rattle.log_room.specs.Room.{room_of}
use Rattle.commit_body.specs.declared.body.CommitBody.{CommitBody}
use Rattle.commit_body.specs.declared.body.Mark.{Mark}
use Rattle.commit_body.specs.Body.{MayStand}
use Rattle.commit_slot.specs.Commits.{CommitsState, IsMade}
use Rattle.cache_log.specs.declared.row.Row.{Row}
use Rattle.cache_log.specs.Rows.{since}
use Rattle.cache_log.specs.Log.{LogState, IsTrimmed, all_rows, start_of}
use Rattle.cache_log.specs.Opening.{IsOpenedLog}
use Rattle.cache_log.specs.Committed.{body_of, sectors_from, HasSameList, IsReleased}
use Rattle.plain_disk.specs.declared.log.PlainRecord.{PlainRecord}
use Rattle.plain_disk.specs.Log.{PlainLog, point, empty_commit, place_of_first, past_pad}
use Rattle.refine_log.specs.Shows.{records_of_rows, ShowsLog}
use Rattle.refine_log.proofs.Following.{records_count}
use Rattle.refine_log.proofs.Lists.{none_since}
use Rattle.refine_log.proofs.Shown.{AreShownAlike, shown_alike}
use Rattle.refine_mount.specs.Mounted.{log_found, committed_at}
use Rattle.refine_mount.specs.Laws.{ReopenedShowsLog}
use Rattle.refine_mount.proofs.FoundLemmas.{opened_shows_log, committed_shows_log}

-- ---- the plain log

-- a log with no records, and a commit at its head, the next entry of which has this seq
abbrev ended : (size position seq : ℕ) → PlainLog
ended size position seq = record {
  size = size;
  head = position;
  last = empty_commit seq position;
  records = [];
  unfinished = None;
}

-- so it is once a commit was made from a seq on that is past all records
committed_past : (log : ℕ) (body : CommitBody) (rows : List Row) (seq : ℕ) → body.tail.seq + length rows ≤ seq
    → committed_at seq (log_found log body rows) ≡ ended log body.head.position seq
committed_past log body rows seq past =
    let records : List PlainRecord = records_of_rows log body.tail.position rows in
    let head : ℕ = body.head.position in
    let count = records_count rows log body.tail.position in
    let none : drop (seq - body.tail.seq) records ≡ [] = drop_all (seq - body.tail.seq) records (omega (arith, count, past)) in
    let most : max seq (body.tail.seq + length records) ≡ seq = omega (arith, count, past) in
    λ i. record {
      size = log;
      head = head;
      last = record { tail = point seq (place_of_first head (none i)); head = point (most i) head };
      records = past_pad (place_of_first head (none i)) (none i);
      unfinished = None;
    }

-- ---- the log on the cache

-- a log with no entry, and a commit at its head
abbrev emptied_as : (log : ℕ) → CommitBody → Mark → LogState → LogState
emptied_as log body mark of = record of {
  room = room_of log mark.position 0;
  held = [];
  rows = [];
  start = mark.position;
  first = mark.seq;
  commits = record of.commits { body = record body { tail = mark; head = mark }; unfinished = None };
}

emptied_shows : (geometry : Geometry) (body : CommitBody) (seq : ℕ) (of : LogState) → IsTrue (is_within_limits geometry)
    → MayStand body geometry.log
    → ShowsLog (emptied_as geometry.log body (point seq body.head.position) of) (ended geometry.log body.head.position seq)
emptied_shows geometry body seq of limits may = record {
  room = refl;
  last = refl;
  unfinished = refl;
  records = refl;
  is_room = record { limit = grind (arith, nat_tests); head = may.head_inside; used = omega arith };
  from = may.head_inside;
  follow = refl;
  end = refl;
  numbered = tt;
  counted = omega arith;
  start = refl;
  order = tt;
  stands = tt;
}

module _ (geometry : Geometry) (commits : CommitsState) (opened trimmed new : LogState) (seq : ℕ)
    (is : IsOpenedLog geometry commits opened)
    (cut : IsTrimmed seq opened trimmed) (past : commits.body.head.seq ≤ seq) where
  first_is : trimmed.first ≡ seq
  first_is =
      let first = cut.first in
      let seqs = is.rows.seqs in
      let own = is.first in
      omega (arith, first, seqs, own, past)

  -- all its records are held, and none is listed
  all_past : length opened.rows ≤ seq - opened.first
  all_past =
      let seqs = is.rows.seqs in
      let own = is.first in
      omega (arith, seqs, own, past)

  none_listed : trimmed.rows ≡ []
  none_listed = cut.rows ∙ drop_all (seq - opened.first) opened.rows all_past

  all_held : trimmed.held ≡ opened.rows
  all_held = cut.held ∙ (λ i. is.held i ++ take_all (seq - opened.first) opened.rows all_past i)

  position_is : trimmed.start ≡ commits.body.head.position
  position_is = cut.start ∙ ap (start_of opened.room.head) none_listed ∙ ap (λ room. room.head) is.room

  head_is : trimmed.room.head ≡ commits.body.head.position
  head_is = ap (λ room. room.head) (cut.room ∙ is.room)

  body_is : body_of trimmed ≡ record commits.body {
    tail = point seq commits.body.head.position;
    head = point seq commits.body.head.position;
  }
  body_is =
      let own = ap (λ c. c.body) cut.commits ∙ is.only.same.same_body in
      let next = first_is in
      let count = ap length none_listed in
      let last : trimmed.first + length trimmed.rows ≡ seq = omega (arith, next, count) in
      λ i. record (own i) { tail = point (first_is i) (position_is i); head = point (last i) (head_is i) }

  -- what a commit leaves of it
  module _ (same : HasSameList trimmed new) (released : IsReleased trimmed new)
      (made : IsMade (body_of trimmed) trimmed.commits new.commits) where
    none_held : new.held ≡ []
    none_held =
        let seqs = is.rows.seqs in
        let from : new.commits.body.tail.seq ≡ seq = ap (λ b. b.tail.seq) (made.same_body ∙ body_is) in
        released.held
        ∙ (λ i. since (from i) (all_held i))
        ∙ none_since opened.rows seq commits.body.tail.seq is.rows.numbered (omega (arith, seqs, past))

    none_left : all_rows new ≡ []
    none_left =
        let listed = same.rows ∙ none_listed in
        λ i. none_held i ++ listed i

    emptied_alike : AreShownAlike (emptied_as geometry.log commits.body (point seq commits.body.head.position) new) new
    emptied_alike = record {
      room =
          released.room
          ∙ ap
          (λ rows. room_of trimmed.room.log trimmed.room.head (sectors_from trimmed.room.log new.commits.body.tail.position
          trimmed.room.head rows))
          none_left
          ∙ ap (λ room. room_of room.log room.head 0) (cut.room ∙ is.room);
      held = none_held;
      rows = same.rows ∙ none_listed;
      start = same.start ∙ position_is;
      first = same.first ∙ first_is;
      body = made.same_body ∙ body_is;
      unfinished = made.same_unfinished;
    }

    ended_shows : IsTrue (is_within_limits geometry) → MayStand commits.body geometry.log
        → ShowsLog new (committed_at trimmed.first (log_found geometry.log commits.body opened.rows))
    ended_shows limits may =
        let seqs = is.rows.seqs in
        let plain : committed_at trimmed.first (log_found geometry.log commits.body opened.rows) ≡ ended geometry.log
        commits.body.head.position seq =
        ap (λ s. committed_at s (log_found geometry.log commits.body opened.rows)) first_is
        ∙ committed_past geometry.log commits.body opened.rows seq (omega (arith, seqs, past)) in
        subst (ShowsLog new) (sym plain)
        (shown_alike (emptied_as geometry.log commits.body (point seq commits.body.head.position) new) new
        (ended geometry.log commits.body.head.position seq)
        emptied_alike
        (emptied_shows geometry commits.body seq new limits may))

pub reopened_shows_log : ReopenedShowsLog
reopened_shows_log geometry commits opened trimmed new seq limits may none is cut same released made =
    elim (cases_lt commits.body.head.seq seq) [
      | inl past ↦ ended_shows geometry commits opened trimmed new seq is cut (omega (arith, past)) same released made limits may
      | inr before ↦
          committed_shows_log trimmed new (log_found geometry.log commits.body opened.rows)
          (opened_shows_log geometry commits opened trimmed seq limits may none before is cut)
          refl same released made
    ]
