-- A log that was opened and trimmed shows the log that is found on the device, and then, once it was committed again, that
-- commit.
use Rattle.std.proofs.Common.{◌≡◌, ℕ, true, IsTrue, [], refl, sym, ◌∙◌, ap, subst, arith}
use Rattle.std.specs.Prelude.{None}
use Rattle.std.proofs.lemmas.Bool.Decides.{nat_tests}
use Rattle.lsvd_base.specs.declared.geometry.Geometry.{Geometry}
use Rattle.lsvd_base.specs.Limits.{is_within_limits}
use Rattle.log_room.specs.Room.{room_of}
use Rattle.commit_body.specs.declared.body.CommitBody.{CommitBody}
use Rattle.commit_body.specs.Body.{MayStand}
use Rattle.commit_slot.specs.Commits.{CommitsState}
use Rattle.cache_log.specs.Log.{LogState, IsTrimmed, start_of}
use Rattle.cache_log.specs.Opening.{sectors_between, AreRowsOfLog, IsOpenedLog}
use Rattle.cache_log.proofs.RowLemmas.{between_most}
use Rattle.plain_disk.specs.Cache.{cache_with}
use Rattle.refine_log.specs.Shows.{ShowsLog}
use Rattle.refine_log.proofs.Following.{records_used}
use Rattle.refine_log.proofs.Shown.{trimmed_shows_same}
use Rattle.refine_log.proofs.PlainCommits.{finished_log, log_made, commit_made}
use Rattle.refine_log.proofs.Commits.{commit_shows_commit}
use Rattle.refine_mount.specs.Mounted.{log_found}
use Rattle.refine_mount.specs.Laws.{OpenedShowsLog, CommittedShowsLog}

-- ---- opened

-- an opened log whose next commit's tail stands at its first record
abbrev found_as : Geometry → CommitBody → LogState → LogState
found_as geometry body log = record log {
  room = room_of geometry.log body.head.position (sectors_between geometry.log body);
  held = [];
  start = start_of body.head.position log.rows;
  first = body.tail.seq;
  commits = record log.commits { body = body; unfinished = None };
}

found_shows : (geometry : Geometry) (body : CommitBody) (log : LogState) → IsTrue (is_within_limits geometry)
    → MayStand body geometry.log
    → AreRowsOfLog geometry body log.rows → ShowsLog (found_as geometry body log) (log_found geometry.log body log.rows)
found_shows geometry body log limits may are =
    let used = records_used log.rows geometry.log body.tail.position (sectors_between geometry.log body) are.follow in
    record {
      room = ap (room_of geometry.log body.head.position) used;
      last = refl;
      unfinished = refl;
      records = refl;
      is_room = record { limit = grind (arith, nat_tests); head = may.head_inside; used = between_most geometry.log body may };
      from = may.tail_inside;
      follow = are.follow;
      end = are.end;
      numbered = are.numbered;
      counted = omega arith;
      start = refl;
      order = tt;
      stands = tt;
    }

-- but for that tail, a log that was opened is that
found_is : (geometry : Geometry) (commits : CommitsState) (opened : LogState) → commits.unfinished ≡ None
    → IsOpenedLog geometry commits opened
    → found_as geometry commits.body opened ≡ record opened { start = start_of commits.body.head.position opened.rows }
found_is geometry commits opened none is =
    let same = is.only.same in
    let left = same.same_unfinished ∙ none in
    λ i. record opened {
      room = sym is.room i;
      held = sym is.held i;
      start = start_of commits.body.head.position opened.rows;
      first = sym is.first i;
      commits = record opened.commits { body = sym same.same_body i; unfinished = sym left i };
    }

-- and what was trimmed of the one was of the other
trimmed_from_found : (geometry : Geometry) (commits : CommitsState) (opened trimmed : LogState) (seq : ℕ)
    → commits.unfinished ≡ None
    → IsOpenedLog geometry commits opened → IsTrimmed seq opened trimmed
    → IsTrimmed seq (found_as geometry commits.body opened) trimmed
trimmed_from_found geometry commits opened trimmed seq none is cut =
    subst (λ log. IsTrimmed seq log trimmed) (sym (found_is geometry commits opened none is))
    (record {
      held = cut.held;
      rows = cut.rows;
      entries = cut.entries;
      all = cut.all;
      first = cut.first;
      start = cut.start;
      room = cut.room;
      commits = cut.commits;
      reserved = cut.reserved;
    })

pub opened_shows_log : OpenedShowsLog
opened_shows_log geometry commits opened trimmed seq limits may none most is cut =
    let seqs = is.rows.seqs in
    trimmed_shows_same (found_as geometry commits.body opened) trimmed (log_found geometry.log commits.body opened.rows) seq
    (found_shows geometry commits.body opened limits may is.rows) (omega (arith, seqs, most))
    (trimmed_from_found geometry commits opened trimmed seq none is cut)

-- ---- committed

pub committed_shows_log : CommittedShowsLog
committed_shows_log old new plain is none same released made =
    let shown = commit_shows_commit old new (cache_with plain) true is same released (λ _. made) refl in
    subst (ShowsLog new) ((commit_made old.first (cache_with plain) refl).same_log
    ∙ ap (λ u. log_made old.first (finished_log u plain)) none)
    shown.0
