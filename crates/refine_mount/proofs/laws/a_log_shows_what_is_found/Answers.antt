use Rattle.refine_mount.proofs.FoundLemmas.{opened_shows_log, committed_shows_log}
use Rattle.refine_mount.proofs.ReopenedLemmas.{reopened_shows_log}
use Rattle.refine_mount.proofs.OpenedLemmas.{opened_has_committed, added_are_logged}
use Rattle.refine_mount.proofs.laws.a_log_shows_what_is_found.Goals as goal

pub returns : goal.returns
returns c = record {
  opened = opened_shows_log;
  committed = committed_shows_log;
  reopened = reopened_shows_log;
  own = opened_has_committed;
  logged = added_are_logged;
}
