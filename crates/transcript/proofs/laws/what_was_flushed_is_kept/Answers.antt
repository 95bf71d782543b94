use Rattle.transcript.proofs.Reached.{reached_keeps}
use Rattle.transcript.proofs.laws.what_was_flushed_is_kept.Goals as goal

pub returns : goal.returns
returns c = reached_keeps
