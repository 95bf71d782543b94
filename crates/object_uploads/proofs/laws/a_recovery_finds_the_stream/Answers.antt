use Rattle.object_uploads.proofs.RecoveryLemmas.{recovery_finds_stream}
use Rattle.object_uploads.proofs.laws.a_recovery_finds_the_stream.Goals as goal

pub returns : goal.returns
returns c = recovery_finds_stream
