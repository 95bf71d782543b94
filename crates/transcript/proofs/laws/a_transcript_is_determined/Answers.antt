use Rattle.transcript.proofs.Determined.{determined}
use Rattle.transcript.proofs.laws.a_transcript_is_determined.Goals as goal

pub returns : goal.returns
returns c = determined
