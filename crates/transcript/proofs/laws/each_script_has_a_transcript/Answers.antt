use Rattle.transcript.proofs.Existence.{transcript_of}
use Rattle.transcript.proofs.laws.each_script_has_a_transcript.Goals as goal

pub returns : goal.returns
returns c = transcript_of
