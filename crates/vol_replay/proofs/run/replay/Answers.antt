use Rattle.vol_replay.proofs.Results.{nothing_for_source, written_for_source}
use Rattle.vol_replay.proofs.run.replay.Goals as goal

pub returns-in-Ok-clause-transcript : goal.returns-in-Ok-clause-transcript
returns-in-Ok-clause-transcript g c =
    let written = rw c.as_slice.ensures.value at c.run_script.ensures.transcript in
    written_for_source _ _ _ _ c.in-Ok.script.items c.run_script.result c.in-Ok.ensures.bytes c.in-Ok.ensures.end written

pub returns-in-Err-Failed-clause-transcript : goal.returns-in-Err-Failed-clause-transcript
returns-in-Err-Failed-clause-transcript g c = nothing_for_source _ _

pub returns-in-Err-OutOfMemory-clause-transcript : goal.returns-in-Err-OutOfMemory-clause-transcript
returns-in-Err-OutOfMemory-clause-transcript g c = nothing_for_source _ _
