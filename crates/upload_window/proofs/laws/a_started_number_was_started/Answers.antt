use Rattle.upload_window.proofs.Starts.{started_were}
use Rattle.upload_window.proofs.laws.a_started_number_was_started.Goals as goal

pub returns : goal.returns
returns c = started_were
