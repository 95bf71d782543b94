use Rattle.log_record.proofs.RecordLemmas.{determines_entry}
use Rattle.log_record.proofs.laws.a_record_determines_its_entry.Goals as goal

pub returns : goal.returns
returns c = determines_entry
