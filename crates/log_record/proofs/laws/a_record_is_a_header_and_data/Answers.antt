use Rattle.log_record.proofs.RecordLemmas.{is_header_and_data}
use Rattle.log_record.proofs.laws.a_record_is_a_header_and_data.Goals as goal

pub returns : goal.returns
returns c = is_header_and_data
