use Rattle.log_record.proofs.RecordLemmas.{has_one_sector}
use Rattle.log_record.proofs.laws.a_header_has_one_sector.Goals as goal

pub returns : goal.returns
returns c = has_one_sector
