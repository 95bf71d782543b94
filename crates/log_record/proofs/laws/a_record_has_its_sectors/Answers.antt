use Rattle.log_record.proofs.RecordLemmas.{has_its_sectors}
use Rattle.log_record.proofs.laws.a_record_has_its_sectors.Goals as goal

pub returns : goal.returns
returns c = has_its_sectors
