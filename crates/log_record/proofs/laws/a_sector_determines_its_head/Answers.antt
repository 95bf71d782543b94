use Rattle.log_record.proofs.TestLemmas.{determines_head}
use Rattle.log_record.proofs.laws.a_sector_determines_its_head.Goals as goal

pub returns : goal.returns
returns c = determines_head
