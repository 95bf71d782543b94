use Rattle.cache_log.proofs.RowLemmas.{are_read_again}
use Rattle.cache_log.proofs.laws.records_are_read_again.Goals as goal

pub returns : goal.returns
returns c = are_read_again
