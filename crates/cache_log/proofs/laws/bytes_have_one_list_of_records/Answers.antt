use Rattle.cache_log.proofs.RowLemmas.{have_one_list}
use Rattle.cache_log.proofs.laws.bytes_have_one_list_of_records.Goals as goal

pub returns : goal.returns
returns c = have_one_list
