use Rattle.cache_log.proofs.ReadCounts.{headers_most}
use Rattle.cache_log.proofs.laws.at_most_two_headers_are_read_for_each_record.Goals as goal

pub returns : goal.returns
returns c = headers_most
