use Rattle.upload_window.proofs.Order.{one_frontier}
use Rattle.upload_window.proofs.laws.the_frontier_is_below_the_lowest_open.Goals as goal

pub returns : goal.returns
returns c = one_frontier
