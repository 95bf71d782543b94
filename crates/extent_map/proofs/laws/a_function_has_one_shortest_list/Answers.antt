use Rattle.extent_map.proofs.OneList.{one_list}
use Rattle.extent_map.proofs.laws.a_function_has_one_shortest_list.Goals as goal

pub returns : goal.returns
returns g c = one_list g.P.Place.on g.met.P.Place.on_none
