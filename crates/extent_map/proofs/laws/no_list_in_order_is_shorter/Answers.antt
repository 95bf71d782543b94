use Rattle.extent_map.proofs.Shorter.{no_longer}
use Rattle.extent_map.proofs.laws.no_list_in_order_is_shorter.Goals as goal

pub returns : goal.returns
returns g c = no_longer g.P.Place.on g.met.P.Place.on_none g.met.P.Place.on_twice
