use Rattle.vol_recover.proofs.StopLemmas.{stop_leaves_store, stop_leaves_both, step_leaves_both}
use Rattle.vol_recover.proofs.laws.a_stop_leaves_what_a_mount_asks_for.Goals as goal

pub returns : goal.returns
returns g c = record {
  store = stop_leaves_store;
  both = stop_leaves_both;
  step = step_leaves_both g.R.Receipt.state;
}
