use Rattle.volume_owner.proofs.StoreLemmas.{acts_keep_store, stops_keep_store}
use Rattle.volume_owner.proofs.laws.acts_keep_the_store.Goals as goal

pub returns : goal.returns
returns g c = record { acts = acts_keep_store g.R.Receipt.state; stops = stops_keep_store g.R.Receipt.state }
