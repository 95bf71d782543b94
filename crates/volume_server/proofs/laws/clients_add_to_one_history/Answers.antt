use Rattle.volume_server.proofs.ClientLemmas.{clients_grow}
use Rattle.volume_server.proofs.laws.clients_add_to_one_history.Goals as goal

pub returns : goal.returns
returns g c = clients_grow g.R.Receipt.state _ c.a_session_adds_what_it_entered.ensures.session
