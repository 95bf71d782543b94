use Rattle.volume_server.proofs.HistoryLemmas.{requests_grow, session_grows}
use Rattle.volume_server.proofs.laws.a_session_adds_what_it_entered.Goals as goal

pub returns-clause-requests : goal.returns-clause-requests
returns-clause-requests g c = requests_grow g.R.Receipt.state

pub returns-clause-session : goal.returns-clause-session
returns-clause-session g c = session_grows g.R.Receipt.state
