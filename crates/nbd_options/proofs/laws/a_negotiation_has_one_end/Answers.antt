use Rattle.nbd_options.proofs.AnswerLemmas.{one_answer}
use Rattle.nbd_options.proofs.EndLemmas.{one_outcome}
use Rattle.nbd_options.proofs.laws.a_negotiation_has_one_end.Goals as goal

pub returns : goal.returns
returns c = record { answer = one_answer; end = one_outcome }
