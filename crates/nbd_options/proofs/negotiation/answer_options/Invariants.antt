use Rattle.std.proofs.Common.{◌≡◌}
use Rattle.nbd_options.proofs.NegotiationLemmas.{HaveBeenAnswered}
use Rattle.nbd_options.proofs.negotiation.answer_options.Given as goal

abbrev pub invariant-loop : goal.invariant-loop
invariant-loop g l = record {
  answered : HaveBeenAnswered l.export l.zeroes l.counter (g.K.Source.remaining l.fn.link) (g.K.Source.remaining l.link)
      (g.K.Sink.contents l.fn.link) (g.K.Sink.contents l.link);
  none_failed : g.K.Source.faults l.link ≡ g.K.Source.faults l.fn.link;
}
