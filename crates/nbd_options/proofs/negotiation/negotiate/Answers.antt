use Rattle.nbd_options.proofs.NegotiationLemmas.{not_begun}
use Rattle.nbd_options.proofs.negotiation.negotiate.Goals as goal

pub returns-in_default-clause-bytes : goal.returns-in_default-clause-bytes
returns-in_default-clause-bytes g c = not_begun c.args.export.now _ _
