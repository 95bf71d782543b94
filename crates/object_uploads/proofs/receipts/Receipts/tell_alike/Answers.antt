use Rattle.std.proofs.Common.{subst}
use Rattle.object_uploads.specs.Receipts.{ReceiptsState, AreStates}
use Rattle.object_uploads.proofs.receipts.Receipts.tell_alike.Goals as goal

pub returns : goal.returns
returns g c = subst (λ (r : ReceiptsState). AreStates g.R.Receipt.state r.list) c.self.view_is c.self.invariant.1
