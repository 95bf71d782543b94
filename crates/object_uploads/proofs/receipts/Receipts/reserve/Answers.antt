use Rattle.std.proofs.Common.{sym, subst}
use Rattle.object_uploads.specs.Receipts.{Ascend, AreStates}
use Rattle.object_uploads.proofs.receipts.Receipts.reserve.Goals as goal

pub invariant_of-self : goal.invariant_of-self
invariant_of-self g c = (
  subst Ascend (sym c.reserve.ensures.items) c.self.invariant.0,
  subst (AreStates g.R.Receipt.state) (sym c.reserve.ensures.items) c.self.invariant.1,
)
