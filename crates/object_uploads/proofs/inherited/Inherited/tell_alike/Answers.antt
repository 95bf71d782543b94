use Rattle.std.proofs.Common.{List, subst}
use Rattle.object_uploads.specs.State.{InheritedObject}
use Rattle.object_uploads.specs.Receipts.{AreInheritedStates}
use Rattle.object_uploads.proofs.inherited.Inherited.tell_alike.Goals as goal

pub returns : goal.returns
returns g c = subst (λ (list : List InheritedObject). AreInheritedStates g.R.Receipt.state list) c.self.view_is c.self.invariant.1
