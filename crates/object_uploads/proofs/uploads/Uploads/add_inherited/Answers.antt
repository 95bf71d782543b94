use Rattle.std.proofs.Common.{◌≤◌, sym, subst}
use Rattle.object_uploads.specs.State.{InheritedObject, UploadsState}
use Rattle.object_uploads.specs.Order.{ComesLast}
use Rattle.object_uploads.proofs.FoundKept.{uploads_inherited}
use Rattle.object_uploads.proofs.uploads.Uploads.add_inherited.Goals as goal

pub invariant_of-self : goal.invariant_of-self
invariant_of-self g c =
    let own = c.self.inside in
    let e = c.add_inherited.ensures in
    let object : InheritedObject = record {
      level = c.args.level;
      number = c.args.number;
      receipt = g.R.Receipt.state c.args.receipt;
      front = c.args.front;
    } in
    let most = subst (λ (u : UploadsState). c.args.level ≤ u.ancestors) (sym c.self.view_is) c.requires.to in
    let last = subst (λ (u : UploadsState). ComesLast c.args.level c.args.number u.queue.inherited) (sym c.self.view_is)
    c.requires.last in
    uploads_inherited own.uuid own.sectors own.ancestors own.window own.queue c.add_inherited.new.self c.add_inherited.result
    object c.self.invariant c.requires.from most last e.added e.same
