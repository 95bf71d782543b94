use Rattle.std.proofs.Common.{◌≡◌, subst, sym, rules}
use Rattle.std.specs.List.{All}
use Rattle.lsvd_names.specs.Names.{numbered_name}
use Rattle.object_uploads.specs.Order.{IsUploads}
use Rattle.object_uploads.proofs.NamesKept.{IsNamed, named_with}
use Rattle.object_uploads.proofs.UploadsKept.{whole, uploads_changed}
use Rattle.object_uploads.proofs.uploads.Uploads.remove_failed.Given as given
use Rattle.object_uploads.proofs.uploads.Uploads.remove_failed.Goals as goal

stays : (g : given.Over) (c : goal.After-remove_failed g)
    → IsUploads (whole c.self.inside.uuid c.self.inside.sectors c.self.inside.ancestors c.remove_failed.new.self
    c.self.inside.window)
stays g c =
    let own = c.self.inside in
    let e = c.remove_failed.ensures in
    let receipt = g.R.Receipt.state c.args.receipt in
    let number = c.name-name.result.number in
    let named : receipt.name ≡ numbered_name own.uuid number = search rules in
    uploads_changed own.uuid own.sectors own.ancestors own.window own.queue c.remove_failed.new.self c.self.invariant e.rest
    e.known
    (subst (All (IsNamed own.uuid)) (sym e.receipts)
    (named_with own.uuid number receipt own.queue.receipts named c.self.invariant.known.named))

pub invariant_of-self : goal.invariant_of-self
invariant_of-self g c = stays g c

pub returns-clause-stays : goal.returns-clause-stays
returns-clause-stays g c = stays g c
