use Rattle.std.proofs.Common.{◌≡◌, sym, subst}
use Rattle.lsvd_names.specs.Names.{numbered_name}
use Rattle.object_uploads.specs.State.{UploadsState}
use Rattle.object_uploads.specs.Order.{IsUploads}
use Rattle.object_uploads.proofs.FoundKept.{found_more}
use Rattle.object_uploads.proofs.UploadsKept.{whole}
use Rattle.object_uploads.proofs.uploads.Uploads.begin.Given as given
use Rattle.object_uploads.proofs.uploads.Uploads.begin.Goals as goal

order : (g : given.Over) (c : goal.After-begin g)
    → IsUploads (whole c.self.inside.uuid c.self.inside.sectors c.self.inside.ancestors c.begin.new.self c.self.inside.window)
order g c =
    let own = c.self.inside in
    let e = c.begin.ensures in
    let receipt = g.R.Receipt.state c.args.receipt in
    let named = subst (λ (u : UploadsState). receipt.name ≡ numbered_name u.uuid u.queue.frontier) (sym c.self.view_is)
    c.requires.named in
    found_more own.uuid own.sectors own.ancestors own.window own.queue c.begin.new.self c.self.invariant e.rest c.begin.result
    own.queue.frontier receipt named e.receipts e.settled e.same e.same_objects e.known

pub invariant_of-self : goal.invariant_of-self
invariant_of-self g c = order g c

pub returns-clause-order : goal.returns-clause-order
returns-clause-order g c = order g c
