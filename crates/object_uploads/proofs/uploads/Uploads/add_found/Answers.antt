use Rattle.std.proofs.Common.{◌≡◌, sym, subst}
use Rattle.lsvd_names.specs.Names.{numbered_name}
use Rattle.object_uploads.specs.State.{UploadsState}
use Rattle.object_uploads.proofs.FoundKept.{found_more, same_places}
use Rattle.object_uploads.proofs.uploads.Uploads.add_found.Goals as goal

pub invariant_of-self : goal.invariant_of-self
invariant_of-self g c =
    let own = c.self.inside in
    let new = c.add_found.new.self in
    let e = c.add_found.ensures in
    let receipt = g.R.Receipt.state c.args.receipt in
    let named = subst (λ (u : UploadsState). receipt.name ≡ numbered_name u.uuid c.args.number) (sym c.self.view_is)
    c.requires.named in
    let same = same_places own.uuid own.sectors own.ancestors own.window own.queue new c.self.invariant e.rest c.add_found.result
    e.settled
    e.same_rows e.checkpoint in
    found_more own.uuid own.sectors own.ancestors own.window own.queue new c.self.invariant e.rest c.add_found.result
    c.args.number receipt
    named e.receipts e.settled e.same same e.known
