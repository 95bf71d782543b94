use Rattle.std.proofs.Common.{ℕ, [], sym, ◌∙◌, ap}
use Rattle.upload_window.specs.Window.{WindowState}
use Rattle.object_uploads.specs.Order.{IsUploads}
use Rattle.object_uploads.proofs.UploadsKept.{whole, uploads_begin}
use Rattle.object_uploads.proofs.uploads.Uploads.new.Given as given
use Rattle.object_uploads.proofs.uploads.Uploads.new.Goals as goal

order : (g : given.Over) (c : goal.After-new-2 g)
    → IsUploads (whole c.args.uuid c.args.sectors c.args.ancestors c.new.result c.new-2.result)
order g c =
    let e = c.new.ensures in
    let at : ℕ → WindowState = λ last. record { last = last; objects = [] } in
    uploads_begin c.args.uuid c.args.sectors c.args.ancestors c.new.result c.new-2.result c.requires.sectors c.requires.ancestors
    e.sealed e.receipts e.removal e.inherited e.settled
    e.objects e.checkpoint (c.new-2.ensures ∙ ap at (sym e.frontier))

pub invariant_of-result : goal.invariant_of-result
invariant_of-result g c = order g c

pub returns-clause-order : goal.returns-clause-order
returns-clause-order g c = order g c
