use Rattle.std.proofs.Common.{true, List, ap, ◌∙◌}
use Rattle.gc_copier.specs.Plan.{SourceState, all_seen, numbers_of}
use Rattle.object_uploads.specs.Order.{IsUploads}
use Rattle.object_uploads.specs.Collection.{marked_in, with_copied_all}
use Rattle.object_uploads.proofs.MarkLemmas.{uploads_marked}
use Rattle.object_uploads.proofs.UploadsKept.{whole}
use Rattle.object_uploads.proofs.uploads.Uploads.begin_plan.Given as given
use Rattle.object_uploads.proofs.uploads.Uploads.begin_plan.Goals as goal

order : (g : given.Over) (c : goal.After-mark g)
    → IsUploads (whole c.self.inside.uuid c.self.inside.sectors c.self.inside.ancestors c.mark.new.self c.self.inside.window)
order g c =
    let own = c.self.inside in
    let numbers = numbers_of (all_seen g.R.Receipt.state c.sources.result.now) in
    rw c.mark.ensures (uploads_marked true numbers own.uuid own.sectors own.ancestors own.window own.queue c.self.invariant)

pub invariant_of-self : goal.invariant_of-self
invariant_of-self g c = order g c

pub returns-clause-begun : goal.returns-clause-begun
returns-clause-begun g c =
    let own = c.self.inside in
    ap (λ queue. whole own.uuid own.sectors own.ancestors queue own.window)
    (c.mark.ensures ∙ ap (λ (sources : List SourceState). marked_in true (numbers_of sources) own.queue)
    c.sources.ensures.sources)
    ∙ ap (with_copied_all true (numbers_of c.args.plan.now.sources)) c.self.view_is

pub returns-clause-order_after : goal.returns-clause-order_after
returns-clause-order_after g c = order g c
