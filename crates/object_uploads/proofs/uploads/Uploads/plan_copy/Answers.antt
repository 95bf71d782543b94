use Rattle.std.proofs.Common.{List, [], sym, ap, subst, ◌∙◌}
use Rattle.std.specs.Prelude.{nat_eq}
use Rattle.gc_copier.specs.Plan.{all_seen}
use Rattle.object_format.specs.declared.copy_row.CopyRow.{CopyRow}
use Rattle.volume_maps.specs.CopyPlan.{PlansCopy}
use Rattle.object_uploads.specs.State.{UploadsState}
use Rattle.object_uploads.specs.Collection.{ArePlacesInside, AreStored, AreSources, HasPlan}
use Rattle.object_uploads.proofs.PlanLemmas.{plans_of, sources_there, is_plan, no_rows, some_rows, has_plan}
use Rattle.object_uploads.proofs.UploadsKept.{whole}
use Rattle.object_uploads.proofs.uploads.Uploads.plan_copy.Goals as goal

pub sources_of-requires : goal.sources_of-requires
sources_of-requires g c =
    let own = c.self.inside in
    let rows = c.in_ok-rows.rows.items in
    let inside = subst (λ (u : UploadsState). ArePlacesInside u.queue) (sym c.self.view_is) c.requires.inside in
    let plans = plans_of own.sectors own.ancestors c.args.most own.queue c.maps.result.now rows c.maps.ensures
    c.in_ok-rows.ensures
    c.self.invariant.places in
    subst (AreStored own.queue) (sym c.deref.ensures.value)
    (sources_there own.sectors c.args.most own.queue rows inside c.self.invariant.known.within plans)

pub new-requires : goal.new-requires
new-requires g c =
    let own = c.self.inside in
    let rows = c.in_ok-rows.rows.items in
    let sources = all_seen g.R.Receipt.state c.in_ok-sources.sources.items in
    let inside = subst (λ (u : UploadsState). ArePlacesInside u.queue) (sym c.self.view_is) c.requires.inside in
    let plans = plans_of own.sectors own.ancestors c.args.most own.queue c.maps.result.now rows c.maps.ensures
    c.in_ok-rows.ensures
    c.self.invariant.places in
    is_plan own.sectors c.args.most own.queue rows inside c.self.invariant.known.within plans sources c.requires.most
    (subst (λ (list : List CopyRow). AreSources own.queue list sources) c.deref.ensures.value c.in_ok-sources.ensures)

pub returns-then-is_empty : goal.returns-then-is_empty
returns-then-is_empty g c =
    let own = c.self.inside in
    let rows = c.in_ok-rows.rows in
    let plans = plans_of own.sectors own.ancestors c.args.most own.queue c.maps.result.now rows.items c.maps.ensures
    c.in_ok-rows.ensures
    c.self.invariant.places in
    let none = no_rows rows.items c.is_empty.result (c.is_empty.ensures ∙ ap (λ n. nat_eq n 0) rows.ok.0) c.if-is_empty.true in
    subst (λ (u : UploadsState). PlansCopy u.sectors c.args.most u.queue.maps []) c.self.view_is
    (subst (PlansCopy own.sectors c.args.most own.queue.maps) none plans)

pub returns : goal.returns
returns g c =
    let own = c.self.inside in
    let rows = c.in_ok-rows.rows in
    let sources = all_seen g.R.Receipt.state c.in_ok-sources.sources.items in
    let plans = plans_of own.sectors own.ancestors c.args.most own.queue c.maps.result.now rows.items c.maps.ensures
    c.in_ok-rows.ensures
    c.self.invariant.places in
    let some = some_rows rows.items c.is_empty.result (c.is_empty.ensures ∙ ap (λ n. nat_eq n 0) rows.ok.0) c.if-is_empty.false in
    subst (HasPlan c.args.most c.new.result) c.self.view_is
    (has_plan c.args.most (whole own.uuid own.sectors own.ancestors own.queue own.window) c.new.result rows.items sources
    c.new.ensures plans
    some
    (subst (λ (list : List CopyRow). AreSources own.queue list sources) c.deref.ensures.value c.in_ok-sources.ensures))
