use Rattle.std.proofs.Common.{◌∷◌, ◌∙◌, sym, ap, subst, refl}
use Rattle.vol_mount.proofs.AddLemmas.{IsAddedUpTo, none_added, index_inside, may_add, seq_fits, sectors_fit, places_fit}
use Rattle.vol_mount.proofs.AddLemmas.{one_added, all_added}
use Rattle.vol_mount.proofs.adding.add_all.Given as given
use Rattle.vol_mount.proofs.adding.add_all.Goals.{In-Some}
use Rattle.vol_mount.proofs.adding.add_all.Goals as goal

pub loop-index-init : goal.loop-index-init
loop-index-init g c =
    let begun = c.into_iter-index-iterator.ensures.into_iter_gives in
    none_added c.args.log.now c.args.entries.items c.into_iter-index-iterator.result.iter.rest.items
    c.into_iter-index-iterator.result.count
    c.args.objects.now
    (ap (λ i. i.iter.rest.items) begun ∙ ap (λ i. i.rest.items) c.enumerate-index-items.ensures.source ∙ c.into_iter.ensures.rest)
    (ap (λ i. i.count) begun ∙ c.enumerate-index-items.ensures.count)

up_to : (g : given.Over) (c : In-Some g)
    → IsAddedUpTo c.args.log.now c.args.entries.items
    (c.in-Some.entry ∷ c.next.new.self.iter.rest.items) c.loop-index.index-iterator.count c.args.objects.now
    c.loop-index.objects
up_to g c =
    subst (λ rest. IsAddedUpTo c.args.log.now c.args.entries.items rest c.loop-index.index-iterator.count c.args.objects.now
    c.loop-index.objects)
    c.in-Some.ensures.steps.0.0 c.loop-index.invariant

pub row-requires : goal.row-requires
row-requires g c =
    let before = (goal.at.row-requires g c).In-Some in
    let given = c.requires in
    index_inside c.args.log.now c.args.entries.items c.args.objects.now given.limits given.empty given.first given.seqs given.rows
    given.in_range
    given.room
    c.in-Some.entry c.next.new.self.iter.rest.items c.loop-index.index-iterator.count c.loop-index.objects c.reserve.new.self
    (up_to g before)
    c.in_ok-reserve.ensures.same c.in-Some.index c.in-Some.ensures.steps.1

pub add-requires-clause-range : goal.add-requires-clause-range
add-requires-clause-range g c =
    let before = (goal.at.add-requires-clause-range g c).In-Some in
    let given = c.requires in
    may_add c.args.log.now c.args.entries.items c.args.objects.now given.limits given.empty given.first given.seqs given.rows
    given.in_range
    given.room
    c.in-Some.entry c.next.new.self.iter.rest.items c.loop-index.index-iterator.count c.loop-index.objects c.reserve.new.self
    (up_to g before)
    c.in_ok-reserve.ensures.same

pub add-requires-clause-seqs : goal.add-requires-clause-seqs
add-requires-clause-seqs g c =
    let before = (goal.at.add-requires-clause-seqs g c).In-Some in
    let given = c.requires in
    seq_fits c.args.log.now c.args.entries.items c.args.objects.now given.limits given.empty given.first given.seqs given.rows
    given.in_range
    given.room
    c.in-Some.entry c.next.new.self.iter.rest.items c.loop-index.index-iterator.count c.loop-index.objects c.reserve.new.self
    (up_to g before)
    c.in_ok-reserve.ensures.same

pub add-requires-clause-sectors : goal.add-requires-clause-sectors
add-requires-clause-sectors g c =
    let before = (goal.at.add-requires-clause-sectors g c).In-Some in
    let given = c.requires in
    sectors_fit c.args.log.now c.args.entries.items c.args.objects.now given.limits given.empty given.first given.seqs given.rows
    given.in_range
    given.room
    c.in-Some.entry c.next.new.self.iter.rest.items c.loop-index.index-iterator.count c.loop-index.objects c.reserve.new.self
    (up_to g before)
    c.in_ok-reserve.ensures.same

pub add-requires-clause-places : goal.add-requires-clause-places
add-requires-clause-places g c =
    let before = (goal.at.add-requires-clause-places g c).In-Some in
    let given = c.requires in
    places_fit c.args.log.now c.args.entries.items c.args.objects.now given.limits given.empty given.first given.seqs given.rows
    given.in_range
    given.room
    c.in-Some.entry c.next.new.self.iter.rest.items c.loop-index.index-iterator.count c.loop-index.objects c.reserve.new.self
    (up_to g before)
    c.in_ok-reserve.ensures.same c.position.result c.row.result c.position.ensures c.row.ensures.inside

pub loop-index-preserved : goal.loop-index-preserved
loop-index-preserved g c =
    let before = (goal.at.loop-index-preserved g c).In-Some in
    let given = c.requires in
    one_added c.args.log.now c.args.entries.items c.args.objects.now given.limits given.empty given.first given.seqs given.rows
    given.in_range
    given.room
    c.in-Some.entry c.next.new.self.iter.rest.items c.loop-index.index-iterator.count c.loop-index.objects c.reserve.new.self
    (up_to g before)
    c.in_ok-reserve.ensures.same c.position.result c.in-Some.index c.next.new.self.count c.row.result c.add.new.self
    c.next.new.self.iter.rest.items
    c.position.ensures c.in-Some.ensures.steps.1 c.row.ensures.row c.in-Some.ensures.steps.2 c.add.ensures.order
    c.add.ensures.added refl

pub returns-clause-added : goal.returns-clause-added
returns-clause-added g c =
    let given = c.requires in
    let rest = c.loop-index.index-iterator.iter.rest in
    all_added c.args.log.now c.args.entries.items c.args.objects.now given.limits given.empty given.first given.seqs given.rows
    given.in_range
    given.room
    rest.items c.loop-index.index-iterator.count c.loop-index.objects (sym rest.ok.0 ∙ c.in-None.ensures.steps.0.0)
    c.loop-index.invariant
