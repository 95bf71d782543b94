use Rattle.std.proofs.Common.{◌≡◌, ◌+◌, ◌<◌, ◌^◌, subst, sym, ap, ◌∙◌, refl, arith}
use Rattle.std.specs.Prelude.{IfSome}
use Rattle.std.proofs.lemmas.Bool.Decides.{nat_tests}
use Rattle.lsvd_base.specs.declared.geometry.Geometry.{Geometry}
use Rattle.lsvd_objstore.specs.Store.{StoreState}
use Rattle.upload_window.specs.Window.{WindowState}
use Rattle.obj_log.specs.Changes.{expected_of_volume, next_of}
use Rattle.obj_log.specs.State.{ObjLogState}
use Rattle.obj_log.proofs.StreamLemmas.{same_volume}
use Rattle.stopped_volume.specs.Store.{TellsBytes}
use Rattle.object_recovery.specs.Places.{HasPlacesInside}
use Rattle.object_recovery.specs.Adoption.{AdoptsNext, KeepsGood, KeepsKnown, KeepsTable}
use Rattle.object_recovery.specs.Recovery.{KeepsStreams}
use Rattle.object_recovery.proofs.FindLemmas.{same_store}
use Rattle.object_recovery.proofs.ListLemmas.{list_more, told_same, told_more, told_still, told_good}
use Rattle.object_recovery.proofs.PlaceLemmas.{places_more}
use Rattle.object_recovery.proofs.TableLemmas.{told_knows, told_known, table_more}
use Rattle.object_recovery.proofs.adoption.adopt_all.Goals as goal

pub loop-reached-init : goal.loop-reached-init
loop-reached-init g c = record {
  list = c.requires.list;
  places = λ inside. inside;
  from = omega arith;
  same = refl;
  streams = λ tells. told_same (g.S.Store.state c.args.store.now).objects (expected_of_volume c.args.log.now) c.args.log.now;
  good = λ tells. told_still (g.S.Store.state c.args.store.now).objects (expected_of_volume c.args.log.now) c.args.log.now;
  knows = λ tells. told_known (g.S.Store.state c.args.store.now).objects (expected_of_volume c.args.log.now) c.args.log.now;
  table = λ checkpoint has. has;
}

pub loop-reached-preserved : goal.loop-reached-preserved
loop-reached-preserved g c =
    let Tells = TellsBytes g.S.Receipt.Receipt.state in
    let begun = c.args.log.now in
    let old = c.loop-reached.log in
    let new = c.adopt_next.new.log in
    let told = (g.S.Store.state c.args.store.now).objects in
    let before = c.loop-reached.invariant in
    let state = g.S.Store.state c.loop-reached.store in
    let after = same_store state (g.S.Store.state c.adopt_next.new.store) c.in_ok-adopt_next.ensures.unchanged
    c.in_ok-adopt_next.ensures.faults in
    let adopts : AdoptsNext Tells state.objects old new = rw c.in-Adopted.is at c.in_ok-adopt_next.ensures.next in
    let here = subst (λ (s : StoreState). AdoptsNext Tells s.objects old new) before.same adopts in
    let is = before.list in
    let of_volume = sym (same_volume begun old is.uuid_is is.ancestors_are is.geometry_is) in
    let next : new.uploads.window.last ≡ old.uploads.window.last + 1 =
    ap (λ (w : WindowState). w.last) adopts.adopted.uploads.window in
    let wide : (expected_of_volume begun).sectors < 2 ^ 64 = grind (arith, nat_tests, c.requires.limits) in
    record {
      list =
          list_more begun.uploads.uuid begun.batch.geometry begun.uploads.ancestors old.uploads.window.last
          old.uploads.queue.end adopts.end adopts.rows
          adopts.receipt old new is adopts.adopted;
      places = λ inside.
          places_more old.uploads.uuid begun.batch.geometry.sectors adopts.end adopts.rows (next_of old) adopts.receipt
          old.uploads.queue new.uploads.queue
          adopts.order.known (ap (λ (sizes : Geometry). sizes.sectors) is.geometry_is) adopts.read
          adopts.adopted.uploads.settled (before.places inside);
      from = omega (arith, next, before.from);
      same = after ∙ before.same;
      streams = λ tells.
          told_more told (expected_of_volume begun) Tells begun.uploads.uuid begun.batch.geometry begun.uploads.ancestors
          old.uploads.queue.end begun
          old new wide
          of_volume is tells here (before.streams tells);
      good = λ tells.
          told_good told (expected_of_volume begun) Tells begun.uploads.uuid begun.batch.geometry begun.uploads.ancestors begun
          old new of_volume is tells
          here (before.good tells);
      knows = λ tells.
          told_knows told (expected_of_volume begun) Tells begun.uploads.uuid begun.batch.geometry begun.uploads.ancestors
          old.uploads.queue.end begun
          old new of_volume is (omega (arith, before.from, c.requires.list.frontier)) tells here (before.knows tells);
      table = table_more Tells told begun old new here before.table;
    }

-- ---- where there is no next object

pub returns-in-Missing-clause-places : goal.returns-in-Missing-clause-places
returns-in-Missing-clause-places g c =
    let none = rw c.in-Missing.is at c.in_ok-adopt_next.ensures.next in
    subst (λ (new : ObjLogState). HasPlacesInside c.args.log.now.batch.geometry.sectors c.args.log.now.uploads.queue
    → HasPlacesInside c.args.log.now.batch.geometry.sectors new.uploads.queue) (sym none.0)
    c.loop-reached.invariant.places

pub returns-in-Missing-clause-streams : goal.returns-in-Missing-clause-streams
returns-in-Missing-clause-streams g c = λ tells.
    let none = rw c.in-Missing.is at c.in_ok-adopt_next.ensures.next in
    subst (λ new. IfSome (g.S.Store.state c.args.store.now).objects
    (λ objects. KeepsStreams (expected_of_volume c.args.log.now) objects c.args.log.now new)) (sym none.0)
    (c.loop-reached.invariant.streams tells)

pub returns-in-Missing-clause-good : goal.returns-in-Missing-clause-good
returns-in-Missing-clause-good g c = λ tells.
    let none = rw c.in-Missing.is at c.in_ok-adopt_next.ensures.next in
    subst (λ new. IfSome (g.S.Store.state c.args.store.now).objects
    (λ objects. KeepsGood (expected_of_volume c.args.log.now) objects c.args.log.now new)) (sym none.0)
    (c.loop-reached.invariant.good tells)

pub returns-in-Missing-clause-knows : goal.returns-in-Missing-clause-knows
returns-in-Missing-clause-knows g c = λ tells.
    let none = rw c.in-Missing.is at c.in_ok-adopt_next.ensures.next in
    subst (λ new. IfSome (g.S.Store.state c.args.store.now).objects
    (λ objects. KeepsKnown (expected_of_volume c.args.log.now) objects c.args.log.now new)) (sym none.0)
    (c.loop-reached.invariant.knows tells)

pub returns-in-Missing-clause-table : goal.returns-in-Missing-clause-table
returns-in-Missing-clause-table g c =
    let none = rw c.in-Missing.is at c.in_ok-adopt_next.ensures.next in
    subst (KeepsTable c.args.log.now) (sym none.0) c.loop-reached.invariant.table

-- ---- where the next object is left

pub returns-in-Left-clause-places : goal.returns-in-Left-clause-places
returns-in-Left-clause-places g c =
    let left = rw c.in-Left.is at c.in_ok-adopt_next.ensures.next in
    subst (λ (new : ObjLogState). HasPlacesInside c.args.log.now.batch.geometry.sectors c.args.log.now.uploads.queue
    → HasPlacesInside c.args.log.now.batch.geometry.sectors new.uploads.queue) (sym left.0)
    c.loop-reached.invariant.places

pub returns-in-Left-clause-streams : goal.returns-in-Left-clause-streams
returns-in-Left-clause-streams g c = λ tells.
    let left = rw c.in-Left.is at c.in_ok-adopt_next.ensures.next in
    subst (λ new. IfSome (g.S.Store.state c.args.store.now).objects
    (λ objects. KeepsStreams (expected_of_volume c.args.log.now) objects c.args.log.now new)) (sym left.0)
    (c.loop-reached.invariant.streams tells)

pub returns-in-Left-clause-good : goal.returns-in-Left-clause-good
returns-in-Left-clause-good g c = λ tells.
    let left = rw c.in-Left.is at c.in_ok-adopt_next.ensures.next in
    subst (λ new. IfSome (g.S.Store.state c.args.store.now).objects
    (λ objects. KeepsGood (expected_of_volume c.args.log.now) objects c.args.log.now new)) (sym left.0)
    (c.loop-reached.invariant.good tells)

pub returns-in-Left-clause-knows : goal.returns-in-Left-clause-knows
returns-in-Left-clause-knows g c = λ tells.
    let left = rw c.in-Left.is at c.in_ok-adopt_next.ensures.next in
    subst (λ new. IfSome (g.S.Store.state c.args.store.now).objects
    (λ objects. KeepsKnown (expected_of_volume c.args.log.now) objects c.args.log.now new)) (sym left.0)
    (c.loop-reached.invariant.knows tells)

pub returns-in-Left-clause-table : goal.returns-in-Left-clause-table
returns-in-Left-clause-table g c =
    let left = rw c.in-Left.is at c.in_ok-adopt_next.ensures.next in
    subst (KeepsTable c.args.log.now) (sym left.0) c.loop-reached.invariant.table
