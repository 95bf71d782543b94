use Rattle.std.proofs.Common.{◌≡◌, Some, subst, sym, ap, ◌∙◌, refl, arith}
use Rattle.lsvd_objstore.specs.Store.{Finds}
use Rattle.object_format.specs.declared.expected.Expected.{Expected}
use Rattle.object_stream.specs.Replay.{object_name}
use Rattle.object_uploads.specs.Order.{IsUploads}
use Rattle.object_uploads.specs.Queue.{FitSealed}
use Rattle.obj_log.specs.Changes.{next_of}
use Rattle.object_recovery.specs.Adoption.{IsNextRead}
use Rattle.object_recovery.proofs.AdoptionLemmas.{rows_fit, stored_as, left_at}
use Rattle.object_recovery.proofs.adoption.adopt_next.Goals as goal

pub adopt-requires-clause-fit : goal.adopt-requires-clause-fit
adopt-requires-clause-fit g c =
    let receipt = g.S.Receipt.Receipt.state c.in-Some.receipt in
    let expected = c.expected_next-expected.result in
    let sectors : expected.sectors ≡ c.args.log.now.uploads.sectors =
    ap (λ (e : Expected). e.sectors) c.expected_next-expected.ensures ∙ sym c.requires.list.sectors in
    let read = subst (IsNextRead receipt expected) c.in-Whole.is c.in_ok-reached.ensures.next in
    let object = c.in-Whole.object in
    subst (λ n. FitSealed n object.rows) sectors (rows_fit receipt expected object.rows object.end read.0)

pub returns-in-Left-clause-next : goal.returns-in-Left-clause-next
returns-in-Left-clause-next g c =
    let receipt = g.S.Receipt.Receipt.state c.in-Some.receipt in
    let told = (g.S.Store.state c.args.store.now).objects in
    let next = c.expected_next-expected.ensures in
    let name = c.object_name.ensures.is ∙ ap (λ (e : Expected). object_name e e.number) next in
    let finds = subst (λ n. Finds n told (Some receipt)) name (rw c.in-Some.is at c.in_ok-receipt.ensures.found) in
    let read = subst (λ e. IsNextRead receipt e c.in_ok-reached.field-0) next c.in_ok-reached.ensures.next in (
      refl,
      λ tells. left_at told (next_of c.args.log.now) receipt c.in-Left.reached finds (tells c.in-Some.receipt)
          (subst (IsNextRead receipt (next_of c.args.log.now)) c.in-Left.is read),
    )

pub returns-in_ok-adopt-in-Whole-clause-next : goal.returns-in_ok-adopt-in-Whole-clause-next
returns-in_ok-adopt-in-Whole-clause-next g c =
    let receipt = g.S.Receipt.Receipt.state c.in-Some.receipt in
    let told = (g.S.Store.state c.args.store.now).objects in
    let next = c.expected_next-expected.ensures in
    let rows = c.in-Whole.object.rows in
    let end = c.in-Whole.object.end in
    let read = subst (λ e. IsNextRead receipt e c.in_ok-reached.field-0) next c.in_ok-reached.ensures.next in
    let is = (subst (IsNextRead receipt (next_of c.args.log.now)) c.in-Whole.is read) in
    let name = c.object_name.ensures.is ∙ ap (λ (e : Expected). object_name e e.number) next in
    let finds = subst (λ n. Finds n told (Some receipt)) name (rw c.in-Some.is at c.in_ok-receipt.ensures.found) in
    record {
      rows = rows;
      end = end;
      receipt = receipt;
      order = subst IsUploads c.uploads.ensures c.frontier.ensures.order;
      named = omega (arith, is.1);
      read = is.0;
      adopted = c.in_ok-adopt-in-Whole.ensures.adopted;
      stored = λ tells. stored_as told (next_of c.args.log.now) receipt rows end finds (tells c.in-Some.receipt) is.0;
    }
