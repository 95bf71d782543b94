use Rattle.std.proofs.Common.{rules, ◌≡◌, ◌+◌, ◌<◌, ◌≤◌, ◌^◌, ◌∷◌, ◌++◌, [], length, sym, ◌∙◌, ap, refl, subst, length-append}
use Rattle.std.proofs.Common.{arith}
use Rattle.object_uploads.specs.State.{QueueState}
use Rattle.object_uploads.specs.Queue.{just_sealed, count_of_rows}
use Rattle.object_uploads.specs.Receipts.{AreSealedStates}
use Rattle.object_uploads.specs.Invariant.{AllMaySettle, count_out}
use Rattle.object_uploads.proofs.RoomLemmas.{room_kept, rows_pushed, room_pushed, fit_pushed, counts_pushed}
use Rattle.object_uploads.proofs.QueueKept.{known_kept}
use Rattle.object_uploads.proofs.CopyImage.{all_more}
use Rattle.object_uploads.proofs.TellLemmas.{SealedIsSeen}
use Rattle.object_uploads.proofs.queue.Queue.push.Goals as goal

pub invariant_of-self : goal.invariant_of-self
invariant_of-self g c =
    let e = c.make_room.ensures in
    let before = c.self.invariant in
    let size = ap length e.sealed in (
      room_kept c.self.inside.sealed.items _ c.self.inside.maps c.make_room.new.maps e.sealed e.settled_kept e.log_kept before.0,
      rw e.sealed before.1,
      known_kept _ _ before.2 refl e.receipts refl e.places.objects e.places.checkpoint e.places.settled,
      subst AllMaySettle (sym e.sealed) before.3,
      omega (arith, size, before.4, e.receipts_kept),
      omega (arith, size, before.5, e.object_kept),
      omega (arith, size, before.6),
      subst (AreSealedStates g.R.Receipt.state) (sym e.sealed) before.7,
    )

pub invariant_of-self-2 : goal.invariant_of-self-2
invariant_of-self-2 g c =
    let e = c.in_ok-make_room.ensures in
    let before = c.self.invariant in
    let old = c.self.inside.sealed.items in
    let object = just_sealed c.args.object c.args.rows c.args.end in
    let state = g.R.Receipt.state in
    let pushed : c.push_back_reserved.new.self.items ≡ old ++ object ∷ [] =
    c.push_back_reserved.ensures.items
    ∙ (ap (λ list. list ++ c.new.result ∷ []) e.sealed ∙ ap (λ s. old ++ s ∷ []) c.new.ensures) in
    let added : c.in-Some.all ≡ c.self.inside.rows + count_of_rows c.args.rows = search rules in
    let rows = rows_pushed old _ object c.self.inside.rows c.in-Some.all pushed before.1 added in
    let more : length c.push_back_reserved.new.self.items ≡ length old + 1 =
    ap length pushed ∙ length-append old (object ∷ []) in
    let small : c.self.inside.frontier + length old + 1 < 2 ^ 64 =
    subst (λ (q : QueueState). q.frontier + length q.sealed + 1 < 2 ^ 64) (sym c.self.view_is) c.requires.numbers in
    let come : c.receipts_to_come-receipts.result ≡ length old + count_out c.self.inside.removal + 1 =
    subst (λ (q : QueueState). c.receipts_to_come-receipts.result ≡ length q.sealed + count_out q.removal + 1)
    (sym c.self.view_is) c.receipts_to_come-receipts.ensures in
    let receipts = subst (λ n. n ≤ c.make_room.new.receipts.spare) come e.receipt_room in
    let counts = counts_pushed _ _ _ _ _ _ _ more receipts e.object_room small in (
      room_pushed old _ object c.in-Some.all c.self.inside.maps _ pushed rows e.settled_room e.log_room,
      rows,
      known_kept _ _ before.2 refl e.receipts refl e.places.objects e.places.checkpoint e.places.settled,
      fit_pushed old _ object pushed before.3 c.requires.fit,
      counts.0,
      counts.1,
      counts.2,
      subst (AreSealedStates state) (sym pushed) (all_more (SealedIsSeen state) old object tt before.7),
    )
