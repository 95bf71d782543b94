use Rattle.std.proofs.Common.{◌<◌, refl, sym, subst}
use Rattle.std.proofs.lemmas.List.Elements.{All-push}
use Rattle.std.proofs.lemmas.List.Quantifiers.{all_pairs_push}
use Rattle.object_uploads.specs.State.{NumberedReceipt}
use Rattle.object_uploads.specs.Receipts.{ReceiptsState, MayCome, Ascend, AreStates}
use Rattle.object_uploads.proofs.TellLemmas.{IsSeen}
use Rattle.object_uploads.proofs.receipts.Receipts.push.Goals as goal

pub invariant_of-self : goal.invariant_of-self
invariant_of-self g c =
    let list = c.self.inside.list.items in
    let state = g.R.Receipt.state in
    let own : NumberedReceipt = record { number = c.args.number; receipt = state c.args.receipt } in
    let last = subst (λ (r : ReceiptsState). MayCome c.args.number r.list) (sym c.self.view_is) c.requires.last in (
      subst Ascend (sym c.push_reserved.ensures.items)
          (all_pairs_push (λ (earlier later : NumberedReceipt). earlier.number < later.number) list own c.self.invariant.0 last),
      subst (AreStates state) (sym c.push_reserved.ensures.items)
          (All-push (IsSeen state) list own c.self.invariant.1 (c.args.receipt, refl)),
    )
