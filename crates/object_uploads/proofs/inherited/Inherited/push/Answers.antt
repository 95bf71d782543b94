use Rattle.std.proofs.Common.{List, refl, sym, subst}
use Rattle.std.proofs.lemmas.List.Elements.{All-push}
use Rattle.std.proofs.lemmas.List.Quantifiers.{all_pairs_push}
use Rattle.object_uploads.specs.State.{InheritedObject}
use Rattle.object_uploads.specs.Order.{IsBefore, ComesLast, AreAscending}
use Rattle.object_uploads.specs.Receipts.{IsStateOf, AreInheritedStates}
use Rattle.object_uploads.proofs.inherited.Inherited.push.Goals as goal

pub invariant_of-self : goal.invariant_of-self
invariant_of-self g c = (
  subst AreAscending (sym c.in_err-push.ensures.items) c.self.invariant.0,
  subst (AreInheritedStates g.R.Receipt.state) (sym c.in_err-push.ensures.items) c.self.invariant.1,
)

pub invariant_of-self-2 : goal.invariant_of-self-2
invariant_of-self-2 g c =
    let list = c.self.inside.list.items in
    let state = g.R.Receipt.state in
    let own : InheritedObject = record {
      level = c.args.level;
      number = c.args.number;
      receipt = state c.args.receipt;
      front = c.args.front;
    } in
    let last = subst (λ (l : List InheritedObject). ComesLast c.args.level c.args.number l) (sym c.self.view_is) c.requires in (
      subst AreAscending (sym c.in_ok-push.ensures.items)
          (all_pairs_push (λ (a b : InheritedObject). IsBefore a b.level b.number) list own c.self.invariant.0 last),
      subst (AreInheritedStates state) (sym c.in_ok-push.ensures.items)
          (All-push (λ (o : InheritedObject). IsStateOf state o.receipt) list own c.self.invariant.1 (c.args.receipt, refl)),
    )
