use Rattle.std.proofs.Common.{◌≡◌, ◌≤◌, nat_eq, false, sym, subst, arith}
use Rattle.std.proofs.lemmas.Bool.Decides.{nat_tests}
use Rattle.std.specs.Prelude.{IfOk, OnErr, IsTrue, ◌↔◌}
use Rattle.super_format.specs.declared.hold.Hold.{Hold}
use Rattle.super_format.specs.Hold.{IsHold}
use Rattle.super_recovery.proofs.FrontLemmas.{by_bytes, no_hold_by_length}
use Rattle.super_recovery.proofs.holding.is_hold.Goals as goal

pub returns-then-front : goal.returns-then-front
returns-then-front c bytes of =
    let short : c.args.front.now.len ≤ 32 = grind (arith, nat_tests) in
    let is = c.as_slice.ensures.value in
    let either = by_bytes (λ xs. IsHold xs c.args.uuid c.args.number) c.args.front.now c.read.result short
    (subst (λ xs. IfOk c.read.result (IsHold xs c.args.uuid c.args.number)) is c.read.ensures.ok)
    (subst (λ xs. OnErr c.read.result ((hold : Hold) → IsHold xs c.args.uuid c.args.number hold → ⊥)) is c.read.ensures.none)
    bytes of in
    subst (λ ok. IsTrue ok ↔ ((hold : Hold) × IsHold bytes c.args.uuid c.args.number hold)) (sym c.is_ok.ensures.value) either

pub returns-else-front : goal.returns-else-front
returns-else-front c bytes of =
    let other : c.args.front.now.len ≡ 32 → ⊥ = c.if-front.false in
    let fails : nat_eq c.args.front.now.len 32 ≡ false = grind (arith, nat_tests) in
    no_hold_by_length c.args.front.now c.args.uuid c.args.number (nat_eq c.args.front.now.len 32) fails other bytes of
