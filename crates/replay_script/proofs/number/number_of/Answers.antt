use Rattle.std.proofs.Common.{◌≡◌, ◌<◌, length, get_or, rules, arith, subst, IsTrue}
use Rattle.std.proofs.lemmas.Bool.Decides.{nat_tests}
use Rattle.replay_script.proofs.Numbers.{number_found, number_none, no_number_empty, no_number_zero}
use Rattle.replay_script.proofs.number.number_of.Goals as goal
use Rattle.replay_script.proofs.number.number_of.Goals.{then-is_empty-via-then-is_empty}
use Rattle.replay_script.proofs.number.number_of.Goals.{then-is_empty-via-else-is_empty+then-has_needless_zero}

pub returns-then-is_empty-clause-none : goal.returns-then-is_empty-clause-none
returns-then-is_empty-clause-none c =
    elim c.then-is_empty.branch [
      | then-is_empty-via-then-is_empty w ↦ no_number_empty c.args.word.now (grind (arith, nat_tests))
      | then-is_empty-via-else-is_empty+then-has_needless_zero w ↦
          let zero : (1 < length c.args.word.now) × (get_or c.args.word.now 0 0 ≡ 48) = search rules in
          no_number_zero c.args.word.now zero.0 zero.1
    ]

pub returns-clause-found : goal.returns-clause-found
returns-clause-found c =
    let some : 0 < length c.args.word.now = grind (arith, nat_tests) in
    number_found c.args.word.now c.value_of.result c.value_of.ensures some (λ zero. let set =
    subst IsTrue c.if-has_needless_zero.false (c.has_needless_zero.ensures.1 zero) in cc)

pub returns-clause-none : goal.returns-clause-none
returns-clause-none c = number_none c.args.word.now c.value_of.result c.value_of.ensures
