use Rattle.std.proofs.Common.{rules, get_or, arith, refl}
use Rattle.std.proofs.lemmas.List.{take_rest}
use Rattle.std.proofs.lemmas.Grind.{common_steps}
use Rattle.replay_script.proofs.Runs.{text_with_more, text_without_more}
use Rattle.replay_script.proofs.run_text.push_first_run.Goals as goal
use Rattle.replay_script.proofs.run_text.push_first_run.Goals.{then-not-is_empty+in_ok-push, else-not-is_empty}

pub returns-clause-ok : goal.returns-clause-ok
returns-clause-ok c =
    rw (take_rest c.args.bytes.now c.count_leading-count.result)
    elim c.if-not-is_empty.branch [
      | then-not-is_empty+in_ok-push w ↦
          text_with_more c.args.bytes.now (get_or c.args.bytes.now 0 0) c.count_leading-count.result
          c.args.out.now.items c.push_run.new.out.items c.if-not-is_empty.out.items
          c.requires refl c.count_leading-count.ensures.leading c.in_ok-push_run.ensures.ok
          (search rules) (grind (arith, common_steps))
      | else-not-is_empty w ↦
          text_without_more c.args.bytes.now (get_or c.args.bytes.now 0 0) c.count_leading-count.result
          c.args.out.now.items c.push_run.new.out.items c.if-not-is_empty.out.items
          c.requires refl c.count_leading-count.ensures.leading c.in_ok-push_run.ensures.ok
          (search rules) (grind (arith, common_steps))
    ]
