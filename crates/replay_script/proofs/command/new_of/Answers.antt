use Rattle.replay_script.proofs.Decide.{new_none}
use Rattle.replay_script.proofs.command.new_of.Goals as goal

pub returns-clause-none : goal.returns-clause-none
returns-clause-none c =
    let sectors = c.in_ok-number_of.ensures.found in
    let log = c.in_ok-number_of-2.ensures.found in
    let max_write = c.in_ok-number_of-3.ensures.found in
    let batch = c.in_ok-number_of-4.ensures.found in
    new_none _ _ _ _ (record {
      sectors = c.in_ok-number_of.field-0;
      log = c.in_ok-number_of-2.field-0;
      max_write = c.in_ok-number_of-3.field-0;
      batch = c.in_ok-number_of-4.field-0;
    })
    c.is_within_limits.result c.then_some.result sectors.1 log.1 max_write.1 batch.1 (sectors.0, log.0, max_write.0, batch.0)
    c.is_within_limits.ensures c.then_some.ensures
