use Rattle.std.proofs.Common.{rules, ◌≡◌, false, sym, subst}
use Rattle.std.specs.Prelude.{is_ok}
use Rattle.commit_slot.proofs.LogAreaLemmas.{stays_keeps}
use Rattle.commit_slot.proofs.Outcomes.{on_error}
use Rattle.commit_slot.proofs.CommitPaths.{CommitCosts, IsBetween, IsEnded, finish_fails, finish_crash_safe, finish_fails_costs}
use Rattle.commit_slot.proofs.CommitPaths.{begin_fails, begin_crash_safe, begin_keeps, begin_fails_costs, committed, end_fails}
use Rattle.commit_slot.proofs.CommitPaths.{end_crash_safe, end_keeps, end_costs}
use Rattle.commit_slot.proofs.commits.Commits.commit.Given as given
use Rattle.commit_slot.proofs.commits.Commits.commit.Goals as goal
use Rattle.commit_slot.proofs.commits.Commits.commit.Goals.{After-from_residual-in_err-begin, After-finish-2}

-- the first half of the next commit failed
begin_failed : (g : given.Over) (c : After-from_residual-in_err-begin g)
    → IsBetween c.args.body false c.args.self.now c.finish.new.self c.begin.new.self
begin_failed g c = record {
  finished = c.in_ok-finish.ensures.ok;
  uuid = search rules;
  finish_costs = c.in_ok-finish.ensures.costs;
  begin_costs = c.in_err-begin.ensures.costs;
  finish_leaves = c.finish.ensures.crash_safe;
  begin_leaves = c.begin.ensures.crash_safe;
  finish_log_area = c.finish.ensures.log_area;
  begin_log_area = c.begin.ensures.log_area;
}

-- it was made
ended : (g : given.Over) (c : After-finish-2 g) → IsEnded c.finish-2.result c.args.body c.args.self.now c.finish.new.self
    c.begin.new.self c.finish-2.new.self
ended g c = record {
  between = record {
    finished = c.in_ok-finish.ensures.ok;
    uuid = search rules;
    finish_costs = c.in_ok-finish.ensures.costs;
    begin_costs = c.in_ok-begin.ensures.costs;
    finish_leaves = c.finish.ensures.crash_safe;
    begin_leaves = c.begin.ensures.crash_safe;
    finish_log_area = c.finish.ensures.log_area;
    begin_log_area = c.begin.ensures.log_area;
  };
  begun = c.in_ok-begin.ensures.ok;
  durable = c.in_ok-begin.ensures.durable;
  ok = c.finish-2.ensures.ok;
  err = c.finish-2.ensures.err;
  stands = c.finish-2.ensures.stands;
  synced = c.finish-2.ensures.synced;
  costs = c.finish-2.ensures.costs;
  leaves = c.finish-2.ensures.crash_safe;
  log_area = c.finish-2.ensures.log_area;
}

pub returns-in_err-finish-clause-err : goal.returns-in_err-finish-clause-err
returns-in_err-finish-clause-err g c = on_error _ _ (finish_fails c.args.body c.args.self.now c.finish.new.self
    c.in_err-finish.ensures.err c.in_err-finish.ensures.costs.calls)

pub returns-in_err-finish-clause-crash_safe : goal.returns-in_err-finish-clause-crash_safe
returns-in_err-finish-clause-crash_safe g c = finish_crash_safe c.args.body c.args.self.now c.finish.new.self
    c.finish.ensures.crash_safe c.finish.ensures.log_area

pub returns-in_err-finish-clause-log_area : goal.returns-in_err-finish-clause-log_area
returns-in_err-finish-clause-log_area g c = stays_keeps c.args.self.now.disk.moments c.finish.new.self.disk.moments
    c.finish.ensures.log_area

pub returns-in_err-finish-clause-costs : goal.returns-in_err-finish-clause-costs
returns-in_err-finish-clause-costs g c =
    let failed : is_ok c.from_residual.result ≡ false = search rules in
    subst (λ made. CommitCosts c.args.body made c.args.self.now c.finish.new.self) (sym failed)
    (finish_fails_costs c.args.body c.args.self.now c.finish.new.self c.in_err-finish.ensures.costs)

pub returns-in_err-begin-clause-err : goal.returns-in_err-begin-clause-err
returns-in_err-begin-clause-err g c = on_error _ _ (begin_fails c.args.body c.args.self.now c.finish.new.self c.begin.new.self
    c.in_err-begin.ensures.err (begin_failed g c))

pub returns-in_err-begin-clause-crash_safe : goal.returns-in_err-begin-clause-crash_safe
returns-in_err-begin-clause-crash_safe g c = begin_crash_safe c.args.body c.args.self.now c.finish.new.self c.begin.new.self
    (begin_failed g c)

pub returns-in_err-begin-clause-log_area : goal.returns-in_err-begin-clause-log_area
returns-in_err-begin-clause-log_area g c = begin_keeps c.args.body c.args.self.now c.finish.new.self c.begin.new.self
    (begin_failed g c)

pub returns-in_err-begin-clause-costs : goal.returns-in_err-begin-clause-costs
returns-in_err-begin-clause-costs g c =
    let failed : is_ok c.from_residual-in_err-begin.result ≡ false = search rules in
    subst (λ made. CommitCosts c.args.body made c.args.self.now c.begin.new.self) (sym failed)
    (begin_fails_costs c.args.body c.args.self.now c.finish.new.self c.begin.new.self (begin_failed g c))

pub returns-clause-ok : goal.returns-clause-ok
returns-clause-ok g c = committed c.finish-2.result c.args.body c.args.self.now c.finish.new.self c.begin.new.self
    c.finish-2.new.self (ended g c)

pub returns-clause-err : goal.returns-clause-err
returns-clause-err g c = end_fails c.finish-2.result c.args.body c.args.self.now c.finish.new.self c.begin.new.self
    c.finish-2.new.self (ended g c)

pub returns-clause-crash_safe : goal.returns-clause-crash_safe
returns-clause-crash_safe g c = end_crash_safe c.finish-2.result c.args.body c.args.self.now c.finish.new.self c.begin.new.self
    c.finish-2.new.self (ended g c)

pub returns-clause-log_area : goal.returns-clause-log_area
returns-clause-log_area g c = end_keeps c.finish-2.result c.args.body c.args.self.now c.finish.new.self c.begin.new.self
    c.finish-2.new.self (ended g c)

pub returns-clause-costs : goal.returns-clause-costs
returns-clause-costs g c = end_costs c.finish-2.result c.args.body c.args.self.now c.finish.new.self c.begin.new.self
    c.finish-2.new.self (ended g c)
