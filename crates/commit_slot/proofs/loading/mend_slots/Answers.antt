use Rattle.std.proofs.Common.{rules, ◌≡◌, true, false, sym, subst}
use Rattle.std.specs.Prelude.{is_ok}
use Rattle.commit_slot.specs.Loading.{MakesAtMost}
use Rattle.commit_slot.specs.Mending.{mend_cost}
use Rattle.commit_slot.proofs.MendPaths.{IsMending, mending_newest, mending_stays, mending_costs, mended_none, mended}
use Rattle.commit_slot.proofs.MendPaths.{mended_newest, mended_stays, mended_costs}
use Rattle.commit_slot.proofs.loading.mend_slots.Given as given
use Rattle.commit_slot.proofs.loading.mend_slots.Goals as goal
use Rattle.commit_slot.proofs.loading.mend_slots.Goals.{In_ok-cleared, After-from_residual-in_err-cleared}

-- the third slot was not cleared, since a call failed
clear_failed : (g : given.Over) (c : After-from_residual-in_err-cleared g)
    → IsMending c.args.number false (g.D.Disk.state c.args.disk.now) (g.D.Disk.state c.close_next.new.disk)
    (g.D.Disk.state c.clear_third.new.disk)
clear_failed g c = record {
  least = c.requires.size;
  is_disk = c.requires.is_disk;
  is_disk' = c.clear_third.ensures.is_disk;
  close = c.in_ok-closed.ensures.costs;
  clear = c.in_err-cleared.ensures.costs;
  close_newest = c.close_next.ensures.newest;
  clear_newest = c.clear_third.ensures.newest;
  close_log_area = c.close_next.ensures.log_area;
  clear_log_area = c.clear_third.ensures.log_area;
}

-- both slots are as they are to be
both : (g : given.Over) (c : In_ok-cleared g) → IsMending c.args.number true (g.D.Disk.state c.args.disk.now)
    (g.D.Disk.state c.close_next.new.disk) (g.D.Disk.state c.clear_third.new.disk)
both g c = record {
  least = c.requires.size;
  is_disk = c.requires.is_disk;
  is_disk' = c.clear_third.ensures.is_disk;
  close = c.in_ok-closed.ensures.costs;
  clear = c.in_ok-cleared.ensures.costs;
  close_newest = c.close_next.ensures.newest;
  clear_newest = c.clear_third.ensures.newest;
  close_log_area = c.close_next.ensures.log_area;
  clear_log_area = c.clear_third.ensures.log_area;
}

pub returns-in_err-cleared-clause-newest : goal.returns-in_err-cleared-clause-newest
returns-in_err-cleared-clause-newest g c = mending_newest _ _ _ _ _ (clear_failed g c)

pub returns-in_err-cleared-clause-log_area : goal.returns-in_err-cleared-clause-log_area
returns-in_err-cleared-clause-log_area g c = mending_stays _ _ _ _ _ (clear_failed g c)

pub returns-in_err-cleared-clause-costs : goal.returns-in_err-cleared-clause-costs
returns-in_err-cleared-clause-costs g c =
    let failed : is_ok c.from_residual-in_err-cleared.result ≡ false = search rules in
    subst (λ made. MakesAtMost mend_cost made (g.D.Disk.state c.args.disk.now) (g.D.Disk.state c.clear_third.new.disk))
    (sym failed) (mending_costs _ _ _ _ _ (clear_failed g c))

pub returns-then-not-cleared-clause-mended : goal.returns-then-not-cleared-clause-mended
returns-then-not-cleared-clause-mended g c =
    mended_none _ _ _ _ (both g (goal.at.returns-then-not-cleared-clause-mended g c).In_ok-cleared) (search rules) (search rules)
    c.in_ok-closed.ensures.closed c.in_ok-cleared.ensures.older

pub returns-then-not-cleared-clause-newest : goal.returns-then-not-cleared-clause-newest
returns-then-not-cleared-clause-newest g c =
    mending_newest _ _ _ _ _ (both g (goal.at.returns-then-not-cleared-clause-mended g c).In_ok-cleared)

pub returns-then-not-cleared-clause-log_area : goal.returns-then-not-cleared-clause-log_area
returns-then-not-cleared-clause-log_area g c =
    mending_stays _ _ _ _ _ (both g (goal.at.returns-then-not-cleared-clause-mended g c).In_ok-cleared)

pub returns-then-not-cleared-clause-costs : goal.returns-then-not-cleared-clause-costs
returns-then-not-cleared-clause-costs g c =
    mending_costs _ _ _ _ _ (both g (goal.at.returns-then-not-cleared-clause-mended g c).In_ok-cleared)

pub returns-clause-mended : goal.returns-clause-mended
returns-clause-mended g c =
    mended c.sync.result _ _ _ _ (g.D.Disk.state c.sync.new.self) (both g (goal.at.returns-clause-mended g c).In_ok-cleared)
    (c.in_ok-cleared.ensures.closed c.in_ok-closed.ensures.closed) c.in_ok-cleared.ensures.older
    c.sync.ensures.ok

pub returns-clause-newest : goal.returns-clause-newest
returns-clause-newest g c = mended_newest c.sync.result _ _ _ _ (g.D.Disk.state c.sync.new.self)
    (both g (goal.at.returns-clause-mended g c).In_ok-cleared) c.sync.ensures.ok c.sync.ensures.err

pub returns-clause-log_area : goal.returns-clause-log_area
returns-clause-log_area g c = mended_stays c.sync.result _ _ _ _ (g.D.Disk.state c.sync.new.self)
    (both g (goal.at.returns-clause-mended g c).In_ok-cleared) c.sync.ensures.ok c.sync.ensures.err

pub returns-clause-costs : goal.returns-clause-costs
returns-clause-costs g c = mended_costs _ (is_ok c.sync.result) _ _ _ (g.D.Disk.state c.sync.new.self)
    (both g (goal.at.returns-clause-mended g c).In_ok-cleared) c.sync.ensures.call
