use Rattle.std.proofs.Common.{◌+◌, subst, refl}
use Rattle.std.specs.Prelude.{None}
use Rattle.commit_slot.specs.Commits.{CommitsState, IsLast, IsCommit, LeavesNow, LeavesSince}
use Rattle.commit_slot.specs.OnDisk.{AreOnDisk}
use Rattle.commit_slot.proofs.HalfLemmas.{settled_now}
use Rattle.commit_slot.proofs.CommitLemmas.{FinishFails, FinishMakes, only_now, on_disk, finish_failed, finish_failed_leaves}
use Rattle.commit_slot.proofs.CommitLemmas.{finish_made, finish_made_leaves}
use Rattle.commit_slot.proofs.commits.Commits.finish.Given as given
use Rattle.commit_slot.proofs.commits.Commits.finish.Goals as goal
use Rattle.commit_slot.proofs.commits.Commits.finish.Goals.{In_default, After-from_residual, In_ok-open_and_sync}

failed : (g : given.Over) (c : After-from_residual g)
    → FinishFails (record {
      number = c.self.inside.number;
      body = c.self.inside.body;
      unfinished = c.self.inside.unfinished;
      disk = g.D.Disk.state c.self.inside.disk;
    }) c.in-Some.body (g.D.Disk.state c.open_and_sync.new.disk)
failed g c = record {
  some = c.in-Some.is;
  stand = c.self.invariant;
  fails = c.in_err-open_and_sync.ensures.err;
  left = record { size = c.open_and_sync.ensures.costs.calls.size; is_disk = c.open_and_sync.ensures.is_disk };
}

made : (g : given.Over) (c : In_ok-open_and_sync g)
    → FinishMakes (record {
      number = c.self.inside.number;
      body = c.self.inside.body;
      unfinished = c.self.inside.unfinished;
      disk = g.D.Disk.state c.self.inside.disk;
    }) c.in-Some.body (g.D.Disk.state c.open_and_sync.new.disk)
made g c = record {
  some = c.in-Some.is;
  stand = c.self.invariant;
  makes = c.in_ok-open_and_sync.ensures.ok;
  left = record { size = c.open_and_sync.ensures.costs.calls.size; is_disk = c.open_and_sync.ensures.is_disk };
}

pub returns-in_default-clause-stands : goal.returns-in_default-clause-stands
returns-in_default-clause-stands g c =
    let commits : CommitsState = record {
      number = c.self.inside.number;
      body = c.self.inside.body;
      unfinished =
          c.self.inside.unfinished;
      disk = g.D.Disk.state c.self.inside.disk;
    } in
    subst (λ (s : CommitsState). LeavesNow (IsCommit s.number s.body) s.disk) c.self.view_is
    (only_now commits c.in_default.is c.self.invariant)

pub returns-in_default-clause-on_disk : goal.returns-in_default-clause-on_disk
returns-in_default-clause-on_disk g c =
    let commits : CommitsState = record {
      number = c.self.inside.number;
      body = c.self.inside.body;
      unfinished =
          c.self.inside.unfinished;
      disk = g.D.Disk.state c.self.inside.disk;
    } in
    subst AreOnDisk c.self.view_is (on_disk commits c.self.invariant)

pub invariant_of-self : goal.invariant_of-self
invariant_of-self g c = finish_failed _ _ _ (failed g c)

pub returns-in_err-open_and_sync-clause-crash_safe : goal.returns-in_err-open_and_sync-clause-crash_safe
returns-in_err-open_and_sync-clause-crash_safe g c =
    subst (λ (s : CommitsState). LeavesSince (IsLast s) s.disk (g.D.Disk.state c.open_and_sync.new.disk)) c.self.view_is
    (finish_failed_leaves _ _ _ (failed g c))

pub returns-in_err-open_and_sync-clause-on_disk : goal.returns-in_err-open_and_sync-clause-on_disk
returns-in_err-open_and_sync-clause-on_disk g c =
    on_disk (record {
      number = c.self.inside.number;
      body = c.self.inside.body;
      unfinished = c.self.inside.unfinished;
      disk = g.D.Disk.state c.open_and_sync.new.disk;
    }) (finish_failed _ _ _ (failed g c))

pub invariant_of-self-2 : goal.invariant_of-self-2
invariant_of-self-2 g c = finish_made _ _ _ (made g (goal.at.invariant_of-self-2 g c).In_ok-open_and_sync)

pub returns-clause-crash_safe : goal.returns-clause-crash_safe
returns-clause-crash_safe g c =
    subst (λ (s : CommitsState). LeavesSince (IsLast s) s.disk (g.D.Disk.state c.open_and_sync.new.disk)) c.self.view_is
    (finish_made_leaves _ _ _ (made g (goal.at.returns-clause-crash_safe g c).In_ok-open_and_sync))

pub returns-clause-stands : goal.returns-clause-stands
returns-clause-stands g c =
    settled_now (c.self.inside.number + 1) c.in-Some.body (IsCommit (c.self.inside.number + 1) c.in-Some.body)
    (g.D.Disk.state c.open_and_sync.new.disk) (record { same_number = refl; same_body = refl })
    (finish_made _ _ _ (made g (goal.at.returns-clause-stands g c).In_ok-open_and_sync))

pub returns-clause-on_disk : goal.returns-clause-on_disk
returns-clause-on_disk g c =
    on_disk (record {
      number = c.self.inside.number + 1;
      body = c.in-Some.body;
      unfinished = None;
      disk = g.D.Disk.state c.open_and_sync.new.disk;
    })
    (finish_made _ _ _ (made g (goal.at.returns-clause-on_disk g c).In_ok-open_and_sync))
