use Rattle.std.proofs.Common.{◌+◌, ◌<◌, ◌^◌, subst, sym, ◌∙◌, ap}
use Rattle.std.specs.Prelude.{Some}
use Rattle.commit_body.specs.Body.{MayStand}
use Rattle.commit_slot.specs.Slots.{log_of}
use Rattle.commit_slot.specs.Commits.{CommitsState, IsCommit, LeavesSince}
use Rattle.commit_slot.proofs.CommitLemmas.{BeginFails, BeginMakes, begin_failed, begin_failed_leaves, begin_made}
use Rattle.commit_slot.proofs.CommitLemmas.{begin_made_leaves, on_disk}
use Rattle.commit_slot.proofs.commits.Commits.begin.Given as given
use Rattle.commit_slot.proofs.commits.Commits.begin.Goals as goal
use Rattle.commit_slot.proofs.commits.Commits.begin.Goals.{After-from_residual, In_ok-write_body_and_close}

failed : (g : given.Over) (c : After-from_residual g)
    → BeginFails (record {
      number = c.self.inside.number;
      body = c.self.inside.body;
      unfinished = c.self.inside.unfinished;
      disk = g.D.Disk.state c.self.inside.disk;
    }) (g.D.Disk.state c.write_body_and_close.new.disk)
failed g c = record {
  none = ap (λ (s : CommitsState). s.unfinished) c.self.view_is ∙ c.requires.none;
  stand = c.self.invariant;
  fails = c.in_err-write_body_and_close.ensures.err;
  left = record { size = c.write_body_and_close.ensures.costs.calls.size; is_disk = c.write_body_and_close.ensures.is_disk };
}

made : (g : given.Over) (c : In_ok-write_body_and_close g)
    → BeginMakes (record {
      number = c.self.inside.number;
      body = c.self.inside.body;
      unfinished = c.self.inside.unfinished;
      disk = g.D.Disk.state c.self.inside.disk;
    }) c.args.body (g.D.Disk.state c.write_body_and_close.new.disk)
made g c = record {
  none = ap (λ (s : CommitsState). s.unfinished) c.self.view_is ∙ c.requires.none;
  stand = c.self.invariant;
  makes = c.in_ok-write_body_and_close.ensures.ok;
  left = record { size = c.write_body_and_close.ensures.costs.calls.size; is_disk = c.write_body_and_close.ensures.is_disk };
  fits = subst (λ (s : CommitsState). s.number + 1 < 2 ^ 64) (sym c.self.view_is) c.requires.number;
  may_stand = subst (λ (s : CommitsState). MayStand c.args.body (log_of s.disk.size)) (sym c.self.view_is) c.requires.may_stand;
}

pub invariant_of-self : goal.invariant_of-self
invariant_of-self g c = begin_failed _ _ (failed g c)

pub returns-in_err-write_body_and_close-clause-crash_safe : goal.returns-in_err-write_body_and_close-clause-crash_safe
returns-in_err-write_body_and_close-clause-crash_safe g c =
    subst (λ (s : CommitsState). LeavesSince (IsCommit s.number s.body) s.disk (g.D.Disk.state c.write_body_and_close.new.disk))
    c.self.view_is (begin_failed_leaves _ _ (failed g c))

pub returns-in_err-write_body_and_close-clause-on_disk : goal.returns-in_err-write_body_and_close-clause-on_disk
returns-in_err-write_body_and_close-clause-on_disk g c =
    on_disk (record {
      number = c.self.inside.number;
      body = c.self.inside.body;
      unfinished = c.self.inside.unfinished;
      disk = g.D.Disk.state c.write_body_and_close.new.disk;
    }) (begin_failed _ _ (failed g c))

pub invariant_of-self-2 : goal.invariant_of-self-2
invariant_of-self-2 g c = begin_made _ _ _ (made g (goal.at.invariant_of-self-2 g c).In_ok-write_body_and_close)

pub returns-clause-crash_safe : goal.returns-clause-crash_safe
returns-clause-crash_safe g c =
    subst (λ (s : CommitsState). LeavesSince (IsCommit s.number s.body) s.disk (g.D.Disk.state c.write_body_and_close.new.disk))
    c.self.view_is (begin_made_leaves _ _ _ (made g (goal.at.returns-clause-crash_safe g c).In_ok-write_body_and_close))

pub returns-clause-on_disk : goal.returns-clause-on_disk
returns-clause-on_disk g c =
    on_disk (record {
      number = c.self.inside.number;
      body = c.self.inside.body;
      unfinished = Some c.args.body;
      disk = g.D.Disk.state c.write_body_and_close.new.disk;
    })
    (begin_made _ _ _ (made g (goal.at.returns-clause-on_disk g c).In_ok-write_body_and_close))
