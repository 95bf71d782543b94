use Rattle.std.proofs.Common.{◌+◌, ◌≤◌, length, subst, sym}
use Rattle.commit_slot.specs.Commits.{CommitsState, IsLast, LeavesSince}
use Rattle.commit_slot.proofs.CommitLemmas.{on_disk}
use Rattle.commit_slot.proofs.WriteLemmas.{IsLent, lent, lent_stand, lent_leaves}
use Rattle.commit_slot.proofs.commits.Commits.write.Given as given
use Rattle.commit_slot.proofs.commits.Commits.write.Goals as goal
use Rattle.commit_slot.proofs.commits.Commits.write.Goals.{After-write}

-- the slots stand as before
is_lent : (g : given.Over) (c : After-write g)
    → IsLent (record {
      number = c.self.inside.number;
      body = c.self.inside.body;
      unfinished = c.self.inside.unfinished;
      disk = g.D.Disk.state c.self.inside.disk;
    }) (g.D.Disk.state c.write.new.self)
is_lent g c =
    lent c.write.result c.args.at c.args.piece.now _ _ c.requires.log_area
    (subst (λ (s : CommitsState). c.args.at + length c.args.piece.now ≤ s.disk.size) (sym c.self.view_is) c.requires.inside)
    c.self.invariant
    (record { size = c.write.ensures.call.size; is_disk = c.write.ensures.disk }) c.write.ensures.ok c.write.ensures.err

pub invariant_of-self : goal.invariant_of-self
invariant_of-self g c = lent_stand _ _ (is_lent g c)

pub returns-clause-crash_safe : goal.returns-clause-crash_safe
returns-clause-crash_safe g c = subst (λ (s : CommitsState). LeavesSince (IsLast s) s.disk (g.D.Disk.state c.write.new.self))
    c.self.view_is (lent_leaves _ _ (is_lent g c))

pub returns-clause-on_disk : goal.returns-clause-on_disk
returns-clause-on_disk g c =
    on_disk (record {
      number = c.self.inside.number;
      body = c.self.inside.body;
      unfinished = c.self.inside.unfinished;
      disk = g.D.Disk.state c.write.new.self;
    }) (lent_stand _ _ (is_lent g c))
