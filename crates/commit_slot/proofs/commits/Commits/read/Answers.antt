use Rattle.commit_slot.specs.States.{AreCommits}
use Rattle.commit_slot.proofs.CommitLemmas.{on_disk}
use Rattle.commit_slot.proofs.WriteLemmas.{lent_same}
use Rattle.commit_slot.proofs.commits.Commits.read.Given as given
use Rattle.commit_slot.proofs.commits.Commits.read.Goals as goal
use Rattle.commit_slot.proofs.commits.Commits.read.Goals.{After-read}

are : (g : given.Over) (c : After-read g) → AreCommits c.self.inside.number c.self.inside.body c.self.inside.unfinished
    (g.D.Disk.state c.read.new.self)
are g c =
    lent_same (record {
      number = c.self.inside.number;
      body = c.self.inside.body;
      unfinished = c.self.inside.unfinished;
      disk = g.D.Disk.state c.self.inside.disk;
    }) (g.D.Disk.state c.read.new.self) c.self.invariant
    (record { size = c.read.ensures.call.size; is_disk = c.read.ensures.disk }) c.read.ensures.moments

pub invariant_of-self : goal.invariant_of-self
invariant_of-self g c = are g (goal.at.invariant_of-self g c).After-read

pub returns-clause-on_disk : goal.returns-clause-on_disk
returns-clause-on_disk g c = on_disk (record {
  number = c.self.inside.number;
  body = c.self.inside.body;
  unfinished = c.self.inside.unfinished;
  disk = g.D.Disk.state c.read.new.self;
})
    (are g (goal.at.returns-clause-on_disk g c).After-read)
