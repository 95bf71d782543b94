use Rattle.std.proofs.Common.{refl}
use Rattle.std.specs.Prelude.{None}
use Rattle.commit_slot.specs.Commits.{IsCommit}
use Rattle.commit_slot.specs.States.{AreCommits}
use Rattle.commit_slot.proofs.HalfLemmas.{are_commits, settled_now}
use Rattle.commit_slot.proofs.CommitLemmas.{on_disk}
use Rattle.commit_slot.proofs.commits.Commits.load.Given as given
use Rattle.commit_slot.proofs.commits.Commits.load.Goals as goal
use Rattle.commit_slot.proofs.commits.Commits.load.Goals.{In-Ok}

are : (g : given.Over) (c : In-Ok g) → AreCommits c.in-Ok.number c.in-Ok.body None (g.D.Disk.state c.load_slots.new.disk)
are g c =
    are_commits c.in-Ok.number c.in-Ok.body None (g.D.Disk.state c.args.disk) (g.D.Disk.state c.load_slots.new.disk)
    c.requires.size
    (record { size = c.in-Ok.ensures.costs.calls.size; is_disk = c.load_slots.ensures.is_disk })
    (record { may_stand = c.in-Ok.ensures.may_stand; next = tt }) c.in-Ok.ensures.settled

pub returns-in-Ok-clause-ok : goal.returns-in-Ok-clause-ok
returns-in-Ok-clause-ok g c = record {
  read = c.in-Ok.ensures.read;
  finished = refl;
  stands = settled_now c.in-Ok.number c.in-Ok.body (IsCommit c.in-Ok.number c.in-Ok.body) (g.D.Disk.state c.load_slots.new.disk)
      (record { same_number = refl; same_body = refl }) (are g c);
  durable = c.in-Ok.ensures.durable;
  durable_now = c.in-Ok.ensures.durable_now;
  synced = c.in-Ok.ensures.synced;
}

pub returns-in-Ok-clause-on_disk : goal.returns-in-Ok-clause-on_disk
returns-in-Ok-clause-on_disk g c = on_disk (record {
  number = c.in-Ok.number;
  body = c.in-Ok.body;
  unfinished = None;
  disk = g.D.Disk.state c.load_slots.new.disk;
}) (are g c)
