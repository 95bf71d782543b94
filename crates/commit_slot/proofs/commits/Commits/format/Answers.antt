use Rattle.std.proofs.Common.{refl}
use Rattle.std.specs.Prelude.{None}
use Rattle.commit_slot.specs.Commits.{IsCommit}
use Rattle.commit_slot.specs.States.{AreCommits}
use Rattle.commit_slot.proofs.HalfLemmas.{are_commits, settled_now}
use Rattle.commit_slot.proofs.CommitLemmas.{on_disk}
use Rattle.commit_slot.proofs.commits.Commits.format.Given as given
use Rattle.commit_slot.proofs.commits.Commits.format.Goals as goal
use Rattle.commit_slot.proofs.commits.Commits.format.Goals.{In-Ok}

are : (g : given.Over) (c : In-Ok g) → AreCommits 0 c.args.body None (g.D.Disk.state c.format_slots.new.disk)
are g c =
    are_commits 0 c.args.body None (g.D.Disk.state c.args.disk) (g.D.Disk.state c.format_slots.new.disk) c.requires.size
    (record { size = c.format_slots.ensures.costs.calls.size; is_disk = c.format_slots.ensures.is_disk })
    (record { may_stand = c.requires.may_stand; next = tt }) c.in-Ok.ensures.ok

pub returns-in-Ok-clause-ok : goal.returns-in-Ok-clause-ok
returns-in-Ok-clause-ok g c = record {
  first = record { same_number = refl; same_body = refl; same_unfinished = refl };
  stands = settled_now 0 c.args.body (IsCommit 0 c.args.body) (g.D.Disk.state c.format_slots.new.disk)
      (record { same_number = refl; same_body = refl }) (are g c);
  synced = c.in-Ok.ensures.synced;
}

pub returns-in-Ok-clause-on_disk : goal.returns-in-Ok-clause-on_disk
returns-in-Ok-clause-on_disk g c = on_disk
    (record { number = 0; body = c.args.body; unfinished = None; disk = g.D.Disk.state c.format_slots.new.disk }) (are g c)
