use Rattle.std.proofs.Common.{rules, ◌≡◌, ◌+◌, ◌≤◌, ◌++◌, length}
use Rattle.gathered_disk.proofs.Steps.{gathered_behind}
use Rattle.gathered_disk.proofs.disk.GatheredDisk.gather.Goals as goal

pub invariant_of-self-2 : goal.invariant_of-self-2
invariant_of-self-2 g c =
    let place : c.self.inside.at + length c.self.inside.gathered.items ≡ c.args.at = search rules in
    let inside : c.args.at + length c.args.piece.now ≤ (g.D.Disk.state c.self.inside.disk).size = search rules in
    let more : c.extend_from_slice.new.self.items ≡ c.self.inside.gathered.items ++ c.args.piece.now = search rules in
    gathered_behind _ c.args.at c.args.piece.now _ _ c.self.invariant place inside more c.note_write.ensures
