use Rattle.std.proofs.Common.{rules, ◌≡◌, ◌≤◌, []}
use Rattle.gathered_disk.proofs.Steps.{elsewhere}
use Rattle.gathered_disk.proofs.disk.GatheredDisk.make_way.Goals as goal

pub invariant_of-self : goal.invariant_of-self
invariant_of-self g c =
    let none : c.self.inside.gathered.items ≡ [] = search rules in
    let inside : c.args.at ≤ (g.D.Disk.state c.self.inside.disk).size = search rules in
    elsewhere _ c.args.at c.self.invariant none inside
