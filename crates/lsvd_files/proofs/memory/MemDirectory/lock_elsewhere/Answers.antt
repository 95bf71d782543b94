use Rattle.lsvd_files.specs.Memory.{locked_file}
use Rattle.lsvd_files.proofs.Kept.{inside_changed}
use Rattle.lsvd_files.proofs.memory.MemDirectory.lock_elsewhere.Goals as goal

pub invariant_of-self : goal.invariant_of-self
invariant_of-self c =
    let self = c.self.inside in
    inside_changed self.names self.before.items self.files.items c.hold.new.files.items c.in-Some.number locked_file
    c.hold.ensures c.self.invariant
