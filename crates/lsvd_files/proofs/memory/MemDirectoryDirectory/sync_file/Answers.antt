use Rattle.lsvd_files.specs.Calls.{doubted_file, synced_file}
use Rattle.lsvd_files.proofs.Kept.{inside_changed}
use Rattle.lsvd_files.proofs.memory.MemDirectoryDirectory.sync_file.Goals as goal

pub invariant_of-self : goal.invariant_of-self
invariant_of-self c =
    let self = c.self.inside in
    inside_changed self.names self.before.items self.files.items c.doubt.new.files.items c.args.file.now.number doubted_file
    c.doubt.ensures c.self.invariant

pub invariant_of-self-2 : goal.invariant_of-self-2
invariant_of-self-2 c =
    let self = c.self.inside in
    inside_changed self.names self.before.items self.files.items c.settle.new.files.items c.args.file.now.number synced_file
    c.settle.ensures c.self.invariant
