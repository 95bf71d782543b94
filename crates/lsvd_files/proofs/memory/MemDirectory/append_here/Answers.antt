use Rattle.std.proofs.Common.{[]}
use Rattle.lsvd_files.specs.Calls.{appended}
use Rattle.lsvd_files.proofs.Kept.{inside_changed}
use Rattle.lsvd_files.proofs.memory.MemDirectory.append_here.Goals as goal

pub invariant_of-self : goal.invariant_of-self
invariant_of-self c =
    let self = c.self.inside in
    inside_changed self.names self.before.items self.files.items c.append.new.files.items c.args.number (appended [])
    c.in_err-append.ensures.err c.self.invariant

pub invariant_of-self-2 : goal.invariant_of-self-2
invariant_of-self-2 c =
    let self = c.self.inside in
    inside_changed self.names self.before.items self.files.items c.append.new.files.items c.args.number
    (appended c.args.piece.now) c.in_ok-append.ensures.ok c.self.invariant
