use Rattle.std.proofs.Common.{rules, ◌≡◌, true}
use Rattle.lsvd_files.proofs.Listed.{names_listed}
use Rattle.lsvd_files.proofs.memory.MemDirectoryDirectory.names.Goals as goal

pub returns-clause-ok : goal.returns-clause-ok
returns-clause-ok c =
    let stands : c.self.inside.stands ≡ true = search rules in
    names_listed c.args.self.now _ c.in_ok-listed.field-0 c.self.view_is stands c.in_ok-listed.ensures c.self.invariant.0
