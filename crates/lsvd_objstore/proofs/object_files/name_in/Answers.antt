use Rattle.std.proofs.Common.{◌∙◌, sym}
use Rattle.lsvd_objstore.proofs.Naming.{of_other_volume}
use Rattle.lsvd_objstore.proofs.object_files.name_in.Goals as goal

pub returns-then-ne-clause-none : goal.returns-then-ne-clause-none
returns-then-ne-clause-none c =
    of_other_volume c.args.uuid c.args.file.now c.in_ok-name.name c.in_ok-name.ensures.found (sym c.ne.ensures ∙ c.if-ne.true)
