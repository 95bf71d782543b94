use Rattle.std.proofs.Common.{arith, ap, sym}
use Rattle.lsvd_files.specs.Calls.{synced_file}
use Rattle.lsvd_files.proofs.Kept.{changed_set, changed_past}
use Rattle.lsvd_files.proofs.memory.settle.Goals as goal

pub returns-then-number-len : goal.returns-then-number-len
returns-then-number-len c =
    changed_set c.args.files.now.items c.args.number synced_file c.index_mut-file.result.now _ c.index_mut-file.ensures.value
    (ap synced_file (sym c.file.view_is))

pub returns-else-number-len : goal.returns-else-number-len
returns-else-number-len c = changed_past c.args.files.now.items c.args.number synced_file (omega arith)
