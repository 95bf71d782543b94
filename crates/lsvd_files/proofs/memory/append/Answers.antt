use Rattle.std.proofs.Common.{arith, ◌∙◌, [], append-nil, sym}
use Rattle.lsvd_files.specs.Calls.{appended}
use Rattle.lsvd_files.proofs.Chained.{at_error}
use Rattle.lsvd_files.proofs.Kept.{changed_set, changed_past, appended_is}
use Rattle.lsvd_files.proofs.memory.append.Goals as goal

pub returns-in_err-extend_from_slice-clause-err : goal.returns-in_err-extend_from_slice-clause-err
returns-in_err-extend_from_slice-clause-err c =
    let file = c.index_mut-file.result.now in
    let same = c.in_err-extend_from_slice.ensures.items ∙ sym (append-nil c.file.inside.bytes.items) in
    at_error c.from_residual.result (changed_set c.args.files.now.items c.args.number (appended []) file _
    c.index_mut-file.ensures.value (appended_is file c.file.inside.bytes.items _ [] c.file.inside.synced _ _ c.file.view_is
    same))

pub returns-in_ok-extend_from_slice-clause-ok : goal.returns-in_ok-extend_from_slice-clause-ok
returns-in_ok-extend_from_slice-clause-ok c =
    let file = c.index_mut-file.result.now in
    changed_set c.args.files.now.items c.args.number (appended c.args.piece.now) file _ c.index_mut-file.ensures.value
    (appended_is file c.file.inside.bytes.items _ c.args.piece.now c.file.inside.synced _ _ c.file.view_is
    c.in_ok-extend_from_slice.ensures.items)

pub returns-else-number-len-clause-ok : goal.returns-else-number-len-clause-ok
returns-else-number-len-clause-ok c =
    changed_past c.args.files.now.items c.args.number (appended c.args.piece.now) (omega arith)
