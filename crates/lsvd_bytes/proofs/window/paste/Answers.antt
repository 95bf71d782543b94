use Rattle.std.proofs.Common.{arith, ◌∙◌}
use Rattle.lsvd_bytes.proofs.Windows.{splice_seen, splice_unseen, part_same}
use Rattle.lsvd_bytes.proofs.window.paste.Goals as goal

pub returns-then-start-end : goal.returns-then-start-end
returns-then-start-end c =
    λ bytes window inside shows.
    splice_seen bytes c.args.piece.now c.args.window.now c.copy_from_slice.new.self c.args.from c.args.at
    c.min-start.result c.min-end.result window inside shows (omega arith)
    (omega arith) (c.copy_from_slice.ensures.after ∙ part_same c.args.piece.now _ _ _ _ (omega arith) (omega arith))

pub returns-else-start-end : goal.returns-else-start-end
returns-else-start-end c =
    λ bytes window inside shows.
    splice_unseen bytes c.args.piece.now c.args.window.now c.args.from c.args.at
    c.min-start.result c.min-end.result window inside shows (omega arith)
    (omega arith) (omega arith)
