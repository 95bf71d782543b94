use Rattle.std.proofs.Common.{arith}
use Rattle.clone_opening.proofs.RaisedLemmas.{raised_written, has_next_level}
use Rattle.clone_opening.proofs.opening.raised_checkpoint.Goals as goal

pub raised-requires : goal.raised-requires
raised-requires c =
    let gives = rw c.in-Some.ensures at c.next_row.ensures.gives in
    has_next_level c.args.base.now c.args.clone.now c.loop-row.rows.expected c.loop-row.rows.given c.in-Some.row
    c.requires.levels (omega arith) c.loop-row.invariant.base gives.spelling

pub finish-requires-clause-spelling : goal.finish-requires-clause-spelling
finish-requires-clause-spelling c =
    let l = c.loop-row in
    let gives = rw c.in_default.ensures at c.next_row.ensures.gives in
    raised_written c.args.base.now c.args.clone.now c.requires.levels (omega arith) c.requires.sectors l.rows.expected
    l.writer.expected l.rows.given l.writer.rows l.invariant.base l.invariant.clone l.invariant.written
    gives.is_checkpoint.rows_are
