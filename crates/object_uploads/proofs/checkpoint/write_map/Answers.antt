use Rattle.std.proofs.Common.{◌-◌, arith, subst}
use Rattle.std.specs.List.{All}
use Rattle.object_uploads.specs.Invariant.{IsPlaceWide}
use Rattle.object_uploads.proofs.CheckpointLemmas.{few_rows, are_rows, row_left, all_written, spelled, holds_ok}
use Rattle.object_uploads.proofs.checkpoint.write_map.Goals as goal

-- the rows are no more than the sectors of the volume
pub overflow_cast-count : goal.overflow_cast-count
overflow_cast-count c =
    let few = few_rows c.args.expected.now.sectors c.args.expected.now.ancestors (c.args.expected.now.number - 1)
    c.args.map.now.rows
    c.in_order-rows.ensures.shortest c.requires.fit in
    omega (arith, few)

pub push-requires : goal.push-requires
push-requires c =
    let l = c.loop-row in
    row_left l.writer.rows l.rows c.next.new.self c.args.map.now.rows c.in-Some.row l.writer.count l.invariant.all
    c.in-Some.ensures.gives l.invariant.count

pub finish-requires-clause-spelling : goal.finish-requires-clause-spelling
finish-requires-clause-spelling c =
    let l = c.loop-row in
    let rows = c.args.map.now.rows in
    let written = all_written l.writer.rows l.rows rows l.invariant.all c.in_default.ensures.end in
    spelled c.args.expected.now l.writer.expected l.writer.rows rows l.invariant.expected written
    (are_rows c.args.expected.now rows c.requires.number c.requires.sectors c.in_order-rows.ensures.shortest
    (subst (All IsPlaceWide) written l.invariant.wide) c.requires.fit)

pub returns : goal.returns
returns c =
    let l = c.loop-row in
    let rows = c.args.map.now.rows in
    let written = all_written l.writer.rows l.rows rows l.invariant.all c.in_default.ensures.end in
    holds_ok c.from_bytes.result c.finish.result.items c.args.expected.now l.writer.expected c.args.end l.writer.end_seq
    l.writer.rows rows c.from_bytes.ensures c.finish.ensures l.invariant.expected l.invariant.end written
