use Rattle.std.proofs.Common.{length, ap, arith}
use Rattle.std.proofs.Common.{length-append}
use Rattle.batcher.specs.Rows.{payload_bytes}
use Rattle.batcher.proofs.Written.{payload_is, may_be_written}
use Rattle.batcher.proofs.PieceLemmas.{length-payload}
use Rattle.batcher.proofs.sealing.write_object.Goals as goal

pub new-requires : goal.new-requires
new-requires c =
    may_be_written c.args.expected.now c.args.first_seq c.args.end_seq c.args.entries.now.items c.args.extents.now
    c.in_ok-data_rows.field-0
    c.in_ok-data_rows.ensures c.requires

pub append_payload-requires-clause-size : goal.append_payload-requires-clause-size
append_payload-requires-clause-size c =
    omega (
      arith,
      c.in_ok-writer.ensures.missing,
      payload_is c.args.extents.now c.in_ok-data_rows.field-0
          c.in_ok-data_rows.ensures,
    )

pub finish-requires : goal.finish-requires
finish-requires c =
    omega (
      arith,
      ap (λ w. length w.bytes) c.append_payload.ensures,
      ap (λ w. w.size) c.append_payload.ensures,
      length-append c.in_ok-writer.writer.bytes (payload_bytes c.args.entries.now.items c.args.extents.now),
      length-payload c.args.entries.now.items c.args.extents.now c.requires.bodies,
      c.in_ok-writer.ensures.missing,
      payload_is c.args.extents.now c.in_ok-data_rows.field-0 c.in_ok-data_rows.ensures,
    )
