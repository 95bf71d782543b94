use Rattle.std.proofs.Common.{◌≤◌, length, sym, ◌∙◌, arith, rules}
use Rattle.std.proofs.lemmas.List.{length-take-le}
use Rattle.object_format.proofs.WritingLemmas.{length-row_slot, front_if_written}
use Rattle.object_format.proofs.writing.write_front.Goals as goal

pub slice_bounds-write_header-end-2 : goal.slice_bounds-write_header-end-2
slice_bounds-write_header-end-2 c = sym (length-take-le 64 c.args.front.now (omega (arith, c.requires.size)))

pub write_header-requires : goal.write_header-requires
write_header-requires c = length-take-le 64 c.args.front.now (omega (arith, c.requires.size))

pub returns : goal.returns
returns c =
    let header_size = c.write_header.auto.head ∙ length-take-le 64 c.args.front.now (omega (arith, c.requires.size)) in
    let room : c.rows_end-rows_end.result ≤ length c.args.front.now =
    omega (arith, c.requires.size, c.rows_end-rows_end.ensures.is) in
    front_if_written c.args.header.now c.args.rows.now c.rows_end-rows_end.result c.args.front.now
    c.write_header.new.head c.write.new.bytes c.fill.new.self
    c.rows_end-rows_end.ensures.is c.requires.size
    header_size (c.write.auto.bytes ∙ length-row_slot c.rows_end-rows_end.result c.args.front.now c.write_header.new.head room
    header_size)
    c.write_header.ensures c.write.ensures (search rules)
