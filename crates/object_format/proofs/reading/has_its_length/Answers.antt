use Rattle.std.proofs.Common.{sym, arith}
use Rattle.std.proofs.lemmas.List.{length-take-le}
use Rattle.object_format.proofs.reading.has_its_length.Goals as goal

pub slice_bounds-header_in-end : goal.slice_bounds-header_in-end
slice_bounds-header_in-end c = sym (length-take-le 64 c.args.bytes.now (omega (arith, c.if-size.false, c.requires)))

pub header_in-requires : goal.header_in-requires
header_in-requires c = length-take-le 64 c.args.bytes.now (omega (arith, c.if-size.false, c.requires))
