use Rattle.std.proofs.Common.{sym, ◌∙◌, subst}
use Rattle.log_record.specs.declared.head.Head.{Head}
use Rattle.log_record.specs.Grammar.{IsHeaderOf}
use Rattle.log_record.proofs.RecordLemmas.{length-header_part, write_with_data, zero_has_no_data}
use Rattle.log_record.proofs.encoding.encode_into.Goals as goal

pub slice_bounds-write_header-end-2 : goal.slice_bounds-write_header-end-2
slice_bounds-write_header-end-2 c = sym (length-header_part c.args.entry.now c.args.bytes.now c.requires)

pub write_header-requires : goal.write_header-requires
write_header-requires c = length-header_part c.args.entry.now c.args.bytes.now c.requires

pub returns-in-Write : goal.returns-in-Write
returns-in-Write c =
    write_with_data c.args.entry.now c.in-Write.lba c.args.seq c.in-Write.body c.args.bytes.now _ _ c.in-Write.is
    (subst (λ (h : Head). IsHeaderOf h c.args.seq c.write_header.new.sector) c.of.ensures c.write_header.ensures)
    (c.copy_from_slice.ensures.after ∙ c.as_bytes.ensures.bytes)

pub returns-in_default : goal.returns-in_default
returns-in_default c =
    zero_has_no_data c.args.entry.now c.in_default.field-0 c.in_default.field-1 c.args.seq c.args.bytes.now _
    c.in_default.is c.requires
    (subst (λ (h : Head). IsHeaderOf h c.args.seq c.write_header.new.sector) c.of.ensures c.write_header.ensures)
