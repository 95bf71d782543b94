use Rattle.std.proofs.Common.{◌+◌, ◌++◌, take, drop, ◌∙◌, ap, arith}
use Rattle.std.specs.Int.{w64, to_be_bytes}
use Rattle.object_format.specs.Rows.{place_number, data_row_bytes}
use Rattle.object_format.proofs.WritingLemmas.{written_after}
use Rattle.object_format.proofs.data_row.DataRow.write.Goals as goal

pub returns : goal.returns
unfolding data_row_bytes
returns c =
    let row = c.args.self.now in
    let at = c.args.at in
    let old = c.args.bytes.now in
    let lba = to_be_bytes w64 row.lba in
    let sectors = to_be_bytes w64 row.sectors in
    let place = to_be_bytes w64 (place_number row.place) in
    let to_sectors = written_after at lba sectors old c.write_u64.new.bytes c.write_u64-2.new.bytes
    (omega (arith, c.requires)) c.write_u64.ensures c.write_u64-2.ensures in
    let mid = c.write_u64-2.new.bytes in
    written_after at (lba ++ sectors) place old mid c.write_u64-3.new.bytes (omega (arith, c.requires)) to_sectors
    (c.write_u64-3.ensures ∙ ap (λ n. take (at + 16) mid ++ to_be_bytes w64 n ++ drop (at + 16 + 8) mid) c.place_number.ensures)
