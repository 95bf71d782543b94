use Rattle.std.proofs.Common.{◌++◌, arith}
use Rattle.std.specs.Int.{w32, w64, to_be_bytes}
use Rattle.object_format.specs.Rows.{copy_row_bytes}
use Rattle.object_format.proofs.WritingLemmas.{written_after}
use Rattle.object_format.proofs.copy_row.CopyRow.write.Goals as goal

pub returns : goal.returns
unfolding copy_row_bytes
returns c =
    let row = c.args.self.now in
    let at = c.args.at in
    let old = c.args.bytes.now in
    let lba = to_be_bytes w64 row.lba in
    let sectors = to_be_bytes w64 row.sectors in
    let place = to_be_bytes w64 row.place in
    let level = to_be_bytes w32 row.source.level in
    let number = to_be_bytes w64 row.source.number in
    let source_place = to_be_bytes w64 row.source.place in
    let to_sectors = written_after at lba sectors old _ c.write_u64-2.new.bytes (omega (arith, c.requires)) c.write_u64.ensures
    c.write_u64-2.ensures in
    let to_place = written_after at (lba ++ sectors) place old _ c.write_u64-3.new.bytes (omega (arith, c.requires)) to_sectors
    c.write_u64-3.ensures in
    let to_level = written_after at (lba ++ sectors ++ place) level old _ c.write_u32.new.bytes (omega (arith, c.requires))
    to_place c.write_u32.ensures in
    let to_number = written_after at (lba ++ sectors ++ place ++ level) number old _ c.write_u64-4.new.bytes
    (omega (arith, c.requires)) to_level c.write_u64-4.ensures in
    written_after at (lba ++ sectors ++ place ++ level ++ number) source_place old _ c.write_u64-5.new.bytes
    (omega (arith, c.requires)) to_number c.write_u64-5.ensures
