use Rattle.std.proofs.Common.{◌≡◌, ◌++◌, codes, length, take, drop, refl, ◌∙◌, ap, rules}
use Rattle.std.proofs.lemmas.List.{take_at}
use Rattle.std.specs.Int.{w32, w64, to_be_bytes}
use Rattle.log_record.proofs.HeaderLemmas.{is_spelled, written_front, filled_header, header-same}
use Rattle.log_record.proofs.encoding.write_header.Goals as goal

pub returns : goal.returns
returns c =
    let magic = codes "LSVDREC1" in
    let kind = to_be_bytes w32 c.kind.result in
    let seq = to_be_bytes w64 c.args.seq in
    let lba = to_be_bytes w64 c.lba.result in
    let sectors = to_be_bytes w64 c.sectors.result in
    let is_magic = c.copy_from_slice.ensures.after in
    let to_magic : take 8 (c.copy_from_slice.new.self ++ drop 8 c.args.sector.now) ≡ magic =
    take_at c.copy_from_slice.new.self (drop 8 c.args.sector.now) 8 (ap length is_magic) ∙ is_magic in
    let to_kind = written_front 8 magic kind _ _ to_magic refl c.write_u32.ensures in
    let to_seq = written_front 12 (magic ++ kind) seq _ _ to_kind refl c.write_u64.ensures in
    let to_lba = written_front 20 (magic ++ kind ++ seq) lba _ _ to_seq refl c.write_u64-2.ensures in
    let to_sectors = written_front 28 (magic ++ kind ++ seq ++ lba) sectors _ _ to_lba refl c.write_u64-3.ensures in
    is_spelled c.args.head.now c.args.seq _ (
    filled_header c.kind.result c.args.seq c.lba.result c.sectors.result c.write_u64-3.new.bytes c.fill.new.self
    (search rules) to_sectors (search rules)
    ∙ header-same _ _ _ _ _ _ _ c.kind.ensures c.lba.ensures c.sectors.ensures)
