use Rattle.std.proofs.Common.{◌++◌, ◌∙◌, ap}
use Rattle.std.specs.Int.{w32, w64, to_be_bytes}
use Rattle.ckpt_format.specs.Rows.{row_bytes}
use Rattle.ckpt_format.proofs.WritingLemmas.{appended}
use Rattle.ckpt_format.proofs.row.append_row.Goals as goal

pub returns-clause-items : goal.returns-clause-items
unfolding row_bytes
returns-clause-items c =
    let row = c.args.row.now in
    let old = c.args.bytes.now.items in
    let lba = to_be_bytes w64 row.lba in
    let sectors = to_be_bytes w64 row.sectors in
    let level = to_be_bytes w32 row.place.level in
    let number = to_be_bytes w64 row.place.number in
    let place = to_be_bytes w64 row.place.place in
    let to_lba = c.append.ensures.items ∙ ap (λ xs. old ++ xs) (c.as_slice.ensures ∙ c.to_be_bytes.ensures) in
    let to_sectors = appended old lba sectors _ _ _ to_lba c.append-2.ensures.items
    (c.as_slice-2.ensures ∙ c.to_be_bytes-2.ensures) in
    let to_level = appended old (lba ++ sectors) level _ _ _ to_sectors c.append-3.ensures.items
    (c.as_slice-3.ensures ∙ c.to_be_bytes-3.ensures) in
    let to_number = appended old (lba ++ sectors ++ level) number _ _ _ to_level c.append-4.ensures.items
    (c.as_slice-4.ensures ∙ c.to_be_bytes-4.ensures) in
    appended old (lba ++ sectors ++ level ++ number) place _ _ _ to_number c.append-5.ensures.items
    (c.as_slice-5.ensures ∙ c.to_be_bytes-5.ensures)
