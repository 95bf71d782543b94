use Rattle.std.proofs.Common.{◌≡◌, ◌++◌, codes, sym, ◌∙◌, ap}
use Rattle.std.specs.Int.{w32, w64, to_be_bytes}
use Rattle.object_format.specs.Header.{header_bytes}
use Rattle.object_format.specs.Layout.{number_of}
use Rattle.ckpt_format.proofs.WritingLemmas.{appended}
use Rattle.ckpt_format.proofs.writing.append_header.Goals as goal

pub returns-clause-items : goal.returns-clause-items
unfolding header_bytes
returns-clause-items c =
    let header = c.args.header.now in
    let old = c.args.bytes.now.items in
    let magic = codes "LSVDOBJ1" in
    let kind = to_be_bytes w32 (number_of header.kind) in
    let uuid = header.uuid in
    let number = to_be_bytes w64 header.number in
    let first_seq = to_be_bytes w64 header.first_seq in
    let end_seq = to_be_bytes w64 header.end_seq in
    let rows = to_be_bytes w32 header.rows in
    let payload = to_be_bytes w64 header.payload in
    let is_kind : to_be_bytes w32 3 ≡ kind = ap (λ k. to_be_bytes w32 (number_of k)) (sym c.requires.kind) in
    let to_magic = c.append.ensures.items ∙ ap (λ xs. old ++ xs) c.as_slice.ensures in
    let to_kind = appended old magic kind _ _ _ to_magic c.append-2.ensures.items
    (c.as_slice-2.ensures ∙ c.to_be_bytes.ensures ∙ is_kind) in
    let to_uuid = appended old (magic ++ kind) uuid _ _ _ to_kind c.append-3.ensures.items c.as_slice-3.ensures in
    let to_number = appended old (magic ++ kind ++ uuid) number _ _ _ to_uuid c.append-4.ensures.items
    (c.as_slice-4.ensures ∙ c.to_be_bytes-2.ensures) in
    let to_first = appended old (magic ++ kind ++ uuid ++ number) first_seq _ _ _ to_number c.append-5.ensures.items
    (c.as_slice-5.ensures ∙ c.to_be_bytes-3.ensures) in
    let to_end = appended old (magic ++ kind ++ uuid ++ number ++ first_seq) end_seq _ _ _ to_first c.append-6.ensures.items
    (c.as_slice-6.ensures ∙ c.to_be_bytes-4.ensures) in
    let to_rows = appended old (magic ++ kind ++ uuid ++ number ++ first_seq ++ end_seq) rows _ _ _ to_end
    c.append-7.ensures.items (c.as_slice-7.ensures ∙ c.to_be_bytes-5.ensures) in
    appended old (magic ++ kind ++ uuid ++ number ++ first_seq ++ end_seq ++ rows) payload _ _ _ to_rows
    c.append-8.ensures.items (c.as_slice-8.ensures ∙ c.to_be_bytes-6.ensures)
