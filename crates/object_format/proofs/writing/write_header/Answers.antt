use Rattle.std.proofs.Common.{◌≡◌, ◌++◌, ◌+◌, codes, length, take, drop, refl, sym, ◌∙◌, ap, arith, rules}
use Rattle.std.proofs.lemmas.List.{take_at, take_all, length-append}
use Rattle.std.specs.Int.{w32, w64, to_be_bytes}
use Rattle.object_format.specs.Header.{header_bytes}
use Rattle.object_format.specs.Layout.{number_of}
use Rattle.object_format.proofs.WritingLemmas.{written_front}
use Rattle.object_format.proofs.writing.write_header.Goals as goal

pub returns : goal.returns
unfolding header_bytes
returns c =
    let header = c.args.header.now in
    let magic = codes "LSVDOBJ1" in
    let kind = to_be_bytes w32 (number_of header.kind) in
    let uuid = header.uuid in
    let number = to_be_bytes w64 header.number in
    let first_seq = to_be_bytes w64 header.first_seq in
    let end_seq = to_be_bytes w64 header.end_seq in
    let rows = to_be_bytes w32 header.rows in
    let payload = to_be_bytes w64 header.payload in
    let uuid_size : length uuid ≡ 16 = search rules in
    let is_magic = c.copy_from_slice.ensures.after in
    let to_magic : take 8 (c.copy_from_slice.new.self ++ drop 8 c.args.head.now) ≡ magic =
    take_at c.copy_from_slice.new.self (drop 8 c.args.head.now) 8 (ap length is_magic) ∙ is_magic in
    let to_kind = written_front 8 4 magic _ _ _ to_magic refl refl c.write_u32.ensures
    ∙ ap (λ n. magic ++ to_be_bytes w32 n) c.number.ensures in
    let to_uuid = written_front 12 16 (magic ++ kind) uuid _ _ to_kind refl uuid_size c.write_16_bytes.ensures in
    let front : length (magic ++ kind ++ uuid) ≡ 28 = length-append (magic ++ kind) uuid ∙ ap (λ n. 12 + n) uuid_size in
    let to_number = written_front 28 8 (magic ++ kind ++ uuid) number _ _ to_uuid front refl c.write_u64.ensures in
    let front_36 : length (magic ++ kind ++ uuid ++ number) ≡ 36 = length-append (magic ++ kind ++ uuid) number
    ∙ ap (λ n. n + 8) front in
    let to_first = written_front 36 8 (magic ++ kind ++ uuid ++ number) first_seq _ _ to_number front_36 refl
    c.write_u64-2.ensures in
    let front_44 : length (magic ++ kind ++ uuid ++ number ++ first_seq) ≡ 44 =
    length-append (magic ++ kind ++ uuid ++ number) first_seq ∙ ap (λ n. n + 8) front_36 in
    let to_end = written_front 44 8 (magic ++ kind ++ uuid ++ number ++ first_seq) end_seq _ _ to_first front_44 refl
    c.write_u64-3.ensures in
    let front_52 : length (magic ++ kind ++ uuid ++ number ++ first_seq ++ end_seq) ≡ 52 =
    length-append (magic ++ kind ++ uuid ++ number ++ first_seq) end_seq ∙ ap (λ n. n + 8) front_44 in
    let to_rows = written_front 52 4 (magic ++ kind ++ uuid ++ number ++ first_seq ++ end_seq) rows _ _ to_end front_52 refl
    c.write_u32-2.ensures in
    let front_56 : length (magic ++ kind ++ uuid ++ number ++ first_seq ++ end_seq ++ rows) ≡ 56 =
    length-append (magic ++ kind ++ uuid ++ number ++ first_seq ++ end_seq) rows ∙ ap (λ n. n + 4) front_52 in
    let to_payload = written_front 56 8 (magic ++ kind ++ uuid ++ number ++ first_seq ++ end_seq ++ rows) payload _ _ to_rows
    front_56 refl c.write_u64-4.ensures in
    let size : length c.write_u64-4.new.bytes ≡ 64 = search rules in
    sym (take_all 64 c.write_u64-4.new.bytes (omega (arith, size))) ∙ to_payload
