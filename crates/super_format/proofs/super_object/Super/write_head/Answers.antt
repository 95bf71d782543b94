use Rattle.std.proofs.Common.{◌≡◌, ◌++◌, ◌+◌, codes, length, take, drop, refl, sym, ◌∙◌, ap, arith, rules}
use Rattle.std.proofs.lemmas.List.{take_at, take_all, length-append}
use Rattle.std.specs.Int.{w32, w64, to_be_bytes}
use Rattle.super_format.specs.Super.{head_bytes}
use Rattle.super_format.proofs.PartLemmas.{written_front}
use Rattle.super_format.proofs.super_object.Super.write_head.Goals as goal

pub returns-clause-bytes : goal.returns-clause-bytes
unfolding head_bytes
returns-clause-bytes c =
    let volume = c.args.self.now in
    let magic = codes "LSVDSUP1" in
    let version = to_be_bytes w32 1 in
    let uuid = volume.uuid in
    let sectors = to_be_bytes w64 volume.sectors in
    let max_write = to_be_bytes w32 volume.max_write in
    let batch = to_be_bytes w32 volume.batch in
    let known : length c.into_bytes-uuid.result ≡ 16 = search rules in
    let width : length uuid ≡ 16 = ap length (sym c.into_bytes-uuid.ensures) ∙ known in
    let to_12 = magic ++ version in
    let to_28 = to_12 ++ uuid in
    let to_36 = to_28 ++ sectors in
    let to_40 = to_36 ++ max_write in
    let to_44 = to_40 ++ batch in
    let size_28 : length to_28 ≡ 28 = length-append to_12 uuid ∙ ap (λ n. 12 + n) width in
    let size_36 : length to_36 ≡ 36 = length-append to_28 sectors ∙ ap (λ n. n + 8) size_28 in
    let size_40 : length to_40 ≡ 40 = length-append to_36 max_write ∙ ap (λ n. n + 4) size_36 in
    let size_44 : length to_44 ≡ 44 = length-append to_40 batch ∙ ap (λ n. n + 4) size_40 in
    let is_magic = c.copy_from_slice.ensures.after in
    let has_magic : take 8 (c.copy_from_slice.new.self ++ drop 8 c.args.head.now) ≡ magic =
    take_at c.copy_from_slice.new.self (drop 8 c.args.head.now) 8 (ap length is_magic) ∙ is_magic in
    let has_version = written_front 8 4 magic version _ _ has_magic refl refl c.write_u32.ensures in
    let has_uuid =
    written_front 12 16 to_12 _ _ _ has_version refl known c.write_16_bytes.ensures
    ∙ ap (λ xs. to_12 ++ xs) c.into_bytes-uuid.ensures in
    let has_sectors = written_front 28 8 to_28 sectors _ _ has_uuid size_28 refl c.write_u64.ensures in
    let has_max_write = written_front 36 4 to_36 max_write _ _ has_sectors size_36 refl c.write_u32-2.ensures in
    let has_batch = written_front 40 4 to_40 batch _ _ has_max_write size_40 refl c.write_u32-3.ensures in
    let has_count = written_front 44 4 to_44 (to_be_bytes w32 c.count.result) _ _ has_batch size_44 refl c.write_u32-4.ensures in
    let size : length c.write_u32-4.new.bytes ≡ 48 = search rules in
    sym (take_all 48 c.write_u32-4.new.bytes (omega (arith, size)))
    ∙ has_count
    ∙ ap (λ n. to_44 ++ to_be_bytes w32 n) c.count.ensures.count

pub returns-clause-width : goal.returns-clause-width
returns-clause-width c =
    let size : length c.into_bytes-uuid.result ≡ 16 = search rules in ap length (sym c.into_bytes-uuid.ensures) ∙ size
