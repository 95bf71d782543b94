use Rattle.std.proofs.Common.{◌≡◌, ◌++◌, length, take, drop, refl, sym, ◌∙◌, ap, arith, rules}
use Rattle.std.proofs.lemmas.List.{take_at, take_all, length-append}
use Rattle.std.specs.Int.{w64, to_be_bytes}
use Rattle.super_format.specs.Numbered.{numbered_bytes}
use Rattle.super_format.proofs.PartLemmas.{written_front}
use Rattle.super_format.proofs.numbered.write_into.Goals as goal

pub returns : goal.returns
unfolding numbered_bytes
returns c =
    let magic = c.args.magic.now in
    let uuid = c.args.uuid in
    let number = to_be_bytes w64 c.args.number in
    let eight : length magic ≡ 8 = search rules in
    let known : length c.into_bytes.result ≡ 16 = search rules in
    let width : length uuid ≡ 16 = ap length (sym c.into_bytes.ensures) ∙ known in
    let is_magic = c.copy_from_slice.ensures.after in
    let to_magic : take 8 (c.copy_from_slice.new.self ++ drop 8 c.args.bytes.now) ≡ magic =
    take_at c.copy_from_slice.new.self (drop 8 c.args.bytes.now) 8 (ap length is_magic ∙ eight) ∙ is_magic in
    let to_uuid =
    written_front 8 16 magic _ _ _ to_magic eight known c.write_16_bytes.ensures
    ∙ ap (λ xs. magic ++ xs) c.into_bytes.ensures in
    let front : length (magic ++ uuid) ≡ 24 = omega (arith, length-append magic uuid, eight, width) in
    let to_number = written_front 24 8 (magic ++ uuid) number _ _ to_uuid front refl c.write_u64.ensures in
    let size : length c.write_u64.new.bytes ≡ 32 = search rules in
    record {
      spelled = sym (take_all 32 c.write_u64.new.bytes (omega (arith, size))) ∙ to_number;
      uuid_width = width;
      number_width = search rules;
    }
