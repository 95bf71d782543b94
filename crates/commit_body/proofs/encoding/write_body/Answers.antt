use Rattle.std.proofs.Common.{◌≡◌, ◌++◌, ◌+◌, codes, length, take, drop, refl, ◌∙◌, ap, rules}
use Rattle.std.proofs.lemmas.List.{take_at, length-append}
use Rattle.std.specs.Int.{w64, to_be_bytes}
use Rattle.commit_body.specs.Body.{mark_bytes}
use Rattle.commit_body.proofs.BodyLemmas.{written_front, filled_body}
use Rattle.commit_body.proofs.encoding.write_body.Goals as goal

pub returns : goal.returns
returns c =
    let body = c.args.body.now in
    let magic = codes "LSVDCMT1" in
    let uuid = body.uuid in
    let epoch = to_be_bytes w64 body.epoch in
    let number = to_be_bytes w64 c.args.number in
    let tail = mark_bytes body.tail in
    let head = mark_bytes body.head in
    let uuid_size : length uuid ≡ 16 = search rules in
    let is_magic = c.copy_from_slice.ensures.after in
    let to_magic : take 8 (c.copy_from_slice.new.self ++ drop 8 c.args.sector.now) ≡ magic =
    take_at c.copy_from_slice.new.self (drop 8 c.args.sector.now) 8 (ap length is_magic) ∙ is_magic in
    let front : length (magic ++ uuid) ≡ 24 = length-append magic uuid ∙ ap (λ n. 8 + n) uuid_size in
    let to_uuid = written_front 8 16 magic uuid _ _ to_magic refl uuid_size c.write_16_bytes.ensures in
    let to_epoch = written_front 24 8 (magic ++ uuid) epoch _ _ to_uuid front refl c.write_u64.ensures in
    let front_32 : length (magic ++ uuid ++ epoch) ≡ 32 = length-append (magic ++ uuid) epoch ∙ ap (λ n. n + 8) front in
    let to_number = written_front 32 8 (magic ++ uuid ++ epoch) number _ _ to_epoch front_32 refl c.write_u64-2.ensures in
    let front_40 : length (magic ++ uuid ++ epoch ++ number) ≡ 40 = length-append (magic ++ uuid ++ epoch) number
    ∙ ap (λ n. n + 8) front_32 in
    let to_tail = written_front 40 16 (magic ++ uuid ++ epoch ++ number) tail _ _ to_number front_40 refl c.write_mark.ensures in
    let front_56 : length (magic ++ uuid ++ epoch ++ number ++ tail) ≡ 56 = length-append (magic ++ uuid ++ epoch ++ number) tail
    ∙ ap (λ n. n + 16) front_40 in
    let to_head = written_front 56 16 (magic ++ uuid ++ epoch ++ number ++ tail) head _ _ to_tail front_56 refl
    c.write_mark-2.ensures in
    filled_body body c.args.number c.write_mark-2.new.sector c.fill.new.self (search rules) to_head (search rules)
