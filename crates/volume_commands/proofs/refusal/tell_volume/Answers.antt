use Rattle.std.proofs.Common.{arith, ◌≡◌, ◌+◌, ◌≤◌, ◌∙◌, ℕ, List, length, ap}
use Rattle.lsvd_names.proofs.Names.{length-uuid_text}
use Rattle.volume_commands.proofs.refusal.tell_volume.Goals as goal

one_more : (n : ℕ) → n ≤ 55 → n + 1 ≤ 64
one_more n few = omega (arith, few)

-- a uuid has 36 characters, so that the line has room for its end
pub push_str-requires-5 : goal.push_str-requires-5
push_str-requires-5 g c =
    let text : length c.encode_lower.result.now ≡ 36 =
    ap (λ (t : List ℕ). length t) c.encode_lower.ensures.text ∙ length-uuid_text c.hyphenated.result in
    let filled : length c.push_str-4.new.self.bytes ≤ 55 =
    omega (
      arith,
      ap (λ (t : List ℕ). length t) c.new-line.ensures,
      c.push_str.ensures.len,
      c.push_str-2.ensures.len,
      c.push_str-3.ensures.len,
      c.push_str-4.ensures.len,
      c.format.ensures.short,
      text,
    ) in
    (omega arith, one_more (length c.push_str-4.new.self.bytes) filled)
