-- What is said of an object that is longer than any super object, by the bytes that it begins with.
use Rattle.std.proofs.Common.{◌≡◌, ℕ, ◌+◌, ◌-◌, ◌*◌, ◌<◌, ◌≤◌, List, length, take, drop, codes, sym, ◌∙◌, ap, arith}
use Rattle.std.proofs.lemmas.List.{drop-take, take-take}
use Rattle.std.specs.Int.{w32, from_be_bytes}
use Rattle.lsvd_bytes.specs.Places.{bytes_at, number_at}
use Rattle.super_format.specs.declared.reason.SuperReason.TheVariants as reasons
use Rattle.super_format.specs.Super.{super_in}
use Rattle.super_format.specs.Tests.{PassesSuperTest, IsSuperRefusedAs, BeginsWith}
use Rattle.super_format.proofs.ChainLemmas.{length-chain_in}
use Rattle.super_format.proofs.HeadLemmas.{few_ancestors}
use Rattle.super_format.proofs.TestLemmas.{refused_as, none_before, before_magic, before_version, before_uuid, before_limits}

-- a part of the bytes that lies in the front is that part of the front
part_in_front : (at count : ℕ) (front bytes : List ℕ) → take (length front) bytes ≡ front → at + count ≤ length front
    → bytes_at at count bytes ≡ bytes_at at count front
part_in_front at count front bytes is inside =
    let more = length front - at in
    let whole : at + more ≡ length front = omega (arith, inside) in
    sym (take-take count more (drop at bytes) (omega (arith, inside)))
    ∙ ap (take count) (sym (drop-take at more bytes) ∙ ap (λ n. drop at (take n bytes)) whole ∙ ap (drop at) is)

-- what is known of an object of which the front was read
pub record HasFront (front : List ℕ) (len : ℕ) : Type 0 where
  pub size : length front ≡ 408
  pub long : 408 < len

module _ (front : List ℕ) (len : ℕ) (uuid bytes : List ℕ) (has : HasFront front len) (begins : BeginsWith front len bytes) where
  part_is : (at count : ℕ) → at + count ≤ 408 → bytes_at at count bytes ≡ bytes_at at count front
  part_is at count inside = part_in_front at count front bytes begins.front_is (omega (arith, has.size, inside))

  count_is : number_at w32 44 bytes ≡ number_at w32 44 front
  count_is = ap (from_be_bytes w32) (part_is 44 4 (omega arith))

  pub length_passes : len ≡ 48 + 24 * number_at w32 44 front → PassesSuperTest bytes uuid reasons.Length
  length_passes is = begins.size ∙ is ∙ ap (λ n. 48 + 24 * n) (sym count_is)

  pub refused_by_length : (len ≡ 48 + 24 * number_at w32 44 front → ⊥) → IsSuperRefusedAs bytes uuid reasons.Length
  refused_by_length other = refused_as bytes uuid reasons.Length (none_before bytes uuid)
      (λ is. other (sym begins.size ∙ is ∙ ap (λ n. 48 + 24 * n) count_is))

  pub refused_by_magic : len ≡ 48 + 24 * number_at w32 44 front → (take 8 front ≡ codes "LSVDSUP1" → ⊥)
      → IsSuperRefusedAs bytes uuid reasons.Magic
  refused_by_magic is other = refused_as bytes uuid reasons.Magic (before_magic bytes uuid (length_passes is))
      (λ magic. other (sym (part_is 0 8 (omega arith)) ∙ magic))

  pub refused_by_version : len ≡ 48 + 24 * number_at w32 44 front → take 8 front ≡ codes "LSVDSUP1"
      → (number_at w32 8 front ≡ 1 → ⊥) → IsSuperRefusedAs bytes uuid reasons.Version
  refused_by_version is magic other =
      refused_as bytes uuid reasons.Version
      (before_version bytes uuid (length_passes is) (part_is 0 8 (omega arith) ∙ magic))
      (λ version. other (ap (from_be_bytes w32) (sym (part_is 8 4 (omega arith))) ∙ version))

  pub refused_by_uuid : len ≡ 48 + 24 * number_at w32 44 front → take 8 front ≡ codes "LSVDSUP1"
      → number_at w32 8 front ≡ 1 → (bytes_at 12 16 front ≡ uuid → ⊥) → IsSuperRefusedAs bytes uuid reasons.Uuid
  refused_by_uuid is magic version other =
      refused_as bytes uuid reasons.Uuid
      (before_uuid bytes uuid (length_passes is) (part_is 0 8 (omega arith) ∙ magic)
      (ap (from_be_bytes w32) (part_is 8 4 (omega arith)) ∙ version))
      (λ own. other (sym (part_is 12 16 (omega arith)) ∙ own))

  pub refused_by_limits : len ≡ 48 + 24 * number_at w32 44 front → take 8 front ≡ codes "LSVDSUP1"
      → number_at w32 8 front ≡ 1 → bytes_at 12 16 front ≡ uuid → IsSuperRefusedAs bytes uuid reasons.Limits
  refused_by_limits is magic version own =
      refused_as bytes uuid reasons.Limits
      (before_limits bytes uuid (length_passes is) (part_is 0 8 (omega arith) ∙ magic)
      (ap (from_be_bytes w32) (part_is 8 4 (omega arith)) ∙ version) (part_is 12 16 (omega arith) ∙ own))
      (λ limits. few (few_ancestors (super_in bytes) limits))
    where
      few : length (super_in bytes).chain ≤ 15 → ⊥
      few at_most =
          absurd (omega (arith, at_most, length-chain_in (number_at w32 44 bytes) (drop 48 bytes), count_is, is, has.long))
