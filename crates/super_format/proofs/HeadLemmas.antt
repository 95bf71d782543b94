-- The bytes of a super object, and what is read in them.
use Rattle.std.proofs.Common.{◌≡◌, ℕ, ◌+◌, ◌*◌, ◌^◌, ◌<◌, ◌≤◌, Bool, true, ◌&&◌, nat_lt, nat_le, IsTrue, List, ◌++◌, length, take}
use Rattle.std.proofs.Common.{drop, codes, refl, sym, ◌∙◌, ap, append_assoc, subst, arith}
use Rattle.std.proofs.lemmas.Bool.Decides.{nat_tests}
use Rattle.std.proofs.lemmas.List.{length-append, length-drop, take_at, drop_at, drop-drop, take_all, take-append-drop}
use Rattle.std.proofs.lemmas.Nat.{from_be_bytes-to_be_bytes_4, from_be_bytes-to_be_bytes_8}
use Rattle.std.specs.Int.{w32, w64, to_be_bytes}
use Rattle.lsvd_base.specs.Limits.{is_within_limits}
use Rattle.lsvd_bytes.specs.Places.{bytes_at, number_at}
use Rattle.lsvd_bytes.proofs.PlaceLemmas.{IsBytes, width_32, width_64}
use Rattle.clone_chain.specs.declared.ancestor.Ancestor.{Ancestor}
use Rattle.super_format.specs.declared.super_object.Super.{Super}
use Rattle.super_format.specs.Ancestors.{chain_bytes, chain_in}
use Rattle.super_format.specs.Super.{head_bytes, super_bytes, super_in, HasSuperWidths, geometry_with, keeps_limits}
use Rattle.super_format.proofs.PartLemmas.{bytes_of_rest, length_of_part, part_of, front_more, number_behind}
use Rattle.super_format.proofs.ChainLemmas.{length-chain_in, chain_again, chain_of_bytes, length-chain_bytes, widths_of_chain_in}

-- ---- limits

-- numbers in their limits have the widths of their places
pub record HasSizes (volume : Super) : Type 0 where
  pub sectors : volume.sectors < 2 ^ 64
  pub max_write : volume.max_write < 2 ^ 32
  pub batch : volume.batch < 2 ^ 32
  pub count : length volume.chain < 2 ^ 32

pub sizes_fit : (volume : Super) → IsTrue (keeps_limits volume) → HasSizes volume
sizes_fit volume limits = record {
  sectors = grind (arith, nat_tests);
  max_write = grind (arith, nat_tests);
  batch = grind (arith, nat_tests);
  count = grind (arith, nat_tests);
}

pub few_ancestors : (volume : Super) → IsTrue (keeps_limits volume) → length volume.chain ≤ 15
few_ancestors volume limits = grind (arith, nat_tests)

-- the limits of what is read in bytes, by the count in them
pub limits_in : (bytes : List ℕ) (count : ℕ) → is_within_limits (geometry_with (super_in bytes) (2 ^ 31)) ≡ true
    → count ≡ number_at w32 44 bytes → nat_lt count 16 ≡ keeps_limits (super_in bytes)
limits_in bytes count within is_count =
    let size = length-chain_in (number_at w32 44 bytes) (drop 48 bytes) ∙ sym is_count in
    let P : Bool → Type 0 = λ b. nat_lt count 16
    ≡ (b && nat_le (length (chain_in (number_at w32 44 bytes) (drop 48 bytes))) 15) in
    subst P (sym within) (at_most count ∙ ap (λ n. nat_le n 15) (sym size))
  where
    at_most : (n : ℕ) → nat_lt n 16 ≡ nat_le n 15
    at_most n = grind (arith, nat_tests)

-- ---- the shape of a super object

abbrev front_of : Super → List ℕ
front_of volume = codes "LSVDSUP1" ++ to_be_bytes w32 1 ++ volume.uuid

numbers_of : Super → List ℕ
numbers_of volume =
    to_be_bytes w64 volume.sectors
    ++ to_be_bytes w32 volume.max_write
    ++ to_be_bytes w32 volume.batch
    ++ to_be_bytes w32 (length volume.chain)

apart : (front a b c d rest : List ℕ) → (front ++ a ++ b ++ c ++ d) ++ rest ≡ front ++ ((a ++ b ++ c ++ d) ++ rest)
apart front a b c d rest = simp append_assoc refl

super_splits : (volume : Super) → super_bytes volume ≡ front_of volume ++ (numbers_of volume ++ chain_bytes volume.chain)
unfolding head_bytes numbers_of
super_splits volume =
    apart (front_of volume) (to_be_bytes w64 volume.sectors) (to_be_bytes w32 volume.max_write) (to_be_bytes w32 volume.batch)
    (to_be_bytes w32 (length volume.chain)) (chain_bytes volume.chain)

length-front_of : (volume : Super) → length volume.uuid ≡ 16 → length (front_of volume) ≡ 28
length-front_of volume uuid = omega (arith, length-append (codes "LSVDSUP1" ++ to_be_bytes w32 1) volume.uuid, uuid)

length-numbers_of : (volume : Super) → length (numbers_of volume) ≡ 20
unfolding numbers_of
length-numbers_of volume = refl

pub length-super_bytes : (volume : Super) → HasSuperWidths volume → length (super_bytes volume) ≡ 48 + 24 * length volume.chain
length-super_bytes volume widths =
    let rest = numbers_of volume ++ chain_bytes volume.chain in
    omega (
      arith,
      ap length (super_splits volume),
      length-append (front_of volume) rest,
      length-front_of volume widths.uuid,
      length-append (numbers_of volume) (chain_bytes volume.chain),
      length-numbers_of volume,
      length-chain_bytes volume.chain widths.chain,
    )

-- ---- what is read in a super object

pub magic_again : (volume : Super) → take 8 (super_bytes volume) ≡ codes "LSVDSUP1"
magic_again volume = ap (take 8) (super_splits volume)

pub version_again : (volume : Super) → number_at w32 8 (super_bytes volume) ≡ 1
version_again volume = ap (number_at w32 8) (super_splits volume)

pub uuid_again : (volume : Super) → length volume.uuid ≡ 16 → bytes_at 12 16 (super_bytes volume) ≡ volume.uuid
uuid_again volume uuid =
    ap (bytes_at 12 16) (super_splits volume) ∙ take_at volume.uuid (numbers_of volume ++ chain_bytes volume.chain) 16 uuid

behind : (volume : Super) → length volume.uuid ≡ 16 → drop 28 (super_bytes volume) ≡ numbers_of volume ++ chain_bytes volume.chain
behind volume uuid =
    ap (drop 28) (super_splits volume)
    ∙ drop_at (front_of volume) (numbers_of volume ++ chain_bytes volume.chain) 28 (length-front_of volume uuid)

number_again : (at : ℕ) (volume : Super) → length volume.uuid ≡ 16
    → number_at w64 (28 + at) (super_bytes volume) ≡ number_at w64 at (numbers_of volume ++ chain_bytes volume.chain)
number_again at volume uuid =
    ap (number_at w64 (28 + at)) (super_splits volume)
    ∙ number_behind w64 28 at (front_of volume) (numbers_of volume ++ chain_bytes volume.chain) (length-front_of volume uuid)

number_32_again : (at : ℕ) (volume : Super) → length volume.uuid ≡ 16
    → number_at w32 (28 + at) (super_bytes volume) ≡ number_at w32 at (numbers_of volume ++ chain_bytes volume.chain)
number_32_again at volume uuid =
    ap (number_at w32 (28 + at)) (super_splits volume)
    ∙ number_behind w32 28 at (front_of volume) (numbers_of volume ++ chain_bytes volume.chain) (length-front_of volume uuid)

sectors_again : (volume : Super) → length volume.uuid ≡ 16 → HasSizes volume
    → number_at w64 28 (super_bytes volume) ≡ volume.sectors
unfolding numbers_of
sectors_again volume uuid sizes = number_again 0 volume uuid ∙ from_be_bytes-to_be_bytes_8 volume.sectors sizes.sectors

max_write_again : (volume : Super) → length volume.uuid ≡ 16 → HasSizes volume
    → number_at w32 36 (super_bytes volume) ≡ volume.max_write
unfolding numbers_of
max_write_again volume uuid sizes = number_32_again 8 volume uuid ∙ from_be_bytes-to_be_bytes_4 volume.max_write sizes.max_write

batch_again : (volume : Super) → length volume.uuid ≡ 16 → HasSizes volume → number_at w32 40 (super_bytes volume) ≡ volume.batch
unfolding numbers_of
batch_again volume uuid sizes = number_32_again 12 volume uuid ∙ from_be_bytes-to_be_bytes_4 volume.batch sizes.batch

pub count_again : (volume : Super) → length volume.uuid ≡ 16 → HasSizes volume
    → number_at w32 44 (super_bytes volume) ≡ length volume.chain
unfolding numbers_of
count_again volume uuid sizes = number_32_again 16 volume uuid ∙ from_be_bytes-to_be_bytes_4 (length volume.chain) sizes.count

chain_bytes_again : (volume : Super) → length volume.uuid ≡ 16 → drop 48 (super_bytes volume) ≡ chain_bytes volume.chain
chain_bytes_again volume uuid =
    sym (drop-drop 20 28 (super_bytes volume))
    ∙ ap (drop 20) (behind volume uuid)
    ∙ drop_at (numbers_of volume) (chain_bytes volume.chain) 20 (length-numbers_of volume)

abbrev pub super_of : (uuid : List ℕ) (sectors max_write batch : ℕ) → List Ancestor → Super
super_of uuid sectors max_write batch chain = record {
  uuid = uuid;
  sectors = sectors;
  max_write = max_write;
  batch = batch;
  chain = chain;
}

-- what was written is read again
pub super_again : (volume : Super) → HasSuperWidths volume → HasSizes volume → super_in (super_bytes volume) ≡ volume
super_again volume widths sizes =
    let bytes = super_bytes volume in
    let sectors = number_at w64 28 bytes in
    let max_write = number_at w32 36 bytes in
    let batch = number_at w32 40 bytes in
    let chain = chain_in (number_at w32 44 bytes) (drop 48 bytes) in
    let is_chain : chain ≡ volume.chain =
    ap (λ n. chain_in n (drop 48 bytes)) (count_again volume widths.uuid sizes)
    ∙ ap (chain_in (length volume.chain)) (chain_bytes_again volume widths.uuid)
    ∙ chain_again volume.chain widths.chain in
    ap (λ x. super_of x sectors max_write batch chain) (uuid_again volume widths.uuid)
    ∙ ap (λ x. super_of volume.uuid x max_write batch chain) (sectors_again volume widths.uuid sizes)
    ∙ ap (λ x. super_of volume.uuid volume.sectors x batch chain) (max_write_again volume widths.uuid sizes)
    ∙ ap (λ x. super_of volume.uuid volume.sectors volume.max_write x chain) (batch_again volume widths.uuid sizes)
    ∙ ap (λ x. super_of volume.uuid volume.sectors volume.max_write volume.batch x) is_chain

-- ---- what was read has its bytes

-- the bytes before the ancestors
head_of_bytes : (bytes : List ℕ) → 48 ≤ length bytes → IsBytes bytes → take 8 bytes ≡ codes "LSVDSUP1" → number_at w32 8 bytes ≡ 1
    → take 48 bytes ≡ head_bytes (super_in bytes)
unfolding head_bytes
head_of_bytes bytes room fits magic version =
    let to_version = front_more 8 4 bytes _ _ magic (part_of w32 width_32 8 bytes (omega (arith, room)) fits
    ∙ ap (to_be_bytes w32) version) in
    let to_uuid = front_more 12 16 bytes _ _ to_version refl in
    let to_sectors = front_more 28 8 bytes _ _ to_uuid (part_of w64 width_64 28 bytes (omega (arith, room)) fits) in
    let to_max_write = front_more 36 4 bytes _ _ to_sectors (part_of w32 width_32 36 bytes (omega (arith, room)) fits) in
    let to_batch = front_more 40 4 bytes _ _ to_max_write (part_of w32 width_32 40 bytes (omega (arith, room)) fits) in
    let count = number_at w32 44 bytes in
    front_more 44 4 bytes _ _ to_batch
    (part_of w32 width_32 44 bytes (omega (arith, room)) fits
    ∙ ap (to_be_bytes w32) (sym (length-chain_in count (drop 48 bytes))))

pub bytes_again : (bytes : List ℕ) → length bytes ≡ 48 + 24 * number_at w32 44 bytes → IsBytes bytes
    → take 8 bytes ≡ codes "LSVDSUP1" → number_at w32 8 bytes ≡ 1 → bytes ≡ super_bytes (super_in bytes)
bytes_again bytes size fits magic version =
    let count = number_at w32 44 bytes in
    let rest = drop 48 bytes in
    let whole : length rest ≡ 24 * count = omega (arith, length-drop 48 bytes, size) in
    sym (take-append-drop 48 bytes)
    ∙ ap (λ xs. xs ++ rest) (head_of_bytes bytes (omega (arith, size)) fits magic version)
    ∙ ap (λ xs. head_bytes (super_in bytes) ++ xs)
    (sym (take_all (24 * count) rest (omega (arith, whole)))
    ∙ sym (chain_of_bytes count rest (omega (arith, whole)) (bytes_of_rest 48 bytes fits)))

pub widths_again : (bytes : List ℕ) → length bytes ≡ 48 + 24 * number_at w32 44 bytes → IsBytes bytes
    → HasSuperWidths (super_in bytes)
widths_again bytes size fits = record {
  uuid = length_of_part 12 16 bytes (omega (arith, size));
  chain = widths_of_chain_in (number_at w32 44 bytes) (drop 48 bytes) (omega (arith, length-drop 48 bytes, size))
      (bytes_of_rest 48 bytes fits);
}
