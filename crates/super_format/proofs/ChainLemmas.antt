-- Ancestors as bytes, and the ancestors that are read in them.
use Rattle.std.proofs.Common.{◌≡◌, ℕ, zero, suc, ◌+◌, ◌-◌, ◌*◌, ◌<◌, ◌≤◌, List, [], ◌∷◌, ◌++◌, length, take, drop, refl, sym, ◌∙◌}
use Rattle.std.proofs.Common.{ap, append_assoc, arith}
use Rattle.std.proofs.lemmas.List.{length-append, length-drop, take_at, drop_at, take_rest}
use Rattle.std.proofs.lemmas.Nat.{from_be_bytes-to_be_bytes_8}
use Rattle.std.proofs.Math.Seq.{take-add}
use Rattle.std.specs.Int.{w64, to_be_bytes}
use Rattle.std.specs.List.{All}
use Rattle.lsvd_bytes.specs.Places.{bytes_at, number_at}
use Rattle.lsvd_bytes.proofs.PlaceLemmas.{IsBytes, width_64}
use Rattle.clone_chain.specs.declared.ancestor.Ancestor.{Ancestor}
use Rattle.super_format.specs.Ancestors.{ancestor_bytes, chain_bytes, HasAncestorWidths, ancestor_in, chain_in}
use Rattle.super_format.proofs.PartLemmas.{bytes_of_rest, length_of_part, part_of, number_64_fits, front_more, number_behind}

abbrev ancestor_of : List ℕ → ℕ → Ancestor
ancestor_of uuid checkpoint = record { uuid = uuid; checkpoint = checkpoint }

-- ---- one ancestor

pub length-ancestor_bytes : (ancestor : Ancestor) → length ancestor.uuid ≡ 16 → length (ancestor_bytes ancestor) ≡ 24
unfolding ancestor_bytes
length-ancestor_bytes ancestor uuid = length-append ancestor.uuid (to_be_bytes w64 ancestor.checkpoint) ∙ ap (λ n. n + 8) uuid

-- an ancestor that was written is read again
pub ancestor_again : (ancestor : Ancestor) (rest : List ℕ) → HasAncestorWidths ancestor
    → ancestor_in (ancestor_bytes ancestor ++ rest) ≡ ancestor
unfolding ancestor_bytes
ancestor_again ancestor rest widths =
    let number = to_be_bytes w64 ancestor.checkpoint in
    let split = append_assoc ancestor.uuid number rest in
    let uuid : bytes_at 0 16 (ancestor_bytes ancestor ++ rest) ≡ ancestor.uuid =
    ap (take 16) split ∙ take_at ancestor.uuid (number ++ rest) 16 widths.uuid in
    let checkpoint : number_at w64 16 (ancestor_bytes ancestor ++ rest) ≡ ancestor.checkpoint =
    ap (number_at w64 16) split
    ∙ number_behind w64 16 0 ancestor.uuid (number ++ rest) widths.uuid
    ∙ from_be_bytes-to_be_bytes_8 ancestor.checkpoint widths.checkpoint in
    ap (λ x. ancestor_of x (number_at w64 16 (ancestor_bytes ancestor ++ rest))) uuid
    ∙ ap (λ x. ancestor_of ancestor.uuid x) checkpoint

-- an ancestor that was read has its bytes
ancestor_of_bytes : (bytes : List ℕ) → 24 ≤ length bytes → IsBytes bytes → ancestor_bytes (ancestor_in bytes) ≡ take 24 bytes
unfolding ancestor_bytes
ancestor_of_bytes bytes room fits = sym
    (front_more 16 8 bytes _ _ refl (part_of w64 width_64 16 bytes (omega (arith, room)) fits))

-- ---- all of them

pub length-chain_in : (count : ℕ) (bytes : List ℕ) → length (chain_in count bytes) ≡ count
length-chain_in zero bytes = refl
length-chain_in (suc count) bytes = ap suc (length-chain_in count (drop 24 bytes))

pub chain_again : (chain : List Ancestor) → All HasAncestorWidths chain → chain_in (length chain) (chain_bytes chain) ≡ chain
chain_again [] widths = refl
chain_again (first ∷ chain) widths =
    let rest = chain_bytes chain in
    let wide : HasAncestorWidths first = widths 0 first (omega arith) in
    ap (λ x. x ∷ chain_in (length chain) (drop 24 (ancestor_bytes first ++ rest))) (ancestor_again first rest wide)
    ∙ ap (λ bytes. first ∷ chain_in (length chain) bytes)
    (drop_at (ancestor_bytes first) rest 24 (length-ancestor_bytes first wide.uuid))
    ∙ ap (λ xs. first ∷ xs) (chain_again chain (λ k d below. widths (suc k) d (omega (arith, below))))

pub chain_of_bytes : (count : ℕ) (bytes : List ℕ) → 24 * count ≤ length bytes → IsBytes bytes
    → chain_bytes (chain_in count bytes) ≡ take (24 * count) bytes
chain_of_bytes zero bytes room fits = refl
chain_of_bytes (suc count) bytes room fits =
    let more : 24 * suc count ≡ 24 + 24 * count = omega arith in
    let rest : chain_bytes (chain_in count (drop 24 bytes)) ≡ take (24 * count) (drop 24 bytes) =
    chain_of_bytes count (drop 24 bytes) (omega (arith, length-drop 24 bytes, room)) (bytes_of_rest 24 bytes fits) in
    ap (λ xs. xs ++ chain_bytes (chain_in count (drop 24 bytes))) (ancestor_of_bytes bytes (omega arith) fits)
    ∙ ap (λ xs. take 24 bytes ++ xs) rest
    ∙ sym (take-add 24 (24 * count) bytes)
    ∙ ap (λ n. take n bytes) (sym more)

pub length-chain_bytes : (chain : List Ancestor) → All HasAncestorWidths chain → length (chain_bytes chain) ≡ 24 * length chain
length-chain_bytes [] widths = refl
length-chain_bytes (first ∷ chain) widths =
    let size : length (ancestor_bytes first) ≡ 24 = length-ancestor_bytes first (widths 0 first (omega arith)).uuid in
    let rest : length (chain_bytes chain) ≡ 24 * length chain =
    length-chain_bytes chain (λ k d below. widths (suc k) d (omega (arith, below))) in
    omega (arith, length-append (ancestor_bytes first) (chain_bytes chain), size, rest)

-- what is read has the widths
pub widths_of_chain_in : (count : ℕ) (bytes : List ℕ) → 24 * count ≤ length bytes → IsBytes bytes
    → All HasAncestorWidths (chain_in count bytes)
widths_of_chain_in zero bytes room fits k d below = absurd (omega (arith, below))
widths_of_chain_in (suc count) bytes room fits zero d below = record {
  uuid = length_of_part 0 16 bytes (omega (arith, room));
  checkpoint = number_64_fits 16 bytes fits;
}
widths_of_chain_in (suc count) bytes room fits (suc k) d below =
    widths_of_chain_in count (drop 24 bytes) (omega (arith, length-drop 24 bytes, room)) (bytes_of_rest 24 bytes fits) k d
    (omega (arith, below))

-- ---- a loop over them

-- one more is read, of what a slice shows of the rest
pub read_more : (count counter : ℕ) (before pushed all : List Ancestor) (ancestor : Ancestor) (rest : List ℕ)
    → counter < count → pushed ≡ before ++ ancestor ∷ [] → ancestor ≡ ancestor_in rest
    → before ++ chain_in (count - counter) rest ≡ all
    → pushed ++ chain_in (count - (counter + 1)) (take (length rest - 24) (drop 24 rest)) ≡ all
read_more count counter before pushed all ancestor rest below push read so_far =
    let more : count - counter ≡ suc (count - (counter + 1)) = omega arith in
    let left = chain_in (count - (counter + 1)) (drop 24 rest) in
    ap (λ bytes. pushed ++ chain_in (count - (counter + 1)) bytes) (take_rest rest 24)
    ∙ ap (λ xs. xs ++ left) push
    ∙ ap (λ x. (before ++ x ∷ []) ++ left) read
    ∙ append_assoc before (ancestor_in rest ∷ []) left
    ∙ ap (λ n. before ++ chain_in n rest) (sym more)
    ∙ so_far

-- and there is room for those after it
pub read_room : (count counter : ℕ) (rest : List ℕ) → counter < count → 24 * (count - counter) ≤ length rest
    → 24 * (count - (counter + 1)) ≤ length (take (length rest - 24) (drop 24 rest))
read_room count counter rest below room =
    let whole : length (take (length rest - 24) (drop 24 rest)) ≡ length rest - 24 = ap length (take_rest rest 24)
    ∙ length-drop 24 rest in
    omega (arith, whole, room, below)
