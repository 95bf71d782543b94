-- Parts of parts of bytes.
use Rattle.std.proofs.Common.{◌≡◌, ℕ, ◌+◌, ◌-◌, ◌≤◌, List, length, take, drop, sym, ◌∙◌, ap, arith}
use Rattle.std.proofs.lemmas.List.{take-take, drop-take, drop-drop}
use Rattle.lsvd_bytes.specs.Places.{with_bytes}
use Rattle.lsvd_bytes.proofs.PlaceLemmas.{reads_bytes_again}

-- some bytes of a part, which begins at a byte, are bytes of the whole
pub part_of_part : (at n m k : ℕ) (bytes : List ℕ) → k + m ≤ n → take m (drop k (take n (drop at bytes)))
    ≡ take m (drop (at + k) bytes)
part_of_part at n m k bytes inside =
    let rest = drop at bytes in
    let whole : k + (n - k) ≡ n = omega (arith, inside) in
    ap (λ size. take m (drop k (take size rest))) (sym whole)
    ∙ ap (take m) (drop-take k (n - k) rest)
    ∙ take-take m (n - k) (drop k rest) (omega (arith, inside))
    ∙ ap (take m) (drop-drop k at bytes)

-- some bytes of a part that was written are found there
pub part_written : (at k m : ℕ) (part old : List ℕ) → k + m ≤ length part → at + length part ≤ length old
    → take m (drop (at + k) (with_bytes at part old)) ≡ take m (drop k part)
part_written at k m part old inside room =
    sym (ap (λ bytes. take m (drop k bytes)) (sym (reads_bytes_again at part old room)) ∙ part_of_part at (length part) m k
    (with_bytes at part old) inside)
