-- Zeros that a window shows.
use Rattle.std.proofs.Common.{replicate, ◌≡◌, ℕ, ◌+◌, ◌-◌, ◌≤◌, List, length, take, drop, sym, ◌∙◌, ap, arith, length-drop}
use Rattle.std.proofs.lemmas.List.{drop-replicate, take-replicate, length-take-le}

-- zeros that the window shows are a part of the zeros that were put
pub zeros_seen : (old : List ℕ) (start size skip all : ℕ) → start + size ≤ length old → size ≤ all - skip
    → replicate {A = ℕ} (length (take size (drop start old))) 0 ≡ take size (drop skip (replicate {A = ℕ} all 0))
zeros_seen old start size skip all h l =
    ap (λ n. replicate {A = ℕ} n 0) (length-take-le size (drop start old) (omega (arith, length-drop start old)))
    ∙ sym (ap (take size) (drop-replicate {X = ℕ} skip all 0) ∙ take-replicate {X = ℕ} size (all - skip) 0 l)
