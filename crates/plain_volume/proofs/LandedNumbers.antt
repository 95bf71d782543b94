-- Numbers that have landed, one by one.
use Rattle.std.proofs.Common.{◌≡◌, ℕ, suc, ◌+◌, ◌-◌, ◌<◌, true, false, if◌then◌else◌, sym, ap, ◌∙◌, arith}
use Rattle.object_stream.specs.Landed.{Numbers}
use Rattle.plain_disk.specs.Stops.{landed_after}

-- the next number has landed
pub landed_more : (landed : Numbers) (number count turn : ℕ) → turn < count → landed (number + 1) ≡ true
    → landed_after landed (number + 1) (count - (turn + 1)) ≡ landed_after landed number (count - turn)
landed_more landed number count turn inside has =
    let left : count - turn ≡ suc (count - (turn + 1)) = omega arith in
    let next : ℕ = landed_after landed (number + 1) (count - (turn + 1)) in
    sym (ap (landed_after landed number) left ∙ ap (λ b. if b then next else number) has)

-- or it has not
pub landed_last : (landed : Numbers) (number count turn : ℕ) → turn < count → landed (number + 1) ≡ false
    → number ≡ landed_after landed number (count - turn)
landed_last landed number count turn inside lacks =
    let left : count - turn ≡ suc (count - (turn + 1)) = omega arith in
    let next : ℕ = landed_after landed (number + 1) (count - (turn + 1)) in
    sym (ap (landed_after landed number) left ∙ ap (λ b. if b then next else number) lacks)
