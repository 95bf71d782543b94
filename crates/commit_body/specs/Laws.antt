-- Contract: what bodies have to do with sectors.
use Rattle.std.specs.Prelude.{ℕ, ◌≡◌, length}
use Rattle.commit_body.specs.declared.body.CommitBody.{CommitBody}
use Rattle.commit_body.specs.Body.{body_bytes, HasNumbersOf64Bits}

-- a body is as long as a sector
abbrev pub IsOneSector : Type 0
IsOneSector = (body : CommitBody) (number : ℕ) → length body.uuid ≡ 16 → length (body_bytes body number) ≡ 512

-- a sector is the body of one commit, with one number
abbrev pub DeterminesBody : Type 0
DeterminesBody =
    (a b : CommitBody) (m n : ℕ) → HasNumbersOf64Bits a m → HasNumbersOf64Bits b n
    → body_bytes a m ≡ body_bytes b n
    → (a ≡ b) × (m ≡ n)
