-- The first missing number is one.
use Rattle.std.proofs.Common.{rules, ◌≡◌, ℕ, ◌≤◌, inl, inr, false, arith}
use Rattle.std.proofs.lemmas.Bool.{cases_lt}
use Rattle.std.specs.Prelude.{IsTrue}
use Rattle.object_stream.specs.Landed.{Numbers, IsFirstMissing}
use Rattle.object_stream.specs.Laws.{HasOneFirstMissing}

-- what has landed is not missing
not_missing : (landed : Numbers) (number : ℕ) → IsTrue (landed number) → landed number ≡ false → ⊥
not_missing landed number there absent = search rules

-- a first missing number is not past another
not_past : (checkpoint landed : Numbers) (missing other : ℕ) → IsFirstMissing checkpoint landed missing
    → IsFirstMissing checkpoint landed other
    → missing ≤ other
not_past checkpoint landed missing other a b =
    let below : a.base ≤ b.base = b.newest.newest a.base a.newest.is_checkpoint a.newest.has_landed in
    let above : b.base ≤ a.base = a.newest.newest b.base b.newest.is_checkpoint b.newest.has_landed in
    elim (cases_lt other missing) [
      | inl low ↦ absurd (not_missing landed other (a.least other (omega (arith, b.above)) low) b.absent)
      | inr from ↦ from
    ]

pub one_first_missing : HasOneFirstMissing
one_first_missing checkpoint landed missing other a b =
    let first : missing ≤ other = not_past checkpoint landed missing other a b in
    let second : other ≤ missing = not_past checkpoint landed other missing b a in
    omega arith
