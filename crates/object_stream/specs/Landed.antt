-- Contract: which objects a recovery of the store counts: those up to the first that is missing.
use Rattle.std.specs.Prelude.{◌≡◌, ℕ, ◌+◌, ◌<◌, ◌≤◌, ◌⊎◌, Bool, false, IsTrue}
use Rattle.object_stream.specs.Stream.{Stream, end_at}

-- numbers of objects
abbrev pub Numbers : Type 0
Numbers = ℕ → Bool

-- A choice of the objects that have landed in the store after a stop: each that was acknowledged and, of those whose put was ever
-- started, also where it failed, any.
pub record MayHaveLanded (acknowledged started landed : Numbers) : Type 0 where
  pub surely : (number : ℕ) → IsTrue (acknowledged number) → IsTrue (landed number)
  pub perhaps : (number : ℕ) → IsTrue (landed number) → IsTrue (acknowledged number) ⊎ IsTrue (started number)

-- the greatest number of a checkpoint that has landed
pub record IsNewestCheckpoint (checkpoint landed : Numbers) (number : ℕ) : Type 0 where
  pub is_checkpoint : IsTrue (checkpoint number)
  pub has_landed : IsTrue (landed number)
  pub newest : (other : ℕ) → IsTrue (checkpoint other) → IsTrue (landed other) → other ≤ number

-- the first missing number: the least above the newest checkpoint that has landed, of an object that has not
pub record IsFirstMissing (checkpoint landed : Numbers) (missing : ℕ) : Type 0 where
  pub base : ℕ
  pub newest : IsNewestCheckpoint checkpoint landed base
  pub above : base < missing
  pub absent : landed missing ≡ false
  pub least : (number : ℕ) → base < number → number < missing → IsTrue (landed number)

-- How far a recovery gets: the last object before the first missing one, and how many entries of the history it has by then.
pub record RecoversTo (stream : Stream) (checkpoint landed : Numbers) (number end : ℕ) : Type 0 where
  pub missing : IsFirstMissing checkpoint landed (number + 1)
  pub ends : end ≡ end_at stream number
