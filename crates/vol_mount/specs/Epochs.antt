-- Contract: what a mount without the cache leaves of a store.
use Rattle.std.specs.Prelude.{ℕ, ◌⊎◌, List}
use Rattle.lsvd_objstore.specs.Objects.{Objects}
use Rattle.object_format.specs.declared.expected.Expected.{Expected}
use Rattle.object_recovery.specs.Recovery.{RemovesAllPast, MayRemovePast, IsLastLanded}
use Rattle.super_recovery.specs.Put.{PutsEpoch}

-- the objects of a volume past a number were removed, and then an epoch was put
abbrev pub BeginsEpoch : (uuid : List ℕ) → (number epoch : ℕ) → (old new : Objects) → Type 0
BeginsEpoch uuid number epoch old new = (middle : Objects) × RemovesAllPast uuid number old middle
    × PutsEpoch uuid epoch middle new

-- What an error leaves: all as it was, or without some of the objects past the first missing number; or without all of these and
-- with the epoch.
abbrev pub MayBeginEpoch : (Tells : Type 0) → (volume : Expected) → (epoch : ℕ) → (old new : Objects) → Type 0
MayBeginEpoch Tells volume epoch old new =
    MayRemovePast Tells volume old new ⊎ ((number : ℕ) × (Tells → IsLastLanded volume old number)
    × BeginsEpoch volume.uuid number epoch old new)
