-- Contract: what a stop leaves in the midst of a mount of a plain volume.
use Rattle.std.specs.Prelude.{ℕ, ◌⊎◌, List}
use Rattle.lsvd_device.specs.Medium.{Medium, MayLeave}
use Rattle.plain_disk.specs.declared.log.PlainCommit.{PlainCommit}
use Rattle.plain_disk.specs.State.{PlainState}
use Rattle.stopped_volume.specs.Device.{CacheOwner}
use Rattle.refine_log.specs.Stops.{HasCommit}
use Rattle.refine_mount.specs.Mounted.{end_of_object, mounted_with}

-- Bytes read as the commit that was found of a plain volume, or as the one that the mount makes of the volume that it mounts.
abbrev pub HasFoundOrMade : CacheOwner → PlainState → (found : PlainCommit) → (number : ℕ) → (left : List ℕ) → Type 0
HasFoundOrMade owner plain found number left =
    HasCommit owner plain found (end_of_object number plain) left
    ⊎ HasCommit owner (mounted_with found number plain) (mounted_with found number plain).cache.log.last
    (end_of_object number (mounted_with found number plain)) left

-- so does whatever a stop leaves of a medium
abbrev pub StopKeepsMount : CacheOwner → PlainState → (found : PlainCommit) → (number : ℕ) → Medium → Type 0
StopKeepsMount owner plain found number medium =
    (left : List ℕ) → MayLeave medium left → HasFoundOrMade owner plain found number left
