-- For callers: a volume is idle where the plain volume that it shows has no put under way, few objects on their way, and no plan
-- or removal out.
use Rattle.std.proofs.Common.{arith, ◌≡◌, ℕ, ◌≤◌, List, [], length, false, refl}
use Rattle.std.specs.Prelude.{None}
use Rattle.std.specs.List.{list_any}
use Rattle.lsvd_base.specs.declared.geometry.Geometry.{Geometry}
use Rattle.plain_disk.specs.State.{PlainState, created_volume}
use Rattle.refine_log.specs.Fuses.{fuse_in}
use Rattle.vol_core.specs.Volume.{VolumeState, SteppedVolume}
use Rattle.vol_core.specs.Shows.{Shows}
use Rattle.vol_core.specs.Step.{passing}
use Rattle.vol_core.specs.Creating.{IsCreated}
use Rattle.volume_owner.specs.Owner.{IsIdle}
use Rattle.volume_owner.proofs.StepLemmas.{idle_shown}

pub shown_is_idle : (volume : VolumeState) (plain : PlainState) → Shows volume plain
    → list_any (λ object. object.is_started) plain.window.objects ≡ false → length plain.window.objects ≤ 16 → plain.pins ≡ []
    → plain.removal ≡ None → IsIdle volume
shown_is_idle volume plain shows none few no_plans none_out =
    idle_shown volume plain shows (record { puts = none; plans = no_plans; none_out = none_out; few = few })

pub created_is_idle : (uuid : List ℕ) (geometry : Geometry) (stepped : SteppedVolume) → IsCreated uuid geometry stepped
    → IsIdle stepped.volume
created_is_idle uuid geometry stepped created =
    shown_is_idle stepped.volume (passing (fuse_in stepped.volume.log.commits.disk.budget) (created_volume geometry))
    created.shows refl (omega arith) refl refl
