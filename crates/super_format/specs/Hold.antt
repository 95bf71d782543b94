-- Contract: the holds on checkpoints of a volume.
use Rattle.std.specs.Prelude.{ℕ, ◌≡◌, List, codes}
use Rattle.super_format.specs.declared.hold.Hold.{Hold}
use Rattle.super_format.specs.Numbered.{IsNumbered}

-- bytes are the hold on this checkpoint of the volume with this uuid
pub record IsHold (bytes uuid : List ℕ) (checkpoint : ℕ) (hold : Hold) : Type 0 where
  pub numbered : IsNumbered bytes (codes "LSVDHLD1") hold.uuid hold.checkpoint
  pub uuid_is : hold.uuid ≡ uuid
  pub checkpoint_is : hold.checkpoint ≡ checkpoint
