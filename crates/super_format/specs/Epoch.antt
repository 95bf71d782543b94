-- Contract: the epochs of a volume.
use Rattle.std.specs.Prelude.{ℕ, ◌≡◌, List, codes}
use Rattle.super_format.specs.declared.epoch.Epoch.{Epoch}
use Rattle.super_format.specs.Numbered.{IsNumbered}

-- bytes are the epoch of the volume with this uuid that has this number
pub record IsEpoch (bytes uuid : List ℕ) (number : ℕ) (epoch : Epoch) : Type 0 where
  pub numbered : IsNumbered bytes (codes "LSVDEPO1") epoch.uuid epoch.number
  pub uuid_is : epoch.uuid ≡ uuid
  pub number_is : epoch.number ≡ number
