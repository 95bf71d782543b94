-- Contract: what the options that name a volume to mount, with its cache device, ask for.
use Rattle.std.specs.Prelude.{◌≡◌, ◌≢◌, ◌^◌, Option, Some, None, codes, option_map}
use Rattle.clap.specs.Walk.{Text}
use Rattle.uuid.specs.Text.{parsed}
use Rattle.command_line.specs.Values.{IsNoUuid, LacksBetween, MayBeBetween, is_set}
use Rattle.command_line.specs.declared.mount.MountRequest.{MountRequest}

-- they ask for this
pub record AsksToMount (value : Text → Option Text) (request : MountRequest) : Type 0 where
  pub store : value (codes "store") ≡ Some request.store.now
  pub volume : option_map parsed (value (codes "volume")) ≡ Some (Some request.volume)
  pub cache : value (codes "cache") ≡ Some request.cache.now
  pub is_lost : request.is_lost ≡ is_set value (codes "lost")
  pub log : MayBeBetween value (codes "log") 0 (2 ^ 31) request.log

-- why they ask for nothing
pub data HasBadMountValue (value : Text → Option Text) : Type 0 where
  volume : IsNoUuid value (codes "volume") → HasBadMountValue value
  log : value (codes "log") ≢ None → LacksBetween value (codes "log") 0 (2 ^ 31) → HasBadMountValue value
