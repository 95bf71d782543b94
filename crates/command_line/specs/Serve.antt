-- Contract: what the options of `serve` ask for.
use Rattle.std.specs.Prelude.{◌≡◌, ◌-◌, ◌^◌, ℕ, List, [], ◌∷◌, Option, Some, None, codes}
use Rattle.std.specs.List.{All}
use Rattle.clap.specs.Walk.{Text}
use Rattle.command_line.specs.Mount.{AsksToMount, HasBadMountValue}
use Rattle.command_line.specs.Options.{AreOptionsOf, CommandOption, Given, IsPlainOption, flag, optional, required, value_of}
use Rattle.command_line.specs.Values.{IsBetween, LacksBetween, MayBeBetween}
use Rattle.command_line.specs.declared.serve.ServeRequest.{ServeRequest}

-- the options of `serve`
abbrev pub serve_options : List CommandOption
serve_options =
    required (codes "store") ∷ required (codes "volume") ∷ required (codes "cache") ∷ required (codes "socket")
    ∷ flag (codes "lost") ∷ optional (codes "log") None ∷ optional (codes "workers") (Some (codes "2"))
    ∷ optional (codes "lanes") (Some (codes "4")) ∷ optional (codes "sessions") (Some (codes "1048576")) ∷ []

-- the value of an option, where these are given
abbrev pub serve_value : List Given → Text → Option Text
serve_value options name = value_of serve_options options name

-- ---- by the values of the options

-- they ask for this
pub record AsksToServe (value : Text → Option Text) (request : ServeRequest) : Type 0 where
  pub mount : AsksToMount value request.mount
  pub socket : value (codes "socket") ≡ Some request.socket.now
  pub workers : IsBetween value (codes "workers") 0 8 request.workers
  pub lanes : IsBetween value (codes "lanes") 1 16 request.lanes
  pub sessions : IsBetween value (codes "sessions") 1 (2 ^ 32 - 1) request.sessions

-- why they ask for nothing
pub data HasBadServeValue (value : Text → Option Text) : Type 0 where
  mount : HasBadMountValue value → HasBadServeValue value
  workers : LacksBetween value (codes "workers") 0 8 → HasBadServeValue value
  lanes : LacksBetween value (codes "lanes") 1 16 → HasBadServeValue value
  sessions : LacksBetween value (codes "sessions") 1 (2 ^ 32 - 1) → HasBadServeValue value

-- ---- plain options

-- plain options, of which each number keeps its limits
pub record AreValidToServe (options : List Given) : Type 0 where
  pub are : AreOptionsOf serve_options options
  pub plain : All IsPlainOption options
  pub log : (sectors : Option ℕ) × MayBeBetween (serve_value options) (codes "log") 0 (2 ^ 31) sectors
  pub workers : (n : ℕ) × IsBetween (serve_value options) (codes "workers") 0 8 n
  pub lanes : (n : ℕ) × IsBetween (serve_value options) (codes "lanes") 1 16 n
  pub sessions : (n : ℕ) × IsBetween (serve_value options) (codes "sessions") 1 (2 ^ 32 - 1) n
