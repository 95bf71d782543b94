-- Contract: what the options of `create` ask for.
use Rattle.std.specs.Prelude.{◌≡◌, ◌≤◌, ◌^◌, false, List, [], ◌∷◌, Option, Some, None, IsTrue, codes, option_map}
use Rattle.std.specs.List.{All}
use Rattle.clap.specs.Walk.{Text}
use Rattle.uuid.specs.Text.{parsed}
use Rattle.lsvd_base.specs.Limits.{is_within_limits}
use Rattle.lsvd_base.specs.declared.geometry.Geometry.{Geometry}
use Rattle.command_line.specs.Options.{AreOptionsOf, CommandOption, Given, IsPlainOption, optional, required, value_of}
use Rattle.command_line.specs.Values.{IsNoUuid, IsNumber, LacksNumber}
use Rattle.command_line.specs.declared.create.CreateRequest.{CreateRequest}

-- the options of `create`
abbrev pub create_options : List CommandOption
create_options =
    required (codes "store") ∷ required (codes "cache") ∷ required (codes "sectors") ∷ required (codes "log")
    ∷ optional (codes "max-write") (Some (codes "65536")) ∷ optional (codes "batch") (Some (codes "16384"))
    ∷ optional (codes "uuid") None ∷ []

-- the value of an option, where these are given
abbrev pub value_in : List Given → Text → Option Text
value_in options name = value_of create_options options name

-- ---- by the values of the options

-- the sizes of a volume and of its log
pub record GivesSizes (value : Text → Option Text) (sizes : Geometry) : Type 0 where
  pub sectors : IsNumber value (codes "sectors") sizes.sectors
  pub log : IsNumber value (codes "log") sizes.log
  pub max_write : IsNumber value (codes "max-write") sizes.max_write
  pub batch : IsNumber value (codes "batch") sizes.batch

abbrev pub sizes_of : CreateRequest → Geometry
sizes_of request =
    record { sectors = request.sectors; max_write = request.max_write; batch = request.batch; log = request.log }

-- they ask for this
pub record AsksToCreate (value : Text → Option Text) (request : CreateRequest) : Type 0 where
  pub store : value (codes "store") ≡ Some request.store.now
  pub cache : value (codes "cache") ≡ Some request.cache.now
  pub sizes : GivesSizes value (sizes_of request)
  pub within : IsTrue (is_within_limits (sizes_of request))
  pub uuid : option_map parsed (value (codes "uuid")) ≡ option_map (λ u. Some u) request.uuid

abbrev pub HasBadUuid : (Text → Option Text) → Type 0
HasBadUuid value = IsNoUuid value (codes "uuid")

-- why they ask for nothing
pub data HasBadValue (value : Text → Option Text) : Type 0 where
  sectors : LacksNumber value (codes "sectors") → HasBadValue value
  log : LacksNumber value (codes "log") → HasBadValue value
  max_write : LacksNumber value (codes "max-write") → HasBadValue value
  batch : LacksNumber value (codes "batch") → HasBadValue value
  limits : (sizes : Geometry) → GivesSizes value sizes → is_within_limits sizes ≡ false → HasBadValue value
  uuid : HasBadUuid value → HasBadValue value

-- ---- plain options

-- plain options, of which each size keeps the limits that it has by itself
pub record AreValid (options : List Given) (sizes : Geometry) : Type 0 where
  pub are : AreOptionsOf create_options options
  pub plain : All IsPlainOption options
  pub gives : GivesSizes (value_in options) sizes
  pub sectors : (8 ≤ sizes.sectors) × (sizes.sectors ≤ 2 ^ 31)
  pub log : sizes.log ≤ 2 ^ 31
  pub max_write : (8 ≤ sizes.max_write) × (sizes.max_write ≤ 65536)
  pub batch : (1 ≤ sizes.batch) × (sizes.batch ≤ 65536)
