-- For this crate's own clauses: what a request is, by the command and the values that clap met in the words.
use Rattle.std.specs.Prelude.{◌≡◌, ◌⊎◌, ◌-◌, ◌^◌, ◌&&◌, true, List, Option, Some, None, codes}
use Rattle.std.specs.List.{list_any}
use Rattle.std.specs.Str.{bytes_eq}
use Rattle.clap.specs.Walk.{Row, Text, first_of}
use Rattle.command_line.specs.Check.{AsksToCheck, HasBadCheckValue, check_options}
use Rattle.command_line.specs.Churn.{AsksToChurn, HasBadNumber}
use Rattle.command_line.specs.Create.{AsksToCreate, HasBadValue, create_options}
use Rattle.command_line.specs.Mount.{AsksToMount, HasBadMountValue}
use Rattle.command_line.specs.Options.{CommandOption, is_required, option_name}
use Rattle.command_line.specs.Serve.{AsksToServe, HasBadServeValue, serve_options}
use Rattle.command_line.specs.Values.{IsBetween}
use Rattle.command_line.specs.declared.request.Request.{Request}
use Rattle.command_line.specs.declared.request.Request.TheVariants.{Replay, Create, Serve, Collect, Check, Churn}
use Rattle.command_line.specs.declared.serve.Counts.{Counts}
use Rattle.command_line.specs.declared.values.Files.{Files}

-- the value of an option among those that clap found
abbrev pub value_among : List Row → Text → Option Text
value_among rows name = first_of name rows

-- the command is this one, with these values
abbrev pub IsMet : Option (Text × List Row) → Text → List Row → Type 0
IsMet met command rows = met ≡ Some (command, rows)

-- an option that the command asks for has no value
abbrev pub LacksRequired : List CommandOption → (Text → Option Text) → Type 0
LacksRequired command value = (name : Text)
    × (list_any (λ option. is_required option && bytes_eq (option_name option) name) command ≡ true) × (value name ≡ None)

-- the values ask `create` for nothing, and so `serve` and `check`
abbrev pub LacksValue : (Text → Option Text) → Type 0
LacksValue value = HasBadValue value ⊎ LacksRequired create_options value

abbrev pub LacksServeValue : (Text → Option Text) → Type 0
LacksServeValue value = HasBadServeValue value ⊎ LacksRequired serve_options value

abbrev pub LacksCheckValue : (Text → Option Text) → Type 0
LacksCheckValue value = HasBadCheckValue value ⊎ LacksRequired check_options value

-- the values name these files
pub record NamesFiles (value : Text → Option Text) (files : Files) : Type 0 where
  pub store : value (codes "store") ≡ Some files.store.now
  pub cache : value (codes "cache") ≡ Some files.cache.now

-- one of the files is not named
abbrev pub LacksFile : (Text → Option Text) → Type 0
LacksFile value = (value (codes "store") ≡ None) ⊎ (value (codes "cache") ≡ None)

-- the values name nothing to mount
abbrev pub LacksMountValue : (Text → Option Text) → Type 0
LacksMountValue value = HasBadMountValue value ⊎ (LacksFile value ⊎ (value (codes "volume") ≡ None))

-- the values give these counts of `serve`
pub record GivesCounts (value : Text → Option Text) (counts : Counts) : Type 0 where
  pub workers : IsBetween value (codes "workers") 0 8 counts.workers
  pub lanes : IsBetween value (codes "lanes") 1 16 counts.lanes
  pub sessions : IsBetween value (codes "sessions") 1 (2 ^ 32 - 1) counts.sessions

abbrev pub IsMadeOf : Option (Text × List Row) → Request → Type 0
IsMadeOf met Replay = (rows : List Row) × IsMet met (codes "replay") rows
IsMadeOf met (Create request) = (rows : List Row) × IsMet met (codes "create") rows × AsksToCreate (value_among rows) request
IsMadeOf met (Serve request) = (rows : List Row) × IsMet met (codes "serve") rows × AsksToServe (value_among rows) request
IsMadeOf met (Collect request) = (rows : List Row) × IsMet met (codes "collect") rows × AsksToMount (value_among rows) request
IsMadeOf met (Check request) = (rows : List Row) × IsMet met (codes "check") rows × AsksToCheck (value_among rows) request
IsMadeOf met (Churn request) = (rows : List Row) × IsMet met (codes "churn") rows × AsksToChurn (value_among rows) request

-- the command makes no request
pub record MakesNone (met : Option (Text × List Row)) : Type 0 where
  pub replay : (rows : List Row) → IsMet met (codes "replay") rows → ⊥
  pub create : (rows : List Row) → IsMet met (codes "create") rows → LacksValue (value_among rows)
  pub serve : (rows : List Row) → IsMet met (codes "serve") rows → LacksServeValue (value_among rows)
  pub collect : (rows : List Row) → IsMet met (codes "collect") rows → LacksMountValue (value_among rows)
  pub check : (rows : List Row) → IsMet met (codes "check") rows → LacksCheckValue (value_among rows)
  pub churn : (rows : List Row) → IsMet met (codes "churn") rows → HasBadNumber (value_among rows)
