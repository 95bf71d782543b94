-- What a line asks for, by what clap finds in its words.
use Rattle.std.proofs.Common.{◌≡◌, ◌≢◌, ◌⊎◌, ◌∙◌, ◌^◌, ◌<◌, ◌∷◌, ◌+◌, ◌*◌, ◌&&◌, ℕ, Bool, true, false, List, [], Option, Some}
use Rattle.std.proofs.Common.{None, inl, inr, ap, arith, codes, find, is_some, option_map, refl, subst, sym}
use Rattle.std.specs.Prelude.{◌≤◌, Err, IsErrOf, Ok, Result, decimal}
use Rattle.std.specs.List.{list_any}
use Rattle.std.specs.Str.{bytes_eq}
use Rattle.std.proofs.lemmas.Bool.{cases_lt}
use Rattle.std.proofs.lemmas.Bool.Decides.{nat_tests}
use Rattle.std.proofs.lemmas.Slice.Eq.{bytes_eq-Decides}
use Rattle.std.proofs.Math.Path.{fun_ext}
use Rattle.std.specs.Prelude.{Box}
use Rattle.std.specs.Box.{box_value}
use Rattle.clap.specs.Walk.{Row, Text}
use Rattle.clap.specs.Matches.{subcommand_name_of}
use Rattle.clap.specs.Simple.{subcommand_rows, subcommand_rows_of}
use Rattle.clap.specs.declared.parser.matches.ArgMatches.{ArgMatches}
use Rattle.clap.specs.declared.parser.matches.ArgMatches.TheViews.{out-ArgMatches, out-SubCommand}
use Rattle.clap.specs.declared.parser.matches.SubCommand.{SubCommand}
use Rattle.lsvd_base.specs.Limits.{is_within_limits}
use Rattle.lsvd_base.specs.declared.geometry.Geometry.{Geometry}
use Rattle.command_line.specs.Churn.{AsksToChurn, HasBadNumber, churn_value}
use Rattle.command_line.specs.Churn as churning
use Rattle.command_line.specs.Check.{AsksToCheck, HasBadCheckValue, check_options, check_value}
use Rattle.command_line.specs.Collect.{AreValidToCollect, collect_options, collect_value}
use Rattle.command_line.specs.CommandLine.{HasBadOptions, IsAskedBy, IsRead, Line, Spells, check, churn, collect, create, replay}
use Rattle.command_line.specs.CommandLine.{serve}
use Rattle.command_line.specs.Create.{AreValid, AsksToCreate, HasBadUuid, HasBadValue, batch, create_options, limits, log}
use Rattle.command_line.specs.Create.{max_write, sectors, uuid, value_in}
use Rattle.command_line.specs.Met.{IsMadeOf, LacksCheckValue, LacksMountValue, LacksRequired, LacksServeValue, LacksValue}
use Rattle.command_line.specs.Met.{MakesNone, value_among}
use Rattle.command_line.specs.Mistake.{line_value}
use Rattle.command_line.specs.Mount.{AsksToMount, HasBadMountValue}
use Rattle.command_line.specs.Mount as mounting
use Rattle.command_line.specs.Options.{AreOptionsOf, Given, has_option, has_required, is_required, name_in, option_name, text_in}
use Rattle.command_line.specs.Options.{value_of}
use Rattle.command_line.specs.Serve.{AreValidToServe, AsksToServe, HasBadServeValue, serve_options, serve_value}
use Rattle.command_line.specs.Serve as serving
use Rattle.command_line.specs.Values.{IsNoUuid, LacksBetween, MayBeBetween}
use Rattle.command_line.specs.declared.request.CommandLineError.{CommandLineError}
use Rattle.command_line.specs.declared.request.CommandLineError.TheVariants.{Usage, OutOfMemory}
use Rattle.command_line.specs.declared.request.Request.{Request}
use Rattle.command_line.specs.declared.request.Request.TheVariants.{Replay, Create, Serve, Collect, Check, Churn}
use Rattle.command_line.proofs.Lines.{IsFound, command_of}
use Rattle.command_line.proofs.Numbers.{decimal_stands}
use Rattle.command_line.proofs.Rows.{any_found}
use Rattle.command_line.proofs.Rules.{Known}
use Rattle.command_line.proofs.Spelled.{same_number}

-- an option that is given has a value
has_value : (known : Known) (options : List Given) (name : Text) → has_option name options ≡ true
    → value_of known options name ≢ None
has_value known options name has none = go (find (λ g. bytes_eq (name_in g) name) options) refl
  where
    go : (found : Option Given) → find (λ g. bytes_eq (name_in g) name) options ≡ found → ⊥
    go None e =
        let bad : false ≡ true = sym (any_found (λ (g : Given). bytes_eq (name_in g) name) options ∙ ap is_some e) ∙ has in cc
    go (Some given) e = let bad : Some (text_in given) ≡ None = rw e at none in cc

-- those that the command asks for are given
required_is_given : (known : Known) (options : List Given) (name : Text) → has_required known options ≡ true
    → list_any (λ option. is_required option && bytes_eq (option_name option) name) known ≡ true
    → has_option name options ≡ true
required_is_given [] options name all wanted = cc
required_is_given (option ∷ rest) options name all wanted =
    go (is_required option) (bytes_eq (option_name option) name) (has_option (option_name option) options) refl refl refl
    (required_is_given rest options name)
  where
    go : (required same has : Bool) → is_required option ≡ required → bytes_eq (option_name option) name ≡ same
        → has_option (option_name option) options ≡ has
        → (has_required rest options ≡ true
        → list_any (λ other. is_required other && bytes_eq (option_name other) name) rest ≡ true → has_option name options ≡ true)
        → has_option name options ≡ true
    go false same has e f g more = more (rw e at all) (rw e at wanted)
    go true true true e f g more =
        ap (λ (n : Text). has_option n options) (sym ((bytes_eq-Decides (option_name option) name).0 f)) ∙ g
    go true false true e f g more = more (rw (e, g) at all) (rw (e, f) at wanted)
    go true same false e f g more = let bad : false ≡ true = rw (e, g) at all in cc

lacks_none : (known : Known) (options : List Given) → AreOptionsOf known options
    → LacksRequired known (value_of known options) → ⊥
lacks_none known options are (name, wanted, none) =
    has_value known options name (required_is_given known options name are.required wanted) none

abbrev pub met_as : Text → List Row → Option (Text × List Row)
met_as command rows = Some (command, rows)

abbrev name_met : Option (Text × List Row) → Text
name_met None = []
name_met (Some met) = met.0

abbrev rows_met : Option (Text × List Row) → List Row
rows_met None = []
rows_met (Some met) = met.1

pub other_command : (first second : Text) (rows others : List Row) (met : Option (Text × List Row))
    → bytes_eq first second ≡ false
    → met ≡ met_as first rows → met ≡ met_as second others → ⊥
other_command first second rows others met differ is also =
    let same : first ≡ second = ap name_met (sym is ∙ also) in
    let bad : true ≡ false = sym ((bytes_eq-Decides first second).1 same) ∙ differ in cc

-- what holds of the values that clap met is that of the values of the line
pub values_met : (P : (Text → Option Text) → Type 0) (line : Line) (met : Option (Text × List Row)) (command : Text)
    (rows : List Row) → IsFound line met → met ≡ met_as command rows → P (value_among rows) → P (line_value line)
values_met P line met command rows (found, is, same) also holds =
    let equal : rows ≡ found = ap rows_met (sym also ∙ is) in
    let values : value_among found ≡ line_value line = fun_ext same in
    subst P (ap value_among equal ∙ values) holds

-- ---- what a command makes

module _ {Z : Type 0} where
  met_at : (found : Option (Box SubCommand Z)) (command : Text) (rows : List Row)
      → Some command ≡ option_map (λ b. (out-SubCommand (box_value b)).name.now) found
      → Some rows ≡ option_map (λ p. p.1) (subcommand_rows found) → subcommand_rows found ≡ Some (command, rows)
  met_at None command rows name values = cc
  met_at (Some b) command rows name values = cc

-- the command and its values, by what the code looked up
pub met_is : (matches : ArgMatches) (command : Text) (rows : List Row) → Some command ≡ subcommand_name_of matches
    → Some rows ≡ option_map (λ p. p.1) (subcommand_rows_of matches)
    → subcommand_rows_of matches ≡ Some (command, rows)
met_is matches command rows name values = met_at (out-ArgMatches matches).subcommand command rows name values

-- values that ask the command for nothing make none
pub creates_none : (met : Option (Text × List Row)) (rows : List Row) → met ≡ met_as (codes "create") rows
    → LacksValue (value_among rows)
    → MakesNone met
creates_none met rows is lacks = record {
  replay = λ others also. other_command (codes "create") (codes "replay") rows others met refl is also;
  create = λ others also. subst (λ (r : List Row). LacksValue (value_among r)) (ap rows_met (sym is ∙ also)) lacks;
  serve = λ others also. absurd (other_command (codes "create") (codes "serve") rows others met refl is also);
  collect = λ others also. absurd (other_command (codes "create") (codes "collect") rows others met refl is also);
  check = λ others also. absurd (other_command (codes "create") (codes "check") rows others met refl is also);
  churn = λ others also. absurd (other_command (codes "create") (codes "churn") rows others met refl is also);
}

pub serves_none : (met : Option (Text × List Row)) (rows : List Row) → met ≡ met_as (codes "serve") rows
    → LacksServeValue (value_among rows)
    → MakesNone met
serves_none met rows is lacks = record {
  replay = λ others also. other_command (codes "serve") (codes "replay") rows others met refl is also;
  create = λ others also. absurd (other_command (codes "serve") (codes "create") rows others met refl is also);
  serve = λ others also. subst (λ (r : List Row). LacksServeValue (value_among r)) (ap rows_met (sym is ∙ also)) lacks;
  collect = λ others also. absurd (other_command (codes "serve") (codes "collect") rows others met refl is also);
  check = λ others also. absurd (other_command (codes "serve") (codes "check") rows others met refl is also);
  churn = λ others also. absurd (other_command (codes "serve") (codes "churn") rows others met refl is also);
}

pub collects_none : (met : Option (Text × List Row)) (rows : List Row) → met ≡ met_as (codes "collect") rows
    → LacksMountValue (value_among rows)
    → MakesNone met
collects_none met rows is lacks = record {
  replay = λ others also. other_command (codes "collect") (codes "replay") rows others met refl is also;
  create = λ others also. absurd (other_command (codes "collect") (codes "create") rows others met refl is also);
  serve = λ others also. absurd (other_command (codes "collect") (codes "serve") rows others met refl is also);
  collect = λ others also. subst (λ (r : List Row). LacksMountValue (value_among r)) (ap rows_met (sym is ∙ also)) lacks;
  check = λ others also. absurd (other_command (codes "collect") (codes "check") rows others met refl is also);
  churn = λ others also. absurd (other_command (codes "collect") (codes "churn") rows others met refl is also);
}

pub checks_none : (met : Option (Text × List Row)) (rows : List Row) → met ≡ met_as (codes "check") rows
    → LacksCheckValue (value_among rows)
    → MakesNone met
checks_none met rows is lacks = record {
  replay = λ others also. other_command (codes "check") (codes "replay") rows others met refl is also;
  create = λ others also. absurd (other_command (codes "check") (codes "create") rows others met refl is also);
  serve = λ others also. absurd (other_command (codes "check") (codes "serve") rows others met refl is also);
  collect = λ others also. absurd (other_command (codes "check") (codes "collect") rows others met refl is also);
  check = λ others also. subst (λ (r : List Row). LacksCheckValue (value_among r)) (ap rows_met (sym is ∙ also)) lacks;
  churn = λ others also. absurd (other_command (codes "check") (codes "churn") rows others met refl is also);
}

pub churns_none : (met : Option (Text × List Row)) (rows : List Row) → met ≡ met_as (codes "churn") rows
    → HasBadNumber (value_among rows)
    → MakesNone met
churns_none met rows is lacks = record {
  replay = λ others also. other_command (codes "churn") (codes "replay") rows others met refl is also;
  create = λ others also. absurd (other_command (codes "churn") (codes "create") rows others met refl is also);
  serve = λ others also. absurd (other_command (codes "churn") (codes "serve") rows others met refl is also);
  collect = λ others also. absurd (other_command (codes "churn") (codes "collect") rows others met refl is also);
  check = λ others also. absurd (other_command (codes "churn") (codes "check") rows others met refl is also);
  churn = λ others also. subst (λ (r : List Row). HasBadNumber (value_among r)) (ap rows_met (sym is ∙ also)) lacks;
}

-- ---- what a line asks for

-- the command of a request
abbrev command_for : Request → Text
command_for Replay = codes "replay"
command_for (Create asked) = codes "create"
command_for (Serve asked) = codes "serve"
command_for (Collect asked) = codes "collect"
command_for (Check asked) = codes "check"
command_for (Churn asked) = codes "churn"

-- it is what clap met
made_as : (met : Option (Text × List Row)) (request : Request) → IsMadeOf met request
    → (rows : List Row) × (met ≡ met_as (command_for request) rows)
made_as met Replay (rows, is) = (rows, is)
made_as met (Create asked) (rows, is, asks) = (rows, is)
made_as met (Serve asked) (rows, is, asks) = (rows, is)
made_as met (Collect asked) (rows, is, asks) = (rows, is)
made_as met (Check asked) (rows, is, asks) = (rows, is)
made_as met (Churn asked) (rows, is, asks) = (rows, is)

-- so no line makes the request of another command
apart : (line : Line) (request : Request) (met : Option (Text × List Row))
    → bytes_eq (command_of line) (command_for request) ≡ false
    → IsFound line met
    → IsMadeOf met request → ⊥
apart line request met differ (rows, is, same) made =
    let (others, also) = made_as met request made in
    other_command (command_of line) (command_for request) rows others met differ is also

pub found_asks : (line : Line) (met : Option (Text × List Row)) (request : Request) → IsFound line met → IsMadeOf met request
    → IsAskedBy line request
found_asks replay met Replay found made = tt
found_asks replay met (Create asked) found made = absurd (apart replay (Create asked) met refl found made)
found_asks replay met (Serve asked) found made = absurd (apart replay (Serve asked) met refl found made)
found_asks replay met (Collect asked) found made = absurd (apart replay (Collect asked) met refl found made)
found_asks replay met (Check asked) found made = absurd (apart replay (Check asked) met refl found made)
found_asks replay met (Churn asked) found made = absurd (apart replay (Churn asked) met refl found made)
found_asks (create options) met Replay found made = absurd (apart (create options) Replay met refl found made)
found_asks (create options) met (Create asked) found (rows, is, asks) =
    values_met (λ value. AsksToCreate value asked) (create options) met (codes "create") rows found is asks
found_asks (create options) met (Serve asked) found made = absurd (apart (create options) (Serve asked) met refl found made)
found_asks (create options) met (Collect asked) found made = absurd (apart (create options) (Collect asked) met refl found made)
found_asks (create options) met (Check asked) found made = absurd (apart (create options) (Check asked) met refl found made)
found_asks (create options) met (Churn asked) found made = absurd (apart (create options) (Churn asked) met refl found made)
found_asks (serve options) met Replay found made = absurd (apart (serve options) Replay met refl found made)
found_asks (serve options) met (Create asked) found made = absurd (apart (serve options) (Create asked) met refl found made)
found_asks (serve options) met (Serve asked) found (rows, is, asks) =
    values_met (λ value. AsksToServe value asked) (serve options) met (codes "serve") rows found is asks
found_asks (serve options) met (Collect asked) found made = absurd (apart (serve options) (Collect asked) met refl found made)
found_asks (serve options) met (Check asked) found made = absurd (apart (serve options) (Check asked) met refl found made)
found_asks (serve options) met (Churn asked) found made = absurd (apart (serve options) (Churn asked) met refl found made)
found_asks (collect options) met Replay found made = absurd (apart (collect options) Replay met refl found made)
found_asks (collect options) met (Create asked) found made = absurd (apart (collect options) (Create asked) met refl found made)
found_asks (collect options) met (Serve asked) found made = absurd (apart (collect options) (Serve asked) met refl found made)
found_asks (collect options) met (Collect asked) found (rows, is, asks) =
    values_met (λ value. AsksToMount value asked) (collect options) met (codes "collect") rows found is asks
found_asks (collect options) met (Check asked) found made = absurd (apart (collect options) (Check asked) met refl found made)
found_asks (collect options) met (Churn asked) found made = absurd (apart (collect options) (Churn asked) met refl found made)
found_asks (check options) met Replay found made = absurd (apart (check options) Replay met refl found made)
found_asks (check options) met (Create asked) found made = absurd (apart (check options) (Create asked) met refl found made)
found_asks (check options) met (Serve asked) found made = absurd (apart (check options) (Serve asked) met refl found made)
found_asks (check options) met (Collect asked) found made = absurd (apart (check options) (Collect asked) met refl found made)
found_asks (check options) met (Check asked) found (rows, is, asks) =
    values_met (λ value. AsksToCheck value asked) (check options) met (codes "check") rows found is asks
found_asks (check options) met (Churn asked) found made = absurd (apart (check options) (Churn asked) met refl found made)
found_asks (churn steps seed) met Replay found made = absurd (apart (churn steps seed) Replay met refl found made)
found_asks (churn steps seed) met (Create asked) found made = absurd (apart (churn steps seed) (Create asked) met refl found made)
found_asks (churn steps seed) met (Serve asked) found made = absurd (apart (churn steps seed) (Serve asked) met refl found made)
found_asks (churn steps seed) met (Collect asked) found made =
    absurd (apart (churn steps seed) (Collect asked) met refl found made)
found_asks (churn steps seed) met (Check asked) found made = absurd (apart (churn steps seed) (Check asked) met refl found made)
found_asks (churn steps seed) met (Churn asked) found (rows, is, asks) =
    values_met (λ value. AsksToChurn value asked) (churn steps seed) met (codes "churn") rows found is asks

-- an option that a mount asks for is given to a command that asks for it
mount_lacks : (options : List Given) → AreOptionsOf collect_options options → LacksMountValue (collect_value options)
    → HasBadMountValue (collect_value options)
mount_lacks options are (inl bad) = bad
mount_lacks options are (inr (inl (inl none))) = absurd (lacks_none collect_options options are (codes "store", refl, none))
mount_lacks options are (inr (inl (inr none))) = absurd (lacks_none collect_options options are (codes "cache", refl, none))
mount_lacks options are (inr (inr none)) = absurd (lacks_none collect_options options are (codes "volume", refl, none))

pub found_asks_nothing : (words : List Text) (line : Line) (met : Option (Text × List Row)) → Spells words line → IsFound line met
    → MakesNone met
    → HasBadOptions line
found_asks_nothing words replay met spelled (rows, is, same) makes = makes.replay rows is
found_asks_nothing words (create options) met (are, end) (rows, is, same) makes =
    go (values_met LacksValue (create options) met (codes "create") rows (rows, is, same) is (makes.create rows is))
  where
    go : LacksValue (value_in options) → HasBadValue (value_in options)
    go (inl bad) = bad
    go (inr lacks) = absurd (lacks_none create_options options are lacks)
found_asks_nothing words (serve options) met (are, end) (rows, is, same) makes =
    go (values_met LacksServeValue (serve options) met (codes "serve") rows (rows, is, same) is (makes.serve rows is))
  where
    go : LacksServeValue (serve_value options) → HasBadServeValue (serve_value options)
    go (inl bad) = bad
    go (inr lacks) = absurd (lacks_none serve_options options are lacks)
found_asks_nothing words (collect options) met (are, end) (rows, is, same) makes =
    mount_lacks options are
    (values_met LacksMountValue (collect options) met (codes "collect") rows (rows, is, same) is (makes.collect rows is))
found_asks_nothing words (check options) met (are, end) (rows, is, same) makes =
    go (values_met LacksCheckValue (check options) met (codes "check") rows (rows, is, same) is (makes.check rows is))
  where
    go : LacksCheckValue (check_value options) → HasBadCheckValue (check_value options)
    go (inl bad) = bad
    go (inr lacks) = absurd (lacks_none check_options options are lacks)
found_asks_nothing words (churn steps seed) met spelled (rows, is, same) makes =
    values_met HasBadNumber (churn steps seed) met (codes "churn") rows (rows, is, same) is (makes.churn rows is)

-- ---- what follows of the way in which a line is read

abbrev Answer : Type 0
Answer = Result Request CommandLineError

pub replay_is_read : (result : Answer) → IsRead replay result → (result ≡ Ok Replay) ⊎ (result ≡ Err OutOfMemory)
replay_is_read (Ok Replay) read = inl refl
replay_is_read (Ok (Create request)) read = absurd read
replay_is_read (Ok (Serve request)) read = absurd read
replay_is_read (Ok (Collect request)) read = absurd read
replay_is_read (Ok (Check request)) read = absurd read
replay_is_read (Ok (Churn request)) read = absurd read
replay_is_read (Err Usage) read = absurd read
replay_is_read (Err OutOfMemory) read = inr refl

-- a line is told to be none only where its values ask for nothing
usage_is_read : (line : Line) (result : Answer) → IsRead line result → IsErrOf result Usage → HasBadOptions line
usage_is_read line (Ok request) read usage = let bad : Ok request ≡ Err Usage = usage in cc
usage_is_read line (Err OutOfMemory) read usage = let bad : Err OutOfMemory ≡ Err Usage = usage in cc
usage_is_read line (Err Usage) read usage = read

-- sizes that keep the limits that each has by itself
short_log : (options : List Given) (sizes : Geometry) → AreValid options sizes → is_within_limits sizes ≡ false
    → sizes.log < 2 * (sizes.max_write + 1)
short_log options sizes valid past = elim (cases_lt sizes.log (2 * (sizes.max_write + 1))) [
  | inl short ↦ short
  | inr long ↦ absurd (grind (arith, nat_tests))
]

bad_valid : (options : List Given) (sizes : Geometry) → AreValid options sizes → HasBadValue (value_in options)
    → HasBadUuid (value_in options) ⊎ (sizes.log < 2 * (sizes.max_write + 1))
bad_valid options sizes valid (sectors lacks) = absurd (lacks sizes.sectors valid.gives.sectors)
bad_valid options sizes valid (log lacks) = absurd (lacks sizes.log valid.gives.log)
bad_valid options sizes valid (max_write lacks) = absurd (lacks sizes.max_write valid.gives.max_write)
bad_valid options sizes valid (batch lacks) = absurd (lacks sizes.batch valid.gives.batch)
bad_valid options sizes valid (uuid bad) = inl bad
bad_valid options sizes valid (limits others gives past) =
    let value = value_in options in
    let sectors = same_number value (codes "sectors") others.sectors sizes.sectors gives.sectors valid.gives.sectors in
    let log = same_number value (codes "log") others.log sizes.log gives.log valid.gives.log in
    let max_write = same_number value (codes "max-write") others.max_write sizes.max_write gives.max_write
    valid.gives.max_write in
    let batch = same_number value (codes "batch") others.batch sizes.batch gives.batch valid.gives.batch in
    inr (short_log options sizes valid (rw (sectors, log, max_write, batch) at past))

pub valid_is_read : (options : List Given) (sizes : Geometry) (result : Answer) → AreValid options sizes
    → IsRead (create options) result
    → IsErrOf result Usage
    → HasBadUuid (value_in options) ⊎ (sizes.log < 2 * (sizes.max_write + 1))
valid_is_read options sizes result valid read usage =
    bad_valid options sizes valid (usage_is_read (create options) result read usage)

log_is_given : (value : Text → Option Text) (least most : ℕ) (sectors : Option ℕ) → value (codes "log") ≢ None
    → MayBeBetween value (codes "log") least most sectors → LacksBetween value (codes "log") least most → ⊥
log_is_given value least most None some none lacks = some none
log_is_given value least most (Some n) some is lacks = lacks n is

-- of a mount whose log keeps its limits the uuid alone can be bad
bad_mount_valid : (value : Text → Option Text) (n : Option ℕ) → MayBeBetween value (codes "log") 0 (2 ^ 31) n
    → HasBadMountValue value → IsNoUuid value (codes "volume")
bad_mount_valid value n within (mounting.volume bad) = bad
bad_mount_valid value n within (mounting.log some lacks) = absurd (log_is_given value 0 (2 ^ 31) n some within lacks)

bad_serve_valid : (options : List Given) → AreValidToServe options → HasBadServeValue (serve_value options)
    → IsNoUuid (serve_value options) (codes "volume")
bad_serve_valid options valid (serving.mount bad) = bad_mount_valid (serve_value options) valid.log.0 valid.log.1 bad
bad_serve_valid options valid (serving.workers lacks) = absurd (lacks valid.workers.0 valid.workers.1)
bad_serve_valid options valid (serving.lanes lacks) = absurd (lacks valid.lanes.0 valid.lanes.1)
bad_serve_valid options valid (serving.sessions lacks) = absurd (lacks valid.sessions.0 valid.sessions.1)

pub serve_valid_is_read : (options : List Given) (result : Answer) → AreValidToServe options → IsRead (serve options) result
    → IsErrOf result Usage
    → IsNoUuid (serve_value options) (codes "volume")
serve_valid_is_read options result valid read usage =
    bad_serve_valid options valid (usage_is_read (serve options) result read usage)

pub collect_valid_is_read : (options : List Given) (result : Answer) → AreValidToCollect options → IsRead (collect options) result
    → IsErrOf result Usage
    → IsNoUuid (collect_value options) (codes "volume")
collect_valid_is_read options result valid read usage =
    bad_mount_valid (collect_value options) valid.log.0 valid.log.1 (usage_is_read (collect options) result read usage)

pub check_valid_is_read : (options : List Given) (result : Answer) → IsRead (check options) result → IsErrOf result Usage
    → IsNoUuid (check_value options) (codes "volume")
check_valid_is_read options result read usage = usage_is_read (check options) result read usage

-- two numbers in their limits are no bad words
bad_churn_valid : (steps seed : ℕ) → steps ≤ 1000000 → seed < 2 ^ 64 → HasBadNumber (churn_value (decimal steps) (decimal seed))
    → ⊥
bad_churn_valid steps seed few small (churning.steps lacks) = lacks steps ((omega arith, refl), omega arith, few)
bad_churn_valid steps seed few small (churning.seed lacks) = lacks seed (small, refl)

-- and spell a line
pub numbers_spell : (steps seed : ℕ) (words : List Text) → steps ≤ 1000000 → seed < 2 ^ 64
    → words ≡ codes "churn" ∷ decimal steps ∷ decimal seed ∷ [] → Spells words (churn (decimal steps) (decimal seed))
numbers_spell steps seed words few small is = (
  decimal steps ∷ decimal seed ∷ [],
  is,
  churning.plain (decimal_stands steps (omega arith)) (decimal_stands seed small) (inl refl),
)

pub churn_valid_is_read : (steps seed : ℕ) (result : Answer) → steps ≤ 1000000 → seed < 2 ^ 64
    → IsRead (churn (decimal steps) (decimal seed)) result
    → IsErrOf result Usage → ⊥
churn_valid_is_read steps seed result few small read usage =
    bad_churn_valid steps seed few small (usage_is_read (churn (decimal steps) (decimal seed)) result read usage)
