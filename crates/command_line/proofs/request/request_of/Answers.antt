use Rattle.std.proofs.Common.{List, inl, inr, map, string_bytes, subst, sym}
use Rattle.std.specs.Prelude.{Err, Ok, decimal}
use Rattle.clap.specs.Walk.{Text}
use Rattle.clap.specs.Simple.{subcommand_of}
use Rattle.command_line.specs.CommandLine.{IsRead, Line, Spells, check, churn, collect, create, faults_of, replay, serve}
use Rattle.command_line.specs.Program.{lsvdctl}
use Rattle.command_line.specs.declared.request.CommandLineError.{CommandLineError}
use Rattle.command_line.specs.declared.request.CommandLineError.TheVariants.{Usage}
use Rattle.command_line.proofs.Lines.{IsFound, error_of_taken, spelled_is_found, spelled_is_taken, spells_a_command}
use Rattle.command_line.proofs.Lines.{taken_is_spelled}
use Rattle.command_line.proofs.Requests.{check_valid_is_read, churn_valid_is_read, collect_valid_is_read, found_asks}
use Rattle.command_line.proofs.Requests.{found_asks_nothing, numbers_spell, replay_is_read, serve_valid_is_read, valid_is_read}
use Rattle.command_line.proofs.request.request_of.Goals as goal
use Rattle.command_line.proofs.request.request_of.Goals.{Joined-error, Joined-matches, Joined-matches-2}

-- what clap finds in the words of a line, as its matches
found_in : (words : List Text) (line : Line) (spelled : Spells words line) → IsFound line (subcommand_of lsvdctl words)
found_in words line spelled = spelled_is_found words line spelled

-- ---- clap refuses the words

read_of_error : (c : Joined-error) (line : Line) → Spells (map string_bytes c.args.words.now) line
    → IsRead line (Err c.cause_of.result)
read_of_error c line spelled =
    let words = map string_bytes c.args.words.now in
    let memory = error_of_taken (faults_of words) c.in-Err.error c.in-Err.ensures.kinds (spelled_is_taken words line spelled) in
    let P : CommandLineError → Type 0 = λ e. IsRead line (Err e) in
    subst P (sym (c.cause_of.ensures.memory memory)) tt

pub returns-in-Err-clause-line : goal.returns-in-Err-clause-line
returns-in-Err-clause-line c = read_of_error c

pub returns-in-Err-clause-replay : goal.returns-in-Err-clause-replay
returns-in-Err-clause-replay c is = replay_is_read (Err c.cause_of.result) (read_of_error c replay (inl is))

pub returns-in-Err-clause-valid : goal.returns-in-Err-clause-valid
returns-in-Err-clause-valid c options sizes valid is =
    valid_is_read options sizes (Err c.cause_of.result) valid (read_of_error c (create options) (valid.are, inl is))

pub returns-in-Err-clause-serve_valid : goal.returns-in-Err-clause-serve_valid
returns-in-Err-clause-serve_valid c options valid is =
    serve_valid_is_read options (Err c.cause_of.result) valid (read_of_error c (serve options) (valid.are, inl is))

pub returns-in-Err-clause-collect_valid : goal.returns-in-Err-clause-collect_valid
returns-in-Err-clause-collect_valid c options valid is =
    collect_valid_is_read options (Err c.cause_of.result) valid (read_of_error c (collect options) (valid.are, inl is))

pub returns-in-Err-clause-check_valid : goal.returns-in-Err-clause-check_valid
returns-in-Err-clause-check_valid c options valid is =
    check_valid_is_read options (Err c.cause_of.result) (read_of_error c (check options) (valid.are, inl is))

pub returns-in-Err-clause-churn_valid : goal.returns-in-Err-clause-churn_valid
returns-in-Err-clause-churn_valid c steps seed few small is =
    churn_valid_is_read steps seed (Err c.cause_of.result) few small
    (read_of_error c (churn (decimal steps) (decimal seed)) (numbers_spell steps seed _ few small is))

-- ---- the matches make a request

read_of_request : (c : Joined-matches) (line : Line) → Spells (map string_bytes c.args.words.now) line
    → IsRead line (Ok c.in-Some.request)
read_of_request c line spelled =
    found_asks line _ c.in-Some.request (subst (IsFound line) (sym c.in-Ok.ensures.met)
    (spelled_is_found (map string_bytes c.args.words.now) line spelled))
    c.in-Some.ensures.found

pub returns-in-Some-clause-ok : goal.returns-in-Some-clause-ok
returns-in-Some-clause-ok c =
    let spelled = taken_is_spelled (map string_bytes c.args.words.now) c.in-Ok.ensures.kinds in
    (spelled.0, spelled.1, read_of_request c spelled.0 spelled.1)

pub returns-in-Some-clause-line : goal.returns-in-Some-clause-line
returns-in-Some-clause-line c = read_of_request c

pub returns-in-Some-clause-replay : goal.returns-in-Some-clause-replay
returns-in-Some-clause-replay c is = replay_is_read (Ok c.in-Some.request) (read_of_request c replay (inl is))

pub returns-in-Some-clause-unknown : goal.returns-in-Some-clause-unknown
returns-in-Some-clause-unknown c first rest is unknown =
    let spelled = taken_is_spelled (map string_bytes c.args.words.now) c.in-Ok.ensures.kinds in
    absurd (spells_a_command first rest spelled.0 (subst (λ (words : List Text). Spells words spelled.0) is spelled.1) unknown)

-- ---- the matches make none

read_of_none : (c : Joined-matches-2) (line : Line) → Spells (map string_bytes c.args.words.now) line → IsRead line (Err Usage)
read_of_none c line spelled =
    found_asks_nothing (map string_bytes c.args.words.now) line _ spelled
    (subst (IsFound line) (sym c.in-Ok.ensures.met) (spelled_is_found (map string_bytes c.args.words.now) line spelled))
    c.in-None.ensures.none

pub returns-clause-usage : goal.returns-clause-usage
returns-clause-usage c usage =
    let spelled = taken_is_spelled (map string_bytes c.args.words.now) c.in-Ok.ensures.kinds in
    inr (spelled.0, spelled.1, read_of_none c spelled.0 spelled.1)

pub returns-clause-line : goal.returns-clause-line
returns-clause-line c = read_of_none c

pub returns-clause-replay : goal.returns-clause-replay
returns-clause-replay c is = replay_is_read (Err Usage) (read_of_none c replay (inl is))

pub returns-clause-valid : goal.returns-clause-valid
returns-clause-valid c options sizes valid is =
    valid_is_read options sizes (Err Usage) valid (read_of_none c (create options) (valid.are, inl is))

pub returns-clause-serve_valid : goal.returns-clause-serve_valid
returns-clause-serve_valid c options valid is =
    serve_valid_is_read options (Err Usage) valid (read_of_none c (serve options) (valid.are, inl is))

pub returns-clause-collect_valid : goal.returns-clause-collect_valid
returns-clause-collect_valid c options valid is =
    collect_valid_is_read options (Err Usage) valid (read_of_none c (collect options) (valid.are, inl is))

pub returns-clause-check_valid : goal.returns-clause-check_valid
returns-clause-check_valid c options valid is =
    check_valid_is_read options (Err Usage) (read_of_none c (check options) (valid.are, inl is))

pub returns-clause-churn_valid : goal.returns-clause-churn_valid
returns-clause-churn_valid c steps seed few small is =
    churn_valid_is_read steps seed (Err Usage) few small
    (read_of_none c (churn (decimal steps) (decimal seed)) (numbers_spell steps seed _ few small is))
