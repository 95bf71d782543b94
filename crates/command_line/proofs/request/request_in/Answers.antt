use Rattle.std.proofs.Common.{◌∙◌, Some, ap}
use Rattle.clap.specs.Words.{found_of, rows_of, subcommand_rows_of}
use Rattle.clap.specs.Walk.{Text}
use Rattle.command_line.proofs.Requests.{checks_none, churns_none, collects_none, creates_none, met_is, serves_none}
use Rattle.command_line.proofs.request.request_in.Goals as goal

pub returns-in-None-clause-none : goal.returns-in-None-clause-none
returns-in-None-clause-none c =
    let rows = rows_of (found_of c.in_ok-command.values.now) in
    let met = met_is c.args.matches.now c.in_ok-command.command.now rows c.in_ok-command.ensures.name
    c.in_ok-command.ensures.rows in
    creates_none (subcommand_rows_of c.args.matches.now) rows (met ∙ ap (λ (name : Text). Some (name, rows)) c.in-create.is)
    c.in-None.ensures.none

pub returns-in-None-serve_in-clause-none : goal.returns-in-None-serve_in-clause-none
returns-in-None-serve_in-clause-none c =
    let rows = rows_of (found_of c.in_ok-command.values.now) in
    let met = met_is c.args.matches.now c.in_ok-command.command.now rows c.in_ok-command.ensures.name
    c.in_ok-command.ensures.rows in
    serves_none (subcommand_rows_of c.args.matches.now) rows (met ∙ ap (λ (name : Text). Some (name, rows)) c.in-serve.is)
    c.in-None-serve_in.ensures.none

pub returns-in-None-mount_in-clause-none : goal.returns-in-None-mount_in-clause-none
returns-in-None-mount_in-clause-none c =
    let rows = rows_of (found_of c.in_ok-command.values.now) in
    let met = met_is c.args.matches.now c.in_ok-command.command.now rows c.in_ok-command.ensures.name
    c.in_ok-command.ensures.rows in
    collects_none (subcommand_rows_of c.args.matches.now) rows (met ∙ ap (λ (name : Text). Some (name, rows)) c.in-collect.is)
    c.in-None-mount_in.ensures.none

pub returns-in-None-check_in-clause-none : goal.returns-in-None-check_in-clause-none
returns-in-None-check_in-clause-none c =
    let rows = rows_of (found_of c.in_ok-command.values.now) in
    let met = met_is c.args.matches.now c.in_ok-command.command.now rows c.in_ok-command.ensures.name
    c.in_ok-command.ensures.rows in
    checks_none (subcommand_rows_of c.args.matches.now) rows (met ∙ ap (λ (name : Text). Some (name, rows)) c.in-check.is)
    c.in-None-check_in.ensures.none

pub returns-in-None-churn_in-clause-none : goal.returns-in-None-churn_in-clause-none
returns-in-None-churn_in-clause-none c =
    let rows = rows_of (found_of c.in_ok-command.values.now) in
    let met = met_is c.args.matches.now c.in_ok-command.command.now rows c.in_ok-command.ensures.name
    c.in_ok-command.ensures.rows in
    churns_none (subcommand_rows_of c.args.matches.now) rows (met ∙ ap (λ (name : Text). Some (name, rows)) c.in-churn.is)
    c.in-None-churn_in.ensures.none
