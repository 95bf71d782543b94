use Rattle.std.proofs.Common.{inl, inr, map, string_bytes, subst, sym}
use Rattle.clap.specs.Simple.{subcommand_rows_of}
use Rattle.command_line.proofs.Lines.{IsFound, spelled_is_found, taken_is_spelled}
use Rattle.command_line.proofs.Mistakes.{error_is_faulty, found_or_other}
use Rattle.command_line.proofs.Requests.{found_asks, found_asks_nothing}
use Rattle.command_line.proofs.mistake.mistake_of.Goals as goal

pub returns-in-Some-clause-none : goal.returns-in-Some-clause-none
returns-in-Some-clause-none c =
    let words = map string_bytes c.args.words.now in
    let spelled = taken_is_spelled words c.in-Ok.ensures.kinds in
    let found = subst (IsFound spelled.0) (sym c.in-Ok.ensures.met) (spelled_is_found words spelled.0 spelled.1) in
    inl (
      spelled.0,
      c.in-Some.field-0,
      spelled.1,
      found_asks spelled.0 (subcommand_rows_of c.in-Ok.matches) c.in-Some.field-0 found c.in-Some.ensures.found,
    )

pub returns-in-Ok-clause-some : goal.returns-in-Ok-clause-some
returns-in-Ok-clause-some c =
    let words = map string_bytes c.args.words.now in
    let spelled = taken_is_spelled words c.in-Ok.ensures.kinds in
    let found = subst (IsFound spelled.0) (sym c.in-Ok.ensures.met) (spelled_is_found words spelled.0 spelled.1) in
    inr (
      spelled.0,
      spelled.1,
      found_asks_nothing words spelled.0 (subcommand_rows_of c.in-Ok.matches) spelled.1 found c.in-None.ensures.none,
    )

pub returns-in-Ok-clause-names : goal.returns-in-Ok-clause-names
returns-in-Ok-clause-names c =
    let words = map string_bytes c.args.words.now in
    let spelled = taken_is_spelled words c.in-Ok.ensures.kinds in
    let found = subst (IsFound spelled.0) (sym c.in-Ok.ensures.met) (spelled_is_found words spelled.0 spelled.1) in
    rw c.unwrap_or.ensures
    (found_or_other words spelled.0 (subcommand_rows_of c.in-Ok.matches) c.bad_value_in.result spelled.1 found
    c.bad_value_in.ensures)

pub returns : goal.returns
returns c = record {
  none = tt;
  some = inl (error_is_faulty (map string_bytes c.args.words.now) c.in-Err.error c.kind.result c.kind.ensures
      c.in-Err.ensures.kinds
      c.in_default.not-OutOfMemory);
  names = c.in_ok-fault_in-in_default.ensures;
}
