use Rattle.std.proofs.Common.{codes, inl, inr}
use Rattle.clap.specs.Words.{found_of}
use Rattle.command_line.proofs.Spelled.{got_none, got_some}
use Rattle.command_line.proofs.values.files_in.Goals as goal

pub returns-in_err-get_str-clause-none : goal.returns-in_err-get_str-clause-none
returns-in_err-get_str-clause-none c =
    rw c.from_residual.ensures
    (inl (got_none (found_of c.args.values.now) (codes "store") c.get_str.result c.get_str.ensures c.in_err-get_str.was))

pub returns-in_err-get_str-2-clause-none : goal.returns-in_err-get_str-2-clause-none
returns-in_err-get_str-2-clause-none c =
    rw c.from_residual-in_err-get_str-2.ensures
    (inr (got_none (found_of c.args.values.now) (codes "cache") c.get_str-2.result c.get_str-2.ensures c.in_err-get_str-2.was))

pub returns-clause-found : goal.returns-clause-found
returns-clause-found c = record {
  store = got_some (found_of c.args.values.now)
      (codes "store") c.get_str.result c.in_ok-get_str.field-0 c.get_str.ensures c.in_ok-get_str.was;
  cache = got_some (found_of c.args.values.now)
      (codes "cache") c.get_str-2.result c.in_ok-get_str-2.field-0 c.get_str-2.ensures c.in_ok-get_str-2.was;
}
