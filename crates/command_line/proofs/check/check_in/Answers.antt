use Rattle.std.proofs.Common.{◌∙◌, Some, ap, codes, inl, inr, option_map, refl}
use Rattle.clap.specs.Words.{found_of}
use Rattle.command_line.proofs.Spelled.{got_none, got_some}
use Rattle.command_line.proofs.check.check_in.Goals as goal

pub returns-in_err-get_str-clause-none : goal.returns-in_err-get_str-clause-none
returns-in_err-get_str-clause-none c =
    rw c.from_residual.ensures
    (inr (
      codes "store",
      refl,
      got_none (found_of c.args.values.now)
          (codes "store") c.get_str.result c.get_str.ensures c.in_err-get_str.was,
    ))

pub returns-in_err-uuid_in-clause-none : goal.returns-in_err-uuid_in-clause-none
returns-in_err-uuid_in-clause-none c = rw c.from_residual-in_err-uuid_in.ensures (inl c.in_err-uuid_in.ensures.none)

pub returns-clause-found : goal.returns-clause-found
returns-clause-found c = record {
  store = got_some (found_of c.args.values.now)
      (codes "store") c.get_str.result c.in_ok-get_str.field-0 c.get_str.ensures c.in_ok-get_str.was;
  volume = c.in_ok-uuid_in.ensures.found ∙ ap (option_map (λ u. Some u)) c.in_ok-branch.was;
}
