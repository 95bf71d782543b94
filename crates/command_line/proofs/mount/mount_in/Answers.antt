use Rattle.std.proofs.Common.{◌∙◌, Some, ap, inl, inr, option_map}
use Rattle.command_line.specs.Mount.{log, volume}
use Rattle.command_line.proofs.mount.mount_in.Goals as goal

pub returns-in_err-store-clause-none : goal.returns-in_err-store-clause-none
returns-in_err-store-clause-none c = rw c.from_residual.ensures (inr (inl c.in_err-store.ensures.none))

pub returns-in_err-uuid_in-clause-none : goal.returns-in_err-uuid_in-clause-none
returns-in_err-uuid_in-clause-none c =
    rw c.from_residual-in_err-uuid_in.ensures (inl (volume c.in_err-uuid_in.ensures.none))

pub returns-in_err-number_if_given-clause-none : goal.returns-in_err-number_if_given-clause-none
returns-in_err-number_if_given-clause-none c =
    let lacks = c.in_err-number_if_given.ensures.none in
    rw c.from_residual-in_err-number_if_given.ensures (inl (log lacks.0 lacks.1))

pub returns-clause-found : goal.returns-clause-found
returns-clause-found c = record {
  store = c.in_ok-store.ensures.found.store;
  volume = c.in_ok-uuid_in.ensures.found ∙ ap (option_map (λ u. Some u)) c.in_ok-branch.was;
  cache = c.in_ok-store.ensures.found.cache;
  is_lost = c.is_set.ensures;
  log = c.in_ok-number_if_given.ensures.found;
}
