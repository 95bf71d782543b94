use Rattle.std.proofs.Common.{Option, codes, inl, inr, refl}
use Rattle.clap.specs.Walk.{Text}
use Rattle.command_line.specs.Create.{uuid}
use Rattle.command_line.specs.Met.{LacksFile, LacksValue}
use Rattle.command_line.proofs.create.create_in.Goals as goal

lacks_file : (value : Text → Option Text) → LacksFile value → LacksValue value
lacks_file value (inl none) = inr (codes "store", refl, none)
lacks_file value (inr none) = inr (codes "cache", refl, none)

pub returns-in_err-sizes-clause-none : goal.returns-in_err-sizes-clause-none
returns-in_err-sizes-clause-none c = rw c.from_residual.ensures (inl c.in_err-sizes.ensures.none)

pub returns-in_err-store-clause-none : goal.returns-in_err-store-clause-none
returns-in_err-store-clause-none c =
    rw c.from_residual-in_err-store.ensures (lacks_file _ c.in_err-store.ensures.none)

pub returns-in_err-uuid_in-clause-none : goal.returns-in_err-uuid_in-clause-none
returns-in_err-uuid_in-clause-none c =
    rw c.from_residual-in_err-uuid_in.ensures (inl (uuid c.in_err-uuid_in.ensures.none))

pub returns-clause-found : goal.returns-clause-found
returns-clause-found c = record {
  store = c.in_ok-store.ensures.found.store;
  cache = c.in_ok-store.ensures.found.cache;
  sizes = c.in_ok-sizes.ensures.found.0;
  within = c.in_ok-sizes.ensures.found.1;
  uuid = c.in_ok-uuid_in.ensures.found;
}
