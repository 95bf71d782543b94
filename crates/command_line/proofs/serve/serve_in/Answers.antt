use Rattle.std.proofs.Common.{Option, codes, inl, inr, refl}
use Rattle.clap.specs.Walk.{Text}
use Rattle.clap.specs.Words.{found_of}
use Rattle.command_line.specs.Met.{LacksMountValue, LacksServeValue}
use Rattle.command_line.specs.Serve.{mount}
use Rattle.command_line.proofs.Spelled.{got_none, got_some}
use Rattle.command_line.proofs.serve.serve_in.Goals as goal

lacks_mount : (value : Text → Option Text) → LacksMountValue value → LacksServeValue value
lacks_mount value (inl bad) = inl (mount bad)
lacks_mount value (inr (inl (inl none))) = inr (codes "store", refl, none)
lacks_mount value (inr (inl (inr none))) = inr (codes "cache", refl, none)
lacks_mount value (inr (inr none)) = inr (codes "volume", refl, none)

pub returns-in_default-clause-none : goal.returns-in_default-clause-none
returns-in_default-clause-none c = lacks_mount _ c.in_default.ensures.none

pub returns-in_err-workers-clause-none : goal.returns-in_err-workers-clause-none
returns-in_err-workers-clause-none c = rw c.from_residual.ensures (inl c.in_err-workers.ensures.none)

pub returns-in_err-get_str-clause-none : goal.returns-in_err-get_str-clause-none
returns-in_err-get_str-clause-none c =
    rw c.from_residual-in_err-get_str.ensures
    (inr (
      codes "socket",
      refl,
      got_none (found_of c.args.values.now)
          (codes "socket") c.get_str.result c.get_str.ensures c.in_err-get_str.was,
    ))

pub returns-clause-found : goal.returns-clause-found
returns-clause-found c = record {
  mount = c.in-Some.ensures.found;
  socket = got_some (found_of c.args.values.now)
      (codes "socket") c.get_str.result c.in_ok-get_str.field-0 c.get_str.ensures c.in_ok-get_str.was;
  workers = c.in_ok-workers.ensures.found.workers;
  lanes = c.in_ok-workers.ensures.found.lanes;
  sessions = c.in_ok-workers.ensures.found.sessions;
}
