use Rattle.std.proofs.Common.{rules}
use Rattle.lsvd_names.proofs.Names.{split_ending, ending_numbered}
use Rattle.lsvd_names.proofs.name.kind_and_number.Goals as goal

pub returns-in_err-kind_of-clause-none : goal.returns-in_err-kind_of-clause-none
returns-in_err-kind_of-clause-none c =
    rw c.from_residual-in_err-kind_of.ensures
    (λ kind number e.
    let is = ending_numbered c.args.text.now kind number e (search rules) in
    let parts = split_ending c.args.text.now kind number c.split_once.result c.split_once.ensures.cases is e in
    let read = rw c.in_ok-word.was at parts in
    c.in_err-kind_of.ensures.none kind is read.0)
