use Rattle.lsvd_names.proofs.Names.{split_spelling}
use Rattle.lsvd_names.proofs.name.ObjName.parse.Goals as goal

pub returns-in_err-uuid-clause-none : goal.returns-in_err-uuid-clause-none
returns-in_err-uuid-clause-none c =
    rw c.from_residual.ensures (λ name is e. rw c.in_err-uuid.was at (split_spelling c.args.text.now name c.split_once.result
    c.split_once.ensures.cases e))

pub returns-in_err-kind-clause-none : goal.returns-in_err-kind-clause-none
returns-in_err-kind-clause-none c =
    rw c.from_residual-in_err-kind.ensures
    (λ name is e.
    let parts = rw c.in_ok-uuid.was at (split_spelling c.args.text.now name c.split_once.result c.split_once.ensures.cases e) in
    c.in_err-kind.ensures.none name.kind name.number parts.1)

pub returns-in_err-uuid_of-clause-none : goal.returns-in_err-uuid_of-clause-none
returns-in_err-uuid_of-clause-none c =
    rw c.from_residual-in_err-uuid_of.ensures
    (λ name is e.
    let parts = rw c.in_ok-uuid.was at (split_spelling c.args.text.now name c.split_once.result c.split_once.ensures.cases e) in
    c.in_err-uuid_of.ensures.none name.uuid is.uuid parts.0)
