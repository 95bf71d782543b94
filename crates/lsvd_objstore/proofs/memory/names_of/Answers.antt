use Rattle.lsvd_objstore.proofs.Listed.{first_before_last, lists, are_names}
use Rattle.lsvd_objstore.proofs.memory.names_of.Goals as goal

pub names_between-requires : goal.names_between-requires
names_between-requires c = rw (c.first_name.ensures, c.last_name.ensures) (first_before_last c.args.uuid)

pub returns-clause-names : goal.returns-clause-names
returns-clause-names c =
    rw (c.in_ok-names.ensures.between, c.first_name.ensures, c.last_name.ensures)
    (are_names (lists c.args.uuid c.args.objects.now c.in_ok-names.ensures.ordered c.requires))

pub returns-clause-listed : goal.returns-clause-listed
returns-clause-listed c = rw (c.in_ok-names.ensures.between, c.first_name.ensures, c.last_name.ensures)
    (lists c.args.uuid c.args.objects.now c.in_ok-names.ensures.ordered c.requires)
