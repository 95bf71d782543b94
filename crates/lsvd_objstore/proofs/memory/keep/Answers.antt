use Rattle.lsvd_objstore.proofs.Kept.{is_put, HaveNames-insert_entry}
use Rattle.lsvd_objstore.proofs.memory.keep.Goals as goal

pub returns-clause-put : goal.returns-clause-put
returns-clause-put c = is_put c.args.name c.args.bytes c.args.objects.now c.insert.new.self c.in_ok-insert.ensures.updates

pub returns-clause-names : goal.returns-clause-names
returns-clause-names c = rw c.in_ok-insert.ensures.entries
    (HaveNames-insert_entry c.args.name c.args.bytes c.args.objects.now.entries c.requires.name c.requires.names)
