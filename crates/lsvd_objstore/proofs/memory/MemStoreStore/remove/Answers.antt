use Rattle.std.proofs.Common.{refl}
use Rattle.lsvd_objstore.proofs.Kept.{is_removed, HaveNames-remove_entry}
use Rattle.lsvd_objstore.proofs.memory.MemStoreStore.remove.Goals as goal

pub invariant_of-self : goal.invariant_of-self
invariant_of-self c = rw c.remove.ensures.entries (HaveNames-remove_entry _ c.self.inside.objects.entries c.self.invariant)

pub returns-clause-removed : goal.returns-clause-removed
returns-clause-removed c =
    rw (← c.self.view_is, ← c.receipt.view_is) (
      c.remove.new.self.entries,
      refl,
      is_removed c.receipt.inside.name c.self.inside.objects c.remove.new.self
          c.remove.ensures.updates,
    )
