use Rattle.std.proofs.Common.{ap, refl, subst}
use Rattle.lsvd_names.specs.declared.name.ObjName.{ObjName}
use Rattle.lsvd_objstore.specs.Objects.{IsRemoved, MayBeRemoved}
use Rattle.lsvd_objstore.specs.Store.{Becomes}
use Rattle.lsvd_objstore.specs.Directory.{Filed, Shelf, shelf_store}
use Rattle.lsvd_objstore.proofs.Shelved.{between, becomes_removed, becomes_may_be_removed}
use Rattle.lsvd_objstore.proofs.directory.DirStoreStore.remove.Goals as goal

pub returns-in-Ok-clause-removed : goal.returns-in-Ok-clause-removed
returns-in-Ok-clause-removed g c =
    let name = c.receipt.inside.name in
    let old = c.args.self.now in
    let new : Shelf = record { directory = c.remove.new.self; faults = c.self.inside.faults } in
    subst (λ (it : ObjName). Becomes (IsRemoved it) (shelf_store old).objects (shelf_store new).objects)
    (ap (λ (it : Filed). it.name) c.receipt.view_is)
    (between old new c.self.inside.files c.remove.new.self (ap (λ (it : Shelf). it.directory) c.self.view_is) refl
    (IsRemoved name)
    (becomes_removed name c.receipt.invariant c.self.inside.files c.remove.new.self c.in-Ok.ensures.ok))

pub returns-in-Err-clause-failed : goal.returns-in-Err-clause-failed
returns-in-Err-clause-failed g c =
    let name = c.receipt.inside.name in
    let old = c.args.self.now in
    let new = c.count.new.self in
    subst (λ (it : ObjName). Becomes (MayBeRemoved it) (shelf_store old).objects (shelf_store new).objects)
    (ap (λ (it : Filed). it.name) c.receipt.view_is)
    (between old new c.self.inside.files c.remove.new.self (ap (λ (it : Shelf). it.directory) c.self.view_is)
    (ap (λ (it : Shelf). it.directory) c.count.ensures.unchanged) (MayBeRemoved name)
    (becomes_may_be_removed name c.receipt.invariant c.self.inside.files c.remove.new.self c.in-Err.ensures.err))
