use Rattle.std.proofs.Common.{ap, refl}
use Rattle.lsvd_files.specs.Kept.{Stays}
use Rattle.lsvd_objstore.specs.Directory.{Shelf}
use Rattle.lsvd_objstore.proofs.Shelved.{only_counts}
use Rattle.lsvd_objstore.proofs.directory.DirStoreStore.get.Goals as goal

pub returns-in-Ok-clause-unchanged : goal.returns-in-Ok-clause-unchanged
returns-in-Ok-clause-unchanged g c =
    let new : Shelf = record { directory = c.read.new.self; faults = c.self.inside.faults } in
    only_counts c.args.self.now new c.self.inside.files c.read.new.self (ap (λ (it : Shelf). it.directory) c.self.view_is) refl
    Stays (λ a b h. h) c.read.ensures

pub returns-in-Err-clause-unchanged : goal.returns-in-Err-clause-unchanged
returns-in-Err-clause-unchanged g c =
    only_counts c.args.self.now c.count.new.self c.self.inside.files c.read.new.self
    (ap (λ (it : Shelf). it.directory) c.self.view_is) (ap (λ (it : Shelf). it.directory) c.count.ensures.unchanged) Stays
    (λ a b h. h) c.read.ensures
