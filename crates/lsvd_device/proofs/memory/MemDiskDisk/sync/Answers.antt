use Rattle.std.proofs.Common.{rules, ◌≡◌, length, ◌∷◌, ◌++◌, [], ◌∙◌, ap, refl}
use Rattle.lsvd_device.specs.declared.change.Change.TheVariants.{Sync}
use Rattle.lsvd_device.specs.Device.{DiskState, moments_after}
use Rattle.lsvd_device.specs.Medium.{after_sync}
use Rattle.lsvd_device.specs.Memory.{moments_of}
use Rattle.lsvd_device.proofs.Moments.{kept_sync, moments_sync, kept_is_disk}
use Rattle.lsvd_device.proofs.memory.MemDiskDisk.sync.Goals as goal

pub invariant_of-self-2 : goal.invariant_of-self-2
invariant_of-self-2 c =
    let pushed : c.push.new.self.items ≡ c.self.inside.changes.items ++ Sync ∷ [] = search rules in
    let count : c.len-self-inside.result ≡ length c.push.new.self.items = search rules in
    rw (count, pushed) (kept_sync c.self.inside.size c.self.inside.synced c.self.inside.changes.items c.self.inside.written.items
    c.self.inside.front.items c.self.invariant)

pub returns-clause-ok : goal.returns-clause-ok
returns-clause-ok c =
    let pushed : c.push.new.self.items ≡ c.self.inside.changes.items ++ Sync ∷ [] = search rules in
    let was : moments_of c.self.inside.size c.self.inside.changes.items c.self.inside.written.items ≡ c.args.self.now.moments =
    ap (λ (d : DiskState). d.moments) c.self.view_is in
    rw pushed (moments_sync c.self.inside.size c.self.inside.changes.items c.self.inside.written.items
    ∙ ap (moments_after after_sync) was)

pub returns-clause-disk : goal.returns-clause-disk
returns-clause-disk c =
    let pushed : c.push.new.self.items ≡ c.self.inside.changes.items ++ Sync ∷ [] = search rules in
    let kept = kept_sync c.self.inside.size c.self.inside.synced c.self.inside.changes.items c.self.inside.written.items
    c.self.inside.front.items c.self.invariant in
    kept_is_disk _ (length c.push.new.self.items) c.push.new.self.items c.self.inside.written.items c.self.inside.front.items
    (search rules) refl (rw pushed kept)
