use Rattle.std.proofs.Common.{rules, ◌≡◌, false, refl}
use Rattle.std.specs.Prelude.{Some, is_ok}
use Rattle.lsvd_fault.specs.Faults.{CountsOne}
use Rattle.lsvd_device.specs.Calls.{read_cost, fuse_after}
use Rattle.lsvd_device.specs.Device.{DiskState}
use Rattle.lsvd_device.proofs.Fused.{fused_passed, fused_stopped, fused_blown}
use Rattle.lsvd_device.proofs.fuse.FuseDiskDisk.read.Goals as goal

pub returns-in_err-pass-clause-call : goal.returns-in_err-pass-clause-call
returns-in_err-pass-clause-call g c =
    let disk : DiskState = g.D.Disk.state c.self.inside.disk in
    let burnt : c.self.inside.left ≡ Some 0 = search rules in
    let stays : c.pass.new.left ≡ Some 0 = search rules in
    let counted : CountsOne c.self.inside.failed c.pass.new.failed = search rules in
    let failed : is_ok c.from_residual.result ≡ false = search rules in
    rw (← c.self.view_is, failed) (fused_stopped (read_cost) c.self.inside.left c.pass.new.left c.self.inside.failed
    c.pass.new.failed disk refl burnt stays counted)

pub returns-clause-call : goal.returns-clause-call
returns-clause-call g c =
    let old : DiskState = g.D.Disk.state c.self.inside.disk in
    let new : DiskState = g.D.Disk.state c.read.new.self in
    let some : c.self.inside.left ≡ Some 0 → ⊥ = search rules in
    let after : c.pass.new.left ≡ fuse_after c.self.inside.left 1 = search rules in
    let same : c.pass.new.failed ≡ c.self.inside.failed = search rules in
    rw (← c.self.view_is)
    (fused_passed (read_cost) (is_ok c.read.result) c.self.inside.left c.pass.new.left c.self.inside.failed c.pass.new.failed old
    new refl some after same c.read.ensures.call)

pub returns-clause-blown : goal.returns-clause-blown
returns-clause-blown g c =
    let old : DiskState = g.D.Disk.state c.self.inside.disk in
    let new : DiskState = g.D.Disk.state c.read.new.self in
    let some : c.self.inside.left ≡ Some 0 → ⊥ = search rules in
    let after : c.pass.new.left ≡ fuse_after c.self.inside.left 1 = search rules in
    let same : c.pass.new.failed ≡ c.self.inside.failed = search rules in
    rw (← c.self.view_is) (fused_blown (is_ok c.read.result) c.self.inside.left c.pass.new.left c.self.inside.failed
    c.pass.new.failed old new some after same c.read.ensures.blown)
