use Rattle.std.proofs.Common.{◌≡◌, ◌∙◌, ◌+◌, [], ◌∷◌, ap, subst}
use Rattle.lsvd_device.specs.Medium.{after_write, after_sync}
use Rattle.lsvd_device.specs.Device.{DiskState, moments_after, FailsToWrite}
use Rattle.commit_slot.specs.Slots.{gate_at}
use Rattle.commit_slot.specs.States.{IsSecondHalf, FailsSecondHalf}
use Rattle.commit_slot.specs.LogArea.{KeepsLogAreaSince}
use Rattle.commit_slot.proofs.LogAreaLemmas.{gate_inside, failed_stays, write_stays, stays_then, sync_stays, same_stays}
use Rattle.commit_slot.proofs.Outcomes.{on_error, on_ok_as, on_error_as, on_both}
use Rattle.commit_slot.proofs.Steps.{next_of, IsOpened, opening_failed, second_half, second_sync_failed}
use Rattle.commit_slot.proofs.halves.open_and_sync.Given as given
use Rattle.commit_slot.proofs.halves.open_and_sync.Goals as goal
use Rattle.commit_slot.proofs.halves.open_and_sync.Goals.{After-from_residual, After-sync}

-- the write of the gate failed
fails : (g : given.Over) (c : After-from_residual g)
    → FailsToWrite (gate_at (next_of c.args.number)) 1 (g.D.Disk.state c.args.disk.now).moments
    (g.D.Disk.state c.write.new.self).moments
fails g c = subst (λ at. FailsToWrite at 1 (g.D.Disk.state c.args.disk.now).moments (g.D.Disk.state c.write.new.self).moments)
    (c.gate_at.ensures ∙ ap gate_at c.slot_of.ensures) c.in_err-write.ensures.err

-- it was made
opened : (g : given.Over) (c : After-sync g)
    → IsOpened c.args.number (g.D.Disk.state c.args.disk.now) (g.D.Disk.state c.write.new.self)
opened g c = record {
  least = c.requires.size;
  is_disk = c.requires.is_disk;
  is_disk' = c.write.ensures.disk;
  size = c.write.ensures.call.size;
  moments = subst (λ at. (g.D.Disk.state c.write.new.self).moments ≡ moments_after (after_write at (1 ∷ []))
      (g.D.Disk.state c.args.disk.now).moments) (c.gate_at.ensures ∙ ap gate_at c.slot_of.ensures) c.in_ok-write.ensures.ok;
}

pub returns-in_err-write-clause-err : goal.returns-in_err-write-clause-err
returns-in_err-write-clause-err g c = on_error _ _ (opening_failed c.args.number (g.D.Disk.state c.args.disk.now)
    (g.D.Disk.state c.write.new.self) (fails g c))

pub returns-in_err-write-clause-log_area : goal.returns-in_err-write-clause-log_area
returns-in_err-write-clause-log_area g c =
    failed_stays (gate_at (next_of c.args.number)) 1 (g.D.Disk.state c.args.disk.now).moments
    (g.D.Disk.state c.write.new.self).moments (gate_inside (c.args.number + 1)) (fails g c)

pub returns-clause-ok : goal.returns-clause-ok
returns-clause-ok g c =
    let old : DiskState = g.D.Disk.state c.args.disk.now in
    let middle : DiskState = g.D.Disk.state c.write.new.self in
    let new : DiskState = g.D.Disk.state c.sync.new.self in
    on_ok_as _ (new.moments ≡ moments_after after_sync middle.moments) (IsSecondHalf c.args.number old new)
    (second_half c.args.number old middle new (opened g c)) c.sync.ensures.ok

pub returns-clause-err : goal.returns-clause-err
returns-clause-err g c =
    let old : DiskState = g.D.Disk.state c.args.disk.now in
    let middle : DiskState = g.D.Disk.state c.write.new.self in
    let new : DiskState = g.D.Disk.state c.sync.new.self in
    on_error_as _ (new.moments ≡ middle.moments) (FailsSecondHalf c.args.number old new)
    (second_sync_failed c.args.number old middle new (opened g c)) c.sync.ensures.err

pub returns-clause-log_area : goal.returns-clause-log_area
returns-clause-log_area g c =
    let old : DiskState = g.D.Disk.state c.args.disk.now in
    let middle : DiskState = g.D.Disk.state c.write.new.self in
    let new : DiskState = g.D.Disk.state c.sync.new.self in
    let is = opened g c in
    stays_then old.moments middle.moments new.moments
    (write_stays old.size (gate_at (next_of c.args.number)) (1 ∷ []) old.moments middle.moments (gate_inside (c.args.number + 1))
    is.least is.is_disk.media is.moments)
    (on_both c.sync.result _ _ (KeepsLogAreaSince middle.moments new.moments) (sync_stays middle.moments new.moments)
    (same_stays middle.moments new.moments) c.sync.ensures.ok c.sync.ensures.err)
