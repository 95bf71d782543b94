use Rattle.std.proofs.Common.{◌≡◌, [], ◌∷◌, refl, subst}
use Rattle.std.specs.Prelude.{true, is_ok}
use Rattle.lsvd_device.specs.Medium.{after_write, after_sync}
use Rattle.lsvd_device.specs.Calls.{write_cost, sync_cost}
use Rattle.lsvd_device.specs.Device.{DiskState, moments_after}
use Rattle.lsvd_device.specs.Sequence.{Call, Write, Sync, MakesThosePassed}
use Rattle.lsvd_device.proofs.Together.{made_then}
use Rattle.lsvd_device.proofs.Passed.{passed_one, passed_then}
use Rattle.commit_slot.specs.Slots.{gate_at}
use Rattle.commit_slot.specs.Clearing.{OpensFirst}
use Rattle.commit_slot.proofs.CallLemmas.{passed_of_result, write_costs, sync_costs}
use Rattle.commit_slot.proofs.Outcomes.{on_ok_as}
use Rattle.commit_slot.proofs.FormatLemmas.{opens_first}
use Rattle.commit_slot.proofs.formatting.open_first_slot.Given as given
use Rattle.commit_slot.proofs.formatting.open_first_slot.Goals as goal
use Rattle.commit_slot.proofs.formatting.open_first_slot.Goals.{After-sync}

-- the gate was written
opened : (g : given.Over) (c : After-sync g) → (g.D.Disk.state c.write.new.self).moments
    ≡ moments_after (after_write (gate_at 0) (1 ∷ [])) (g.D.Disk.state c.args.disk.now).moments
opened g c = subst (λ at. (g.D.Disk.state c.write.new.self).moments ≡ moments_after (after_write at (1 ∷ []))
    (g.D.Disk.state c.args.disk.now).moments) c.gate_at.ensures c.in_ok-write.ensures.ok

pub returns-clause-ok : goal.returns-clause-ok
returns-clause-ok g c =
    let old : DiskState = g.D.Disk.state c.args.disk.now in
    let middle : DiskState = g.D.Disk.state c.write.new.self in
    let new : DiskState = g.D.Disk.state c.sync.new.self in
    on_ok_as _ (new.moments ≡ moments_after after_sync middle.moments) (OpensFirst old new)
    (opens_first old middle new c.requires.size c.requires.is_disk c.write.ensures.disk c.write.ensures.call.size (opened g c))
    c.sync.ensures.ok

pub returns-clause-costs : goal.returns-clause-costs
returns-clause-costs g c =
    let old : DiskState = g.D.Disk.state c.args.disk.now in
    let middle : DiskState = g.D.Disk.state c.write.new.self in
    let new : DiskState = g.D.Disk.state c.sync.new.self in
    let w : Call = Write (gate_at 0) (1 ∷ []) in
    let passed : MakesThosePassed (w ∷ []) old middle =
    passed_one w (write_cost 1) true old middle (write_costs (gate_at 0) (1 ∷ []) 1 refl) (λ _. opened g c)
    c.in_ok-write.ensures.call c.in_ok-write.ensures.blown in
    record {
      calls = made_then (write_cost 1) sync_cost (is_ok c.sync.result) old middle new c.in_ok-write.ensures.call
          c.sync.ensures.call;
      performed = passed_then (w ∷ []) (Sync ∷ []) (write_cost 1) old middle new (write_costs (gate_at 0) (1 ∷ []) 1 refl)
          c.in_ok-write.ensures.call passed
          (passed_of_result c.sync.result sync_cost Sync middle new sync_costs c.sync.ensures.ok c.sync.ensures.call
          c.sync.ensures.blown);
    }
