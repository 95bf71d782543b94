use Rattle.std.proofs.Common.{rules, ◌≡◌, ◌∙◌, [], ◌∷◌, ◌+◌, ◌%◌, true, false, ap, sym, subst}
use Rattle.std.specs.Prelude.{is_ok}
use Rattle.lsvd_device.specs.Medium.{after_write}
use Rattle.lsvd_device.specs.Device.{moments_after, FailsToWrite}
use Rattle.commit_slot.specs.Slots.{gate_at}
use Rattle.commit_slot.specs.Loading.{MakesAtMost}
use Rattle.commit_slot.specs.Mending.{close_cost}
use Rattle.commit_slot.proofs.Steps.{next_of}
use Rattle.commit_slot.proofs.MendLemmas.{AreThere, next_place}
use Rattle.commit_slot.proofs.MendPaths.{IsGateRead, gate_failed_newest, gate_failed_stays, gate_closed_newest, gate_closed_stays}
use Rattle.commit_slot.proofs.MendPaths.{gate_costs}
use Rattle.commit_slot.proofs.loading.close_next.Given as given
use Rattle.commit_slot.proofs.loading.close_next.Goals as goal
use Rattle.commit_slot.proofs.loading.close_next.Goals.{After-write, After-from_residual-in_err-write, In_ok-write}

-- the place of the gate
place : (g : given.Over) (c : After-write g) → c.gate_at-at.result ≡ gate_at (next_of c.args.number)
place g c = c.gate_at-at.ensures ∙ ap gate_at (c.slot_after.ensures ∙ ap (λ s. (s + 1) % 3) c.slot_of.ensures
    ∙ next_place c.args.number)

-- it was read, and is open
read : (g : given.Over) (c : After-write g) → IsGateRead c.args.number c.read.new.buf (g.D.Disk.state c.args.disk.now)
    (g.D.Disk.state c.read.new.self)
read g c = record {
  least = c.requires.size;
  is_disk = c.requires.is_disk;
  is_disk' = c.read.ensures.disk;
  there = subst (λ a. AreThere a 1 c.read.new.buf (g.D.Disk.state c.args.disk.now).moments) (place g c) (search rules);
  one = search rules;
  read = c.in_ok-read.ensures.call;
  same = c.read.ensures.moments;
}

-- the write failed
fails : (g : given.Over) (c : After-from_residual-in_err-write g)
    → FailsToWrite (gate_at (next_of c.args.number)) 1 (g.D.Disk.state c.read.new.self).moments
    (g.D.Disk.state c.write.new.self).moments
fails g c = subst (λ a. FailsToWrite a 1 (g.D.Disk.state c.read.new.self).moments (g.D.Disk.state c.write.new.self).moments)
    (place g (goal.at.returns-in_err-write-clause-newest g c).After-write) c.in_err-write.ensures.err

-- it was made
closes : (g : given.Over) (c : In_ok-write g) → (g.D.Disk.state c.write.new.self).moments
    ≡ moments_after (after_write (gate_at (next_of c.args.number)) (0 ∷ [])) (g.D.Disk.state c.read.new.self).moments
closes g c =
    subst (λ a. (g.D.Disk.state c.write.new.self).moments ≡ moments_after (after_write a (0 ∷ []))
    (g.D.Disk.state c.read.new.self).moments) (place g (goal.at.returns-clause-newest g c).After-write)
    c.in_ok-write.ensures.ok

pub returns-in_err-write-clause-newest : goal.returns-in_err-write-clause-newest
returns-in_err-write-clause-newest g c =
    gate_failed_newest _ _ (g.D.Disk.state c.args.disk.now) (g.D.Disk.state c.read.new.self) (g.D.Disk.state c.write.new.self)
    (read g (goal.at.returns-in_err-write-clause-newest g c).After-write) (fails g c)

pub returns-in_err-write-clause-log_area : goal.returns-in_err-write-clause-log_area
returns-in_err-write-clause-log_area g c =
    gate_failed_stays _ _ (g.D.Disk.state c.args.disk.now) (g.D.Disk.state c.read.new.self) (g.D.Disk.state c.write.new.self)
    (read g (goal.at.returns-in_err-write-clause-newest g c).After-write) (fails g c)

pub returns-in_err-write-clause-costs : goal.returns-in_err-write-clause-costs
returns-in_err-write-clause-costs g c =
    let failed : is_ok c.from_residual-in_err-write.result ≡ false = search rules in
    subst (λ made. MakesAtMost close_cost made (g.D.Disk.state c.args.disk.now) (g.D.Disk.state c.write.new.self)) (sym failed)
    (gate_costs _ _ false _ _ _ (read g (goal.at.returns-in_err-write-clause-newest g c).After-write) c.in_err-write.ensures.call)

pub returns-clause-newest : goal.returns-clause-newest
returns-clause-newest g c =
    gate_closed_newest _ _ (g.D.Disk.state c.args.disk.now) (g.D.Disk.state c.read.new.self) (g.D.Disk.state c.write.new.self)
    (read g (goal.at.returns-clause-newest g c).After-write) (closes g c)

pub returns-clause-log_area : goal.returns-clause-log_area
returns-clause-log_area g c =
    gate_closed_stays _ _ (g.D.Disk.state c.args.disk.now) (g.D.Disk.state c.read.new.self) (g.D.Disk.state c.write.new.self)
    (read g (goal.at.returns-clause-newest g c).After-write) (closes g c)

pub returns-clause-costs : goal.returns-clause-costs
returns-clause-costs g c = gate_costs _ _ true _ _ _ (read g (goal.at.returns-clause-newest g c).After-write)
    c.in_ok-write.ensures.call
