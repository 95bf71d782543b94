use Rattle.std.proofs.Common.{rules, ◌≡◌, ◌∙◌, ◌+◌, ◌%◌, ◌<◌, ◌≤◌, ℕ, true, false, replicate, ap, sym, subst}
use Rattle.std.specs.Prelude.{is_ok}
use Rattle.std.proofs.Math.Path.{subst₂}
use Rattle.std.proofs.lemmas.List.{length-replicate}
use Rattle.lsvd_device.specs.Device.{moments_after, FailsToWrite}
use Rattle.lsvd_device.specs.Medium.{after_write}
use Rattle.commit_body.specs.declared.body.CommitBody.{CommitBody}
use Rattle.commit_body.specs.Body.{IsBody}
use Rattle.commit_slot.specs.Slots.{log_of, body_at}
use Rattle.commit_slot.specs.Loading.{MakesAtMost}
use Rattle.commit_slot.specs.Mending.{clear_third_cost}
use Rattle.commit_slot.proofs.Steps.{third_of}
use Rattle.commit_slot.proofs.MendLemmas.{AreThere, third_place, read_older}
use Rattle.commit_slot.proofs.MendPaths.{Clears, IsNewerRead, third_failed_newest, third_failed_stays, third_failed_leaves}
use Rattle.commit_slot.proofs.MendPaths.{third_held_newer, third_cleared_leaves, third_cleared_newest, third_cleared_older}
use Rattle.commit_slot.proofs.MendPaths.{third_cleared_closed, third_cleared_stays, third_costs}
use Rattle.commit_slot.proofs.loading.clear_third.Given as given
use Rattle.commit_slot.proofs.loading.clear_third.Goals as goal
use Rattle.commit_slot.proofs.loading.clear_third.Goals.{After-is_newer, After-write, After-from_residual-in_err-write}
use Rattle.commit_slot.proofs.loading.clear_third.Goals.{In_ok-write}

-- the third slot
slot : (g : given.Over) (c : After-is_newer g) → c.slot_after-slot.result ≡ third_of c.args.number
slot g c = c.slot_after-slot.ensures ∙ ap (λ s. (s + 1) % 3) (c.slot_after.ensures ∙ ap (λ s. (s + 1) % 3) c.slot_of.ensures)
    ∙ third_place c.args.number

-- the sectors of the log
log : (g : given.Over) (c : After-is_newer g) → c.log_of-log.result ≡ log_of (g.D.Disk.state c.args.disk.now).size
log g c = c.log_of-log.ensures ∙ ap log_of c.len.ensures.size

-- the sector that was read
there : (g : given.Over) (c : After-is_newer g) → AreThere (body_at (third_of c.args.number)) 512 c.read.new.buf
    (g.D.Disk.state c.args.disk.now).moments
there g c = subst (λ a. AreThere a 512 c.read.new.buf (g.D.Disk.state c.args.disk.now).moments) (c.body_at.ensures
    ∙ ap body_at (slot g c)) (search rules)

pub returns-then-not-is_newer-clause-older : goal.returns-then-not-is_newer-clause-older
returns-then-not-is_newer-clause-older g c =
    let at = (goal.at.returns-then-not-is_newer-clause-older g c).After-is_newer in
    let no : c.is_newer.result ≡ false = search rules in
    let P : ℕ → ℕ → Type 0 = λ l s. (body : CommitBody) (n : ℕ) → IsBody c.read.new.buf l s body n → n ≤ c.args.number in
    read_older c.args.number c.read.new.buf (g.D.Disk.state c.args.disk.now) (g.D.Disk.state c.read.new.self) (there g at)
    c.read.ensures.moments (subst₂ P (log g at) (slot g at) (c.is_newer.ensures.older no))

-- it is the body of a newer commit
read : (g : given.Over) (c : After-write g) → IsNewerRead c.args.number c.read.new.buf (g.D.Disk.state c.args.disk.now)
    (g.D.Disk.state c.read.new.self)
read g c =
    let newer : c.is_newer.result ≡ true = search rules in
    let P : ℕ → ℕ → Type 0 = λ l s. (body : CommitBody) × (n : ℕ) × IsBody c.read.new.buf l s body n × (c.args.number < n) in
    let slot : c.slot_after-slot.result ≡ third_of c.args.number = c.slot_after-slot.ensures
    ∙ ap (λ s. (s + 1) % 3) (c.slot_after.ensures ∙ ap (λ s. (s + 1) % 3) c.slot_of.ensures) ∙ third_place c.args.number in
    record {
      least = c.requires.size;
      is_disk = c.requires.is_disk;
      is_disk' = c.read.ensures.disk;
      there = subst (λ a. AreThere a 512 c.read.new.buf (g.D.Disk.state c.args.disk.now).moments) (c.body_at.ensures
          ∙ ap body_at slot) (search rules);
      newer = subst₂ P (c.log_of-log.ensures ∙ ap log_of c.len.ensures.size) slot (c.is_newer.ensures.newer newer);
      read = c.in_ok-read.ensures.call;
      same = c.read.ensures.moments;
    }

-- the write failed
fails : (g : given.Over) (c : After-from_residual-in_err-write g)
    → FailsToWrite (body_at (third_of c.args.number)) 512 (g.D.Disk.state c.read.new.self).moments
    (g.D.Disk.state c.write.new.self).moments
fails g c =
    let slot : c.slot_after-slot.result ≡ third_of c.args.number = c.slot_after-slot.ensures
    ∙ ap (λ s. (s + 1) % 3) (c.slot_after.ensures ∙ ap (λ s. (s + 1) % 3) c.slot_of.ensures) ∙ third_place c.args.number in
    let P : ℕ → ℕ → Type 0 = λ a n. FailsToWrite a n (g.D.Disk.state c.read.new.self).moments
    (g.D.Disk.state c.write.new.self).moments in
    subst₂ P (c.body_at-2.ensures ∙ ap body_at slot) (length-replicate {A = ℕ} 512 0) c.in_err-write.ensures.err

-- it was made
clears : (g : given.Over) (c : In_ok-write g)
    → Clears c.args.number (g.D.Disk.state c.read.new.self) (g.D.Disk.state c.write.new.self)
clears g c =
    let slot : c.slot_after-slot.result ≡ third_of c.args.number = c.slot_after-slot.ensures
    ∙ ap (λ s. (s + 1) % 3) (c.slot_after.ensures ∙ ap (λ s. (s + 1) % 3) c.slot_of.ensures) ∙ third_place c.args.number in
    subst (λ a. (g.D.Disk.state c.write.new.self).moments ≡ moments_after (after_write a (replicate 512 0))
    (g.D.Disk.state c.read.new.self).moments) (c.body_at-2.ensures ∙ ap body_at slot) c.in_ok-write.ensures.ok

pub returns-in_err-write-clause-newest : goal.returns-in_err-write-clause-newest
returns-in_err-write-clause-newest g c =
    third_failed_newest _ _ (g.D.Disk.state c.args.disk.now) (g.D.Disk.state c.read.new.self) (g.D.Disk.state c.write.new.self)
    (read g (goal.at.returns-in_err-write-clause-newest g c).After-write) (fails g c)

pub returns-in_err-write-clause-log_area : goal.returns-in_err-write-clause-log_area
returns-in_err-write-clause-log_area g c =
    third_failed_stays _ _ (g.D.Disk.state c.args.disk.now) (g.D.Disk.state c.read.new.self) (g.D.Disk.state c.write.new.self)
    (read g (goal.at.returns-in_err-write-clause-newest g c).After-write) (fails g c)

pub returns-in_err-write-clause-costs : goal.returns-in_err-write-clause-costs
returns-in_err-write-clause-costs g c =
    let failed : is_ok c.from_residual-in_err-write.result ≡ false = search rules in
    subst (λ made. MakesAtMost clear_third_cost made (g.D.Disk.state c.args.disk.now) (g.D.Disk.state c.write.new.self))
    (sym failed)
    (third_costs _ _ false _ _ _ (read g (goal.at.returns-in_err-write-clause-newest g c).After-write)
    c.in_err-write.ensures.call)

pub returns-in_err-write-clause-unwritten : goal.returns-in_err-write-clause-unwritten
returns-in_err-write-clause-unwritten g c =
    third_failed_leaves _ _ (g.D.Disk.state c.args.disk.now) (g.D.Disk.state c.read.new.self) (g.D.Disk.state c.write.new.self)
    (read g (goal.at.returns-in_err-write-clause-newest g c).After-write) (fails g c)

pub returns-clause-older : goal.returns-clause-older
returns-clause-older g c =
    third_cleared_older _ _ (g.D.Disk.state c.args.disk.now) (g.D.Disk.state c.read.new.self) (g.D.Disk.state c.write.new.self)
    (read g (goal.at.returns-clause-older g c).After-write) (clears g c)

pub returns-clause-closed : goal.returns-clause-closed
returns-clause-closed g c =
    third_cleared_closed _ _ (g.D.Disk.state c.args.disk.now) (g.D.Disk.state c.read.new.self) (g.D.Disk.state c.write.new.self)
    (read g (goal.at.returns-clause-older g c).After-write) (clears g c)

pub returns-clause-newest : goal.returns-clause-newest
returns-clause-newest g c =
    third_cleared_newest _ _ (g.D.Disk.state c.args.disk.now) (g.D.Disk.state c.read.new.self) (g.D.Disk.state c.write.new.self)
    (read g (goal.at.returns-clause-older g c).After-write) (clears g c)

pub returns-clause-log_area : goal.returns-clause-log_area
returns-clause-log_area g c =
    third_cleared_stays _ _ (g.D.Disk.state c.args.disk.now) (g.D.Disk.state c.read.new.self) (g.D.Disk.state c.write.new.self)
    (read g (goal.at.returns-clause-older g c).After-write) (clears g c)

pub returns-clause-costs : goal.returns-clause-costs
returns-clause-costs g c = third_costs _ _ true _ _ _ (read g (goal.at.returns-clause-older g c).After-write)
    c.in_ok-write.ensures.call

pub returns-clause-written : goal.returns-clause-written
returns-clause-written g c = λ _. third_held_newer _ _ (g.D.Disk.state c.args.disk.now) (g.D.Disk.state c.read.new.self)
    (read g (goal.at.returns-clause-older g c).After-write)

pub returns-clause-unwritten : goal.returns-clause-unwritten
returns-clause-unwritten g c =
    third_cleared_leaves _ _ (g.D.Disk.state c.args.disk.now) (g.D.Disk.state c.read.new.self) (g.D.Disk.state c.write.new.self)
    (read g (goal.at.returns-clause-older g c).After-write) (clears g c)
