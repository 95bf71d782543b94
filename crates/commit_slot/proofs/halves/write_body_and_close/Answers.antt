use Rattle.std.proofs.Common.{rules, ◌≡◌, ◌∙◌, ◌+◌, ◌%◌, ℕ, [], ◌∷◌, length, refl, ap, subst, arith}
use Rattle.lsvd_device.specs.Medium.{after_write, after_sync}
use Rattle.lsvd_device.specs.Device.{DiskState, moments_after, FailsToWrite}
use Rattle.commit_body.specs.Body.{IsBody}
use Rattle.commit_slot.specs.Slots.{body_at, gate_at, log_of}
use Rattle.commit_slot.specs.States.{IsFirstHalf, FailsFirstHalf}
use Rattle.commit_slot.specs.LogArea.{KeepsLogAreaSince, MakesLogAreaDurable}
use Rattle.commit_slot.proofs.LogAreaLemmas.{body_inside, gate_inside, failed_stays, write_stays, stays_then, sync_stays}
use Rattle.commit_slot.proofs.LogAreaLemmas.{same_stays, sync_is_durable, stays_durable}
use Rattle.commit_slot.proofs.Outcomes.{on_error, on_ok_as, on_error_as, on_both}
use Rattle.commit_slot.proofs.Steps.{next_of, third_of, IsBodyMade, AreWritten, body_failed, closing_failed, first_half}
use Rattle.commit_slot.proofs.Steps.{first_sync_failed}
use Rattle.commit_slot.proofs.halves.write_body_and_close.Given as given
use Rattle.commit_slot.proofs.halves.write_body_and_close.Goals as goal
use Rattle.commit_slot.proofs.halves.write_body_and_close.Goals.{After-from_residual, After-from_residual-in_err-write-2}
use Rattle.commit_slot.proofs.halves.write_body_and_close.Goals.{After-sync}

-- the slot after the next one
third_is : (number : ℕ) → ((number + 1) % 3 + 1) % 3 ≡ third_of number
third_is number = omega arith

-- the write of the body failed
body_fails : (g : given.Over) (c : After-from_residual g)
    → FailsToWrite (body_at (next_of c.args.number)) 512 (g.D.Disk.state c.args.disk.now).moments
    (g.D.Disk.state c.write.new.self).moments
body_fails g c =
    let whole : length c.write_body.new.sector ≡ 512 = search rules in
    let at = c.body_at.ensures ∙ ap body_at c.slot_of-slot.ensures in
    let old = (g.D.Disk.state c.args.disk.now).moments in
    let new = (g.D.Disk.state c.write.new.self).moments in
    subst (λ n. FailsToWrite (body_at (next_of c.args.number)) n old new) whole
    (subst (λ a. FailsToWrite a (length c.write_body.new.sector) old new) at c.in_err-write.ensures.err)

-- it was made, and that of the gate failed
body_made : (g : given.Over) (c : After-from_residual-in_err-write-2 g)
    → IsBodyMade c.args.number c.write_body.new.sector (g.D.Disk.state c.args.disk.now) (g.D.Disk.state c.write.new.self)
body_made g c = record {
  least = c.requires.size;
  whole = search rules;
  is_disk = c.requires.is_disk;
  is_disk' = c.write.ensures.disk;
  size = c.write.ensures.call.size;
  moments = subst (λ a. (g.D.Disk.state c.write.new.self).moments ≡ moments_after (after_write a c.write_body.new.sector)
      (g.D.Disk.state c.args.disk.now).moments) (c.body_at.ensures ∙ ap body_at c.slot_of-slot.ensures)
      c.in_ok-write.ensures.ok;
}

gate_fails : (g : given.Over) (c : After-from_residual-in_err-write-2 g)
    → FailsToWrite (gate_at (third_of c.args.number)) 1 (g.D.Disk.state c.write.new.self).moments
    (g.D.Disk.state c.write-2.new.self).moments
gate_fails g c =
    subst (λ a. FailsToWrite a 1 (g.D.Disk.state c.write.new.self).moments (g.D.Disk.state c.write-2.new.self).moments)
    (c.gate_at.ensures ∙ ap gate_at (c.slot_after.ensures ∙ ap (λ s. (s + 1) % 3) c.slot_of-slot.ensures
    ∙ third_is c.args.number)) c.in_err-write-2.ensures.err

-- both were made
written : (g : given.Over) (c : After-sync g) → AreWritten c.args.number c.write_body.new.sector (g.D.Disk.state c.args.disk.now)
    (g.D.Disk.state c.write.new.self) (g.D.Disk.state c.write-2.new.self)
written g c = record {
  least = c.requires.size;
  whole = search rules;
  is_disk = c.requires.is_disk;
  is_disk' = c.write.ensures.disk;
  is_disk'' = c.write-2.ensures.disk;
  size = c.write.ensures.call.size;
  size' = c.write-2.ensures.call.size;
  moments = subst (λ a. (g.D.Disk.state c.write.new.self).moments ≡ moments_after (after_write a c.write_body.new.sector)
      (g.D.Disk.state c.args.disk.now).moments) (c.body_at.ensures ∙ ap body_at c.slot_of-slot.ensures)
      c.in_ok-write.ensures.ok;
  moments' = subst (λ a. (g.D.Disk.state c.write-2.new.self).moments ≡ moments_after (after_write a (0 ∷ []))
      (g.D.Disk.state c.write.new.self).moments)
      (c.gate_at.ensures ∙ ap gate_at (c.slot_after.ensures ∙ ap (λ s. (s + 1) % 3) c.slot_of-slot.ensures
      ∙ third_is c.args.number)) c.in_ok-write-2.ensures.ok;
}

is_body : (g : given.Over) (c : After-sync g) → IsBody c.write_body.new.sector (log_of (g.D.Disk.state c.args.disk.now).size)
    (next_of c.args.number) c.args.body.now (c.args.number + 1)
is_body g c = record {
  bytes = c.write_body.ensures;
  in_slot = refl;
  may_stand = c.requires.may_stand;
  numbers = c.requires.numbers;
}

pub returns-in_err-write-clause-err : goal.returns-in_err-write-clause-err
returns-in_err-write-clause-err g c = on_error _ _ (body_failed c.args.number (g.D.Disk.state c.args.disk.now)
    (g.D.Disk.state c.write.new.self) (body_fails g c))

pub returns-in_err-write-clause-log_area : goal.returns-in_err-write-clause-log_area
returns-in_err-write-clause-log_area g c =
    failed_stays (body_at (next_of c.args.number)) 512 (g.D.Disk.state c.args.disk.now).moments
    (g.D.Disk.state c.write.new.self).moments (body_inside (c.args.number + 1)) (body_fails g c)

pub returns-in_err-write-2-clause-err : goal.returns-in_err-write-2-clause-err
returns-in_err-write-2-clause-err g c =
    on_error _ _ (closing_failed c.args.number c.write_body.new.sector (g.D.Disk.state c.args.disk.now)
    (g.D.Disk.state c.write.new.self) (g.D.Disk.state c.write-2.new.self) (body_made g c) (gate_fails g c))

body_stays : (number : ℕ) (piece : _) (old middle : DiskState) → IsBodyMade number piece old middle
    → KeepsLogAreaSince old.moments middle.moments
body_stays number piece old middle is =
    write_stays old.size (body_at (next_of number)) piece old.moments middle.moments (let e = body_inside (number + 1) in let w =
    is.whole in omega (arith, e, w)) is.least is.is_disk.media is.moments

pub returns-in_err-write-2-clause-log_area : goal.returns-in_err-write-2-clause-log_area
returns-in_err-write-2-clause-log_area g c =
    let middle : DiskState = g.D.Disk.state c.write.new.self in
    let new : DiskState = g.D.Disk.state c.write-2.new.self in
    stays_then (g.D.Disk.state c.args.disk.now).moments middle.moments new.moments (body_stays _ _ _ _ (body_made g c))
    (failed_stays (gate_at (third_of c.args.number)) 1 middle.moments new.moments (gate_inside (c.args.number + 2))
    (gate_fails g c))

both_stay : (number : ℕ) (piece : _) (old middle next : DiskState) → AreWritten number piece old middle next
    → KeepsLogAreaSince old.moments next.moments
both_stay number piece old middle next are =
    stays_then old.moments middle.moments next.moments
    (body_stays number piece old middle (record {
      least = are.least;
      whole = are.whole;
      is_disk = are.is_disk;
      is_disk' = are.is_disk';
      size = are.size;
      moments = are.moments;
    }))
    (write_stays middle.size (gate_at (third_of number)) (0 ∷ []) middle.moments next.moments (gate_inside (number + 2)) (let e =
    are.size in let l = are.least in omega (arith, e, l)) are.is_disk'.media are.moments')

pub returns-clause-ok : goal.returns-clause-ok
returns-clause-ok g c =
    let next : DiskState = g.D.Disk.state c.write-2.new.self in
    let new : DiskState = g.D.Disk.state c.sync.new.self in
    on_ok_as _ (new.moments ≡ moments_after after_sync next.moments)
    (IsFirstHalf c.args.number c.args.body.now (g.D.Disk.state c.args.disk.now) new)
    (first_half c.args.number c.args.body.now _ _ _ _ new (written g c) (is_body g c)) c.sync.ensures.ok

pub returns-clause-err : goal.returns-clause-err
returns-clause-err g c =
    let next : DiskState = g.D.Disk.state c.write-2.new.self in
    let new : DiskState = g.D.Disk.state c.sync.new.self in
    on_error_as _ (new.moments ≡ next.moments) (FailsFirstHalf c.args.number (g.D.Disk.state c.args.disk.now) new)
    (first_sync_failed c.args.number _ _ _ _ new (written g c)) c.sync.ensures.err

pub returns-clause-log_area : goal.returns-clause-log_area
returns-clause-log_area g c =
    let next : DiskState = g.D.Disk.state c.write-2.new.self in
    let new : DiskState = g.D.Disk.state c.sync.new.self in
    stays_then (g.D.Disk.state c.args.disk.now).moments next.moments new.moments (both_stay _ _ _ _ _ (written g c))
    (on_both c.sync.result _ _ (KeepsLogAreaSince next.moments new.moments) (sync_stays next.moments new.moments)
    (same_stays next.moments new.moments) c.sync.ensures.ok c.sync.ensures.err)

pub returns-clause-durable : goal.returns-clause-durable
returns-clause-durable g c =
    let old : DiskState = g.D.Disk.state c.args.disk.now in
    let next : DiskState = g.D.Disk.state c.write-2.new.self in
    let new : DiskState = g.D.Disk.state c.sync.new.self in
    on_ok_as _ (new.moments ≡ moments_after after_sync next.moments) (MakesLogAreaDurable old.moments new.moments)
    (λ is. stays_durable old.moments next.moments new.moments (both_stay _ _ _ _ _ (written g c))
    (sync_is_durable next.moments new.moments is)) c.sync.ensures.ok
