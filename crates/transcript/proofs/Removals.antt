-- Each removal that a script begins is made before its next line.
use Rattle.std.proofs.Common.{◌≡◌, ◌++◌, ℕ, List, [], ◌∷◌, Bool, true, false, cond, Option, Some, None, refl, ap, arith}
use Rattle.std.specs.Prelude.{◌==◌, ◌&&◌, not}
use Rattle.std.proofs.lemmas.Bool.Decides.{nat_tests}
use Rattle.lsvd_base.specs.Limits.{may_transfer}
use Rattle.object_stream.specs.declared.object.CopiedSector.{CopiedSector}
use Rattle.plain_disk.specs.State.{PlainState}
use Rattle.plain_disk.specs.Reads.{are_pinned}
use Rattle.plain_disk.specs.Objects.{has_unsealed, is_busy}
use Rattle.plain_disk.specs.Removals.{to_remove, reply_of_removal, with_removal}
use Rattle.plain_disk.specs.Collection.{planned_copy, with_plan, after_sealed_copy}
use Rattle.plain_disk.specs.Step.{plain_reply, plain_after}
use Rattle.plain_disk.specs.declared.event.PlainEvent.{PlainEvent}
use Rattle.plain_disk.specs.declared.event.PlainEvent.TheVariants as events
use Rattle.transcript.specs.Answers.{removed_by}

-- what was given out for removal was removed, and no removal is out
pub record AreRemovalsMade (plain : PlainState) : Type 0 where
  pub made : plain.removed ≡ plain.given_out
  pub none_out : plain.removal ≡ None

-- an event of another kind than removals
abbrev pub RemovesNothing : PlainEvent → Type 0
RemovesNothing (events.Write lba body) = Unit {0}
RemovesNothing (events.Zero lba sectors) = Unit {0}
RemovesNothing events.Flush = Unit {0}
RemovesNothing (events.Look lba sectors) = Unit {0}
RemovesNothing (events.Release objects) = Unit {0}
RemovesNothing events.Seal = Unit {0}
RemovesNothing events.TakeJob = Unit {0}
RemovesNothing (events.JobDone job) = Unit {0}
RemovesNothing (events.JobFailed job) = Unit {0}
RemovesNothing events.SealCheckpoint = Unit {0}
RemovesNothing events.TakeRemove = ⊥
RemovesNothing (events.RemoveDone number) = ⊥
RemovesNothing (events.RemoveFailed number) = ⊥
RemovesNothing events.PlanCopy = Unit {0}
RemovesNothing (events.SealCopy is_planned) = Unit {0}
RemovesNothing events.DropPlan = Unit {0}
RemovesNothing events.Status = Unit {0}

-- one of two
either_made : (b : Bool) (x y : PlainState) → AreRemovalsMade x → AreRemovalsMade y → AreRemovalsMade (cond b x y)
either_made true x y is other = is
either_made false x y is other = other

-- a plan of a copy, and a copy that is sealed, leave the removals as they were
planned_keeps : (plain : PlainState) (out : Option (List CopiedSector)) (sectors : List CopiedSector) → AreRemovalsMade plain
    → AreRemovalsMade (with_plan out sectors plain)
planned_keeps plain (Some plan) sectors h = h
planned_keeps plain None [] h = h
planned_keeps plain None (first ∷ more) h = record { made = h.made; none_out = h.none_out }

sealed_keeps : (plain : PlainState) (is_sealed : Bool) (out : Option (List CopiedSector)) → AreRemovalsMade plain
    → AreRemovalsMade (after_sealed_copy is_sealed out plain)
sealed_keeps plain is_sealed None h = h
sealed_keeps plain is_sealed (Some plan) h =
    either_made is_sealed _ plain (record { made = h.made; none_out = h.none_out }) h

-- such an event leaves the removals as they were
pub event_keeps_removals : (plain : PlainState) (event : PlainEvent) → RemovesNothing event → AreRemovalsMade plain
    → AreRemovalsMade (plain_after event plain)
event_keeps_removals plain (events.Write lba body) is h = record { made = h.made; none_out = h.none_out }
event_keeps_removals plain (events.Zero lba sectors) is h = record { made = h.made; none_out = h.none_out }
event_keeps_removals plain events.Flush is h = record { made = h.made; none_out = h.none_out }
event_keeps_removals plain (events.Look lba sectors) is h =
    either_made (may_transfer plain.geometry lba sectors) _ plain (record { made = h.made; none_out = h.none_out }) h
event_keeps_removals plain (events.Release objects) is h =
    either_made (are_pinned objects plain.pins) _ plain (record { made = h.made; none_out = h.none_out }) h
event_keeps_removals plain events.Seal is h =
    either_made (has_unsealed plain && not (is_busy plain)) _ plain (record { made = h.made; none_out = h.none_out }) h
event_keeps_removals plain events.TakeJob is h = record { made = h.made; none_out = h.none_out }
event_keeps_removals plain (events.JobDone job) is h = record { made = h.made; none_out = h.none_out }
event_keeps_removals plain (events.JobFailed job) is h = record { made = h.made; none_out = h.none_out }
event_keeps_removals plain events.SealCheckpoint is h =
    either_made (is_busy plain) plain _ h (record { made = h.made; none_out = h.none_out })
event_keeps_removals plain events.TakeRemove is h = absurd is
event_keeps_removals plain (events.RemoveDone number) is h = absurd is
event_keeps_removals plain (events.RemoveFailed number) is h = absurd is
event_keeps_removals plain events.PlanCopy is h = planned_keeps plain plain.plan (planned_copy plain) h
event_keeps_removals plain (events.SealCopy is_planned) is h =
    sealed_keeps plain (is_planned && not (is_busy plain)) plain.plan h
event_keeps_removals plain events.DropPlan is h = record { made = h.made; none_out = h.none_out }
event_keeps_removals plain events.Status is h = h

-- a removal that begins and is made leaves them so again
removal_made : (plain : PlainState) (out lowest : Option ℕ) → out ≡ None → AreRemovalsMade plain
    → AreRemovalsMade (removed_by (reply_of_removal out lowest) (with_removal out lowest plain))
removal_made plain None None is h = h
removal_made plain None (Some number) is h =
    let its_own : (number == number) ≡ true = grind (arith, nat_tests) in
    rw its_own (record { made = ap (λ numbers. numbers ++ number ∷ []) h.made; none_out = refl })
removal_made plain (Some other) lowest is h = let bad : ⊥ = cc in absurd bad

pub removal_keeps_removals : (plain : PlainState) → AreRemovalsMade plain
    → AreRemovalsMade (removed_by (plain_reply plain events.TakeRemove) (plain_after events.TakeRemove plain))
removal_keeps_removals plain h = removal_made plain plain.removal (to_remove plain) h.none_out h
