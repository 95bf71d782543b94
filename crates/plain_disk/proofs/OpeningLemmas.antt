-- A volume that opens at its first object goes on to, its newest checkpoint goes on, and each owner of its sectors is an object
-- of its own, or what it opens with.
use Rattle.std.proofs.Common.{arith, ℕ, ◌+◌, ◌≤◌, ◌≡◌, Bool, true, false, cond, not, ◌&&◌, Option, Some, None, List, []}
use Rattle.std.proofs.Common.{◌++◌, ◌∷◌, get_or, slice_get, zero, suc, IfSome, refl, sym, ap, subst, inl, inr}
use Rattle.lsvd_base.specs.declared.entry.Entry.TheVariants as entries
use Rattle.lsvd_base.specs.Image.{blank, zero_sector}
use Rattle.lsvd_base.specs.Limits.{may_transfer}
use Rattle.object_stream.specs.declared.object.Content.TheVariants.{Data, Checkpoint}
use Rattle.object_stream.specs.declared.object.CopiedSector.{CopiedSector}
use Rattle.object_stream.specs.declared.owner.Owner.{Owner}
use Rattle.object_stream.specs.Stream.{end_at, last_number}
use Rattle.object_stream.proofs.StreamLemmas.{owns_by_number}
use Rattle.upload_window.specs.Window.{entered}
use Rattle.plain_disk.specs.declared.event.PlainEvent.{PlainEvent}
use Rattle.plain_disk.specs.declared.event.PlainEvent.TheVariants.{Write, Zero, Flush, Look, Release, Seal, TakeJob, JobDone}
use Rattle.plain_disk.specs.declared.event.PlainEvent.TheVariants.{JobFailed, SealCheckpoint, TakeRemove}
use Rattle.plain_disk.specs.declared.event.PlainEvent.TheVariants.{RemoveDone, RemoveFailed, PlanCopy, SealCopy, DropPlan}
use Rattle.plain_disk.specs.declared.event.PlainEvent.TheVariants.{Status}
use Rattle.plain_disk.specs.Cache.{after_reads}
use Rattle.plain_disk.specs.State.{PlainState, PlainCheckpoint, OpensFirst, stream_in}
use Rattle.plain_disk.specs.Checkpoints.{checkpoint_at, is_started_checkpoint}
use Rattle.plain_disk.specs.Entries.{after_entering, after_flush}
use Rattle.plain_disk.specs.Objects.{is_busy, has_unsealed, end_of_next, after_take, after_done, window_after_done, after_failed}
use Rattle.plain_disk.specs.Reads.{look_calls, passes_look, objects_read, are_pinned, without_pins}
use Rattle.plain_disk.specs.Removals.{to_remove, with_removal, is_out}
use Rattle.plain_disk.specs.Collection.{planned_copy, with_plan, with_copy, after_sealed_copy, after_drop_plan}
use Rattle.plain_disk.specs.Step.{plain_after}
use Rattle.plain_disk.specs.Found.{CreatedOpensFirst, EventsKeepOpening, StopsKeepOpening, MountsKeepOpening, OwnersArePast}
use Rattle.plain_disk.specs.Found.{CheckpointGoesOn}
use Rattle.plain_disk.proofs.CheckpointLemmas.{started_is_lowest, landed_from}
use Rattle.plain_disk.proofs.EventLemmas.{either_state}

-- ---- what no event changes

-- a volume with the geometry, the ancestors and the opening of another, and with this checkpoint
abbrev opened_as : PlainState → PlainCheckpoint → (other : PlainState) → PlainState
opened_as state checkpoint other = record other {
  geometry = state.geometry;
  chain = state.chain;
  opening = state.opening;
  number = state.number;
  end = state.end;
  owned = state.owned;
  inherited = state.inherited;
  payloads = state.payloads;
  checkpoint = checkpoint;
}

-- it holds of each volume with that opening, and with this checkpoint
abbrev HoldsAs : (P : PlainState → Type 0) → PlainState → PlainCheckpoint → Type 0
HoldsAs P state checkpoint = (other : PlainState) → P (opened_as state checkpoint other)

module _ (P : PlainState → Type 0) (state : PlainState) (is : HoldsAs P state state.checkpoint) where
  removal_by : (out lowest : Option ℕ) → P (with_removal out lowest state)
  removal_by (Some other) lowest = is state
  removal_by None None = is state
  removal_by None (Some number) = is (with_removal None (Some number) state)

  planned_by : (out : Option (List CopiedSector)) (sectors : List CopiedSector) → P (with_plan out sectors state)
  planned_by (Some plan) sectors = is state
  planned_by None [] = is state
  planned_by None (first ∷ more) = is (with_plan None (first ∷ more) state)

  copied_by : (is_sealed : Bool) (out : Option (List CopiedSector)) → P (after_sealed_copy is_sealed out state)
  copied_by is_sealed None = is state
  copied_by is_sealed (Some plan) =
      either_state P is_sealed (with_copy plan state) state (is (with_copy plan state)) (is state)

  done_by : (job : Option ℕ)
      → ((number : ℕ) → is_started_checkpoint number state.window.objects ≡ true
      → HoldsAs P state (checkpoint_at number state))
      → P (after_done job state)
  done_by None done = is state
  done_by (Some number) done =
      let test = is_started_checkpoint number state.window.objects in
      let other : PlainState = record state { window = window_after_done (Some number) state.window } in
      elim test as (λ b. test ≡ b → P (record other { checkpoint = cond b (checkpoint_at number state) state.checkpoint })) [
        | true ↦ λ started. done number started other
        | false ↦ λ not_started. is other
      ] refl

  pub event_by : ((number : ℕ) → is_started_checkpoint number state.window.objects ≡ true
      → HoldsAs P state (checkpoint_at number state))
      → (event : PlainEvent) → P (plain_after event state)
  event_by done (Write lba body) = is (after_entering (entries.Write lba body) state)
  event_by done (Zero lba sectors) = is (after_entering (entries.Zero lba sectors) state)
  event_by done Flush = is (after_flush state)
  event_by done (Look lba sectors) =
      let read : PlainState = record state {
        cache = after_reads (look_calls state lba sectors) state.cache;
        pins = cond (passes_look state lba sectors) (state.pins ++ objects_read state lba sectors) state.pins;
      } in
      either_state P (may_transfer state.geometry lba sectors) read state (is read) (is state)
  event_by done (Release numbers) =
      let released : PlainState = record state { pins = without_pins numbers state.pins } in
      either_state P (are_pinned numbers state.pins) released state (is released) (is state)
  event_by done Seal =
      let sealed : PlainState = record state {
        objects = state.objects ++ record { content = Data; end = end_of_next state } ∷ [];
        window = entered (state.window.last + 1) false state.window;
      } in
      either_state P (has_unsealed state && not (is_busy state)) sealed state (is sealed) (is state)
  event_by done TakeJob = is (after_take state)
  event_by done (JobDone job) = done_by job done
  event_by done (JobFailed job) = is (after_failed job state)
  event_by done SealCheckpoint =
      let sealed : PlainState = record state {
        objects =
            state.objects
            ++ record { content = Checkpoint; end = end_at (stream_in state) (last_number (stream_in state)) } ∷ [];
        window = entered (state.window.last + 1) true state.window;
      } in
      either_state P (is_busy state) state sealed (is state) (is sealed)
  event_by done TakeRemove = removal_by state.removal (to_remove state)
  event_by done (RemoveDone number) =
      let removed : PlainState = record state { removed = state.removed ++ number ∷ []; removal = None } in
      either_state P (is_out number state.removal) removed state (is removed) (is state)
  event_by done (RemoveFailed number) =
      let failed : PlainState = record state { removal = None } in
      either_state P (is_out number state.removal) failed state (is failed) (is state)
  event_by done PlanCopy = planned_by state.plan (planned_copy state)
  event_by done (SealCopy is_planned) = copied_by (is_planned && not (is_busy state)) state.plan
  event_by done DropPlan = is (after_drop_plan state)
  event_by done Status = is state

-- ---- the opening

-- the sectors of a blank image are zeros
pub blank_sector : (sectors k : ℕ) (sector : List ℕ) → slice_get (blank sectors) k ≡ Some sector → sector ≡ zero_sector
blank_sector zero k sector at = absurd (cc)
blank_sector (suc sectors) zero sector at = let same : zero_sector ≡ sector = cc in sym same
blank_sector (suc sectors) (suc k) sector at = blank_sector sectors k sector at

pub created_opens : CreatedOpensFirst
created_opens g = record {
  number = refl;
  end = refl;
  payloads = refl;
  inherited = λ k. tt;
  zeros = λ k sector none at. blank_sector g.sectors k sector at;
}

opens_as : (state other : PlainState) (checkpoint : PlainCheckpoint) → OpensFirst state
    → OpensFirst (opened_as state checkpoint other)
opens_as state other checkpoint h = record {
  number = h.number;
  end = h.end;
  payloads = h.payloads;
  inherited = h.inherited;
  zeros = h.zeros;
}

pub events_keep_opening : EventsKeepOpening
events_keep_opening state event h =
    event_by OpensFirst state (λ other. opens_as state other state.checkpoint h)
    (λ number started other. opens_as state other (checkpoint_at number state) h) event

pub stops_keep_opening : StopsKeepOpening
stops_keep_opening state calls h = record {
  number = h.number;
  end = h.end;
  payloads = h.payloads;
  inherited = h.inherited;
  zeros = h.zeros;
}

pub mounts_keep_opening : MountsKeepOpening
mounts_keep_opening state landed found log h = (
  record {
    number = h.number;
    end = h.end;
    payloads = h.payloads;
    inherited = h.inherited;
    zeros = h.zeros;
  },
  record {
    number = h.number;
    end = h.end;
    payloads = h.payloads;
    inherited = h.inherited;
    zeros = h.zeros;
  },
)

pub owners_are_past : OwnersArePast
owners_are_past state number k owner h owns =
    elim (owns_by_number (stream_in state) number k owner owns) [
      | inl opening ↦
          let level = subst (λ o. IfSome o (λ (at : Owner). 1 ≤ at.level)) opening (h.inherited k) in
          inr (level, opening)
      | inr later ↦ inl (later.0, omega (arith, later.1, h.number), later.2)
    ]

-- ---- the checkpoint

not_before : (n : ℕ) → n ≤ n
not_before n = omega arith

pub checkpoint_goes_on : CheckpointGoesOn
checkpoint_goes_on state h = (
  event_by (λ s. state.checkpoint.number ≤ s.checkpoint.number) state (λ other. not_before state.checkpoint.number)
      (λ number started other. omega (arith, started_is_lowest state number h started, h.checkpoint.reached)),
  λ landed found. landed_from state landed h,
  λ landed log. landed_from state landed h,
)
