use Rattle.std.proofs.Common.{rules, ◌≡◌, false, true, refl, sym, ap, subst, Err, arith}
use Rattle.batcher.specs.State.{BatchState}
use Rattle.cache_log.specs.Log.{LogState}
use Rattle.object_table.specs.Table.{pinned}
use Rattle.object_uploads.specs.Removal.{IsSameButObjects}
use Rattle.obj_log.specs.State.{ObjLogState}
use Rattle.vol_core.specs.declared.event.Event.TheVariants as events
use Rattle.vol_core.specs.declared.reply.Reply.TheVariants as replies
use Rattle.vol_core.specs.Volume.{VolumeState, SteppedVolume, volume_with}
use Rattle.vol_core.specs.Shows.{NumbersGrow}
use Rattle.vol_core.specs.Step.{StepsAsPlain, StepOf, HasItsBytes}
use Rattle.vol_core.specs.Calls.{IsReadyForStep}
use Rattle.vol_core.proofs.StepLemmas.{CountsGrow, numbers_grow, counts_stay, steps_keep_volume, step_seen}
use Rattle.vol_core.proofs.EnterSteps.{with_both}
use Rattle.vol_core.proofs.LookLemmas.{may_of_own, log_has_read, objects_have_read}
use Rattle.vol_core.proofs.ReleaseSteps.{same_uploads, pins_leave}
use Rattle.vol_core.proofs.LookSteps.{planned_steps, fault_steps, memory_steps, range_steps, reads_grow}
use Rattle.vol_core.proofs.BytesLemmas.{same_bytes}
use Rattle.vol_core.proofs.StopSteps.{still, still_keeps, read_is_still, IsStill}
use Rattle.vol_core.proofs.StepsOf.{step_of_same}
use Rattle.vol_core.proofs.volume.Volume.look.Given as given
use Rattle.vol_core.proofs.volume.Volume.look.Goals.{Joined-look, in-Ok, in-Err-Fault, in-Err-OutOfMemory}
use Rattle.vol_core.proofs.volume.Volume.look.Goals as goal

pub returns-then-not-may_transfer-clause-step : goal.returns-then-not-may_transfer-clause-step
returns-then-not-may_transfer-clause-step g c =
    let state = g.R.Receipt.state in
    let inside = c.self.inside in
    let volume : VolumeState = volume_with inside.objects inside.log inside.plan in
    let lba = c.args.lba in
    let sectors = c.args.sectors in
    subst (λ (s : SteppedVolume). StepOf state (events.Look lba sectors) replies.Range s.volume s.volume) c.self.view_is
    (step_of_same state (events.Look lba sectors) replies.Range volume c.self.invariant.plain c.self.invariant.shows
    (range_steps state volume lba sectors
    (may_of_own volume inside.steps c.args.self.now c.geometry.result lba sectors c.may_transfer.result false c.self.view_is
    c.geometry.ensures.is
    c.may_transfer.ensures c.if-not-may_transfer.true)) tt tt refl (λ was. refl))

pub look-requires-clause-log : goal.look-requires-clause-log
look-requires-clause-log g c =
    let inside = c.self.inside in
    let volume : VolumeState = volume_with inside.objects inside.log inside.plan in
    let lba = c.args.lba in
    let sectors = c.args.sectors in
    let ready = subst IsReadyForStep (sym c.self.view_is) c.requires in
    log_has_read volume c.self.invariant.plain c.self.invariant.shows ready.order.uploads lba sectors
    (may_of_own volume inside.steps c.args.self.now c.geometry.result lba sectors c.may_transfer.result true c.self.view_is
    c.geometry.ensures.is
    c.may_transfer.ensures c.if-not-may_transfer.false)

pub look-requires-clause-objects : goal.look-requires-clause-objects
look-requires-clause-objects g c =
    let inside = c.self.inside in
    let volume : VolumeState = volume_with inside.objects inside.log inside.plan in
    let lba = c.args.lba in
    let sectors = c.args.sectors in
    let ready = subst IsReadyForStep (sym c.self.view_is) c.requires in
    objects_have_read volume c.self.invariant.plain c.self.invariant.shows ready.order.uploads lba sectors
    (may_of_own volume inside.steps c.args.self.now c.geometry.result lba sectors c.may_transfer.result true c.self.view_is
    c.geometry.ensures.is
    c.may_transfer.ensures c.if-not-may_transfer.false)

-- fewer pins are on each object than a number can tell
pub look-requires-clause-pins : goal.look-requires-clause-pins
look-requires-clause-pins g c = λ number.
    let ready = subst IsReadyForStep (sym c.self.view_is) c.requires in
    let few = ready.small.pins number in
    let counted = ready.counted in
    let most = c.self.invariant.steps in
    omega (arith, few, counted, most)

-- only pins change of the list
rest : (g : given.Over) (c : Joined-look g) → IsSameButObjects c.self.inside.objects.uploads c.look.new.objects.uploads
rest g c =
    let old : ObjLogState = c.self.inside.objects in
    let same = λ (is : c.look.new.objects ≡ old).
    subst (λ (o : ObjLogState). IsSameButObjects old.uploads o.uploads) (sym is) (same_uploads old.uploads) in
    elim c.match-look.branch [
      | in-Ok w ↦ pins_leave pinned w.in-Ok.plan.objects old.uploads c.look.new.objects.uploads w.in-Ok.ensures.pinned
      | in-Err-Fault w ↦ same w.in-Err-Fault.ensures.same
      | in-Err-OutOfMemory w ↦ same w.in-Err-OutOfMemory.ensures.same
    ]

steps : (g : given.Over) (c : Joined-look g)
    → StepsAsPlain g.R.Receipt.state (events.Look c.args.lba c.args.sectors) c.match-look.result
    (volume_with c.self.inside.objects c.self.inside.log c.self.inside.plan)
    (volume_with c.look.new.objects c.look.new.log c.self.inside.plan)
steps g c =
    let inside = c.self.inside in
    let volume : VolumeState = volume_with inside.objects inside.log inside.plan in
    let lba = c.args.lba in
    let sectors = c.args.sectors in
    let objects = c.look.new.objects in
    let log = c.look.new.log in
    let new : VolumeState = with_both objects log volume in
    let state = g.R.Receipt.state in
    let ready = subst IsReadyForStep (sym c.self.view_is) c.requires in
    let may =
    may_of_own volume inside.steps c.args.self.now c.geometry.result lba sectors c.may_transfer.result true c.self.view_is
    c.geometry.ensures.is
    c.may_transfer.ensures c.if-not-may_transfer.false in
    elim c.match-look.branch [
      | in-Ok w ↦
          let says = w.in-Ok.ensures in
          subst (λ reply. StepsAsPlain state (events.Look lba sectors) reply volume new)
          (sym w.result-is)
          (planned_steps state volume lba sectors w.in-Ok.plan objects log ready.order.uploads may says.plan says.whole
          says.pinned says.batch (says.reads (λ e. cc)))
      | in-Err-Fault w ↦
          let says = w.in-Err-Fault.ensures in
          let fault = w.in-Err-Fault.field-0-is in
          subst (λ reply. StepsAsPlain state (events.Look lba sectors) reply volume new)
          (sym w.result-is)
          (fault_steps state volume lba sectors objects log ready.order.uploads may says.same (says.reads (λ e. cc)))
      | in-Err-OutOfMemory w ↦
          let says = w.in-Err-OutOfMemory.ensures in
          subst (λ reply. StepsAsPlain state (events.Look lba sectors) reply volume new)
          (sym w.result-is)
          (memory_steps state volume lba sectors objects log may says.same
          (says.memory (ap Err w.in-Err-OutOfMemory.field-0-is)))
    ]

counts_grow : (g : given.Over) (c : Joined-look g) → CountsGrow
    (volume_with c.self.inside.objects c.self.inside.log c.self.inside.plan)
    (volume_with c.look.new.objects c.look.new.log c.self.inside.plan)
counts_grow g c =
    let inside = c.self.inside in
    let volume : VolumeState = volume_with inside.objects inside.log inside.plan in
    let lba = c.args.lba in
    let sectors = c.args.sectors in
    let objects = c.look.new.objects in
    let log = c.look.new.log in
    let window = (rest g c).window in
    elim c.match-look.branch [
      | in-Ok w ↦ reads_grow volume objects log lba sectors true window (w.in-Ok.ensures.reads (λ e. cc))
      | in-Err-Fault w ↦
          let fault = w.in-Err-Fault.field-0-is in
          reads_grow volume objects log lba sectors false window (w.in-Err-Fault.ensures.reads (λ e. cc))
      | in-Err-OutOfMemory w ↦
          counts_stay volume (with_both objects log volume)
          (w.in-Err-OutOfMemory.ensures.memory (ap Err w.in-Err-OutOfMemory.field-0-is)) window
    ]

grow : (g : given.Over) (c : Joined-look g)
    → NumbersGrow (volume_with c.self.inside.objects c.self.inside.log c.self.inside.plan)
    (volume_with c.look.new.objects c.look.new.log c.self.inside.plan)
grow g c =
    numbers_grow g.R.Receipt.state (events.Look c.args.lba c.args.sectors) c.match-look.result _ _ c.self.invariant.plain
    c.self.invariant.shows (steps g c) (counts_grow g c)

pub invariant_of-self : goal.invariant_of-self
invariant_of-self g c =
    let inside = c.self.inside in
    let volume : VolumeState = volume_with inside.objects inside.log inside.plan in
    let ready = subst IsReadyForStep (sym c.self.view_is) c.requires in
    steps_keep_volume g.R.Receipt.state (events.Look c.args.lba c.args.sectors) c.match-look.result volume
    (with_both c.look.new.objects c.look.new.log volume) inside.steps c.self.invariant ready (steps g c) (grow g c)

-- the log's device holds what it held
is_still : (g : given.Over) (c : Joined-look g) → IsStill c.self.inside.log c.look.new.log
is_still g c =
    let log : LogState = c.self.inside.log in
    let maps = c.self.inside.objects.uploads.queue.maps in
    let now : LogState = c.look.new.log in
    elim c.match-look.branch [
      | in-Ok w ↦ read_is_still c.args.lba c.args.sectors maps true log now (w.in-Ok.ensures.reads (λ e. cc))
      | in-Err-Fault w ↦
          let fault = w.in-Err-Fault.field-0-is in
          read_is_still c.args.lba c.args.sectors maps false log now (w.in-Err-Fault.ensures.reads (λ e. cc))
      | in-Err-OutOfMemory w ↦
          subst (IsStill log) (sym (w.in-Err-OutOfMemory.ensures.memory (ap Err w.in-Err-OutOfMemory.field-0-is))) (still log)
    ]

-- a plan has the bytes of its sectors
has_its_bytes : (g : given.Over) (c : Joined-look g) → HasItsBytes (events.Look c.args.lba c.args.sectors) c.match-look.result
has_its_bytes g c =
    elim c.match-look.branch [
      | in-Ok w ↦ subst (λ reply. HasItsBytes (events.Look c.args.lba c.args.sectors) reply) (sym w.result-is)
          w.in-Ok.ensures.plan.size
      | in-Err-Fault w ↦ subst (λ reply. HasItsBytes (events.Look c.args.lba c.args.sectors) reply) (sym w.result-is) tt
      | in-Err-OutOfMemory w ↦ subst (λ reply. HasItsBytes (events.Look c.args.lba c.args.sectors) reply) (sym w.result-is) tt
    ]

pub returns-clause-step : goal.returns-clause-step
returns-clause-step g c =
    let inside = c.self.inside in
    let volume : VolumeState = volume_with inside.objects inside.log inside.plan in
    let new : VolumeState = with_both c.look.new.objects c.look.new.log volume in
    let left = rest g c in
    let geometry = ap (λ (b : BatchState). b.geometry) c.look.ensures.batch in
    step_seen g.R.Receipt.state (events.Look c.args.lba c.args.sectors) c.match-look.result new _ _ c.self.view_is
    (record {
      step = steps g c;
      back = tt;
      plan = has_its_bytes g c;
      sizes = record { geometry = geometry; uuid = left.uuid; ancestors = left.ancestors };
      numbers = grow g c;
      stops = still_keeps (events.Look c.args.lba c.args.sectors) volume new
          (record { uuid = left.uuid; ancestors = left.ancestors; geometry = geometry }) (is_still g c);
      copying = refl;
      faults = search rules;
      bytes = same_bytes volume new left.sealed left.frontier;
    })
