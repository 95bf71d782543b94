use Rattle.std.proofs.Common.{sym, ◌∙◌, ap, subst}
use Rattle.lsvd_fault.specs.Faults.{Counts}
use Rattle.vol_core.specs.Calls.{event_of}
use Rattle.vol_core.specs.Step.{HandsBack, CountedStep}
use Rattle.volume_owner.specs.Acts.{MakesStep}
use Rattle.volume_owner.specs.Calls.{MakesSteps}
use Rattle.volume_owner.specs.Helping.{entered_by, attempt_failed, MayTryAgain}
use Rattle.volume_owner.proofs.ActLemmas.{attempt_step}
use Rattle.volume_owner.proofs.BoundLemmas.{work_bound}
use Rattle.volume_owner.proofs.EnterLemmas.{attempt_makes, attempt_counts, attempt_hands, attempt_fault, entering_idle}
use Rattle.volume_owner.proofs.entering.try_entry.Given as given
use Rattle.volume_owner.proofs.entering.try_entry.Goals as goal

-- the step is one of the entry's event
steps : (g : given.Over) (c : goal.After-attempt_of g)
    → CountedStep g.R.Receipt.state (event_of c.args.entry) c.step.result c.args.volume.now c.step.new.self
steps g c =
    subst (λ e. CountedStep g.R.Receipt.state e c.step.result c.args.volume.now c.step.new.self) c.event_for.ensures
    c.step.ensures

pub returns : goal.returns
returns g c =
    let state = g.R.Receipt.state in
    let entry = c.args.entry in
    let reply = c.step.result in
    let old = c.args.volume.now in
    let new = c.step.new.self in
    let of = steps g c in
    let plain = c.step.ensures.was.plain in
    let shows = c.step.ensures.was.shows in
    let is = c.attempt_of.ensures in
    let back = subst (λ e. HandsBack e reply) c.event_for.ensures c.step.ensures.step.back in
    record {
      step = subst (λ a. MakesStep state (event_of entry) (entered_by entry a) old new) (sym is)
          (attempt_step state entry reply old new of);
      steps = subst (λ a. MakesSteps 1 (entered_by entry a) old new) (sym is) (attempt_makes state entry reply old new of);
      count = λ count told. attempt_counts state entry reply old new of plain shows count (sym is ∙ told);
      back = subst (λ a. MayTryAgain entry a old.volume new.volume) (sym is)
          (attempt_hands state entry reply old new of plain shows c.requires.range back);
      work = work_bound old.volume plain shows c.requires.idle;
      faults = subst (λ b. Counts b old.volume.log.commits.disk.faults new.volume.log.commits.disk.faults)
          (sym (ap attempt_failed is ∙ attempt_fault reply)) of.step.faults;
      idle = entering_idle state entry reply old new of plain shows c.requires.idle;
    }
