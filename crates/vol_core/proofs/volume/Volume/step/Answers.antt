use Rattle.std.proofs.Common.{◌∙◌, ap, subst}
use Rattle.vol_core.specs.Volume.{SteppedVolume}
use Rattle.vol_core.specs.Shows.{IsSound}
use Rattle.vol_core.specs.Step.{StepOf}
use Rattle.vol_core.proofs.StepLemmas.{counted_keeps_volume}
use Rattle.vol_core.proofs.volume.Volume.step.Goals as goal

pub returns : goal.returns
returns g c =
    let state = g.R.Receipt.state in
    let old : SteppedVolume = c.args.self.now in
    let new : SteppedVolume = c.answer.new.self in
    let counted = c.count_step.ensures.counted in
    let was = c.count_step.ensures.was in
    let step : StepOf state c.args.event c.answer.result old.volume new.volume =
    subst (λ (s : SteppedVolume). StepOf state c.args.event c.answer.result s.volume new.volume) counted
    c.answer.ensures.step in
    let count = c.answer.ensures.steps ∙ ap (λ (s : SteppedVolume). s.steps) counted in
    record {
      step = step;
      count = count;
      told = c.count_step.ensures.told;
      was = was;
      order = subst (λ (s : SteppedVolume). IsSound s.volume) counted c.count_step.ensures.ready.order;
      is = counted_keeps_volume state c.args.event c.answer.result old new was c.requires.steps step count;
    }
