use Rattle.std.proofs.Common.{refl, sym, subst}
use Rattle.vol_core.specs.Volume.{SteppedVolume}
use Rattle.vol_core.specs.Shows.{IsSound}
use Rattle.vol_core.proofs.volume.Volume.count_step.Goals as goal

pub returns-clause-ready : goal.returns-clause-ready
returns-clause-ready g c = record {
  steps = c.self.inside.steps;
  counted = refl;
  small = c.self.invariant.small;
  order = subst (λ (s : SteppedVolume). IsSound s.volume) (sym c.self.view_is) c.is_volume.ensures.order;
}
