use Rattle.std.proofs.Common.{IsTrue, sym, ◌∙◌, ap, subst}
use Rattle.lsvd_base.specs.declared.geometry.Geometry.{Geometry}
use Rattle.lsvd_base.specs.Limits.{is_within_limits}
use Rattle.batcher.specs.State.{BatchState}
use Rattle.vol_core.proofs.volume.Volume.geometry.Goals as goal

pub returns-clause-limits : goal.returns-clause-limits
returns-clause-limits g c =
    let is = c.self.invariant in
    let same =
    c.geometry.ensures ∙ ap (λ (batch : BatchState). batch.geometry) c.batch.ensures ∙ is.shows.objects.geometry in
    subst (λ (sizes : Geometry). IsTrue (is_within_limits sizes)) (sym same) is.shows.valid.limits
