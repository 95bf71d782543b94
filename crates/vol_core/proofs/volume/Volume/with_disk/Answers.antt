use Rattle.std.proofs.Common.{sym, subst}
use Rattle.vol_core.specs.Volume.{SteppedVolume}
use Rattle.vol_core.specs.Shows.{Shows}
use Rattle.vol_core.proofs.Lending.{shows_lent, small_lent}
use Rattle.vol_core.proofs.volume.Volume.with_disk.Goals as goal

pub invariant_of-self : goal.invariant_of-self
invariant_of-self g c =
    let is = c.self.invariant in
    let inside = c.self.inside in
    let rest = c.with_disk.ensures.rest in
    record {
      plain = _;
      shows = shows_lent inside.objects inside.plan inside.log c.with_disk.new.self is.plain rest is.shows;
      steps = is.steps;
      small = small_lent inside.objects inside.plan inside.log c.with_disk.new.self inside.steps rest is.small;
    }

pub returns-clause-shows : goal.returns-clause-shows
returns-clause-shows g c = λ plain shows.
    let inside = c.self.inside in
    shows_lent inside.objects inside.plan inside.log c.with_disk.new.self plain c.with_disk.ensures.rest
    (subst (λ (v : SteppedVolume). Shows v.volume plain) (sym c.self.view_is) shows)
