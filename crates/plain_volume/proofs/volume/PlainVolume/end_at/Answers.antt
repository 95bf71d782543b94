use Rattle.std.proofs.Common.{◌≤◌, subst, sym}
use Rattle.plain_volume.specs.Fields.{max_seq}
use Rattle.plain_volume.proofs.Volumes.{end_fits}
use Rattle.plain_volume.proofs.volume.PlainVolume.end_at.Goals as goal

pub returns-clause-fits : goal.returns-clause-fits
returns-clause-fits c =
    subst (λ n. n ≤ max_seq) (sym c.end_at.ensures)
    (end_fits c.self.inside.geometry c.self.inside.stream c.self.inside.last c.self.inside.checkpoint.number c.args.number
    c.self.inside.uploads.items c.self.invariant)
