use Rattle.std.proofs.Common.{sym, subst}
use Rattle.object_uploads.specs.State.{UploadsState}
use Rattle.object_uploads.specs.Queue.{FitCopy}
use Rattle.object_uploads.proofs.RoomLemmas.{copies_end}
use Rattle.object_uploads.proofs.uploads.Uploads.copied_ranges.Goals as goal

pub copied_ranges-requires : goal.copied_ranges-requires
copied_ranges-requires g c =
    let fit = subst (λ (u : UploadsState). FitCopy u.sectors c.args.rows.now) (sym c.self.view_is) c.requires in
    copies_end c.self.inside.sectors c.args.rows.now c.self.invariant.sectors fit.fit
