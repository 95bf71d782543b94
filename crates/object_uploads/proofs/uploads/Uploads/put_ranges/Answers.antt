use Rattle.std.proofs.Common.{sym, subst}
use Rattle.object_uploads.specs.State.{UploadsState}
use Rattle.object_uploads.specs.Queue.{FitObject}
use Rattle.object_uploads.proofs.RoomLemmas.{rows_end}
use Rattle.object_uploads.proofs.uploads.Uploads.put_ranges.Goals as goal

pub put_ranges-requires : goal.put_ranges-requires
put_ranges-requires g c =
    let fit = subst (λ (u : UploadsState). FitObject u.sectors c.args.rows.now) (sym c.self.view_is) c.requires in
    rows_end c.self.inside.sectors c.args.rows.now c.self.invariant.sectors fit.fit
