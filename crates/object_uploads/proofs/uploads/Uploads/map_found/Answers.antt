use Rattle.std.proofs.Common.{◌≡◌, ◌+◌, ◌≤◌, sym, subst}
use Rattle.volume_maps.specs.Live.{MayGain}
use Rattle.object_uploads.specs.State.{UploadsState}
use Rattle.object_uploads.proofs.FoundKept.{found_mapped}
use Rattle.object_uploads.proofs.uploads.Uploads.map_found.Goals as goal

pub invariant_of-self : goal.invariant_of-self
invariant_of-self g c =
    let own = c.self.inside in
    let e = c.map_found.ensures in
    let row = c.args.row.now in
    let inside = subst (λ (u : UploadsState). row.lba + row.sectors ≤ u.sectors) (sym c.self.view_is) c.requires.inside in
    let gains = subst (λ (u : UploadsState). row.place.level ≡ 0 → MayGain row.place.number u.queue.maps.objects)
    (sym c.self.view_is) c.requires.known in
    let level = subst (λ (u : UploadsState). row.place.level ≤ u.ancestors) (sym c.self.view_is) c.requires.level in
    found_mapped own.uuid own.sectors own.ancestors own.window own.queue c.map_found.new.self c.self.invariant e.rest
    c.map_found.result row
    inside c.requires.payload level gains e.receipts e.settled e.objects e.same e.same_rows e.known
