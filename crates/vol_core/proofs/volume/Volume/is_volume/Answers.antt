use Rattle.std.proofs.Common.{true, subst}
use Rattle.object_uploads.specs.Image.{TellAlike}
use Rattle.vol_core.specs.Volume.{VolumeState, SteppedVolume, volume_with}
use Rattle.vol_core.specs.Shows.{IsVolume, IsSound}
use Rattle.vol_core.proofs.volume.Volume.is_volume.Goals as goal

pub returns : goal.returns
returns g c =
    let inside = c.self.inside in
    let volume : VolumeState = volume_with inside.objects inside.log inside.plan in
    let order : IsSound volume = record {
      on_disk = c.on_disk.ensures;
      uploads = rw c.uploads.ensures at c.frontier.ensures.order;
      sectors = c.self.invariant.shows.objects.stream.sectors;
    } in
    record {
      shown = subst IsVolume c.self.view_is c.self.invariant;
      order = subst (λ (s : SteppedVolume). IsSound s.volume) c.self.view_is order;
      told = λ all.
          subst (λ (s : SteppedVolume). TellAlike true s.volume.objects.uploads.queue) c.self.view_is
          (rw c.uploads-2.ensures at c.tell_alike.ensures.told all);
    }
