use Rattle.std.proofs.Common.{◌≡◌, ◌+◌, ℕ, true, List, length, ap, ◌∙◌, arith}
use Rattle.upload_window.specs.declared.object.OpenObject.{OpenObject}
use Rattle.upload_window.specs.Window.{with_started}
use Rattle.plain_volume.proofs.Numbers.{within_written}
use Rattle.plain_volume.proofs.volume.PlainVolume.take.Goals as goal

pub invariant_of-self : goal.invariant_of-self
invariant_of-self c =
    let is = c.self.invariant in
    let last : ℕ = 1 + length c.self.inside.stream.objects.items in
    let number : ℕ = c.in-Some.number in
    let objects : List OpenObject = c.self.inside.uploads.items in
    let marked : c.mark.new.objects ≡ with_started number true objects =
    c.mark.ensures ∙ ap (with_started number true) c.as_mut_slice.ensures.value in
    let whole : c.self.inside.uploads.len ≡ length objects = omega arith in
    record {
      limits = is.limits;
      in_range = is.in_range;
      number = is.number;
      end = is.end;
      ends = is.ends;
      last = is.last;
      newest = is.newest;
      numbers =
          within_written last number true objects c.mark.new.objects c.self.inside.uploads.len is.numbers marked whole;
    }
