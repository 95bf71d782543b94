use Rattle.std.proofs.Common.{◌≡◌, drop}
use Rattle.std.specs.List.{find}
use Rattle.upload_window.specs.Window.{is_ready}
use Rattle.plain_volume.proofs.puts.lowest_ready.Given as goal

abbrev pub invariant-loop-object : goal.invariant-loop-object
invariant-loop-object l = find (is_ready l.objects) (drop l.object-index l.objects) ≡ find (is_ready l.objects) l.objects
