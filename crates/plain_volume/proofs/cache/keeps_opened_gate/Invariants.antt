use Rattle.std.proofs.Common.{◌≡◌, drop}
use Rattle.plain_disk.specs.Cache.{keeps_opened_gate}
use Rattle.plain_volume.proofs.cache.keeps_opened_gate.Given as goal

abbrev pub invariant-loop-index : goal.invariant-loop-index
invariant-loop-index l = keeps_opened_gate (drop l.index l.writes) (drop l.index l.kept) ≡ keeps_opened_gate l.writes l.kept
