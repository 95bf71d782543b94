use Rattle.std.proofs.Common.{◌≡◌, nat_lt, drop}
use Rattle.std.specs.List.{list_any}
use Rattle.plain_volume.proofs.puts.has_lower.Given as goal

abbrev pub invariant-loop-other : goal.invariant-loop-other
invariant-loop-other l =
    list_any (λ other. nat_lt other.number l.number) (drop l.other-index l.objects)
    ≡ list_any (λ other. nat_lt other.number l.number) l.objects
