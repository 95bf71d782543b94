use Rattle.std.proofs.Common.{◌≡◌, drop}
use Rattle.std.specs.List.{list_any}
use Rattle.plain_disk.specs.Writers.{covers_sector}
use Rattle.plain_volume.proofs.plans.is_covered.Given as goal

abbrev pub invariant-loop-entry : goal.invariant-loop-entry
invariant-loop-entry l =
    list_any (λ entry. covers_sector entry l.sector) (drop l.entry-index l.entries)
    ≡ list_any (λ entry. covers_sector entry l.sector) l.entries
