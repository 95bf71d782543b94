use Rattle.std.proofs.Common.{◌≡◌, take}
use Rattle.std.specs.List.{All}
use Rattle.gc_copier.specs.Plan.{all_seen, numbers_of}
use Rattle.object_uploads.specs.Collection.{IsStoredSource}
use Rattle.object_uploads.proofs.collection.sources_of.Given as goal

-- the sources of the first numbers
abbrev pub invariant-loop-number : goal.invariant-loop-number
invariant-loop-number g l = record {
  numbers : numbers_of (all_seen g.R.Receipt.state l.sources.items) ≡ take l.number-index l.number-items;
  stored : All (IsStoredSource l.queue) (all_seen g.R.Receipt.state l.sources.items);
}
