use Rattle.std.proofs.Common.{◌≤◌, vec_capacity}
use Rattle.std.specs.Vec.Iter.{drain_items}
use Rattle.page_list.proofs.Released.{AreReleased}
use Rattle.page_list.proofs.free.release.Given as goal

abbrev pub invariant-loop-page : goal.invariant-loop-page
invariant-loop-page g l = record {
  released : AreReleased (drain_items l.initial.page-iterator) l.initial.free.items l.yielded (drain_items l.page-iterator)
      l.free.items l.initial.steps l.steps;
  free_capacity : vec_capacity l.initial.free ≤ vec_capacity l.free;
}
