-- Contract: what it is that the history of a plain volume goes on.
use Rattle.std.specs.Prelude.{◌≡◌, ℕ, ◌≤◌, List, ◌++◌}
use Rattle.lsvd_base.specs.declared.entry.Entry.{Entry}
use Rattle.object_stream.specs.declared.object.StreamObject.{StreamObject}
use Rattle.plain_disk.specs.State.{PlainState, frontier_of}

-- One plain volume goes on from another, with these entries more: it opens as that does, it has its objects and perhaps more,
-- what was acknowledged or committed is so still, its newest checkpoint is no earlier, and what was given out for removal, or
-- removed, is so still.
pub record GoesOn (added : List Entry) (plain after : PlainState) : Type 0 where
  pub opens : after ≡ record plain {
    entries = plain.entries ++ added;
    objects = after.objects;
    window = after.window;
    checkpoint = after.checkpoint;
    plan = after.plan;
    pins = after.pins;
    removed = after.removed;
    given_out = after.given_out;
    removal = after.removal;
    cache = after.cache;
  }
  pub objects : (more : List StreamObject) × (after.objects ≡ plain.objects ++ more)
  pub frontier : frontier_of plain ≤ frontier_of after
  pub committed : plain.cache.log.last.head.seq ≤ after.cache.log.last.head.seq
  pub checkpoint : plain.checkpoint.number ≤ after.checkpoint.number
  pub given_out : (more : List ℕ) × (after.given_out ≡ plain.given_out ++ more)
  pub removed : (more : List ℕ) × (after.removed ≡ plain.removed ++ more)
