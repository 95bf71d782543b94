use Rattle.std.proofs.Common.{◌≡◌, take, drop}
use Rattle.std.specs.List.{sum_by}
use Rattle.batcher.specs.Rows.{rows_of, rows_with, EndsInTime, extent_payload}
use Rattle.batcher.proofs.rows.data_rows.Given as goal

abbrev pub invariant-loop-extent : goal.invariant-loop-extent
invariant-loop-extent l =
    record {
      rows : rows_with l.maker (drop l.extent-index l.extents) ≡ rows_of l.extents;
      last : EndsInTime l.maker.last;
      payload : l.maker.payload ≡ sum_by extent_payload (take l.extent-index l.extents);
    }
