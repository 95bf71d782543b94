use Rattle.std.proofs.Common.{◌≡◌, ◌++◌, take}
use Rattle.batcher.specs.Rows.{payload_bytes}
use Rattle.batcher.proofs.sealing.append_payload.Given as goal

abbrev pub invariant-loop-extent : goal.invariant-loop-extent
invariant-loop-extent l =
    record {
      bytes : l.writer.bytes ≡ l.initial.writer.bytes ++ payload_bytes l.entries.items (take l.extent-index l.extents);
      size : l.writer.size ≡ l.initial.writer.size;
    }
