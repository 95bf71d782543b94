use Rattle.std.proofs.Common.{◌≡◌, ◌+◌, length}
use Rattle.std.specs.VecDeque.{deque_capacity}
use Rattle.cache_log.specs.Rows.{since}
use Rattle.cache_log.proofs.release.drop_below.Given as goal

-- the rows that are left, and how many were taken
abbrev pub invariant-loop-count : goal.invariant-loop-count
invariant-loop-count l = record {
  same : since l.seq l.rows.items ≡ since l.seq l.fn.rows.items;
  count : l.count + length l.rows.items ≡ length l.fn.rows.items;
  capacity : deque_capacity l.rows ≡ deque_capacity l.fn.rows;
}
