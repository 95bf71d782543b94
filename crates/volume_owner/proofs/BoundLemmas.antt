-- How much there is to help with at most: each entry past the frontier's end has a record in the log, and few objects are on
-- their way.
use Rattle.std.proofs.Common.{arith, ℕ, ◌+◌, ◌*◌, ◌-◌, ◌^◌, ◌≤◌, nat_lt, Bool, true, false, if◌then◌else◌, List, [], ◌∷◌, ◌≡◌}
use Rattle.std.proofs.Common.{suc, length, drop, length-append, length-drop, refl, ap}
use Rattle.lsvd_base.specs.declared.entry.Entry.{Entry}
use Rattle.object_stream.specs.Stream.{Stream, end_at, last_number}
use Rattle.cache_log.specs.declared.row.Row.{Row}
use Rattle.cache_log.specs.declared.row.Row.TheVariants as rows_of
use Rattle.cache_log.specs.Rows.{position_of, record_size, sectors_taken, next, Follow}
use Rattle.cache_log.specs.Log.{LogState, all_rows, AreRowsOf}
use Rattle.plain_disk.specs.State.{PlainState, stream_in, frontier_of, frontier_end, logged_entries}
use Rattle.plain_disk.proofs.EndLemmas.{ends_grow, frontier_is_sealed}
use Rattle.vol_core.specs.Volume.{VolumeState}
use Rattle.vol_core.specs.Shows.{Shows}
use Rattle.volume_owner.specs.Owner.{IsIdle}
use Rattle.volume_owner.specs.Helping.{work_of}

-- ---- records

size_some : (row : Row) → 1 ≤ record_size row
size_some (rows_of.Write seq at lba sectors) = omega arith
size_some (rows_of.Zero seq at lba sectors) = omega arith

taken_by : (b : Bool) (rest size : ℕ) → 1 ≤ size → 1 ≤ (if b then rest + size else size)
taken_by true rest size some = omega arith
taken_by false rest size some = some

count_rows : (rows : List Row) (log from used : ℕ) → Follow log from used rows → length rows ≤ used
count_rows [] log from used follow = omega arith
count_rows (row ∷ rows) log from used follow =
    let some : 1 ≤ sectors_taken log from row = taken_by (nat_lt (position_of row) from) (log - from) (record_size row)
    (size_some row) in
    let fits = follow.1 in
    let rest = count_rows rows log (next log row) (used - sectors_taken log from row) follow.2 in
    omega (arith, some, fits, rest)

as_many : (rows : List Row) (list : List Entry) → AreRowsOf rows list → length rows ≡ length list
as_many [] [] are = refl
as_many [] (entry ∷ list) are = absurd are
as_many (row ∷ rows) [] are = absurd are
as_many (row ∷ rows) (entry ∷ list) are = ap suc (as_many rows list are.1)

few_logged : (volume : VolumeState) (plain : PlainState) → Shows volume plain → length (logged_entries plain) ≤ 2 ^ 31
few_logged volume plain shows =
    let log : LogState = volume.log in
    let rows = count_rows (all_rows log) log.room.log log.commits.body.tail.position log.room.used shows.log.follow in
    let both = length-append log.held log.rows in
    let left = length-drop (frontier_end plain - log.first) log.rows in
    let many = as_many (drop (frontier_end plain - log.first) log.rows) (logged_entries plain) shows.logged.rows in
    let used = shows.log.is_room.used in
    let limit = shows.log.is_room.limit in
    omega (arith, rows, both, left, many, used, limit)

-- ---- both

-- the entries in no object are among those past the frontier's end, and at most 16 objects are on their way
pub work_bound : (volume : VolumeState) (plain : PlainState) → Shows volume plain → IsIdle volume → work_of volume ≤ 3 * 2 ^ 31
work_bound volume plain shows idle =
    let stream : Stream = stream_in plain in
    let batch = ap (λ (es : List Entry). length es) shows.objects.stream.entries in
    let unsealed = length-drop (end_at stream (last_number stream) - plain.end) plain.entries in
    let logged = length-drop (frontier_end plain - plain.end) plain.entries in
    let few = few_logged volume plain shows in
    let later = ends_grow stream (frontier_of plain) (last_number stream) shows.valid.stream.ends
    (frontier_is_sealed plain shows.valid) in
    omega (arith, idle.few, batch, unsealed, logged, few, later)
