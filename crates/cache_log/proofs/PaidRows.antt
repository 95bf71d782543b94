-- How many pieces `read_rows` has read.
use Rattle.std.proofs.Common.{◌≡◌, ℕ, ◌+◌, ◌-◌, ◌*◌, ◌≤◌, true, List, length, subst, arith}
use Rattle.std.specs.Prelude.{min}
use Rattle.lsvd_base.specs.declared.geometry.Geometry.{Geometry}
use Rattle.log_record.specs.declared.head.Place.{Place}
use Rattle.commit_body.specs.declared.body.CommitBody.{CommitBody}
use Rattle.commit_body.specs.Body.{MayStand}
use Rattle.commit_slot.specs.Commits.{CommitsState}
use Rattle.commit_slot.specs.OnDisk.{AreOnDisk}
use Rattle.cache_log.specs.declared.reading_ahead.ReadAhead.{ReadAhead}
use Rattle.cache_log.specs.declared.row.Row.{Row}
use Rattle.cache_log.specs.Rows.{sectors_taken}
use Rattle.cache_log.specs.Reads.{AreReadOnly, pieces_in}
use Rattle.cache_log.specs.Opening.{sectors_between}
use Rattle.cache_log.specs.Invariant.{IsFurther}
use Rattle.cache_log.specs.Paid.{StandsAfter, IsPaid, Pays}
use Rattle.cache_log.proofs.PaidLemmas.{paid_first, paid_further, paid_few}
use Rattle.cache_log.proofs.ReadCounts.{read_none, only_then, only_more}
use Rattle.cache_log.proofs.ReadRowsLemmas.{IsFar, far_further}
use Rattle.cache_log.proofs.RowLemmas.{between_most, place_of}

-- the pieces that were read so far
pub record HasPaid (geometry : Geometry) (body : CommitBody) (to_head : ℕ) (ahead : ReadAhead) (old new : CommitsState) : Type 0
  where
    pub count : ℕ
    pub only : AreReadOnly count true old new
    pub paid : IsPaid geometry.log body.tail.position (sectors_between geometry.log body)
        (sectors_between geometry.log body - to_head) count ahead

pub first_paid : (geometry : Geometry) (body : CommitBody) (ahead : ReadAhead) (commits : CommitsState) → AreOnDisk commits
    → MayStand body geometry.log → ahead.len ≡ 0
    → length ahead.buffer.items ≡ 512 * min (sectors_between geometry.log body) 2048
    → HasPaid geometry body (sectors_between geometry.log body) ahead commits commits
first_paid geometry body ahead commits on_disk may none room =
    let log : ℕ = geometry.log in
    let total : ℕ = sectors_between log body in
    record {
      count = 0;
      only = read_none 0 commits on_disk;
      paid = paid_further log body.tail.position total 0 (total - total) 0 ahead (omega arith)
          (paid_first log body.tail.position total ahead may.tail_inside none room);
    }

pub next_paid : (geometry : Geometry) (body : CommitBody) (rows : List Row) (position to_head seq : ℕ) (row : Row)
    (ahead after : ReadAhead) (old middle new : CommitsState) → MayStand body geometry.log
    → IsFar geometry body rows position to_head seq → sectors_taken geometry.log position row ≤ to_head
    → HasPaid geometry body to_head ahead old middle
    → Pays geometry.log (place_of body.head.seq position to_head seq) (sectors_taken geometry.log position row) ahead after middle
    new
    → HasPaid geometry body (to_head - sectors_taken geometry.log position row) after old new
next_paid geometry body rows position to_head seq row ahead after old middle new may far takes so_far pays =
    let log : ℕ = geometry.log in
    let total : ℕ = sectors_between log body in
    let taken : ℕ = sectors_taken log position row in
    let s = far.sum in
    let used : far.used ≡ total - to_head = omega (arith, s) in
    let place : Place = place_of body.head.seq position to_head seq in
    let stands : StandsAfter log body.tail.position total (total - to_head) place = record {
      tail_inside = may.tail_inside;
      most = between_most log body may;
      sum = omega (arith, s);
      inside = far.inside;
      further = subst (λ n. IsFurther log body.tail.position n position) used
          (far_further geometry body rows position to_head seq may far).1;
    } in
    let is = pays body.tail.position total (total - to_head) so_far.count stands so_far.paid in
    record {
      count = so_far.count + is.0;
      only = only_then so_far.count is.0 (so_far.count + is.0) true old middle new so_far.only is.1 (omega arith);
      paid = paid_further log body.tail.position total (total - to_head + taken) (total - (to_head - taken)) (so_far.count + is.0)
          after (omega (arith, s, takes)) is.2;
    }

pub last_paid : (geometry : Geometry) (body : CommitBody) (to_head : ℕ) (ahead : ReadAhead) (old new : CommitsState)
    → HasPaid geometry body to_head ahead old new
    → AreReadOnly (pieces_in (sectors_between geometry.log body)) true old new
last_paid geometry body to_head ahead old new so_far =
    let total : ℕ = sectors_between geometry.log body in
    only_more so_far.count (pieces_in total) true old new so_far.only
    (paid_few geometry.log body.tail.position total (total - to_head) so_far.count ahead so_far.paid)
