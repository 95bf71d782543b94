use Rattle.std.proofs.Common.{rules, ◌≡◌, ◌<◌, ◌^◌, ◌∷◌, ◌++◌, [], ℕ, List, true, sym, ◌∙◌, ap, length, ◌≤◌, ◌+◌, ◌-◌, ◌*◌, subst}
use Rattle.std.proofs.Common.{arith}
use Rattle.std.specs.Prelude.{IfErr, min}
use Rattle.lsvd_device.specs.Medium.{Medium}
use Rattle.lsvd_device.specs.Device.{HoldsNow}
use Rattle.commit_body.specs.declared.body.CommitBody.{CommitBody}
use Rattle.commit_body.specs.Body.{MayStand}
use Rattle.lsvd_base.specs.declared.geometry.Geometry.{Geometry}
use Rattle.cache_log.specs.declared.row.Row.{Row}
use Rattle.cache_log.specs.Rows.{sectors_taken, next}
use Rattle.cache_log.specs.Reads.{AreReadOnly, opens_without_fault, headers_of, headers_of_rows, pieces_in}
use Rattle.cache_log.specs.Opening.{entry_count, sectors_between, AreRowsOfLog, AreRecordsInRange, IsBadLog}
use Rattle.cache_log.specs.Headers.{FitsFrom, HasRow, IsBadRow}
use Rattle.cache_log.proofs.ReadCounts.{read_none, only_then, open_error_then, header_most, headers_most}
use Rattle.cache_log.proofs.ReadCounts.{headers_more}
use Rattle.cache_log.proofs.ReadRowsLemmas.{first_far, first_has_now, next_far, next_has_now, last_far, last_has_now, bad_on_err}
use Rattle.cache_log.proofs.AheadLemmas.{none_ahead}
use Rattle.cache_log.proofs.PaidRows.{first_paid, next_paid, last_paid}
use Rattle.cache_log.proofs.RowLemmas.{place_of}
use Rattle.cache_log.proofs.opening.read_rows.Goals as goal

pub loop-seq-init : goal.loop-seq-init
loop-seq-init g c =
    let geometry : Geometry = c.args.geometry.now in
    let body : CommitBody = c.body-body.result in
    let may : MayStand body geometry.log = subst (λ b. MayStand b geometry.log) (sym c.body-body.ensures.body)
    c.requires.may_stand in
    let moments : List Medium = c.args.commits.now.disk.moments in
    let far = first_far geometry body may in
    let has = first_has_now geometry body moments may in
    let room : length c.in_ok-ahead.ahead.buffer.items ≡ 512 * min c.sectors_between-to_head.result 2048 = search rules in
    record {
      only = read_none (headers_of_rows geometry.log body.tail.position c.new-rows.result.items) c.args.commits.now
          c.requires.on_disk;
      piece = none_ahead c.in_ok-ahead.ahead moments (search rules);
      paid = rw (c.sectors_between-to_head.ensures.sectors) (first_paid geometry body c.in_ok-ahead.ahead c.args.commits.now
          c.requires.on_disk may (search rules) (subst (λ n. length c.in_ok-ahead.ahead.buffer.items ≡ 512 * min n 2048)
          c.sectors_between-to_head.ensures.sectors room));
      far = rw (c.new-rows.ensures.items, c.sectors_between-to_head.ensures.sectors) far;
      has = rw (c.new-rows.ensures.items, c.sectors_between-to_head.ensures.sectors) has;
    }

pub returns-in_err-row-clause-bad : goal.returns-in_err-row-clause-bad
returns-in_err-row-clause-bad g c =
    let geometry : Geometry = c.args.geometry.now in
    let body : CommitBody = c.body-body.result in
    let rows : List Row = c.loop-seq.rows.items in
    let seq : ℕ = c.loop-seq.seq in
    let moments : List Medium = c.args.commits.now.disk.moments in
    let bad : IfErr c.from_residual-in_err-row.result
    (λ e. IsBadRow geometry (place_of body.head.seq c.loop-seq.position c.loop-seq.to_head seq) seq
    c.loop-seq.commits.disk.moments e) = search rules in
    let bad_at_first : IfErr c.from_residual-in_err-row.result
    (λ e. IsBadRow geometry (place_of body.head.seq c.loop-seq.position c.loop-seq.to_head seq) seq moments e) =
    subst (λ m. IfErr c.from_residual-in_err-row.result
    (λ e. IsBadRow geometry (place_of body.head.seq c.loop-seq.position c.loop-seq.to_head seq) seq m e))
    c.loop-seq.invariant.only.moments bad in
    let small : seq < 2 ^ 64 = omega arith in
    let is = bad_on_err c.from_residual-in_err-row.result geometry body rows c.loop-seq.position c.loop-seq.to_head seq
    c.args.commits.now.disk.size moments c.requires.limits c.requires.inside c.requires.on_disk.is_disk.media
    c.loop-seq-test.true small
    c.loop-seq.invariant.far c.loop-seq.invariant.has bad_at_first in
    subst (λ b. IfErr c.from_residual-in_err-row.result (λ e. IsBadLog geometry b moments e)) c.body-body.ensures.body is

-- at most two headers for each row so far, and two for one more, are at most two for each entry
within : (count rows tail head seq : ℕ) → count ≤ 2 * rows → tail + rows ≡ seq → seq < head → count + 2 ≤ 2 * (head - tail)
within count rows tail head seq most is before = omega (arith, most, is, before)

pub returns-in_err-row-clause-err : goal.returns-in_err-row-clause-err
returns-in_err-row-clause-err g c =
    let body : CommitBody = c.body-body.result in
    let log : ℕ = c.args.geometry.now.log in
    let rows : List Row = c.loop-seq.rows.items in
    let count : ℕ = headers_of_rows log body.tail.position rows in
    let second : IfErr c.from_residual-in_err-row.result (λ e. AreReadOnly 2 (opens_without_fault e) c.loop-seq.commits
    c.read_row.new.commits) = search rules in
    let small = within count (length rows) body.tail.seq body.head.seq c.loop-seq.seq (headers_most log body.tail.position rows)
    c.loop-seq.invariant.far.next_seq c.loop-seq-test.true in
    let all = open_error_then c.from_residual-in_err-row.result count 2 (2 * entry_count body) c.args.commits.now
    c.loop-seq.commits c.read_row.new.commits c.loop-seq.invariant.only second small in
    subst (λ b. IfErr c.from_residual-in_err-row.result (λ e. AreReadOnly (2 * entry_count b) (opens_without_fault e)
    c.args.commits.now c.read_row.new.commits)) c.body-body.ensures.body all

pub returns-in_err-push_back-clause-err : goal.returns-in_err-push_back-clause-err
returns-in_err-push_back-clause-err g c =
    let body : CommitBody = c.body-body.result in
    let log : ℕ = c.args.geometry.now.log in
    let rows : List Row = c.loop-seq.rows.items in
    let count : ℕ = headers_of_rows log body.tail.position rows in
    let small = within count (length rows) body.tail.seq body.head.seq c.loop-seq.seq (headers_most log body.tail.position rows)
    c.loop-seq.invariant.far.next_seq c.loop-seq-test.true in
    let one : AreReadOnly (headers_of c.loop-seq.position c.in_ok-row.row) true c.loop-seq.commits c.read_row.new.commits =
    c.in_ok-row.ensures.read in
    let few = header_most c.loop-seq.position c.in_ok-row.row in
    let all : AreReadOnly (2 * entry_count c.args.commits.now.body) true c.args.commits.now c.read_row.new.commits =
    subst (λ b. AreReadOnly (2 * entry_count b) true c.args.commits.now c.read_row.new.commits) c.body-body.ensures.body
    (only_then count (headers_of c.loop-seq.position c.in_ok-row.row) _ true c.args.commits.now c.loop-seq.commits
    c.read_row.new.commits c.loop-seq.invariant.only one (omega (arith, few, small))) in
    search (all, rules)

pub loop-seq-preserved : goal.loop-seq-preserved
loop-seq-preserved g c =
    let geometry : Geometry = c.args.geometry.now in
    let body : CommitBody = c.body-body.result in
    let may : MayStand body geometry.log = subst (λ b. MayStand b geometry.log) (sym c.body-body.ensures.body)
    c.requires.may_stand in
    let rows : List Row = c.loop-seq.rows.items in
    let seq : ℕ = c.loop-seq.seq in
    let position : ℕ = c.loop-seq.position in
    let to_head : ℕ = c.loop-seq.to_head in
    let moments : List Medium = c.args.commits.now.disk.moments in
    let row : Row = c.in_ok-row.row in
    let fit : FitsFrom geometry (place_of body.head.seq position to_head seq) seq row = search rules in
    let has : HoldsNow (λ now. HasRow geometry (place_of body.head.seq position to_head seq) seq now.bytes row)
    c.loop-seq.commits.disk.moments = search rules in
    let has_at_first : HoldsNow (λ now. HasRow geometry (place_of body.head.seq position to_head seq) seq now.bytes row) moments =
    subst (λ m. HoldsNow (λ now. HasRow geometry (place_of body.head.seq position to_head seq) seq now.bytes row) m)
    c.loop-seq.invariant.only.moments has in
    let pushed : c.push_back.new.self.items ≡ rows ++ row ∷ [] = search rules in
    let took : c.sectors_taken-to_head.result ≡ sectors_taken geometry.log position row = search rules in
    let to : c.next-position.result ≡ next geometry.log row = search rules in
    let one : AreReadOnly (headers_of position row) true c.loop-seq.commits c.read_row.new.commits = c.in_ok-row.ensures.read in
    let both = only_then (headers_of_rows geometry.log body.tail.position rows) (headers_of position row) _ true
    c.args.commits.now c.loop-seq.commits c.read_row.new.commits c.loop-seq.invariant.only one (omega arith) in
    let counted : headers_of_rows geometry.log body.tail.position rows + headers_of position row ≡ headers_of_rows geometry.log
    body.tail.position (rows ++ row ∷ []) =
    ap (λ p. headers_of_rows geometry.log body.tail.position rows + headers_of p row) (sym c.loop-seq.invariant.far.at_end)
    ∙ sym (headers_more rows row geometry.log body.tail.position) in
    let far = next_far geometry body rows position to_head seq row may c.loop-seq.invariant.far fit in
    let so_far = next_has_now geometry body rows position to_head seq c.args.commits.now.disk.size row moments c.requires.limits
    c.requires.inside c.requires.on_disk.is_disk.media c.loop-seq-test.true c.loop-seq.invariant.far fit has_at_first
    c.loop-seq.invariant.has in
    record {
      only = rw pushed (subst (λ n. AreReadOnly n true c.args.commits.now c.read_row.new.commits) counted both);
      piece = c.in_ok-row.ensures.piece;
      paid = rw took (next_paid geometry body rows position to_head seq row c.loop-seq.ahead c.read_row.new.ahead
          c.args.commits.now c.loop-seq.commits c.read_row.new.commits may c.loop-seq.invariant.far fit.within
          c.loop-seq.invariant.paid c.in_ok-row.ensures.paid);
      far = rw (pushed, took, to) far;
      has = rw (pushed, took, to) so_far;
    }

pub returns-clause-rows : goal.returns-clause-rows
returns-clause-rows g c =
    let geometry : Geometry = c.args.geometry.now in
    let body : CommitBody = c.body-body.result in
    let may : MayStand body geometry.log = subst (λ b. MayStand b geometry.log) (sym c.body-body.ensures.body)
    c.requires.may_stand in
    let end : c.loop-seq.seq ≡ body.head.seq = (let o = may.in_order in omega (arith, o)) in
    let are = last_far geometry body c.loop-seq.rows.items c.loop-seq.position c.loop-seq.to_head c.loop-seq.seq may end
    c.loop-seq.invariant.far in
    subst (λ b. AreRowsOfLog geometry b c.loop-seq.rows.items) c.body-body.ensures.body are

pub returns-clause-records : goal.returns-clause-records
returns-clause-records g c =
    let geometry : Geometry = c.args.geometry.now in
    let body : CommitBody = c.body-body.result in
    let may : MayStand body geometry.log = subst (λ b. MayStand b geometry.log) (sym c.body-body.ensures.body)
    c.requires.may_stand in
    let end : c.loop-seq.seq ≡ body.head.seq = (let o = may.in_order in omega (arith, o)) in
    let are = last_far geometry body c.loop-seq.rows.items c.loop-seq.position c.loop-seq.to_head c.loop-seq.seq may end
    c.loop-seq.invariant.far in
    let all = last_has_now geometry body c.loop-seq.rows.items c.loop-seq.position c.loop-seq.to_head c.loop-seq.seq
    c.args.commits.now.disk.moments may are c.loop-seq.invariant.has in
    subst (λ b. HoldsNow (λ now. AreRecordsInRange geometry b c.loop-seq.rows.items now.bytes) c.args.commits.now.disk.moments)
    c.body-body.ensures.body all

pub returns-clause-read : goal.returns-clause-read
returns-clause-read g c =
    subst (λ (b : CommitBody). AreReadOnly (headers_of_rows c.args.geometry.now.log b.tail.position c.loop-seq.rows.items) true
    c.args.commits.now c.loop-seq.commits) c.body-body.ensures.body c.loop-seq.invariant.only

pub returns-clause-pieces : goal.returns-clause-pieces
returns-clause-pieces g c =
    subst (λ (b : CommitBody). AreReadOnly (pieces_in (sectors_between c.args.geometry.now.log b)) true c.args.commits.now
    c.loop-seq.commits) c.body-body.ensures.body
    (last_paid c.args.geometry.now c.body-body.result c.loop-seq.to_head c.loop-seq.ahead c.args.commits.now c.loop-seq.commits
    c.loop-seq.invariant.paid)
