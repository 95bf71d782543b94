use Rattle.std.proofs.Common.{rules, ℕ, sym, subst, arith}
use Rattle.std.specs.Prelude.{Result, Ok, Err, IfErr, IsTrue, true}
use Rattle.lsvd_device.specs.Device.{HoldsNow}
use Rattle.log_record.specs.Grammar.{is_in_range, fits, IsHeader}
use Rattle.commit_slot.specs.Commits.{CommitsState}
use Rattle.cache_log.specs.Rows.{log_sectors, sectors_taken}
use Rattle.cache_log.specs.Reads.{AreReadOnly, opens_without_fault}
use Rattle.cache_log.specs.Opening.{after_pad}
use Rattle.cache_log.specs.Headers.{IsBadHeader, IsPad}
use Rattle.cache_log.specs.declared.error.OpenError.{OpenError}
use Rattle.cache_log.proofs.ReadCounts.{only_more, only_then, open_error_then, one_header, two_headers}
use Rattle.cache_log.proofs.RowLemmas.{bad_first, bad_after_pad, row_here, row_after_pad, fits_here, fits_round}
use Rattle.cache_log.proofs.RowLemmas.{pad_before_head, pad_ahead}
use Rattle.cache_log.proofs.PaidLemmas.{pays_further, pays_both}
use Rattle.cache_log.proofs.Places.{taken_round}
use Rattle.cache_log.proofs.opening.read_row.Goals as goal

-- ---- the first header was refused, or is that of a row

-- of two reads one was made, or failed
error_more : {T : Type 0} (r : Result T OpenError) (old new : CommitsState)
    → IfErr r (λ e. AreReadOnly 1 (opens_without_fault e) old new) → IfErr r (λ e. AreReadOnly 2 (opens_without_fault e) old new)
error_more (Ok x) old new only = tt
error_more (Err e) old new only = only_more 1 2 (opens_without_fault e) old new only (omega arith)

pub returns-in_err-head-clause-bad : goal.returns-in_err-head-clause-bad
returns-in_err-head-clause-bad g c =
    let bad : IfErr c.from_residual.result (λ e. IsBadHeader c.args.geometry.now c.args.place.now c.args.seq
    c.args.commits.now.disk.moments e) = search rules in
    bad_first c.from_residual.result c.args.geometry.now c.args.place.now c.args.seq c.args.commits.now.disk.moments bad

pub returns-in_err-head-clause-err : goal.returns-in_err-head-clause-err
returns-in_err-head-clause-err g c =
    let first : IfErr c.from_residual.result (λ e. AreReadOnly 1 (opens_without_fault e) c.args.commits.now
    c.read_head.new.commits) = search rules in
    error_more c.from_residual.result c.args.commits.now c.read_head.new.commits first

pub returns-in-Some-clause-fits : goal.returns-in-Some-clause-fits
returns-in-Some-clause-fits g c =
    let there = c.in-Some.ensures.some in
    let e = c.in_ok-head.ensures in
    fits_here c.args.geometry.now c.args.place.now c.args.seq c.in-Some.row there.0 there.1
    (subst (λ h. IsTrue (is_in_range c.args.geometry.now c.args.place.now.position h)) (sym there.2) e.in_range)
    (subst (λ h. IsTrue (fits c.args.geometry.now c.args.place.now h)) (sym there.2) e.fits)

pub returns-in-Some-clause-row : goal.returns-in-Some-clause-row
returns-in-Some-clause-row g c =
    let there = c.in-Some.ensures.some in
    row_here c.args.geometry.now c.args.place.now c.args.seq c.in_ok-head.head c.in-Some.row c.args.commits.now.disk.moments
    there.0 there.1 there.2 c.in_ok-head.ensures.head

pub returns-in-Some-clause-read : goal.returns-in-Some-clause-read
returns-in-Some-clause-read g c =
    let one = one_header c.args.place.now.position c.in-Some.row c.in-Some.ensures.some.1 in
    subst (λ n. AreReadOnly n true c.args.commits.now c.read_head.new.commits) (sym one) c.in_ok-head.ensures.read

pub returns-in-Some-clause-paid : goal.returns-in-Some-clause-paid
returns-in-Some-clause-paid g c = pays_further c.args.geometry.now.log 0
    (sectors_taken c.args.geometry.now.log c.args.place.now.position c.in-Some.row) c.args.place.now c.args.ahead.now
    c.read_head.new.ahead c.args.commits.now c.read_head.new.commits (omega arith) c.in_ok-head.ensures.paid

-- ---- it is that of a pad

pub overflow_sub-after_pad-2 : goal.overflow_sub-after_pad-2
overflow_sub-after_pad-2 g c =
    let pad : IsPad c.in_ok-head.head = search rules in
    pad_before_head c.args.geometry.now c.args.place.now c.in_ok-head.head pad c.in_ok-head.ensures.in_range
    c.in_ok-head.ensures.fits

pub returns-in_err-head-2-clause-bad : goal.returns-in_err-head-2-clause-bad
returns-in_err-head-2-clause-bad g c =
    let bad : IfErr c.from_residual-in_err-head-2.result
    (λ e. IsBadHeader c.args.geometry.now (after_pad c.args.geometry.now.log c.args.place.now) c.args.seq
    c.read_head.new.commits.disk.moments e) = search rules in
    let same = c.in_ok-head.ensures.read.moments in
    bad_after_pad c.from_residual-in_err-head-2.result c.args.geometry.now c.args.place.now c.args.seq c.in_ok-head.head
    c.args.commits.now.disk.moments (search rules)
    c.in_ok-head.ensures.in_range c.in_ok-head.ensures.fits c.in_ok-head.ensures.head
    (subst (λ m. IfErr c.from_residual-in_err-head-2.result
    (λ e. IsBadHeader c.args.geometry.now (after_pad c.args.geometry.now.log c.args.place.now) c.args.seq m e)) same bad)

pub returns-in_err-head-2-clause-err : goal.returns-in_err-head-2-clause-err
returns-in_err-head-2-clause-err g c =
    let second : IfErr c.from_residual-in_err-head-2.result (λ e. AreReadOnly 1 (opens_without_fault e) c.read_head.new.commits
    c.read_head-2.new.commits) = search rules in
    open_error_then _ 1 1 2 c.args.commits.now c.read_head.new.commits c.read_head-2.new.commits
    c.in_ok-head.ensures.read second (omega arith)

pub returns-clause-row : goal.returns-clause-row
returns-clause-row g c =
    let same = c.in_ok-head.ensures.read.moments in
    let there = c.in-Some-row_at.ensures.some in
    let header : HoldsNow (λ now. IsHeader (log_sectors 0 1 now.bytes) c.args.seq c.args.geometry.now
    (after_pad c.args.geometry.now.log c.args.place.now) c.in_ok-head-2.head) c.args.commits.now.disk.moments =
    subst (HoldsNow (λ now. IsHeader (log_sectors 0 1 now.bytes) c.args.seq c.args.geometry.now
    (after_pad c.args.geometry.now.log c.args.place.now) c.in_ok-head-2.head)) same c.in_ok-head-2.ensures.head in
    row_after_pad c.args.geometry.now c.args.place.now c.args.seq c.in_ok-head.head c.in_ok-head-2.head c.in-Some-row_at.row
    c.args.commits.now.disk.moments (search rules)
    c.in_ok-head.ensures.in_range c.in_ok-head.ensures.fits c.in_ok-head.ensures.head there.0 there.1 there.2 header

pub returns-clause-fits : goal.returns-clause-fits
returns-clause-fits g c =
    let there = c.in-Some-row_at.ensures.some in
    let pad : IsPad c.in_ok-head.head = search rules in
    let part = pad_before_head c.args.geometry.now c.args.place.now c.in_ok-head.head pad c.in_ok-head.ensures.in_range
    c.in_ok-head.ensures.fits in
    let e = c.in_ok-head-2.ensures in
    fits_round c.args.geometry.now c.args.place.now c.args.seq c.in-Some-row_at.row there.0 c.requires.position c.requires.to_head
    part there.1 (subst (λ h. IsTrue (is_in_range c.args.geometry.now 0 h)) (sym there.2) e.in_range)
    (subst (λ h. IsTrue (fits c.args.geometry.now (after_pad c.args.geometry.now.log c.args.place.now) h)) (sym there.2) e.fits)

pub returns-clause-read : goal.returns-clause-read
returns-clause-read g c =
    let there = c.in-Some-row_at.ensures.some in
    let pad : IsPad c.in_ok-head.head = search rules in
    let part = pad_before_head c.args.geometry.now c.args.place.now c.in_ok-head.head pad c.in_ok-head.ensures.in_range
    c.in_ok-head.ensures.fits in
    let ahead = pad_ahead c.args.geometry.now c.args.place.now c.in-Some-row_at.row c.requires.to_head part there.1
    (subst (λ h. IsTrue (fits c.args.geometry.now (after_pad c.args.geometry.now.log c.args.place.now) h)) (sym there.2)
    c.in_ok-head-2.ensures.fits) in
    let both = only_then 1 1 2 true c.args.commits.now c.read_head.new.commits c.read_head-2.new.commits c.in_ok-head.ensures.read
    c.in_ok-head-2.ensures.read (omega arith) in
    subst (λ n. AreReadOnly n true c.args.commits.now c.read_head-2.new.commits)
    (sym (two_headers c.args.place.now.position c.in-Some-row_at.row ahead)) both

pub returns-clause-paid : goal.returns-clause-paid
returns-clause-paid g c =
    let log : ℕ = c.args.geometry.now.log in
    let there = c.in-Some-row_at.ensures.some in
    let pad : IsPad c.in_ok-head.head = search rules in
    let part = pad_before_head c.args.geometry.now c.args.place.now c.in_ok-head.head pad c.in_ok-head.ensures.in_range
    c.in_ok-head.ensures.fits in
    let less = pad_ahead c.args.geometry.now c.args.place.now c.in-Some-row_at.row c.requires.to_head part there.1
    (subst (λ h. IsTrue (fits c.args.geometry.now (after_pad log c.args.place.now) h)) (sym there.2)
    c.in_ok-head-2.ensures.fits) in
    let takes = taken_round log c.args.place.now.position c.in-Some-row_at.row less in
    pays_both log (sectors_taken log c.args.place.now.position c.in-Some-row_at.row) c.args.place.now c.args.ahead.now
    c.read_head.new.ahead c.read_head-2.new.ahead c.args.commits.now c.read_head.new.commits c.read_head-2.new.commits part
    (omega (arith, takes)) c.in_ok-head.ensures.paid c.in_ok-head-2.ensures.paid
