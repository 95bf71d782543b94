use Rattle.std.proofs.Common.{arith, sym, ◌∙◌, subst}
use Rattle.lsvd_fault.specs.Faults.{CountsOne}
use Rattle.vol_replay.proofs.Progress.{run_more, written_stopped, written_so_far, written_broken, written_done}
use Rattle.vol_replay.proofs.Results.{at_error, at_success, is_nothing, not_counted, one_counted, bad_line_is_told}
use Rattle.vol_replay.proofs.run.run_lines.Goals as goal

pub returns-in-Err-Bad-clause-transcript : goal.returns-in-Err-Bad-clause-transcript
returns-in-Err-Bad-clause-transcript g c =
    let refused = rw c.in-Err-Bad.field-0-is at c.in-Err-Bad.ensures.refused in
    let handed = rw (c.in-Err-Bad.reason-is, c.as_slice.ensures.value, refused.0) at c.hand_over.ensures.handed in
    written_stopped _ _ _ _ _ _ _ c.split_line.result.1.now c.loop-rest.number c.in-Err-Bad.reason c.loop-rest.rig
    c.hand_over.result
    c.requires c.loop-rest.invariant.run c.split_line.ensures.line refused.1 handed

pub returns-in-Err-Bad-clause-no_read : goal.returns-in-Err-Bad-clause-no_read
returns-in-Err-Bad-clause-no_read g c = bad_line_is_told _ _ _ _ _ c.hand_over.result c.hand_over.ensures.handed

pub returns-then-is_err-clause-count : goal.returns-then-is_err-clause-count
returns-then-is_err-clause-count g c =
    subst (λ n. CountsOne n (g.O.Sink.faults c.flush_full.new.sink)) c.loop-rest.invariant.none
    (one_counted c.flush_full.result (sym c.if-is_err.ensures.value) _ _ c.flush_full.ensures.count)

pub returns-in-Err-OutOfMemory-clause-transcript : goal.returns-in-Err-OutOfMemory-clause-transcript
returns-in-Err-OutOfMemory-clause-transcript g c =
    written_so_far _ _ _ _ _ c.loop-rest.number c.loop-rest.rig c.requires c.loop-rest.invariant.run

pub returns-then-is_err-clause-transcript : goal.returns-then-is_err-clause-transcript
returns-then-is_err-clause-transcript g c =
    written_broken _ _ _ _ _ _ _ c.split_line.result.1.now _ c.loop-rest.number c.loop-rest.rig c.answer_line.new.rig
    c.requires c.loop-rest.invariant.run c.split_line.ensures.line c.in-Ok.ensures.ok
    (at_error c.flush_full.result (sym c.if-is_err.ensures.value) c.flush_full.ensures.err)

pub loop-rest-preserved : goal.loop-rest-preserved
loop-rest-preserved g c = record {
  run = run_more _ _ _ _ _ _ _ c.split_line.result.1.now _ _ c.loop-rest.number c.loop-rest.rig c.answer_line.new.rig
      c.loop-rest.invariant.run c.split_line.ensures.line c.in-Ok.ensures.ok
      (at_success c.flush_full.result (sym c.if-is_err.ensures.value) c.flush_full.ensures.ok);
  counted = omega (arith, c.loop-rest.invariant.counted, c.split_line.ensures.shorter);
  young = omega (arith, c.loop-rest.invariant.young, c.answer_line.ensures.lines);
  none = not_counted c.flush_full.result (sym c.if-is_err.ensures.value) _ _ c.flush_full.ensures.count
      ∙ c.loop-rest.invariant.none;
}

pub returns-clause-transcript : goal.returns-clause-transcript
returns-clause-transcript g c =
    let handed = rw c.as_slice-2.ensures.value at c.hand_over-2.ensures.handed in
    written_done _ _ _ _ _ _ c.loop-rest.number c.loop-rest.rig c.hand_over-2.result
    c.requires c.loop-rest.invariant.run (is_nothing c.loop-rest.rest.now (sym c.loop-rest-test.ensures)) handed
