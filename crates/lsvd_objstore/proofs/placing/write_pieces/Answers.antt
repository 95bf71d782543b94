use Rattle.std.proofs.Common.{◌≡◌, ◌∙◌, ◌+◌, ◌-◌, ◌++◌, sym, ap, subst, refl, ℕ, List, [], take, drop, arith}
use Rattle.std.proofs.Math.Seq.{take-add}
use Rattle.lsvd_files.specs.Calls.{AppendsPart, with_file, appended, Changes}
use Rattle.lsvd_files.proofs.Chained.{at_error, changes_not, changes_then}
use Rattle.lsvd_objstore.specs.Placing.{Writes, Touches}
use Rattle.lsvd_objstore.proofs.Placed.{writes_none, writes_more, touches_more}
use Rattle.lsvd_objstore.proofs.placing.write_pieces.Goals as goal

pub loop-at-init : goal.loop-at-init
loop-at-init g c = record {
  same = refl;
  inside = omega arith;
  wrote = changes_not (Writes (g.D.Directory.number c.args.file.now) []) (writes_none (g.D.Directory.number c.args.file.now))
      (g.D.Directory.state c.args.directory.now);
}

pub returns-in_err-append-clause-err : goal.returns-in_err-append-clause-err
returns-in_err-append-clause-err g c =
    let number = g.D.Directory.number c.args.file.now in
    let other = g.D.Directory.number c.loop-at.file in
    let piece = take (c.loop-at.at + c.min-count.result - c.loop-at.at) (drop c.loop-at.at c.args.bytes.now) in
    at_error c.from_residual.result
    (changes_then (Writes number (take c.loop-at.at c.args.bytes.now)) (AppendsPart other piece) (Touches number)
    (λ a b d wrote h. touches_more number other (take c.loop-at.at c.args.bytes.now) (appended (take h.0 piece)) a b d
    c.loop-at.invariant.same wrote h.1) (g.D.Directory.state c.args.directory.now)
    (g.D.Directory.state c.loop-at.directory) (g.D.Directory.state c.append.new.self) c.loop-at.invariant.wrote
    c.in_err-append.ensures.err)

pub loop-at-preserved : goal.loop-at-preserved
loop-at-preserved g c =
    let number = g.D.Directory.number c.args.file.now in
    let other = g.D.Directory.number c.loop-at.file in
    let at = c.loop-at.at in
    let count = c.min-count.result in
    let bytes : List ℕ = c.args.bytes.now in
    let piece = take (at + count - at) (drop at bytes) in
    let longer : take at bytes ++ piece ≡ take (at + count) bytes =
    ap (λ (n : ℕ). take at bytes ++ take n (drop at bytes)) (omega arith) ∙ sym (take-add at count bytes) in
    record {
      same = c.in_ok-append.ensures.same ∙ c.loop-at.invariant.same;
      inside = omega arith;
      wrote = subst (λ (front : List ℕ). Changes (Writes number front) (g.D.Directory.state c.args.directory.now)
          (g.D.Directory.state c.append.new.self)) longer
          (changes_then (Writes number (take at bytes)) (λ old new. new ≡ with_file other (appended piece) old)
          (Writes number (take at bytes ++ piece))
          (λ a b d. writes_more number other (take at bytes) piece a b d c.loop-at.invariant.same)
          (g.D.Directory.state c.args.directory.now) (g.D.Directory.state c.loop-at.directory)
          (g.D.Directory.state c.append.new.self) c.loop-at.invariant.wrote c.in_ok-append.ensures.ok);
    }
