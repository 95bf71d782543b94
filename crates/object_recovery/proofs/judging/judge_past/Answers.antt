use Rattle.std.proofs.Common.{◌∙◌, refl, sym, subst, arith}
use Rattle.std.specs.Prelude.{IfSome}
use Rattle.std.proofs.lemmas.Bool.{both_ways}
use Rattle.lsvd_names.specs.Spelling.{IsUuid}
use Rattle.lsvd_objstore.specs.Store.{StoreState}
use Rattle.object_recovery.specs.Judged.{IsJudgedAlone}
use Rattle.object_recovery.proofs.FindLemmas.{same_store}
use Rattle.object_recovery.proofs.PastLemmas.{IsJudgedBy, told_begin, told_end, told_skip, told_judged}
use Rattle.object_recovery.proofs.judging.judge_past.Goals.{then-is_past+in_ok-refused, else-is_past}
use Rattle.object_recovery.proofs.judging.judge_past.Goals as goal

pub loop-name-init : goal.loop-name-init
loop-name-init g c = record {
  same = refl;
  stays = λ none. none;
  judged = λ tells. told_begin (g.S.Store.state c.args.store.now).objects c.args.volume.now c.args.names.now c.args.gap.now;
}

pub loop-name-preserved : goal.loop-name-preserved
loop-name-preserved g c =
    let told = (g.S.Store.state c.args.store.now).objects in
    let volume = c.args.volume.now in
    let names = c.args.names.now in
    let gap = c.args.gap.now in
    let index = c.loop-name.name-index in
    let name = c.name-item.result in
    let before = c.loop-name.invariant in
    elim c.if-is_past.branch [
      | then-is_past+in_ok-refused w ↦
          let old = g.S.Store.state c.loop-name.store in
          let now = w.in_ok-refused.ensures in
          let after = same_store old (g.S.Store.state w.judge_alone.new.store) now.unchanged now.faults in
          rw (w.store-is, w.refused-is) (record {
            same = after ∙ before.same;
            stays = λ none. before.stays (now.stays none);
            judged = λ tells.
                told_judged told volume names gap c.loop-name.refused w.in_ok-refused.refused index name c.loop-name-test.true
                (sym c.name-item.is)
                (c.is_past.ensures.0 w.if-is_past.true)
                (subst (λ (s : StoreState). IfSome s.objects (λ objects. IsJudgedAlone volume objects name.number
                c.loop-name.refused w.in_ok-refused.refused)) before.same
                (now.judged tells)) (before.judged tells);
          })
      | else-is_past w ↦
          rw (w.store-is, w.refused-is) (record {
            same = before.same;
            stays = before.stays;
            judged = λ tells.
                told_skip told volume names gap c.loop-name.refused index name c.loop-name-test.true (sym c.name-item.is)
                (λ past. both_ways _ w.if-is_past.false (c.is_past.ensures.1 past)) (before.judged tells);
          })
    ]

pub returns-clause-judged : goal.returns-clause-judged
returns-clause-judged g c = λ tells.
    let told = (g.S.Store.state c.args.store.now).objects in
    let names = c.args.names.now in
    told_end told c.args.volume.now names c.args.gap.now c.loop-name.refused
    (subst IsUuid c.from_bytes.ensures c.a_uuid_has_sixteen_bytes.ensures)
    (subst (λ n. IfSome told (IsJudgedBy c.args.volume.now names c.args.gap.now n c.loop-name.refused)) (omega arith)
    (c.loop-name.invariant.judged tells))
