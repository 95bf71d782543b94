use Rattle.std.proofs.Common.{◌∙◌, None, subst}
use Rattle.std.specs.Prelude.{IfSome}
use Rattle.lsvd_fault.specs.Faults.{Counts}
use Rattle.lsvd_objstore.specs.Store.{StoreState, OnlyCounts}
use Rattle.object_recovery.specs.Adoption.{JudgesRest, RefusesRest}
use Rattle.object_recovery.specs.Faults.{is_store_fault}
use Rattle.object_recovery.proofs.FindLemmas.{same_store}
use Rattle.object_recovery.proofs.OutcomeLemmas.{told_goes_on, told_stops, told_unread}
use Rattle.object_recovery.proofs.recovery.go_on.Goals as goal

-- ---- the objects were not adopted

pub returns-in-Err : goal.returns-in-Err
returns-in-Err g c = record {
  list = tt;
  from = tt;
  order = tt;
  places = tt;
  table = tt;
  goes_on = λ tells. tt;
  refused = λ tells.
      told_unread (g.S.Store.state c.args.store.now).objects c.args.names.now c.args.log c.in-Err.error c.in-Err.ensures.answer;
  unchanged = c.in-Err.ensures.unchanged;
  faults = c.in-Err.ensures.faults;
}

-- ---- they were

pub returns-in-Err-judge_rest : goal.returns-in-Err-judge_rest
returns-in-Err-judge_rest g c =
    let old = g.S.Store.state c.args.store.now in
    let middle = g.S.Store.state c.adopt_all.new.store in
    let new = g.S.Store.state c.judge_rest.new.store in
    let names = c.args.names.now in
    let log = c.adopt_all.new.log in
    let done = c.in-Ok.ensures in
    let same = same_store old middle done.unchanged done.faults in
    let error = c.in-Err-judge_rest.error in
    let judged = c.in-Err-judge_rest.ensures in
    let left = c.in-Ok.left in
    record {
      list = tt;
      from = tt;
      order = tt;
      places = tt;
      table = tt;
      goes_on = λ tells. tt;
      refused = λ tells.
          told_stops old.objects names c.args.log log left error done.list (done.streams tells) (done.good tells)
          (done.knows tells) (done.ended tells)
          (subst (λ (s : StoreState). IfSome s.objects (λ objects. RefusesRest objects log names left error)) same
          (judged.refused tells));
      unchanged = subst (λ (s : StoreState). OnlyCounts s new) same judged.unchanged;
      faults = subst (λ n. Counts (is_store_fault error) n new.faults) done.faults judged.faults;
    }

pub returns-in-Ok-judge_rest : goal.returns-in-Ok-judge_rest
returns-in-Ok-judge_rest g c =
    let old = g.S.Store.state c.args.store.now in
    let middle = g.S.Store.state c.adopt_all.new.store in
    let new = g.S.Store.state c.judge_rest.new.store in
    let names = c.args.names.now in
    let log = c.adopt_all.new.log in
    let done = c.in-Ok.ensures in
    let same = same_store old middle done.unchanged done.faults in
    let judged = c.in-Ok-judge_rest.ensures in
    let left = c.in-Ok.left in
    record {
      list = done.list;
      from = done.from;
      order = done.order;
      places = done.places;
      table = done.table;
      goes_on = λ tells.
          told_goes_on old.objects names c.args.log log left done.list (done.streams tells) (done.good tells) (done.knows tells)
          (done.ended tells)
          (subst (λ (s : StoreState). IfSome s.objects (λ objects. JudgesRest objects log names left None)) same
          (judged.judged tells));
      refused = λ tells. tt;
      unchanged = subst (λ (s : StoreState). OnlyCounts s new) same judged.unchanged;
      faults = judged.faults ∙ done.faults;
    }
