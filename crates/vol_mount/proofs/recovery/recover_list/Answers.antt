use Rattle.std.proofs.Common.{refl, sym, ◌∙◌, subst, arith}
use Rattle.std.proofs.lemmas.Result.{err_from_is_err_and}
use Rattle.lsvd_fault.specs.Faults.{Counts}
use Rattle.vol_mount.proofs.RecoveryLemmas.{no_device_fault, same_fault, why_of, no_refusal_of, told_newest, only_none}
use Rattle.vol_mount.proofs.RecoveryLemmas.{only_none_refuses, recovered_from}
use Rattle.vol_mount.proofs.recovery.recover_list.Goals as goal

pub returns-in_err-recovered : goal.returns-in_err-recovered
returns-in_err-recovered g c =
    let old = g.S.Store.state c.args.store.now in
    let new = g.S.Store.state c.recover.new.store in
    let error = c.in_err-recovered.field-0.0 in
    let failed = c.in_err-recovered.ensures in
    let p = err_from_is_err_and c.from_residual.result c.from_residual.ensures.1 in
    rw (p.1, p.2) (record {
      list = tt;
      has_names = tt;
      told = λ tells. tt;
      why = λ tells. why_of error c.args.uuid c.args.geometry c.args.chain.now old.objects (failed.refused tells);
      no_refusal = λ tells. no_refusal_of error c.args.uuid c.args.geometry c.args.chain.now old.objects (failed.refused tells);
      no_fault = no_device_fault error;
      unchanged = failed.unchanged;
      faults = subst (λ b. Counts b old.faults new.faults) (sym (same_fault error)) failed.faults;
    })

pub returns-then-checkpoint-eq0 : goal.returns-then-checkpoint-eq0
returns-then-checkpoint-eq0 g c =
    let told = (g.S.Store.state c.args.store.now).objects in
    let recovered = c.in_ok-recovered.recovered in
    let is = c.in_ok-recovered.ensures in
    let none = sym c.checkpoint.ensures ∙ c.if-checkpoint-eq0.true in
    record {
      list = tt;
      has_names = tt;
      told = λ tells. tt;
      why = λ tells.
          only_none c.args.uuid c.args.geometry c.args.chain.now told recovered.checkpoint none
          (told_newest c.args.uuid c.args.geometry c.args.chain.now told recovered.log recovered.checkpoint
          (is.found.told tells));
      no_refusal = λ tells.
          only_none_refuses c.args.uuid c.args.geometry c.args.chain.now told recovered.checkpoint c.requires.limits none
          (told_newest c.args.uuid c.args.geometry c.args.chain.now told recovered.log recovered.checkpoint
          (is.found.told tells));
      no_fault = refl;
      unchanged = is.unchanged;
      faults = is.faults;
    }

pub returns : goal.returns
returns g c =
    let told = (g.S.Store.state c.args.store.now).objects in
    let recovered = c.in_ok-recovered.recovered in
    let is = c.in_ok-recovered.ensures in
    record {
      list = record {
        list = is.found.list;
        order = is.found.order;
        places = is.found.places;
        numbered = omega (arith, c.checkpoint.ensures, c.if-checkpoint-eq0.false);
        from = is.found.from;
        table = is.found.table;
      };
      has_names = is.found.names;
      told = λ tells.
          recovered_from c.args.uuid c.args.geometry c.args.chain.now told recovered.log recovered.checkpoint
          (is.found.told tells)
          (is.found.holds tells);
      why = λ tells. tt;
      no_refusal = λ tells. tt;
      no_fault = tt;
      unchanged = is.unchanged;
      faults = is.faults;
    }
