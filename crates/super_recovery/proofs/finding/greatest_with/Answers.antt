use Rattle.std.proofs.Common.{◌≡◌, ◌<◌, sym, subst, rules}
use Rattle.std.specs.Prelude.{IfSome}
use Rattle.lsvd_names.specs.declared.name.NameKind.TheVariants as kinds
use Rattle.super_recovery.specs.Found.{IsGreatestIn}
use Rattle.super_recovery.proofs.FindLemmas.{with_other, with_lower, with_greater}
use Rattle.super_recovery.proofs.finding.greatest_with.Goals as goal
use Rattle.super_recovery.proofs.finding.greatest_with.Goals.{in_default-via-in-Some+else-name-number, in_default-via-in_default}

pub returns-then-ne : goal.returns-then-ne
returns-then-ne c = λ names is. with_other names c.args.name.now c.args.greatest (search rules) is

pub returns-in-Some : goal.returns-in-Some
returns-in-Some c = λ names is. with_lower names c.args.name.now c.in-Some.number c.if-name-number.true
    (subst (IsGreatestIn names) c.in-Some.is is)

pub returns-in_default : goal.returns-in_default
returns-in_default c =
    let kind : c.args.name.now.kind ≡ kinds.Epoch = search rules in
    let greater : IfSome c.args.greatest (λ number. number < c.args.name.now.number) =
    elim c.in_default.branch [
      | in_default-via-in-Some+else-name-number w ↦
          subst (λ greatest. IfSome greatest (λ number. number < c.args.name.now.number)) (sym w.in-Some.is)
          w.if-name-number.false
      | in_default-via-in_default w ↦ search rules
    ] in
    λ names is. with_greater names c.args.name.now c.args.greatest kind greater is
