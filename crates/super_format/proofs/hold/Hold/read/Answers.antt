use Rattle.std.proofs.Common.{codes, refl, subst}
use Rattle.std.proofs.lemmas.Bool.{both_ways}
use Rattle.super_format.specs.Numbered.{IsNumbered}
use Rattle.super_format.proofs.hold.Hold.read.Goals as goal

pub returns-then-not-is_numbered-clause-none : goal.returns-then-not-is_numbered-clause-none
returns-then-not-is_numbered-clause-none c hold is =
    let magic = codes "LSVDHLD1" in
    both_ways _ c.if-not-is_numbered.true (c.is_numbered.ensures.1
    (subst (λ u. IsNumbered c.args.bytes.now magic u c.args.checkpoint) is.uuid_is
    (subst (λ n. IsNumbered c.args.bytes.now magic hold.uuid n) is.checkpoint_is is.numbered)))

pub returns-clause-ok : goal.returns-clause-ok
returns-clause-ok c = record {
  numbered = c.is_numbered.ensures.0 c.if-not-is_numbered.false;
  uuid_is = refl;
  checkpoint_is = refl;
}
