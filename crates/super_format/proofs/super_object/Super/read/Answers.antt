use Rattle.std.proofs.Common.{length, sym, ◌∙◌, ap, subst, arith}
use Rattle.std.proofs.lemmas.List.{take_rest, length-drop}
use Rattle.clone_chain.specs.Chain.{IsChain}
use Rattle.super_format.specs.declared.reason.SuperReason.TheVariants as reasons
use Rattle.super_format.specs.Tests.{IsSuperReason}
use Rattle.super_format.proofs.TestLemmas.{HasRead, refused_as_no_chain, refused_as_own, super_is_read}
use Rattle.super_format.proofs.super_object.Super.read.Goals.{In_ok-ancestors, In-Some}
use Rattle.super_format.proofs.super_object.Super.read.Goals as goal

pub read_u32-requires : goal.read_u32-requires
read_u32-requires c = let size = c.in_ok-test_head.ensures.passed reasons.Length (omega arith) in omega (arith, size)

pub read_ancestors-requires : goal.read_ancestors-requires
read_ancestors-requires c =
    let size = c.in_ok-test_head.ensures.passed reasons.Length (omega arith) in
    omega (arith, size, c.read_u32.ensures, ap length (take_rest c.args.bytes.now 48), length-drop 48 c.args.bytes.now)

-- what is known once the ancestors are read
has_read : (c : In_ok-ancestors) → HasRead c.args.bytes.now c.args.uuid c.read_u32.result c.in_ok-ancestors.ancestors.items
has_read c = record {
  passes = c.in_ok-test_head.ensures.passed;
  count_is = c.read_u32.ensures;
  chain_is_in = c.in_ok-ancestors.ensures;
}

pub returns-in_default-clause-refused : goal.returns-in_default-clause-refused
returns-in_default-clause-refused c =
    let has = has_read (goal.at.returns-in_default-clause-refused c).In_ok-ancestors in
    subst (IsSuperReason c.args.bytes.now c.args.uuid) (sym c.into.ensures)
    (refused_as_no_chain c.args.bytes.now c.args.uuid c.read_u32.result c.in_ok-ancestors.ancestors.items has
    c.in_default.ensures.none)

-- and once they are a chain
has_chain : (c : In-Some) → HasRead c.args.bytes.now c.args.uuid c.read_u32.result c.in-Some.chain
has_chain c = record {
  passes = c.in_ok-test_head.ensures.passed;
  count_is = c.read_u32.ensures;
  chain_is_in = c.in-Some.ensures.found ∙ c.in_ok-ancestors.ensures;
}

pub returns-then-is_some-clause-refused : goal.returns-then-is_some-clause-refused
returns-then-is_some-clause-refused c =
    let has = has_chain (goal.at.returns-then-is_some-clause-refused c).In-Some in
    subst (IsSuperReason c.args.bytes.now c.args.uuid) (sym c.into-then-is_some.ensures)
    (refused_as_own c.args.bytes.now c.args.uuid c.read_u32.result c.in-Some.chain c.level_of.result has c.level_of.ensures.found
    (sym c.is_some.ensures ∙ c.if-is_some.true))

pub sizes_in-sizes-requires : goal.sizes_in-sizes-requires
sizes_in-sizes-requires c = let size = c.in_ok-test_head.ensures.passed reasons.Length (omega arith) in omega (arith, size)

pub returns-clause-ok : goal.returns-clause-ok
returns-clause-ok c =
    let has = has_chain (goal.at.returns-clause-ok c).In-Some in
    super_is_read c.args.bytes.now c.args.uuid c.read_u32.result c.in-Some.chain c.level_of.result c.sizes_in-sizes.result
    (λ i. omega (arith, c.type_inv.bytes i)) has (subst IsChain (sym c.in-Some.ensures.found) c.in-Some.ensures.chain)
    c.level_of.ensures.none (sym c.is_some.ensures ∙ c.if-is_some.false) c.sizes_in-sizes.ensures
