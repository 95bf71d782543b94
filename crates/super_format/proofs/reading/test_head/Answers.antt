use Rattle.std.proofs.Common.{◌≡◌, Bool, false, IsTrue, sym, ◌∙◌}
use Rattle.std.proofs.lemmas.Bool.{both_ways}
use Rattle.super_format.specs.declared.reason.SuperReason.TheVariants as reasons
use Rattle.super_format.proofs.TestLemmas.{refused_as, none_before, before_magic, before_version, before_uuid, before_limits}
use Rattle.super_format.proofs.TestLemmas.{before_ancestors}
use Rattle.super_format.proofs.reading.test_head.Goals as goal

-- what implies a test that failed does not hold
not_so : (P : Type 0) (test : Bool) → test ≡ false → (P → IsTrue test) → P → ⊥
not_so P test failed passes p = both_ways test failed (passes p)

pub returns-then-not-has_its_length-clause-refused : goal.returns-then-not-has_its_length-clause-refused
returns-then-not-has_its_length-clause-refused c =
    refused_as c.args.bytes.now c.args.uuid reasons.Length (none_before c.args.bytes.now c.args.uuid)
    (not_so _ _ c.if-not-has_its_length.true c.has_its_length.ensures.1)

pub returns-then-not-has_magic-clause-refused : goal.returns-then-not-has_magic-clause-refused
returns-then-not-has_magic-clause-refused c =
    refused_as c.args.bytes.now c.args.uuid reasons.Magic
    (before_magic c.args.bytes.now c.args.uuid (c.has_its_length.ensures.0 c.if-not-has_its_length.false))
    (not_so _ _ c.if-not-has_magic.true c.has_magic.ensures.1)

pub returns-then-not-has_version-clause-refused : goal.returns-then-not-has_version-clause-refused
returns-then-not-has_version-clause-refused c =
    refused_as c.args.bytes.now c.args.uuid reasons.Version
    (before_version c.args.bytes.now c.args.uuid (c.has_its_length.ensures.0 c.if-not-has_its_length.false)
    (c.has_magic.ensures.0 c.if-not-has_magic.false))
    (not_so _ _ c.if-not-has_version.true c.has_version.ensures.1)

pub returns-then-not-has_uuid-clause-refused : goal.returns-then-not-has_uuid-clause-refused
returns-then-not-has_uuid-clause-refused c =
    refused_as c.args.bytes.now c.args.uuid reasons.Uuid
    (before_uuid c.args.bytes.now c.args.uuid (c.has_its_length.ensures.0 c.if-not-has_its_length.false)
    (c.has_magic.ensures.0 c.if-not-has_magic.false) (c.has_version.ensures.0 c.if-not-has_version.false))
    (not_so _ _ c.if-not-has_uuid.true c.has_uuid.ensures.1)

pub returns-then-not-keeps_limits-clause-refused : goal.returns-then-not-keeps_limits-clause-refused
returns-then-not-keeps_limits-clause-refused c =
    refused_as c.args.bytes.now c.args.uuid reasons.Limits
    (before_limits c.args.bytes.now c.args.uuid (c.has_its_length.ensures.0 c.if-not-has_its_length.false)
    (c.has_magic.ensures.0 c.if-not-has_magic.false) (c.has_version.ensures.0 c.if-not-has_version.false)
    (c.has_uuid.ensures.0 c.if-not-has_uuid.false))
    (both_ways _ (sym c.keeps_limits.ensures ∙ c.if-not-keeps_limits.true))

pub returns-clause-passed : goal.returns-clause-passed
returns-clause-passed c =
    before_ancestors c.args.bytes.now c.args.uuid (c.has_its_length.ensures.0 c.if-not-has_its_length.false)
    (c.has_magic.ensures.0 c.if-not-has_magic.false) (c.has_version.ensures.0 c.if-not-has_version.false)
    (c.has_uuid.ensures.0 c.if-not-has_uuid.false) (sym c.keeps_limits.ensures ∙ c.if-not-keeps_limits.false)
