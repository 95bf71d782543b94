use Rattle.std.proofs.Common.{◌≡◌, Bool, false, IsTrue, arith}
use Rattle.std.proofs.lemmas.Bool.{both_ways}
use Rattle.super_format.proofs.LongLemmas.{refused_by_length, refused_by_magic, refused_by_version, refused_by_uuid}
use Rattle.super_format.proofs.LongLemmas.{refused_by_limits}
use Rattle.super_format.proofs.super_object.Super.refusal_of_long.Goals as goal

-- what implies a test that failed does not hold
not_so : (P : Type 0) (test : Bool) → test ≡ false → (P → IsTrue test) → P → ⊥
not_so P test failed passes p = both_ways test failed (passes p)

pub returns-then-len-count : goal.returns-then-len-count
returns-then-len-count c bytes begins =
    refused_by_length c.args.front.now c.args.len c.args.uuid bytes (record { size = c.requires.front; long = c.requires.long })
    begins (λ is. absurd (omega (arith, is, c.if-len-count.true, c.from-count.ensures, c.read_u32.ensures)))

pub returns-then-not-has_magic : goal.returns-then-not-has_magic
returns-then-not-has_magic c bytes begins =
    refused_by_magic c.args.front.now c.args.len c.args.uuid bytes (record { size = c.requires.front; long = c.requires.long })
    begins (omega (arith, c.if-len-count.false, c.from-count.ensures, c.read_u32.ensures))
    (not_so _ _ c.if-not-has_magic.true c.has_magic.ensures.1)

pub returns-then-not-has_version : goal.returns-then-not-has_version
returns-then-not-has_version c bytes begins =
    refused_by_version c.args.front.now c.args.len c.args.uuid bytes (record { size = c.requires.front; long = c.requires.long })
    begins (omega (arith, c.if-len-count.false, c.from-count.ensures, c.read_u32.ensures))
    (c.has_magic.ensures.0 c.if-not-has_magic.false) (not_so _ _ c.if-not-has_version.true c.has_version.ensures.1)

pub returns-then-not-has_uuid : goal.returns-then-not-has_uuid
returns-then-not-has_uuid c bytes begins =
    refused_by_uuid c.args.front.now c.args.len c.args.uuid bytes (record { size = c.requires.front; long = c.requires.long })
    begins (omega (arith, c.if-len-count.false, c.from-count.ensures, c.read_u32.ensures))
    (c.has_magic.ensures.0 c.if-not-has_magic.false) (c.has_version.ensures.0 c.if-not-has_version.false)
    (not_so _ _ c.if-not-has_uuid.true c.has_uuid.ensures.1)

pub returns : goal.returns
returns c bytes begins =
    refused_by_limits c.args.front.now c.args.len c.args.uuid bytes (record { size = c.requires.front; long = c.requires.long })
    begins (omega (arith, c.if-len-count.false, c.from-count.ensures, c.read_u32.ensures))
    (c.has_magic.ensures.0 c.if-not-has_magic.false) (c.has_version.ensures.0 c.if-not-has_version.false)
    (c.has_uuid.ensures.0 c.if-not-has_uuid.false)
