use Rattle.std.proofs.Common.{◌≡◌, Bool, false, IsTrue, sym, ◌∙◌, arith, rules}
use Rattle.std.proofs.lemmas.Bool.{both_ways}
use Rattle.log_record.specs.declared.reason.Reason.TheVariants as reasons
use Rattle.log_record.proofs.TestLemmas.{no_header, not_at_place, header_if_passes, refused_as_zeros, refused_as_place}
use Rattle.log_record.proofs.decoding.decode.Goals as goal

-- what implies a test that failed does not hold
not_so : (P : Type 0) (test : Bool) → test ≡ false → (P → IsTrue test) → P → ⊥
not_so P test failed passes p = both_ways test failed (passes p)

pub returns-then-not-has_magic-clause-none : goal.returns-then-not-has_magic-clause-none
returns-then-not-has_magic-clause-none c =
    rw c.refused.ensures
    (no_header _ _ _ _ reasons.Magic (search rules) c.requires.limits (not_so _ _ c.if-not-has_magic.true c.has_magic.ensures.1))

pub returns-then-not-has_kind-clause-none : goal.returns-then-not-has_kind-clause-none
returns-then-not-has_kind-clause-none c =
    rw c.refused-then-not-has_kind.ensures
    (no_header _ _ _ _ reasons.Kind (search rules) c.requires.limits (not_so _ _ c.if-not-has_kind.true c.has_kind.ensures.1))

pub returns-then-read_u64-seq-clause-none : goal.returns-then-read_u64-seq-clause-none
returns-then-read_u64-seq-clause-none c =
    rw c.refused-then-read_u64-seq.ensures
    (no_header _ _ _ _ reasons.Seq (search rules) c.requires.limits (λ e. c.if-read_u64-seq.true (c.read_u64.ensures ∙ e)))

pub returns-in_default-clause-none : goal.returns-in_default-clause-none
returns-in_default-clause-none c =
    rw c.refused-in_default.ensures
    (no_header _ _ _ _ reasons.Range (search rules) c.requires.limits
    (λ found. c.in_default.ensures.none found.0 found.1 found.2))

pub returns-then-not-has_filler-clause-none : goal.returns-then-not-has_filler-clause-none
returns-then-not-has_filler-clause-none c =
    rw c.refused-then-not-has_filler.ensures
    (no_header _ _ _ _ reasons.Zeros (search rules) c.requires.limits
    (not_so _ _ c.if-not-has_filler.true c.has_filler.ensures.1))

pub returns-then-not-fits-clause-none : goal.returns-then-not-fits-clause-none
returns-then-not-fits-clause-none c =
    rw c.refused-then-not-fits.ensures
    (no_header _ c.args.seq c.args.geometry.now _ reasons.Place (search rules) c.requires.limits
    (not_at_place c.args.sector.now c.args.seq c.args.geometry.now c.args.place.now c.in-Some.head c.in-Some.ensures.numbers
    (sym c.fits.ensures ∙ c.if-not-fits.true)))

pub returns-then-not-has_filler-clause-refused : goal.returns-then-not-has_filler-clause-refused
returns-then-not-has_filler-clause-refused c =
    rw c.refused-then-not-has_filler.ensures
    (refused_as_zeros _ _ _ _ c.in-Some.head
    (record {
      magic = c.has_magic.ensures.0 c.if-not-has_magic.false;
      kind = c.has_kind.ensures.0 c.if-not-has_kind.false;
      seq_is = sym c.read_u64.ensures ∙ c.if-read_u64-seq.false;
      numbers = c.in-Some.ensures.numbers;
      in_range = c.in-Some.ensures.in_range;
    })
    (not_so _ _ c.if-not-has_filler.true c.has_filler.ensures.1))

pub returns-then-not-fits-clause-refused : goal.returns-then-not-fits-clause-refused
returns-then-not-fits-clause-refused c =
    rw c.refused-then-not-fits.ensures
    (refused_as_place _ _ _ _ c.in-Some.head
    (record {
      magic = c.has_magic.ensures.0 c.if-not-has_magic.false;
      kind = c.has_kind.ensures.0 c.if-not-has_kind.false;
      seq_is = sym c.read_u64.ensures ∙ c.if-read_u64-seq.false;
      numbers = c.in-Some.ensures.numbers;
      in_range = c.in-Some.ensures.in_range;
    })
    (c.has_filler.ensures.0 c.if-not-has_filler.false)
    (sym c.fits.ensures ∙ c.if-not-fits.true))

pub returns-clause-ok : goal.returns-clause-ok
returns-clause-ok c =
    header_if_passes _ _ _ _ _ c.requires.sector (λ i. omega (arith, c.type_inv.sector i))
    (record {
      magic = c.has_magic.ensures.0 c.if-not-has_magic.false;
      kind = c.has_kind.ensures.0 c.if-not-has_kind.false;
      seq_is = sym c.read_u64.ensures ∙ c.if-read_u64-seq.false;
      numbers = c.in-Some.ensures.numbers;
      in_range = c.in-Some.ensures.in_range;
    })
    (c.has_filler.ensures.0 c.if-not-has_filler.false)
    (sym c.fits.ensures ∙ c.if-not-fits.false)
