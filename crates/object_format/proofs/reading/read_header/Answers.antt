use Rattle.std.proofs.Common.{◌≡◌, Bool, false, IsTrue, sym, ◌∙◌, arith}
use Rattle.std.proofs.lemmas.Bool.{both_ways}
use Rattle.std.proofs.lemmas.List.{length-take-le}
use Rattle.object_format.specs.declared.reason.BadObject.TheVariants as reasons
use Rattle.object_format.proofs.TestLemmas.{no_header, fails_kind, fails_uuid, fails_number, fails_seqs, fails_counts}
use Rattle.object_format.proofs.TestLemmas.{refused_as_uuid, refused_as_number, refused_as_seqs, refused_as_counts}
use Rattle.object_format.proofs.TestLemmas.{header_if_passes}
use Rattle.object_format.proofs.reading.read_header.Goals as goal

-- what implies a test that failed does not hold
not_so : (P : Type 0) (test : Bool) → test ≡ false → (P → IsTrue test) → P → ⊥
not_so P test failed passes p = both_ways test failed (passes p)

pub returns-then-not-has_its_length-clause-none : goal.returns-then-not-has_its_length-clause-none
returns-then-not-has_its_length-clause-none c =
    no_header c.args.bytes.now c.args.size c.args.expected.now reasons.Length (omega arith)
    (not_so _ _ c.if-not-has_its_length.true c.has_its_length.ensures.is.1)

pub slice_bounds-head-end : goal.slice_bounds-head-end
slice_bounds-head-end c =
    sym (length-take-le 64 c.args.bytes.now (omega (arith, c.has_its_length.ensures.room c.if-not-has_its_length.false)))

pub header_in-requires : goal.header_in-requires
header_in-requires c =
    length-take-le 64 c.args.bytes.now (omega (arith, c.has_its_length.ensures.room c.if-not-has_its_length.false))

pub returns-then-not-has_magic-clause-none : goal.returns-then-not-has_magic-clause-none
returns-then-not-has_magic-clause-none c =
    no_header c.args.bytes.now c.args.size c.args.expected.now reasons.Magic (omega arith)
    (not_so _ _ c.if-not-has_magic.true c.has_magic.ensures.1)

pub returns-in_default-clause-none : goal.returns-in_default-clause-none
returns-in_default-clause-none c =
    no_header c.args.bytes.now c.args.size c.args.expected.now reasons.Kind (omega arith)
    (fails_kind c.args.bytes.now c.args.size c.args.expected.now (sym c.header_in.ensures ∙ c.in_default.is))

pub returns-then-not-has_uuid_of-clause-none : goal.returns-then-not-has_uuid_of-clause-none
returns-then-not-has_uuid_of-clause-none c =
    no_header c.args.bytes.now c.args.size c.args.expected.now reasons.Uuid (omega arith)
    (fails_uuid c.args.bytes.now c.args.size c.args.expected.now c.in-Some.header (sym c.header_in.ensures ∙ c.in-Some.is)
    (not_so _ _ c.if-not-has_uuid_of.true c.has_uuid_of.ensures.1))

pub returns-then-not-has_uuid_of-clause-refused : goal.returns-then-not-has_uuid_of-clause-refused
returns-then-not-has_uuid_of-clause-refused c =
    refused_as_uuid c.args.bytes.now c.args.size c.args.expected.now c.in-Some.header
    (record {
      long = c.has_its_length.ensures.is.0 c.if-not-has_its_length.false;
      magic = c.has_magic.ensures.0 c.if-not-has_magic.false;
      header_is = sym c.header_in.ensures ∙ c.in-Some.is;
    })
    (not_so _ _ c.if-not-has_uuid_of.true c.has_uuid_of.ensures.1)

pub returns-then-header-expected-clause-none : goal.returns-then-header-expected-clause-none
returns-then-header-expected-clause-none c =
    no_header c.args.bytes.now c.args.size c.args.expected.now reasons.Number (omega arith)
    (fails_number c.args.bytes.now c.args.size c.args.expected.now c.in-Some.header (sym c.header_in.ensures ∙ c.in-Some.is)
    c.if-header-expected.true)

pub returns-then-header-expected-clause-refused : goal.returns-then-header-expected-clause-refused
returns-then-header-expected-clause-refused c =
    refused_as_number c.args.bytes.now c.args.size c.args.expected.now c.in-Some.header
    (record {
      long = c.has_its_length.ensures.is.0 c.if-not-has_its_length.false;
      magic = c.has_magic.ensures.0 c.if-not-has_magic.false;
      header_is = sym c.header_in.ensures ∙ c.in-Some.is;
    })
    (c.has_uuid_of.ensures.0 c.if-not-has_uuid_of.false) c.if-header-expected.true

pub returns-then-not-has_due_seqs-clause-none : goal.returns-then-not-has_due_seqs-clause-none
returns-then-not-has_due_seqs-clause-none c =
    no_header c.args.bytes.now c.args.size c.args.expected.now reasons.Seqs (omega arith)
    (fails_seqs c.args.bytes.now c.args.size c.args.expected.now c.in-Some.header (sym c.header_in.ensures ∙ c.in-Some.is)
    (both_ways _ (sym c.has_due_seqs.ensures ∙ c.if-not-has_due_seqs.true)))

pub returns-then-not-has_due_seqs-clause-refused : goal.returns-then-not-has_due_seqs-clause-refused
returns-then-not-has_due_seqs-clause-refused c =
    refused_as_seqs c.args.bytes.now c.args.size c.args.expected.now c.in-Some.header
    (record {
      long = c.has_its_length.ensures.is.0 c.if-not-has_its_length.false;
      magic = c.has_magic.ensures.0 c.if-not-has_magic.false;
      header_is = sym c.header_in.ensures ∙ c.in-Some.is;
    })
    (c.has_uuid_of.ensures.0 c.if-not-has_uuid_of.false) c.if-header-expected.false
    (both_ways _ (sym c.has_due_seqs.ensures ∙ c.if-not-has_due_seqs.true))

pub returns-then-not-allows_counts-clause-none : goal.returns-then-not-allows_counts-clause-none
returns-then-not-allows_counts-clause-none c =
    no_header c.args.bytes.now c.args.size c.args.expected.now reasons.Counts (omega arith)
    (fails_counts c.args.bytes.now c.args.size c.args.expected.now c.in-Some.header (sym c.header_in.ensures ∙ c.in-Some.is)
    (both_ways _ (sym c.allows_counts.ensures ∙ c.if-not-allows_counts.true)))

pub returns-then-not-allows_counts-clause-refused : goal.returns-then-not-allows_counts-clause-refused
returns-then-not-allows_counts-clause-refused c =
    refused_as_counts c.args.bytes.now c.args.size c.args.expected.now c.in-Some.header
    (record {
      long = c.has_its_length.ensures.is.0 c.if-not-has_its_length.false;
      magic = c.has_magic.ensures.0 c.if-not-has_magic.false;
      header_is = sym c.header_in.ensures ∙ c.in-Some.is;
    })
    (c.has_uuid_of.ensures.0 c.if-not-has_uuid_of.false) c.if-header-expected.false (sym c.has_due_seqs.ensures
    ∙ c.if-not-has_due_seqs.false) (both_ways _ (sym c.allows_counts.ensures ∙ c.if-not-allows_counts.true))

pub returns-clause-ok : goal.returns-clause-ok
returns-clause-ok c =
    header_if_passes c.args.bytes.now c.args.size c.args.expected.now c.in-Some.header
    (c.has_its_length.ensures.room c.if-not-has_its_length.false) (λ i. omega (arith, c.type_inv.bytes i))
    (record {
      long = c.has_its_length.ensures.is.0 c.if-not-has_its_length.false;
      magic = c.has_magic.ensures.0 c.if-not-has_magic.false;
      header_is = sym c.header_in.ensures ∙ c.in-Some.is;
    })
    (c.has_uuid_of.ensures.0 c.if-not-has_uuid_of.false) c.if-header-expected.false (sym c.has_due_seqs.ensures
    ∙ c.if-not-has_due_seqs.false)
    (sym c.allows_counts.ensures ∙ c.if-not-allows_counts.false)
