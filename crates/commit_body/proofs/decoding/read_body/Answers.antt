use Rattle.std.proofs.Common.{◌≡◌, ◌%◌, Bool, false, IsTrue, sym, ◌∙◌, ap, subst, arith}
use Rattle.std.proofs.lemmas.Bool.{both_ways}
use Rattle.commit_body.specs.declared.body.CommitBody.{CommitBody}
use Rattle.commit_body.specs.Body.{MayStand}
use Rattle.commit_body.proofs.BodyLemmas.{no_magic, no_filler, no_slot, no_place, body_if_passes}
use Rattle.commit_body.proofs.decoding.read_body.Goals as goal
use Rattle.commit_body.proofs.decoding.read_body.Goals.{then-not-has_magic-via-then-not-has_magic}
use Rattle.commit_body.proofs.decoding.read_body.Goals.{then-not-has_magic-via-else-not-has_magic+then-not-has_filler}
use Rattle.commit_body.proofs.decoding.read_body.Goals.{then-number-slot-via-then-number-slot}
use Rattle.commit_body.proofs.decoding.read_body.Goals.{then-number-slot-via-else-number-slot+then-not-is_within}

-- what implies a test that failed does not hold
not_so : (P : Type 0) (test : Bool) → test ≡ false → (P → IsTrue test) → P → ⊥
not_so P test failed passes p = both_ways test failed (passes p)

pub returns-then-not-has_magic-clause-none : goal.returns-then-not-has_magic-clause-none
returns-then-not-has_magic-clause-none c =
    elim c.then-not-has_magic.branch [
      | then-not-has_magic-via-then-not-has_magic w ↦
          no_magic _ _ _ (not_so _ _ w.if-not-has_magic.true c.has_magic.ensures.1)
      | then-not-has_magic-via-else-not-has_magic+then-not-has_filler w ↦
          no_filler _ _ _ c.requires (not_so _ _ w.if-not-has_filler.true w.has_filler.ensures.1)
    ]

pub returns-then-number-slot-clause-none : goal.returns-then-number-slot-clause-none
returns-then-number-slot-clause-none c =
    elim c.then-number-slot.branch [
      | then-number-slot-via-then-number-slot w ↦
          no_slot _ _ _ c.requires (λ i. omega (arith, c.type_inv.sector i))
          (λ e. w.if-number-slot.true (ap (λ n. n % 3) c.read_u64-number.ensures ∙ e))
      | then-number-slot-via-else-number-slot+then-not-is_within w ↦
          no_place _ _ _ c.requires (λ i. omega (arith, c.type_inv.sector i))
          (let P : CommitBody → Type 0 = λ b. MayStand b c.args.log in
          λ may. not_so _ _ w.if-not-is_within.true w.is_within.ensures.1 (subst P (sym c.body_in-body.ensures) may))
    ]

pub returns-clause-found : goal.returns-clause-found
returns-clause-found c =
    rw (c.body_in-body.ensures, c.read_u64-number.ensures)
    (body_if_passes _ _ _ c.requires (λ i. omega (arith, c.type_inv.sector i))
    (c.has_magic.ensures.0 c.if-not-has_magic.false)
    (c.has_filler.ensures.0 c.if-not-has_filler.false)
    (ap (λ n. n % 3) (sym c.read_u64-number.ensures) ∙ c.if-number-slot.false)
    (let P : CommitBody → Type 0 = λ b. MayStand b c.args.log in
    subst P c.body_in-body.ensures (c.is_within.ensures.0 c.if-not-is_within.false)))
