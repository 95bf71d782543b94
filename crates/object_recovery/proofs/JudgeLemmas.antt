-- Objects that are judged one after the other.
use Rattle.std.proofs.Common.{◌≡◌, ℕ, ◌+◌, ◌-◌, ◌^◌, ◌<◌, ◌≤◌, inl, inr, Option, Some, None, List, length, sym, ap}
use Rattle.std.proofs.Common.{subst, arith}
use Rattle.std.specs.Prelude.{◌⊎◌, IfSome, IsTrue, is_some}
use Rattle.std.proofs.lemmas.Bool.{cases_lt}
use Rattle.std.specs.Option.{IsSome}
use Rattle.lsvd_objstore.specs.Objects.{Objects, found}
use Rattle.lsvd_objstore.specs.Store.{ReceiptState, Finds}
use Rattle.object_format.specs.declared.expected.Expected.{Expected}
use Rattle.object_format.specs.declared.reason.BadObject.{BadObject}
use Rattle.object_format.specs.Object.{IsObject}
use Rattle.object_format.specs.Tests.{IsObjectRefusedAs}
use Rattle.object_stream.specs.Replay.{object_name}
use Rattle.stopped_volume.specs.Objects.{landed_in, IsWhole}
use Rattle.object_recovery.specs.declared.judging.Reached.{Reached}
use Rattle.object_recovery.specs.declared.judging.ObjectRefusal.{ObjectRefusal}
use Rattle.object_recovery.specs.Judging.{IsEndOf, HasEnd, IsEndBefore, expected_after, IsGoodObject, IsBadObject, AreGood}
use Rattle.object_recovery.specs.Judging.{HaveLanded}
use Rattle.object_recovery.specs.declared.judging.Judged.{Judged}
use Rattle.object_recovery.specs.declared.reading.ReadObject.{ReadObject}
use Rattle.object_recovery.specs.declared.reading.ReadObject.TheVariants as read
use Rattle.object_recovery.specs.Read.{IsReadOf}
use Rattle.object_recovery.specs.Judged.{judged_by, IsBadFor, IsJudged, IsJudgedNext, IsGap, GoesToGap}
use Rattle.object_recovery.specs.Judged.{refused_with, StaysRefused}
use Rattle.object_recovery.specs.Judged.{IsVerdict, IsReached}
use Rattle.object_recovery.specs.Adoption.{IsWhyLeft, IsNotAdopted}
use Rattle.object_recovery.proofs.EndLemmas.{before_next, end_of_object, end_past, none_past}
use Rattle.object_recovery.proofs.FindLemmas.{of_told}

-- ---- an object that was read

pub told_judged : (told : Option Objects) (expected : Expected) (receipt : ReceiptState) (object : ReadObject) (judged : Judged)
    → judged ≡ judged_by object
    → Finds (object_name expected expected.number) told (Some receipt) → IsSome receipt.told → IsReadOf receipt expected object
    → IfSome told (λ objects. IsJudged objects expected judged)
told_judged None expected receipt object judged is finds some held = tt
told_judged (Some objects) expected receipt (read.Whole rows end) judged is finds some held =
    let name = object_name expected expected.number in
    let bytes = finds.0 in
    let is_object =
    of_told (λ bytes size. IsObject bytes size expected held.0 rows) name bytes receipt finds.2 some held.1.told in
    subst (IsJudged objects expected) (sym is) (record {
      bytes = bytes;
      present = finds.1;
      is_end =
          subst (λ e. IsEndOf bytes (length bytes) expected (Some e)) held.2
          (end_of_object bytes (length bytes) expected held.0 rows is_object);
      is_bad = (held.0, rows, is_object);
    })
told_judged (Some objects) expected receipt (read.Bad reason end) judged is finds some held =
    let name = object_name expected expected.number in
    let bytes = finds.0 in
    subst (IsJudged objects expected) (sym is) (record {
      bytes = bytes;
      present = finds.1;
      is_end = of_told (λ bytes size. IsEndOf bytes size expected end) name bytes receipt finds.2 some held.1;
      is_bad = of_told (λ bytes size. IsObjectRefusedAs bytes size expected reason) name bytes receipt finds.2 some held.0;
    })

module _ (volume : Expected) (objects : Objects) where
  -- ---- verdicts

  module _ (last : ℕ) (Such More : ℕ → Type 0) where
    good_wider : ((number : ℕ) (bytes : List ℕ) → More number → number < 2 ^ 64 → found objects (object_name volume number)
        ≡ Some bytes
        → Such number ⊎ IsGoodObject volume objects last number)
        → AreGood volume objects last Such → AreGood volume objects last More
    good_wider cover good number bytes more fits there =
        elim (cover number bytes more fits there) [ inl such ↦ good number bytes such fits there | inr is ↦ is ]

    -- where the further objects are good, a verdict stands
    pub verdict_wider : (refused : Option ObjectRefusal) → ((number : ℕ) → Such number → More number)
        → ((number : ℕ) (bytes : List ℕ) → More number → number < 2 ^ 64 → found objects (object_name volume number) ≡ Some bytes
        → Such number ⊎ IsGoodObject volume objects last number)
        → IsVerdict volume objects last Such refused → IsVerdict volume objects last More refused
    verdict_wider None kept cover is = good_wider cover is
    verdict_wider (Some refusal) kept cover is = (
      kept refusal.number is.0,
      is.1,
      λ number bytes more fits there.
          elim (cover number bytes more.0 fits there) [
            | inl such ↦ is.2 number bytes (such, more.1) fits there
            | inr good ↦ good
          ],
    )

  -- a bad object that is past all is the greatest
  verdict_bad : (last : ℕ) (More : ℕ → Type 0) (at : ℕ) (reason : BadObject) → IsBadObject volume objects last at reason → More at
      → ((number : ℕ) → More number → number ≤ at) → IsVerdict volume objects last More
      (Some (record { number = at; reason = reason }))
  verdict_bad last More at reason bad more most =
      (more, bad, λ number bytes such fits there. let to = most number such.0 in absurd (omega (arith, to, such.1)))

  module _ (last : ℕ) (Such More : ℕ → Type 0) (at : ℕ) (bytes : List ℕ) (end : Option ℕ) (named : at < 2 ^ 64)
      (there : found objects (object_name volume at) ≡ Some bytes) (is_before : IsEndBefore volume objects last at end)
      (more : More at)
      (kept : (number : ℕ) → Such number → More number) (cover : (number : ℕ) → More number → Such number ⊎ (number ≡ at))
      (most : (number : ℕ) → More number → number ≤ at) where
    -- one more is judged
    pub verdict_more : (bad : Option BadObject) (refused : Option ObjectRefusal)
        → IsBadFor (expected_after volume at end) bytes bad
        → IsVerdict volume objects last Such refused → IsVerdict volume objects last More (refused_with at bad refused)
    verdict_more None refused whole is =
        let good : IsGoodObject volume objects last at =
        record { named = named; bytes = bytes; present = there; end_before = end; is_before = is_before; holds = whole } in
        verdict_wider last Such More refused kept (λ number others in_more fits present.
        elim (cover number in_more) [
          | inl such ↦ inl such
          | inr same ↦ inr (subst (IsGoodObject volume objects last) (sym same) good)
        ]) is
    verdict_more (Some reason) refused bad is =
        verdict_bad last More at reason
        (record { named = named; bytes = bytes; present = there; end_before = end; is_before = is_before; holds = bad }) more most

  -- ---- the objects up to one

  abbrev UpTo : (base to : ℕ) → ℕ → Type 0
  UpTo base to number = (base < number) × (number ≤ to)

  module _ (base : ℕ) (reached : Reached) (is : IsReached volume objects base reached) (bytes : List ℕ)
      (named : reached.number + 1 < 2 ^ 64)
      (there : found objects (object_name volume (reached.number + 1)) ≡ Some bytes) where
    abbrev at : ℕ
    at = reached.number + 1

    landed : HaveLanded objects volume base at
    landed number past to =
        elim (cases_lt reached.number number) [
          | inl last ↦
              let same : at ≡ number = omega (arith, to, last) in
              subst (λ n. IsTrue (landed_in objects volume n)) same (ap is_some there)
          | inr low ↦ is.landed number past low
        ]

    kept : (number : ℕ) → UpTo base reached.number number → UpTo base at number
    kept number such = (such.0, omega (arith, such.1))

    cover : (number : ℕ) → UpTo base at number → UpTo base reached.number number ⊎ (number ≡ at)
    cover number more =
        elim (cases_lt reached.number number) [
          | inl last ↦ inr (omega (arith, more.1, last))
          | inr low ↦ inl (more.0, low)
        ]

    here : UpTo base at at
    here = (omega (arith, is.from), omega arith)

    has_end : (end : Option ℕ) → IsEndOf bytes (length bytes) (expected_after volume at reached.end) end
        → HasEnd volume objects at end
    has_end end is_end =
        end_past volume objects base at bytes reached.end end is.newest (omega (arith, is.from)) there is_end

    before_at : (last : ℕ) → at ≤ last → IsEndBefore volume objects last at reached.end
    before_at last to = before_next volume objects reached.number last reached.end to is.has_end

    -- with the next object
    pub reached_next : (end : Option ℕ) (bad : Option BadObject)
        → IsEndOf bytes (length bytes) (expected_after volume at reached.end) end
        → IsBadFor (expected_after volume at reached.end) bytes bad
        → IsReached volume objects base (record { number = at; end = end; refused = refused_with at bad reached.refused })
    reached_next end bad is_end is_bad = record {
      newest = is.newest;
      from = omega (arith, is.from);
      landed = landed;
      has_end = has_end end is_end;
      verdict = λ last to.
          verdict_more last (UpTo base reached.number) (UpTo base at) at bytes reached.end named there (before_at last to)
          here kept cover
          (λ number more. more.1) bad reached.refused is_bad (is.verdict last (omega (arith, to)));
    }

    -- one that is left, where no object up to there is refused
    module _ (left : Reached) (none : reached.refused ≡ None)
        (is_left : IsNotAdopted bytes (length bytes) (expected_after volume at reached.end) left) where
      all_good : (last : ℕ) → at ≤ last → AreGood volume objects last (UpTo base reached.number)
      all_good last to = subst (IsVerdict volume objects last (UpTo base reached.number)) none
          (is.verdict last (omega (arith, to)))

      good_more : (last : ℕ) → at ≤ last → IsWhole (expected_after volume at reached.end) bytes
          → IsVerdict volume objects last (UpTo base at) None
      good_more last to whole =
          verdict_more last (UpTo base reached.number) (UpTo base at) at bytes reached.end named there (before_at last to)
          here kept cover
          (λ number more. more.1) None None whole (all_good last to)

      of_left : (last : ℕ) → at ≤ last → (refused : Option ObjectRefusal)
          → IsWhyLeft bytes (length bytes) (expected_after volume at reached.end) refused
          → IsVerdict volume objects last (UpTo base at) refused
      of_left last to None why = good_more last to (why.1, why.2, why.3)
      of_left last to (Some refusal) why =
          subst (λ n. IsVerdict volume objects last (UpTo base at) (Some (record { number = n; reason = refusal.reason })))
          (sym why.0)
          (elim why.1 [
            | inl bad ↦
                verdict_more last (UpTo base reached.number) (UpTo base at) at bytes reached.end named there
                (before_at last to) here kept cover
                (λ other more. more.1) (Some refusal.reason) None bad (all_good last to)
            | inr checkpoint ↦
                absurd (none_past volume objects base at bytes reached.end checkpoint.0 is.newest (omega (arith, is.from)) there
                checkpoint.1)
          ])

      pub reached_left : IsReached volume objects base left
      reached_left =
          let same : at ≡ left.number = sym is_left.number in
          record {
            newest = is.newest;
            from = omega (arith, is.from, same);
            landed = subst (HaveLanded objects volume base) same landed;
            has_end = subst (λ n. HasEnd volume objects n left.end) same (has_end left.end is_left.is_end);
            verdict = λ last to.
                subst (λ n. IsVerdict volume objects last (UpTo base n) left.refused) same
                (of_left last (omega (arith, to, same)) left.refused is_left.why);
          }

-- ---- where the store tells its objects

pub told_next : (told : Option Objects) (volume : Expected) (reached : Reached) (judged : Judged) (refused : Option ObjectRefusal)
    → reached.number + 1 < 2 ^ 64 → refused ≡ refused_with (reached.number + 1) judged.bad reached.refused
    → IfSome told (λ objects. IsJudged objects (expected_after volume (reached.number + 1) reached.end) judged)
    → IfSome told (λ objects. IsJudgedNext volume objects reached
    (Some (record { number = reached.number + 1; end = judged.end; refused = refused })))
told_next None volume reached judged refused named with is = tt
told_next (Some objects) volume reached judged refused named with is = λ base before.
    let Next : Option ObjectRefusal → Reached = λ r. record { number = reached.number + 1; end = judged.end; refused = r } in
    subst (λ r. IsReached volume objects base (Next r)) (sym with)
    (reached_next volume objects base reached before is.bytes named is.present judged.end judged.bad is.is_end is.is_bad)

-- one after the other
pub told_both : (told : Option Objects) (volume : Expected) (from reached next : Reached)
    → IfSome told (λ objects. (base : ℕ) → IsReached volume objects base from → IsReached volume objects base reached)
    → IfSome told (λ objects. IsJudgedNext volume objects reached (Some next))
    → IfSome told (λ objects. (base : ℕ) → IsReached volume objects base from → IsReached volume objects base next)
told_both None volume from reached next first second = tt
told_both (Some objects) volume from reached next first second = λ base is. second base (first base is)

pub told_from : (told : Option Objects) (volume : Expected) (from : Reached)
    → IfSome told (λ objects. (base : ℕ) → IsReached volume objects base from → IsReached volume objects base from)
told_from None volume from = tt
told_from (Some objects) volume from = λ base is. is

-- the gap is reached where there is no next object, and where there is no further number
pub told_gap : (told : Option Objects) (volume : Expected) (from gap : Reached) → StaysRefused from.refused gap.refused
    → IfSome told (λ objects. (base : ℕ) → IsReached volume objects base from → IsReached volume objects base gap)
    → IfSome told (λ objects. IsGap volume objects gap) → IfSome told (λ objects. GoesToGap volume objects from gap)
told_gap None volume from gap stays reached missing = tt
told_gap (Some objects) volume from gap stays reached missing = record { reached = reached; missing = missing; stays = stays }

pub told_absent : (told : Option Objects) (volume : Expected) (gap : Reached)
    → IfSome told (λ objects. IsJudgedNext volume objects gap None) → IfSome told (λ objects. IsGap volume objects gap)
told_absent None volume gap absent = tt
told_absent (Some objects) volume gap absent = λ _. absent

pub told_last : (told : Option Objects) (volume : Expected) (gap : Reached) → 2 ^ 64 - 1 ≤ gap.number
    → IfSome told (λ objects. IsGap volume objects gap)
told_last None volume gap most = tt
told_last (Some objects) volume gap most = λ named. absurd (omega (arith, named, most))
