-- Why the objects of a volume are refused.
use Rattle.std.proofs.Common.{◌≡◌, ℕ, ◌<◌, inl, inr, Some, None, List, length, take, get_or, sym, ◌∙◌, ap, subst, arith}
use Rattle.std.specs.List.{Contains}
use Rattle.std.proofs.lemmas.Bool.{cases_order}
use Rattle.std.proofs.lemmas.List.{length-take-le, get_or-take, get_or_default}
use Rattle.std.proofs.lemmas.List.Elements.{All-contains, Contains-get_or}
use Rattle.std.proofs.lemmas.List.Kept.{AllPairs-from_increasing}
use Rattle.lsvd_names.specs.Spelling.{IsUuid}
use Rattle.lsvd_names.specs.declared.name.ObjName.{ObjName}
use Rattle.lsvd_objstore.specs.Objects.{Objects, Lists}
use Rattle.object_format.specs.declared.expected.Expected.{Expected}
use Rattle.super_recovery.specs.Holds.{AreHoldsAmong}
use Rattle.object_recovery.specs.declared.error.RecoverError.{RecoverError}
use Rattle.object_recovery.specs.declared.error.RecoverError.TheVariants as errors
use Rattle.object_recovery.specs.declared.judging.ObjectRefusal.{ObjectRefusal}
use Rattle.object_recovery.specs.declared.judging.Reached.{Reached}
use Rattle.object_recovery.specs.Checkpoints.{IsNewestWithEnd}
use Rattle.object_recovery.specs.Faults.{IsNoAnswer}
use Rattle.object_recovery.specs.Judged.{GoesToGap, JudgesPast}
use Rattle.object_recovery.specs.Recovery.{IsBadThere}
use Rattle.object_recovery.proofs.OutcomeLemmas.{at_base}
use Rattle.vol_check.specs.Report.{IsBadHeld, IsWhyNotChecked}
use Rattle.vol_check.specs.Steps.{IsWholeIfThere, JudgesTo, RefusesPast, RefusesFirst, RefusesNamed}
use Rattle.vol_check.proofs.ReportLemmas.{run_to, held_of, of_held}

-- a store that fails and memory that runs out refuse nothing
pub no_answer_why : (volume : Expected) (objects : Objects) (error : RecoverError) → IsNoAnswer error
    → IsWhyNotChecked volume objects error
no_answer_why volume objects errors.NoCheckpoint none = absurd none
no_answer_why volume objects (errors.BadObject number reason) none = absurd none
no_answer_why volume objects (errors.MissingObject number) none = none
no_answer_why volume objects (errors.BaseMissing uuid) none = none
no_answer_why volume objects errors.StoreFault none = tt
no_answer_why volume objects errors.OutOfMemory none = tt

module _ (volume : Expected) (objects : Objects) (names : List ObjName) (listed : Lists volume.uuid objects names)
    (base base_end : ℕ) (newest : IsNewestWithEnd volume objects base base_end) where
  abbrev from : Reached
  from = record { number = base; end = Some base_end; refused = None }

  -- an object past the newest checkpoint is bad
  bad_past : (gap : Reached) (refusal : ObjectRefusal) → GoesToGap volume objects from gap
      → JudgesPast volume objects names gap (Some refusal)
      → IsBadThere volume objects refusal.number refusal.reason
  bad_past gap refusal goes past =
      let there = goes.reached base (at_base volume objects base base_end newest) in
      let verdict = past base listed there in (
        base,
        gap.number,
        record { end = base_end; newest = newest; from = there.from; landed = there.landed; missing = goes.missing },
        record {
          after = verdict.0;
          bad = verdict.1;
          greater = λ other bytes high fits present.
              verdict.2 other bytes (omega (arith, verdict.0, high), high) fits present;
        },
      )

  pub refused_past : (error : RecoverError) → RefusesPast volume objects names from error → IsWhyNotChecked volume objects error
  refused_past error (inl none) = no_answer_why volume objects error none
  refused_past error (inr (gap, refusal, goes, past, is)) =
      subst (IsWhyNotChecked volume objects) (sym is) (inl (bad_past gap refusal goes past))

  -- or none is, and the checkpoint of a hold is
  module _ (is_uuid : IsUuid volume.uuid) (holds : List ℕ) (among : AreHoldsAmong volume.uuid names holds) (last : ℕ)
      (judged : JudgesTo volume objects names from last) (error : RecoverError) where
    -- a hold on a smaller number is among those before
    before : (index : ℕ) → index < length holds → (other : ℕ) → other < get_or holds index 0 → Contains holds other
        → Contains (take index holds) other
    before index inside other low (j, within, at) =
        let own : get_or holds j 0 ≡ other = get_or_default holds j 0 other within ∙ at in
        let size = length-take-le index holds (omega (arith, inside)) in
        let early : j < index =
        elim (cases_order j index) [
          | inl same ↦ absurd (let e = ap (λ k. get_or holds k 0) same in omega (arith, e, own, low))
          | inr (inl first) ↦ first
          | inr (inr later) ↦
              absurd (let e = AllPairs-from_increasing holds among.ascending index j 0 later within in omega (arith, e, own, low))
        ] in
        (j, omega (arith, early, size), get_or-take index holds j other early ∙ at)

    bad_held : (first : RefusesFirst volume objects holds error)
        → IsBadHeld volume objects (get_or holds first.index 0) first.reason
    bad_held first =
        let run = run_to volume objects names base base_end last newest listed judged in
        let number = get_or holds first.index 0 in
        let listed_so = of_held volume objects names is_uuid listed holds among in
        record {
          base = base;
          good = (last, run.0, run.1);
          is_held =
              held_of volume objects names is_uuid listed holds among number (Contains-get_or holds first.index 0 first.inside);
          bad = first.bad;
          lower = λ other low is there.
              All-contains (IsWholeIfThere volume objects) (take first.index holds) other first.before
              (before first.index first.inside other low (listed_so other is)) there;
        }

    pub refused_held : RefusesNamed volume objects holds error → IsWhyNotChecked volume objects error
    refused_held (inl none) = no_answer_why volume objects error none
    refused_held (inr first) = subst (IsWhyNotChecked volume objects) (sym first.error_is) (inr (bad_held first))
