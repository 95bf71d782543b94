-- The removal of an object from the store, and what the volume is told of it.
use Rattle.std.proofs.Common.{◌≡◌, ℕ, inl, inr, Bool, true, false, List, [], refl, sym, ◌∙◌, ap, subst}
use Rattle.std.specs.Prelude.{Option, Some, None, IfSome}
use Rattle.lsvd_fault.specs.Faults.{Counts}
use Rattle.lsvd_names.specs.declared.name.ObjName.{ObjName}
use Rattle.lsvd_names.specs.Names.{numbered_name}
use Rattle.lsvd_objstore.specs.Objects.{Objects, found, IsRemoved, MayBeRemoved}
use Rattle.lsvd_objstore.specs.Store.{StoreState, ReceiptState, Remove, IsAskedOnce, Becomes}
use Rattle.vol_core.specs.declared.event.Event.TheVariants as asks
use Rattle.vol_core.specs.declared.reply.Reply.{Reply}
use Rattle.vol_core.specs.Volume.{SteppedVolume}
use Rattle.vol_core.specs.Step.{CountedStep}
use Rattle.vol_core.specs.View.{object_name_in, removal_out}
use Rattle.volume_owner.specs.Acts.{Moment, moment_of, Act, Removes, RemovalLeaves, IsRemoveAct, IsMadeOfActs}
use Rattle.volume_owner.specs.Calls.{KeepsOtherNames, MakesSteps, IsCall}
use Rattle.volume_owner.proofs.ActLemmas.{made_then, one_act, step_act}
use Rattle.volume_owner.proofs.CallLemmas.{becomes_by}

-- ---- what it leaves

pub has_gone : (name own : ObjName) → name ≡ own → (old new : Option Objects) → Becomes (IsRemoved name) old new
    → IfSome new (λ objects. found objects own ≡ None)
has_gone name own same None new is = subst (λ o. IfSome o (λ objects. found objects own ≡ None)) (sym is) tt
has_gone name own same (Some old) new is =
    subst (λ o. IfSome o (λ objects. found objects own ≡ None)) (sym is.1) (ap (found is.0) (sym same) ∙ is.2.absent)

-- other names than those of a volume's numbered objects keep their objects
removed_keeps : (uuid : List ℕ) (number : ℕ) (name : ObjName) → name ≡ numbered_name uuid number → (old new : Objects)
    → IsRemoved name old new → KeepsOtherNames uuid old new
removed_keeps uuid number name is old new gone other not_own = gone.others other (λ same. not_own number (same ∙ is))

may_keep : (uuid : List ℕ) (number : ℕ) (name : ObjName) → name ≡ numbered_name uuid number → (old new : Objects)
    → MayBeRemoved name old new → KeepsOtherNames uuid old new
may_keep uuid number name is old new (inl same) other not_own = ap (λ o. found o other) same
may_keep uuid number name is old new (inr gone) other not_own = removed_keeps uuid number name is old new gone other not_own

-- ---- the acts and the call

remove_acts : {R : Type 0} (state : R → ReceiptState) (number : ℕ) (failed : Bool) (old new : Moment)
    → IsRemoveAct number failed old new → IsMadeOfActs state [] old new
remove_acts {R} state number failed old new is =
    (let act : Act R = Removes number failed in one_act state act [] old new is refl)

pub removal_is : (number : ℕ) (name : ObjName) (old : SteppedVolume) (first second : StoreState)
    → removal_out old.volume ≡ Some number → name ≡ object_name_in old.volume number
    → IsAskedOnce (Remove name) first.asked second.asked → (failed : Bool)
    → Becomes (RemovalLeaves failed name) first.objects second.objects → Counts failed first.faults second.faults
    → IsRemoveAct number failed (moment_of old first) (moment_of old second)
removal_is number name old first second out named asked failed left counts = record {
  volume = refl;
  out = out;
  objects = subst (λ n. Becomes (RemovalLeaves failed n) first.objects second.objects) named left;
  asked = subst (λ n. IsAskedOnce (Remove n) first.asked second.asked) named asked;
  faults = counts;
}

module _ {R : Type 0} (state : R → ReceiptState) (number : ℕ) (name : ObjName) (reply : Reply R) (old new : SteppedVolume)
    (first second : StoreState) (out : removal_out old.volume ≡ Some number) (named : name ≡ object_name_in old.volume number)
    (asked : IsAskedOnce (Remove name) first.asked second.asked) (makes : MakesSteps 1 [] old new)
    (same : new.volume.log.commits.disk.faults ≡ old.volume.log.commits.disk.faults) where
  the_removal : (failed : Bool) → Becomes (RemovalLeaves failed name) first.objects second.objects
      → Counts failed first.faults second.faults → IsMadeOfActs state [] (moment_of old first) (moment_of old second)
  the_removal failed left counts =
      remove_acts state number failed (moment_of old first) (moment_of old second)
      (removal_is number name old first second out named asked failed left counts)

  -- it is done
  pub removed_call : Becomes (IsRemoved name) first.objects second.objects → second.faults ≡ first.faults
      → CountedStep state (asks.RemoveDone number) reply old new → IsCall state 1 [] false old new first second
  removed_call left counts of = record {
    acts =
        made_then state [] [] (moment_of old first) (moment_of old second) (moment_of new second)
        (the_removal false left counts)
        (step_act state (asks.RemoveDone number) reply [] old new second of
        (has_gone name (object_name_in old.volume number) named first.objects second.objects left) refl);
    steps = makes;
    store =
        becomes_by (IsRemoved name) (KeepsOtherNames old.volume.objects.uploads.uuid)
        (removed_keeps old.volume.objects.uploads.uuid number name named) first.objects second.objects left;
    faults = (same, counts);
  }

  -- it failed
  pub not_removed_call : (receipt : R) → Becomes (MayBeRemoved name) first.objects second.objects
      → Counts true first.faults second.faults → CountedStep state (asks.RemoveFailed receipt) reply old new
      → IsCall state 1 [] true old new first second
  not_removed_call receipt left counts of = record {
    acts =
        made_then state [] [] (moment_of old first) (moment_of old second) (moment_of new second)
        (the_removal true left counts)
        (step_act state (asks.RemoveFailed receipt) reply [] old new second of tt refl);
    steps = makes;
    store =
        becomes_by (MayBeRemoved name) (KeepsOtherNames old.volume.objects.uploads.uuid)
        (may_keep old.volume.objects.uploads.uuid number name named) first.objects second.objects left;
    faults = inr (same, counts);
  }
