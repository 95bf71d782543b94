use Rattle.std.proofs.Common.{arith, ◌≡◌, ℕ, Bool, true, false, [], refl, sym, ◌∙◌, ap, subst, Err}
use Rattle.std.specs.Prelude.{None}
use Rattle.lsvd_names.specs.declared.name.ObjName.{ObjName}
use Rattle.lsvd_objstore.specs.Store.{StoreState}
use Rattle.vol_core.specs.declared.event.Event.TheVariants as asks
use Rattle.vol_core.specs.Volume.{SteppedVolume}
use Rattle.vol_core.specs.Step.{CountedStep}
use Rattle.volume_owner.specs.Acts.{moment_of}
use Rattle.volume_owner.specs.Calls.{IsCall}
use Rattle.volume_owner.specs.Errors.{is_eio}
use Rattle.volume_owner.specs.Replies.{receipt_in}
use Rattle.volume_owner.proofs.ActLemmas.{step_act}
use Rattle.volume_owner.proofs.CallLemmas.{quiet_call, call_then, call_fewer}
use Rattle.volume_owner.proofs.ClearLemmas.{left_put, left_idle, handed_receipt, take_remove_makes, take_remove_faults}
use Rattle.volume_owner.proofs.ClearLemmas.{none_to_remove, taken_out, none_shown, remove_done_makes}
use Rattle.volume_owner.proofs.ClearLemmas.{remove_done_faults, remove_done_told}
use Rattle.volume_owner.proofs.ClearLemmas.{remove_done_leaves, remove_failed_makes, remove_failed_faults, remove_failed_leaves}
use Rattle.volume_owner.proofs.RemoveLemmas.{removed_call, not_removed_call}
use Rattle.volume_owner.proofs.TallyLemmas.{tally_then, quiet_tally, removed_tally}
use Rattle.volume_owner.proofs.VictimLemmas.{makes_no_victim, step_needs}
use Rattle.volume_owner.proofs.clearing.remove_next.Goals as goal

pub returns-in_default : goal.returns-in_default
returns-in_default g c =
    let state = g.R.Receipt.state in
    let reply = c.step.result in
    let old : SteppedVolume = c.args.volume.now in
    let new : SteppedVolume = c.step.new.self in
    let store : StoreState = g.S.Store.state c.args.store.now in
    let of = c.step.ensures in
    let plain = of.was.plain in
    let shows = of.was.shows in
    let handed : receipt_in reply ≡ None = sym c.receipt_of.ensures ∙ c.in_default.is in
    let (left, none_out, none) = none_to_remove state reply old new of plain shows c.requires.idle handed in
    record {
      call =
          call_fewer state 1 2 [] false old new store store (omega arith)
          (quiet_call state 1 [] old new store (step_act state asks.TakeRemove reply [] old new store of tt refl)
          (take_remove_makes state reply old new of plain shows) (take_remove_faults state reply old new of plain shows));
      removed = quiet_tally state asks.TakeRemove reply 0 old new store of tt refl refl of.step.copying;
      put = left_put old.volume new.volume plain shows left c.requires.put;
      victims = step_needs state asks.TakeRemove reply old new (λ asked is. ap makes_no_victim is) of;
      none = none_shown new.volume left.after c.is_volume.ensures.order.uploads left.shows none;
      error = λ range. cc;
      idle = left_idle old.volume new.volume plain shows left c.requires.idle (left.shows.table.removal ∙ none_out);
    }

pub returns-in-Ok : goal.returns-in-Ok
returns-in-Ok g c =
    let state = g.R.Receipt.state in
    let reply = c.step.result in
    let back = c.step-in-Ok.result in
    let old : SteppedVolume = c.args.volume.now in
    let mid : SteppedVolume = c.step.new.self in
    let last : SteppedVolume = c.step-in-Ok.new.self in
    let first : StoreState = g.S.Store.state c.args.store.now in
    let second : StoreState = g.S.Store.state c.remove.new.self in
    let of = c.step.ensures in
    let plain = of.was.plain in
    let shows = of.was.shows in
    let receipt = c.in-Some.receipt in
    let name : ObjName = (state receipt).name in
    let n : ℕ = name.number in
    let taken = handed_receipt reply receipt (sym c.receipt_of.ensures ∙ c.in-Some.is) in
    let (removing, named, left) = taken_out state reply old mid of plain shows receipt c.requires.idle taken in
    let same : c.name-number.result.number ≡ n = ap (λ (o : ObjName). o.number) c.name-number.ensures in
    let done : CountedStep state (asks.RemoveDone n) back mid last =
    subst (λ k. CountedStep state (asks.RemoveDone k) back mid last) same c.step-in-Ok.ensures in
    let put = left_put old.volume mid.volume plain shows left c.requires.put in
    let ends = remove_done_leaves state n back mid last done done.was.plain done.was.shows removing in
    let removed = c.in-Ok.ensures in
    record {
      call =
          call_then state 1 1 [] false old mid last first first second
          (quiet_call state 1 [] old mid first (step_act state asks.TakeRemove reply [] old mid first of tt refl)
          (take_remove_makes state reply old mid of plain shows) (take_remove_faults state reply old mid of plain shows))
          (removed_call state n name back mid last first second removing.out named removed.asked
          (remove_done_makes state n back mid last done done.was.plain done.was.shows removing)
          (remove_done_faults state n back mid last done done.was.plain done.was.shows removing) removed.removed removed.count
          done);
      removed =
          tally_then state 0 0 0 1 (moment_of old first) (moment_of mid first) (moment_of last second)
          (quiet_tally state asks.TakeRemove reply 0 old mid first of tt refl refl of.step.copying)
          (removed_tally state n name back mid last first second removing.out named removed.asked removed.removed
          removed.count done
          (remove_done_told state n back mid last done done.was.plain done.was.shows removing));
      put = ends.1 put;
      victims = λ needs.
          step_needs state (asks.RemoveDone n) back mid last (λ asked is. ap makes_no_victim is) done
          (step_needs state asks.TakeRemove reply old mid (λ asked is. ap makes_no_victim is) of needs);
      none = tt;
      error = λ range. cc;
      idle = ends.0;
    }

pub returns-in-Err : goal.returns-in-Err
returns-in-Err g c =
    let state = g.R.Receipt.state in
    let reply = c.step.result in
    let back = c.step-in-Err.result in
    let old : SteppedVolume = c.args.volume.now in
    let mid : SteppedVolume = c.step.new.self in
    let last : SteppedVolume = c.step-in-Err.new.self in
    let first : StoreState = g.S.Store.state c.args.store.now in
    let second : StoreState = g.S.Store.state c.remove.new.self in
    let of = c.step.ensures in
    let plain = of.was.plain in
    let shows = of.was.shows in
    let receipt = c.in-Some.receipt in
    let name : ObjName = (state receipt).name in
    let n : ℕ = name.number in
    let taken = handed_receipt reply receipt (sym c.receipt_of.ensures ∙ c.in-Some.is) in
    let (removing, named, left) = taken_out state reply old mid of plain shows receipt c.requires.idle taken in
    let failed = c.step-in-Err.ensures in
    let put = left_put old.volume mid.volume plain shows left c.requires.put in
    let ends = remove_failed_leaves state receipt n back mid last failed failed.was.plain failed.was.shows removing named in
    let kept = c.in-Err.ensures in
    record {
      call =
          subst (λ e. IsCall state 2 [] (is_eio {T = Bool} (Err e)) old last first second) (sym c.into.ensures)
          (call_then state 1 1 [] true old mid last first first second
          (quiet_call state 1 [] old mid first (step_act state asks.TakeRemove reply [] old mid first of tt refl)
          (take_remove_makes state reply old mid of plain shows) (take_remove_faults state reply old mid of plain shows))
          (not_removed_call state n name back mid last first second removing.out named kept.asked
          (remove_failed_makes state receipt n back mid last failed failed.was.plain failed.was.shows removing named)
          (remove_failed_faults state receipt n back mid last failed failed.was.plain failed.was.shows removing named) receipt
          kept.failed kept.count failed));
      removed = tt;
      put = ends.1 put;
      victims = λ needs.
          step_needs state (asks.RemoveFailed receipt) back mid last (λ asked is. ap makes_no_victim is.1) failed
          (step_needs state asks.TakeRemove reply old mid (λ asked is. ap makes_no_victim is) of needs);
      none = tt;
      error = λ range. (let told = c.into.ensures in cc);
      idle = ends.0;
    }
