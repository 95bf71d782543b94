use Rattle.std.proofs.Common.{◌≡◌, ◌∙◌, Err, refl, sym, subst, inl}
use Rattle.lsvd_fault.specs.Faults.{Counts}
use Rattle.object_recovery.proofs.FindLemmas.{passed_as, error_of}
use Rattle.super_recovery.specs.declared.error.SuperError.TheVariants as super_errors
use Rattle.super_recovery.specs.Put.{PutsEpoch}
use Rattle.vol_recover.specs.declared.creating.CreateError.TheVariants.{Exists, DeviceFault, OutOfMemory}
use Rattle.vol_recover.specs.Creating.{PutsNoSuper, MayPut, PrepareOf, of_super, is_put_fault}
use Rattle.vol_recover.proofs.CreateLemmas.{after_super_error, after_epoch_error, of_super_is_of_store}
use Rattle.vol_recover.proofs.CreationLemmas.{super_there, super_absent, same_stays, absent_stays, puts_counts, not_prepared}
use Rattle.vol_recover.proofs.CreationLemmas.{after_first_error, both_put, no_list}
use Rattle.vol_recover.proofs.Results.{counted_objects, none_changed}
use Rattle.vol_recover.proofs.creating.prepare.Goals as goal

-- ---- the super object was not looked for, or is there

pub returns-in_err-has_super : goal.returns-in_err-has_super
returns-in_err-has_super g c =
    let uuid = c.args.uuid in
    let geometry = c.args.geometry.now in
    let old = g.S.Store.state c.args.store.now in
    let new = g.S.Store.state c.has_super.new.store in
    let error = c.in_err-has_super.field-0.0 in
    let failed = c.in_err-has_super.ensures in
    let same = counted_objects old new failed.unchanged in
    passed_as (PrepareOf uuid geometry old new) c.from_residual.result (of_super error) c.from_residual.ensures.1
    (record {
      made = tt;
      none =
          not_prepared uuid geometry old.objects new.objects (of_super error) (of_super_is_of_store error)
          (none_changed (PutsNoSuper uuid geometry) old.objects new.objects (λ objects. inl refl) same);
      untouched = same_stays uuid old.objects new.objects same;
      faults = puts_counts error old.faults new.faults failed.answer failed.faults;
    })

pub returns-then-branch : goal.returns-then-branch
returns-then-branch g c =
    let uuid = c.args.uuid in
    let geometry = c.args.geometry.now in
    let old = g.S.Store.state c.args.store.now in
    let new = g.S.Store.state c.has_super.new.store in
    let looked = c.in_ok-has_super.ensures in
    let same = counted_objects old new looked.unchanged in
    record {
      made = tt;
      none = record {
        exists = λ is. super_there uuid old.objects c.in_ok-has_super.field-0 looked.has c.if-branch.true;
        puts = none_changed (MayPut uuid geometry Exists) old.objects new.objects (λ objects. refl) same;
        no_super = none_changed (PutsNoSuper uuid geometry) old.objects new.objects (λ objects. inl refl) same;
        no_device = λ (is : Exists ≡ DeviceFault). cc;
      };
      untouched = same_stays uuid old.objects new.objects same;
      faults = looked.faults;
    }

-- ---- there is none

pub returns-in_err-receipt : goal.returns-in_err-receipt
returns-in_err-receipt g c =
    let uuid = c.args.uuid in
    let geometry = c.args.geometry.now in
    let old = g.S.Store.state c.args.store.now in
    let before = g.S.Store.state c.has_super.new.store in
    let new = g.S.Store.state c.put_first.new.store in
    let looked = c.in_ok-has_super.ensures in
    let same = counted_objects old before looked.unchanged in
    let absent = super_absent uuid old.objects c.in_ok-has_super.field-0 looked.has c.if-branch.false in
    let error = c.in_err-receipt.field-0.0 in
    let failed = c.in_err-receipt.ensures in
    passed_as (PrepareOf uuid geometry old new) c.from_residual-in_err-receipt.result error
    c.from_residual-in_err-receipt.ensures.1
    (record {
      made = tt;
      none =
          not_prepared uuid geometry old.objects new.objects error failed.why
          (after_first_error uuid geometry old.objects before.objects new.objects same failed.err);
      untouched = absent_stays uuid old.objects new.objects absent;
      faults = subst (λ n. Counts (is_put_fault error) n new.faults) looked.faults failed.faults;
    })

pub returns-in-Err : goal.returns-in-Err
returns-in-Err g c =
    let uuid = c.args.uuid in
    let geometry = c.args.geometry.now in
    let old = g.S.Store.state c.args.store.now in
    let before = g.S.Store.state c.has_super.new.store in
    let first = g.S.Store.state c.put_first.new.store in
    let new = g.S.Store.state c.put_epoch.new.store in
    let looked = c.in_ok-has_super.ensures in
    let same = counted_objects old before looked.unchanged in
    let absent = super_absent uuid old.objects c.in_ok-has_super.field-0 looked.has c.if-branch.false in
    let put = c.in_ok-receipt.ensures in
    let error = c.in-Err.error in
    let failed = c.in-Err.ensures in
    let no_super =
    after_epoch_error uuid geometry old.objects before.objects first.objects new.objects same put.ok
    (after_super_error (PutsEpoch uuid 0) error first new failed.answer
    (λ is. failed.failed (error_of error super_errors.StoreFault is))
    (λ is. failed.unchanged (error_of error super_errors.OutOfMemory is))) in
    subst (λ e. PrepareOf uuid geometry old new (Err e)) (sym c.into.ensures)
    (record {
      made = tt;
      none =
          not_prepared uuid geometry old.objects new.objects (of_super error) (of_super_is_of_store error) no_super;
      untouched = absent_stays uuid old.objects new.objects absent;
      faults =
          subst (λ n. Counts (is_put_fault (of_super error)) n new.faults) (put.faults ∙ looked.faults)
          (puts_counts error first.faults new.faults failed.answer failed.faults);
    })

-- ---- all but the super object was put

pub returns-in_err-new_list : goal.returns-in_err-new_list
returns-in_err-new_list g c =
    let uuid = c.args.uuid in
    let geometry = c.args.geometry.now in
    let old = g.S.Store.state c.args.store.now in
    let before = g.S.Store.state c.has_super.new.store in
    let first = g.S.Store.state c.put_first.new.store in
    let new = g.S.Store.state c.put_epoch.new.store in
    let looked = c.in_ok-has_super.ensures in
    let same = counted_objects old before looked.unchanged in
    let absent = super_absent uuid old.objects c.in_ok-has_super.field-0 looked.has c.if-branch.false in
    let put = c.in_ok-receipt.ensures in
    let epoch = c.in_default.ensures in
    passed_as (PrepareOf uuid geometry old new) c.from_residual-in_err-new_list.result OutOfMemory
    c.from_residual-in_err-new_list.ensures.1
    (record {
      made = tt;
      none =
          no_list uuid geometry old.objects new.objects
          (both_put uuid geometry old.objects before.objects first.objects new.objects same put.ok epoch.ok);
      untouched = absent_stays uuid old.objects new.objects absent;
      faults = epoch.faults ∙ put.faults ∙ looked.faults;
    })

pub returns : goal.returns
returns g c =
    let uuid = c.args.uuid in
    let geometry = c.args.geometry.now in
    let old = g.S.Store.state c.args.store.now in
    let before = g.S.Store.state c.has_super.new.store in
    let first = g.S.Store.state c.put_first.new.store in
    let new = g.S.Store.state c.put_epoch.new.store in
    let looked = c.in_ok-has_super.ensures in
    let same = counted_objects old before looked.unchanged in
    let absent = super_absent uuid old.objects c.in_ok-has_super.field-0 looked.has c.if-branch.false in
    let put = c.in_ok-receipt.ensures in
    let epoch = c.in_default.ensures in
    record {
      made = record {
        is_new = c.in_ok-new_list.ensures;
        puts = both_put uuid geometry old.objects before.objects first.objects new.objects same put.ok epoch.ok;
        absent = absent;
      };
      none = tt;
      untouched = absent_stays uuid old.objects new.objects absent;
      faults = epoch.faults ∙ put.faults ∙ looked.faults;
    }
