use Rattle.std.proofs.Common.{arith, ◌≡◌, ℕ, ◌*◌, true, false, List, [], length, refl, sym, ◌∙◌, ap, subst, Err}
use Rattle.lsvd_base.specs.Limits.{may_transfer}
use Rattle.lsvd_fault.specs.Faults.{Counts}
use Rattle.lsvd_objstore.specs.Store.{StoreState}
use Rattle.read_plan.specs.Plan.{PlanState, GivesNoOther}
use Rattle.vol_core.specs.declared.event.Event.TheVariants as asks
use Rattle.vol_core.specs.Volume.{SteppedVolume}
use Rattle.volume_owner.specs.Owner.{most_of_call}
use Rattle.volume_owner.specs.Errors.{is_eio}
use Rattle.volume_owner.specs.declared.error.OwnerError.{OwnerError}
use Rattle.volume_owner.specs.declared.error.OwnerError.TheVariants as errors
use Rattle.volume_owner.proofs.ActLemmas.{step_act}
use Rattle.volume_owner.proofs.StepLemmas.{makes_fewer}
use Rattle.volume_owner.proofs.CallLemmas.{disk_call, read_call, handed_on, told_of_sizes, read_refused, read_given}
use Rattle.volume_owner.proofs.CallLemmas.{read_failed}
use Rattle.volume_owner.proofs.ReadLemmas.{planned_reply, no_plan, look_makes, look_faults, look_shown, not_looked_idle}
use Rattle.volume_owner.proofs.ReadLemmas.{release_makes, release_faults, released_idle, looked_size, looked_length}
use Rattle.volume_owner.proofs.ReadLemmas.{looked_sectors}
use Rattle.volume_owner.proofs.reading.read.Goals as goal

pub returns-then-not-may_transfer : goal.returns-then-not-may_transfer
returns-then-not-may_transfer g c =
    let lba : ℕ = c.args.lba in
    let sectors : ℕ = c.args.sectors in
    let old : SteppedVolume = c.args.volume.now in
    let first : StoreState = g.S.Store.state c.args.store.now in
    let outside = told_of_sizes (λ sizes. may_transfer sizes lba sectors) old.volume.objects.batch.geometry c.geometry.result
    c.may_transfer.result false c.geometry.ensures.is c.may_transfer.ensures c.if-not-may_transfer.true in
    record { read = read_refused g.R.Receipt.state lba sectors old first outside; idle = c.requires.idle }

pub returns-in_err-plan : goal.returns-in_err-plan
returns-in_err-plan g c =
    let state = g.R.Receipt.state in
    let lba : ℕ = c.args.lba in
    let sectors : ℕ = c.args.sectors in
    let reply = c.step.result in
    let old : SteppedVolume = c.args.volume.now in
    let mid : SteppedVolume = c.step.new.self in
    let of = c.step.ensures in
    let first : StoreState = g.S.Store.state c.args.store.now in
    let error : OwnerError = c.in_err-plan.field-0.0 in
    let none = no_plan reply error (sym c.plan_of.ensures ∙ c.in_err-plan.was) in
    let inside = told_of_sizes (λ sizes. may_transfer sizes lba sectors) old.volume.objects.batch.geometry c.geometry.result
    c.may_transfer.result true c.geometry.ensures.is c.may_transfer.ensures c.if-not-may_transfer.false in
    let counts = subst (λ b. Counts b old.volume.log.commits.disk.faults mid.volume.log.commits.disk.faults) (sym none.1)
    of.step.faults in
    record {
      read =
          read_failed state lba sectors c.from_residual.result error old mid first first
          (handed_on c.from_residual.result error c.from_residual.ensures.1) none.2 inside
          (disk_call state most_of_call [] (is_eio {T = ℕ} (Err error)) old mid first
          (step_act state (asks.Look lba sectors) reply [] old mid first of tt refl)
          (makes_fewer 1 most_of_call [] old mid (omega arith) (look_makes state reply lba sectors old mid of)) counts);
      idle = not_looked_idle state reply lba sectors old mid of of.was.plain of.was.shows c.requires.idle none.0;
    }

-- a plan has as many bytes as its sectors have
pub from_bytes-body-requires : goal.from_bytes-body-requires
from_bytes-body-requires g c =
    let lba : ℕ = c.args.lba in
    let sectors : ℕ = c.args.sectors in
    let reply = c.step.result in
    let plan : PlanState = c.in_ok-plan.plan in
    let left : PlanState = c.fetch-fetched.new.self in
    let planned = planned_reply reply plan (sym c.plan_of.ensures ∙ c.in_ok-plan.was) in
    let size = looked_size g.R.Receipt.state reply lba sectors c.args.volume.now c.step.new.self c.step.ensures plan planned in
    omega (arith, size, c.in_ok-fetched.ensures.size)

pub returns-in_err-fetched : goal.returns-in_err-fetched
returns-in_err-fetched g c =
    let state = g.R.Receipt.state in
    let lba : ℕ = c.args.lba in
    let sectors : ℕ = c.args.sectors in
    let reply = c.step.result in
    let back = c.step-2.result in
    let old : SteppedVolume = c.args.volume.now in
    let mid : SteppedVolume = c.step.new.self in
    let last : SteppedVolume = c.step-2.new.self in
    let of = c.step.ensures in
    let given = c.step-2.ensures in
    let first : StoreState = g.S.Store.state c.args.store.now in
    let second : StoreState = g.S.Store.state c.fetch-fetched.new.store in
    let plan : PlanState = c.in_ok-plan.plan in
    let left : PlanState = c.fetch-fetched.new.self in
    let planned = planned_reply reply plan (sym c.plan_of.ensures ∙ c.in_ok-plan.was) in
    let inside = told_of_sizes (λ sizes. may_transfer sizes lba sectors) old.volume.objects.batch.geometry c.geometry.result
    c.may_transfer.result true c.geometry.ensures.is c.may_transfer.ensures c.if-not-may_transfer.false in
    let shown = look_shown state reply lba sectors old mid of plan of.was.plain of.was.shows planned in
    let result = c.from_residual-in_err-fetched.result in
    record {
      read =
          read_failed state lba sectors result errors.Eio old last first second
          (handed_on result errors.Eio c.from_residual-in_err-fetched.ensures.1) (λ range. cc) inside
          (read_call state most_of_call true old mid last first second (omega arith)
          (step_act state (asks.Look lba sectors) reply [] old mid first of tt refl)
          (step_act state (asks.Release left) back [] mid last second given tt refl)
          (look_makes state reply lba sectors old mid of)
          (release_makes state reply lba sectors old mid of left back last given)
          (look_faults state reply lba sectors old mid of plan planned)
          (release_faults state reply lba sectors old mid of left back last given shown.0 shown.1)
          c.fetch-fetched.ensures.unchanged c.in_err-fetched.ensures.count);
      idle =
          released_idle state reply lba sectors old mid of left back last given plan of.was.plain
          (sym (ap (λ (p : PlanState). p.objects) c.fetch-fetched.ensures.left)) of.was.shows c.requires.idle planned;
    }

pub returns : goal.returns
returns g c =
    let state = g.R.Receipt.state in
    let lba : ℕ = c.args.lba in
    let sectors : ℕ = c.args.sectors in
    let reply = c.step.result in
    let back = c.step-2.result in
    let old : SteppedVolume = c.args.volume.now in
    let mid : SteppedVolume = c.step.new.self in
    let last : SteppedVolume = c.step-2.new.self in
    let of = c.step.ensures in
    let given = c.step-2.ensures in
    let first : StoreState = g.S.Store.state c.args.store.now in
    let second : StoreState = g.S.Store.state c.fetch-fetched.new.store in
    let plan : PlanState = c.in_ok-plan.plan in
    let left : PlanState = c.fetch-fetched.new.self in
    let planned = planned_reply reply plan (sym c.plan_of.ensures ∙ c.in_ok-plan.was) in
    let inside = told_of_sizes (λ sizes. may_transfer sizes lba sectors) old.volume.objects.batch.geometry c.geometry.result
    c.may_transfer.result true c.geometry.ensures.is c.may_transfer.ensures c.if-not-may_transfer.false in
    let shown = look_shown state reply lba sectors old mid of plan of.was.plain of.was.shows planned in
    let bytes : List ℕ = c.from_bytes-body.result in
    let same : bytes ≡ c.in_ok-fetched.field-0.items = c.from_bytes-body.ensures in
    let size : length bytes ≡ 512 * sectors =
    ap length same ∙ c.in_ok-fetched.ensures.size ∙ looked_size state reply lba sectors old mid of plan planned in
    record {
      read =
          read_given state lba sectors _ old last first second inside
          (read_call state most_of_call false old mid last first second (omega arith)
          (step_act state (asks.Look lba sectors) reply [] old mid first of tt refl)
          (step_act state (asks.Release left) back [] mid last second given tt refl)
          (look_makes state reply lba sectors old mid of)
          (release_makes state reply lba sectors old mid of left back last given)
          (look_faults state reply lba sectors old mid of plan planned)
          (release_faults state reply lba sectors old mid of left back last given shown.0 shown.1)
          c.fetch-fetched.ensures.unchanged c.in_ok-fetched.ensures.count)
          (λ other others.
          c.history_length-history_length.ensures
          ∙ looked_length state reply lba sectors old mid of plan of.was.plain of.was.shows planned other others)
          (looked_sectors state reply lba sectors old mid of plan bytes planned size
          (λ tells. subst (GivesNoOther plan) (sym same) (c.in_ok-fetched.ensures.one tells)))
          size;
      idle =
          released_idle state reply lba sectors old mid of left back last given plan of.was.plain
          (sym (ap (λ (p : PlanState). p.objects) c.fetch-fetched.ensures.left)) of.was.shows c.requires.idle planned;
    }
