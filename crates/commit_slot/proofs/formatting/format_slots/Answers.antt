use Rattle.std.proofs.Common.{rules, ◌≡◌, false, sym, subst}
use Rattle.std.specs.Prelude.{is_ok}
use Rattle.lsvd_device.specs.Device.{DiskState, HoldsNow}
use Rattle.commit_slot.specs.Slots.{log_of}
use Rattle.commit_slot.specs.States.{IsSettled}
use Rattle.commit_slot.specs.Sequence.{Costs}
use Rattle.commit_slot.specs.Formatting.{format_cost, format_calls}
use Rattle.commit_slot.specs.Clearing.{OpensFirst}
use Rattle.commit_slot.proofs.Outcomes.{on_ok_as}
use Rattle.commit_slot.proofs.FormatLemmas.{formats, clear_failed, first_failed, all_formats}
use Rattle.commit_slot.proofs.formatting.format_slots.Goals as goal

pub returns-in_err-clear_slots-clause-costs : goal.returns-in_err-clear_slots-clause-costs
returns-in_err-clear_slots-clause-costs g c =
    let failed : is_ok c.from_residual.result ≡ false = search rules in
    let old : DiskState = g.D.Disk.state c.args.disk.now in
    let new : DiskState = g.D.Disk.state c.clear_slots.new.disk in
    subst (λ made. Costs format_cost (format_calls c.args.body) made old new) (sym failed)
    (clear_failed c.args.body old new c.in_err-clear_slots.ensures.costs)

pub returns-in_err-write_first_body-clause-costs : goal.returns-in_err-write_first_body-clause-costs
returns-in_err-write_first_body-clause-costs g c =
    let failed : is_ok c.from_residual-in_err-write_first_body.result ≡ false = search rules in
    let old : DiskState = g.D.Disk.state c.args.disk.now in
    let middle : DiskState = g.D.Disk.state c.clear_slots.new.disk in
    let new : DiskState = g.D.Disk.state c.write_first_body.new.disk in
    subst (λ made. Costs format_cost (format_calls c.args.body) made old new) (sym failed)
    (first_failed c.args.body old middle new (search rules) c.in_ok-clear_slots.ensures.costs
    c.in_err-write_first_body.ensures.costs)

pub returns-clause-ok : goal.returns-clause-ok
returns-clause-ok g c =
    let old : DiskState = g.D.Disk.state c.args.disk.now in
    let middle : DiskState = g.D.Disk.state c.clear_slots.new.disk in
    let next : DiskState = g.D.Disk.state c.write_first_body.new.disk in
    let new : DiskState = g.D.Disk.state c.open_first_slot.new.disk in
    on_ok_as _ (OpensFirst next new) (HoldsNow (IsSettled (log_of old.size) 0 c.args.body) new.moments)
    (formats c.args.body old middle next new c.clear_slots.ensures.costs.calls.size c.write_first_body.ensures.costs.calls.size
    c.in_ok-clear_slots.ensures.ok c.in_ok-write_first_body.ensures.ok) c.open_first_slot.ensures.ok

pub returns-clause-costs : goal.returns-clause-costs
returns-clause-costs g c =
    let old : DiskState = g.D.Disk.state c.args.disk.now in
    let middle : DiskState = g.D.Disk.state c.clear_slots.new.disk in
    let next : DiskState = g.D.Disk.state c.write_first_body.new.disk in
    let new : DiskState = g.D.Disk.state c.open_first_slot.new.disk in
    all_formats c.args.body (is_ok c.open_first_slot.result) old middle next new (search rules) c.in_ok-clear_slots.ensures.costs
    c.in_ok-write_first_body.ensures.costs c.open_first_slot.ensures.costs
