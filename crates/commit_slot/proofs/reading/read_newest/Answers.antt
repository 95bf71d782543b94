use Rattle.std.proofs.Common.{rules, ℕ, ◌∙◌, subst, List}
use Rattle.lsvd_device.specs.Medium.{Medium}
use Rattle.lsvd_device.specs.Device.{DiskState, HoldsNow}
use Rattle.commit_slot.specs.Slots.{log_of}
use Rattle.commit_slot.specs.Newer.{SlotHas}
use Rattle.commit_slot.proofs.Newest.{newest_now}
use Rattle.commit_slot.proofs.reading.read_newest.Goals as goal

pub returns-clause-ok : goal.returns-clause-ok
returns-clause-ok g c =
    let old : DiskState = g.D.Disk.state c.args.disk.now in
    let middle : DiskState = g.D.Disk.state c.read_slot.new.disk in
    let next : DiskState = g.D.Disk.state c.read_slot-2.new.disk in
    let log : ℕ = log_of old.size in
    let first : HoldsNow (λ now. SlotHas log now.bytes 0 c.in_ok-first.first) old.moments = search rules in
    let second : HoldsNow (λ now. SlotHas log now.bytes 1 c.in_ok-second.second) middle.moments = search rules in
    let third : HoldsNow (λ now. SlotHas log now.bytes 2 c.in_ok-third.third) next.moments = search rules in
    let P : List Medium → Type 0 = HoldsNow (λ now. SlotHas log now.bytes 1 c.in_ok-second.second) in
    let Q : List Medium → Type 0 = HoldsNow (λ now. SlotHas log now.bytes 2 c.in_ok-third.third) in
    newest_now log old.moments c.in_ok-first.first c.in_ok-second.second c.in_ok-third.third c.newer_of.result c.newer_of-2.result
    c.newer_of.ensures c.newer_of-2.ensures first
    (subst P c.read_slot.ensures.moments second) (subst Q (c.read_slot-2.ensures.moments ∙ c.read_slot.ensures.moments) third)
