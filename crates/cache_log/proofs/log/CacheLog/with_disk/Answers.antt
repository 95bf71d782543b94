use Rattle.std.proofs.Common.{refl, sym, subst, take, drop}
use Rattle.std.specs.Prelude.{Option, List}
use Rattle.lsvd_device.specs.Calls.{Budget}
use Rattle.commit_body.specs.declared.body.Mark.{Mark}
use Rattle.commit_slot.specs.Commits.{CommitsState, with_budget}
use Rattle.commit_slot.specs.OnDisk.{AreOnDisk}
use Rattle.log_room.specs.Room.{Room}
use Rattle.cache_log.specs.declared.row.Row.{Row}
use Rattle.cache_log.specs.Invariant.{IsLog}
use Rattle.cache_log.proofs.WriteLemmas.{read_log}
use Rattle.cache_log.proofs.log.CacheLog.with_disk.Goals as goal

-- a device that passes other calls is on disk as before
other_budget : (commits : CommitsState) (budget : Option Budget) → AreOnDisk commits → AreOnDisk (with_budget budget commits)
other_budget commits budget are = record {
  is_disk = record { fits = are.is_disk.fits; media = are.is_disk.media };
  size = are.size;
  may_stand = are.may_stand;
  stands = are.stands;
  gate = are.gate;
  closed = are.closed;
}

pub invariant_of-self : goal.invariant_of-self
invariant_of-self g c =
    let place : Room = c.self.inside.room in
    let mark : Mark = c.self.inside.tail in
    let held : List Row = take c.self.inside.dropped c.self.inside.rows.items in
    let rows : List Row = drop c.self.inside.dropped c.self.inside.rows.items in
    let old : CommitsState = c.self.inside.commits in
    let budget : Option Budget = c.with_disk.new.self.disk.budget in
    let log : IsLog place mark held rows (with_budget budget old) =
    read_log place mark held rows old (with_budget budget old) c.self.invariant.1
    (record { same_number = refl; same_body = refl; same_unfinished = refl }) refl refl
    (other_budget old budget c.self.invariant.1.is.on_disk) in (
      c.self.invariant.0,
      subst (λ (commits : CommitsState). IsLog place mark held rows commits)
          (sym c.with_disk.ensures.rest) log,
    )
