use Rattle.std.proofs.Common.{rules, true, false, ◌∙◌, ap, subst}
use Rattle.lsvd_device.specs.Device.{DiskState, HoldsNow}
use Rattle.commit_slot.specs.Slots.{log_of}
use Rattle.commit_slot.specs.Reading.{ReadsAs}
use Rattle.commit_slot.specs.Loading.{FailsToLoad}
use Rattle.commit_slot.specs.declared.error.LoadError.TheVariants.{DeviceFault}
use Rattle.commit_slot.proofs.LoadPaths.{IsRead, IsMended, size_of, moments_of, read_crash_safe, read_costs, found_before}
use Rattle.commit_slot.proofs.LoadPaths.{mended_crash_safe, mended_leaves, mended_costs, mended_settles, mended_durable}
use Rattle.commit_slot.proofs.LoadPaths.{mended_durable_now, mended_synced}
use Rattle.commit_slot.proofs.loading.load_slots.Given as given
use Rattle.commit_slot.proofs.loading.load_slots.Goals as goal
use Rattle.commit_slot.proofs.loading.load_slots.Goals.{After-from_residual-in_err-body, After-log_of}
use Rattle.commit_slot.proofs.loading.load_slots.Goals.{After-from_residual-in_err-mend_slots, In_ok-mend_slots}

-- the read failed
read_failed : (g : given.Over) (c : After-from_residual-in_err-body g)
    → IsRead false (g.D.Disk.state c.args.disk.now) (g.D.Disk.state c.sync.new.self) (g.D.Disk.state c.read_newest.new.disk)
read_failed g c = record {
  least = c.requires.size;
  is_disk = c.requires.is_disk;
  is_disk' = c.read_newest.ensures.is_disk;
  sync = c.in_ok-sync.ensures.call;
  moments = c.in_ok-sync.ensures.ok;
  read = c.in_err-body.ensures.costs;
  same = c.read_newest.ensures.moments;
}

-- no slot was open
read_none : (g : given.Over) (c : After-log_of g) → IsRead true (g.D.Disk.state c.args.disk.now) (g.D.Disk.state c.sync.new.self)
    (g.D.Disk.state c.read_newest.new.disk)
read_none g c = record {
  least = c.requires.size;
  is_disk = c.requires.is_disk;
  is_disk' = c.read_newest.ensures.is_disk;
  sync = c.in_ok-sync.ensures.call;
  moments = c.in_ok-sync.ensures.ok;
  read = c.in_ok-body.ensures.costs;
  same = c.read_newest.ensures.moments;
}

-- the mending failed
mend_failed : (g : given.Over) (c : After-from_residual-in_err-mend_slots g)
    → IsMended c.in-Some.number c.in-Some.body false (g.D.Disk.state c.args.disk.now) (g.D.Disk.state c.sync.new.self)
    (g.D.Disk.state c.read_newest.new.disk) (g.D.Disk.state c.mend_slots.new.disk)
mend_failed g c =
    let old : DiskState = g.D.Disk.state c.args.disk.now in
    let read : IsRead true old (g.D.Disk.state c.sync.new.self) (g.D.Disk.state c.read_newest.new.disk) = record {
      least = c.requires.size;
      is_disk = c.requires.is_disk;
      is_disk' = c.read_newest.ensures.is_disk;
      sync = c.in_ok-sync.ensures.call;
      moments = c.in_ok-sync.ensures.ok;
      read = c.in_ok-body.ensures.costs;
      same = c.read_newest.ensures.moments;
    } in
    record {
      read = read;
      found = subst (λ f. HoldsNow (λ now. ReadsAs (log_of old.size) now.bytes f) old.moments) c.in-Some.is
          (found_before true _ _ _ _ read c.in_ok-body.ensures.ok);
      is_disk = c.mend_slots.ensures.is_disk;
      costs = c.in_err-mend_slots.ensures.costs;
      newest = c.mend_slots.ensures.newest;
      log_area = c.mend_slots.ensures.log_area;
    }

-- it was made
mended : (g : given.Over) (c : In_ok-mend_slots g)
    → IsMended c.in-Some.number c.in-Some.body true (g.D.Disk.state c.args.disk.now) (g.D.Disk.state c.sync.new.self)
    (g.D.Disk.state c.read_newest.new.disk) (g.D.Disk.state c.mend_slots.new.disk)
mended g c =
    let old : DiskState = g.D.Disk.state c.args.disk.now in
    let read : IsRead true old (g.D.Disk.state c.sync.new.self) (g.D.Disk.state c.read_newest.new.disk) = record {
      least = c.requires.size;
      is_disk = c.requires.is_disk;
      is_disk' = c.read_newest.ensures.is_disk;
      sync = c.in_ok-sync.ensures.call;
      moments = c.in_ok-sync.ensures.ok;
      read = c.in_ok-body.ensures.costs;
      same = c.read_newest.ensures.moments;
    } in
    record {
      read = read;
      found = subst (λ f. HoldsNow (λ now. ReadsAs (log_of old.size) now.bytes f) old.moments) c.in-Some.is
          (found_before true _ _ _ _ read c.in_ok-body.ensures.ok);
      is_disk = c.mend_slots.ensures.is_disk;
      costs = c.in_ok-mend_slots.ensures.costs;
      newest = c.mend_slots.ensures.newest;
      log_area = c.mend_slots.ensures.log_area;
    }

pub returns-in_err-body-clause-crash_safe : goal.returns-in_err-body-clause-crash_safe
returns-in_err-body-clause-crash_safe g c = read_crash_safe false _ _ _ (read_failed g c)

pub returns-in_err-body-clause-err : goal.returns-in_err-body-clause-err
returns-in_err-body-clause-err g c =
    let fault : FailsToLoad DeviceFault (g.D.Disk.state c.args.disk.now) (g.D.Disk.state c.read_newest.new.disk) =
    read_costs false _ _ _ (read_failed g c) in
    search rules

pub returns-in_default-clause-crash_safe : goal.returns-in_default-clause-crash_safe
returns-in_default-clause-crash_safe g c = read_crash_safe true _ _ _ (read_none g c)

pub returns-in_default-clause-err : goal.returns-in_default-clause-err
returns-in_default-clause-err g c =
    let old : DiskState = g.D.Disk.state c.args.disk.now in (
      c.log_of.ensures ∙ ap log_of (c.len.ensures.size ∙ size_of true _ _ _ (read_none g c)),
      subst (λ f. HoldsNow (λ now. ReadsAs (log_of old.size) now.bytes f) old.moments) c.in_default.is
          (found_before true _ _ _ _ (read_none g c) c.in_ok-body.ensures.ok),
      moments_of true _ _ _ (read_none g c),
      read_costs true _ _ _ (read_none g c),
    )

pub returns-in_err-mend_slots-clause-crash_safe : goal.returns-in_err-mend_slots-clause-crash_safe
returns-in_err-mend_slots-clause-crash_safe g c = mended_crash_safe _ _ false _ _ _ _ (mend_failed g c)

pub returns-in_err-mend_slots-clause-leaves_settled : goal.returns-in_err-mend_slots-clause-leaves_settled
returns-in_err-mend_slots-clause-leaves_settled g c =
    mended_leaves _ _ false _ _ _ _ (mend_failed g c) c.mend_slots.ensures.unwritten

pub returns-in_err-mend_slots-clause-err : goal.returns-in_err-mend_slots-clause-err
returns-in_err-mend_slots-clause-err g c =
    let fault : FailsToLoad DeviceFault (g.D.Disk.state c.args.disk.now) (g.D.Disk.state c.mend_slots.new.disk) =
    mended_costs _ _ false _ _ _ _ (mend_failed g c) in
    search rules

pub returns-clause-read : goal.returns-clause-read
returns-clause-read g c = (mended g c).found

pub returns-clause-settled : goal.returns-clause-settled
returns-clause-settled g c = mended_settles _ _ true _ _ _ _ (mended g c) c.in_ok-mend_slots.ensures.mended

pub returns-clause-costs : goal.returns-clause-costs
returns-clause-costs g c = mended_costs _ _ true _ _ _ _ (mended g c)

pub returns-clause-crash_safe : goal.returns-clause-crash_safe
returns-clause-crash_safe g c = mended_crash_safe _ _ true _ _ _ _ (mended g c)

pub returns-clause-leaves_settled : goal.returns-clause-leaves_settled
returns-clause-leaves_settled g c = mended_leaves _ _ true _ _ _ _ (mended g c) c.mend_slots.ensures.unwritten

pub returns-clause-durable : goal.returns-clause-durable
returns-clause-durable g c = mended_durable _ _ true _ _ _ _ (mended g c)

pub returns-clause-durable_now : goal.returns-clause-durable_now
returns-clause-durable_now g c = mended_durable_now _ _ true _ _ _ _ (mended g c)

pub returns-clause-synced : goal.returns-clause-synced
returns-clause-synced g c = mended_synced _ _ true _ _ _ _ (mended g c) c.in_ok-mend_slots.ensures.synced
