use Rattle.std.proofs.Common.{◌≡◌, ℕ, List, refl, subst, sym, ◌∙◌}
use Rattle.std.specs.Prelude.{Some}
use Rattle.lsvd_objstore.specs.Store.{Becomes}
use Rattle.commit_slot.specs.Slots.{log_of}
use Rattle.stopped_volume.specs.Device.{owner_with}
use Rattle.object_recovery.specs.Recovery.{RemovesAllPast}
use Rattle.vol_mount.specs.declared.error.MountError.TheVariants.{OutOfMemory}
use Rattle.vol_mount.specs.Mounted.{IsOfVolume, disk_of}
use Rattle.vol_mount.specs.Mounting.{MountsLeft, KeepsLeft, RefusesNoneLeft}
use Rattle.vol_mount.specs.Refusals.{IsWhyNotLeft}
use Rattle.vol_recover.specs.Describing.{OfVolume, IsWhyFor}
use Rattle.vol_recover.proofs.ForCallers.{made_kept, not_kept}
use Rattle.replay_rig.specs.Rig.{script_uuid}
use Rattle.replay_rig.proofs.CrashLemmas.{only_memory_left, mounted_again}
use Rattle.replay_rig.proofs.crash.mount_again.Goals as goal
use Rattle.replay_rig.proofs.crash.mount_again.Goals.{in-OutOfMemory, in_default}

pub prove-unreachable-requires : goal.prove-unreachable-requires
prove-unreachable-requires c =
    let uuid : c.from_bytes.result ≡ script_uuid = c.from_bytes.ensures in
    let disk = c.args.disk in
    let old = Some c.args.store.now in
    let error = c.in-Err.failed.1 in
    let e = not_kept _ _ _ _ _ _ c.in-Err.failed.0 error c.in-Err.ensures in
    let may = c.requires.may in
    let why = subst (λ (u : List ℕ). OfVolume u (log_of disk.size) old (λ g chain n.
    IsWhyFor u old (λ h other m. IsWhyNotLeft (owner_with u m) h other old disk) g chain n error)) uuid
    (e.why_volume (λ receipt. refl)) in
    let none =
    subst (λ (u : List ℕ). OfVolume u (log_of disk.size) old (λ g chain n. RefusesNoneLeft
    (owner_with u n) g chain old disk error)) uuid
    (e.no_refusal (λ receipt. refl)) in
    let lacks : error ≡ OutOfMemory =
    only_memory_left may.0 c.args.store.now disk c.in-Err.failed.0 error c.requires.fails_none may.1 why none e.costs
    e.faults in
    elim c.match-matches.branch [
      | in-OutOfMemory w ↦ (let same = sym w.matches-is ∙ c.if-prove.true in cc)
      | in_default w ↦ w.in_default.not-OutOfMemory lacks
    ]

pub returns-in-Ok-clause-ok : goal.returns-in-Ok-clause-ok
returns-in-Ok-clause-ok c =
    let uuid : c.from_bytes.result ≡ script_uuid = c.from_bytes.ensures in
    let disk = c.args.disk in
    let mounted = c.in-Ok.mounted in
    let old = c.args.store.now in
    let new = c.mount_kept.new.store in
    let e = made_kept _ _ _ _ _ _ mounted c.in-Ok.ensures in
    let may = c.requires.may in
    mounted_again may.0 disk mounted old new c.requires.fails_none may.1
    (subst (λ (u : List ℕ). OfVolume u (log_of disk.size) (Some old) (λ g chain n. IsOfVolume
    (owner_with u n) g chain mounted)) uuid
    (e.volume (λ receipt. refl)))
    (subst (λ (u : List ℕ). Becomes (RemovesAllPast u mounted.number) (Some old) (Some new)) uuid e.removed)
    (subst (λ (u : List ℕ). OfVolume u (log_of disk.size) (Some old)
    (λ g chain n. KeepsLeft (owner_with u n) g chain (Some old) disk (disk_of mounted)))
    uuid
    (e.stops (λ receipt. refl))) e.costs e.synced

pub returns-in-Ok-clause-mounts : goal.returns-in-Ok-clause-mounts
returns-in-Ok-clause-mounts c =
    let uuid : c.from_bytes.result ≡ script_uuid = c.from_bytes.ensures in
    let disk = c.args.disk in
    let old = Some c.args.store.now in
    subst (λ (u : List ℕ). OfVolume u (log_of disk.size) old (λ g chain n. MountsLeft
    (owner_with u n) g chain old disk c.in-Ok.mounted)) uuid
    ((made_kept _ _ _ _ _ _ c.in-Ok.mounted c.in-Ok.ensures).mounts (λ receipt. refl))

pub returns-in-Ok-clause-number : goal.returns-in-Ok-clause-number
returns-in-Ok-clause-number c = (made_kept _ _ _ _ _ _ c.in-Ok.mounted c.in-Ok.ensures).number
