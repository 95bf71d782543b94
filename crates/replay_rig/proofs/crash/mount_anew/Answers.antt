use Rattle.std.proofs.Common.{◌≡◌, ℕ, ◌+◌, true, List, refl, subst, sym, ◌∙◌}
use Rattle.std.specs.Prelude.{Some}
use Rattle.lsvd_objstore.specs.Store.{Becomes}
use Rattle.commit_slot.specs.Slots.{log_of}
use Rattle.stopped_volume.specs.Device.{owner_with}
use Rattle.vol_mount.specs.declared.error.MountError.TheVariants.{OutOfMemory}
use Rattle.vol_mount.specs.Costs.{CostsNewLog}
use Rattle.vol_mount.specs.Epochs.{BeginsEpoch}
use Rattle.vol_mount.specs.Mounted.{IsOfVolume, disk_of}
use Rattle.vol_mount.specs.Mounting.{MountsStored, RefusesNoneStored}
use Rattle.vol_mount.specs.Refusals.{IsWhyLost, is_device_fault}
use Rattle.vol_recover.specs.Describing.{OfVolume, IsWhyFor}
use Rattle.vol_recover.proofs.ForCallers.{FailsToFormatIn, made_lost, not_lost}
use Rattle.replay_rig.specs.Rig.{script_uuid}
use Rattle.replay_rig.proofs.CrashLemmas.{only_memory_anew, mounted_anew}
use Rattle.replay_rig.proofs.crash.mount_anew.Goals as goal
use Rattle.replay_rig.proofs.crash.mount_anew.Goals.{in-OutOfMemory, in_default}

pub prove-unreachable-requires : goal.prove-unreachable-requires
prove-unreachable-requires c =
    let uuid : c.from_bytes.result ≡ script_uuid = c.from_bytes.ensures in
    let disk = c.args.disk in
    let old = Some c.args.store.now in
    let error = c.in-Err.failed.1 in
    let e = not_lost _ _ _ _ _ _ c.in-Err.failed.0 error c.in-Err.ensures in
    let may = c.requires.may in
    let why = subst (λ (u : List ℕ). OfVolume u (log_of disk.size) old (λ g chain n.
    IsWhyFor u old (λ h other m. IsWhyLost u h other m old) g chain n error)) uuid
    (e.why_volume (λ receipt. refl)) in
    let none = subst (λ (u : List ℕ). OfVolume u (log_of disk.size) old (λ g chain n. RefusesNoneStored u g chain old error)) uuid
    (e.no_refusal (λ receipt. refl)) in
    let format = subst (λ (u : List ℕ). FailsToFormatIn u (is_device_fault error) disk c.in-Err.failed.0) uuid e.costs in
    let lacks : error ≡ OutOfMemory =
    only_memory_anew may.0 c.args.store.now disk c.in-Err.failed.0 error c.requires.fails_none may.1 may.2 why none format
    e.faults in
    elim c.match-matches.branch [
      | in-OutOfMemory w ↦ (let same = sym w.matches-is ∙ c.if-prove.true in cc)
      | in_default w ↦ w.in_default.not-OutOfMemory lacks
    ]

pub returns-in-Ok-clause-ok : goal.returns-in-Ok-clause-ok
returns-in-Ok-clause-ok c =
    let uuid : c.from_bytes.result ≡ script_uuid = c.from_bytes.ensures in
    let disk = c.args.disk in
    let mounted = c.in-Ok.mounted in
    let old = c.args.store.now in
    let new = c.mount_lost.new.store in
    let e = made_lost _ _ _ _ _ _ mounted c.in-Ok.ensures in
    mounted_anew disk mounted old new c.requires.fails_none c.requires.blank
    (subst (λ (u : List ℕ). OfVolume u (log_of disk.size) (Some old)
    (λ g chain n. IsOfVolume (owner_with u (n + 1)) g chain mounted)) uuid
    (e.volume (λ receipt. refl)))
    (subst (λ (u : List ℕ). OfVolume u (log_of disk.size) (Some old) (λ g chain n. Becomes (BeginsEpoch u mounted.number (n + 1))
    (Some old) (Some new))) uuid
    (e.begun (λ receipt. refl)))
    (subst (λ (u : List ℕ). (n : ℕ) × CostsNewLog u n true disk (disk_of mounted)) uuid e.costs) e.synced

pub returns-in-Ok-clause-mounts : goal.returns-in-Ok-clause-mounts
returns-in-Ok-clause-mounts c =
    let uuid : c.from_bytes.result ≡ script_uuid = c.from_bytes.ensures in
    let old = Some c.args.store.now in
    subst (λ (u : List ℕ). OfVolume u (log_of c.args.disk.size) old
    (λ g chain n. MountsStored u g chain old c.in-Ok.mounted)) uuid
    ((made_lost _ _ _ _ _ _ c.in-Ok.mounted c.in-Ok.ensures).mounts (λ receipt. refl))

pub returns-in-Ok-clause-number : goal.returns-in-Ok-clause-number
returns-in-Ok-clause-number c = (made_lost _ _ _ _ _ _ c.in-Ok.mounted c.in-Ok.ensures).number
