use Rattle.std.proofs.Common.{◌≡◌, ℕ, List, sym, ◌∙◌, subst}
use Rattle.std.specs.Prelude.{Some}
use Rattle.vol_recover.specs.declared.creating.CreateError.TheVariants.{OutOfMemory}
use Rattle.vol_recover.specs.Creating.{CreatedWithStore, NotCreatedWithStore}
use Rattle.replay_rig.specs.Rig.{script_uuid}
use Rattle.replay_rig.proofs.CrashLemmas.{new_volume, only_memory_to_create}
use Rattle.replay_rig.proofs.crash.create_volume.Goals as goal
use Rattle.replay_rig.proofs.crash.create_volume.Goals.{in-OutOfMemory, in_default}

pub prove-unreachable-requires : goal.prove-unreachable-requires
prove-unreachable-requires c =
    let uuid : c.from_bytes.result ≡ script_uuid = c.from_bytes.ensures in
    let disk = c.args.disk in
    let old = c.args.store.now in
    let new = c.create.new.store in
    let left = c.in-Err.failed.0 in
    let error = c.in-Err.failed.1 in
    let none =
    subst (λ (u : List ℕ). NotCreatedWithStore u c.args.geometry disk left (Some old) (Some new) error) uuid
    c.in-Err.ensures.none in
    let lacks : error ≡ OutOfMemory =
    only_memory_to_create c.args.geometry disk left old new error c.requires.fails_none c.requires.empty none
    c.in-Err.ensures.faults in
    elim c.match-matches.branch [
      | in-OutOfMemory w ↦ (let same = sym w.matches-is ∙ c.if-prove.true in cc)
      | in_default w ↦ w.in_default.not-OutOfMemory lacks
    ]

pub returns-in-Ok : goal.returns-in-Ok
returns-in-Ok c =
    let uuid : c.from_bytes.result ≡ script_uuid = c.from_bytes.ensures in
    let volume = c.in-Ok.volume in
    let old = c.args.store.now in
    let new = c.create.new.store in
    new_volume c.args.geometry c.args.disk volume old new c.requires.fails_none c.requires.blank c.requires.empty
    (subst (λ (u : List ℕ). CreatedWithStore u c.args.geometry c.args.disk (Some old) (Some new) volume) uuid
    c.in-Ok.ensures.made)
