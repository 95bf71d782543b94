use Rattle.std.proofs.Common.{rules, ◌*◌, ◌<◌, [], ◌∷◌, subst}
use Rattle.std.specs.List.{All}
use Rattle.lsvd_device.specs.Device.{DiskState}
use Rattle.commit_slot.specs.Commits.{CommitsState}
use Rattle.commit_slot.specs.Loading.{FailsToLoad}
use Rattle.cache_log.specs.Opening.{IsBadLog, entry_count}
use Rattle.cache_log.specs.Reads.{AreReadOnly, opens_without_fault}
use Rattle.vol_core.specs.Shows.{max_number}
use Rattle.vol_mount.specs.Refusals.{IsFirstGreat}
use Rattle.vol_mount.proofs.OpenLemmas.{not_loaded, not_taken, not_opened, worn_left, opened_of}
use Rattle.vol_mount.proofs.opening.open_log.Goals as goal

-- ---- the commits were not loaded

pub returns-in-Err-clause-err : goal.returns-in-Err-clause-err
returns-in-Err-clause-err g c =
    let old : DiskState = g.D.Disk.state c.args.disk in
    let new : DiskState = g.D.Disk.state c.in-Err.disk in
    let fails : FailsToLoad c.in-Err.error old new = c.in-Err.ensures.err in
    not_loaded c.args.known.now.uuid c.args.known.now.geometry c.args.known.now.epoch c.args.known.now.end
    c.args.known.now.greatest old c.requires.log c.in-Err.error c.into.result new c.into.ensures fails
    c.in-Err.ensures.err_crash_safe c.in-Err.ensures.err_settled

-- ---- the last commit is refused

pub returns-in-Some-clause-err : goal.returns-in-Some-clause-err
returns-in-Some-clause-err g c =
    not_taken c.args.known.now.uuid c.args.known.now.geometry c.args.known.now.epoch c.args.known.now.end
    c.args.known.now.greatest
    (g.D.Disk.state c.args.disk) c.requires.log c.in-Ok.commits c.in-Ok.ensures.ok
    c.in-Ok.ensures.costs c.in-Ok.ensures.settled c.in-Ok.ensures.crash_safe c.in-Some.refusal (g.D.Disk.state c.into_disk.result)
    c.into_disk.ensures.same c.in-Some.ensures.some

-- ---- the log was not opened

pub returns-in-Err-open-clause-err : goal.returns-in-Err-open-clause-err
returns-in-Err-open-clause-err g c =
    let commits : CommitsState = c.in-Ok.commits in
    let bad : IsBadLog c.args.known.now.geometry commits.body commits.disk.moments c.in-Err-open.error =
    c.in-Err-open.ensures.bad in
    let reads : AreReadOnly (2 * entry_count commits.body) (opens_without_fault c.in-Err-open.error) commits
    c.in-Err-open.commits =
    c.in-Err-open.ensures.err in
    not_opened c.args.known.now.uuid c.args.known.now.geometry c.args.known.now.epoch c.args.known.now.end
    c.args.known.now.greatest
    (g.D.Disk.state c.args.disk) c.requires.log commits c.in-Ok.ensures.ok c.in-Ok.ensures.costs
    c.in-Ok.ensures.settled c.in-Ok.ensures.crash_safe c.in_default.ensures.none c.in-Err-open.error c.into-in-Err-open.result
    c.in-Err-open.commits
    (g.D.Disk.state c.into_disk-in-Err-open.result) c.into-in-Err-open.ensures c.into_disk-in-Err-open.ensures.same bad reads

-- ---- it was opened, and is worn out or not

pub returns-in-Some-worn_number-clause-err : goal.returns-in-Some-worn_number-clause-err
returns-in-Some-worn_number-clause-err g c =
    worn_left c.args.known.now.uuid c.args.known.now.geometry c.args.known.now.epoch c.args.known.now.end
    c.args.known.now.greatest
    (g.D.Disk.state c.args.disk) c.requires.log c.in-Ok.commits c.in-Ok.ensures.ok
    c.in-Ok.ensures.costs c.in-Ok.ensures.settled c.in-Ok.ensures.crash_safe c.in_default.ensures.none c.in-Ok-open.log
    c.in-Ok-open.ensures.ok c.in-Some-worn_number.value
    c.max-count.result
    (g.D.Disk.state c.into_disk-in-Some-worn_number.result) c.into_disk-in-Some-worn_number.ensures.same (search rules)
    (subst (λ n. IsFirstGreat (n ∷ c.args.known.now.epoch ∷ c.args.known.now.greatest ∷ c.max-count.result ∷ [])
    c.in-Some-worn_number.value)
    c.number.ensures c.in-Some-worn_number.ensures.some)

pub returns-in-None-clause-ok : goal.returns-in-None-clause-ok
returns-in-None-clause-ok g c =
    opened_of c.args.known.now.uuid c.args.known.now.geometry c.args.known.now.epoch c.args.known.now.end
    c.args.known.now.greatest
    (g.D.Disk.state c.args.disk) c.requires.log c.in-Ok.commits c.in-Ok.ensures.ok
    c.in-Ok.ensures.costs c.in-Ok.ensures.settled c.in-Ok.ensures.crash_safe c.in_default.ensures.none c.in-Ok-open.log
    c.in-Ok-open.ensures.ok c.max-count.result
    c.refusal_of.ensures.may_stand (search rules)
    (subst (λ n. All (λ k. k < max_number) (n ∷ c.args.known.now.epoch ∷ c.args.known.now.greatest ∷ c.max-count.result ∷ []))
    c.number.ensures
    c.in-None.ensures.none)
