-- Of `with_disk`: commits outlast a change of what their disk still passes.
use Rattle.std.proofs.Common.{◌≡◌, ℕ, sym, subst, ap}
use Rattle.std.specs.Prelude.{Option}
use Rattle.lsvd_device.specs.Device.{DiskState}
use Rattle.commit_body.specs.declared.body.CommitBody.{CommitBody}
use Rattle.commit_slot.specs.Commits.{CommitsState, with_budget}
use Rattle.commit_slot.specs.States.{AreCommits}
use Rattle.commit_slot.specs.Lending.{ChangesBudgetAlone}

pub same_commits : (number : ℕ) (body : CommitBody) (unfinished : Option CommitBody) (old new : DiskState)
    → ChangesBudgetAlone old new
    → AreCommits number body unfinished old → AreCommits number body unfinished new
same_commits number body unfinished old new same are =
    let P : DiskState → Type 0 = λ d. AreCommits number body unfinished d in
    subst P (sym same) (record {
      stand = are.stand;
      is_disk = record { fits = are.is_disk.fits; media = are.is_disk.media };
      size = are.size;
      may_stand = are.may_stand;
      next = are.next;
    })

pub same_view : (commits : CommitsState) (new : DiskState) → ChangesBudgetAlone commits.disk new
    → record { number = commits.number; body = commits.body; unfinished = commits.unfinished; disk = new }
    ≡ with_budget new.budget commits
same_view commits new same =
    let P : DiskState → CommitsState = λ d. record {
      number = commits.number;
      body = commits.body;
      unfinished =
          commits.unfinished;
      disk = d;
    } in
    ap P same
