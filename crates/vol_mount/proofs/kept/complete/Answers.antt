use Rattle.std.proofs.Common.{◌≡◌, ◌-◌, ◌≤◌, true, false, List, length, drop, sym, ◌∙◌, ap, subst, refl}
use Rattle.std.specs.Prelude.{IfSome, not}
use Rattle.std.specs.List.{sum_by}
use Rattle.log_room.specs.Room.{max_log}
use Rattle.lsvd_fault.specs.Faults.{Counts}
use Rattle.commit_slot.specs.Loading.{MakesAtMost}
use Rattle.cache_log.specs.declared.row.Row.{Row}
use Rattle.cache_log.specs.Rows.{record_size}
use Rattle.cache_log.specs.Reads.{reads_without_fault}
use Rattle.cache_log.specs.Log.{AreRowsOf, IsTrimmed, IsReadOnly}
use Rattle.vol_mount.specs.Refusals.{IsFault, is_device_fault, is_store_fault_of}
use Rattle.vol_mount.specs.Costs.{again_cost}
use Rattle.vol_mount.specs.Steps.{LeavesFrom}
use Rattle.vol_mount.proofs.StoreLemmas.{none_removed}
use Rattle.vol_mount.proofs.RecoveryLemmas.{no_device_fault, removal_faults, counts_on}
use Rattle.vol_mount.proofs.OutcomeLemmas.{read_faults, read_passes, read_stores_none}
use Rattle.vol_mount.proofs.CompleteLemmas.{all_rows_are, all_told, rows_have_room, read_alone, leaves_alone, again_calls}
use Rattle.vol_mount.proofs.CompleteLemmas.{leaves_again, same_list, released_again, made_again, added_from}
use Rattle.vol_mount.proofs.kept.complete.Given as given
use Rattle.vol_mount.proofs.kept.complete.Goals.{In-Ok, In-Err}
use Rattle.vol_mount.proofs.kept.complete.Goals as goal

-- ---- what is trimmed and read

-- the end of the list is asked of it
end_failed : (g : given.Over) (c : In-Err g) → c.end-end.result ≡ c.args.recovered.log.uploads.queue.end
end_failed g c = cc (c.end-end.ensures, c.uploads.ensures, c.log.ensures)

trims_failed : (g : given.Over) (c : In-Err g) → IsTrimmed c.args.recovered.log.uploads.queue.end c.args.log.now
    c.trim_to.new.self
trims_failed g c = subst (λ end. IsTrimmed end c.args.log.now c.trim_to.new.self) (end_failed g c) c.trim_to.ensures

fails : (g : given.Over) (c : In-Err g)
    → IsReadOnly (length c.trim_to.new.self.rows - (c.args.recovered.log.uploads.queue.end - c.trim_to.new.self.first))
    (reads_without_fault c.in-Err.error)
    c.trim_to.new.self c.entries_from.new.self
fails g c =
    subst (λ end. IsReadOnly (length c.trim_to.new.self.rows - (end - c.trim_to.new.self.first))
    (reads_without_fault c.in-Err.error)
    c.trim_to.new.self c.entries_from.new.self)
    (end_failed g c) c.in-Err.ensures.err

end_is : (g : given.Over) (c : In-Ok g) → c.end-end.result ≡ c.args.recovered.log.uploads.queue.end
end_is g c = cc (c.end-end.ensures, c.uploads.ensures, c.log.ensures)

trims : (g : given.Over) (c : In-Ok g) → IsTrimmed c.args.recovered.log.uploads.queue.end c.args.log.now
    c.trim_to.new.self
trims g c = subst (λ end. IsTrimmed end c.args.log.now c.trim_to.new.self) (end_is g c) c.trim_to.ensures

reads : (g : given.Over) (c : In-Ok g)
    → IsReadOnly (length c.trim_to.new.self.rows - (c.args.recovered.log.uploads.queue.end - c.trim_to.new.self.first))
    true c.trim_to.new.self c.entries_from.new.self
reads g c =
    subst (λ end. IsReadOnly (length c.trim_to.new.self.rows - (end - c.trim_to.new.self.first)) true c.trim_to.new.self
    c.entries_from.new.self)
    (end_is g c) c.in-Ok.ensures.ok

rows_read : (g : given.Over) (c : In-Ok g) → AreRowsOf c.trim_to.new.self.rows c.in-Ok.entries.items
rows_read g c =
    let opened = c.requires.opened in
    all_rows_are c.args.recovered.log.batch.geometry c.args.recovered.log.uploads.queue.end opened.0 c.args.log.now
    c.trim_to.new.self
    c.requires.limits
    opened.1 (trims g c) c.in-Ok.entries.items
    (subst (λ end. AreRowsOf (drop (end - c.trim_to.new.self.first) c.trim_to.new.self.rows) c.in-Ok.entries.items)
    (end_is g c)
    c.in-Ok.ensures.rows)

told_read : (g : given.Over) (c : In-Ok g)
    → IfSome c.trim_to.new.self.entries (λ all. all ≡ c.in-Ok.entries.items)
told_read g c =
    let opened = c.requires.opened in
    all_told c.args.recovered.log.batch.geometry c.args.recovered.log.uploads.queue.end opened.0 c.args.log.now c.trim_to.new.self
    c.requires.limits
    opened.1 (trims g c) c.in-Ok.entries.items
    (subst (λ end. IfSome c.trim_to.new.self.entries (λ all. c.in-Ok.entries.items ≡ drop (end - c.trim_to.new.self.first)
    all)) (end_is g c)
    c.in-Ok.ensures.entries)

-- where nothing more was done
stops_there : (g : given.Over) (c : In-Ok g)
    → LeavesFrom c.args.recovered.log.uploads.queue.end c.args.log.now c.entries_from.new.self.commits.disk
stops_there g c =
    let opened = c.requires.opened in
    leaves_alone c.args.recovered.log.batch.geometry c.args.recovered.log.uploads.queue.end opened.0 c.args.log.now
    c.trim_to.new.self
    c.requires.limits opened.1
    (trims g c) c.entries_from.new.self true (reads g c)

calls_there : (g : given.Over) (c : In-Ok g)
    → MakesAtMost (again_cost (length c.args.log.now.rows)) true c.args.log.now.commits.disk c.entries_from.new.self.commits.disk
calls_there g c =
    let opened = c.requires.opened in
    read_alone c.args.recovered.log.batch.geometry c.args.recovered.log.uploads.queue.end opened.0 c.args.log.now
    c.trim_to.new.self
    c.requires.limits opened.1
    (trims g c) c.entries_from.new.self true (reads g c)

-- ---- the entries were not read

pub returns-in-Err-clause-stops : goal.returns-in-Err-clause-stops
returns-in-Err-clause-stops g c =
    let before = (goal.at.returns-in-Err-clause-stops g c).In-Err in
    let opened = c.requires.opened in
    leaves_alone c.args.recovered.log.batch.geometry c.args.recovered.log.uploads.queue.end opened.0 c.args.log.now
    c.trim_to.new.self
    c.requires.limits opened.1
    (trims_failed g before) c.entries_from.new.self (reads_without_fault c.in-Err.error) (fails g before)

pub returns-in-Err-clause-calls : goal.returns-in-Err-clause-calls
returns-in-Err-clause-calls g c =
    let before = (goal.at.returns-in-Err-clause-calls g c).In-Err in
    let opened = c.requires.opened in
    let error = c.in-Err.error in
    subst (λ made. MakesAtMost (again_cost (length c.args.log.now.rows)) made c.args.log.now.commits.disk
    c.entries_from.new.self.commits.disk)
    (read_passes error ∙ sym (ap (λ e. not (is_device_fault e)) c.into.ensures))
    (read_alone c.args.recovered.log.batch.geometry c.args.recovered.log.uploads.queue.end opened.0 c.args.log.now
    c.trim_to.new.self
    c.requires.limits opened.1
    (trims_failed g before) c.entries_from.new.self (reads_without_fault error) (fails g before))

pub returns-in-Err-clause-some : goal.returns-in-Err-clause-some
returns-in-Err-clause-some g c =
    none_removed c.args.recovered.log.uploads.uuid c.args.recovered.log.uploads.window.last
    (g.S.Store.state c.args.store.now).objects _ refl

pub returns-in-Err-clause-err : goal.returns-in-Err-clause-err
returns-in-Err-clause-err g c =
    subst IsFault (sym c.into.ensures) (read_faults c.in-Err.error)

pub returns-in-Err-clause-faults : goal.returns-in-Err-clause-faults
returns-in-Err-clause-faults g c =
    let faults = (g.S.Store.state c.args.store.now).faults in
    subst (λ b. Counts b faults faults) (sym (ap is_store_fault_of c.into.ensures ∙ read_stores_none c.in-Err.error)) refl

-- ---- the objects were not removed

pub returns-in-Err-remove_past-clause-stops : goal.returns-in-Err-remove_past-clause-stops
returns-in-Err-remove_past-clause-stops g c = stops_there g (goal.at.returns-in-Err-remove_past-clause-stops g c).In-Ok

pub returns-in-Err-remove_past-clause-calls : goal.returns-in-Err-remove_past-clause-calls
returns-in-Err-remove_past-clause-calls g c =
    let error = c.in-Err-remove_past.error in
    let passes = sym (ap (λ e. not (is_device_fault e)) c.into-in-Err-remove_past.ensures) in
    subst (λ made. MakesAtMost (again_cost (length c.args.log.now.rows)) made c.args.log.now.commits.disk
    c.entries_from.new.self.commits.disk)
    (sym (ap not (no_device_fault error)) ∙ passes)
    (calls_there g (goal.at.returns-in-Err-remove_past-clause-calls g c).In-Ok)

pub returns-in-Err-remove_past-clause-err : goal.returns-in-Err-remove_past-clause-err
returns-in-Err-remove_past-clause-err g c =
    subst IsFault (sym c.into-in-Err-remove_past.ensures)
    (removal_faults c.in-Err-remove_past.error c.in-Err-remove_past.ensures.answer)

pub returns-in-Err-remove_past-clause-faults : goal.returns-in-Err-remove_past-clause-faults
returns-in-Err-remove_past-clause-faults g c =
    counts_on c.into-in-Err-remove_past.result c.in-Err-remove_past.error (g.S.Store.state c.args.store.now).faults
    (g.S.Store.state c.args.store.now).faults (g.S.Store.state c.remove_past.new.store).faults
    c.into-in-Err-remove_past.ensures refl
    c.in-Err-remove_past.ensures.faults

-- ---- the entries were added, or not

pub add_all-requires-clause-rows : goal.add_all-requires-clause-rows
add_all-requires-clause-rows g c =
    let before = (goal.at.add_all-requires-clause-rows g c).In-Ok in
    subst (λ rows. AreRowsOf rows c.in-Ok.entries.items) (sym (reads g before).same.rows) (rows_read g before)

pub add_all-requires-clause-room : goal.add_all-requires-clause-room
add_all-requires-clause-room g c =
    let before = (goal.at.add_all-requires-clause-room g c).In-Ok in
    let opened = c.requires.opened in
    let room = rows_have_room c.args.recovered.log.batch.geometry c.args.recovered.log.uploads.queue.end opened.0 c.args.log.now
    c.trim_to.new.self
    c.requires.limits
    opened.1 (trims g before) in
    subst (λ (rows : List Row). sum_by record_size rows ≤ max_log) (sym (reads g before).same.rows) room

pub returns-in-Err-add_all-clause-stops : goal.returns-in-Err-add_all-clause-stops
returns-in-Err-add_all-clause-stops g c = stops_there g (goal.at.returns-in-Err-add_all-clause-stops g c).In-Ok

pub returns-in-Err-add_all-clause-calls : goal.returns-in-Err-add_all-clause-calls
returns-in-Err-add_all-clause-calls g c =
    subst (λ made. MakesAtMost (again_cost (length c.args.log.now.rows)) made c.args.log.now.commits.disk
    c.entries_from.new.self.commits.disk)
    (ap (λ e. not (is_device_fault e)) (sym c.in-Err-add_all.ensures.memory))
    (calls_there g (goal.at.returns-in-Err-add_all-clause-calls g c).In-Ok)

pub returns-in-Err-add_all-clause-err : goal.returns-in-Err-add_all-clause-err
returns-in-Err-add_all-clause-err g c =
    subst IsFault (sym c.in-Err-add_all.ensures.memory) tt

pub returns-in-Err-add_all-clause-faults : goal.returns-in-Err-add_all-clause-faults
returns-in-Err-add_all-clause-faults g c =
    subst (λ b. Counts b (g.S.Store.state c.args.store.now).faults (g.S.Store.state c.remove_past.new.store).faults)
    (sym (ap is_store_fault_of c.in-Err-add_all.ensures.memory)) c.in_default.ensures.faults

-- ---- the log was not committed

pub returns-in-Err-commit-clause-stops : goal.returns-in-Err-commit-clause-stops
returns-in-Err-commit-clause-stops g c =
    let before = (goal.at.returns-in-Err-commit-clause-stops g c).In-Ok in
    let opened = c.requires.opened in
    leaves_again c.args.recovered.log.batch.geometry c.args.recovered.log.uploads.queue.end opened.0 c.args.log.now
    c.trim_to.new.self
    c.requires.limits opened.1
    (trims g before) c.entries_from.new.self c.commit.new.self (reads g before) c.commit.ensures.stands

pub returns-in-Err-commit-clause-calls : goal.returns-in-Err-commit-clause-calls
returns-in-Err-commit-clause-calls g c =
    let before = (goal.at.returns-in-Err-commit-clause-calls g c).In-Ok in
    let opened = c.requires.opened in
    subst (λ made. MakesAtMost (again_cost (length c.args.log.now.rows)) made c.args.log.now.commits.disk
    c.commit.new.self.commits.disk)
    (sym (ap (λ e. not (is_device_fault e)) c.into-in-Err-commit.ensures))
    (again_calls c.args.recovered.log.batch.geometry c.args.recovered.log.uploads.queue.end opened.0 c.args.log.now
    c.trim_to.new.self
    c.requires.limits opened.1
    (trims g before) c.entries_from.new.self c.commit.new.self (reads g before) false c.in-Err-commit.ensures.calls.calls)

pub returns-in-Err-commit-clause-err : goal.returns-in-Err-commit-clause-err
returns-in-Err-commit-clause-err g c =
    subst IsFault (sym c.into-in-Err-commit.ensures) tt

pub returns-in-Err-commit-clause-faults : goal.returns-in-Err-commit-clause-faults
returns-in-Err-commit-clause-faults g c =
    subst (λ b. Counts b (g.S.Store.state c.args.store.now).faults (g.S.Store.state c.remove_past.new.store).faults)
    (sym (ap is_store_fault_of c.into-in-Err-commit.ensures)) c.in_default.ensures.faults

-- ---- it was committed

pub returns-clause-stops : goal.returns-clause-stops
returns-clause-stops g c =
    let before = (goal.at.returns-clause-stops g c).In-Ok in
    let opened = c.requires.opened in
    leaves_again c.args.recovered.log.batch.geometry c.args.recovered.log.uploads.queue.end opened.0 c.args.log.now
    c.trim_to.new.self
    c.requires.limits opened.1
    (trims g before) c.entries_from.new.self c.commit.new.self (reads g before) c.commit.ensures.stands

pub returns-clause-calls : goal.returns-clause-calls
returns-clause-calls g c =
    let before = (goal.at.returns-clause-calls g c).In-Ok in
    let opened = c.requires.opened in
    again_calls c.args.recovered.log.batch.geometry c.args.recovered.log.uploads.queue.end opened.0 c.args.log.now
    c.trim_to.new.self
    c.requires.limits opened.1
    (trims g before) c.entries_from.new.self c.commit.new.self (reads g before) true c.in_default-commit.ensures.calls.calls

pub returns-clause-ok : goal.returns-clause-ok
returns-clause-ok g c =
    let before = (goal.at.returns-clause-ok g c).In-Ok in
    let opened = c.requires.opened in
    let geometry = c.args.recovered.log.batch.geometry in
    let end = c.args.recovered.log.uploads.queue.end in
    let trimmed = c.trim_to.new.self in
    let read = c.entries_from.new.self in
    let new = c.commit.new.self in
    let done = reads g before in
    record {
      trimmed = trimmed;
      trims = trims g before;
      entries = c.in-Ok.entries.items;
      rows = rows_read g before;
      told = told_read g before;
      added = λ row_of_none. added_from trimmed read done.same.rows done.same.first row_of_none c.in-Ok.entries.items
          c.into_log-objects.result
          c.args.recovered.log c.add_all.new.objects c.into_log-objects.ensures (c.in_default-add_all.ensures.added row_of_none);
      same = same_list geometry end opened.0 c.args.log.now trimmed c.requires.limits opened.1 (trims g before) read new done
          c.commit.ensures.same;
      released =
          released_again geometry end opened.0 c.args.log.now trimmed c.requires.limits opened.1 (trims g before) read new done
          c.commit.ensures.released;
      made =
          made_again geometry end opened.0 c.args.log.now trimmed c.requires.limits opened.1 (trims g before) read new done
          c.in_default-commit.ensures.ok.commits.made;
      numbered = c.commit.ensures.on_disk.numbered;
      synced = c.in_default-commit.ensures.ok.commits.synced;
      is_disk = c.commit.ensures.on_disk.commits.is_disk;
    }
