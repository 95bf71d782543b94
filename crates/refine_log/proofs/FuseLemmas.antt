-- Calls get as far as some fuse lets them.
use Rattle.std.proofs.Common.{◌≡◌, ℕ, ◌+◌, ◌*◌, ◌<◌, ◌≤◌, ◌⊎◌, ◌==◌, Bool, true, false, cond, [], ◌∷◌, length, refl, sym, ◌∙◌, ap}
use Rattle.std.proofs.Common.{inl, inr, arith}
use Rattle.std.specs.Prelude.{Option, Some, None}
use Rattle.std.proofs.lemmas.Bool.{cases_lt}
use Rattle.lsvd_base.specs.declared.entry.Entry.{Entry}
use Rattle.commit_body.specs.declared.body.CommitBody.{CommitBody}
use Rattle.lsvd_device.specs.Calls.{Fuse, Budget, Cost, together, write_cost, passes, fuse_after, Takes}
use Rattle.lsvd_device.specs.Device.{DiskState, MakesCalls}
use Rattle.lsvd_device.specs.Memory.{HasRoom}
use Rattle.log_room.specs.Room.{sector_bytes, pad_before, record_sectors}
use Rattle.commit_slot.specs.Commits.{CommitsState, IsAsBefore, IsFinished, first_half_cost, finish_cost, commit_cost}
use Rattle.commit_slot.specs.Commits.{finished_number, finished_body, FailsIn}
use Rattle.cache_log.specs.Log.{LogState, append_cost}
use Rattle.cache_log.specs.Committed.{body_of}
use Rattle.plain_disk.specs.declared.cache.PendingWrite.TheVariants.{Pad, Record}
use Rattle.plain_disk.specs.Log.{PlainLog, next_seq, room_in}
use Rattle.plain_disk.specs.Cache.{writes_of}
use Rattle.refine_log.specs.Fuses.{fuse_in, calls_to_finish, LetsCommit}
use Rattle.refine_log.specs.Laws.{IsToldFuse, MadeCommitHasFuse, FailedCommitHasFuse, EntryHasFuse}

-- ---- what a disk tells

room_or : (cost : Cost) (budget : Option Budget) → HasRoom cost.changes cost.bytes budget
    ⊎ (HasRoom cost.changes cost.bytes budget → ⊥)
room_or cost None = inr (λ room. room)
room_or cost (Some budget) =
    elim (cases_lt budget.calls cost.changes) [
      | inl few ↦ inr (λ room. (let most = room.0 in omega (arith, few, most)))
      | inr calls ↦ elim (cases_lt budget.bytes cost.bytes) [
        | inl few ↦ inr (λ room. (let most = room.1 in omega (arith, few, most)))
        | inr bytes ↦ inl (calls, bytes)
      ]
    ]

room_for_less : (cost less : Cost) (budget : Option Budget) → less.changes ≤ cost.changes → less.bytes ≤ cost.bytes
    → HasRoom cost.changes cost.bytes budget
    → HasRoom less.changes less.bytes budget
room_for_less cost less None changes bytes room = room
room_for_less cost less (Some budget) changes bytes room =
    (let a = room.0 in let b = room.1 in (omega (arith, a, changes), omega (arith, b, bytes)))

-- what calls within the room take of the fuse
record TakesOfFuse (cost : Cost) (is_made : Bool) (before after : Option Budget) : Type 0 where
  made : passes (fuse_in before) cost.calls ≡ is_made
  fuse : fuse_in after ≡ fuse_after (fuse_in before) cost.calls

of_fuse : (cost : Cost) (is_made : Bool) (before after : Option Budget) → Takes cost is_made before after
    → HasRoom cost.changes cost.bytes before
    → TakesOfFuse cost is_made before after
of_fuse cost is_made None after takes room = absurd room
of_fuse cost is_made (Some budget) after takes room =
    let within = takes.2 room.0 room.1 in
    record { made = sym within.made; fuse = ap fuse_in takes.1 ∙ within.fuse }

-- a fuse is told that is the disk's, and none where the disk has no room
told : (cost : Cost) (is_made : Bool) (old new : DiskState) → MakesCalls cost is_made old new
    → IsToldFuse (fuse_in old.budget) cost old new
told cost is_made old new makes = λ room. (refl, (of_fuse cost is_made old.budget new.budget makes.budget room).fuse)

not_told : (fuse : Fuse) (cost : Cost) (old new : DiskState) → (HasRoom cost.changes cost.bytes old.budget → ⊥)
    → IsToldFuse fuse cost old new
not_told fuse cost old new none = λ room. absurd (none room)

-- ---- the calls of a commit

-- a disk has room for a commit
abbrev HasRoomForCommit : (unfinished : Option CommitBody) → Option Budget → Type 0
HasRoomForCommit unfinished budget = HasRoom (commit_cost unfinished).changes (commit_cost unfinished).bytes budget

calls_are : (unfinished : Option CommitBody) → (finish_cost unfinished).calls ≡ calls_to_finish unfinished
calls_are None = refl
calls_are (Some body) = refl

-- those up to its first half
abbrev begin_cost : Option CommitBody → Cost
begin_cost unfinished = together (finish_cost unfinished) first_half_cost

-- what a fuse passes of the calls of a commit, where the disk has room for them
passed_first : (unfinished : Option CommitBody) (is_made : Bool) (old new : DiskState)
    → MakesCalls (finish_cost unfinished) is_made old new
    → HasRoom (commit_cost unfinished).changes (commit_cost unfinished).bytes old.budget
    → passes (fuse_in old.budget) (calls_to_finish unfinished) ≡ is_made
passed_first unfinished is_made old new makes room =
    ap (passes (fuse_in old.budget)) (sym (calls_are unfinished))
    ∙ (of_fuse (finish_cost unfinished) is_made old.budget new.budget makes.budget
    (room_for_less (commit_cost unfinished) (finish_cost unfinished) old.budget (omega arith) (omega arith) room)).made

passed_begin : (unfinished : Option CommitBody) (is_made : Bool) (old new : DiskState)
    → MakesCalls (begin_cost unfinished) is_made old new
    → HasRoom (commit_cost unfinished).changes (commit_cost unfinished).bytes old.budget
    → passes (fuse_in old.budget) (calls_to_finish unfinished + 3) ≡ is_made
passed_begin unfinished is_made old new makes room =
    ap (λ n. passes (fuse_in old.budget) (n + 3)) (sym (calls_are unfinished))
    ∙ (of_fuse (begin_cost unfinished) is_made old.budget new.budget makes.budget
    (room_for_less (commit_cost unfinished) (begin_cost unfinished) old.budget (omega arith) (omega arith) room)).made

passed_whole : (unfinished : Option CommitBody) (is_made : Bool) (old new : DiskState)
    → MakesCalls (commit_cost unfinished) is_made old new
    → HasRoom (commit_cost unfinished).changes (commit_cost unfinished).bytes old.budget
    → passes (fuse_in old.budget) (calls_to_finish unfinished + 5) ≡ is_made
passed_whole unfinished is_made old new makes room =
    ap (λ n. passes (fuse_in old.budget) (n + 5)) (sym (calls_are unfinished))
    ∙ (of_fuse (commit_cost unfinished) is_made old.budget new.budget makes.budget room).made

-- ---- a commit that was made

pub made_commit_has_fuse : MadeCommitHasFuse
made_commit_has_fuse old new costs =
    let unfinished : Option CommitBody = old.commits.unfinished in
    let before : DiskState = old.commits.disk in
    let after : DiskState = new.commits.disk in
    elim (room_or (commit_cost unfinished) before.budget) [
      | inl room ↦
          record {
            fuse = fuse_in before.budget;
            lets = passed_whole unfinished true before after costs.calls room;
            told = told (commit_cost unfinished) true before after costs.calls;
          }
      | inr none ↦ record { fuse = None; lets = refl; told = not_told None (commit_cost unfinished) before after none }
    ]

-- ---- a commit that failed

passes_own : (n : ℕ) → passes (Some n) n ≡ true
passes_own n = grind arith

passes_no_more : (n m : ℕ) → n < m → passes (Some n) m ≡ false
passes_no_more n m less = grind arith

-- where no half was left, to be as before is to be finished
as_finished : (old new : CommitsState) → old.unfinished ≡ None → IsAsBefore old new → IsFinished old new
as_finished old new none at = record {
  same_number = at.same_number ∙ sym (ap (finished_number old.number) none);
  same_body = at.same_body ∙ sym (ap (finished_body old.body) none);
  same_unfinished = at.same_unfinished ∙ none;
}

-- some fuse lets a commit get as far as it got, where the disk tells none
some_fuse_before : (unfinished : Option CommitBody) (body : CommitBody) (old new : CommitsState) → old.unfinished ≡ unfinished
    → IsAsBefore old new
    → LetsCommit (Some 0) false body old new
some_fuse_before None body old new same at =
    inr
    (inl (
      as_finished old new same at,
      ap (λ u. passes (Some 0) (calls_to_finish u)) same,
      ap
          (λ u. passes (Some 0) (calls_to_finish u + 3)) same,
    ))
some_fuse_before (Some more) body old new same at = inl (at, ap (λ u. passes (Some 0) (calls_to_finish u)) same)

some_fuse : (body : CommitBody) (old new : CommitsState) → FailsIn body old new → (fuse : Fuse)
    × LetsCommit fuse false body old new
some_fuse body old new (inl before) = (Some 0, some_fuse_before old.unfinished body old new refl before.0)
some_fuse body old new (inr (inl finished)) =
    let n : ℕ = calls_to_finish old.unfinished in
    (Some n, inr (inl (finished.0, passes_own n, passes_no_more n (n + 3) (omega arith))))
some_fuse body old new (inr (inr begun)) =
    let n : ℕ = calls_to_finish old.unfinished in
    (Some (n + 3), inr (inr (begun.0, passes_own (n + 3), passes_no_more (n + 3) (n + 5) (omega arith))))

-- and the disk's does, where it has room
disk_fuse : (body : CommitBody) (old new : CommitsState) → MakesCalls (commit_cost old.unfinished) false old.disk new.disk
    → FailsIn body old new
    → HasRoom (commit_cost old.unfinished).changes (commit_cost old.unfinished).bytes old.disk.budget
    → LetsCommit (fuse_in old.disk.budget) false body old new
disk_fuse body old new makes (inl (at, first)) room = inl (at, passed_first old.unfinished false old.disk new.disk first room)
disk_fuse body old new makes (inr (inl (at, (both, middle, first, second)))) room =
    inr (inl (
      at,
      passed_first old.unfinished true old.disk middle first room,
      passed_begin old.unfinished false old.disk new.disk
          both room,
    ))
disk_fuse body old new makes (inr (inr (at, (both, middle, first, second)))) room =
    inr (inr (
      at,
      passed_begin old.unfinished true old.disk middle first room,
      passed_whole old.unfinished false old.disk new.disk
          makes room,
    ))

pub failed_commit_has_fuse : FailedCommitHasFuse
failed_commit_has_fuse old new costs fails =
    let cost : Cost = commit_cost old.commits.unfinished in
    let before : DiskState = old.commits.disk in
    let after : DiskState = new.commits.disk in
    elim (room_or cost before.budget) [
      | inl room ↦
          record {
            fuse = fuse_in before.budget;
            lets = disk_fuse (body_of old) old.commits new.commits costs.calls fails.halves room;
            told = told cost false before after costs.calls;
          }
      | inr none ↦
          let some = some_fuse (body_of old) old.commits new.commits fails.halves in
          record { fuse = some.0; lets = some.1; told = not_told some.0 cost before after none }
    ]

-- ---- an entry

-- the writes are counted, of which there is one at least
count_in : (has_none : Bool) (seq pad bytes : ℕ)
    → (length (cond has_none (Record seq ∷ []) (Pad seq ∷ Record seq ∷ []))
    ≡ (cond has_none (write_cost bytes) (together (write_cost pad) (write_cost bytes))).calls)
    × (1 ≤ length (cond has_none (Record seq ∷ []) (Pad seq ∷ Record seq ∷ [])))
count_in true seq pad bytes = (refl, omega arith)
count_in false seq pad bytes = (refl, omega arith)

entry_count : (old : LogState) (plain : PlainLog) (entry : Entry) → room_in plain ≡ old.room
    → (length (writes_of plain entry) ≡ (append_cost old.room (record_sectors entry)).calls)
    × (1 ≤ length (writes_of plain entry))
entry_count old plain entry same =
    let sectors : ℕ = record_sectors entry in
    let count = count_in (pad_before (room_in plain) sectors == 0) (next_seq plain) sector_bytes (sector_bytes * sectors) in
    (count.0 ∙ ap (λ r. (append_cost r sectors).calls) same, count.1)

-- a fuse where the disk tells none
entry_fuse : (are_made : Bool) (n : ℕ) → 1 ≤ n → (fuse : Fuse) × (passes fuse n ≡ are_made)
entry_fuse true n some = (None, refl)
entry_fuse false n some = (Some 0, passes_no_more 0 n (omega (arith, some)))

pub entry_has_fuse : EntryHasFuse
entry_has_fuse old new plain entry seq are_made is costs =
    let cost : Cost = append_cost old.room (record_sectors entry) in
    let before : DiskState = old.commits.disk in
    let after : DiskState = new.commits.disk in
    let count = entry_count old plain entry is.room in
    let makes = costs.costs.calls in
    elim (room_or cost before.budget) [
      | inl room ↦
          record {
            fuse = fuse_in before.budget;
            lets = ap (passes (fuse_in before.budget)) count.0
                ∙ (of_fuse cost are_made before.budget after.budget makes.budget room).made;
            told = told cost are_made before after makes;
            count = count.0;
          }
      | inr none ↦
          let some = entry_fuse are_made (length (writes_of plain entry)) count.1 in
          record { fuse = some.0; lets = some.1; told = not_told some.0 cost before after none; count = count.0 }
    ]
