-- The device of some commits is lent: what reads of it, and writes past its slots, leave of them.
use Rattle.std.proofs.Common.{◌≡◌, ℕ, ◌+◌, ◌<◌, ◌≤◌, List, length, refl, inl, arith}
use Rattle.std.specs.Prelude.{Option, Some, None, Result, Ok, Err, OnOk, OnErr}
use Rattle.lsvd_device.specs.Medium.{Medium, after_write}
use Rattle.lsvd_device.specs.Device.{DiskState, HasSize, moments_after, FailsToWrite}
use Rattle.commit_body.specs.declared.body.CommitBody.{CommitBody}
use Rattle.commit_slot.specs.Slots.{log_of, body_at, gate_at}
use Rattle.commit_slot.specs.Lasting.{Lasts}
use Rattle.commit_slot.specs.Commits.{CommitsState, Leaves, LeavesSince, IsLast}
use Rattle.commit_slot.specs.States.{IsSettledIn, IsHalfMadeIn, Stands, AreCommits}
use Rattle.commit_slot.proofs.LastingLemmas.{Apart}
use Rattle.commit_slot.proofs.Passing.{PassesTo, after_step, failed_write, same_moments}
use Rattle.commit_slot.proofs.SlotStates.{AreThree, three, LiesIn, body_lies, gate_lies, Keeps, written_keeps, torn_keeps_lasting}
use Rattle.commit_slot.proofs.HalfLemmas.{IsLeft, may_both, are_commits, passes_of, settled_leaves, half_leaves}
use Rattle.commit_slot.proofs.CommitLemmas.{Stand, last_is, left_is}

-- bytes past the slots lie apart from each slot
log_area_apart : (slot at count there many : ℕ) → slot < 3 → 4096 ≤ at → LiesIn slot there many → Apart at count there many
log_area_apart slot at count there many below past lies = inl (omega (arith, below, past, lies.to))

-- a change past the slots keeps what lasts in one
keeps_slot : (slot at count there many : ℕ) (P : List ℕ → Type 0) (old new : Medium) → slot < 3 → 4096 ≤ at
    → LiesIn slot there many → Keeps at count old new
    → Lasts there many P old → Lasts there many P new
keeps_slot slot at count there many P old new below past lies keeps lasts =
    keeps there many P (log_area_apart slot at count there many below past lies) lasts

keeps_settled : (log last next third number at count : ℕ) (body : CommitBody) (old new : Medium) → AreThree last next third
    → 4096 ≤ at → Keeps at count old new
    → IsSettledIn log last next third number body old → IsSettledIn log last next third number body new
keeps_settled log last next third number at count body old new slots past keeps settled = record {
  sector = keeps_slot last at count (body_at last) 512 _ old new slots.last' past (body_lies last) keeps settled.sector;
  gate = keeps_slot last at count (gate_at last) 1 _ old new slots.last' past (gate_lies last) keeps settled.gate;
  closed = keeps_slot next at count (gate_at next) 1 _ old new slots.next' past (gate_lies next) keeps settled.closed;
  older = keeps_slot third at count (body_at third) 512 _ old new slots.third' past (body_lies third) keeps settled.older;
}

keeps_half : (log last next third number at count : ℕ) (body more : CommitBody) (old new : Medium) → AreThree last next third
    → 4096 ≤ at → Keeps at count old new
    → IsHalfMadeIn log last next third number body more old → IsHalfMadeIn log last next third number body more new
keeps_half log last next third number at count body more old new slots past keeps half = record {
  sector = keeps_slot last at count (body_at last) 512 _ old new slots.last' past (body_lies last) keeps half.sector;
  gate = keeps_slot last at count (gate_at last) 1 _ old new slots.last' past (gate_lies last) keeps half.gate;
  next_sector = keeps_slot next at count (body_at next) 512 _ old new slots.next' past (body_lies next) keeps half.next_sector;
  closed = keeps_slot third at count (gate_at third) 1 _ old new slots.third' past (gate_lies third) keeps half.closed;
  older = keeps_slot third at count (body_at third) 512 _ old new slots.third' past (body_lies third) keeps half.older;
}

keeps_stands : (log number at count : ℕ) (body : CommitBody) (unfinished : Option CommitBody) (old new : Medium) → 4096 ≤ at
    → Keeps at count old new
    → Stands log number body unfinished old → Stands log number body unfinished new
keeps_stands log number at count body None old new past keeps stands =
    keeps_settled log _ _ _ number at count body old new (three number) past keeps stands
keeps_stands log number at count body (Some more) old new past keeps stands =
    keeps_half log _ _ _ number at count body more old new (three number) past keeps stands

-- the slots of some commits
abbrev pub InSlots : CommitsState → Medium → Type 0
InSlots commits = Stands (log_of commits.disk.size) commits.number commits.body commits.unfinished

lent_written : (at : ℕ) (piece : List ℕ) (commits : CommitsState) (new : List Medium) → 4096 ≤ at
    → at + length piece ≤ commits.disk.size → Stand commits
    → new ≡ moments_after (after_write at piece) commits.disk.moments
    → PassesTo (InSlots commits) (InSlots commits) commits.disk.moments new
lent_written at piece commits new past within are moments =
    after_step (InSlots commits) (InSlots commits) commits.disk.size (after_write at piece) commits.disk.moments new
    (λ medium has stands.
    keeps_stands (log_of commits.disk.size) commits.number at (length piece) commits.body commits.unfinished medium
    (after_write at piece medium) past
    (written_keeps commits.disk.size at piece medium has within) stands)
    are.is_disk.media are.stand moments

lent_torn : (at count : ℕ) (commits : CommitsState) (new : List Medium) → 4096 ≤ at → Stand commits
    → FailsToWrite at count commits.disk.moments new
    → PassesTo (InSlots commits) (InSlots commits) commits.disk.moments new
lent_torn at count commits new past are fails =
    failed_write (InSlots commits) at count commits.disk.moments new
    (λ medium torn is stands.
    keeps_stands (log_of commits.disk.size) commits.number at count commits.body commits.unfinished medium torn past
    (torn_keeps_lasting at count medium torn is) stands)
    are.stand fails

-- a write was made, or it failed
lent_passes : {T E : Type 0} (result : Result T E) (at : ℕ) (piece : List ℕ) (commits : CommitsState) (new : List Medium)
    → 4096 ≤ at → at + length piece ≤ commits.disk.size → Stand commits
    → OnOk result (new ≡ moments_after (after_write at piece) commits.disk.moments)
    → OnErr result (FailsToWrite at (length piece) commits.disk.moments new)
    → PassesTo (InSlots commits) (InSlots commits) commits.disk.moments new
lent_passes (Ok value) at piece commits new past within are ok err = lent_written at piece commits new past within are ok
lent_passes (Err error) at piece commits new past within are ok err = lent_torn at (length piece) commits new past are err

-- the slots of some commits stand as before
pub record IsLent (commits : CommitsState) (new : DiskState) : Type 0 where
  pub stand : Stand commits
  pub left : IsLeft commits.disk new
  pub passes : PassesTo (InSlots commits) (InSlots commits) commits.disk.moments new.moments

pub lent : {T E : Type 0} (result : Result T E) (at : ℕ) (piece : List ℕ) (commits : CommitsState) (new : DiskState) → 4096 ≤ at
    → at + length piece ≤ commits.disk.size → Stand commits → IsLeft commits.disk new
    → OnOk result (new.moments ≡ moments_after (after_write at piece) commits.disk.moments)
    → OnErr result (FailsToWrite at (length piece) commits.disk.moments new.moments) → IsLent commits new
lent result at piece commits new past within are left ok err =
    record { stand = are; left = left; passes = lent_passes result at piece commits new.moments past within are ok err }

pub lent_stand : (commits : CommitsState) (new : DiskState) → IsLent commits new
    → AreCommits commits.number commits.body commits.unfinished new
lent_stand commits new is =
    are_commits commits.number commits.body commits.unfinished commits.disk new is.stand.size is.left
    (may_both commits.number commits.body commits.unfinished commits.disk is.stand) is.passes.1

-- and so they do where the moments are as before
pub lent_same : (commits : CommitsState) (new : DiskState) → Stand commits → IsLeft commits.disk new
    → new.moments ≡ commits.disk.moments
    → AreCommits commits.number commits.body commits.unfinished new
lent_same commits new are left same = lent_stand commits new
    (record { stand = are; left = left; passes = same_moments (InSlots commits) commits.disk.moments new.moments are.stand same })

stands_leaves : (unfinished : Option CommitBody) (commits : CommitsState) (medium : Medium) → commits.unfinished ≡ unfinished
    → 4096 ≤ commits.disk.size → HasSize commits.disk.size medium
    → Stands (log_of commits.disk.size) commits.number commits.body unfinished medium
    → Leaves (log_of commits.disk.size) (IsLast commits) medium
stands_leaves None commits medium is least has stands =
    settled_leaves commits.disk.size (log_of commits.disk.size) commits.number commits.body (IsLast commits) medium
    (last_is commits) least has stands
stands_leaves (Some more) commits medium is least has stands =
    half_leaves commits.disk.size (log_of commits.disk.size) commits.number commits.body more (IsLast commits) medium
    (last_is commits) (left_is commits more is) least has stands

pub lent_leaves : (commits : CommitsState) (new : DiskState) → IsLent commits new → LeavesSince (IsLast commits) commits.disk new
lent_leaves commits new is =
    passes_of (InSlots commits) (Leaves (log_of commits.disk.size) (IsLast commits)) commits.disk new is.left.size is.left.is_disk
    (λ medium has stands. stands_leaves commits.unfinished commits medium refl is.stand.size has stands) is.passes.0
