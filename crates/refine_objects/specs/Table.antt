-- Contract: what the table of a list's objects means: which objects of the plain volume stand in the store, how often each is
-- pinned, which of them its newest acknowledged checkpoint maps, and how much of each is payload.
use Rattle.std.specs.Prelude.{◌≡◌, ℕ, ◌<◌, ◌≤◌, ◌==◌, ◌&&◌, Bool, not, nat_lt, is_some, IfSome, List}
use Rattle.std.specs.Prelude.{count_by}
use Rattle.std.specs.List.{All}
use Rattle.object_table.specs.Table.{row_of}
use Rattle.object_uploads.specs.State.{QueueState}
use Rattle.object_uploads.specs.Queue.{pins_of}
use Rattle.object_stream.specs.declared.object.CopiedSector.{CopiedSector}
use Rattle.plain_disk.specs.State.{PlainState, PlainCheckpoint, payload_of}
use Rattle.plain_disk.specs.Removals.{maps, has, copies_from}

-- how often a number is among the pins of plans
abbrev pub times_pinned : (number : ℕ) → (pins : List ℕ) → ℕ
times_pinned number pins = count_by (λ pin. pin == number) pins

-- a checkpoint came after the object of a number, and does not map it
abbrev pub passes_unmapped : PlainCheckpoint → (number : ℕ) → Bool
passes_unmapped checkpoint number = nat_lt number checkpoint.number && not (maps checkpoint number)

-- The table shows a plain volume: the newest acknowledged checkpoint is the same, and the removal that is out; it has just the
-- volume's own objects up to the frontier that were not removed, says of each whether that checkpoint passed it and does not map
-- it, how often it is pinned, whether the plan of a copy that is out takes sectors from it, and whether a hold keeps it; and of
-- one with a live sector how many sectors of payload it has. What is being removed is not pinned, and what was removed is before
-- that checkpoint. What holds keep is not past the frontier, and a plan takes sectors from objects up to it alone. Of the objects
-- of ancestors it has none: nothing pins, copies or removes them.
pub record ShowsTable (queue : QueueState) (plain : PlainState) : Type 0 where
  pub checkpoint : queue.maps.objects.checkpoint ≡ plain.checkpoint.number
  pub removal : queue.removal ≡ plain.removal
  pub known : (number : ℕ) → 1 ≤ number → number ≤ queue.frontier
      → is_some (row_of number queue.maps.objects.rows) ≡ not (has plain.removed number)
  pub unmapped : (number : ℕ) → IfSome (row_of number queue.maps.objects.rows) (λ row.
      row.is_unmapped ≡ passes_unmapped plain.checkpoint number)
  pub pins : (number : ℕ) → pins_of (row_of number queue.maps.objects.rows) ≡ times_pinned number plain.pins
  pub copied : (number : ℕ) → IfSome (row_of number queue.maps.objects.rows) (λ row.
      row.is_copied ≡ copies_from plain.plan number)
  pub held : (number : ℕ) → IfSome (row_of number queue.maps.objects.rows) (λ row.
      row.is_held ≡ has plain.held number)
  pub payload : (number : ℕ) → IfSome (row_of number queue.maps.objects.rows) (λ row.
      0 < row.live → row.payload ≡ payload_of plain number)
  pub free : IfSome plain.removal (λ number. times_pinned number plain.pins ≡ 0)
  pub gone : All (λ number. number < plain.checkpoint.number) plain.removed
  pub kept : All (λ number. number ≤ queue.frontier) plain.held
  pub reached : IfSome plain.plan (All (λ (copied : CopiedSector). copied.source ≤ queue.frontier))
