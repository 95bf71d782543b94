-- Contract: which writes are pending on the device of a plain cache, and how a fuse broke a commit off.
use Rattle.std.specs.Prelude.{◌≡◌, ◌≢◌, ℕ, ◌+◌, ◌%◌, ◌⊎◌, Some, is_some, IfSome, IsTrue, List, [], ◌∷◌, reverse, slice_index}
use Rattle.lsvd_base.specs.declared.entry.Entry.{Entry}
use Rattle.lsvd_device.specs.Device.{DiskState}
use Rattle.lsvd_device.specs.Medium.{Medium, durable, after_write}
use Rattle.lsvd_device.specs.Stop.{HasNow}
use Rattle.commit_body.specs.declared.body.CommitBody.{CommitBody}
use Rattle.commit_body.specs.Body.{body_bytes}
use Rattle.commit_slot.specs.Slots.{gate_at}
use Rattle.log_record.specs.declared.head.Head.TheVariants as heads
use Rattle.log_record.specs.Grammar.{IsHeaderOf, IsRecordOf}
use Rattle.cache_log.specs.Log.{LogState}
use Rattle.plain_disk.specs.declared.cache.PendingWrite.{PendingWrite}
use Rattle.plain_disk.specs.declared.cache.PendingWrite.TheVariants.{Pad, Record, Body, ClosedGate, OpenedGate}
use Rattle.plain_disk.specs.Cache.{PlainCache}
use Rattle.refine_log.specs.Fuses.{fuse_in}

-- ---- the writes

-- the bytes of a write: the header of a pad, and the record of an entry, have its seq
abbrev pub AreBytesOf : PendingWrite → (piece : List ℕ) → Type 0
AreBytesOf (Pad seq) piece = (sectors : ℕ) × IsHeaderOf (heads.Pad sectors) seq piece
AreBytesOf (Record seq) piece = (entry : Entry) × IsRecordOf entry seq piece
AreBytesOf Body piece = (number : ℕ) × (body : CommitBody) × (piece ≡ body_bytes body number)
AreBytesOf ClosedGate piece = piece ≡ 0 ∷ []
AreBytesOf OpenedGate piece = piece ≡ 1 ∷ []

-- a moment of a disk is the one before it after this write
pub record IsAfterWrite (write : PendingWrite) (before now : Medium) : Type 0 where
  pub at : ℕ
  pub piece : List ℕ
  pub bytes : AreBytesOf write piece
  pub is_written : now ≡ after_write at piece before

-- These writes, the newest first, are those that are pending on a disk of these moments: each made the next moment of the one
-- before it, and before the first of them nothing was pending.
abbrev pub ArePendingOn : List PendingWrite → (moments : List Medium) → Type 0
ArePendingOn [] moments = HasNow (λ now. now.pending ≡ []) moments
ArePendingOn (write ∷ earlier) [] = ⊥
ArePendingOn (write ∷ earlier) (now ∷ past) = HasNow (λ before. IsAfterWrite write before now) past × ArePendingOn earlier past

-- ---- a commit that was broken off

-- nothing is pending on the device, and the gate is closed
pub record HasGateClosed (gate : ℕ) (moments : List Medium) : Type 0 where
  pub bytes : List ℕ
  pub past : List Medium
  pub is_still : moments ≡ durable bytes ∷ past
  pub closed : slice_index bytes gate ≢ 1

-- the one pending write opens the gate, which was closed
pub record HasGateOpened (gate : ℕ) (moments : List Medium) : Type 0 where
  pub bytes : List ℕ
  pub past : List Medium
  pub is_written : moments ≡ after_write gate (1 ∷ []) (durable bytes) ∷ durable bytes ∷ past
  pub closed : slice_index bytes gate ≢ 1

-- A fuse broke a commit off: the device passes no call, since before its gate was opened or since after.
pub record IsBrokenOff (gate : ℕ) (disk : DiskState) (pending : List PendingWrite) : Type 0 where
  pub fuse : fuse_in disk.budget ≡ Some 0
  pub where_ : (HasGateClosed gate disk.moments × (pending ≡ []))
      ⊎ (HasGateOpened gate disk.moments × (pending ≡ OpenedGate ∷ []))

-- ---- the whole

-- The disk tells what it holds and what it passes. The writes that are pending on it are those that are on the plain cache's, in
-- their order, and where a commit's second half is left, a fuse broke it off.
pub record ShowsPending (log : LogState) (cache : PlainCache) : Type 0 where
  pub told : IsTrue (is_some log.commits.disk.budget)
  pub pending : ArePendingOn (reverse cache.pending) log.commits.disk.moments
  pub broken : IfSome log.commits.unfinished (λ more. IsBrokenOff (gate_at ((log.commits.number + 1) % 3)) log.commits.disk
      cache.pending)
