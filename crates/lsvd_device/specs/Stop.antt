-- Contract: what a stop leaves of writes that were not synced, where each has a fate.
use Rattle.std.specs.Prelude.{◌≡◌, ℕ, ◌-◌, ◌/◌, List, [], ◌∷◌, take, drop, length, replicate, reverse}
use Rattle.lsvd_device.specs.Medium.{Span, Medium, MayLeave, durable}
use Rattle.lsvd_bytes.specs.Places.{with_bytes}
use Rattle.lsvd_device.specs.Device.{HasSize, HoldsNow}
use Rattle.lsvd_device.specs.Memory.{IsSynced, IsKept, moments_from}
use Rattle.lsvd_device.specs.declared.change.Change.{Change}
use Rattle.lsvd_device.specs.declared.change.Change.TheVariants.{Write, Sync}
use Rattle.lsvd_device.specs.declared.fate.Fate.{Fate}
use Rattle.lsvd_device.specs.declared.fate.Fate.TheVariants.{Kept, Old, Zeros, Torn}

-- the bytes after a write of a piece that met its fate
abbrev pub put_by : Fate → (at : ℕ) → (piece bytes : List ℕ) → List ℕ
put_by Kept at piece bytes = with_bytes at piece bytes
put_by Old at piece bytes = bytes
put_by Zeros at piece bytes = with_bytes at (replicate (length piece) 0) bytes
put_by Torn at piece bytes = with_bytes at (take (length piece / 2) piece) bytes

-- the same of the newest write of a medium, which is read there
abbrev pub put_newest_by : Fate → List Span → (now bytes : List ℕ) → List ℕ
put_newest_by fate [] now bytes = bytes
put_newest_by fate (span ∷ spans) now bytes = put_by fate span.at (take span.count (drop span.at now)) bytes

-- What a stop leaves, by the moments of a disk and the fates of the writes since its last sync, each the newest first: the
-- writes meet their fates one after the other, over what stood at that sync.
abbrev pub left_by : List Fate → List Medium → List ℕ
left_by fates [] = []
left_by [] (now ∷ past) = now.synced
left_by (fate ∷ fates) (now ∷ past) = put_newest_by fate now.pending now.bytes (left_by fates past)

-- the same of fates in the order of the writes
abbrev pub left_in_order : List Fate → List Medium → List ℕ
left_in_order fates moments = left_by (reverse fates) moments

-- the newest moment of a stopped disk: it holds what the fates left, and nothing is pending
pub record IsStopped (fates : List Fate) (before after : List Medium) : Type 0 where
  pub past : List Medium
  pub moments : after ≡ durable (left_in_order fates before) ∷ past

-- these bytes are what the fates leave, and a stop may leave them
pub record AreLeftBy (size : ℕ) (fates : List Fate) (moments : List Medium) (bytes : List ℕ) : Type 0 where
  pub left : bytes ≡ left_in_order fates moments
  pub may_leave : HoldsNow (λ now. MayLeave now bytes) moments
  pub has_size : HoldsNow (HasSize size) moments

-- bytes after a change that met its fate; the bytes of a write are the first of these
abbrev pub change_by : Fate → Change → (written bytes : List ℕ) → List ℕ
change_by fate (Write at count) written bytes = put_by fate at (take count written) bytes
change_by fate Sync written bytes = bytes

-- there is a newest moment, and it has P
abbrev pub HasNow : (Medium → Type 0) → List Medium → Type 0
HasNow P [] = ⊥
HasNow P (now ∷ past) = P now

-- what a read gives is this of what it gave before
abbrev pub Rewrites : (List ℕ → List ℕ) → (before after : List Medium) → Type 0
Rewrites f [] after = Unit {0}
Rewrites f (now ∷ past) after = HasNow (λ d. d.bytes ≡ f now.bytes) after

-- a disk holds what the fates leave of changes that were made when nothing was pending
abbrev pub LeavesBy : (size : ℕ) → List Fate → List Change → List ℕ → (before after : List Medium) → Type 0
LeavesBy size fates changes written before after =
    (now : Medium) (past : List Medium) → IsSynced now → HasSize size now → HasNow (λ d. d.bytes ≡ now.bytes) before
    → HasNow (λ d. AreLeftBy size fates (moments_from (now ∷ past) changes written) d.bytes) after

-- what a stop needs of a disk's changes: they are kept, and those after the last sync have a fate each
pub record MayStop (size synced : ℕ) (changes : List Change) (written : List ℕ) (fates : List Fate) : Type 0 where
  pub held : List ℕ
  pub kept : IsKept size synced changes written held
  pub count : length fates ≡ length changes - synced
