-- What holds of the moments of a disk holds so of media of its size.
use Rattle.std.proofs.Common.{◌≡◌, ℕ, List, [], ◌∷◌, ◌++◌, length, subst, arith}
use Rattle.std.specs.List.{AllByRecursion}
use Rattle.lsvd_device.specs.Medium.{Medium, MayLeave}
use Rattle.lsvd_device.specs.Device.{DiskState, IsDisk, HasSize, HoldsSince}

-- what a stop leaves is as long
pub left_size : (size : ℕ) (medium : Medium) (left : List ℕ) → HasSize size medium → MayLeave medium left → length left ≡ size
left_size size medium left has may =
    let count = may.count in
    let synced = has.synced in
    omega (arith, count, synced)

-- what follows of media of a disk's size from P holds since, where P does
each_sized : (P Q : Medium → Type 0) (size : ℕ) (since old : List Medium)
    → ((medium : Medium) → HasSize size medium → P medium → Q medium) → AllByRecursion (HasSize size) (since ++ old)
    → AllByRecursion P since
    → AllByRecursion Q since
each_sized P Q size [] old follows sizes all = tt
each_sized P Q size (medium ∷ since) old follows sizes all =
    (follows medium sizes.0 all.0, each_sized P Q size since old follows sizes.1 all.1)

since_on_disk : (P Q : Medium → Type 0) (old : List Medium) (new : DiskState) → IsDisk new
    → ((medium : Medium) → HasSize new.size medium → P medium → Q medium) → HoldsSince P old new.moments
    → HoldsSince Q old new.moments
since_on_disk P Q old new is_disk follows holds = record {
  since = holds.since;
  moments = holds.moments;
  each =
      each_sized P Q new.size holds.since old follows
      (subst (AllByRecursion (HasSize new.size)) holds.moments is_disk.media) holds.each;
}

-- a medium among those of a disk has its size
later_size : (size : ℕ) (since : List Medium) (now : Medium) (past : List Medium)
    → AllByRecursion (HasSize size) (since ++ now ∷ past)
    → HasSize size now
later_size size [] now past all = all.0
later_size size (medium ∷ since) now past all = later_size size since now past all.1

-- and so the disk has the size that it had
pub since_sized : (P Q : Medium → Type 0) (size : ℕ) (now : Medium) (past : List Medium) (new : DiskState)
    → length now.bytes ≡ size → IsDisk new
    → ((medium : Medium) → HasSize size medium → P medium → Q medium) → HoldsSince P (now ∷ past) new.moments
    → HoldsSince Q (now ∷ past) new.moments
since_sized P Q size now past new has is_disk follows holds =
    let media : AllByRecursion (HasSize new.size) (holds.since ++ now ∷ past) =
    subst (AllByRecursion (HasSize new.size)) holds.moments is_disk.media in
    let then = (later_size new.size holds.since now past media).bytes in
    let same : size ≡ new.size = omega (arith, has, then) in
    since_on_disk P Q (now ∷ past) new is_disk
    (subst (λ n. (medium : Medium) → HasSize n medium → P medium → Q medium) same follows) holds
