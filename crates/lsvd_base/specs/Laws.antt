-- Contract: what an entry changes of an image, sector by sector.
use Rattle.std.specs.Prelude.{ℕ, ◌≡◌, ◌+◌, ◌*◌, ◌/◌, ◌<◌, ◌≤◌, ◌⊎◌, Some, List, ◌++◌, length, take, drop}
use Rattle.std.specs.List.{slice_get}
use Rattle.lsvd_base.specs.declared.entry.Entry.{Entry}
use Rattle.lsvd_base.specs.declared.entry.Entry.TheVariants.{Write, Zero}
use Rattle.lsvd_base.specs.Image.{Image, zero_sector, apply, after}

-- the first sector that an entry covers, and how many it covers
abbrev pub first_sector : Entry → ℕ
first_sector (Write lba body) = lba
first_sector (Zero lba sectors) = lba

abbrev pub sector_count : Entry → ℕ
sector_count (Write lba body) = length body / 512
sector_count (Zero lba sectors) = sectors

-- the entry covers no sector past this one
abbrev pub EndsBy : ℕ → Entry → Type 0
EndsBy sectors entry = first_sector entry + sector_count entry ≤ sectors

-- an image has as many sectors as before, if the entry lies inside it
abbrev pub KeepsCount : Type 0
KeepsCount =
    (entry : Entry) (image : Image) → EndsBy (length image) entry
    → length (apply entry image) ≡ length image

-- each sector that the entry does not cover is as before
abbrev pub KeepsOtherSectors : Type 0
KeepsOtherSectors =
    (entry : Entry) (image : Image) (k : ℕ) → EndsBy (length image) entry
    → (k < first_sector entry) ⊎ (first_sector entry + sector_count entry ≤ k)
    → slice_get (apply entry image) k ≡ slice_get image k

-- each sector that a write covers has its part of the data
abbrev pub WritesData : Type 0
WritesData =
    (lba : ℕ) (body : List ℕ) (image : Image) (i : ℕ) → EndsBy (length image) (Write lba body)
    → i < length body / 512
    → slice_get (apply (Write lba body) image) (lba + i) ≡ Some (take 512 (drop (512 * i) body))

-- each sector that a zeroing covers has zeros
abbrev pub WritesZeros : Type 0
WritesZeros =
    (lba sectors : ℕ) (image : Image) (i : ℕ) → EndsBy (length image) (Zero lba sectors) → i < sectors
    → slice_get (apply (Zero lba sectors) image) (lba + i) ≡ Some zero_sector

-- a history may be applied a part at a time
abbrev pub AppliesInParts : Type 0
AppliesInParts =
    (image : Image) (history more : List Entry) → after image (history ++ more) ≡ after (after image history) more
