-- Contract: the sectors of an image, and entries that are in range.
use Rattle.std.specs.Prelude.{◌≡◌, ℕ, true, Option, Some, None, List, take, drop, if◌then◌else◌}
use Rattle.std.specs.List.{All, concat}
use Rattle.lsvd_base.specs.declared.geometry.Geometry.{Geometry}
use Rattle.lsvd_base.specs.declared.entry.Entry.{Entry}
use Rattle.lsvd_base.specs.Limits.{may_transfer}
use Rattle.lsvd_base.specs.Range.{is_in_range}
use Rattle.lsvd_base.specs.Image.{Image, blank, after}

-- the bytes of the sectors from lba on
abbrev pub sectors_at : ℕ → ℕ → Image → List ℕ
sectors_at lba sectors image = concat (take sectors (drop lba image))

-- each entry of a history is in range of the geometry
abbrev pub AllInRange : Geometry → List Entry → Type 0
AllInRange geometry history = All (λ entry. is_in_range geometry entry ≡ true) history

-- what a read gets where these entries were taken: the sectors of the image, and none where no read may cover them
abbrev pub read_of : Geometry → List Entry → (lba sectors : ℕ) → Option (List ℕ)
read_of geometry history lba sectors =
    if may_transfer geometry lba sectors then Some (sectors_at lba sectors (after (blank geometry.sectors) history)) else None
