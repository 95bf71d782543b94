-- Contract: what a volume holds, and what an entry and a history of entries make of it.
use Rattle.std.specs.Prelude.{ℕ, ◌+◌, ◌/◌, zero, suc, List, [], ◌∷◌, ◌++◌, length, take, drop, replicate}
use Rattle.lsvd_base.specs.declared.entry.Entry.{Entry}
use Rattle.lsvd_base.specs.declared.entry.Entry.TheVariants.{Write, Zero}

-- an image: the sectors of a volume, each a list of 512 bytes
abbrev pub Image : Type 0
Image = List (List ℕ)

-- a sector of zeros
unfoldable pub zero_sector : List ℕ
zero_sector = replicate 512 0

-- the image of a volume that was just created
abbrev pub blank : ℕ → Image
blank sectors = replicate sectors zero_sector

-- bytes cut into `count` sectors
unfoldable pub cut_into_sectors : ℕ → List ℕ → Image
cut_into_sectors zero bytes = []
cut_into_sectors (suc count) bytes = take 512 bytes ∷ cut_into_sectors count (drop 512 bytes)

-- the image with these sectors at lba, and every other sector as it was
abbrev pub overwritten : ℕ → Image → Image → Image
overwritten lba sectors image = take lba image ++ sectors ++ drop (lba + length sectors) image

-- what an entry makes of an image: a write puts its data at its sectors, and a zeroing puts zeros
abbrev pub apply : Entry → Image → Image
apply (Write lba body) image = overwritten lba (cut_into_sectors (length body / 512) body) image
apply (Zero lba sectors) image = overwritten lba (replicate sectors zero_sector) image

-- what a history makes of an image: its entries are applied in order
abbrev pub after : Image → List Entry → Image
after image [] = image
after image (entry ∷ entries) = after (apply entry image) entries
