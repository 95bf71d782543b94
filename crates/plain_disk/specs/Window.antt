-- For this crate's own clauses: what a window shows of an image, and what an entry makes of it.
use Rattle.std.specs.Prelude.{ℕ, ◌≡◌, ◌+◌, ◌≤◌, List, length}
use Rattle.std.specs.List.{All}
use Rattle.lsvd_base.specs.declared.entry.Entry.{Entry}
use Rattle.lsvd_base.specs.Image.{Image, apply}
use Rattle.lsvd_base.specs.Laws.{EndsBy}
use Rattle.plain_disk.specs.Sectors.{sectors_at}

-- where a window shows the sectors of an image from lba on, it is changed as those sectors are by the entry
abbrev pub Overlays : ℕ → Entry → List ℕ → List ℕ → Type 0
Overlays lba entry old new =
    (image : Image) (sectors : ℕ) → All (λ sector. length sector ≡ 512) image → lba + sectors ≤ length image
    → EndsBy (length image) entry → old ≡ sectors_at lba sectors image
    → new ≡ sectors_at lba sectors (apply entry image)
