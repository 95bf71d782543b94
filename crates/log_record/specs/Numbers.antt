-- Contract: the numbers of a header, and where they stand in its sector.
use Rattle.std.specs.Prelude.{ℕ, ◌≡◌, List, replicate}
use Rattle.std.specs.Int.{w32, w64}
use Rattle.lsvd_bytes.specs.Places.{number_at}
use Rattle.log_record.specs.declared.head.Head.{Head}
use Rattle.log_record.specs.declared.head.Head.TheVariants.{Write, Zero, Pad}

-- the number of a kind
abbrev pub kind_of : Head → ℕ
kind_of (Write lba sectors) = 1
kind_of (Zero lba sectors) = 2
kind_of (Pad sectors) = 3

-- the first sector of the volume that it changes: 0 stands for a pad, which changes none
abbrev pub lba_of : Head → ℕ
lba_of (Write lba sectors) = lba
lba_of (Zero lba sectors) = lba
lba_of (Pad sectors) = 0

-- the sectors that it changes, and for a pad those of the log after its header
abbrev pub sectors_of : Head → ℕ
sectors_of (Write lba sectors) = sectors
sectors_of (Zero lba sectors) = sectors
sectors_of (Pad sectors) = sectors

-- the numbers that stand in a sector
abbrev pub kind_in : List ℕ → ℕ
kind_in sector = number_at w32 8 sector

abbrev pub seq_in : List ℕ → ℕ
seq_in sector = number_at w64 12 sector

abbrev pub lba_in : List ℕ → ℕ
lba_in sector = number_at w64 20 sector

abbrev pub sectors_in : List ℕ → ℕ
sectors_in sector = number_at w64 28 sector

-- the numbers in a sector are those of this head
pub record HasNumbers (sector : List ℕ) (head : Head) : Type 0 where
  pub kind : kind_in sector ≡ kind_of head
  pub lba : lba_in sector ≡ lba_of head
  pub sectors : sectors_in sector ≡ sectors_of head

-- the zeros that fill a header's sector
unfoldable pub filler : List ℕ
filler = replicate 476 0
