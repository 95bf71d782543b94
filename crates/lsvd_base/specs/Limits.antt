-- Contract: the limits of a volume, and which sectors a request may cover.
use Rattle.std.specs.Prelude.{ℕ, ◌+◌, ◌*◌, ◌^◌, Bool, ◌&&◌, nat_lt, nat_le}
use Rattle.lsvd_base.specs.declared.geometry.Geometry.{Geometry}

-- each size keeps its limits
abbrev pub is_within_limits : Geometry → Bool
is_within_limits g =
    nat_le 8 g.sectors && nat_le g.sectors (2 ^ 31)
    && nat_le 8 g.max_write && nat_le g.max_write 65536
    && nat_le 1 g.batch && nat_le g.batch 65536
    && nat_le (2 * (g.max_write + 1)) g.log && nat_le g.log (2 ^ 31)

-- the sectors from lba on are inside the volume
abbrev pub covers : Geometry → ℕ → ℕ → Bool
covers g lba sectors = nat_le (lba + sectors) g.sectors

-- one read or write may cover these sectors
abbrev pub may_transfer : Geometry → ℕ → ℕ → Bool
may_transfer g lba sectors = nat_lt 0 sectors && nat_le sectors g.max_write && covers g lba sectors
