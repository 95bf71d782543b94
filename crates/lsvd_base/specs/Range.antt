-- Contract: which entries a volume takes.
use Rattle.std.specs.Prelude.{◌/◌, Bool, ◌&&◌, nat_lt, length}
use Rattle.lsvd_base.specs.declared.geometry.Geometry.{Geometry}
use Rattle.lsvd_base.specs.declared.entry.Entry.{Entry}
use Rattle.lsvd_base.specs.declared.entry.Entry.TheVariants.{Write, Zero}
use Rattle.lsvd_base.specs.Limits.{covers, may_transfer}

-- a write is one that may be transferred, and a zeroing has at least a sector and lies inside the volume
abbrev pub is_in_range : Geometry → Entry → Bool
is_in_range g (Write lba body) = may_transfer g lba (length body / 512)
is_in_range g (Zero lba sectors) = nat_lt 0 sectors && covers g lba sectors
