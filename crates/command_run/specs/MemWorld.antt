-- Contract: what is seen of the world in memory, and what stands at its paths.
use Rattle.std.specs.Prelude.{ℕ, List, Option, option_map}
use Rattle.lsvd_device.specs.Device.{DiskState}
use Rattle.lsvd_fault.specs.Memory.{LinkState}
use Rattle.lsvd_objstore.specs.Memory.{told_state}
use Rattle.lsvd_objstore.specs.Objects.{Objects}
use Rattle.volume_commands.specs.World.{Places}

-- the disk, the objects of the store and the links of the clients that it has and has not given out, and its count of faults
pub record MemWorldState : Type 0 where
  pub disk : Option DiskState
  pub store : Option Objects
  pub clients : Option (List LinkState)
  pub faults : ℕ

-- they stand at every path
abbrev pub places_of : MemWorldState → Places
places_of world = record { disks = λ path. world.disk; stores = λ path. option_map told_state world.store }
