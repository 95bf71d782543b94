-- Contract: which sectors a collection copies.
use Rattle.std.specs.Prelude.{ℕ, List, map, take}
use Rattle.std.specs.List.{flat_map}
use Rattle.object_stream.specs.declared.object.CopiedSector.{CopiedSector}

-- a sector that is copied from the object of a number
abbrev pub copied_from : (number k : ℕ) → CopiedSector
copied_from number k = record { lba = k; source = number }

-- The sectors that a plan copies of victims that have these live sectors: victim by victim, and within one in the order in which
-- they are given, so many at most.
abbrev pub planned : (most : ℕ) → (live : (number : ℕ) → List ℕ) → (victims : List ℕ) → List CopiedSector
planned most live victims = take most (flat_map (λ number. map (copied_from number) (live number)) victims)
