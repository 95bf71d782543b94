-- Contract: the rows of a base as those of its clone.
use Rattle.std.specs.Prelude.{◌+◌}
use Rattle.extent_map.specs.declared.extent.Extent.{Extent}
use Rattle.ckpt_format.specs.declared.place.StoredPlace.{StoredPlace}

-- a place of the base as the clone names it: in the same object, which is one level further from the clone
abbrev pub raised_place : StoredPlace → StoredPlace
raised_place place = record place { level = place.level + 1 }

-- a row of the base as one of the clone: the same sectors, and their places as the clone names them
abbrev pub raised : Extent StoredPlace → Extent StoredPlace
raised row = record row { place = raised_place row.place }
