-- Contract: the rows of a copy that a collection makes of the maps of a volume.
use Rattle.std.specs.Prelude.{◌≡◌, ℕ, ◌+◌, ◌-◌, ◌<◌, IsTrue, Option, Some, None, IfSome, List, [], ◌∷◌, length, if◌then◌else◌}
use Rattle.std.specs.List.{All, filter, range_with_len, sum_by}
use Rattle.extent_map.specs.Extents.{is_within}
use Rattle.gc_policy.specs.Victims.{AreVictims}
use Rattle.object_format.specs.declared.copy_row.CopyRow.{CopyRow}
use Rattle.object_format.specs.Rows.{copy_rows_may_stand}
use Rattle.object_stream.specs.Planned.{planned}
use Rattle.object_stream.specs.Replay.{source_at}
use Rattle.object_stream.specs.Stream.{source_in}
use Rattle.object_table.specs.declared.row.ObjectRow.{ObjectRow}
use Rattle.volume_maps.specs.declared.place.ObjectPlace.{ObjectPlace}
use Rattle.volume_maps.specs.Live.{is_live}
use Rattle.volume_maps.specs.Maps.{MapsState, settled_at}

-- the sectors of a volume that the objects' map has in the object of a number, in ascending order: its live ones
abbrev pub live_list : (volume : ℕ) → MapsState → (number : ℕ) → List ℕ
live_list volume maps number = filter (λ k. is_live number (settled_at maps k)) (range_with_len 0 volume)

-- each place in the objects' map is that of a sector of the volume, in a payload of 131,071 sectors at most
abbrev pub PlacesAreIn : (volume : ℕ) → MapsState → Type 0
PlacesAreIn volume maps = (k : ℕ) → IfSome (settled_at maps k) (λ place. (k < volume) × (place.sector < 131071))

-- where the rows of a copy have a sector from: none where they do not have it
abbrev pub source_place_at : List CopyRow → ℕ → Option ObjectPlace
source_place_at [] k = None
source_place_at (row ∷ rows) k =
    if is_within row.lba row.sectors k
    then Some (record { level = row.source.level; number = row.source.number; sector = row.source.place + (k - row.lba) })
    else source_place_at rows k

-- The rows of the copy that a collection makes, of so many sectors at most, in a volume of so many.
pub record PlansCopy (volume most : ℕ) (maps : MapsState) (rows : List CopyRow) : Type 0 where
  -- the victims of the table, in their order
  pub victims : List ℕ
  pub are : AreVictims maps.objects.rows victims
  -- the rows have the live sectors of these, victim by victim, and by their place in the volume within one
  pub sources : (k : ℕ) → source_at rows k ≡ source_in (planned most (live_list volume maps) victims) k
  pub count : sum_by (λ (row : CopyRow). row.sectors) rows ≡ length (planned most (live_list volume maps) victims)
  -- each from where the objects' map has it
  pub places : (k : ℕ) → IfSome (source_place_at rows k) (λ place. settled_at maps k ≡ Some place)
  -- and they may stand in the copy of a number that is greater than those of the objects
  pub stand : (number : ℕ) → All (λ (object : ObjectRow). object.number < number) maps.objects.rows
      → IsTrue (copy_rows_may_stand volume (sum_by (λ (row : CopyRow). row.sectors) rows) number None 0 rows)
