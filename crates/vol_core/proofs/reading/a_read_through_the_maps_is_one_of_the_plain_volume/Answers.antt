use Rattle.vol_core.proofs.HoldLemmas.{places_hold_sectors}
use Rattle.vol_core.proofs.OwnerLemmas.{places_are_of_objects_read}
use Rattle.vol_core.proofs.ReadLemmas.{rows_are_runs}
use Rattle.vol_core.proofs.reading.a_read_through_the_maps_is_one_of_the_plain_volume.Goals as goal

pub returns : goal.returns
returns c = record { sectors = places_hold_sectors; objects = places_are_of_objects_read; runs = rows_are_runs }
