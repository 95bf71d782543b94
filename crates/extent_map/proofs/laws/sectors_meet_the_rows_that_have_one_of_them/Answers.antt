use Rattle.extent_map.proofs.RowsMet.{meets_by_sectors}
use Rattle.extent_map.proofs.laws.sectors_meet_the_rows_that_have_one_of_them.Goals as goal

pub returns : goal.returns
returns g c lba sectors row = meets_by_sectors lba sectors row
