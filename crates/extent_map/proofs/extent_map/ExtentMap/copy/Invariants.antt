use Rattle.extent_map.proofs.extent_map.ExtentMap.copy.Given as goal

abbrev pub ghosts-append_rows : goal.ghosts-append_rows
ghosts-append_rows g a = record { name = a.blank.name; parts = a.blank.parts }
