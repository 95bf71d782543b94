use Rattle.extent_map.proofs.extent_map.ExtentMap.clear_if.Given as goal

abbrev pub ghost-clear_rows : goal.ghost-clear_rows
ghost-clear_rows g a = g.test

abbrev pub ghosts-clear_rows : goal.ghosts-clear_rows
ghosts-clear_rows g a = record { name = a.blank.name; parts = a.blank.parts }
