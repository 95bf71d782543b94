use Rattle.extent_map.proofs.extent_map.ExtentMap.clear.Given as goal

abbrev pub ghosts-clear_range : goal.ghosts-clear_range
ghosts-clear_range g a = record { name = a.blank.name; parts = a.blank.parts }
