use Rattle.extent_map.proofs.extent_map.ExtentMap.first_in.Given as goal

abbrev pub ghosts-first_between : goal.ghosts-first_between
ghosts-first_between g a = record { name = a.blank.name; parts = a.blank.parts }
