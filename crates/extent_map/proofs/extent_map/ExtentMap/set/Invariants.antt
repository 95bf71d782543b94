use Rattle.extent_map.proofs.extent_map.ExtentMap.set.Given as goal

abbrev pub ghosts-set_uncounted : goal.ghosts-set_uncounted
ghosts-set_uncounted g a = record { name = a.blank.name; parts = a.blank.parts }
