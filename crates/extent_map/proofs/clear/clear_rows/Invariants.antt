use Rattle.extent_map.proofs.clear.clear_rows.Given as goal

abbrev pub ghost-keep_parts : goal.ghost-keep_parts
ghost-keep_parts g a = g.test
