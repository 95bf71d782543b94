use Rattle.clone_chain.proofs.LevelLemmas.{has_one_level, has_one_uuid, is_among_levels}
use Rattle.clone_chain.proofs.laws.levels_and_uuids_agree.Goals as goal

pub returns : goal.returns
returns c = record { level = has_one_level; uuid = has_one_uuid; range = is_among_levels }
