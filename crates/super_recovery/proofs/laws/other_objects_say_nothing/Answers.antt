use Rattle.super_recovery.proofs.LawLemmas.{says_the_same, others_keep_volume}
use Rattle.super_recovery.proofs.laws.other_objects_say_nothing.Goals as goal

pub returns : goal.returns
returns c = record { same = says_the_same; others = others_keep_volume }
