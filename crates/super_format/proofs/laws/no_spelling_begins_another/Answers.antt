use Rattle.super_format.proofs.LawLemmas.{no_super_begins_another, no_epoch_begins_another, no_hold_begins_another}
use Rattle.super_format.proofs.laws.no_spelling_begins_another.Goals as goal

pub returns : goal.returns
returns c = record { supers = no_super_begins_another; epochs = no_epoch_begins_another; holds = no_hold_begins_another }
