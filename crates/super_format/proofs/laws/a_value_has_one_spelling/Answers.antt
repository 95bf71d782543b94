use Rattle.super_format.proofs.LawLemmas.{supers_have_one_spelling, epochs_have_one_spelling, holds_have_one_spelling}
use Rattle.super_format.proofs.laws.a_value_has_one_spelling.Goals as goal

pub returns : goal.returns
returns c = record { supers = supers_have_one_spelling; epochs = epochs_have_one_spelling; holds = holds_have_one_spelling }
