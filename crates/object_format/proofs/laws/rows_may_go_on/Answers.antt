use Rattle.object_format.proofs.SpellingLemmas.{data_rows_may_go_on, copy_rows_may_go_on}
use Rattle.object_format.proofs.laws.rows_may_go_on.Goals as goal

pub returns : goal.returns
returns c = record { data_rows = data_rows_may_go_on; copy_rows = copy_rows_may_go_on }
