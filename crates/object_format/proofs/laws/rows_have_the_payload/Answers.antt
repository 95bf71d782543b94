use Rattle.object_format.proofs.SpellingLemmas.{data_rows_have_payload, copy_rows_have_payload}
use Rattle.object_format.proofs.laws.rows_have_the_payload.Goals as goal

pub returns : goal.returns
returns c = record { data_rows = data_rows_have_payload; copy_rows = copy_rows_have_payload }
