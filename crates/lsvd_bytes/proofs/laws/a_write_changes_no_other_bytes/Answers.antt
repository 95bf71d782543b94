use Rattle.lsvd_bytes.proofs.PlaceLemmas.{keeps_length, keeps_other_bytes, keeps_other_numbers}
use Rattle.lsvd_bytes.proofs.laws.a_write_changes_no_other_bytes.Goals as goal

pub returns : goal.returns
returns c = record { length = keeps_length; bytes = keeps_other_bytes; numbers = keeps_other_numbers }
