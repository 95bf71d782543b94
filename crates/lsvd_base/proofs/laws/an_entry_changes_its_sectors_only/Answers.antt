use Rattle.lsvd_base.proofs.SectorLemmas.{keeps_count, keeps_others, writes_data, writes_zeros}
use Rattle.lsvd_base.proofs.laws.an_entry_changes_its_sectors_only.Goals as goal

pub returns : goal.returns
returns c = record { count = keeps_count; others = keeps_others; write = writes_data; zero = writes_zeros }
