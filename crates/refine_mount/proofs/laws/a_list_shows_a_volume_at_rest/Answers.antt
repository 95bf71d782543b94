use Rattle.refine_mount.proofs.RestLemmas.{mounted_is_at_rest, recovered_shows_objects}
use Rattle.refine_mount.proofs.TableLemmas.{recovered_shows_table, entries_keep_table}
use Rattle.refine_mount.proofs.ListLemmas.{list_shows_some}
use Rattle.refine_mount.proofs.EntryLemmas.{entries_go_on}
use Rattle.refine_mount.proofs.laws.a_list_shows_a_volume_at_rest.Goals as goal

pub returns : goal.returns
returns c = record {
  rest = mounted_is_at_rest;
  recovered = recovered_shows_objects;
  table = recovered_shows_table;
  some = list_shows_some;
  entries = entries_go_on;
  entries_table = entries_keep_table;
}
