use Rattle.refine_objects.proofs.TableLemmas.{new_table_shows_created, table_shown_with_other_cache, room_shows_same_table}
use Rattle.refine_objects.proofs.TableLemmas.{added_shows_table, sealed_shows_table, taken_shows_table, failed_shows_table}
use Rattle.refine_objects.proofs.DoneTable.{done_shows_table}
use Rattle.refine_objects.proofs.table_laws.calls_keep_what_the_table_shows.Goals as goal

pub returns : goal.returns
returns c = record {
  created = new_table_shows_created;
  cache = table_shown_with_other_cache;
  room = room_shows_same_table;
  added = added_shows_table;
  sealed = sealed_shows_table;
  taken = taken_shows_table;
  failed = failed_shows_table;
  done = done_shows_table;
}
