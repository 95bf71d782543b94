use Rattle.refine_objects.proofs.ShowLemmas.{new_shows_created, shown_have_counts, shown_with_other_cache}
use Rattle.refine_objects.proofs.ShowLemmas.{shown_with_other_places}
use Rattle.refine_objects.proofs.FoldedShown.{shown_from_first}
use Rattle.refine_objects.proofs.laws.the_list_shows_a_plain_volume.Goals as goal

pub returns : goal.returns
returns c = record {
  created = new_shows_created;
  counts = shown_have_counts;
  cache = shown_with_other_cache;
  places = shown_with_other_places;
  from_first = shown_from_first;
}
