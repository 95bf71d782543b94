use Rattle.volume_commands.proofs.Lasting.{StandingLaws, KeepingLaws, collected_with_is_whole, collected_without_is_whole}
use Rattle.volume_commands.proofs.laws.a_collected_volume_may_be_mounted_again.Goals as goal

pub returns : goal.returns
returns g c =
    let standing : StandingLaws = record {
      created = c.a_made_volume_stands_with_its_store.ensures.created;
      with_cache = c.a_made_volume_stands_with_its_store.ensures.with_cache;
      without = c.a_made_volume_stands_with_its_store.ensures.without;
      store = c.a_stop_leaves_what_a_mount_asks_for.ensures.store;
      both = c.a_stop_leaves_what_a_mount_asks_for.ensures.both;
    } in
    let keeping : KeepingLaws g.R.Receipt.state = record {
      kept = c.a_stop_keeps_what_was_acknowledged.ensures.kept;
      left = c.a_stopped_store_has_the_objects.ensures.left;
      acts = c.acts_keep_the_store.ensures.acts;
    } in
    record {
      with_cache = collected_with_is_whole _ g.R.Receipt.state standing keeping;
      without = collected_without_is_whole _ g.R.Receipt.state standing keeping;
    }
