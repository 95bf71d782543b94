use Rattle.volume_commands.proofs.Lasting.{created_is_whole}
use Rattle.volume_commands.proofs.laws.a_created_volume_may_be_mounted.Goals as goal

pub returns : goal.returns
returns c =
    created_is_whole (record {
      created = c.a_made_volume_stands_with_its_store.ensures.created;
      with_cache = c.a_made_volume_stands_with_its_store.ensures.with_cache;
      without = c.a_made_volume_stands_with_its_store.ensures.without;
      store = c.a_stop_leaves_what_a_mount_asks_for.ensures.store;
      both = c.a_stop_leaves_what_a_mount_asks_for.ensures.both;
    })
