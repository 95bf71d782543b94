use Rattle.refine_objects.proofs.CheckpointShown.{sealed_shows_seal_checkpoint, refused_seal_checkpoint_shows_none}
use Rattle.refine_objects.proofs.RemovalShown.{taken_shows_removal, none_taken_shows_none, finished_shows_removed}
use Rattle.refine_objects.proofs.RemovalShown.{taken_back_shows_given_back, not_out_shows_nothing}
use Rattle.refine_objects.proofs.PinShown.{pinned_shows_pin, unpinned_shows_unpin}
use Rattle.refine_objects.proofs.PinsShown.{pinned_each_show_pins, unpinned_each_show_unpins, pinned_are_shown}
use Rattle.refine_objects.proofs.NewestShown.{newest_is_shown}
use Rattle.refine_objects.proofs.table_laws.checkpoints_and_removals_show_the_plain_volume_s.Goals as goal

pub returns : goal.returns
returns c = record {
  checkpoint = sealed_shows_seal_checkpoint;
  busy = refused_seal_checkpoint_shows_none;
  newest = newest_is_shown;
  removal = taken_shows_removal;
  none = none_taken_shows_none;
  removed = finished_shows_removed;
  given_back = taken_back_shows_given_back;
  not_out = not_out_shows_nothing;
  pinned = pinned_shows_pin;
  unpinned = unpinned_shows_unpin;
  pinned_each = pinned_each_show_pins;
  unpinned_each = unpinned_each_show_unpins;
  are_pinned = pinned_are_shown;
}
