-- What a list and a log show that were made of a volume at rest.
use Rattle.std.proofs.Common.{◌≡◌, ℕ, None, refl}
use Rattle.cache_log.specs.Log.{LogState}
use Rattle.obj_log.specs.State.{ObjLogState}
use Rattle.plain_disk.specs.State.{PlainState}
use Rattle.plain_disk.specs.Valid.{IsPlainVolume}
use Rattle.refine_log.specs.Shows.{ShowsLog}
use Rattle.refine_log.specs.Fuses.{fuse_in}
use Rattle.refine_log.specs.Logged.{HasLoggedEntries}
use Rattle.refine_objects.specs.Shows.{ShowsObjects}
use Rattle.refine_objects.specs.Table.{ShowsTable}
use Rattle.refine_objects.proofs.ShowLemmas.{shown_with_other_cache}
use Rattle.vol_core.specs.Volume.{volume_of}
use Rattle.vol_core.specs.Shows.{Shows}
use Rattle.vol_core.specs.Step.{passing}
use Rattle.vol_core.proofs.StepLemmas.{passing_keeps}

-- the parts of a plain volume without a plan are shown by a volume whose device passes what it tells
pub shown : (data_at : ℕ → ℕ) (objects : ObjLogState) (log : LogState) (plain : PlainState) → IsPlainVolume plain
    → plain.plan ≡ None → ShowsObjects data_at objects plain → ShowsTable objects.uploads.queue plain
    → ShowsLog log plain.cache.log → HasLoggedEntries data_at log plain
    → Shows (volume_of objects log) (passing (fuse_in log.commits.disk.budget) plain)
shown data_at objects log plain valid no_plan shows table of_log logged = record {
  valid = passing_keeps (fuse_in log.commits.disk.budget) plain valid;
  data_at = data_at;
  objects = shown_with_other_cache data_at objects plain _ plain.pins shows;
  table = record {
    checkpoint = table.checkpoint;
    removal = table.removal;
    known = table.known;
    unmapped = table.unmapped;
    pins = table.pins;
    copied = table.copied;
    held = table.held;
    payload = table.payload;
    free = table.free;
    gone = table.gone;
    kept = table.kept;
    reached = table.reached;
  };
  plan = no_plan;
  log = of_log;
  logged = record { first = logged.first; rows = logged.rows; entries = logged.entries; placed = logged.placed };
  fuse = refl;
}
