use Rattle.std.proofs.Common.{rules, arith, ◌≡◌, ℕ, true, List, [], ◌∷◌, ◌++◌, map, length, take, refl, sym, ap, subst, ◌∙◌}
use Rattle.std.specs.List.{All}
use Rattle.std.proofs.lemmas.List.Elements.{All-nil}
use Rattle.std.specs.Prelude.{◌+◌, ◌^◌, ◌<◌, ◌≤◌, Some, None, Bool, false, cond, IfSome, drop, IsTrue}
use Rattle.std.proofs.Math.Seq.{drop-nil}
use Rattle.std.proofs.lemmas.Bool.Decides.{nat_tests}
use Rattle.std.proofs.lemmas.List.{length-replicate}
use Rattle.lsvd_base.specs.declared.geometry.Geometry.{Geometry}
use Rattle.lsvd_base.specs.Limits.{is_within_limits}
use Rattle.lsvd_device.specs.Calls.{Fuse}
use Rattle.lsvd_device.specs.Device.{DiskState, HoldsNow}
use Rattle.lsvd_device.specs.Memory.{IsSynced}
use Rattle.lsvd_device.specs.Sequence.{Call, passed_of}
use Rattle.lsvd_device.specs.Stop.{HasNow}
use Rattle.lsvd_device.specs.Medium.{Medium}
use Rattle.log_room.specs.Room.{Room, max_log}
use Rattle.commit_body.specs.declared.body.CommitBody.{CommitBody}
use Rattle.commit_body.specs.Body.{body_bytes}
use Rattle.commit_body.proofs.BodyLemmas.{is_one_sector}
use Rattle.commit_slot.specs.Formatting.{clear_bytes, format_cost, format_calls}
use Rattle.commit_slot.specs.Slots.{log_of}
use Rattle.cache_log.specs.Rows.{byte_of}
use Rattle.cache_log.specs.Log.{LogState, entries_in}
use Rattle.cache_log.specs.Committed.{IsFormattedLog, first_body}
use Rattle.lsvd_objstore.specs.Store.{ReceiptState}
use Rattle.upload_window.specs.Window.{WindowState}
use Rattle.batcher.specs.State.{BatchState}
use Rattle.object_table.specs.declared.row.ObjectRow.{ObjectRow}
use Rattle.object_table.specs.Table.{IsNewest, has_number, new_row, row_of, passed, acknowledged}
use Rattle.object_uploads.specs.State.{UploadsState}
use Rattle.object_uploads.specs.Queue.{pins_of}
use Rattle.object_uploads.specs.Order.{IsUploads}
use Rattle.object_uploads.specs.Opening.{HasBegun}
use Rattle.obj_log.specs.State.{ObjLogState}
use Rattle.stopped_volume.specs.Device.{owner_with}
use Rattle.plain_disk.specs.State.{created_volume}
use Rattle.plain_disk.proofs.EventLemmas.{created_is}
use Rattle.refine_log.specs.Shows.{ShowsLog}
use Rattle.refine_log.specs.Fuses.{fuse_in}
use Rattle.refine_log.specs.Logged.{HasLoggedEntries}
use Rattle.refine_log.proofs.Shown.{formatted_shows_empty}
use Rattle.plain_disk.specs.Log.{empty_from}
use Rattle.refine_log.specs.Pending.{ShowsPending}
use Rattle.refine_log.proofs.Asked.{AreCovered, asked, has_now}
use Rattle.refine_log.proofs.PendingShown.{synced_shows_pending}
use Rattle.refine_objects.proofs.ShowLemmas.{new_shows_created, shown_with_other_cache}
use Rattle.refine_objects.proofs.TableLemmas.{new_table_shows_created, table_shown_with_other_cache}
use Rattle.refine_log.specs.Stops.{HasCommitted}
use Rattle.refine_log.proofs.CommittedLemmas.{formatted_has_committed}
use Rattle.vol_core.specs.Volume.{volume_of}
use Rattle.vol_core.specs.Shows.{Shows, IsSmall}
use Rattle.vol_core.specs.Step.{passing}
use Rattle.vol_core.specs.Creating.{IsNewList, CostsFormat, CanFormat, CreatedOf}
use Rattle.vol_core.proofs.StepLemmas.{passing_keeps}

-- a log within the limits has a sector, and no more than the largest one
has_log : (geometry : Geometry) → IsTrue (is_within_limits geometry) → (1 ≤ geometry.log) × (geometry.log ≤ 2 ^ 31)
has_log geometry limits = (grind (arith, nat_tests), grind (arith, nat_tests))

-- so its device is large enough to be formatted, and not too large
pub may_format : (geometry : Geometry) (size : ℕ) → IsTrue (is_within_limits geometry) → geometry.log ≡ log_of size
    → (byte_of 1 ≤ size) × (size < byte_of (max_log + 1))
may_format geometry size limits is =
    let has = has_log geometry limits in
    (omega (arith, has.0, is), omega (arith, has.1, is))

-- no entries of no rows
no_entries : (n : ℕ) (moments : List Medium) → IfSome (entries_in [] moments) (λ list. drop n list ≡ [])
no_entries n [] = tt
no_entries n (now ∷ past) = drop-nil n

-- a log without rows has the entries of a volume that was just created, which are none
created_logged : (data_at : ℕ → ℕ) (geometry : Geometry) (left : Fuse) (log : LogState) → log.first ≡ 0 → log.rows ≡ []
    → log.entries ≡ entries_in [] log.commits.disk.moments → HasLoggedEntries data_at log (passing left (created_volume geometry))
created_logged data_at geometry left log first rows entries = record {
  first = search rules;
  rows = search rules;
  entries = search rules;
  placed = search rules;
}

-- a volume of a new list and a log that was just formatted shows one that was just created
pub created_shows : (objects : ObjLogState) (log : LogState) (uuid bytes : List ℕ) (epoch : ℕ) (geometry : Geometry)
    (old : DiskState)
    → IsTrue (is_within_limits geometry) → geometry.log ≡ log_of old.size → IsFormattedLog bytes epoch 0 old log
    → IsNewList uuid geometry objects
    → Shows (volume_of objects log) (passing (fuse_in log.commits.disk.budget) (created_volume geometry))
created_shows objects log uuid bytes epoch geometry old limits size_is formatted list =
    let left = fuse_in log.commits.disk.budget in
    let size : log.room.log ≡ geometry.log = ap (λ (r : Room). r.log) formatted.room ∙ sym size_is in
    let data_at : ℕ → ℕ = λ seq. 0 in
    let queue = objects.uploads.queue in
    record {
      valid = passing_keeps left (created_volume geometry) (created_is geometry limits);
      data_at = data_at;
      objects = shown_with_other_cache data_at objects (created_volume geometry) _ []
          (new_shows_created data_at objects geometry limits list.batch list.order list.sectors list.ancestors list.window
          list.frontier list.end list.sealed list.settled list.log);
      table = table_shown_with_other_cache queue (created_volume geometry) _
          (new_table_shows_created queue geometry list.frontier list.objects_are list.checkpoint list.removal);
      plan = refl;
      log = subst (λ n. ShowsLog log (empty_from n 0)) size (formatted_shows_empty bytes epoch 0 old log (search rules)
          (search rules) formatted);
      logged = created_logged data_at geometry left log formatted.first formatted.rows formatted.entries;
      fuse = refl;
    }

-- none of its objects is pinned
pub created_pins : (objects : ObjLogState) (uuid : List ℕ) (geometry : Geometry) → IsNewList uuid geometry objects
    → (number : ℕ) → pins_of (row_of number objects.uploads.queue.maps.objects.rows) ≤ 0
created_pins objects uuid geometry list number =
    subst (λ rows. pins_of (row_of number rows) ≤ 0) (sym list.objects_are) (none_on number (has_number number (new_row 1 0 0)))
  where
    none_on : (number : ℕ) (test : Bool) → pins_of (cond test (Some (new_row 1 0 0)) None) ≤ 0
    none_on number true = omega arith
    none_on number false = omega arith

-- its commits are its own
pub created_own : (objects : ObjLogState) (log : LogState) (bytes uuid : List ℕ) (old : DiskState) → bytes ≡ uuid
    → IsFormattedLog bytes 0 0 old log → HasCommitted (owner_with uuid 0) objects.batch.geometry log
created_own objects log bytes uuid old same is =
    subst (λ (u : List ℕ). HasCommitted (owner_with u 0) objects.batch.geometry log) same
    (formatted_has_committed (owner_with bytes 0) 0 objects.batch.geometry old log is)

-- ---- what is pending

length-clear : length clear_bytes ≡ 3072
unfolding clear_bytes
length-clear = length-replicate {A = ℕ} 3072 0

pub format_covered : (body : CommitBody) → length body.uuid ≡ 16 → AreCovered (format_calls body) format_cost
format_covered body uuid =
    let whole : length (body_bytes body 0) ≡ 512 = is_one_sector body 0 uuid in
    record { count = refl; changes = omega arith; bytes = omega (arith, whole, length-clear) }

synced_now : (moments : List Medium) → HoldsNow IsSynced moments → HasNow (λ now. Unit {0}) moments → HasNow IsSynced moments
synced_now [] synced has = absurd has
synced_now (now ∷ past) synced has = synced

-- nothing is, since formatting ends with a sync
pub created_pends : (log : LogState) (geometry : Geometry) (uuid : List ℕ) (old : DiskState) → length uuid ≡ 16 → CanFormat old
    → IsFormattedLog uuid 0 0 old log → CostsFormat uuid true old log.commits.disk
    → ShowsPending log (created_volume geometry).cache
created_pends log geometry uuid old size can formatted costs =
    let calls : List Call = format_calls (first_body uuid 0 0) in
    let is = asked format_cost calls true old log.commits.disk (format_covered (first_body uuid 0 0) size) can.room costs in
    let passed : List Call = take (passed_of (fuse_in old.budget) (length calls)) calls in
    let now = subst (HasNow (λ m. Unit {0})) (sym is.moments) (has_now passed old.moments can.now) in
    synced_shows_pending log (created_volume geometry).cache is.told (synced_now log.commits.disk.moments formatted.synced now)
    formatted.commits.same_unfinished refl

-- ---- the volume

-- what is created is as it is to be
pub volume_is_created : (objects : ObjLogState) (log : LogState) (bytes uuid : List ℕ) (geometry : Geometry) (disk : DiskState)
    → bytes ≡ uuid → length bytes ≡ 16 → IsTrue (is_within_limits geometry) → geometry.log ≡ log_of disk.size
    → IsFormattedLog bytes 0 0 disk log → CostsFormat bytes true disk log.commits.disk → IsNewList uuid geometry objects
    → CreatedOf uuid geometry disk (record { volume = volume_of objects log; steps = 0 })
volume_is_created objects log bytes uuid geometry disk same size limits size_is formatted calls list = record {
  is = record {
    steps = refl;
    uuid_is = list.uuid_is;
    number = formatted.commits.same_number;
    own = created_own objects log bytes uuid disk same formatted;
    list = list;
    shows = created_shows objects log uuid bytes 0 geometry disk limits size_is formatted list;
  };
  calls = subst (λ u. CostsFormat u true disk log.commits.disk) same calls;
  pending = λ can. created_pends log geometry bytes disk size can formatted calls;
}

-- its numbers are small
pub created_is_small : (objects : ObjLogState) (log : LogState) (uuid bytes : List ℕ) (geometry : Geometry) (disk : DiskState)
    → IsFormattedLog bytes 0 0 disk log → IsNewList uuid geometry objects → IsSmall (volume_of objects log) 0
created_is_small objects log uuid bytes geometry disk formatted list =
    let first = formatted.first in
    let rows = ap length formatted.rows in
    let last = ap (λ (w : WindowState). w.last) list.window in
    let number = formatted.commits.same_number in
    record {
      entries = omega (arith, first, rows);
      objects = omega (arith, last);
      commits = omega (arith, number);
      pins = created_pins objects uuid geometry list;
    }

-- ---- the list

-- the first number is above those of no objects
pub none_is_newest : (uploads : UploadsState) → uploads.queue.frontier ≡ 1 → uploads.queue.maps.objects.rows ≡ []
    → uploads.queue.maps.objects.checkpoint ≡ 0
    → IsNewest uploads.queue.maps.objects uploads.queue.frontier
none_is_newest uploads frontier rows checkpoint =
    let P : ObjectRow → Type 0 = λ row. row.number < uploads.queue.frontier in
    record { above_rows = subst (All P) (sym rows) (All-nil P); above_checkpoint = omega (arith, frontier, checkpoint) }

-- a list without objects that has begun with its first checkpoint is that of a new volume
pub new_list_is : (uuid : List ℕ) (geometry : Geometry) (receipt : ReceiptState) (old new : ObjLogState)
    → old.batch ≡ record { geometry = geometry; first = 0; entries = []; reserved = 0 } → old.uploads.uuid ≡ uuid
    → old.uploads.sectors ≡ geometry.sectors → old.uploads.ancestors ≡ 0
    → old.uploads.window ≡ record { last = 1; objects = [] } → old.uploads.queue.frontier ≡ 1
    → old.uploads.queue.end ≡ 0 → old.uploads.queue.sealed ≡ []
    → old.uploads.queue.removal ≡ None → old.uploads.queue.maps.settled.rows ≡ [] → old.uploads.queue.maps.log.rows ≡ []
    → old.uploads.queue.maps.objects.rows ≡ [] → new.batch ≡ old.batch → HasBegun receipt old.uploads new.uploads
    → IsUploads new.uploads → IsNewList uuid geometry new
new_list_is uuid geometry receipt old new batch uuid_is sectors ancestors window frontier end sealed removal settled log objects
    same_batch
    begun
    order =
    let rest = begun.rest in
    let queue = old.uploads.queue in
    let rows : (acknowledged queue.frontier queue.maps.objects).rows ≡ new_row 1 0 0 ∷ [] =
    ap (λ (rows : List ObjectRow). map passed rows ++ new_row queue.frontier 0 0 ∷ []) objects
    ∙ ap (λ number. new_row number 0 0 ∷ []) frontier in
    let is = same_batch ∙ batch in
    record {
      uuid_is = rest.uuid ∙ uuid_is;
      batch = is ∙ ap (λ n. record { geometry = geometry; first = 0; entries = []; reserved = n })
          (sym (ap (λ (b : BatchState). b.reserved) is));
      order = order;
      sectors = rest.sectors ∙ sectors;
      ancestors = rest.ancestors ∙ ancestors;
      window = rest.window ∙ window;
      frontier = rest.frontier ∙ frontier;
      end = rest.end ∙ end;
      sealed = rest.sealed ∙ sealed;
      removal = rest.removal ∙ removal;
      settled = begun.settled ∙ settled;
      log = rest.log ∙ log;
      objects_are = begun.rows ∙ rows;
      checkpoint = begun.checkpoint ∙ frontier;
    }
