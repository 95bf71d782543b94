-- The rows of a checkpoint, as they are given one by one, and how they are entered into the map of a list.
use Rattle.std.proofs.Common.{◌≡◌, ◌-◌, ◌<◌, Some, List, [], ◌∷◌, ◌++◌, sym, ◌∙◌, ap, arith, append_assoc, append-nil}
use Rattle.extent_map.specs.declared.extent.Extent.{Extent}
use Rattle.extent_map.specs.Extents.{place_at, place_after_set, IsShortest}
use Rattle.ckpt_format.specs.declared.place.StoredPlace.{StoredPlace}
use Rattle.ckpt_format.specs.Places.{stored_on}
use Rattle.volume_maps.specs.declared.place.ObjectPlace.{ObjectPlace}
use Rattle.volume_maps.specs.Places.{object_on}
use Rattle.volume_maps.specs.Maps.{settled_at}
use Rattle.volume_maps.specs.Live.{MayGain}
use Rattle.volume_maps.proofs.TableLemmas.{still_gains}
use Rattle.object_uploads.specs.State.{UploadsState}
use Rattle.object_uploads.specs.Opening.{IsSameButFound, HasMapped}
use Rattle.obj_log.specs.State.{ObjLogState}
use Rattle.object_recovery.specs.Beginning.{MayMap, HasRows}
use Rattle.object_uploads.specs.Checkpoint.{mapped_place}
use Rattle.object_recovery.proofs.EarlierLemmas.{place_kept, last_place}
use Rattle.object_recovery.proofs.RowLemmas.{map_more}

-- ---- given one by one

-- a row more was given of those that are left
pub given_more : (rows given left rest : List (Extent StoredPlace)) (row : Extent StoredPlace) → left ≡ row ∷ rest
    → rows ≡ given ++ left → rows ≡ (given ++ row ∷ []) ++ rest
given_more rows given left rest row first all = all ∙ ap (λ more. given ++ more) first ∙ sym (append_assoc given (row ∷ []) rest)

-- where none is left, all were given
pub all_given : (rows given left : List (Extent StoredPlace)) → left ≡ [] → rows ≡ given ++ left → rows ≡ given
all_given rows given left none all = all ∙ ap (λ more. given ++ more) none ∙ append-nil given

-- ---- entered one by one

same_twice : (old log new : UploadsState) → IsSameButFound old log → IsSameButFound log new → IsSameButFound old new
same_twice old log new a b = record {
  uuid = b.uuid ∙ a.uuid;
  sectors = b.sectors ∙ a.sectors;
  ancestors = b.ancestors ∙ a.ancestors;
  window = b.window ∙ a.window;
  frontier = b.frontier ∙ a.frontier;
  end = b.end ∙ a.end;
  sealed = b.sealed ∙ a.sealed;
  removal = b.removal ∙ a.removal;
  inherited = b.inherited ∙ a.inherited;
  log = b.log ∙ a.log;
}

-- a row more
pub one_mapped : (rows : List (Extent StoredPlace)) (row : Extent StoredPlace) (mapped : Extent ObjectPlace)
    (old log new : ObjLogState)
    → IsShortest stored_on (rows ++ row ∷ []) → mapped.lba ≡ row.lba → mapped.sectors ≡ row.sectors
    → mapped.place ≡ mapped_place row.place → HasMapped mapped log.uploads new.uploads → new.batch ≡ log.batch
    → HasRows rows old log → HasRows (rows ++ row ∷ []) old new
one_mapped rows row mapped old log new shortest lba sectors place is batch has = record {
  rest = same_twice old.uploads log.uploads new.uploads has.rest is.rest;
  batch = batch ∙ has.batch;
  receipts = is.receipts ∙ has.receipts;
  settled = λ k.
      is.settled k
      ∙ ap (λ l. place_after_set object_on l mapped.sectors mapped.place (settled_at log.uploads.queue.maps) k) lba
      ∙ ap (λ n. place_after_set object_on row.lba n mapped.place (settled_at log.uploads.queue.maps) k) sectors
      ∙ ap (λ p. place_after_set object_on row.lba row.sectors p (settled_at log.uploads.queue.maps) k) place
      ∙ map_more rows row (settled_at log.uploads.queue.maps) k shortest (has.settled k);
  objects = record {
    rows = is.objects.rows ∙ has.objects.rows;
    checkpoint = is.objects.checkpoint ∙ has.objects.checkpoint;
  };
}

-- the object of the next row may gain sectors, where it is the volume's own
pub next_gains : (rows given rest : List (Extent StoredPlace)) (row : Extent StoredPlace) (old log : ObjLogState)
    → rows ≡ (given ++ row ∷ []) ++ rest → IsShortest stored_on (given ++ row ∷ []) → 0 < row.sectors → MayMap rows old
    → HasRows given old log → row.place.level ≡ 0 → MayGain row.place.number log.uploads.queue.maps.objects
next_gains rows given rest row old log split shortest some may has own =
    let place = stored_on (row.lba - row.lba) row.place in
    let there : place_at stored_on rows row.lba ≡ Some place =
    ap (λ list. place_at stored_on list row.lba) split
    ∙ place_kept (given ++ row ∷ []) rest row.lba place
    (last_place given row row.lba shortest (omega arith) (omega (arith, some))) in
    still_gains row.place.number old.uploads.queue.maps.objects log.uploads.queue.maps.objects has.objects
    (may row.lba place there own)
