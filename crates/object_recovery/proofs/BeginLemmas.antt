-- How a list begins with a checkpoint: the steps together.
use Rattle.std.proofs.Common.{◌≡◌, ℕ, inl, inr, Option, Some, None, List, [], length, refl, sym, ap, subst}
use Rattle.std.specs.Prelude.{IfSome, ◌⊎◌}
use Rattle.std.specs.Option.{IsSome}
use Rattle.std.specs.List.{All, AllZip, AllByRecursion}
use Rattle.std.proofs.lemmas.List.Elements.{All-contains}
use Rattle.batcher.specs.State.{BatchState}
use Rattle.clone_chain.specs.declared.ancestor.Ancestor.{Ancestor}
use Rattle.lsvd_base.specs.declared.geometry.Geometry.{Geometry}
use Rattle.lsvd_names.specs.declared.name.ObjName.{ObjName}
use Rattle.lsvd_objstore.specs.Objects.{Objects, Lists}
use Rattle.extent_map.specs.declared.extent.Extent.{Extent}
use Rattle.extent_map.specs.Extents.{place_at}
use Rattle.ckpt_format.specs.declared.place.StoredPlace.{StoredPlace}
use Rattle.ckpt_format.specs.Rows.{AllMayStand}
use Rattle.ckpt_format.specs.Checkpoint.{IsCheckpoint}
use Rattle.object_format.specs.declared.expected.Expected.{Expected}
use Rattle.stopped_volume.specs.Ancestors.{uuid_in_chain}
use Rattle.stopped_volume.specs.Expected.{expected_alone}
use Rattle.stopped_volume.specs.Opening.{owned_by, IsCheckpointOf}
use Rattle.volume_maps.specs.Places.{log_on}
use Rattle.object_uploads.specs.State.{SealedState}
use Rattle.object_uploads.specs.Image.{IsReceiptFor}
use Rattle.object_uploads.specs.Order.{IsUploads}
use Rattle.obj_log.specs.State.{ObjLogState}
use Rattle.object_recovery.specs.declared.inherited.Named.{Named}
use Rattle.object_recovery.specs.Checkpoints.{expected_of, ReadCheckpoint, IsStoredCheckpoint}
use Rattle.object_recovery.specs.Missing.{IsMissing}
use Rattle.object_recovery.specs.Earlier.{EarlierObject, AreAllEarlier, AreReached, ReachedBy, ReachAll}
use Rattle.object_recovery.specs.Earlier.{AreSameObjects, NamesNone}
use Rattle.object_recovery.specs.Beginning.{HasValue, BeginsList, BeginsInStore, IsTakenUp, HasTakenUp}
use Rattle.object_recovery.specs.Inherited.{AreNamedBy, HasInherited, LacksOwn, LacksInherited}
use Rattle.object_recovery.specs.Recovery.{IsListUpTo}
use Rattle.object_recovery.specs.Table.{HasTableUnheld}
use Rattle.object_recovery.proofs.BegunTable.{ListsTable, knows}
use Rattle.object_recovery.proofs.EarlierLemmas.{all_earlier_same}
use Rattle.object_recovery.proofs.BegunLemmas.{HasBegunWith, places_inside, owners_are}
use Rattle.object_recovery.proofs.FoundPlaces.{finds_named, payloads_there}
use Rattle.object_recovery.proofs.PlaceLemmas.{so_some}
use Rattle.object_recovery.proofs.ValueLemmas.{has_image, absent_missing, lacking_missing, inherited_missing}

-- rows of a checkpoint may stand
pub rows_stand : (bytes : List ℕ) (uuid : List ℕ) (geometry : Geometry) (ancestors number end : ℕ)
    (rows : List (Extent StoredPlace))
    → IsCheckpoint bytes (expected_alone (expected_of uuid geometry ancestors) number) end rows
    → AllMayStand (expected_alone (expected_of uuid geometry ancestors) number) rows
rows_stand bytes uuid geometry ancestors number end rows is = is.rows_are.all_stand

-- ---- missing objects

module _ (uuid : List ℕ) (geometry : Geometry) (chain : List Ancestor) (number : ℕ) (names : List ObjName) (bytes : List ℕ)
    (earlier : List EarlierObject) where
  abbrev of_number : Expected
  of_number = expected_alone (expected_of uuid geometry (length chain)) number

  -- each that a checkpoint of these bytes maps to the object of a number
  abbrev pub IsMissingOf : (named : ℕ) → Objects → Type 0
  IsMissingOf named objects =
      Lists uuid objects names → (end : ℕ) (rows : List (Extent StoredPlace)) → IsCheckpoint bytes of_number end rows
      → IsMissing (uuid_in_chain uuid chain) objects rows named

  pub absent_told : (told : Option Objects) (named : ℕ)
      → IfSome told (λ objects. Lists uuid objects names → AreAllEarlier uuid objects number earlier)
      → ((end : ℕ) (rows : List (Extent StoredPlace)) → IsCheckpoint bytes of_number end rows → NamesNone rows earlier named)
      → IfSome told (IsMissingOf named)
  absent_told None named all none = tt
  absent_told (Some objects) named all none = λ listed end rows is.
      absent_missing uuid geometry chain objects number earlier rows
      (rows_stand bytes uuid geometry (length chain) number end rows is) (all listed) named (none end rows is)

  lacking_told : (Tells : Type 0) (told : Option Objects) (now : List EarlierObject) (named : ℕ)
      → IfSome told (λ objects. Lists uuid objects names → AreAllEarlier uuid objects number earlier)
      → AreSameObjects earlier now
      → ((end : ℕ) (rows : List (Extent StoredPlace)) → IsCheckpoint bytes of_number end rows → ReachAll rows now)
      → All (λ (e : EarlierObject). IsSome e.receipt.told) now
      → LacksOwn Tells geometry chain told (expected_of uuid geometry (length chain)) now named → IfSome told (IsMissingOf named)
  lacking_told Tells None now named all same reach tells lacks = tt
  lacking_told Tells (Some objects) now named all same reach tells lacks = λ listed end rows checkpoint.
      let e = lacks.0 in
      let at = lacks.1 in
      subst (IsMissing (uuid_in_chain uuid chain) objects rows) lacks.2
      (lacking_missing uuid geometry chain objects number now rows
      (rows_stand bytes uuid geometry (length chain) number end rows checkpoint)
      (all_earlier_same earlier now same uuid objects number (all listed)) e at
      (All-contains (ReachedBy rows) now e (reach end rows checkpoint).by at)
      (All-contains (λ (o : EarlierObject). IsSome o.receipt.told) now e tells at) lacks.3)

  inherited_told : (Tells : Type 0) (told : Option Objects) (named : ℕ) → Tells
      → LacksInherited Tells geometry chain told bytes of_number named → IfSome told (IsMissingOf named)
  inherited_told Tells told named tells lacks =
      so_some (IsMissingOf named) told (λ objects of_store listed end rows checkpoint.
      inherited_missing uuid geometry chain objects Tells told rows lacks.named named of_store tells
      (lacks.rows_name end rows checkpoint) lacks.lacks)

  -- an object does not have what rows name of it, of the volume's own or of an ancestor
  pub some_lacking : (Tells : Type 0) (told : Option Objects) (now : List EarlierObject) (named : ℕ) → Tells
      → IfSome told (λ objects. Lists uuid objects names → AreAllEarlier uuid objects number earlier)
      → AreSameObjects earlier now
      → ((end : ℕ) (rows : List (Extent StoredPlace)) → IsCheckpoint bytes of_number end rows → ReachAll rows now)
      → All (λ (e : EarlierObject). IsSome e.receipt.told) now
      → LacksOwn Tells geometry chain told (expected_of uuid geometry (length chain)) now named
      ⊎ LacksInherited Tells geometry chain told bytes of_number named
      → IfSome told (IsMissingOf named)
  some_lacking Tells told now named tells all same reach told_each lacks =
      elim lacks [
        | inl own ↦ lacking_told Tells told now named all same reach told_each own
        | inr inherited ↦ inherited_told Tells told named tells inherited
      ]

-- ---- the list

-- a new list has no object yet
pub none_taken : (uuid : List ℕ) (geometry : Geometry) (ancestors number end : ℕ) (log : ObjLogState)
    → log.batch ≡ record { geometry = geometry; first = end; entries = []; reserved = 0 } → log.uploads.uuid ≡ uuid
    → log.uploads.ancestors ≡ ancestors
    → log.uploads.sectors ≡ geometry.sectors → log.uploads.window ≡ record { last = number; objects = [] }
    → log.uploads.queue.frontier ≡ number → log.uploads.queue.end ≡ end → log.uploads.queue.sealed ≡ []
    → log.uploads.queue.receipts ≡ [] → log.uploads.queue.removal ≡ None → log.uploads.queue.maps.settled.rows ≡ []
    → log.uploads.queue.maps.log.rows ≡ [] → log.uploads.queue.maps.objects.rows ≡ []
    → log.uploads.queue.maps.objects.checkpoint ≡ 0
    → HasTakenUp uuid geometry ancestors number end [] log
none_taken uuid geometry ancestors number end log batch uuid_is ancestors_are sectors window frontier end_is sealed receipts
    removal settled entries objects checkpoint = record {
      list = record {
        uuid_is = uuid_is;
        ancestors_are = ancestors_are;
        geometry_is = ap (λ (b : BatchState). b.geometry) batch;
        sectors = sectors;
        first = ap (λ (b : BatchState). b.first) batch;
        entries = ap (λ (b : BatchState). b.entries) batch;
        window = window;
        frontier = frontier;
        end_is = end_is;
        sealed = sealed;
        logged = λ k. ap (λ rows. place_at log_on rows k) entries;
      };
      objects = subst (AllZip (IsTakenUp (expected_of uuid geometry ancestors)) []) (sym objects) tt;
      receipts = receipts;
      removal = removal;
      checkpoint = checkpoint;
      settled = settled;
    }

-- what a list that begins with a checkpoint comes to
module _ (Tells : Type 0) (uuid : List ℕ) (geometry : Geometry) (chain : List Ancestor) (told : Option Objects)
    (checkpoint : ReadCheckpoint) (earlier : List EarlierObject) (named : List Named) (absent : Option (List ℕ))
    (rows : List (Extent StoredPlace)) (log : ObjLogState)
    (stand : AllMayStand (expected_alone (expected_of uuid geometry (length chain)) checkpoint.number) rows)
    (reached : AreReached rows earlier)
    (begun : HasBegunWith (expected_of uuid geometry (length chain)) earlier rows log.uploads.queue)
    (names : AreNamedBy rows named) (inherits : HasInherited Tells geometry chain told named log.uploads.queue.inherited absent)
    (list : IsListUpTo uuid geometry (length chain) checkpoint.number checkpoint.end log) where
  abbrev volume : Expected
  volume = expected_of uuid geometry (length chain)

  pub begins_list : IsUploads log.uploads → HasTableUnheld checkpoint.number log.uploads.queue
      → BeginsList uuid geometry (length chain) checkpoint rows log absent
  begins_list order table = record {
    list = list;
    order = order;
    places =
        places_inside Tells uuid geometry chain told checkpoint.number earlier named absent rows log.uploads.queue stand reached
        begun names inherits;
    owners_are = owners_are volume earlier rows log.uploads.queue begun;
    table = table;
  }

  has_value : (objects : Objects) → told ≡ Some objects → AreAllEarlier uuid objects checkpoint.number earlier
      → HasValue (uuid_in_chain uuid chain) objects rows log
  has_value objects of_store all image hold value = (
    has_image Tells uuid geometry chain told checkpoint.number earlier named absent rows log.uploads.queue stand reached begun
        names inherits objects of_store all.stored image hold value,
    subst (AllByRecursion (λ (sealed : SealedState). IfSome sealed.receipt (IsReceiptFor sealed.bytes))) (sym list.sealed) tt,
  )

  -- so it is where the store tells its objects
  pub begins_in_store : IsUploads log.uploads → ListsTable checkpoint.number earlier log.uploads.queue
      → IsCheckpoint checkpoint.bytes (expected_alone volume checkpoint.number) checkpoint.end rows
      → Tells → All (λ (e : EarlierObject). IsSome e.receipt.told) earlier → (objects : Objects) → told ≡ Some objects
      → AreAllEarlier uuid objects checkpoint.number earlier → IsStoredCheckpoint volume objects checkpoint
      → BeginsInStore volume (uuid_in_chain uuid chain) objects checkpoint.number rows log absent
  begins_in_store order lists is tells own_tell objects of_store all stored =
      let number = checkpoint.number in
      let queue = log.uploads.queue in
      let of_checkpoint : IsCheckpointOf volume objects number checkpoint.end (owned_by rows) = record {
        bytes = checkpoint.bytes;
        present = stored.present;
        rows = rows;
        is_checkpoint = is;
        says = λ k. refl;
      } in
      record {
        value = has_value objects of_store all;
        knows = knows uuid geometry (length chain) number checkpoint.end earlier rows log objects begun lists list.frontier order
            (owners_are volume earlier rows queue begun) all of_checkpoint refl
            (payloads_there Tells uuid geometry chain told number earlier named absent rows queue stand reached begun names
            inherits objects of_store all.stored tells own_tell);
        finds = finds_named Tells uuid geometry chain told number earlier named absent rows queue stand reached begun names
            inherits objects of_store all.stored tells own_tell;
      }
