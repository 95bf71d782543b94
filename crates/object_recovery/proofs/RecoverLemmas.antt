-- What a recovery makes of what a store has.
use Rattle.std.proofs.Common.{◌≡◌, ℕ, ◌+◌, ◌-◌, ◌^◌, ◌<◌, ◌≤◌, Option, Some, None, List, [], take, drop, refl}
use Rattle.std.proofs.Common.{sym, ◌∙◌, ap, subst, arith}
use Rattle.std.specs.Prelude.{IfSome, IsTrue, is_some, option_map}
use Rattle.lsvd_base.specs.declared.entry.Entry.{Entry}
use Rattle.lsvd_base.specs.declared.geometry.Geometry.{Geometry}
use Rattle.lsvd_base.specs.Image.{Image, after}
use Rattle.lsvd_objstore.specs.Objects.{Objects, found}
use Rattle.extent_map.specs.declared.extent.Extent.{Extent}
use Rattle.extent_map.specs.Extents.{place_at}
use Rattle.object_format.specs.declared.expected.Expected.{Expected}
use Rattle.object_format.specs.declared.header.Header.{Header}
use Rattle.ckpt_format.specs.declared.place.StoredPlace.{StoredPlace}
use Rattle.ckpt_format.specs.Checkpoint.{IsCheckpoint}
use Rattle.ckpt_format.specs.Places.{stored_on}
use Rattle.ckpt_format.proofs.LawLemmas.{has_one_reading}
use Rattle.object_stream.specs.declared.object.StreamObject.{StreamObject}
use Rattle.object_stream.specs.Replay.{object_name}
use Rattle.object_stream.specs.Stream.{Owners, Stream, objects_to, end_after, end_at, last_number}
use Rattle.object_stream.specs.Value.{StandsForSector, IsValue}
use Rattle.stopped_volume.specs.Expected.{expected_alone}
use Rattle.stopped_volume.specs.Objects.{landed_in}
use Rattle.stopped_volume.specs.Opening.{owned_by, IsCheckpointOf, HoldPlaces}
use Rattle.volume_maps.specs.declared.place.ObjectPlace.{ObjectPlace}
use Rattle.volume_maps.specs.Laws.{place_owner}
use Rattle.volume_maps.specs.Maps.{settled_at}
use Rattle.upload_window.specs.Window.{WindowState}
use Rattle.object_uploads.specs.Checkpoint.{mapped_place}
use Rattle.object_uploads.specs.Image.{HasImage, HasOwnReceipts}
use Rattle.object_uploads.specs.Order.{IsUploads}
use Rattle.object_uploads.specs.State.{UploadsState}
use Rattle.object_uploads.specs.Stream.{IsPlacedInherited, AreOfStream}
use Rattle.object_uploads.proofs.GrowLemmas.{all_objects, stream_begins}
use Rattle.obj_log.specs.State.{ObjLogState}
use Rattle.obj_log.specs.Changes.{expected_of_volume}
use Rattle.obj_log.specs.Stream.{IsOfStream}
use Rattle.object_recovery.specs.Beginning.{HasValue}
use Rattle.object_recovery.specs.Checkpoints.{IsNewestWithEnd}
use Rattle.object_recovery.specs.Judging.{HaveLanded}
use Rattle.object_recovery.specs.Recovery.{up_to_object, HasDataUpTo, IsListUpTo, HasStreamTo, KeepsStreams, IsLastLanded}
use Rattle.object_recovery.specs.Recovery.{HasRecovered, IsRecoveredOf}
use Rattle.object_recovery.proofs.PlaceLemmas.{so_some}
use Rattle.object_recovery.proofs.StreamLemmas.{reached}

-- ---- where it begins

-- a list that begins with a checkpoint of a volume that has these rows, this number and this end
pub record IsBegun (uuid_at : ℕ → Option (List ℕ)) (objects : Objects) (uuid : List ℕ) (geometry : Geometry) (ancestors : ℕ)
    (rows : List (Extent StoredPlace)) (number end : ℕ) (log : ObjLogState) : Type 0 where
  pub list : IsListUpTo uuid geometry ancestors number end log
  pub order : IsUploads log.uploads
  pub owners_are : (k : ℕ) → place_owner (settled_at log.uploads.queue.maps k) ≡ owned_by rows k
  pub value : HasValue uuid_at objects rows log
  pub inherited : (k : ℕ) (place : ObjectPlace) → settled_at log.uploads.queue.maps k ≡ Some place → 1 ≤ place.level
      → option_map mapped_place (place_at stored_on rows k) ≡ Some place

-- the same uploads, with no row in the map of the log
abbrev without_log : UploadsState → UploadsState
without_log uploads =
    record uploads { queue = record uploads.queue { maps = record uploads.queue.maps { log = record { rows = []; spare = 0 } } } }

order_without_log : (uploads : UploadsState) → IsUploads uploads → IsUploads (without_log uploads)
order_without_log uploads is =
    let known = is.known in
    record {
      opened = is.opened;
      last = is.last;
      waits = is.waits;
      names = is.names;
      fit = is.fit;
      sectors = is.sectors;
      known = record {
        order = known.order;
        from_one = known.from_one;
        within = known.within;
        checkpoint = known.checkpoint;
        receipts = known.receipts;
        named = known.named;
        follow = known.follow;
        removal = known.removal;
        unmapped = known.unmapped;
        counted = known.counted;
        shortest = known.shortest;
      };
      begun = is.begun;
      waiting = is.waiting;
      places = is.places;
      ancestors = is.ancestors;
      inherited = is.inherited;
    }

module _ (stream : Stream) where
  abbrev begin : ℕ
  begin = stream.number

  abbrev empty : Stream
  empty = record {
    number = begin;
    end = stream.end;
    opening = stream.opening;
    inherited = stream.inherited;
    entries = [];
    objects = [];
  }

  no_objects : objects_to stream begin ≡ []
  no_objects = let zero_ : begin - begin ≡ 0 = omega arith in ap (λ n. take n stream.objects) zero_

  pub begin_end : end_at stream begin ≡ stream.end
  begin_end = ap (end_after stream.end) no_objects

  no_entries : (up_to_object begin stream).entries ≡ []
  no_entries = let zero_ : end_at stream begin - stream.end ≡ 0 = omega (arith, begin_end) in
      ap (λ n. take n stream.entries) zero_

  empty_is : empty ≡ up_to_object begin stream
  empty_is =
      ap (λ (es : List Entry). let s : Stream = record empty { entries = es } in s) (sym no_entries)
      ∙ ap (λ (os : List StreamObject). let s : Stream = record empty {
        entries = (up_to_object begin stream).entries;
        objects = os;
      } in s) (sym no_objects)

  module _ (uuid : List ℕ) (geometry : Geometry) (ancestors : ℕ) (log : ObjLogState)
      (is : IsListUpTo uuid geometry ancestors begin stream.end log)
      (order : IsUploads log.uploads)
      (owners_are : (k : ℕ) → place_owner (settled_at log.uploads.queue.maps k) ≡ stream.opening k)
      (inherited_are : (k : ℕ) → IfSome (settled_at log.uploads.queue.maps k) (IsPlacedInherited stream.inherited k)) where
    objects_of_stream : (data_at : ℕ → ℕ) → AreOfStream (expected_of_volume log) data_at empty log.uploads
    objects_of_stream data_at =
        let are = stream_begins (expected_of_volume log) data_at (without_log log.uploads) begin stream.end stream.opening
        stream.inherited is.window is.frontier is.end_is is.sealed refl (order_without_log log.uploads order) owners_are
        inherited_are in
        record {
          valid = are.valid;
          from = are.from;
          last = are.last;
          end = are.end;
          settled = are.settled;
          placed = are.placed;
          sealed = are.sealed;
          logged = λ k. is.logged k ∙ are.logged k;
        }

    list_of_stream : (data_at : ℕ → ℕ) → IsOfStream data_at empty log
    list_of_stream data_at =
        let last : end_at empty (last_number empty) ≡ stream.end = ap (end_after stream.end) (all_objects empty) in
        let none : 0 ≡ end_at empty (last_number empty) - stream.end = omega (arith, last) in
        record {
          objects = objects_of_stream data_at;
          sectors = is.sectors ∙ sym (ap (λ (g : Geometry). g.sectors) is.geometry_is);
          first = is.first ∙ sym last;
          entries = is.entries ∙ ap (λ n. drop n empty.entries) none;
        }

    pub begins : (opening : Image) → HasImage opening log.uploads.queue → HasOwnReceipts log.uploads.queue
        → HasStreamTo opening stream begin log
    begins opening image receipts = record {
      of_stream = λ data_at. subst (λ s. IsOfStream data_at s log) empty_is (list_of_stream data_at);
      image = subst (λ es. HasImage (after opening es) log.uploads.queue) (sym no_entries) image;
      receipts = receipts;
    }

-- ---- the newest checkpoint

-- a place that was mapped is that of a row
mapped_from : (row : Option StoredPlace) (place : ObjectPlace) → option_map mapped_place row ≡ Some place
    → (of : StoredPlace) × (row ≡ Some of) × (mapped_place of ≡ place)
mapped_from None place is = absurd cc
mapped_from (Some of) place is = (of, refl, cc)

-- a checkpoint has one end, and one list of rows
pub one_reading : (volume : Expected) (objects : Objects) (number other_number end other : ℕ) (owned others : Owners)
    → number ≡ other_number → (a : IsCheckpointOf volume objects number end owned)
    → (b : IsCheckpointOf volume objects other_number other others) → (end ≡ other) × (b.rows ≡ a.rows)
one_reading volume objects number other_number end other owned others same a b =
    let there : found objects (object_name volume number) ≡ Some b.bytes =
    ap (λ n. found objects (object_name volume n)) same ∙ b.present in
    let same_bytes : b.bytes ≡ a.bytes = let e = a.present in cc in
    let moved = subst (λ bytes. IsCheckpoint bytes (expected_alone volume other_number) other b.rows) same_bytes
    b.is_checkpoint in
    let one = has_one_reading a.bytes (expected_alone volume number) (expected_alone volume other_number) end other a.rows b.rows
    a.is_checkpoint moved in
    (ap (λ (h : Header). h.end_seq) one.0, sym one.1)

module _ (volume : Expected) (objects : Objects) (base base_end : ℕ) (wide : volume.sectors < 2 ^ 64)
    (newest : IsNewestWithEnd volume objects base base_end) where
  base_landed : IsTrue (landed_in objects volume base)
  base_landed = ap is_some newest.is.present

  module _ (uuid_at : ℕ → Option (List ℕ)) (stream : Stream) (opening : Image) (number : ℕ)
      (has : HasDataUpTo volume uuid_at objects stream opening number)
    where
      abbrev opens : IsCheckpointOf volume objects stream.number stream.end stream.opening
      opens = has.stored.opens.is.checkpoint

      -- each stream of the store begins with it
      pub base_is : base ≡ stream.number
      base_is =
          let missing = has.stored.missing in
          let there = (has.stored.checkpoints missing.base).0 missing.newest.is_checkpoint in
          let up : missing.base ≤ base = newest.newest missing.base there.0 there.1 there.2 in
          let down : base ≤ missing.base = missing.newest.newest base
          ((has.stored.checkpoints base).1 (base_end, newest.owned, newest.is)) base_landed in
          omega (arith, up, down, has.stored.base)

      reading : (base_end ≡ stream.end) × (opens.rows ≡ newest.is.rows)
      reading =
          one_reading volume objects base stream.number base_end stream.end newest.owned stream.opening base_is newest.is opens

      owners_are : (k : ℕ) → stream.opening k ≡ owned_by newest.is.rows k
      owners_are k = opens.says k ∙ ap (λ rows. owned_by rows k) reading.1

      -- each place of its rows holds its sector
      pub hold_places : HoldPlaces objects uuid_at newest.is.rows
      hold_places = subst (HoldPlaces objects uuid_at) reading.1 has.stored.opens.is.places

      value_is : IsValue objects uuid_at (owned_by newest.is.rows) opening
      value_is k sector at =
          subst (λ o. StandsForSector objects uuid_at o k sector) (owners_are k) (has.stored.opens.value k sector at)

      -- where an ancestor's object has a sector, its rows say
      inherited_are : (log : ObjLogState) (uuid : List ℕ) (geometry : Geometry) (ancestors : ℕ)
          → IsBegun uuid_at objects uuid geometry ancestors newest.is.rows base base_end log
          → (k : ℕ) → IfSome (settled_at log.uploads.queue.maps k) (IsPlacedInherited stream.inherited k)
      inherited_are log uuid geometry ancestors new k =
          so_some (IsPlacedInherited stream.inherited k) (settled_at log.uploads.queue.maps k)
          (λ place at further.
          let row = mapped_from (place_at stored_on newest.is.rows k) place (new.inherited k place at further) in
          let same : place_at stored_on opens.rows k ≡ Some row.0 = ap (λ rows. place_at stored_on rows k) reading.1 ∙ row.1 in
          let is = has.stored.opens.inherited k row.0 same
          (subst (λ n. 1 ≤ n) (ap (λ (p : ObjectPlace). p.level) (sym row.2)) further) in
          ap (λ (p : ObjectPlace). p.sector) (sym row.2) ∙ is)

      -- a list that begins with it has the stream up to there
      at_base : (uuid : List ℕ) (geometry : Geometry) (ancestors : ℕ) (log : ObjLogState)
          → IsBegun uuid_at objects uuid geometry ancestors newest.is.rows base base_end log
          → HasStreamTo opening stream log.uploads.window.last log
      at_base uuid geometry ancestors log new =
          let moved : IsListUpTo uuid geometry ancestors stream.number stream.end log =
          subst (λ n. IsListUpTo uuid geometry ancestors n stream.end log) base_is
          (subst (λ e. IsListUpTo uuid geometry ancestors base e log) reading.0 new.list) in
          let last : stream.number ≡ log.uploads.window.last = sym (ap (λ (w : WindowState). w.last) moved.window) in
          let image = new.value opening hold_places value_is in
          subst (λ n. HasStreamTo opening stream n log) last
          (begins stream uuid geometry ancestors log moved new.order (λ k. new.owners_are k ∙ sym (owners_are k))
          (inherited_are log uuid geometry ancestors new) opening image.0 image.1)

      pub stream_to : (uuid : List ℕ) (geometry : Geometry) (ancestors : ℕ) (begun log : ObjLogState)
          → IsBegun uuid_at objects uuid geometry ancestors newest.is.rows base base_end begun
          → KeepsStreams volume objects begun log
          → (stream.number ≤ log.uploads.window.last) × (log.uploads.window.last ≤ number)
          × HasStreamTo opening stream log.uploads.window.last log
      stream_to uuid geometry ancestors begun log new keeps =
          let first : begun.uploads.window.last ≡ base = ap (λ (w : WindowState). w.last) new.list.window in
          let to : begun.uploads.window.last ≤ number =
          omega (arith, first, base_is, has.stored.missing.above, has.stored.base) in
          let now = keeps uuid_at stream opening number has (omega (arith, first, base_is)) to
          (at_base uuid geometry ancestors begun new) in
          (omega (arith, now.0, first, base_is), now.1, now.2)

      -- where no object is past the last, it is recovered
      recovered : (uuid : List ℕ) (geometry : Geometry) (ancestors : ℕ) (begun log : ObjLogState)
          → IsBegun uuid_at objects uuid geometry ancestors newest.is.rows base base_end begun
          → KeepsStreams volume objects begun log
          → IsListUpTo uuid geometry ancestors log.uploads.window.last log.uploads.queue.end log
          → found objects (object_name volume (log.uploads.window.last + 1)) ≡ None
          → HasRecovered opening stream number log
      recovered uuid geometry ancestors begun log new keeps list absent =
          let now = stream_to uuid geometry ancestors begun log new keeps in
          let last = reached volume uuid_at objects stream opening number wide has log.uploads.window.last now.0 now.1 absent in
          let streams = subst (λ n. HasStreamTo opening stream n log) last now.2 in
          record {
            number_is = last;
            end_is = sym list.first ∙ (streams.of_stream (λ n. 0)).first
                ∙ ap (end_after stream.end) (all_objects (up_to_object number stream));
            streams = streams;
          }

  -- and it is the last before the first missing number
  last_landed : (last : ℕ) → base ≤ last → HaveLanded objects volume base last
      → found objects (object_name volume (last + 1)) ≡ None
      → IsLastLanded volume objects last
  last_landed last from landed absent checkpoint are = record {
    base = base;
    newest = record {
      is_checkpoint = (are base).1 (base_end, newest.owned, newest.is);
      has_landed = base_landed;
      newest = λ other is there. let end = (are other).0 is in newest.newest other end.0 end.1 end.2;
    };
    above = omega (arith, from);
    absent = ap is_some absent;
    least = λ number past below. landed number past (omega (arith, below));
  }

  pub is_recovered : (uuid_at : ℕ → Option (List ℕ)) (uuid : List ℕ) (geometry : Geometry) (ancestors : ℕ)
      (begun log : ObjLogState)
      → IsBegun uuid_at objects uuid geometry ancestors newest.is.rows base base_end begun
      → KeepsStreams volume objects begun log
      → IsListUpTo uuid geometry ancestors log.uploads.window.last log.uploads.queue.end log → base ≤ log.uploads.window.last
      → HaveLanded objects volume base log.uploads.window.last
      → found objects (object_name volume (log.uploads.window.last + 1)) ≡ None → IsRecoveredOf volume uuid_at objects log
  is_recovered uuid_at uuid geometry ancestors begun log new keeps list from landed absent = record {
    streams = λ stream opening number has.
        recovered uuid_at stream opening number has uuid geometry ancestors begun log new keeps list absent;
    last = last_landed log.uploads.window.last from landed absent;
  }

-- For the proofs of callers: where the store tells its objects, the last of a recovered list is that before the first missing
-- number.
pub told_last : (told : Option Objects) (volume : Expected) (uuid_at : ℕ → Option (List ℕ)) (log : ObjLogState)
    → IfSome told (λ objects. IsRecoveredOf volume uuid_at objects log)
    → IfSome told (λ objects. IsLastLanded volume objects log.uploads.window.last)
told_last None volume uuid_at log is = tt
told_last (Some objects) volume uuid_at log is = is.last
