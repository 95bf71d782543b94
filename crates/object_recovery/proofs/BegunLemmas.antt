-- The list that begins with a checkpoint: the objects that it has, and its places.
use Rattle.std.proofs.Common.{◌≡◌, ℕ, ◌+◌, ◌*◌, ◌<◌, ◌≤◌, ◌==◌, inl, inr, cond, false, Option, Some, None, List, [], ◌∷◌}
use Rattle.std.proofs.Common.{◌++◌, length, map, refl, sym, ◌∙◌, ap, subst, arith}
use Rattle.std.specs.Prelude.{◌⊎◌, IfSome, option_map}
use Rattle.std.specs.List.{All, Contains}
use Rattle.std.specs.Option.{IsSome as IsTold}
use Rattle.std.proofs.lemmas.Bool.{cases_lt}
use Rattle.std.proofs.lemmas.Bool.Decides.{nat_tests}
use Rattle.std.proofs.lemmas.List.Elements.{All-nil, All-cons, All-head, All-tail, All-contains}
use Rattle.clone_chain.specs.declared.ancestor.Ancestor.{Ancestor}
use Rattle.lsvd_base.specs.declared.geometry.Geometry.{Geometry}
use Rattle.lsvd_objstore.specs.Objects.{Objects}
use Rattle.lsvd_objstore.specs.Store.{ReceiptState}
use Rattle.extent_map.specs.declared.extent.Extent.{Extent}
use Rattle.extent_map.specs.Extents.{place_at}
use Rattle.object_format.specs.declared.expected.Expected.{Expected}
use Rattle.ckpt_format.specs.declared.place.StoredPlace.{StoredPlace}
use Rattle.ckpt_format.specs.Places.{stored_on}
use Rattle.ckpt_format.specs.Rows.{AllMayStand}
use Rattle.object_stream.specs.declared.owner.Owner.{Owner}
use Rattle.stopped_volume.specs.Ancestors.{uuid_in_chain}
use Rattle.stopped_volume.specs.Expected.{expected_alone}
use Rattle.stopped_volume.specs.Opening.{stored_owner, owned_by}
use Rattle.object_table.specs.declared.row.ObjectRow.{ObjectRow}
use Rattle.object_table.specs.Table.{row_of, numbers, new_row, passed, IsNewest}
use Rattle.volume_maps.specs.declared.place.ObjectPlace.{ObjectPlace}
use Rattle.volume_maps.specs.Places.{object_on}
use Rattle.volume_maps.specs.Maps.{settled_at}
use Rattle.volume_maps.specs.Live.{MayGain, but_live}
use Rattle.volume_maps.specs.Laws.{place_owner}
use Rattle.volume_maps.proofs.TableLemmas.{same_numbers}
use Rattle.object_uploads.specs.Checkpoint.{mapped_place}
use Rattle.object_uploads.specs.State.{NumberedReceipt, StoredObject, QueueState}
use Rattle.object_uploads.specs.Queue.{receipt_in, stored_with, inherited_in, stored_at}
use Rattle.object_uploads.specs.Opening.{HasBegun}
use Rattle.object_uploads.proofs.DeadRows.{row_seen, row_still}
use Rattle.object_uploads.proofs.StoredLemmas.{front_in, fixed_passed, fixed_same}
use Rattle.obj_log.specs.State.{ObjLogState}
use Rattle.object_recovery.specs.Checkpoints.{expected_of}
use Rattle.object_recovery.specs.declared.inherited.Named.{Named}
use Rattle.object_recovery.specs.Earlier.{EarlierObject, IsStoredThere, AreReached}
use Rattle.object_recovery.specs.Inherited.{AreNamedBy, found_as, IsTaken, IsAbsentThere, HasInherited}
use Rattle.object_recovery.specs.Beginning.{HasPartsAsked, HasTakenUp, MayMap, HasRows}
use Rattle.object_uploads.specs.Collection.{IsInsideObject}
use Rattle.object_recovery.specs.Places.{HasPlacesInside}
use Rattle.object_recovery.proofs.EarlierLemmas.{Ascend}
use Rattle.object_recovery.proofs.TakenLemmas.{taken_below, has_taken}
use Rattle.object_recovery.proofs.RowLemmas.{place_stands}
use Rattle.object_recovery.proofs.StoredObjects.{HasStored, stored_kept, stored_before, stored_is}

-- ---- the payload of an object

-- the table has an object with this payload
pub record HasPayloadIn (number payload : ℕ) (rows : List ObjectRow) : Type 0 where
  pub row : ObjectRow
  pub there : row_of number rows ≡ Some row
  pub payload_is : row.payload ≡ payload

-- also where live sectors alone differ
payload_same : (number payload : ℕ) (old new : List ObjectRow) → map but_live new ≡ map but_live old
    → HasPayloadIn number payload old → HasPayloadIn number payload new
payload_same number payload old new same has =
    let there = row_seen but_live number old new has.row (λ r. refl) same has.there in
    record { row = there.0; there = there.1; payload_is = ap (λ (r : ObjectRow). r.payload) there.2 ∙ has.payload_is }

-- and where a checkpoint passed all, and others came
abbrev unpassed : ObjectRow → ObjectRow
unpassed row = record row { is_unmapped = false }

unpassed_rows : (rows : List ObjectRow) → map unpassed (map passed rows) ≡ map unpassed rows
unpassed_rows [] = refl
unpassed_rows (row ∷ rows) = ap (λ more. unpassed row ∷ more) (unpassed_rows rows)

payload_passed : (number payload : ℕ) (rows more : List ObjectRow) → HasPayloadIn number payload rows
    → HasPayloadIn number payload (map passed rows ++ more)
payload_passed number payload rows more has =
    let there = row_seen unpassed number rows (map passed rows) has.row (λ r. refl) (unpassed_rows rows) has.there in
    record {
      row = there.0;
      there = row_still number (map passed rows) more there.0 there.1;
      payload_is = ap (λ (r : ObjectRow). r.payload) there.2 ∙ has.payload_is;
    }

-- ---- the objects of the list as it begins

-- what is known of the objects before the checkpoint in the list as it begins
pub record HasBegunWith (volume : Expected) (earlier : List EarlierObject) (rows : List (Extent StoredPlace))
    (queue : QueueState) : Type 0 where
  pub settled : (k : ℕ) → settled_at queue.maps k ≡ option_map mapped_place (place_at stored_on rows k)
  pub stored : (e : EarlierObject) → Contains earlier e
      → (payload : ℕ) × (front : ℕ) × HasPartsAsked volume e payload front
      × HasStored e.number e.receipt front queue.receipts queue.maps.objects.rows
      × HasPayloadIn e.number payload queue.maps.objects.rows

module _ (uuid : List ℕ) (geometry : Geometry) (ancestors number end : ℕ) (earlier : List EarlierObject)
    (rows : List (Extent StoredPlace)) (taken log : ObjLogState) (order : Ascend earlier)
    (is : HasTakenUp uuid geometry ancestors number end earlier taken) (has : HasRows rows taken log) where
  abbrev volume : Expected
  volume = expected_of uuid geometry ancestors

  -- an object that was taken up is stored
  stored_taken : (e : EarlierObject) → Contains earlier e
      → (payload : ℕ) × (front : ℕ) × HasPartsAsked volume e payload front
      × HasStored e.number e.receipt front taken.uploads.queue.receipts taken.uploads.queue.maps.objects.rows
      × HasPayloadIn e.number payload taken.uploads.queue.maps.objects.rows
  stored_taken e at =
      let t = has_taken volume earlier taken.uploads.queue.maps.objects.rows e order is.objects at in
      let front : front_in (row_of e.number taken.uploads.queue.maps.objects.rows) ≡ Some t.taken.1 =
      ap front_in t.there ∙ ap (λ (r : ObjectRow). Some r.front) t.taken.2 in (
        t.taken.0,
        t.taken.1,
        t.taken.3,
        record {
          receipt_is = ap (λ l. receipt_in l e.number) is.receipts ∙ t.receipt;
          front_is = front;
        },
        record { row = t.row; there = t.there; payload_is = ap (λ (r : ObjectRow). r.payload) t.taken.2 },
      )

  -- also after the rows were entered
  pub rows_begun : HasBegunWith volume earlier rows log.uploads.queue
  rows_begun = record {
    settled = has.settled;
    stored = λ e at.
        let s = stored_taken e at in (
          s.0,
          s.1,
          s.2,
          stored_kept e.number e.receipt s.1 taken.uploads.queue.receipts log.uploads.queue.receipts
              taken.uploads.queue.maps.objects.rows log.uploads.queue.maps.objects.rows has.receipts
              (fixed_same log.uploads.queue.maps.objects.rows taken.uploads.queue.maps.objects.rows has.objects.rows) s.3,
          payload_same e.number s.0 taken.uploads.queue.maps.objects.rows log.uploads.queue.maps.objects.rows has.objects.rows
              s.4,
        );
  }

  -- and after the checkpoint was begun with
  pub all_begun : (receipt : ReceiptState) (new : ObjLogState) → HasBegun receipt log.uploads new.uploads
      → HasBegunWith volume earlier rows new.uploads.queue
  all_begun receipt new begun = record {
    settled = λ k. ap (λ list. place_at object_on list k) begun.settled ∙ has.settled k;
    stored = λ e at.
        let s = rows_begun.stored e at in
        let old_rows = log.uploads.queue.maps.objects.rows in
        let with_receipt : List NumberedReceipt =
        log.uploads.queue.receipts ++ record { number = log.uploads.queue.frontier; receipt = receipt } ∷ [] in
        let passed_rows = stored_kept e.number e.receipt s.1 log.uploads.queue.receipts log.uploads.queue.receipts old_rows
        (map passed old_rows) refl (fixed_passed old_rows) s.3 in
        let more = stored_before e.number e.receipt s.1 log.uploads.queue.receipts
        (record { number = log.uploads.queue.frontier; receipt = receipt } ∷ []) (map passed old_rows)
        (new_row log.uploads.queue.frontier 0 0 ∷ []) passed_rows in
        let with_rows = subst (HasStored e.number e.receipt s.1 with_receipt) (sym begun.rows) more in (
          s.0,
          s.1,
          s.2,
          subst (λ r. HasStored e.number e.receipt s.1 r new.uploads.queue.maps.objects.rows) (sym begun.receipts)
              with_rows,
          subst (HasPayloadIn e.number s.0) (sym begun.rows)
              (payload_passed e.number s.0 old_rows (new_row log.uploads.queue.frontier 0 0 ∷ []) s.4),
        );
  }

-- ---- places

-- a place that is mapped is one of rows
pub mapped_from : (place : Option StoredPlace) (mapped : ObjectPlace) → option_map mapped_place place ≡ Some mapped
    → (p : StoredPlace) × (place ≡ Some p) × (mapped_place p ≡ mapped)
mapped_from None mapped is = absurd cc
mapped_from (Some p) mapped is = (p, refl, cc)

-- an object that is reached has a place before its reach
pub inside_payload : (volume : Expected) (e : EarlierObject) (payload front at : ℕ) → HasPartsAsked volume e payload front
    → at < e.reach → 512 * (front + at + 1) ≤ e.receipt.size
inside_payload volume e payload front at parts before =
    let header = parts.header (λ none. omega (arith, none, before)) in
    omega (arith, header.size, header.front_is, header.payload_is, parts.reach, before)

-- an ancestor's object that was taken up is the one of its places
stored_inherited : (queue : QueueState) (place : ObjectPlace) (object : StoredObject) → 1 ≤ place.level
    → inherited_in queue.inherited (record { level = place.level; number = place.number }) ≡ Some object
    → stored_at queue place ≡ Some object
stored_inherited queue place object further is =
    let own = stored_with (receipt_in queue.receipts place.number) (row_of place.number queue.maps.objects.rows) in
    let owner : Owner = record { level = place.level; number = place.number } in
    let test : (place.level == 0) ≡ false = grind (arith, nat_tests) in
    ap (λ b. cond b own (inherited_in queue.inherited owner)) test ∙ is

module _ (Tells : Type 0) (uuid : List ℕ) (geometry : Geometry) (chain : List Ancestor) (told : Option Objects) (number : ℕ)
    (earlier : List EarlierObject) (named : List Named) (absent : Option (List ℕ)) (rows : List (Extent StoredPlace))
    (queue : QueueState) (stand : AllMayStand (expected_alone (expected_of uuid geometry (length chain)) number) rows)
    (reached : AreReached rows earlier) (begun : HasBegunWith (expected_of uuid geometry (length chain)) earlier rows queue)
    (names : AreNamedBy rows named) (inherits : HasInherited Tells geometry chain told named queue.inherited absent) where
  -- what is expected of the objects with the uuid of a level
  abbrev volume_of : (its : List ℕ) → Expected
  volume_of its = expected_of its geometry (length chain)

  -- What the list has at a place of the rows: an object with the uuid of the place's level, which is reached past the place.
  pub record HasAt (place : StoredPlace) : Type 0 where
    pub its : List ℕ
    pub of : uuid_in_chain uuid chain place.level ≡ Some its
    pub object : EarlierObject
    pub number_is : object.number ≡ place.number
    pub before : place.place < object.reach
    pub payload : ℕ
    pub front : ℕ
    pub parts : HasPartsAsked (volume_of its) object payload front
    pub stored : stored_at queue (mapped_place place) ≡ Some (record { receipt = object.receipt; front = front })
    pub in_store : (objects : Objects) → told ≡ Some objects → All (IsStoredThere uuid objects) earlier
        → IsStoredThere its objects object
    pub is_told : Tells → All (λ (e : EarlierObject). IsTold e.receipt.told) earlier → IsTold object.receipt.told
    pub in_table : place.level ≡ 0 → HasPayloadIn object.number payload queue.maps.objects.rows

  -- or the place is in an object that an ancestor lacks
  pub record IsAbsentAt (place : StoredPlace) : Type 0 where
    pub further : 1 ≤ place.level
    pub object : Named
    pub among : Contains named object
    pub level : object.level ≡ place.level
    pub number_is : object.number ≡ place.number
    pub lacks : IsAbsentThere Tells geometry chain told object

  pub own_at : (k : ℕ) (place : StoredPlace) → place_at stored_on rows k ≡ Some place → place.level ≡ 0 → HasAt place
  own_at k place is own =
      let r = reached k place is own in
      let s = begun.stored r.0 r.1 in
      record {
        its = uuid;
        of = ap (uuid_in_chain uuid chain) own;
        object = r.0;
        number_is = r.2;
        before = r.3;
        payload = s.0;
        front = s.1;
        parts = s.2;
        stored =
            stored_is queue (mapped_place place) r.0.receipt s.1 own
            (subst (λ n. HasStored n r.0.receipt s.1 queue.receipts queue.maps.objects.rows) r.2 s.3);
        in_store = λ objects is all. All-contains (IsStoredThere uuid objects) earlier r.0 all r.1;
        is_told = λ tells all. All-contains (λ (e : EarlierObject). IsTold e.receipt.told) earlier r.0 all r.1;
        in_table = λ own. s.4;
      }

  taken_at : (place : StoredPlace) (n : Named) → 1 ≤ place.level → n.level ≡ place.level → n.number ≡ place.number
      → place.place < n.reach → IsTaken Tells geometry chain told queue.inherited n → HasAt place
  taken_at place n further level number_is before t =
      let Found : ℕ → ℕ → Type 0 = λ l m. inherited_in queue.inherited (record { level = l; number = m })
      ≡ Some (record { receipt = t.receipt; front = t.front }) in
      let there = subst (λ l. Found l place.number) level (subst (Found n.level) number_is t.there) in
      record {
        its = t.uuid;
        of = ap (uuid_in_chain uuid chain) (sym level) ∙ t.of uuid;
        object = found_as n t.receipt;
        number_is = number_is;
        before = before;
        payload = t.has.payload;
        front = t.front;
        parts = t.has.parts;
        stored =
            stored_inherited queue (mapped_place place) (record { receipt = t.receipt; front = t.front }) further there;
        in_store = λ objects is all.
            subst (λ o. IfSome o (λ objects. IsStoredThere t.uuid objects (found_as n t.receipt))) is t.has.found.stored;
        is_told = λ tells all. t.has.found.tells tells;
        in_table = λ own. absurd (omega (arith, own, further));
      }

  inherited_at : (k : ℕ) (place : StoredPlace) → place_at stored_on rows k ≡ Some place → 1 ≤ place.level
      → HasAt place ⊎ IsAbsentAt place
  inherited_at k place is further =
      let n = names.all k place is further in
      elim (All-contains (λ (o : Named). IsTaken Tells geometry chain told queue.inherited o
      ⊎ IsAbsentThere Tells geometry chain told o) named n.0 inherits.each n.1) [
        | inl taken ↦ inl (taken_at place n.0 further n.2 n.3 n.4 taken)
        | inr lacks ↦ inr (record {
          further = further;
          object = n.0;
          among = n.1;
          level = n.2;
          number_is = n.3;
          lacks = lacks;
        })
      ]

  pub has_at : (k : ℕ) (place : StoredPlace) → place_at stored_on rows k ≡ Some place → HasAt place ⊎ IsAbsentAt place
  has_at k place is =
      elim (cases_lt 0 place.level) [
        | inl further ↦ inherited_at k place is (omega (arith, further))
        | inr own ↦ inl (own_at k place is (omega (arith, own)))
      ]

  -- where no ancestor lacks one
  pub whole_at : absent ≡ None → (k : ℕ) (place : StoredPlace) → place_at stored_on rows k ≡ Some place → HasAt place
  whole_at whole k place is =
      elim (cases_lt 0 place.level) [
        | inl further ↦ (
            let n = names.all k place is (omega (arith, further)) in
            taken_at place n.0 (omega (arith, further)) n.2 n.3 n.4
            (All-contains (IsTaken Tells geometry chain told queue.inherited) named n.0 (inherits.whole whole) n.1))
        | inr own ↦ own_at k place is (omega (arith, own))
      ]

  place_inside : absent ≡ None → (k : ℕ) (place : StoredPlace) → place_at stored_on rows k ≡ Some place
      → (k < geometry.sectors) × IsInsideObject (stored_at queue (mapped_place place)) place.place
  place_inside whole k place is =
      let has = whole_at whole k place is in
      let stands = place_stands (expected_alone (volume_of uuid) number) rows k place stand is in (
        stands.inside,
        subst (λ o. IsInsideObject o place.place) (sym has.stored)
            (inside_payload (volume_of has.its) has.object has.payload has.front place.place has.parts has.before),
      )

  pub places_inside : absent ≡ None → HasPlacesInside geometry.sectors queue
  places_inside whole k place is =
      let from = mapped_from (place_at stored_on rows k) place (sym (begun.settled k) ∙ is) in
      subst (λ p. (k < geometry.sectors) × IsInsideObject (stored_at queue p) p.sector) from.2
      (place_inside whole k from.0 from.1)

owner_by : (place : Option StoredPlace) → place_owner (option_map mapped_place place) ≡ option_map stored_owner place
owner_by None = refl
owner_by (Some place) = refl

pub owners_are : (of_volume : Expected) (earlier : List EarlierObject) (rows : List (Extent StoredPlace)) (queue : QueueState)
    → HasBegunWith of_volume earlier rows queue → (k : ℕ) → place_owner (settled_at queue.maps k) ≡ owned_by rows k
owners_are of_volume earlier rows queue begun k =
    ap place_owner (begun.settled k) ∙ owner_by (place_at stored_on rows k)

-- ---- what the steps ask for

-- the map may take the rows
pub may_map : (uuid : List ℕ) (geometry : Geometry) (ancestors number end : ℕ) (earlier : List EarlierObject)
    (rows : List (Extent StoredPlace)) (log : ObjLogState)
    → Ascend earlier → HasTakenUp uuid geometry ancestors number end earlier log → AreReached rows earlier → MayMap rows log
may_map uuid geometry ancestors number end earlier rows log order is reached k place at own =
    let r = reached k place at own in
    let t = has_taken (expected_of uuid geometry ancestors) earlier log.uploads.queue.maps.objects.rows r.0 order is.objects
    r.1 in
    subst (λ n. MayGain n log.uploads.queue.maps.objects) r.2
    (t.row, t.there, ap (λ (row : ObjectRow). row.is_unmapped) t.taken.2)

below_numbers : (most : ℕ) (a b : List ObjectRow) → numbers a ≡ numbers b → All (λ (r : ObjectRow). r.number < most) b
    → All (λ (r : ObjectRow). r.number < most) a
below_numbers most [] b same below = All-nil (λ (r : ObjectRow). r.number < most)
below_numbers most (x ∷ a) [] same below = absurd cc
below_numbers most (x ∷ a) (y ∷ b) same below =
    let head : x.number ≡ y.number = cc in
    let tail : numbers a ≡ numbers b = cc in
    let low = All-head (λ (r : ObjectRow). r.number < most) y b below in
    All-cons (λ (r : ObjectRow). r.number < most) x a (omega (arith, head, low))
    (below_numbers most a b tail (All-tail (λ (r : ObjectRow). r.number < most) y b below))

-- the checkpoint is newer than all objects of the table
pub newest_checkpoint : (uuid : List ℕ) (geometry : Geometry) (ancestors number end : ℕ) (earlier : List EarlierObject)
    (rows : List (Extent StoredPlace)) (taken log : ObjLogState)
    → HasTakenUp uuid geometry ancestors number end earlier taken → HasRows rows taken log
    → All (λ (e : EarlierObject). e.number < number) earlier → 0 < number
    → IsNewest log.uploads.queue.maps.objects number
newest_checkpoint uuid geometry ancestors number end earlier rows taken log is has below some = record {
  above_rows =
      below_numbers number log.uploads.queue.maps.objects.rows taken.uploads.queue.maps.objects.rows
      (same_numbers taken.uploads.queue.maps.objects log.uploads.queue.maps.objects has.objects)
      (taken_below (expected_of uuid geometry ancestors) earlier taken.uploads.queue.maps.objects.rows number is.objects below);
  above_checkpoint = omega (arith, has.objects.checkpoint, is.checkpoint, some);
}
