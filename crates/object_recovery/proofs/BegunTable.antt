-- The table of a list that begins with a checkpoint: which objects it has, and which of them the checkpoint does not map.
use Rattle.std.proofs.Common.{◌≡◌, ℕ, ◌<◌, ◌≤◌, inl, inr, Option, Some, None, List, [], ◌∷◌, ◌++◌, map, refl, sym}
use Rattle.std.proofs.Common.{◌∙◌, ap, subst, arith}
use Rattle.std.specs.Prelude.{IsTrue, is_some, option_map, IsSome, nat_eq, ◌↔◌, ◌⊎◌, false}
use Rattle.std.specs.List.{All, AllZip, Contains}
use Rattle.std.proofs.lemmas.Bool.{cases_lt}
use Rattle.std.proofs.lemmas.List.Elements.{All-nil, All-cons, All-push, All-map, All-contains}
use Rattle.std.proofs.lemmas.List.Elements.{All-contains_itself, All-weaker}
use Rattle.lsvd_base.specs.declared.geometry.Geometry.{Geometry}
use Rattle.lsvd_names.specs.Names.{numbered_name}
use Rattle.lsvd_objstore.specs.Objects.{Objects, found}
use Rattle.lsvd_objstore.specs.Store.{ReceiptState}
use Rattle.extent_map.specs.declared.extent.Extent.{Extent}
use Rattle.extent_map.specs.Extents.{place_at}
use Rattle.object_format.specs.declared.expected.Expected.{Expected}
use Rattle.ckpt_format.specs.declared.place.StoredPlace.{StoredPlace}
use Rattle.ckpt_format.specs.Places.{stored_on}
use Rattle.object_stream.specs.Replay.{object_name}
use Rattle.object_stream.specs.Stream.{Owners, is_own}
use Rattle.stopped_volume.specs.Objects.{landed_in}
use Rattle.stopped_volume.specs.Opening.{owned_by, IsCheckpointOf}
use Rattle.object_table.specs.declared.row.ObjectRow.{ObjectRow}
use Rattle.object_table.specs.Table.{row_of, new_row, passed}
use Rattle.object_table.proofs.Rows.{its_number}
use Rattle.object_table.proofs.Listed.{found_holds}
use Rattle.volume_maps.specs.declared.place.ObjectPlace.{ObjectPlace}
use Rattle.volume_maps.specs.Laws.{place_owner}
use Rattle.volume_maps.specs.Live.{is_live, live_sectors}
use Rattle.volume_maps.specs.Maps.{settled_at}
use Rattle.volume_maps.proofs.TableLemmas.{same_numbers}
use Rattle.object_uploads.specs.State.{QueueState}
use Rattle.object_uploads.specs.Checkpoint.{mapped_place}
use Rattle.object_uploads.specs.Opening.{HasBegun}
use Rattle.object_uploads.specs.Order.{IsUploads}
use Rattle.object_uploads.proofs.DeadLemmas.{nowhere, none_live}
use Rattle.object_uploads.proofs.DeadRows.{dead_has_none}
use Rattle.object_uploads.proofs.QueueKept.{renumbered}
use Rattle.object_uploads.proofs.StoredLemmas.{front_in}
use Rattle.obj_log.specs.State.{ObjLogState}
use Rattle.object_recovery.specs.Beginning.{IsTakenUp, HasTakenUp, HasRows}
use Rattle.object_recovery.specs.Checkpoints.{expected_of}
use Rattle.object_recovery.specs.Earlier.{EarlierObject, HasEarlier, AreAllEarlier, IsStoredThere}
use Rattle.object_recovery.specs.Table.{HasTableUnheld, ArePayloadsThere, KnowsObjects}
use Rattle.object_recovery.proofs.BegunLemmas.{HasBegunWith}
use Rattle.object_recovery.proofs.PlaceLemmas.{so_some}
use Rattle.object_recovery.proofs.RecoverLemmas.{one_reading}
use Rattle.object_recovery.proofs.TableLemmas.{same_presence, row_of_last, AreUnpinned, unpinned_same, AreNotCopied}
use Rattle.object_recovery.proofs.TableLemmas.{not_copied_same, AreUnheld, unheld_same}
use Rattle.object_recovery.proofs.TakenLemmas.{taken_have}

-- ---- which objects it has

-- a number is that of the checkpoint, or of an object before it
abbrev pub IsListed : List EarlierObject → (number n : ℕ) → Type 0
IsListed earlier number n = HasEarlier earlier n ⊎ (n ≡ number)

-- The table is from the checkpoint on, has no object but it and those before it, and has it where it has a number at all.
pub record ListsTable (number : ℕ) (earlier : List EarlierObject) (queue : QueueState) : Type 0 where
  pub table : HasTableUnheld number queue
  pub listed : All (λ (row : ObjectRow). IsListed earlier number row.number) queue.maps.objects.rows
  pub own : 0 < number → IsTrue (is_some (row_of number queue.maps.objects.rows))

-- objects that were just taken up are new to the table: not pinned, and no plan takes sectors from them
taken_new : (volume : Expected) (Is : ObjectRow → Type 0) → ((number payload front : ℕ) → Is (new_row number payload front))
    → (earlier : List EarlierObject) (rows : List ObjectRow) → AllZip (IsTakenUp volume) earlier rows → All Is rows
taken_new volume Is new [] [] taken = All-nil Is
taken_new volume Is new [] (row ∷ rows) taken = absurd taken
taken_new volume Is new (first ∷ rest) [] taken = absurd taken
taken_new volume Is new (first ∷ rest) (row ∷ rows) taken =
    All-cons Is row rows (subst Is (sym taken.0.2) (new first.number taken.0.0 taken.0.1))
    (taken_new volume Is new rest rows taken.1)

module _ (uuid : List ℕ) (geometry : Geometry) (ancestors number end : ℕ) (earlier : List EarlierObject)
    (rows : List (Extent StoredPlace)) (taken log : ObjLogState)
    (is : HasTakenUp uuid geometry ancestors number end earlier taken) (has : HasRows rows taken log) where
  abbrev table_rows : List ObjectRow
  table_rows = log.uploads.queue.maps.objects.rows

  unpinned : AreUnpinned table_rows
  unpinned =
      unpinned_same table_rows taken.uploads.queue.maps.objects.rows has.objects.rows
      (taken_new (expected_of uuid geometry ancestors) (λ (row : ObjectRow). row.pins ≡ 0) (λ n payload front. refl) earlier
      taken.uploads.queue.maps.objects.rows is.objects)

  not_copied : AreNotCopied table_rows
  not_copied =
      not_copied_same table_rows taken.uploads.queue.maps.objects.rows has.objects.rows
      (taken_new (expected_of uuid geometry ancestors) (λ (row : ObjectRow). row.is_copied ≡ false)
      (λ n payload front. refl) earlier
      taken.uploads.queue.maps.objects.rows is.objects)

  unheld : AreUnheld table_rows
  unheld =
      unheld_same table_rows taken.uploads.queue.maps.objects.rows has.objects.rows
      (taken_new (expected_of uuid geometry ancestors) (λ (row : ObjectRow). row.is_held ≡ false)
      (λ n payload front. refl) earlier
      taken.uploads.queue.maps.objects.rows is.objects)

  listed : All (λ (row : ObjectRow). IsListed earlier number row.number) table_rows
  listed =
      renumbered (IsListed earlier number) taken.uploads.queue.maps.objects.rows table_rows
      (same_numbers taken.uploads.queue.maps.objects log.uploads.queue.maps.objects has.objects)
      (taken_have (expected_of uuid geometry ancestors) (IsListed earlier number) earlier
      taken.uploads.queue.maps.objects.rows is.objects
      (All-weaker (Contains earlier) (λ (e : EarlierObject). IsListed earlier number e.number) (λ e at. inl (e, at, refl)) earlier
      (All-contains_itself earlier)))

  -- the checkpoint of the number 0 is not begun with
  pub none_begun : number ≡ 0 → ListsTable number earlier log.uploads.queue
  none_begun zero_ = record {
    table = record {
      table = record {
        checkpoint_is = has.objects.checkpoint ∙ is.checkpoint ∙ sym zero_;
        removal = has.rest.removal ∙ is.removal;
        unpinned = unpinned;
        not_copied = not_copied;
        exact = λ at i d inside below. absurd (omega (arith, below, zero_));
      };
      unheld = unheld;
    };
    listed = listed;
    own = λ some. absurd (omega (arith, some, zero_));
  }

  -- any other one is
  module _ (receipt : ReceiptState) (new : ObjLogState) (begun : HasBegun receipt log.uploads new.uploads)
      (below : All (λ (row : ObjectRow). row.number < number) table_rows) where
    frontier : log.uploads.queue.frontier ≡ number
    frontier = has.rest.frontier ∙ is.list.frontier

    abbrev own_row : ObjectRow
    own_row = new_row number 0 0

    new_rows : new.uploads.queue.maps.objects.rows ≡ map passed table_rows ++ own_row ∷ []
    new_rows = begun.rows ∙ ap (λ n. map passed table_rows ++ new_row n 0 0 ∷ []) frontier

    -- what holds of the objects once they were passed, and of the checkpoint
    now_all : (P : ObjectRow → Type 0) → All (λ (row : ObjectRow). P (passed row)) table_rows → P own_row
        → All P new.uploads.queue.maps.objects.rows
    now_all P all own =
        subst (All P) (sym new_rows) (All-push P (map passed table_rows) own_row (All-map P passed table_rows all) own)

    own_there : IsTrue (is_some (row_of number new.uploads.queue.maps.objects.rows))
    own_there =
        ap (λ list. is_some (row_of number list)) new_rows
        ∙ ap is_some (row_of_last (map passed table_rows) own_row
        (All-map (λ (row : ObjectRow). row.number < number) passed table_rows below))

    pub all_passed : ListsTable number earlier new.uploads.queue
    all_passed = record {
      table = record {
        table = record {
          checkpoint_is = begun.checkpoint ∙ frontier;
          removal = begun.rest.removal ∙ has.rest.removal ∙ is.removal;
          unpinned = now_all (λ (row : ObjectRow). row.pins ≡ 0) unpinned refl;
          not_copied = now_all (λ (row : ObjectRow). row.is_copied ≡ false) not_copied refl;
          exact = λ at.
              now_all (λ (row : ObjectRow). row.number < number → row.is_unmapped ≡ nat_eq row.live 0)
              (λ i d inside low. refl) (λ low. absurd (omega (arith, low)));
        };
        unheld = now_all (λ (row : ObjectRow). row.is_held ≡ false) unheld refl;
      };
      listed = now_all (λ (row : ObjectRow). IsListed earlier number row.number) listed (inr refl);
      own = λ some. own_there;
    }

-- ---- what it says of the objects of the store

-- the owner of a sector is one of the volume's own objects just where the sector is live in it
own_live : (number : ℕ) (place : Option ObjectPlace) → is_own number (place_owner place) ≡ is_live number place
own_live number None = refl
own_live number (Some place) = refl

-- an object with a front is there
with_front : (row : Option ObjectRow) (front : ℕ) → front_in row ≡ Some front → IsTrue (is_some row)
with_front None front is = absurd cc
with_front (Some row) front is = refl

module _ (uuid : List ℕ) (geometry : Geometry) (ancestors number base_end : ℕ) (earlier : List EarlierObject)
    (rows : List (Extent StoredPlace)) (log : ObjLogState) (objects : Objects)
    (begun : HasBegunWith (expected_of uuid geometry ancestors) earlier rows log.uploads.queue)
    (lists : ListsTable number earlier log.uploads.queue) (frontier : log.uploads.queue.frontier ≡ number)
    (order : IsUploads log.uploads)
    (owners_are : (k : ℕ) → place_owner (settled_at log.uploads.queue.maps k) ≡ owned_by rows k)
    (all : AreAllEarlier uuid objects number earlier)
    (checkpoint : IsCheckpointOf (expected_of uuid geometry ancestors) objects number base_end (owned_by rows))
    (its_rows : checkpoint.rows ≡ rows)
    (payloads : ArePayloadsThere (expected_of uuid geometry ancestors) objects log.uploads.queue) where
  abbrev volume : Expected
  volume = expected_of uuid geometry ancestors

  abbrev queue : QueueState
  queue = log.uploads.queue

  abbrev list : List ObjectRow
  list = queue.maps.objects.rows

  landed : (n : ℕ) → IsListed earlier number n → IsTrue (landed_in objects volume n)
  landed n there =
      elim there [
        | inl has ↦ (
            let stored = All-contains (IsStoredThere uuid objects) earlier has.0 all.stored has.1 in
            ap (λ m. landed_in objects volume m) (sym has.2) ∙ ap is_some stored.1)
        | inr own ↦ ap (λ m. landed_in objects volume m) own ∙ ap is_some checkpoint.present
      ]

  row_there : (n : ℕ) → 1 ≤ n → n ≤ number → IsSome (found objects (numbered_name uuid n)) → IsTrue (is_some (row_of n list))
  row_there n some to there =
      elim (cases_lt n number) [
        | inl low ↦ (
            let has = all.complete n some low there in
            let stored = begun.stored has.0 has.1 in
            subst (λ m. IsTrue (is_some (row_of m list))) has.2
            (with_front (row_of has.0.number list) stored.1 stored.3.front_is))
        | inr high ↦ (
            let own : n ≡ number = omega (arith, high, to) in
            subst (λ m. IsTrue (is_some (row_of m list))) (sym own) (lists.own (omega (arith, some, to))))
      ]

  known : (n : ℕ) → 1 ≤ n → n ≤ queue.frontier → is_some (row_of n list) ≡ landed_in objects volume n
  known n some to =
      same_presence (row_of n list) (found objects (object_name volume n))
      (λ row at.
      landed n (subst (IsListed earlier number) (its_number n list row at)
      (found_holds (λ (r : ObjectRow). IsListed earlier number r.number) n list row at lists.listed)))
      (λ bytes at. row_there n some (omega (arith, to, frontier)) (ap is_some at))

  module _ (owned : Owners) (end : ℕ) (other : IsCheckpointOf volume objects number end owned) (n : ℕ) where
    owner_is : (k : ℕ) → is_own n (owned k) ≡ is_live n (settled_at queue.maps k)
    owner_is k =
        let one = one_reading volume objects number number base_end end (owned_by rows) owned refl checkpoint other in
        ap (is_own n) (other.says k ∙ ap (λ places. owned_by places k) (one.1 ∙ its_rows) ∙ sym (owners_are k))
        ∙ own_live n (settled_at queue.maps k)

    unmapped_at : (row : ObjectRow) → row_of n list ≡ Some row
        → IsTrue row.is_unmapped ↔ ((n < number) × ((k : ℕ) → is_own n (owned k) ≡ false))
    unmapped_at row at =
        let named = its_number n list row at in
        let live = found_holds (λ (r : ObjectRow). r.live ≡ live_sectors r.number queue.maps.settled.rows) n list row at
        order.known.counted.live ∙ ap (λ m. live_sectors m queue.maps.settled.rows) named in
        let exact = found_holds (λ (r : ObjectRow). r.number < number → r.is_unmapped ≡ nat_eq r.live 0) n list row at
        (lists.table.table.exact frontier) in (
          λ unmapped. (
              let dead = order.known.unmapped n (row, at, unmapped) in
              let none = dead_has_none n queue.maps order.known.counted dead.0 in (
                omega (arith, dead.1, lists.table.table.checkpoint_is),
                λ k. owner_is k ∙ nowhere n queue.maps.settled.rows k none,
              )),
          λ both. (
              let none = none_live n queue.maps.settled.rows order.known.shortest (λ k. sym (owner_is k) ∙ both.1 k) in
              exact (omega (arith, named, both.0)) ∙ ap (λ l. nat_eq l 0) (live ∙ none)),
        )

  pub knows : KnowsObjects volume objects number queue
  knows = record {
    known = known;
    unmapped = λ end owned other n.
        so_some (λ (row : ObjectRow). IsTrue row.is_unmapped ↔ ((n < number) × ((k : ℕ) → is_own n (owned k) ≡ false)))
        (row_of n list) (unmapped_at owned end other n);
    places = λ end owned other k place at low.
        (let one = one_reading volume objects number number base_end end (owned_by rows) owned refl checkpoint other in
        ap (λ list. option_map mapped_place (place_at stored_on list k)) (one.1 ∙ its_rows) ∙ sym (begun.settled k) ∙ at);
    payloads = payloads;
  }
