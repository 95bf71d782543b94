-- Where the places in the map of a recovered list lie.
use Rattle.std.proofs.Common.{◌≡◌, ℕ, ◌+◌, ◌-◌, ◌*◌, ◌<◌, ◌≤◌, ◌==◌, ◌&&◌, nat_le, nat_lt, cond, Bool, true, false, Option}
use Rattle.std.proofs.Common.{Some, None}
use Rattle.std.proofs.Common.{List, [], ◌∷◌}
use Rattle.std.proofs.Common.{refl, sym, ◌∙◌, ap, subst, arith}
use Rattle.std.specs.Prelude.{IsTrue, IfSome}
use Rattle.std.specs.Global.{Vec}
use Rattle.std.proofs.lemmas.Bool.{and_parts, leb-true, eqb-true}
use Rattle.std.proofs.lemmas.Bool.Decides.{nat_tests}
use Rattle.extent_map.specs.Extents.{is_within, place_at}
use Rattle.lsvd_objstore.specs.Store.{ReceiptState}
use Rattle.object_format.specs.declared.copy_row.CopyRow.{CopyRow}
use Rattle.object_format.specs.declared.data_row.DataRow.{DataRow}
use Rattle.object_format.specs.declared.expected.Expected.{Expected}
use Rattle.object_format.specs.declared.header.Header.{Header}
use Rattle.object_format.specs.declared.kind.Kind.TheVariants as kinds
use Rattle.object_format.specs.declared.rows.Rows.{Rows}
use Rattle.object_format.specs.declared.rows.Rows.TheVariants as rows_of
use Rattle.object_format.specs.Layout.{front_sectors, front_with}
use Rattle.object_format.specs.Rows.{is_at, payload_at, data_payload, data_may_stand, data_rows_may_stand}
use Rattle.object_format.specs.Rows.{is_inside, copy_may_follow, is_source, copy_may_stand, copy_rows_may_stand}
use Rattle.object_stream.specs.declared.owner.Owner.{Owner}
use Rattle.object_table.specs.Table.{new_row, added}
use Rattle.volume_maps.specs.declared.place.ObjectPlace.{ObjectPlace}
use Rattle.volume_maps.specs.Places.{object_on}
use Rattle.volume_maps.specs.Live.{is_live, HasSameObjects}
use Rattle.volume_maps.specs.Maps.{row_object_place, settled_by_row, settled_by, settled_by_copy_row, settled_by_copy, settled_at}
use Rattle.object_uploads.specs.declared.rows.SealedRows.{SealedRows}
use Rattle.object_uploads.specs.declared.rows.SealedRows.TheVariants as sealed_rows
use Rattle.object_uploads.specs.State.{StoredObject, QueueState}
use Rattle.object_uploads.specs.Queue.{front_of, copy_front_of, payload_of, copy_payload_of, inherited_in, stored_at}
use Rattle.object_uploads.specs.Queue.{IsNextSettled}
use Rattle.object_uploads.specs.Order.{AreKnown}
use Rattle.object_uploads.proofs.ImageLemmas.{known_up_to}
use Rattle.object_uploads.proofs.SettleImage.{added_data}
use Rattle.object_uploads.proofs.StoredLemmas.{IsAddedTo, still_stored, next_stored}
use Rattle.object_uploads.specs.Collection.{IsInsideObject}
use Rattle.object_recovery.specs.Places.{HasPlacesInside}
use Rattle.object_recovery.specs.Adoption.{adoptable_rows, IsReadToAdopt}
use Rattle.object_recovery.specs.Read.{IsReadAs}

-- what is so of the thing that there is
pub so_some : {X : Type 0} (P : X → Type 0) (option : Option X) → ((x : X) → option ≡ Some x → P x) → IfSome option P
so_some P None so = tt
so_some P (Some x) so = so x refl

pub some_so : {X : Type 0} (P : X → Type 0) (option : Option X) → IfSome option P → (x : X) → option ≡ Some x → P x
some_so P option is x some = subst (λ o. IfSome o P) some is

-- ---- by rows

module _ (volume payload number k : ℕ) (Holds : ObjectPlace → Type 0)
    (own : (at i : ℕ) → k < volume → at + i < payload → Holds (record { level = 0; number = number; sector = at + i }))
  where
    -- of the place that a row gives a sector which it covers
    by_place : (stand_at sectors i : ℕ) (place : Option ℕ) → k < volume → i < sectors → IsTrue (is_at stand_at place)
        → IsTrue (nat_le (stand_at + payload_at sectors place) payload) → IfSome (row_object_place number place i) Holds
    by_place stand_at sectors i None inside low stands within = tt
    by_place stand_at sectors i (Some at) inside low stands within =
        let here : at + i < payload = grind (arith, nat_tests) in
        own at i inside here

    by_test : (test : Bool) (earlier : Option DataRow) (stand_at : ℕ) (row : DataRow) (before : Option ObjectPlace)
        → is_within row.lba row.sectors k ≡ test → IsTrue (data_may_stand volume payload earlier stand_at row)
        → IfSome before Holds
        → IfSome (cond test (row_object_place number row.place (k - row.lba)) before) Holds
    by_test false earlier stand_at row before test stands holds = holds
    by_test true earlier stand_at row before test stands holds =
        by_place stand_at row.sectors (k - row.lba) row.place (grind (arith, nat_tests)) (grind (arith, nat_tests))
        (grind (arith, nat_tests)) (grind (arith, nat_tests))

    pub holds_by_rows : (earlier : Option DataRow) (stand_at : ℕ) (rows : List DataRow) (before : Option ObjectPlace)
        → IsTrue (data_rows_may_stand volume payload earlier stand_at rows) → IfSome before Holds
        → IfSome (settled_by number rows before k) Holds
    holds_by_rows earlier stand_at [] before stand holds = holds
    holds_by_rows earlier stand_at (row ∷ rows) before stand holds =
        let stands : IsTrue (data_may_stand volume payload earlier stand_at row) = grind (arith, nat_tests) in
        holds_by_rows (Some row) (stand_at + data_payload row) rows (settled_by_row number row before k)
        (grind (arith, nat_tests))
        (by_test (is_within row.lba row.sectors k) earlier stand_at row before refl stands holds)

-- ---- by the rows of a copy

module _ (volume payload number at k : ℕ) (Holds : ObjectPlace → Type 0)
    (own : (place i : ℕ) → k < volume → place + i < payload
    → Holds (record { level = 0; number = at; sector = place + i })) where
  abbrev own_at : ℕ → ObjectPlace
  own_at sector = record { level = 0; number = at; sector = sector }

  within_row : (lba sectors : ℕ) → is_within lba sectors k ≡ true → (lba ≤ k) × (k < lba + sectors)
  within_row lba sectors test = (grind (arith, nat_tests), grind (arith, nat_tests))

  by_copy_row : (inside live : Bool) (earlier : Option CopyRow) (place : ℕ) (row : CopyRow) (before : Option ObjectPlace)
      → is_within row.lba row.sectors k ≡ inside → IsTrue (copy_may_stand volume payload number earlier place row)
      → IfSome before Holds
      → IfSome (cond (inside && live) (Some (own_at (row.place + (k - row.lba)))) before) Holds
  by_copy_row false live earlier place row before test stands holds = holds
  by_copy_row true false earlier place row before test stands holds = holds
  by_copy_row true true earlier place row before test stands holds =
      let inside_and_after = is_inside volume row.lba row.sectors && copy_may_follow earlier row in
      let room_test = nat_le (place + row.sectors) payload in
      let a = and_parts (inside_and_after && (row.place == place) && room_test) (is_source number row.sectors row.source) stands
      in
      let b = and_parts (inside_and_after && (row.place == place)) room_test a.0 in
      let c = and_parts inside_and_after (row.place == place) b.0 in
      let d = and_parts (is_inside volume row.lba row.sectors) (copy_may_follow earlier row) c.0 in
      let at_place = eqb-true _ _ c.1 in
      let room = leb-true _ _ b.1 in
      let low = leb-true _ _ (and_parts (nat_lt 0 row.sectors) (nat_le (row.lba + row.sectors) volume) d.0).1 in
      let within = within_row row.lba row.sectors test in
      own row.place (k - row.lba) (omega (arith, low, within.1)) (omega (arith, at_place, room, within.0, within.1))

  holds_by_copy : (earlier : Option CopyRow) (place : ℕ) (rows : List CopyRow) (before : Option ObjectPlace)
      → IsTrue (copy_rows_may_stand volume payload number earlier place rows) → IfSome before Holds
      → IfSome (settled_by_copy at rows before k) Holds
  holds_by_copy earlier place [] before stand holds = holds
  holds_by_copy earlier place (row ∷ rows) before stand holds =
      let parts = and_parts (copy_may_stand volume payload number earlier place row)
      (copy_rows_may_stand volume payload number (Some row) (place + row.sectors) rows) stand in
      holds_by_copy (Some row) (place + row.sectors) rows (settled_by_copy_row at row before k) parts.1
      (by_copy_row (is_within row.lba row.sectors k) (is_live row.source.number before) earlier place row before refl parts.0
      holds)

-- ---- an object that is adopted

inside_kept : (was is : Option StoredObject) (at : ℕ) → ((object : StoredObject) → was ≡ Some object → is ≡ Some object)
    → IsInsideObject was at → IsInsideObject is at
inside_kept None is at kept inside = absurd inside
inside_kept (Some object) is at kept inside = subst (λ o. IsInsideObject o at) (sym (kept object refl)) inside

inside_by : (own : Bool) (was is other others : Option StoredObject) (at : ℕ)
    → ((object : StoredObject) → was ≡ Some object → is ≡ Some object) → others ≡ other
    → IsInsideObject (cond own was other) at → IsInsideObject (cond own is others) at
inside_by true was is other others at kept same inside = inside_kept was is at kept inside
inside_by false was is other others at kept same inside = subst (λ o. IsInsideObject o at) (sym same) inside

-- what is in the store with the next object, which has so many sectors of payload, and so many before it
module _ (uuid : List ℕ) (sectors end gained payload front : ℕ) (rows : SealedRows) (receipt : ReceiptState)
    (old new : QueueState)
    (known : AreKnown uuid old) (next : IsNextSettled rows end receipt old new)
    (objects : HasSameObjects (added (new_row (old.frontier + 1) gained front) old.maps.objects) new.maps.objects)
    (size : receipt.size ≡ 512 * (front + payload)) where
  is_added : IsAddedTo (old.frontier + 1) front receipt old.receipts old.maps.objects.rows new.receipts new.maps.objects.rows
  is_added =
      rw next.receipts (
      added_data (old.frontier + 1) gained front receipt old.receipts old.maps.objects new.maps.objects objects
      )

  still_inside : (place : ObjectPlace) → IsInsideObject (stored_at old place) place.sector
      → IsInsideObject (stored_at new place) place.sector
  still_inside place inside =
      let owner : Owner = record { level = place.level; number = place.number } in
      inside_by (place.level == 0) _ _ _ _ place.sector
      (still_stored (old.frontier + 1) front receipt old.receipts new.receipts old.maps.objects.rows
      new.maps.objects.rows is_added place.number) (ap (λ list. inherited_in list owner) next.inherited) inside

  own_stored : (sector : ℕ) → stored_at new (record { level = 0; number = old.frontier + 1; sector = sector })
      ≡ Some (record { receipt = receipt; front = front })
  own_stored sector =
      next_stored (old.frontier + 1) front receipt old.receipts new.receipts old.maps.objects.rows
      new.maps.objects.rows is_added old.frontier (omega arith) (known_up_to uuid old known)

  -- a sector of the volume is inside an object
  abbrev Inside : ℕ → ObjectPlace → Type 0
  Inside k place = (k < sectors) × IsInsideObject (stored_at new place) place.sector

  own_inside : (k at i : ℕ) → k < sectors → at + i < payload
      → Inside k (record { level = 0; number = old.frontier + 1; sector = at + i })
  own_inside k at i low below = (
    low,
    subst (λ o. IsInsideObject o (at + i)) (sym (own_stored (at + i))) (omega (arith, size, below)),
  )

  before_inside : HasPlacesInside sectors old → (k : ℕ) → IfSome (settled_at old.maps k) (Inside k)
  before_inside inside k =
      so_some (Inside k) (settled_at old.maps k) (λ place is.
      let was = inside k place is in
      (was.0, still_inside place was.1))

  places_by : HasPlacesInside sectors old
      → ((k : ℕ) → IfSome (settled_at old.maps k) (Inside k) → IfSome (settled_at new.maps k) (Inside k))
      → HasPlacesInside sectors new
  places_by inside keeps k place at =
      some_so (Inside k) (settled_at new.maps k) (keeps k (before_inside inside k)) place at

module _ (uuid : List ℕ) (sectors end : ℕ) (expected : Expected) (header : Header) (receipt : ReceiptState)
    (old new : QueueState) (known : AreKnown uuid old) (same : expected.sectors ≡ sectors)
    (inside : HasPlacesInside sectors old) where
  of_data : (list : Vec DataRow) → IsReadAs receipt expected header (rows_of.Data list)
      → IsNextSettled (sealed_rows.Data list) end receipt old new → HasPlacesInside sectors new
  of_data list is next =
      let object = is.is_object in
      let payload = header.payload in
      let front : front_sectors header ≡ front_of list.items =
      ap (λ kind. front_with kind header.rows) (sym object.rows_are.kind)
      ∙ ap (front_with kinds.Data) (sym object.rows_are.count) in
      let size : receipt.size ≡ 512 * (front_of list.items + payload) =
      object.head.has_size ∙ ap (λ n. 512 * (n + payload)) front in
      let stand : IsTrue (data_rows_may_stand sectors payload None 0 list.items) =
      subst (λ volume. IsTrue (data_rows_may_stand volume payload None 0 list.items)) same object.rows_are.spelling in
      let gained = payload_of receipt.size list.items in
      let rows = sealed_rows.Data list in
      let objects = next.maps.objects in
      places_by uuid sectors end gained payload (front_of list.items) rows receipt old new known next objects size inside
      (λ k was.
      let Holds : ObjectPlace → Type 0 =
      Inside uuid sectors end gained payload (front_of list.items) rows receipt old new known next objects size k in
      subst (λ o. IfSome o Holds) (sym (next.maps.settled k))
      (holds_by_rows sectors payload (old.frontier + 1) k Holds
      (own_inside uuid sectors end gained payload (front_of list.items) rows receipt old new known next objects size k)
      None 0 list.items (settled_at old.maps k) stand was))

  of_copy : (list : Vec CopyRow) → IsReadAs receipt expected header (rows_of.Copy list)
      → IsNextSettled (sealed_rows.Copy list) end receipt old new → HasPlacesInside sectors new
  of_copy list is next =
      let object = is.is_object in
      let payload = header.payload in
      let front : front_sectors header ≡ copy_front_of list.items =
      ap (λ kind. front_with kind header.rows) (sym object.rows_are.kind)
      ∙ ap (front_with kinds.Copy) (sym object.rows_are.count) in
      let size : receipt.size ≡ 512 * (copy_front_of list.items + payload) =
      object.head.has_size ∙ ap (λ n. 512 * (n + payload)) front in
      let stand : IsTrue (copy_rows_may_stand sectors payload header.number None 0 list.items) =
      subst (λ volume. IsTrue (copy_rows_may_stand volume payload header.number None 0 list.items)) same
      object.rows_are.spelling in
      let gained = copy_payload_of receipt.size list.items in
      let rows = sealed_rows.Copy list in
      let objects = next.maps.objects in
      places_by uuid sectors end gained payload (copy_front_of list.items) rows receipt old new known next objects size inside
      (λ k was.
      let Holds : ObjectPlace → Type 0 =
      Inside uuid sectors end gained payload (copy_front_of list.items) rows receipt old new known next objects size k in
      subst (λ o. IfSome o Holds) (sym (next.maps.settled k))
      (holds_by_copy sectors payload header.number (old.frontier + 1) k Holds
      (own_inside uuid sectors end gained payload (copy_front_of list.items) rows receipt old new known next objects size k)
      None 0 list.items (settled_at old.maps k) stand was))

  of_any : (rows_read : Rows) (rows : SealedRows) → adoptable_rows rows_read ≡ Some rows
      → IsReadAs receipt expected header rows_read
      → IsNextSettled rows end receipt old new → HasPlacesInside sectors new
  of_any (rows_of.Data list) rows is was next =
      let same_rows : rows ≡ sealed_rows.Data list = cc in
      of_data list was (subst (λ r. IsNextSettled r end receipt old new) same_rows next)
  of_any (rows_of.Copy list) rows is was next =
      let same_rows : rows ≡ sealed_rows.Copy list = cc in
      of_copy list was (subst (λ r. IsNextSettled r end receipt old new) same_rows next)
  of_any rows_of.Checkpoint rows is was next = absurd cc

pub places_more : (uuid : List ℕ) (sectors end : ℕ) (rows : SealedRows) (expected : Expected) (receipt : ReceiptState)
    (old new : QueueState)
    → AreKnown uuid old → expected.sectors ≡ sectors → IsReadToAdopt receipt expected rows end
    → IsNextSettled rows end receipt old new → HasPlacesInside sectors old → HasPlacesInside sectors new
places_more uuid sectors end rows expected receipt old new known same is next inside =
    of_any uuid sectors end expected is.header receipt old new known same inside is.rows_read rows is.adoptable is.read next

-- a list without places has them so
pub no_places : (sectors : ℕ) (queue : QueueState) → queue.maps.settled.rows ≡ [] → HasPlacesInside sectors queue
no_places sectors queue none k place at =
    let nothing : settled_at queue.maps k ≡ None = ap (λ rows. place_at object_on rows k) none in
    absurd cc
