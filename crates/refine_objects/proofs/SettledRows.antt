-- Objects that are settled, and what the rows of the table show then.
use Rattle.std.proofs.Common.{◌≡◌, ℕ, zero, suc, ◌+◌, ◌&&◌, ◌||◌, ◌≤◌, not, Bool, true, false, Option, Some, None, List, []}
use Rattle.std.proofs.Common.{◌∷◌, length, take, drop, refl, sym, ◌∙◌, ap, subst, arith}
use Rattle.std.specs.Prelude.{IsTrue, IsSome}
use Rattle.std.specs.List.{AllByRecursion}
use Rattle.std.proofs.lemmas.Bool.Decides.{nat_tests}
use Rattle.lsvd_objstore.specs.Store.{ReceiptState}
use Rattle.upload_window.specs.declared.object.OpenObject.{OpenObject}
use Rattle.upload_window.specs.Window.{has_number}
use Rattle.object_table.specs.Table.{row_of, new_row, added}
use Rattle.volume_maps.specs.declared.place.ObjectPlace.{ObjectPlace}
use Rattle.volume_maps.specs.Maps.{MapsState}
use Rattle.volume_maps.specs.Live.{HasSameObjects}
use Rattle.object_uploads.specs.declared.rows.SealedRows.{SealedRows}
use Rattle.object_uploads.specs.declared.rows.SealedRows.TheVariants.{Data, Copy, Checkpoint}
use Rattle.object_uploads.specs.State.{SealedState}
use Rattle.object_uploads.specs.Queue.{is_checkpoint, payload_of, front_of, copy_payload_of, copy_front_of, with_at, with_receipt}
use Rattle.object_uploads.specs.Queue.{settled_by_rows}
use Rattle.object_uploads.specs.Queue.{settled_by_all}
use Rattle.object_uploads.specs.Queue.{SettlesSealed, SettlesCheckpoint, SettlesObjects, FirstWaits}
use Rattle.object_uploads.specs.Order.{IsOpenFirst, AreOpen, AreWaiting}
use Rattle.object_uploads.specs.Invariant.{IsOpenAt}
use Rattle.object_uploads.proofs.BegunLemmas.{open_from}
use Rattle.plain_disk.specs.State.{PlainCheckpoint}
use Rattle.plain_disk.specs.Checkpoints.{is_started_checkpoint}
use Rattle.plain_disk.proofs.CheckpointLemmas.{any_tells, both_true, same_number}
use Rattle.refine_objects.proofs.TableRows.{TableSeen, with_newest, RowsShow, MapsLive, data_settled, checkpoint_settled}

-- ---- data objects

-- an acknowledged object is no checkpoint, where these wait
no_checkpoint : (kind : Bool) (receipt : Option ReceiptState) → IsSome receipt → (IsTrue kind → receipt ≡ None) → kind ≡ false
no_checkpoint false receipt given waiting = refl
no_checkpoint true None given waiting = absurd cc
no_checkpoint true (Some receipt) given waiting = let none = waiting refl in absurd cc

-- the sectors of payload of an object with these rows and so many bytes
abbrev pub payload_in : (size : ℕ) → SealedRows → ℕ
payload_in size (Data list) = payload_of size list.items
payload_in size (Copy list) = copy_payload_of size list.items
payload_in size Checkpoint = 0

-- objects after one of a number have so many each
abbrev pub HavePayloads : (payload : ℕ → ℕ) → (number : ℕ) → List SealedState → Type 0
HavePayloads payload number [] = Unit {0}
HavePayloads payload number (sealed ∷ more) =
    (payload_in (length sealed.bytes) sealed.rows ≡ payload (number + 1)) × HavePayloads payload (number + 1) more

pub payloads_taken : (payload : ℕ → ℕ) (number count : ℕ) (list : List SealedState) → HavePayloads payload number list
    → HavePayloads payload number (take count list)
payloads_taken payload number zero list have = tt
payloads_taken payload number (suc count) [] have = tt
payloads_taken payload number (suc count) (first ∷ list) have =
    (have.0, payloads_taken payload (number + 1) count list have.1)

pub payloads_given : (payload : ℕ → ℕ) (number index : ℕ) (receipt : ReceiptState) (list : List SealedState)
    → HavePayloads payload number list → HavePayloads payload number (with_at index (with_receipt receipt) list)
payloads_given payload number index receipt [] have = tt
payloads_given payload number zero receipt (first ∷ list) have = (have.0, have.1)
payloads_given payload number (suc index) receipt (first ∷ list) have =
    (have.0, payloads_given payload (number + 1) index receipt list have.1)

-- the table is that with a row more
one_data : (number size : ℕ) (rows : SealedRows) (end : ℕ) (old new : MapsState) → is_checkpoint rows ≡ false
    → SettlesSealed number size rows end old new
    → (front : ℕ) × HasSameObjects (added (new_row number (payload_in size rows) front) old.objects) new.objects
one_data number size (Data list) end old new kind settles = (front_of list.items, settles.objects)
one_data number size (Copy list) end old new kind settles = (copy_front_of list.items, settles.objects)
one_data number size Checkpoint end old new kind settles = absurd cc

-- so is each that is settled, where checkpoints wait
pub settle_data : (seen : TableSeen) (number : ℕ) (sealed : List SealedState) (old new : MapsState)
    → AllByRecursion (λ (s : SealedState). IsSome s.receipt) sealed → AreWaiting sealed → HavePayloads seen.payload number sealed
    → SettlesObjects number sealed old new → RowsShow seen number old.objects
    → RowsShow seen (number + length sealed) new.objects
settle_data seen number [] old new given waiting have settles shows =
    let same : number + 0 ≡ number = omega arith in
    rw same (subst (λ (m : MapsState). RowsShow seen number m.objects) (sym settles) shows)
settle_data seen number (first ∷ more) old new given waiting have settles shows =
    let kind = no_checkpoint (is_checkpoint first.rows) first.receipt given.0 waiting.0 in
    let one = one_data (number + 1) (length first.bytes) first.rows first.end old settles.0 kind settles.1 in
    let now = data_settled seen number (payload_in (length first.bytes) first.rows) one.0 old.objects settles.0.objects one.1
    have.0 shows in
    let same : number + suc (length more) ≡ number + 1 + length more = omega arith in
    rw same (settle_data seen (number + 1) more settles.0 new given.1 waiting.1 have.1 settles.2 now)

-- of more objects the first wait too
pub waiting_taken : (count : ℕ) (list : List SealedState) → AreWaiting list → AreWaiting (take count list)
waiting_taken zero list waiting = tt
waiting_taken (suc count) [] waiting = tt
waiting_taken (suc count) (first ∷ list) waiting = (waiting.0, waiting_taken count list waiting.1)

-- ---- a put that is no checkpoint's

-- neither of two is so
neither : (a b : Bool) → (a || b) ≡ false → (a ≡ false) × (b ≡ false)
neither true b none = absurd cc
neither false b none = (refl, none)

module _ (wanted : ℕ) (receipt : ReceiptState) where
  -- the first, where its put is under way, and the others
  first_data : (own : Option ReceiptState) (kind has_spare : Bool) (number : ℕ) (objects : List OpenObject)
      (Rest : List OpenObject → Type 0)
      → own ≡ None → has_spare ≡ false → wanted ≡ number → IsOpenFirst number own kind has_spare objects Rest
      → is_started_checkpoint wanted objects ≡ false → kind ≡ false
  first_data (Some own) kind has_spare number objects Rest none spare at are other = absurd cc
  first_data None kind has_spare number [] Rest none spare at are other = absurd are
  first_data None kind has_spare number (object ∷ objects) Rest none spare at are other =
      let own = are.0 in
      let named : has_number wanted object ≡ true = grind (arith, nat_tests) in
      let started : object.is_started ≡ true = are.2 ∙ ap not spare in
      let first = neither (has_number wanted object && object.is_started && object.is_checkpoint)
      (is_started_checkpoint wanted objects) other in
      let is : object.is_checkpoint ≡ false = rw (named, started) at first.0 in
      sym are.1 ∙ is

  rest_data : (own : Option ReceiptState) (kind has_spare : Bool) (number : ℕ) (objects : List OpenObject)
      (Rest : List OpenObject → Type 0) (Then : Type 0)
      → ((list : List OpenObject) → Rest list → is_started_checkpoint wanted list ≡ false → Then)
      → IsOpenFirst number own kind has_spare objects Rest → is_started_checkpoint wanted objects ≡ false → Then
  rest_data (Some own) kind has_spare number objects Rest Then then_ are other = then_ objects are other
  rest_data None kind has_spare number [] Rest Then then_ are other = absurd are
  rest_data None kind has_spare number (object ∷ objects) Rest Then then_ are other =
      then_ objects are.3 (neither (has_number wanted object && object.is_started && object.is_checkpoint)
      (is_started_checkpoint wanted objects) other).1

  -- no checkpoint is acknowledged by it
  pub still_waiting : (number index : ℕ) (list : List SealedState) (objects : List OpenObject) → AreOpen number list objects
      → wanted ≡ number + index → IsOpenAt index list false → is_started_checkpoint wanted objects ≡ false → AreWaiting list
      → AreWaiting (with_at index (with_receipt receipt) list)
  still_waiting number index [] objects are at opened other waiting = tt
  still_waiting number zero (sealed ∷ list) objects are at opened other waiting =
      let kind = first_data sealed.receipt (is_checkpoint sealed.rows) sealed.has_spare number objects (AreOpen (number + 1) list)
      opened.0 opened.1 (omega (arith, at)) are other in
      ((λ is. (let both = sym kind ∙ is in absurd cc)), waiting.1)
  still_waiting number (suc index) (sealed ∷ list) objects are at opened other waiting = (
    waiting.0,
    rest_data sealed.receipt (is_checkpoint sealed.rows) sealed.has_spare number objects (AreOpen (number + 1) list)
        (AreWaiting (with_at index (with_receipt receipt) list))
        (λ objs are_ other_. still_waiting (number + 1) index list objs are_ (omega (arith, at)) opened other_ waiting.1)
        are other,
  )

-- ---- the put of a checkpoint, which is the first

-- the first of some objects is a checkpoint
abbrev pub FirstIsCheckpoint : List SealedState → Type 0
FirstIsCheckpoint [] = ⊥
FirstIsCheckpoint (sealed ∷ more) = is_checkpoint sealed.rows ≡ true

-- it is another object that is found
other_found : (a b c rest : Bool) → c ≡ false → ((a && b && c) || rest) ≡ true → rest ≡ true
other_found true true true rest none found = absurd cc
other_found true true false rest none found = found
other_found true false c rest none found = found
other_found false b c rest none found = found

-- none of those with higher numbers is the one
not_above : (number : ℕ) (objects : List OpenObject) (more : List SealedState) → AreOpen (number + 1) more objects
    → is_started_checkpoint number objects ≡ true → ⊥
not_above number objects more are found =
    any_tells (λ (o : OpenObject). has_number number o && o.is_started && o.is_checkpoint)
    (λ (o : OpenObject). number + 1 ≤ o.number) ⊥ objects found (open_from (number + 1) more objects are)
    (λ o tested above.
    let first = both_true (has_number number o && o.is_started) o.is_checkpoint tested in
    let second = both_true (has_number number o) o.is_started first.0 in
    let same = same_number o.number number second.0 in
    omega (arith, above, same))

-- the first is the one that is found
first_kind : (own : Option ReceiptState) (kind has_spare : Bool) (number : ℕ) (objects : List OpenObject)
    (more : List SealedState)
    → own ≡ None → IsOpenFirst number own kind has_spare objects (AreOpen (number + 1) more)
    → is_started_checkpoint number objects ≡ true → kind ≡ true
first_kind own true has_spare number objects more none are found = refl
first_kind (Some own) false has_spare number objects more none are found = absurd cc
first_kind None false has_spare number [] more none are found = absurd are
first_kind None false has_spare number (object ∷ objects) more none are found =
    absurd (not_above number objects more are.3 (other_found (has_number number object) object.is_started object.is_checkpoint
    (is_started_checkpoint number objects) are.1 found))

pub first_is_checkpoint : (number : ℕ) (list : List SealedState) (objects : List OpenObject) → AreOpen number list objects
    → IsOpenAt 0 list false → is_started_checkpoint number objects ≡ true → FirstIsCheckpoint list
first_is_checkpoint number [] objects are opened found = absurd opened
first_is_checkpoint number (sealed ∷ list) objects are opened found =
    first_kind sealed.receipt (is_checkpoint sealed.rows) sealed.has_spare number objects list opened.0 are found

-- it changes no place
unplaced_by : (number : ℕ) (rows : SealedRows) (before : Option ObjectPlace) (k : ℕ) → is_checkpoint rows ≡ true
    → settled_by_rows number rows before k ≡ before
unplaced_by number (Data list) before k kind = absurd cc
unplaced_by number (Copy list) before k kind = absurd cc
unplaced_by number Checkpoint before k kind = refl

pub places_stay : (number : ℕ) (list : List SealedState) (before : Option ObjectPlace) (k : ℕ) → FirstIsCheckpoint list
    → settled_by_all number (take 1 list) before k ≡ before
places_stay number [] before k first = absurd first
places_stay number (sealed ∷ list) before k first = unplaced_by (number + 1) sealed.rows before k first

-- and passes the table
one_checkpoint : (number size : ℕ) (rows : SealedRows) (end : ℕ) (old new : MapsState) → is_checkpoint rows ≡ true
    → SettlesSealed number size rows end old new → SettlesCheckpoint number old new
one_checkpoint number size (Data list) end old new kind settles = absurd cc
one_checkpoint number size (Copy list) end old new kind settles = absurd cc
one_checkpoint number size Checkpoint end old new kind settles = settles

-- it has no payload
no_payload : (size : ℕ) (rows : SealedRows) → is_checkpoint rows ≡ true → 0 ≡ payload_in size rows
no_payload size (Data list) kind = absurd cc
no_payload size (Copy list) kind = absurd cc
no_payload size Checkpoint kind = refl

-- it is settled, and the objects after it that are acknowledged
pub settle_first : (seen : TableSeen) (after : PlainCheckpoint) (number count : ℕ) (receipt : ReceiptState)
    (list : List SealedState) (old new : MapsState)
    → FirstIsCheckpoint list → FirstWaits (drop count (with_at 0 (with_receipt receipt) list))
    → AllByRecursion (λ (s : SealedState). IsSome s.receipt) (take count (with_at 0 (with_receipt receipt) list))
    → AreWaiting list → HavePayloads seen.payload number list
    → SettlesObjects number (take count (with_at 0 (with_receipt receipt) list)) old new
    → after.number ≡ number + 1 → ((n : ℕ) → MapsLive after n (row_of n old.objects.rows))
    → RowsShow seen number old.objects
    → RowsShow (with_newest after seen) (number + length (take count (with_at 0 (with_receipt receipt) list))) new.objects
settle_first seen after number count receipt [] old new first waits given waiting have settles is live shows = absurd first
settle_first seen after number zero receipt (sealed ∷ list) old new first waits given waiting have settles is live shows =
    absurd waits
settle_first seen after number (suc count) receipt (sealed ∷ list) old new first waits given waiting have settles is live
    shows =
    let middle = settles.0 in
    let now = with_newest after seen in
    let one = one_checkpoint (number + 1) (length sealed.bytes) sealed.rows sealed.end old middle first settles.1 in
    let none = no_payload (length sealed.bytes) sealed.rows first ∙ have.0 in
    let passed = checkpoint_settled seen after number old.objects is live none shows in
    let there = subst (RowsShow now (number + 1)) (sym one.objects) passed in
    let same : number + suc (length (take count list)) ≡ number + 1 + length (take count list) = omega arith in
    rw same (settle_data now (number + 1) (take count list) middle new given.1
    (waiting_taken count list waiting.1) (payloads_taken seen.payload (number + 1) count list have.1) settles.2 there)
