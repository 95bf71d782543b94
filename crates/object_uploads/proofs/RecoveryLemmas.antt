-- What a recovery of the store finds of the objects of a volume.
use Rattle.std.proofs.Common.{◌≡◌, ℕ, zero, suc, ◌+◌, ◌-◌, ◌<◌, ◌≤◌, ◌⊎◌, inl, inr, ◌&&◌, ◌||◌, not, nat_le, Bool, true, false}
use Rattle.std.proofs.Common.{Option, Some, None, List, [], ◌∷◌, length, take, drop, refl, sym, ◌∙◌, ap, subst, arith}
use Rattle.std.proofs.Common.{length-drop}
use Rattle.std.specs.Prelude.{IsTrue, max}
use Rattle.std.specs.List.{All, list_any}
use Rattle.std.proofs.lemmas.Bool.{cases_lt}
use Rattle.std.proofs.lemmas.Bool.Decides.{nat_tests}
use Rattle.std.proofs.lemmas.List.{length-take-le}
use Rattle.std.proofs.lemmas.List.Elements.{All-head, All-tail}
use Rattle.lsvd_base.specs.declared.entry.Entry.{Entry}
use Rattle.lsvd_objstore.specs.Store.{ReceiptState}
use Rattle.lsvd_objstore.specs.Objects.{Objects, found}
use Rattle.object_format.specs.declared.expected.Expected.{Expected}
use Rattle.object_format.specs.declared.copy_row.CopyRow.{CopyRow}
use Rattle.object_format.specs.declared.data_row.DataRow.{DataRow}
use Rattle.object_format.specs.declared.rows.Rows.{Rows}
use Rattle.object_format.specs.declared.rows.Rows.TheVariants as rows
use Rattle.object_stream.specs.declared.object.CopiedSector.{CopiedSector}
use Rattle.object_stream.specs.declared.object.Content.{Content}
use Rattle.object_stream.specs.declared.object.Content.TheVariants.{Data, Copy}
use Rattle.object_stream.specs.declared.object.StreamObject.{StreamObject}
use Rattle.object_stream.specs.declared.owner.Owner.{Owner}
use Rattle.object_stream.specs.Changes.{change_at, change_in}
use Rattle.object_stream.specs.Stream.{Owners, Stream, owners, last_number, end_at, source_in, after_object}
use Rattle.object_stream.specs.Landed.{Numbers, IsFirstMissing}
use Rattle.object_stream.specs.Replay.{object_name, expected_at, source_at, Replays}
use Rattle.object_stream.specs.Stored.{HasContent, IsObjectStored, AreStored}
use Rattle.object_stream.specs.Laws.{from_object}
use Rattle.object_stream.proofs.StreamLemmas.{keeps_owners, owns_by_number}
use Rattle.object_stream.proofs.ReplayLemmas.{stored_are_replayed}
use Rattle.upload_window.specs.declared.object.OpenObject.{OpenObject}
use Rattle.upload_window.specs.Window.{has_number, was_started}
use Rattle.volume_maps.specs.declared.place.ObjectPlace.{ObjectPlace}
use Rattle.volume_maps.specs.Maps.{settled_at}
use Rattle.volume_maps.specs.Laws.{place_owner}
use Rattle.object_uploads.specs.declared.rows.SealedRows.{SealedRows}
use Rattle.object_uploads.specs.declared.rows.SealedRows.TheVariants as sealed_rows
use Rattle.object_uploads.specs.State.{SealedState, UploadsState}
use Rattle.object_uploads.specs.Queue.{HasBytesAt, is_checkpoint}
use Rattle.object_uploads.specs.Order.{IsOpenFirst, AreOpen, AreWaiting, IsUploads}
use Rattle.object_uploads.specs.Changes.{index_of}
use Rattle.object_uploads.specs.Stream.{AreRows, AreCopyRows, HoldsContent, AreSealedOf, AreOfStream}
use Rattle.object_uploads.specs.Laws.{acknowledged_in, IsLeftOfUploads, RecoveryFindsStream}
use Rattle.object_uploads.proofs.KeepLemmas.{later_sealed}
use Rattle.object_uploads.proofs.KnownReceipts.{sector_is_known}

-- the sealed object at an index is a checkpoint
abbrev checkpoint_at : ℕ → List SealedState → Bool
checkpoint_at index [] = false
checkpoint_at zero (sealed ∷ more) = is_checkpoint sealed.rows
checkpoint_at (suc index) (sealed ∷ more) = checkpoint_at index more

-- ---- which numbers are open

module _ (wanted : ℕ) where
  -- a number that is open is past the one before, and no further than objects were sealed
  abbrev IsAmong : (number : ℕ) → List SealedState → Type 0
  IsAmong number list = (number ≤ wanted) × (wanted < number + length list)

  among_test : (test : Bool) (number : ℕ) (object : OpenObject) (objects : List OpenObject) (more : List SealedState)
      (sealed : SealedState)
      → has_number wanted object ≡ test → object.number ≡ number
      → (list_any (has_number wanted) objects ≡ true → IsAmong (number + 1) more)
      → (test || list_any (has_number wanted) objects) ≡ true → IsAmong number (sealed ∷ more)
  among_test true number object objects more sealed test named later found =
      let is : object.number ≡ wanted = grind (arith, nat_tests) in (omega (arith, is, named), omega (arith, is, named))
  among_test false number object objects more sealed test named later found =
      let rest = later found in (omega (arith, rest.0), omega (arith, rest.1))

  among_first : (number : ℕ) (receipt : Option ReceiptState) (is_checkpoint has_spare : Bool) (objects : List OpenObject)
      (more : List SealedState) (sealed : SealedState)
      → ((list : List OpenObject) → AreOpen (number + 1) more list → list_any (has_number wanted) list ≡ true
      → IsAmong (number + 1) more)
      → IsOpenFirst number receipt is_checkpoint has_spare objects (AreOpen (number + 1) more)
      → list_any (has_number wanted) objects ≡ true
      → IsAmong number (sealed ∷ more)
  among_first number (Some receipt) is_checkpoint has_spare objects more sealed later are found =
      let rest = later objects are found in (omega (arith, rest.0), omega (arith, rest.1))
  among_first number None is_checkpoint has_spare [] more sealed later are found = absurd are
  among_first number None is_checkpoint has_spare (object ∷ objects) more sealed later are found =
      among_test (has_number wanted object) number object objects more sealed refl are.0 (λ yes_. later objects are.3 yes_) found

  among : (number : ℕ) (list : List SealedState) (objects : List OpenObject) → AreOpen number list objects
      → list_any (has_number wanted) objects ≡ true
      → IsAmong number list
  among number [] objects are found = let none = subst (λ os. list_any (has_number wanted) os ≡ true) are found in absurd cc
  among number (sealed ∷ more) objects are found =
      among_first number sealed.receipt (is_checkpoint sealed.rows) sealed.has_spare objects more sealed
      (among (number + 1) more) are found

  -- one of which something is said is open
  flag_test : (here flag rest any : Bool) → (rest ≡ true → any ≡ true) → ((here && flag) || rest) ≡ true → (here || any) ≡ true
  flag_test true flag rest any later is = refl
  flag_test false flag rest any later is = later is

  flag_open : (flag : OpenObject → Bool) (objects : List OpenObject)
      → list_any (λ object. has_number wanted object && flag object) objects ≡ true
      → list_any (has_number wanted) objects ≡ true
  flag_open flag [] is = absurd cc
  flag_open flag (object ∷ objects) is =
      flag_test (has_number wanted object) (flag object)
      (list_any (λ (other : OpenObject). has_number wanted other && flag other) objects)
      (list_any (has_number wanted) objects) (flag_open flag objects) is

  was_open : (objects : List OpenObject) → was_started wanted objects ≡ true → list_any (has_number wanted) objects ≡ true
  was_open objects started = flag_open (λ object. object.was_started) objects started

  -- none past the last was acknowledged or started
  none_landed_past : (frontier last : ℕ) (list : List SealedState) (objects : List OpenObject)
      → AreOpen (frontier + 1) list objects
      → frontier + length list ≡ last → last < wanted
      → (acknowledged_in (record { last = last; objects = objects }) wanted ≡ true) ⊎ (was_started wanted objects ≡ true) → ⊥
  none_landed_past frontier last list objects are count high either = elim either [
    | inl yes_ ↦ let out : nat_le wanted last ≡ false = grind (arith, nat_tests) in absurd cc
    | inr yes_ ↦ let at = among (frontier + 1) list objects are (was_open objects yes_) in omega (arith, at.1)
  ]

  -- ---- checkpoints that are open

  abbrev is_open_checkpoint : List OpenObject → Bool
  is_open_checkpoint objects = list_any (λ object. has_number wanted object && object.is_checkpoint) objects

  own_flag : (flag rest : Bool) → (rest ≡ true → ⊥) → (flag || rest) ≡ true → flag ≡ true
  own_flag true rest none is = refl
  own_flag false rest none is = absurd (none is)

  module _ (frontier : ℕ) where
    abbrev IsNext : OpenObject → Type 0
    IsNext object = IsTrue (object.was_started && object.is_checkpoint) → object.number ≡ frontier + 1

    next_test : (test : Bool) (number : ℕ) (object : OpenObject) (objects : List OpenObject) (more : List SealedState)
        → has_number wanted object ≡ test → object.number ≡ number → AreOpen (number + 1) more objects → IsNext object
        → (is_open_checkpoint objects ≡ true → was_started wanted objects ≡ true → wanted ≡ frontier + 1)
        → ((test && object.is_checkpoint) || is_open_checkpoint objects) ≡ true
        → ((test && object.was_started) || was_started wanted objects) ≡ true → wanted ≡ frontier + 1
    next_test true number object objects more test named open_ begins rest is started =
        let same : object.number ≡ wanted = grind (arith, nat_tests) in
        let none : list_any (has_number wanted) objects ≡ true → ⊥ =
        λ yes_. let at = among (number + 1) more objects open_ yes_ in omega (arith, at.0, same, named) in
        let is_one : object.is_checkpoint ≡ true =
        own_flag object.is_checkpoint (is_open_checkpoint objects)
        (λ yes_. none (flag_open (λ other. other.is_checkpoint) objects yes_)) is in
        let begun : object.was_started ≡ true =
        own_flag object.was_started (was_started wanted objects) (λ yes_. none (was_open objects yes_)) started in
        sym same ∙ begins (rw (begun, is_one) refl)
    next_test false number object objects more test named open_ begins rest is started = rest is started

    next_first : (number : ℕ) (receipt : Option ReceiptState) (is_checkpoint has_spare : Bool) (objects : List OpenObject)
        (more : List SealedState)
        → ((list : List OpenObject) → AreOpen (number + 1) more list → All IsNext list → is_open_checkpoint list ≡ true
        → was_started wanted list ≡ true → wanted ≡ frontier + 1)
        → IsOpenFirst number receipt is_checkpoint has_spare objects (AreOpen (number + 1) more) → All IsNext objects
        → is_open_checkpoint objects ≡ true → was_started wanted objects ≡ true → wanted ≡ frontier + 1
    next_first number (Some receipt) is_checkpoint has_spare objects more later are begins is started =
        later objects are begins is started
    next_first number None is_checkpoint has_spare [] more later are begins is started = absurd are
    next_first number None is_checkpoint has_spare (object ∷ objects) more later are begins is started =
        next_test (has_number wanted object) number object objects more refl are.0 are.3 (All-head IsNext object objects begins)
        (later objects are.3 (All-tail IsNext object objects begins)) is started

    -- an open checkpoint that was started is the next object
    next_object : (number : ℕ) (list : List SealedState) (objects : List OpenObject) → AreOpen number list objects
        → All IsNext objects → is_open_checkpoint objects ≡ true → was_started wanted objects ≡ true → wanted ≡ frontier + 1
    next_object number [] objects are begins is started =
        let none = subst (λ os. was_started wanted os ≡ true) are started in absurd cc
    next_object number (sealed ∷ more) objects are begins is started =
        next_first number sealed.receipt (is_checkpoint sealed.rows) sealed.has_spare objects more (next_object (number + 1) more)
        are begins is started

  open_here : (receipt : Option ReceiptState) (is_one has_spare : Bool) (objects : List OpenObject)
      (Rest : List OpenObject → Type 0)
      → receipt ≡ None → is_one ≡ true → IsOpenFirst wanted receipt is_one has_spare objects Rest
      → is_open_checkpoint objects ≡ true
  open_here (Some receipt) is_one has_spare objects Rest none is are = absurd cc
  open_here None is_one has_spare [] Rest none is are = absurd are
  open_here None is_one has_spare (object ∷ objects) Rest none is are =
      let this : has_number wanted object ≡ true = grind (arith, nat_tests) in
      rw (this, are.1, is) refl

  or_later : (here rest : Bool) → rest ≡ true → (here || rest) ≡ true
  or_later true rest is = refl
  or_later false rest is = is

  open_later : (number : ℕ) (receipt : Option ReceiptState) (is_one has_spare : Bool) (objects : List OpenObject)
      (Rest : List OpenObject → Type 0) → ((list : List OpenObject) → Rest list → is_open_checkpoint list ≡ true)
      → IsOpenFirst number receipt is_one has_spare objects Rest → is_open_checkpoint objects ≡ true
  open_later number (Some receipt) is_one has_spare objects Rest later are = later objects are
  open_later number None is_one has_spare [] Rest later are = absurd are
  open_later number None is_one has_spare (object ∷ objects) Rest later are =
      or_later (has_number wanted object && object.is_checkpoint) (is_open_checkpoint objects) (later objects are.3)

  -- such a one is open: it waits
  open_checkpoint : (number index : ℕ) (list : List SealedState) (objects : List OpenObject) → AreOpen number list objects
      → AreWaiting list → wanted ≡ number + index → checkpoint_at index list ≡ true → is_open_checkpoint objects ≡ true
  open_checkpoint number index [] objects are waits at is = absurd cc
  open_checkpoint number zero (sealed ∷ more) objects are waits at is =
      let same : wanted ≡ number = omega (arith, at) in
      open_here sealed.receipt (is_checkpoint sealed.rows) sealed.has_spare objects (AreOpen (number + 1) more) (waits.0 is) is
      (subst (λ n. IsOpenFirst n sealed.receipt (is_checkpoint sealed.rows) sealed.has_spare objects (AreOpen (number + 1) more))
      (sym same) are)
  open_checkpoint number (suc index) (sealed ∷ more) objects are waits at is =
      open_later number sealed.receipt (is_checkpoint sealed.rows) sealed.has_spare objects (AreOpen (number + 1) more)
      (λ list are_. open_checkpoint (number + 1) index more list are_ waits.1 (omega (arith, at)) is) are

-- ---- sealed objects past some of them

bytes_past : (count index whole : ℕ) (list : List SealedState) (bytes : List ℕ) → whole ≡ count + index
    → HasBytesAt whole list bytes → HasBytesAt index (drop count list) bytes
bytes_past zero index whole list bytes same has =
    let at : whole ≡ index = omega (arith, same) in subst (λ i. HasBytesAt i list bytes) at has
bytes_past (suc count) index whole [] bytes same has = absurd has
bytes_past (suc count) index zero (sealed ∷ list) bytes same has = absurd (omega (arith, same))
bytes_past (suc count) index (suc whole) (sealed ∷ list) bytes same has =
    bytes_past count index whole list bytes (omega (arith, same)) has

checkpoint_past : (count index whole : ℕ) (list : List SealedState) → whole ≡ count + index
    → checkpoint_at index (drop count list) ≡ true → checkpoint_at whole list ≡ true
checkpoint_past zero index whole list same is =
    let at : index ≡ whole = omega (arith, same) in subst (λ i. checkpoint_at i list ≡ true) at is
checkpoint_past (suc count) index whole [] same is = absurd cc
checkpoint_past (suc count) index zero (sealed ∷ list) same is = absurd (omega (arith, same))
checkpoint_past (suc count) index (suc whole) (sealed ∷ list) same is =
    checkpoint_past count index whole list (omega (arith, same)) is

-- ---- sealed objects in a store

data_content : (objects : Objects) (uuid_at : ℕ → Option (List ℕ)) (owned : Owners) (entries : List Entry) (rows_of : Rows)
    (items : List DataRow) (payload : List ℕ)
    → AreRows rows_of items → ((k : ℕ) → change_in items payload k ≡ change_at entries k)
    → HasContent objects uuid_at owned Data entries rows_of payload
data_content objects uuid_at owned entries (rows.Data list) items payload are changes =
    λ k. ap (λ rs. change_in rs payload k) are ∙ changes k
data_content objects uuid_at owned entries (rows.Copy list) items payload are changes = absurd are
data_content objects uuid_at owned entries rows.Checkpoint items payload are changes = absurd are

copy_content : (objects : Objects) (uuid_at : ℕ → Option (List ℕ)) (owned : Owners) (pairs : List CopiedSector)
    (entries : List Entry) (rows_of : Rows) (items : List CopyRow) (payload : List ℕ)
    → ((level : ℕ) → uuid_at level ≡ None)
    → AreCopyRows rows_of items → ((k : ℕ) → source_at items k ≡ source_in pairs k)
    → HasContent objects uuid_at owned (Copy pairs) entries rows_of payload
copy_content objects uuid_at owned pairs entries (rows.Data list) items payload unknown are sources = absurd are
copy_content objects uuid_at owned pairs entries (rows.Copy list) items payload unknown are sources = (
  λ k. ap (λ rs. source_at rs k) are ∙ sources k,
  λ k number sector source still has. let level = sym (unknown 0) ∙ has.level in absurd cc,
)
copy_content objects uuid_at owned pairs entries rows.Checkpoint items payload unknown are sources = absurd are

-- a replay asks for no other volume's objects, so that no uuid is known here
module _ (objects : Objects) (uuid_at : ℕ → Option (List ℕ)) (unknown : (level : ℕ) → uuid_at level ≡ None) (stream : Stream)
    (volume : Expected) where
  -- the sealed bytes of the object at an index past a number are in the store
  abbrev IsThere : (number index : ℕ) → List SealedState → Type 0
  IsThere number index list = (bytes : List ℕ) × (found objects (object_name volume (number + 1 + index)) ≡ Some bytes)
      × HasBytesAt index list bytes

  -- a data object is stored where its bytes are there
  stored_one : (number end_before : ℕ) (content : Content) (entries : List Entry) (owned : Owners) (end : ℕ) (bytes : List ℕ)
      (rows_of : SealedRows)
      → HoldsContent stream (expected_at volume number end_before) content entries owned end bytes rows_of
      → is_checkpoint rows_of ≡ false → found objects (object_name volume number) ≡ Some bytes
      → IsObjectStored objects uuid_at (expected_at volume number end_before) owned (record { content = content; end = end })
      entries
  stored_one number end_before Data entries owned end bytes (sealed_rows.Data list) holds is present = record {
    bytes = bytes;
    header = holds.header;
    rows_of = holds.rows_of;
    payload = holds.payload;
    present = present;
    parts = holds.parts;
    ends = holds.ends;
    content = data_content objects uuid_at owned entries holds.rows_of list.items holds.payload holds.rows_are holds.changes;
  }
  stored_one number end_before (Copy pairs) entries owned end bytes (sealed_rows.Copy list) holds is present = record {
    bytes = bytes;
    header = holds.header;
    rows_of = holds.rows_of;
    payload = holds.payload;
    present = present;
    parts = holds.parts;
    ends = holds.ends;
    content = copy_content objects uuid_at owned pairs entries holds.rows_of list.items holds.payload unknown holds.rows_are
        holds.sources;
  }
  stored_one number end_before content entries owned end bytes sealed_rows.Checkpoint holds is present = absurd cc
  stored_one number end_before content entries owned end bytes rows_of holds is present = absurd holds

  next_there : (number index : ℕ) (sealed : SealedState) (more : List SealedState) → IsThere number (suc index) (sealed ∷ more)
      → IsThere (number + 1) index more
  next_there number index sealed more there =
      let same : number + 1 + suc index ≡ number + 1 + 1 + index = omega arith in
      (there.0, ap (λ n. found objects (object_name volume n)) (sym same) ∙ there.1, there.2)

  stored_first : (count number end : ℕ) (entries : List Entry) (owned : Owners) (list : List StreamObject)
      (sealed : List SealedState)
      → AreSealedOf stream volume number end entries owned list sealed
      → ((index : ℕ) → index < count → IsThere number index sealed)
      → ((index : ℕ) → index < count → checkpoint_at index sealed ≡ false) → count ≤ length list
      → AreStored objects uuid_at volume number end entries owned (take count list)
  stored_first zero number end entries owned list sealed are there data_ within = tt
  stored_first (suc count) number end entries owned [] sealed are there data_ within = absurd (omega arith)
  stored_first (suc count) number end entries owned (object ∷ list) [] are there data_ within = absurd are
  stored_first (suc count) number end entries owned (object ∷ list) (first ∷ sealed) are there data_ within =
      let part = take (object.end - end) entries in
      let here = there 0 (omega arith) in
      let same : number + 1 ≡ number + 1 + 0 = omega arith in
      let present : found objects (object_name volume (number + 1)) ≡ Some first.bytes =
      ap (λ n. found objects (object_name volume n)) same ∙ (here.1 ∙ ap Some here.2) in (
        stored_one (number + 1) end object.content part owned object.end first.bytes first.rows are.0.holds
            (data_ 0 (omega arith)) present,
        stored_first count (number + 1) object.end (drop (object.end - end) entries)
            (after_object (number + 1) object.content part owned) list sealed are.1
            (λ index low. next_there number index first sealed (there (suc index) (omega arith)))
            (λ index low. data_ (suc index) (omega arith)) (omega arith),
      )

-- ---- the recovery

none_missing : (landed : Numbers) (number : ℕ) → IsTrue (landed number) → landed number ≡ false → ⊥
none_missing landed number there absent = absurd cc

not_acknowledged : (within open_ : Bool) → open_ ≡ true → (within && not open_) ≡ true → ⊥
not_acknowledged true true is acked = absurd cc
not_acknowledged false true is acked = absurd cc
not_acknowledged within false is acked = absurd cc

not_so : (test : Bool) → (test ≡ true → ⊥) → test ≡ false
not_so true none = absurd (none refl)
not_so false none = refl

-- a place is in the object of its owner
owned_by : (place : Option ObjectPlace) (owner : Owner) → place_owner place ≡ Some owner
    → (p : ObjectPlace) × (place ≡ Some p) × (p.level ≡ owner.level) × (p.number ≡ owner.number)
owned_by None owner is = absurd cc
owned_by (Some place) owner is =
    let level : place.level ≡ owner.level = cc in
    let number : place.number ≡ owner.number = cc in
    (place, refl, level, number)

module _ (volume : Expected) (data_at : ℕ → ℕ) (stream : Stream) (uploads : UploadsState) (objects : Objects)
    (checkpoint landed : Numbers) (number : ℕ)
    (order : IsUploads uploads) (are : AreOfStream volume data_at stream uploads)
    (left : IsLeftOfUploads volume uploads objects checkpoint landed)
    (missing : IsFirstMissing checkpoint landed (number + 1)) where
  abbrev frontier : ℕ
  frontier = uploads.queue.frontier

  abbrev base : ℕ
  base = missing.base

  abbrev acknowledged : ℕ
  acknowledged = uploads.queue.maps.objects.checkpoint

  -- all numbers from the newest acknowledged checkpoint up to the frontier have landed
  surely : (n : ℕ) → acknowledged ≤ n → n ≤ frontier → IsTrue (landed n)
  surely n high low = left.known n (order.known.follow n left.begun high low)

  base_high : acknowledged ≤ base
  base_high =
      missing.newest.newest acknowledged left.newest (surely acknowledged (omega arith) order.known.checkpoint)

  at_least : frontier ≤ number
  at_least = elim (cases_lt number frontier) [
    | inl low ↦
        absurd (none_missing landed (number + 1) (surely (number + 1) (omega (arith, base_high, missing.above)) (omega arith))
        missing.absent)
    | inr high ↦ high
  ]

  open_base : frontier < base → is_open_checkpoint base uploads.window.objects ≡ true
  open_base past = sym (left.checkpoints base past missing.newest.has_landed) ∙ missing.newest.is_checkpoint

  number_open : frontier < base → list_any (has_number base) uploads.window.objects ≡ true
  number_open past = flag_open base (λ object. object.is_checkpoint) uploads.window.objects (open_base past)

  base_next : base ≤ frontier + 1
  base_next = elim (cases_lt frontier base) [
    | inl past ↦ elim (left.perhaps base past missing.newest.has_landed) [
      | inl acked ↦ absurd (
          not_acknowledged (nat_le base uploads.window.last) (list_any (has_number base) uploads.window.objects)
          (number_open past)
          acked
          )
      | inr started ↦
          let next = next_object base frontier (frontier + 1) uploads.queue.sealed uploads.window.objects order.opened order.begun
          (open_base past) started in
          omega (arith, next)
    ]
    | inr low ↦ omega (arith, low)
  ]

  base_within : base ≤ uploads.window.last
  base_within = elim (cases_lt frontier base) [
    | inl past ↦
        let at = among base (frontier + 1) uploads.queue.sealed uploads.window.objects order.opened (number_open past) in
        omega (arith, at.1, order.last)
    | inr low ↦ omega (arith, low, order.last)
  ]

  at_most : number ≤ uploads.window.last
  at_most = elim (cases_lt uploads.window.last number) [
    | inl past ↦
        let next = uploads.window.last + 1 in
        absurd (
        none_landed_past next frontier uploads.window.last uploads.queue.sealed uploads.window.objects order.opened order.last
        (omega arith)
        (left.perhaps next (omega (arith, order.last)) (missing.least next (omega (arith, base_within)) (omega (arith, past))))
        )
    | inr low ↦ low
  ]

  has_landed : (n : ℕ) → frontier < n → n ≤ number → IsTrue (landed n)
  has_landed n past within = elim (cases_lt base n) [
    | inl high ↦ missing.least n high (omega (arith, within))
    | inr low ↦
        let same : base ≡ n = omega (arith, low, past, base_next) in
        subst (λ m. IsTrue (landed m)) same missing.newest.has_landed
  ]

  -- the later of the checkpoint and the frontier
  abbrev start : ℕ
  start = max base frontier

  abbrev skipped : ℕ
  skipped = start - frontier

  start_from : frontier ≤ start
  start_from = omega arith

  start_base : base ≤ start
  start_base = omega arith

  start_to : start ≤ number
  start_to = omega (arith, at_least, missing.above)

  within_stream : start ≤ last_number stream
  within_stream = omega (arith, start_to, at_most, are.last)

  -- the objects past it up to this number
  abbrev tail : Stream
  tail = from_object start stream

  abbrev left_sealed : List SealedState
  left_sealed = drop skipped uploads.queue.sealed

  sealed_there : AreSealedOf stream volume start tail.end tail.entries (owners stream start) tail.objects left_sealed
  sealed_there =
      let part = from_object frontier stream in
      let reached : frontier + skipped ≡ start = omega (arith, start_from) in
      let first = subst (λ e. AreSealedOf stream volume frontier e part.entries (owners stream frontier) part.objects
      uploads.queue.sealed) are.end are.sealed in
      let later = later_sealed stream frontier are.valid are.from (omega (arith, start_from, within_stream)) skipped
      (omega (arith, reached, within_stream)) volume data_at uploads.queue.sealed first in
      subst (λ n. AreSealedOf stream volume n (end_at stream n) (from_object n stream).entries (owners stream n)
      (from_object n stream).objects left_sealed) reached later

  abbrev found_objects : List StreamObject
  found_objects = take (number - start) tail.objects

  enough : number - start ≤ length tail.objects
  enough =
      let size = length-drop (start - stream.number) stream.objects in
      omega (arith, size, at_most, are.last, are.from, start_from)

  there_at : (index : ℕ) → index < number - start
      → IsThere objects (λ level. None) (λ level. refl) stream volume start index left_sealed
  there_at index low =
      let n = start + 1 + index in
      let past : frontier < n = omega (arith, start_from) in
      let has = left.present n past (has_landed n past (omega (arith, low))) in
      (has.0, has.1, bytes_past skipped index (index_of uploads n) uploads.queue.sealed has.0 (omega (arith, start_from)) has.2)

  -- none of them is a checkpoint, as none that has landed is past the newest
  none_checkpoint : (index : ℕ) → index < number - start → checkpoint_at index left_sealed ≡ false
  none_checkpoint index low = not_so (checkpoint_at index left_sealed) (λ is.
      let n = start + 1 + index in
      let past : frontier < n = omega (arith, start_from) in
      let there = has_landed n past (omega (arith, low)) in
      let whole = checkpoint_past skipped index (skipped + index) uploads.queue.sealed refl is in
      let open_ = open_checkpoint n (frontier + 1) (skipped + index) uploads.queue.sealed uploads.window.objects order.opened
      order.waiting (omega (arith, start_from)) whole in
      let newer = missing.newest.newest n (left.checkpoints n past there ∙ open_) there in
      absurd (omega (arith, newer, start_base)))

  stored : AreStored objects (λ level. None) volume start tail.end tail.entries (owners stream start) found_objects
  stored =
      stored_first objects (λ level. None) (λ level. refl) stream volume (number - start) start tail.end tail.entries
      (owners stream start)
      tail.objects left_sealed sealed_there there_at none_checkpoint enough

  replayed : Replays objects volume start (end_at stream start) (owners stream start) (number - start) (end_at stream number)
      (owners stream number)
  replayed =
      let kept = keeps_owners stream start number are.valid (omega (arith, are.from, start_from)) within_stream start_to in
      let replay = stored_are_replayed objects (λ level. None) volume start tail.end tail.entries (owners stream start)
      (owners stream number) found_objects stored (λ k. sym (kept.0 k)) in
      let counted : length found_objects ≡ number - start = length-take-le (number - start) tail.objects enough in
      subst (λ n. Replays objects volume start tail.end (owners stream start) n (end_at stream number) (owners stream number))
      counted
      (subst (λ e. Replays objects volume start tail.end (owners stream start) (length found_objects) e (owners stream number))
      kept.1 replay)

  -- an owner up to the frontier is one that the stream opens with, or has an object that is known
  landed_before : (k : ℕ) (owner : Owner) → owners stream frontier k ≡ Some owner → (stream.opening k ≡ Some owner)
      ⊎ ((owner.level ≡ 0) × IsTrue (landed owner.number))
  landed_before k owner before = elim (owns_by_number stream frontier k owner before) [
    | inl opened ↦ inl opened
    | inr own ↦
        let at = owned_by (settled_at uploads.queue.maps k) owner (are.settled k ∙ before) in
        let known = sector_is_known uploads.uuid uploads.queue k at.0 order.known at.1 (at.2 ∙ own.0) in
        inr (own.0, subst (λ n. IsTrue (landed n)) at.3 (left.known at.0.number known))
  ]

  landed_owner : (k : ℕ) (owner : Owner) → owners stream number k ≡ Some owner → (stream.opening k ≡ Some owner)
      ⊎ ((owner.level ≡ 0) × IsTrue (landed owner.number))
  landed_owner k owner is =
      let kept = keeps_owners stream frontier number are.valid are.from (omega (arith, start_from, within_stream)) at_least in
      elim (owns_by_number (from_object frontier stream) number k owner (kept.0 k ∙ is)) [
        | inl before ↦ landed_before k owner before
        | inr later ↦ inr (later.0, has_landed owner.number later.1 later.2)
      ]

pub recovery_finds_stream : RecoveryFindsStream
recovery_finds_stream volume data_at stream uploads objects checkpoint landed number order are left missing = record {
  from = at_least volume data_at stream uploads objects checkpoint landed number order are left missing;
  to = at_most volume data_at stream uploads objects checkpoint landed number order are left missing;
  next = base_next volume data_at stream uploads objects checkpoint landed number order are left missing;
  replay = replayed volume data_at stream uploads objects checkpoint landed number order are left missing;
  there = landed_owner volume data_at stream uploads objects checkpoint landed number order are left missing;
}
