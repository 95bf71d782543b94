-- What marks of held objects leave of a list, and what they make of its table.
use Rattle.std.proofs.Common.{◌≡◌, ℕ, zero, suc, ◌<◌, ◌==◌, inl, inr, Bool, true, false, cond, Option, Some, None, List, [], ◌∷◌}
use Rattle.std.proofs.Common.{◌++◌, map, refl, sym, ◌∙◌, ap, subst, arith}
use Rattle.std.specs.Prelude.{IsTrue, ◌⊎◌, is_some, option_map, nat_eq}
use Rattle.std.specs.List.{All, Contains}
use Rattle.std.proofs.lemmas.Bool.Decides.{nat_tests}
use Rattle.std.proofs.lemmas.List.Elements.{Contains-append_right, Contains-append_cases}
use Rattle.lsvd_base.specs.declared.geometry.Geometry.{Geometry}
use Rattle.upload_window.specs.Window.{WindowState}
use Rattle.batcher.specs.State.{BatchState}
use Rattle.object_stream.specs.declared.owner.Owner.{Owner}
use Rattle.object_table.specs.declared.row.ObjectRow.{ObjectRow}
use Rattle.object_table.specs.Table.{TableState, row_of, held}
use Rattle.extent_map.specs.Extents.{place_at}
use Rattle.extent_map.specs.State.{MapState}
use Rattle.volume_maps.specs.declared.place.LogPlace.{LogPlace}
use Rattle.volume_maps.specs.declared.place.ObjectPlace.{ObjectPlace}
use Rattle.volume_maps.specs.Places.{log_on}
use Rattle.volume_maps.specs.Maps.{settled_at}
use Rattle.volume_maps.proofs.TableLemmas.{changed_unseen}
use Rattle.object_uploads.specs.Collection.{IsInsideObject}
use Rattle.object_uploads.specs.State.{QueueState, UploadsState, StoredObject}
use Rattle.object_uploads.specs.ImageLaws.{KeepsImage}
use Rattle.object_uploads.specs.Queue.{receipt_in, stored_with, inherited_in, stored_at}
use Rattle.object_uploads.specs.Removal.{IsSameButObjects, HasChangedRow, ChangesPinsEach}
use Rattle.object_uploads.proofs.DeadRows.{row_seen}
use Rattle.object_uploads.proofs.KeepLemmas.{same_settled}
use Rattle.object_uploads.proofs.PinsOf.{row_changed}
use Rattle.object_uploads.proofs.RemovalImage.{pins_keep_image}
use Rattle.object_uploads.proofs.StoredLemmas.{fixed, front_in, same_front, same_stored}
use Rattle.obj_log.specs.State.{ObjLogState}
use Rattle.object_recovery.specs.Holding.{IsMarked}
use Rattle.object_recovery.specs.Places.{HasPlacesInside}
use Rattle.object_recovery.specs.Recovery.{IsListUpTo}
use Rattle.object_recovery.specs.Table.{HasTableFrom}
use Rattle.object_recovery.proofs.TableLemmas.{all_same}

-- ---- one after the other

each_more : (xs ys : List ℕ) (old middle new : UploadsState) → ChangesPinsEach held xs old middle
    → ChangesPinsEach held ys middle new → ChangesPinsEach held (xs ++ ys) old new
each_more [] ys old middle new same rest = subst (λ u. ChangesPinsEach held ys u new) same rest
each_more (x ∷ xs) ys old middle new (next, change, is, first) rest =
    (next, change, is, each_more xs ys next middle new first rest)

pub none_marked : (log : ObjLogState) → IsMarked [] log log
none_marked log = record { batch = refl; marks = refl }

pub marked_more : (xs ys : List ℕ) (old middle new : ObjLogState) → IsMarked xs old middle → IsMarked ys middle new
    → IsMarked (xs ++ ys) old new
marked_more xs ys old middle new first rest = record {
  batch = rest.batch ∙ first.batch;
  marks = each_more xs ys old.uploads middle.uploads new.uploads first.marks rest.marks;
}

-- ---- what stays

-- a row but for the mark of holds
abbrev pub but_held : ObjectRow → ObjectRow
but_held row = record row { is_held = false }

-- all but the marks of holds in the table is as before
pub record IsStill (old new : UploadsState) : Type 0 where
  pub rest : IsSameButObjects old new
  pub receipts : new.queue.receipts ≡ old.queue.receipts
  pub removal : new.queue.removal ≡ old.queue.removal
  pub checkpoint : new.queue.maps.objects.checkpoint ≡ old.queue.maps.objects.checkpoint
  pub rows : map but_held new.queue.maps.objects.rows ≡ map but_held old.queue.maps.objects.rows
  pub image : KeepsImage old.queue new.queue

still_itself : (uploads : UploadsState) → IsStill uploads uploads
still_itself uploads = record {
  rest = record {
    uuid = refl;
    sectors = refl;
    ancestors = refl;
    window = refl;
    frontier = refl;
    end = refl;
    sealed = refl;
    inherited = refl;
    settled = refl;
    log = refl;
  };
  receipts = refl;
  removal = refl;
  checkpoint = refl;
  rows = refl;
  image = record { image = λ image has. has; receipts = λ has. has; copies = λ tells image has. has };
}

still_marked : (number : ℕ) (old new : UploadsState) → HasChangedRow held number old new → IsStill old new
still_marked number old new is = record {
  rest = is.rest;
  receipts = is.receipts;
  removal = is.removal;
  checkpoint = ap (λ (t : TableState). t.checkpoint) is.objects;
  rows =
      ap (λ (t : TableState). map but_held t.rows) is.objects
      ∙ changed_unseen but_held held number old.queue.maps.objects.rows (λ row. refl);
  image = pins_keep_image held number old new (λ row. (refl, refl)) is;
}

still_later : (old middle new : UploadsState) → IsStill old middle → IsStill middle new → IsStill old new
still_later old middle new a b = record {
  rest = record {
    uuid = b.rest.uuid ∙ a.rest.uuid;
    sectors = b.rest.sectors ∙ a.rest.sectors;
    ancestors = b.rest.ancestors ∙ a.rest.ancestors;
    window = b.rest.window ∙ a.rest.window;
    frontier = b.rest.frontier ∙ a.rest.frontier;
    end = b.rest.end ∙ a.rest.end;
    sealed = b.rest.sealed ∙ a.rest.sealed;
    inherited = b.rest.inherited ∙ a.rest.inherited;
    settled = b.rest.settled ∙ a.rest.settled;
    log = b.rest.log ∙ a.rest.log;
  };
  receipts = b.receipts ∙ a.receipts;
  removal = b.removal ∙ a.removal;
  checkpoint = b.checkpoint ∙ a.checkpoint;
  rows = b.rows ∙ a.rows;
  image = record {
    image = λ image has. b.image.image image (a.image.image image has);
    receipts = λ has. b.image.receipts (a.image.receipts has);
    copies = λ tells image has. b.image.copies tells image (a.image.copies tells image has);
  };
}

each_still : (numbers : List ℕ) (old new : UploadsState) → ChangesPinsEach held numbers old new → IsStill old new
each_still [] old new same = subst (IsStill old) (sym same) (still_itself old)
each_still (number ∷ numbers) old new (next, change, is, rest) =
    still_later old next new (still_marked number old next change) (each_still numbers next new rest)

pub marked_still : (numbers : List ℕ) (old new : ObjLogState) → IsMarked numbers old new → IsStill old.uploads new.uploads
marked_still numbers old new is = each_still numbers old.uploads new.uploads is.marks

module _ (old new : ObjLogState) (batch : new.batch ≡ old.batch) (still : IsStill old.uploads new.uploads) where
  abbrev before : QueueState
  before = old.uploads.queue

  abbrev after : QueueState
  after = new.uploads.queue

  pub same_last : new.uploads.window.last ≡ old.uploads.window.last
  same_last = ap (λ (w : WindowState). w.last) still.rest.window

  pub list_still : (uuid : List ℕ) (geometry : Geometry) (ancestors : ℕ)
      → IsListUpTo uuid geometry ancestors old.uploads.window.last before.end old
      → IsListUpTo uuid geometry ancestors new.uploads.window.last after.end new
  list_still uuid geometry ancestors is = record {
    uuid_is = still.rest.uuid ∙ is.uuid_is;
    ancestors_are = still.rest.ancestors ∙ is.ancestors_are;
    geometry_is = ap (λ (b : BatchState). b.geometry) batch ∙ is.geometry_is;
    sectors = still.rest.sectors ∙ is.sectors;
    first = ap (λ (b : BatchState). b.first) batch ∙ is.first ∙ sym still.rest.end;
    entries = ap (λ (b : BatchState). b.entries) batch ∙ is.entries;
    window =
        still.rest.window ∙ is.window
        ∙ ap (λ n. let window : WindowState = record { last = n; objects = [] } in window) (sym same_last);
    frontier = still.rest.frontier ∙ is.frontier ∙ sym same_last;
    end_is = refl;
    sealed = still.rest.sealed ∙ is.sealed;
    logged = λ k. ap (λ (m : MapState LogPlace). place_at log_on m.rows k) still.rest.log ∙ is.logged k;
  }

  pub settled_still : (k : ℕ) → settled_at after.maps k ≡ settled_at before.maps k
  settled_still = same_settled before.maps after.maps still.rest.settled

  fronts : (n : ℕ) → front_in (row_of n after.maps.objects.rows) ≡ front_in (row_of n before.maps.objects.rows)
  fronts n = same_front n after.maps.objects.rows before.maps.objects.rows fixed_rows
    where
      fixed_list : (rows : List ObjectRow) → map fixed (map but_held rows) ≡ map fixed rows
      fixed_list [] = refl
      fixed_list (row ∷ rows) = ap (λ more. fixed row ∷ more) (fixed_list rows)

      fixed_rows : map fixed after.maps.objects.rows ≡ map fixed before.maps.objects.rows
      fixed_rows =
          sym (fixed_list after.maps.objects.rows) ∙ ap (map fixed) still.rows ∙ fixed_list before.maps.objects.rows

  stored_still : (place : ObjectPlace) → stored_at after place ≡ stored_at before place
  stored_still place =
      let owner : Owner = record { level = place.level; number = place.number } in
      let Stored : Option StoredObject → Option StoredObject = λ found.
      cond (place.level == 0) found (inherited_in after.inherited owner) in
      ap Stored
      (ap (λ list. stored_with (receipt_in list place.number) (row_of place.number after.maps.objects.rows)) still.receipts
      ∙ same_stored (receipt_in before.receipts place.number) (row_of place.number after.maps.objects.rows)
      (row_of place.number before.maps.objects.rows) (fronts place.number))
      ∙ ap (λ list. cond (place.level == 0)
      (stored_with (receipt_in before.receipts place.number) (row_of place.number before.maps.objects.rows))
      (inherited_in list owner)) still.rest.inherited

  pub places_still : (sectors : ℕ) → HasPlacesInside sectors before → HasPlacesInside sectors after
  places_still sectors inside k place at =
      let was = inside k place (sym (settled_still k) ∙ at) in
      (was.0, subst (λ o. IsInsideObject o place.sector) (sym (stored_still place)) was.1)

  all_still : (Is : ObjectRow → Type 0) → ((x y : ObjectRow) → but_held x ≡ but_held y → Is y → Is x)
      → All Is before.maps.objects.rows → All Is after.maps.objects.rows
  all_still Is keeps = all_same but_held Is keeps after.maps.objects.rows before.maps.objects.rows still.rows

  pub table_still : (checkpoint : ℕ) → HasTableFrom checkpoint before → HasTableFrom checkpoint after
  table_still checkpoint has = record {
    checkpoint_is = still.checkpoint ∙ has.checkpoint_is;
    removal = still.removal ∙ has.removal;
    unpinned =
        all_still (λ (row : ObjectRow). row.pins ≡ 0) (λ x y is was. ap (λ (row : ObjectRow). row.pins) is ∙ was) has.unpinned;
    not_copied =
        all_still (λ (row : ObjectRow). row.is_copied ≡ false) (λ x y is was. ap (λ (row : ObjectRow). row.is_copied) is ∙ was)
        has.not_copied;
    exact = λ at.
        all_still (λ (row : ObjectRow). row.number < checkpoint → row.is_unmapped ≡ nat_eq row.live 0)
        (λ x y is was low.
        let number = ap (λ (row : ObjectRow). row.number) is in
        ap (λ (row : ObjectRow). row.is_unmapped) is ∙ was (omega (arith, number, low))
        ∙ ap (λ (row : ObjectRow). nat_eq row.live 0) (sym is)) (has.exact (sym still.rest.frontier ∙ at));
  }

  -- the row of a number is as before but for its mark
  pub row_still : (n : ℕ) (row : ObjectRow) → row_of n after.maps.objects.rows ≡ Some row
      → (other : ObjectRow) × (row_of n before.maps.objects.rows ≡ Some other) × (but_held other ≡ but_held row)
  row_still n row at =
      row_seen but_held n after.maps.objects.rows before.maps.objects.rows row (λ r. refl) (sym still.rows) at

  pub row_now : (n : ℕ) (row : ObjectRow) → row_of n before.maps.objects.rows ≡ Some row
      → IsTrue (is_some (row_of n after.maps.objects.rows))
  row_now n row at =
      let there = row_seen but_held n before.maps.objects.rows after.maps.objects.rows row (λ r. refl) still.rows at in
      ap is_some there.1

-- ---- which objects are marked

-- whether a row is marked; there is no mark on one that is absent
abbrev pub held_in : Option ObjectRow → Bool
held_in None = false
held_in (Some row) = row.is_held

-- the mark of the object of a number, as the table has it
abbrev pub is_marked : UploadsState → (n : ℕ) → Bool
is_marked uploads n = held_in (row_of n uploads.queue.maps.objects.rows)

row_then : (number n : ℕ) (old new : UploadsState) → HasChangedRow held number old new
    → row_of n new.queue.maps.objects.rows
    ≡ cond (number == n) (option_map held (row_of n old.queue.maps.objects.rows)) (row_of n old.queue.maps.objects.rows)
row_then number n old new is =
    ap (λ (t : TableState). row_of n t.rows) is.objects
    ∙ row_changed held number n old.queue.maps.objects.rows (λ row. refl)

marked_by : (test : Bool) (found : Option ObjectRow) → held_in (cond test (option_map held found) found) ≡ true
    → (held_in found ≡ true) ⊎ (test ≡ true)
marked_by true found is = inr refl
marked_by false found is = inl is

marks_by : (test : Bool) (found : Option ObjectRow) → IsTrue (is_some found) → (held_in found ≡ true) ⊎ (test ≡ true)
    → held_in (cond test (option_map held found) found) ≡ true
marks_by true None there is = absurd cc
marks_by true (Some row) there is = refl
marks_by false found there (inl was) = was
marks_by false found there (inr own) = absurd cc

there_by : (test : Bool) (found : Option ObjectRow) → IsTrue (is_some found)
    → IsTrue (is_some (cond test (option_map held found) found))
there_by true None there = absurd cc
there_by true (Some row) there = refl
there_by false found there = there

pub was_marked : (numbers : List ℕ) (old new : UploadsState) → ChangesPinsEach held numbers old new → (n : ℕ)
    → is_marked new n ≡ true → (is_marked old n ≡ true) ⊎ Contains numbers n
was_marked [] old new same n is = inl (ap (λ u. is_marked u n) (sym same) ∙ is)
was_marked (number ∷ numbers) old new (next, change, now, rest) n is =
    elim (was_marked numbers next new rest n is) [
      | inl before ↦
          elim (marked_by (number == n) (row_of n old.queue.maps.objects.rows)
          (ap held_in (sym (row_then number n old next change)) ∙ before)) [
            | inl was ↦ inl was
            | inr own ↦ inr (0, omega arith, grind (arith, nat_tests))
          ]
      | inr later ↦ inr (Contains-append_right (number ∷ []) numbers n later)
    ]

pub now_marked : (numbers : List ℕ) (old new : UploadsState) → ChangesPinsEach held numbers old new → (n : ℕ)
    → IsTrue (is_some (row_of n old.queue.maps.objects.rows)) → (is_marked old n ≡ true) ⊎ Contains numbers n
    → is_marked new n ≡ true
now_marked [] old new same n there (inl was) = ap (λ u. is_marked u n) same ∙ was
now_marked [] old new same n there (inr among) = absurd (omega (arith, among.1))
now_marked (number ∷ numbers) old new (next, change, now, rest) n there is =
    let found = row_of n old.queue.maps.objects.rows in
    let row = row_then number n old next change in
    let still : IsTrue (is_some (row_of n next.queue.maps.objects.rows)) =
    ap is_some row ∙ there_by (number == n) found there in
    let marks = λ (h : (held_in found ≡ true) ⊎ ((number == n) ≡ true)).
    ap held_in row ∙ marks_by (number == n) found there h in
    now_marked numbers next new rest n still (first_or is marks)
  where
    same_number : Contains (number ∷ []) n → (number == n) ≡ true
    same_number (zero, inside, at) = grind (arith, nat_tests)
    same_number (suc k, inside, at) = absurd (omega (arith, inside))

    first_or : (is_marked old n ≡ true) ⊎ Contains (number ∷ numbers) n
        → ((is_marked old n ≡ true) ⊎ ((number == n) ≡ true) → is_marked next n ≡ true)
        → (is_marked next n ≡ true) ⊎ Contains numbers n
    first_or (inl was) marks = inl (marks (inl was))
    first_or (inr among) marks =
        elim (Contains-append_cases (number ∷ []) numbers n among) [
          | inl own ↦ inl (marks (inr (same_number own)))
          | inr later ↦ inr later
        ]
