-- What the objects on their way to the store keep while a mount takes up what it finds in the store.
use Rattle.std.proofs.Common.{◌≡◌, ℕ, ◌+◌, ◌≤◌, ◌==◌, Bool, true, false, Some, List, [], ◌∷◌, ◌++◌, refl, sym, ◌∙◌, subst, arith}
use Rattle.std.specs.Prelude.{Result, Ok, Err, OnOk, OnErr}
use Rattle.std.specs.List.{All}
use Rattle.std.proofs.lemmas.Bool.Decides.{nat_tests}
use Rattle.std.proofs.lemmas.List.Elements.{All-head, All-tail, All-push}
use Rattle.std.proofs.lemmas.List.Quantifiers.{all_pairs_push}
use Rattle.extent_map.specs.declared.extent.Extent.{Extent}
use Rattle.extent_map.specs.Extents.{place_after_set}
use Rattle.lsvd_names.specs.Names.{numbered_name}
use Rattle.lsvd_objstore.specs.Store.{ReceiptState}
use Rattle.object_table.specs.declared.row.ObjectRow.{ObjectRow}
use Rattle.object_table.specs.Table.{row_of}
use Rattle.upload_window.specs.Window.{WindowState}
use Rattle.volume_maps.specs.declared.place.ObjectPlace.{ObjectPlace}
use Rattle.volume_maps.specs.Places.{object_on}
use Rattle.volume_maps.specs.Maps.{settled_at}
use Rattle.volume_maps.specs.Live.{MayGain, HasSameObjects}
use Rattle.object_uploads.specs.State.{InheritedObject, QueueState}
use Rattle.object_uploads.specs.Queue.{HasSamePlaces}
use Rattle.object_uploads.specs.Order.{IsBefore, ComesLast, IsUploads}
use Rattle.object_uploads.specs.Invariant.{IsKnown, KeepsAllButFound}
use Rattle.object_uploads.proofs.NamesKept.{IsNamed, named_pushed}
use Rattle.object_uploads.proofs.PlacesKept.{places_mapped}
use Rattle.object_uploads.proofs.UploadsKept.{whole, uploads_found, found_none, uploads_same, places_same, are_known_same}

-- an object of the table lies within what its rows do
within_test : (test : Bool) (number last : ℕ) (first row : ObjectRow) (rows : List ObjectRow)
    → (first.number == number) ≡ test → first.number ≤ last → (row_of number rows ≡ Some row → number ≤ last)
    → row_of number (first ∷ rows) ≡ Some row → number ≤ last
within_test true number last first row rows test low later is = grind (arith, nat_tests)
within_test false number last first row rows test low later is =
    let found : row_of number (first ∷ rows) ≡ row_of number rows = rw test refl in
    later (sym found ∙ is)

row_within : (number last : ℕ) (rows : List ObjectRow) (row : ObjectRow)
    → All (λ (object : ObjectRow). object.number ≤ last) rows → row_of number rows ≡ Some row → number ≤ last
row_within number last [] row low is = absurd cc
row_within number last (first ∷ rows) row low is =
    within_test (first.number == number) number last first row rows refl
    (All-head (λ (object : ObjectRow). object.number ≤ last) first rows low)
    (row_within number last rows row (All-tail (λ (object : ObjectRow). object.number ≤ last) first rows low)) is

module _ {A E : Type 0} (uuid : List ℕ) (sectors ancestors : ℕ) (window : WindowState) (old new : QueueState)
    (are : IsUploads (whole uuid sectors ancestors old window)) (rest : KeepsAllButFound old new) where
  -- an object more
  pub found_more : (result : Result A E) (number : ℕ) (receipt : ReceiptState) → receipt.name ≡ numbered_name uuid number
      → OnOk result (new.receipts ≡ old.receipts ++ record { number = number; receipt = receipt } ∷ [])
      → new.maps.settled.rows ≡ old.maps.settled.rows
      → OnErr result (new.receipts ≡ old.receipts) → OnErr result (HasSamePlaces old.maps new.maps)
      → OnOk result (IsKnown new) → IsUploads (whole uuid sectors ancestors new window)
  found_more (Ok ok) number receipt named receipts settled same places known =
      uploads_found uuid sectors ancestors window old new are rest known
      (subst (All (IsNamed uuid)) (sym receipts) (named_pushed uuid number old.receipts receipt are.known.named named))
      (places_same sectors ancestors old.frontier old.maps new.maps settled are.places)
  found_more (Err error) number receipt named receipts settled same places known =
      uploads_same uuid sectors ancestors window old new are rest.frontier rest.sealed same rest.removal rest.inherited places

  -- the same places, of the parts
  pub same_places : (result : Result A E) → new.maps.settled.rows ≡ old.maps.settled.rows
      → OnErr result (new.maps.objects.rows ≡ old.maps.objects.rows)
      → new.maps.objects.checkpoint ≡ old.maps.objects.checkpoint → OnErr result (HasSamePlaces old.maps new.maps)
  same_places (Ok ok) settled rows checkpoint = tt
  same_places (Err error) settled rows checkpoint =
      record { settled = settled; log = rest.log; objects = rows; checkpoint = checkpoint }

  -- a row of the checkpoint
  pub found_mapped : (result : Result A E) (row : Extent ObjectPlace) → row.lba + row.sectors ≤ sectors
      → row.place.sector + row.sectors ≤ 131071 → row.place.level ≤ ancestors
      → (row.place.level ≡ 0 → MayGain row.place.number old.maps.objects)
      → new.receipts ≡ old.receipts
      → OnOk result ((k : ℕ) → settled_at new.maps k
      ≡ place_after_set object_on row.lba row.sectors row.place (settled_at old.maps) k)
      → HasSameObjects old.maps.objects new.maps.objects → OnErr result (new.maps.settled.rows ≡ old.maps.settled.rows)
      → OnErr result (new.maps.objects.rows ≡ old.maps.objects.rows) → OnOk result (IsKnown new)
      → IsUploads (whole uuid sectors ancestors new window)
  found_mapped (Ok ok) row inside payload low gains receipts settled objects same rows known =
      let number : row.place.level ≡ 0 → row.place.number ≤ old.frontier = λ own.
      row_within row.place.number old.frontier old.maps.objects.rows (gains own).0 are.known.within (gains own).1 in
      uploads_found uuid sectors ancestors window old new are rest known
      (subst (All (IsNamed uuid)) (sym receipts) are.known.named)
      (places_mapped sectors ancestors old.frontier row old.maps new.maps inside payload low number settled are.places)
  found_mapped (Err error) row inside payload low gains receipts settled objects same rows known =
      found_none uuid sectors ancestors window old new are rest receipts same rows objects.checkpoint

-- an object of an ancestor more
pub uploads_inherited : {A E : Type 0} (uuid : List ℕ) (sectors ancestors : ℕ) (window : WindowState) (old new : QueueState)
    (result : Result A E) (object : InheritedObject) → IsUploads (whole uuid sectors ancestors old window) → 1 ≤ object.level
    → object.level ≤ ancestors → ComesLast object.level object.number old.inherited
    → OnOk result (new ≡ record old { inherited = old.inherited ++ object ∷ [] }) → OnErr result (new ≡ old)
    → IsUploads (whole uuid sectors ancestors new window)
uploads_inherited uuid sectors ancestors window old new (Ok ok) object are least most last added same =
    let more = record old { inherited = old.inherited ++ object ∷ [] } in
    rw added (record {
      opened = are.opened;
      last = are.last;
      waits = are.waits;
      names = are.names;
      fit = are.fit;
      sectors = are.sectors;
      known = are_known_same uuid old more are.known refl refl refl
          (record { settled = refl; log = refl; objects = refl; checkpoint = refl });
      begun = are.begun;
      waiting = are.waiting;
      places = are.places;
      ancestors = are.ancestors;
      inherited = record {
        ascend = all_pairs_push (λ (a b : InheritedObject). IsBefore a b.level b.number) old.inherited object
            are.inherited.ascend last;
        levels = All-push (λ (o : InheritedObject). (1 ≤ o.level) × (o.level ≤ ancestors)) old.inherited object
            are.inherited.levels (least, most);
      };
    })
uploads_inherited uuid sectors ancestors window old new (Err error) object are least most last added same = rw same are
