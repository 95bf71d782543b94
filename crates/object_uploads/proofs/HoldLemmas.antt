-- Sectors are still held where what is in the store stays there.
use Rattle.std.proofs.Common.{◌≡◌, ℕ, ◌==◌, Bool, true, false, cond, Option, Some, None, List, refl, sym, ap, subst, arith}
use Rattle.std.proofs.lemmas.Bool.Decides.{nat_tests}
use Rattle.lsvd_base.specs.Image.{Image}
use Rattle.extent_map.specs.declared.extent.Extent.{Extent}
use Rattle.extent_map.specs.Extents.{place_at}
use Rattle.volume_maps.specs.declared.place.ObjectPlace.{ObjectPlace}
use Rattle.volume_maps.specs.Places.{object_on}
use Rattle.object_stream.specs.declared.owner.Owner.{Owner}
use Rattle.object_table.specs.Table.{row_of}
use Rattle.volume_maps.specs.Maps.{settled_at}
use Rattle.object_uploads.specs.State.{StoredObject, QueueState}
use Rattle.object_uploads.specs.Queue.{receipt_in, stored_with, inherited_in}
use Rattle.object_uploads.specs.Image.{GivesSector, HoldsSector, HasImage}
use Rattle.object_uploads.proofs.StoredLemmas.{StaysStored}

gives_kept : (was is : Option StoredObject) (at : ℕ) (sector : List ℕ)
    → ((object : StoredObject) → was ≡ Some object → is ≡ Some object)
    → GivesSector was at sector → GivesSector is at sector
gives_kept None is at sector kept gives = absurd gives
gives_kept (Some object) is at sector kept gives = subst (λ o. GivesSector o at sector) (sym (kept object refl)) gives

gives_by : (test : Bool) (level : ℕ) (was is other same : Option StoredObject) (at : ℕ) (sector : List ℕ)
    → (level == 0) ≡ test → (level ≡ 0 → (object : StoredObject) → was ≡ Some object → is ≡ Some object) → same ≡ other
    → GivesSector (cond test was other) at sector → GivesSector (cond test is same) at sector
gives_by true level was is other same at sector own kept stays gives =
    gives_kept was is at sector (kept (grind (arith, nat_tests))) gives
gives_by false level was is other same at sector own kept stays gives =
    subst (λ o. GivesSector o at sector) (sym stays) gives

-- the object of a number stays in the store
abbrev pub Stays : (old new : QueueState) (number : ℕ) → Type 0
Stays old new number = StaysStored old.receipts old.maps.objects.rows new.receipts new.maps.objects.rows number

-- a place's object does, where it is one of the volume's own
abbrev pub PlaceStays : (old new : QueueState) → Option ObjectPlace → Type 0
PlaceStays old new place = (p : ObjectPlace) → place ≡ Some p → p.level ≡ 0 → Stays old new p.number

pub still_holds : (old new : QueueState) (place : Option ObjectPlace) (sector : List ℕ) → PlaceStays old new place
    → new.inherited ≡ old.inherited → HoldsSector old place sector → HoldsSector new place sector
still_holds old new None sector stays inherited holds = holds
still_holds old new (Some place) sector stays inherited holds =
    let owner : Owner = record { level = place.level; number = place.number } in
    gives_by (place.level == 0) place.level
    (stored_with (receipt_in old.receipts place.number) (row_of place.number old.maps.objects.rows))
    (stored_with (receipt_in new.receipts place.number) (row_of place.number new.maps.objects.rows))
    (inherited_in old.inherited owner) (inherited_in new.inherited owner) place.sector sector refl (stays place refl)
    (ap (λ list. inherited_in list owner) inherited) holds

-- while the places stay, the image does
pub image_stays : (old new : QueueState) → new.maps.settled.rows ≡ old.maps.settled.rows → new.inherited ≡ old.inherited
    → ((k : ℕ) → PlaceStays old new (settled_at old.maps k)) → (image : Image) → HasImage image old → HasImage image new
image_stays old new settled inherited stays image has k sector at =
    subst (λ (rows : List (Extent ObjectPlace)). HoldsSector new (place_at object_on rows k) sector) (sym settled)
    (still_holds old new (settled_at old.maps k) sector (stays k) inherited (has k sector at))
