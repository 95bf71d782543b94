-- An object with live sectors is in the store, with the payload that the table says.
use Rattle.std.proofs.Common.{◌≡◌, ℕ, ◌+◌, ◌-◌, ◌<◌, Bool, true, false, cond, Some, List, [], ◌∷◌}
use Rattle.std.proofs.Common.{inl, inr, refl, ◌∙◌, ap, subst, arith}
use Rattle.std.specs.Prelude.{IfSome}
use Rattle.std.proofs.lemmas.Bool.{cases_lt}
use Rattle.std.proofs.lemmas.Bool.Decides.{nat_tests}
use Rattle.std.proofs.lemmas.List.Sums.{sum_by-cons}
use Rattle.lsvd_objstore.specs.Objects.{Objects}
use Rattle.extent_map.specs.declared.extent.Extent.{Extent}
use Rattle.extent_map.specs.Extents.{place_at, IsShortest}
use Rattle.extent_map.proofs.Places.{at_inside, at_past, after_row, none_before}
use Rattle.object_format.specs.declared.expected.Expected.{Expected}
use Rattle.object_table.specs.declared.row.ObjectRow.{ObjectRow}
use Rattle.object_table.specs.Table.{row_of}
use Rattle.object_table.proofs.Rows.{its_number}
use Rattle.object_table.proofs.Listed.{found_holds}
use Rattle.volume_maps.specs.declared.place.ObjectPlace.{ObjectPlace}
use Rattle.volume_maps.specs.Live.{is_in_object, sectors_in, live_sectors}
use Rattle.volume_maps.specs.Places.{object_on}
use Rattle.object_uploads.specs.Order.{AreKnown}
use Rattle.object_uploads.specs.State.{QueueState}
use Rattle.object_recovery.specs.Table.{HasPayloadThere, KnowsObjects}
use Rattle.object_recovery.proofs.PlaceLemmas.{so_some, some_so}

-- rows of a map have a sector in the object of a number
record HasLive (number : ℕ) (rows : List (Extent ObjectPlace)) : Type 0 where
  k : ℕ
  place : ObjectPlace
  at : place_at object_on rows k ≡ Some place
  level : place.level ≡ 0
  own : place.number ≡ number

module _ (number : ℕ) where
  its_own : (place : ObjectPlace) → is_in_object number place ≡ true → (place.level ≡ 0) × (place.number ≡ number)
  its_own place test = (grind (arith, nat_tests), grind (arith, nat_tests))

  some_live_by : (test : Bool) (row : Extent ObjectPlace) (rows : List (Extent ObjectPlace)) → IsShortest object_on (row ∷ rows)
      → is_in_object number row.place ≡ test → (0 < live_sectors number rows → HasLive number rows)
      → 0 < cond test row.sectors 0 + live_sectors number rows → HasLive number (row ∷ rows)
  some_live_by true row rows shortest test rest some = record {
    k = row.lba;
    place = object_on (row.lba - row.lba) row.place;
    at = at_inside object_on row rows row.lba (omega arith) (omega (arith, shortest.0));
    level = (its_own row.place test).0;
    own = (its_own row.place test).1;
  }
  some_live_by false row rows shortest test rest some =
      let has = rest (omega (arith, some)) in
      let past = row.lba + row.sectors in
      record {
        k = has.k;
        place = has.place;
        at =
            elim (cases_lt has.k past) [
              | inl low ↦ (
                  let none = none_before object_on rows past has.k shortest.2 (after_row object_on row rows shortest.1) low in
                  let there = has.at in
                  absurd cc)
              | inr high ↦ at_past object_on row rows has.k high ∙ has.at
            ];
        level = has.level;
        own = has.own;
      }

  -- a sector that is live in it
  some_live : (rows : List (Extent ObjectPlace)) → IsShortest object_on rows → 0 < live_sectors number rows
      → HasLive number rows
  some_live [] shortest some = absurd (omega (arith, some))
  some_live (row ∷ rows) shortest some =
      some_live_by (is_in_object number row.place) row rows shortest refl (some_live rows shortest.2)
      (omega (arith, some, sum_by-cons (sectors_in number) row rows))

-- For the proofs of callers: what a recovered list knows of the payload of an object with live sectors.
pub live_payload : (uuid : List ℕ) (volume : Expected) (objects : Objects) (base : ℕ) (queue : QueueState) → AreKnown uuid queue
    → KnowsObjects volume objects base queue → (number : ℕ)
    → IfSome (row_of number queue.maps.objects.rows) (λ (row : ObjectRow).
    0 < row.live → HasPayloadThere volume objects number row.payload)
live_payload uuid volume objects base queue known knows number =
    let list = queue.maps.objects.rows in
    let rows = queue.maps.settled.rows in
    so_some (λ (row : ObjectRow). 0 < row.live → HasPayloadThere volume objects number row.payload) (row_of number list)
    (λ row at live.
    let count = found_holds (λ (r : ObjectRow). r.live ≡ live_sectors r.number rows) number list row at known.counted.live
    ∙ ap (λ m. live_sectors m rows) (its_number number list row at) in
    let has = some_live number rows known.shortest (omega (arith, live, count)) in
    let own = subst (λ n. IfSome (row_of n list) (λ (r : ObjectRow). HasPayloadThere volume objects n r.payload)) has.own
    (knows.payloads has.k has.place has.at has.level) in
    some_so (λ (r : ObjectRow). HasPayloadThere volume objects number r.payload) (row_of number list) own row at)
