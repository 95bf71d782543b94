-- The numbers of the objects that rows name.
use Rattle.std.proofs.Common.{◌≡◌, ℕ, zero, suc, ◌+◌, ◌-◌, ◌⊎◌, inl, inr, Bool, true, false, cond, Option, Some}
use Rattle.std.proofs.Common.{None, List, [], ◌∷◌, refl, sym, ◌∙◌, ap, subst, arith}
use Rattle.std.specs.Prelude.{◌↔◌, nat_eq}
use Rattle.std.specs.List.{AllByRecursion, Contains, cons_option}
use Rattle.std.specs.List.Sorted.{IsStrictlyIncreasing}
use Rattle.std.proofs.lemmas.Bool.{cases_lt}
use Rattle.std.proofs.lemmas.Bool.Decides.{nat_tests}
use Rattle.extent_map.specs.declared.extent.Extent.{Extent}
use Rattle.extent_map.specs.Extents.{place_at, place_in_range}
use Rattle.extent_map.proofs.Places.{at_inside, at_below, at_past}
use Rattle.volume_maps.specs.declared.place.ObjectPlace.{ObjectPlace}
use Rattle.volume_maps.specs.declared.place.VolumePlace.{VolumePlace}
use Rattle.volume_maps.specs.declared.place.VolumePlace.TheVariants.{Log, Object}
use Rattle.volume_maps.specs.Places.{object_on, volume_on}
use Rattle.volume_maps.specs.Maps.{MapsState, volume_place_at}
use Rattle.read_plan.specs.Rows.{own_number, named_object, named_objects}
use Rattle.read_plan.specs.Look.{HasPlaceIn, AreObjectsIn, AreRowsIn}
use Rattle.read_plan.proofs.RowLemmas.{HasSectors, rows_have_sectors, placed_in, in_place}

-- ---- numbers after one

after_first : (first number : ℕ) (rest : List ℕ) → Contains (first ∷ rest) number → (first ≡ number) ⊎ Contains rest number
after_first first number rest (zero, less, is) = inl is
after_first first number rest (suc k, less, is) = inr (k, omega arith, is)

is_first : (first number : ℕ) (rest : List ℕ) → first ≡ number → Contains (first ∷ rest) number
is_first first number rest is = (zero, omega arith, is)

is_later : (first number : ℕ) (rest : List ℕ) → Contains rest number → Contains (first ∷ rest) number
is_later first number rest (k, less, is) = (suc k, omega arith, is)

-- ---- a number that rows have

-- some sector is in the volume's own object of this number
record IsPlaced (places : ℕ → Option VolumePlace) (number : ℕ) : Type 0 where
  pub k : ℕ
  pub place : ObjectPlace
  pub is : places k ≡ Some (Object place)
  pub own : place.level ≡ 0
  pub has_number : place.number ≡ number

own_by_test : (place : ObjectPlace) (own : Bool) → nat_eq place.level 0 ≡ own
    → ((place.level ≡ 0) × (own_number place ≡ Some place.number)) ⊎ (own_number place ≡ None)
own_by_test place true is = inl (grind (arith, nat_tests), ap (λ b. cond b (Some place.number) None) is)
own_by_test place false is = inr (ap (λ b. cond b (Some place.number) None) is)

own_or_none : (place : ObjectPlace) → ((place.level ≡ 0) × (own_number place ≡ Some place.number)) ⊎ (own_number place ≡ None)
own_or_none place = own_by_test place (nat_eq place.level 0) refl

from_row : (places : ℕ → Option VolumePlace) (lba number : ℕ) (place : VolumePlace) (rest : List ℕ)
    → places lba ≡ Some (volume_on 0 place)
    → (Contains rest number → IsPlaced places number) → Contains (cons_option (named_object place) rest) number
    → IsPlaced places number
from_row places lba number (Log place) rest is later has = later has
from_row places lba number (Object place) rest is later has =
    elim (own_or_none place) [
      | inl own ↦ elim (after_first place.number number rest
          (subst (λ found. Contains (cons_option found rest) number) own.1 has)) [
            | inl here ↦ record { k = lba; place = object_on 0 place; is = is; own = own.0; has_number = here }
            | inr there ↦ later there
          ]
      | inr other ↦ later (subst (λ found. Contains (cons_option found rest) number) other has)
    ]

from_rows : (places : ℕ → Option VolumePlace) (number : ℕ) (rows : List (Extent VolumePlace))
    → AllByRecursion (HasSectors places) rows
    → Contains (named_objects rows) number → IsPlaced places number
from_rows places number [] has (k, less, is) = absurd (omega arith)
from_rows places number (row ∷ rows) has there =
    let some = has.0.some in
    let zero' : row.lba - row.lba ≡ 0 = omega arith in
    from_row places row.lba number row.place (named_objects rows)
    (has.0.each row.lba (omega arith) (omega (arith, some)) ∙ ap (λ n. Some (volume_on n row.place)) zero')
    (from_rows places number rows has.1) there

-- ---- a number that a sector has

to_row : (j : ℕ) (place : VolumePlace) (of : ObjectPlace) (rest : List ℕ)
    → ◌≡◌ {A = Option VolumePlace} (Some (volume_on j place)) (Some (Object of)) → of.level ≡ 0
    → Contains (cons_option (named_object place) rest) of.number
to_row j (Log place) of rest is own = absurd cc
to_row j (Object place) of rest is own =
    let one : object_on j place ≡ of = cc in
    let level : place.level ≡ 0 = ap (λ (p : ObjectPlace). p.level) one ∙ own in
    let test : nat_eq place.level 0 ≡ true = grind (arith, nat_tests) in
    subst (λ found. Contains (cons_option found rest) of.number) (sym (ap (λ b. cond b (Some place.number) None) test))
    (is_first place.number of.number rest (ap (λ (p : ObjectPlace). p.number) one))

later_by : (found : Option ℕ) (number : ℕ) (rest : List ℕ) → Contains rest number → Contains (cons_option found rest) number
later_by None number rest has = has
later_by (Some first) number rest has = is_later first number rest has

to_later : (place : VolumePlace) (number : ℕ) (rest : List ℕ) → Contains rest number
    → Contains (cons_option (named_object place) rest) number
to_later (Log place) number rest has = has
to_later (Object place) number rest has = later_by (own_number place) number rest has

to_rows : (k : ℕ) (of : ObjectPlace) (rows : List (Extent VolumePlace)) → of.level ≡ 0
    → place_at volume_on rows k ≡ Some (Object of) → Contains (named_objects rows) of.number
to_rows k of [] own is = absurd cc
to_rows k of (row ∷ rows) own is =
    elim (cases_lt k row.lba) [
      | inl below ↦ to_later row.place of.number (named_objects rows)
          (to_rows k of rows own (sym (at_below volume_on row rows k below) ∙ is))
      | inr from ↦ elim (cases_lt k (row.lba + row.sectors)) [
        | inl to ↦ to_row (k - row.lba) row.place of (named_objects rows) (sym (at_inside volume_on row rows k from to) ∙ is) own
        | inr past ↦ to_later row.place of.number (named_objects rows)
            (to_rows k of rows own (sym (at_past volume_on row rows k past) ∙ is))
      ]
    ]

-- ---- the numbers of a range

has_place : (lba sectors : ℕ) (maps : MapsState) (rows : List (Extent VolumePlace)) (number : ℕ) → AreRowsIn lba sectors maps rows
    → Contains (named_objects rows) number → HasPlaceIn lba sectors maps number
has_place lba sectors maps rows number are has =
    let found = from_rows (place_in_range lba sectors (volume_place_at maps)) number rows
    (rows_have_sectors lba sectors maps rows are) has in
    let placed = placed_in lba sectors found.k (volume_place_at maps) (Object found.place) found.is in
    record {
      k = found.k;
      place = found.place;
      from = placed.from;
      to = placed.to;
      is = placed.is;
      own = found.own;
      has_number = found.has_number;
    }

has_number : (lba sectors : ℕ) (maps : MapsState) (rows : List (Extent VolumePlace)) (number : ℕ)
    → AreRowsIn lba sectors maps rows
    → HasPlaceIn lba sectors maps number → Contains (named_objects rows) number
has_number lba sectors maps rows number are has =
    subst (Contains (named_objects rows)) has.has_number
    (to_rows has.k has.place rows has.own
    (are.places has.k ∙ in_place lba sectors has.k (volume_place_at maps) has.from has.to ∙ has.is))

pub objects_in : (lba sectors : ℕ) (maps : MapsState) (rows : List (Extent VolumePlace)) (numbers : List ℕ)
    → AreRowsIn lba sectors maps rows
    → IsStrictlyIncreasing numbers → ((number : ℕ) → Contains numbers number ↔ Contains (named_objects rows) number)
    → AreObjectsIn lba sectors maps numbers
objects_in lba sectors maps rows numbers are ascending same = record {
  ascending = ascending;
  each =
      λ number. (
        λ has. has_place lba sectors maps rows number are ((same number).0 has),
        λ has. (same number).1
            (has_number lba sectors maps rows number are has),
      );
}
