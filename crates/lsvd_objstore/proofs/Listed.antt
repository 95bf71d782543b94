-- The names between the first and the last that a volume's objects may have are those of its objects.
use Rattle.std.proofs.Common.{◌≡◌, sym, ap, refl, ℕ, ◌-◌, ◌^◌, ◌<◌, ◌≤◌, Bool, true, false, cond, not, ◌&&◌, List, [], ◌∷◌, Some}
use Rattle.std.proofs.Common.{None, arith}
use Rattle.std.specs.Prelude.{Option}
use Rattle.std.specs.Option.{IsSome}
use Rattle.std.specs.Ordering.{is_le, is_lt, is_gt, nat_cmp, ordering_then, ordering_reverse}
use Rattle.std.specs.Cmp.{eq_by_cmp_equiv}
use Rattle.std.specs.Cmp.Lexicographic.{slice_cmp}
use Rattle.std.specs.declared.cmp.Ordering.{Ordering}
use Rattle.std.specs.declared.cmp.Ordering.TheVariants.{Less, Equal, Greater}
use Rattle.std.specs.declared.ops.Bound.TheVariants.{Included}
use Rattle.std.specs.List.{filter}
use Rattle.std.specs.BTreeMap.{BTreeMap, IsOrdered, is_at}
use Rattle.std.specs.BTreeMap.Range.{range_contains, entries_between}
use Rattle.std.specs.Map.{keys_of}
use Rattle.std.proofs.lemmas.Bool.Decides.{nat_tests}
use Rattle.std.proofs.lemmas.Cmp.{nat_list_cmp_total}
use Rattle.std.proofs.lemmas.List.Kept.{IsStrictlySortedBy-filter}
use Rattle.std.proofs.lemmas.Map.Lookups.{exact_bytes}
use Rattle.std.proofs.lemmas.Map.Entries.{lookup-filter-keys}
use Rattle.std.proofs.lemmas.Map.Views.{Contains-keys_from_lookup, IsSome-lookup_from_Contains, tells_apart}
use Rattle.lsvd_names.specs.Spelling.{IsName}
use Rattle.lsvd_names.specs.declared.name.NameKind.{NameKind}
use Rattle.lsvd_names.specs.declared.name.NameKind.TheVariants.{Super, Epoch, Object, Hold}
use Rattle.lsvd_names.specs.declared.name.ObjName.{ObjName}
use Rattle.lsvd_objstore.specs.Objects.{Objects, found, AreNamesOf, Lists, name_cmp}
use Rattle.lsvd_objstore.specs.Memory.{HaveNames, first_name_of, last_name_of}
use Rattle.lsvd_objstore.proofs.NameOrder.{name_cmp_total, name_cmp_exact, kind_cmp}

self_reversed : (r : Ordering) → r ≡ ordering_reverse r → r ≡ Equal
self_reversed Less h = cc
self_reversed Equal h = refl
self_reversed Greater h = cc

-- the same bytes are equal in order
same_bytes : (xs ys : List ℕ) → ys ≡ xs → slice_cmp nat_cmp xs ys ≡ Equal
same_bytes xs ys e = rw e (self_reversed (slice_cmp nat_cmp xs xs) (nat_list_cmp_total.antisymm xs xs))

not_greater : (r : Ordering) → r ≡ Equal → is_gt (ordering_then r Less) ≡ false
not_greater r h = rw h

pub first_before_last : (uuid : List ℕ) → is_gt (name_cmp (first_name_of uuid) (last_name_of uuid)) ≡ false
first_before_last uuid = not_greater (slice_cmp nat_cmp uuid uuid) (same_bytes uuid uuid refl)

-- a name lies in the range of its volume
least_number : (n : ℕ) → is_le (nat_cmp 0 n) ≡ true
least_number n = grind (arith, nat_tests)

greatest_number : (m n : ℕ) → n ≤ m → not (is_lt (nat_cmp m n)) ≡ true
greatest_number m n h = grind (arith, nat_tests)

from_first : (kind : NameKind) (n : ℕ) → is_le (ordering_then (kind_cmp Super kind) (nat_cmp 0 n)) ≡ true
from_first Super n = least_number n
from_first Epoch n = refl
from_first Object n = refl
from_first Hold n = refl

to_last : (kind : NameKind) (m n : ℕ) → n ≤ m → not (is_lt (ordering_then (kind_cmp Hold kind) (nat_cmp m n))) ≡ true
to_last Super m n h = refl
to_last Epoch m n h = refl
to_last Object m n h = refl
to_last Hold m n h = greatest_number m n h

abbrev in_volume : List ℕ → ObjName → Bool
in_volume uuid name = range_contains name_cmp (Included (first_name_of uuid)) (Included (last_name_of uuid)) name

both : (p q : Bool) → p ≡ true → q ≡ true → (p && q) ≡ true
both p q a b = rw a b

at_equal : (r x y : Ordering) → r ≡ Equal → is_le x ≡ true → not (is_lt y) ≡ true
    → (is_le (ordering_then r x) && not (is_lt (ordering_then r y))) ≡ true
at_equal r x y e a b = rw e (both _ _ a b)

in_volume-from_uuid : (uuid : List ℕ) (name : ObjName) → name.uuid ≡ uuid → name.number < 2 ^ 64 → in_volume uuid name ≡ true
in_volume-from_uuid uuid name e fits =
    at_equal (slice_cmp nat_cmp uuid name.uuid) (ordering_then (kind_cmp Super name.kind) (nat_cmp 0 name.number))
    (ordering_then (kind_cmp Hold name.kind) (nat_cmp (2 ^ 64 - 1) name.number))
    (same_bytes uuid name.uuid e) (from_first name.kind name.number) (to_last name.kind (2 ^ 64 - 1) name.number (omega arith))

between_equal : (r x y : Ordering) → (is_le (ordering_then r x) && not (is_lt (ordering_then r y))) ≡ true → r ≡ Equal
between_equal Less x y h = cc
between_equal Equal x y h = refl
between_equal Greater x y h = cc

uuid_from_in_volume : (uuid : List ℕ) (name : ObjName) → in_volume uuid name ≡ true → name.uuid ≡ uuid
uuid_from_in_volume uuid name h =
    sym (exact_bytes uuid name.uuid (between_equal (slice_cmp nat_cmp uuid name.uuid)
    (ordering_then (kind_cmp Super name.kind) (nat_cmp 0 name.number))
    (ordering_then (kind_cmp Hold name.kind) (nat_cmp (2 ^ 64 - 1) name.number)) h))

-- a filter by the keys
keys_step : (b : Bool) (object : ObjName × List ℕ) (rest : Objects) (names : List ObjName)
    → keys_of rest ≡ names → keys_of (cond b (object ∷ rest) rest) ≡ cond b (object.0 ∷ names) names
keys_step true object rest names h = ap (λ ns. object.0 ∷ ns) h
keys_step false object rest names h = h

keys_of-filter : (p : ObjName → Bool) (objects : Objects) → keys_of (filter (λ object. p object.0) objects)
    ≡ filter p (keys_of objects)
keys_of-filter p [] = refl
keys_of-filter p (object ∷ rest) =
    keys_step (p object.0) object (filter (λ other. p other.0) rest) (filter p (keys_of rest)) (keys_of-filter p rest)

found-filter : (p : ObjName → Bool) (objects : Objects) (name : ObjName)
    → found (filter (λ object. p object.0) objects) name ≡ cond (p name) (found objects name) None
found-filter p objects name =
    lookup-filter-keys (is_at (name_cmp name)) p (p name) (λ k h. ap p (sym (tells_apart name_cmp_exact name k h))) objects

passes : (b : Bool) (o : Option (List ℕ)) → IsSome (cond b o None) → (b ≡ true) × IsSome o
passes true o h = (refl, h)
passes false o h = cc

-- what a store finds has a name, where each of its objects has one
named_at : (b : Bool) (name : ObjName) (object : ObjName × List ℕ) (found_later : Option (List ℕ))
    → (b ≡ true → name ≡ object.0) → IsName object.0 → (IsSome found_later → IsName name)
    → IsSome (cond b (Some object.1) found_later) → IsName name
named_at true name object found_later e is later h = rw (e refl) is
named_at false name object found_later e is later h = later h

named : (objects : Objects) → HaveNames objects → (name : ObjName) → IsSome (found objects name) → IsName name
named [] have name h = cc
named (object ∷ rest) have name h =
    named_at (is_at (name_cmp name) object.0) name object (found rest name) (tells_apart name_cmp_exact name object.0) have.0
    (named rest have.1 name) h

pub lists : (uuid : List ℕ) (map : BTreeMap ObjName (List ℕ)) → IsOrdered name_cmp map → HaveNames map.entries
    → Lists uuid map.entries (keys_of (entries_between name_cmp (Included (first_name_of uuid)) (Included (last_name_of uuid))
    map.entries))
lists uuid map ordered have = record {
  ascending = rw (keys_of-filter (in_volume uuid) map.entries)
      (IsStrictlySortedBy-filter name_cmp (in_volume uuid) (keys_of map.entries) ordered);
  present = λ name h.
      let some : IsSome (found (filter (λ object. in_volume uuid object.0) map.entries) name) =
      IsSome-lookup_from_Contains (eq_by_cmp_equiv name_cmp_total) name (filter (λ object. in_volume uuid object.0) map.entries)
      h in
      let both = passes (in_volume uuid name) (found map.entries name)
      (rw (found-filter (in_volume uuid) map.entries name) at some) in
      (named map.entries have name both.1, uuid_from_in_volume uuid name both.0, both.1);
  complete = λ name is e h.
      Contains-keys_from_lookup (tells_apart name_cmp_exact) name (filter (λ object. in_volume uuid object.0) map.entries)
      (rw (found-filter (in_volume uuid) map.entries name, in_volume-from_uuid uuid name e is.fits) h);
}

pub are_names : {uuid : List ℕ} {objects : Objects} {names : List ObjName} → Lists uuid objects names → AreNamesOf uuid names
are_names listed = record {
  ascending = listed.ascending;
  each = λ name h. let there = listed.present name h in
      (there.0, there.1);
}
