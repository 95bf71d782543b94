-- An object of an ancestor, found by its level and its number.
use Rattle.std.proofs.Common.{◌≡◌, ℕ, zero, suc, ◌<◌, ◌≤◌, ◌==◌, ◌&&◌, Bool, true, false, Some, None, List, [], ◌∷◌, length}
use Rattle.std.proofs.Common.{get_or}
use Rattle.std.proofs.Common.{refl, sym, ◌∙◌, ap, subst, arith, inl, inr}
use Rattle.std.specs.Prelude.{Result, Ok, Err, MatchResult, find}
use Rattle.std.specs.List.{AllByRecursion}
use Rattle.std.specs.List.Sorted.{IsSearchInRange, IsBinarySearchResult, IsNonDecreasingBy}
use Rattle.std.specs.declared.cmp.Ordering.{Ordering}
use Rattle.std.specs.declared.cmp.Ordering.TheVariants.{Less, Equal, Greater}
use Rattle.std.specs.Ordering.{nat_cmp, ordering_index, ordering_then}
use Rattle.std.proofs.lemmas.Cmp.{ranked}
use Rattle.std.specs.Cmp.{nat_cmp_is}
use Rattle.std.proofs.lemmas.List.Elements.{recursion_from_All}
use Rattle.std.proofs.lemmas.Bool.{cases_lt}
use Rattle.std.proofs.lemmas.Bool.Decides.{nat_tests}
use Rattle.object_stream.specs.declared.owner.Owner.{Owner}
use Rattle.object_uploads.specs.State.{InheritedObject}
use Rattle.object_uploads.specs.Queue.{is_of_owner}
use Rattle.object_uploads.specs.Order.{IsBefore, AreAscending}

-- how an object of an ancestor compares with a level and a number
abbrev pub ranks : Owner → InheritedObject → Ordering
ranks owner object = ordering_then (nat_cmp object.level owner.level) (nat_cmp object.number owner.number)

-- ---- which object is that of an owner

both_false : (level number : Bool) → number ≡ false → level && number ≡ false
both_false true number other = other
both_false false number other = refl

is_it : (owner : Owner) (object : InheritedObject) → object.level ≡ owner.level → object.number ≡ owner.number
    → is_of_owner owner object ≡ true
is_it owner object level number =
    let same_level : (object.level == owner.level) ≡ true = grind (arith, nat_tests) in
    let same_number : (object.number == owner.number) ≡ true = grind (arith, nat_tests) in
    rw (same_level, same_number) refl

other_level : (owner : Owner) (object : InheritedObject) → (object.level ≡ owner.level → ⊥) → is_of_owner owner object ≡ false
other_level owner object apart =
    let differ : (object.level == owner.level) ≡ false = grind (arith, nat_tests) in
    rw differ refl

other_number : (owner : Owner) (object : InheritedObject) → (object.number ≡ owner.number → ⊥)
    → is_of_owner owner object ≡ false
other_number owner object apart =
    both_false (object.level == owner.level) (object.number == owner.number) (grind (arith, nat_tests))

-- one before a level and a number is not theirs
before_it : (owner : Owner) (object : InheritedObject) → IsBefore object owner.level owner.number
    → is_of_owner owner object ≡ false
before_it owner object (inl low) = other_level owner object (λ same. absurd (omega (arith, low, same)))
before_it owner object (inr low) = other_number owner object (λ same. absurd (omega (arith, low.1, same)))

-- ---- ranks

equal_by : (level number : Ordering) → ordering_then level number ≡ Equal → (level ≡ Equal) × (number ≡ Equal)
equal_by Less number is = absurd cc
equal_by Equal number is = (refl, is)
equal_by Greater number is = absurd cc

-- one that ranks equal is theirs, and no other is
ranks_equal : (owner : Owner) (object : InheritedObject) → ranks owner object ≡ Equal
    → (object.level ≡ owner.level) × (object.number ≡ owner.number)
ranks_equal owner object is =
    let both = equal_by (nat_cmp object.level owner.level) (nat_cmp object.number owner.number) is in
    (ranked object.level owner.level Equal (sym both.0), ranked object.number owner.number Equal (sym both.1))

apart_by : (test : Bool) (owner : Owner) (object : InheritedObject) → is_of_owner owner object ≡ test
    → (ranks owner object ≡ Equal → ⊥) → test ≡ false
apart_by true owner object is apart =
    let level : object.level ≡ owner.level = grind (arith, nat_tests) in
    let number : object.number ≡ owner.number = grind (arith, nat_tests) in
    let same_level : nat_cmp object.level owner.level ≡ Equal = sym (nat_cmp_is object.level owner.level Equal level) in
    let same_number : nat_cmp object.number owner.number ≡ Equal = sym (nat_cmp_is object.number owner.number Equal number) in
    absurd (apart (ap (λ o. ordering_then o (nat_cmp object.number owner.number)) same_level ∙ same_number))
apart_by false owner object is apart = refl

ranks_apart : (owner : Owner) (object : InheritedObject) → (ranks owner object ≡ Equal → ⊥) → is_of_owner owner object ≡ false
ranks_apart owner object apart = apart_by (is_of_owner owner object) owner object refl apart

-- one that comes later ranks no lower
ranks_rise : (owner : Owner) (earlier later : InheritedObject) → IsBefore earlier later.level later.number
    → ordering_index (ranks owner earlier) ≤ ordering_index (ranks owner later)
ranks_rise owner earlier later (inl low) = grind (arith, nat_tests)
ranks_rise owner earlier later (inr low) =
    let level : earlier.level ≡ later.level = low.0 in
    let number : earlier.number < later.number = low.1 in
    grind (arith, nat_tests)

-- ---- the search

rest_ascends : (first : InheritedObject) (rest : List InheritedObject) → AreAscending (first ∷ rest) → AreAscending rest
rest_ascends first rest order i j d low high = order (suc i) (suc j) d (omega arith) (omega arith)

found_at : (owner : Owner) (list : List InheritedObject) (i : ℕ) (d : InheritedObject) → AreAscending list → i < length list
    → (get_or list i d).level ≡ owner.level → (get_or list i d).number ≡ owner.number
    → find (is_of_owner owner) list ≡ Some (get_or list i d)
found_at owner [] i d order inside level number = absurd (omega arith)
found_at owner (first ∷ rest) zero d order inside level number = rw (is_it owner first level number) refl
found_at owner (first ∷ rest) (suc i) d order inside level number =
    let at = get_or rest i d in
    let here : IsBefore first at.level at.number = order 0 (suc i) d (omega arith) inside in
    let before : IsBefore first owner.level owner.number =
    subst (λ n. IsBefore first owner.level n) number (subst (λ l. IsBefore first l at.number) level here) in
    rw (before_it owner first before)
    (found_at owner rest i d (rest_ascends first rest order) (omega arith) level number)

none_found : (owner : Owner) (list : List InheritedObject)
    → AllByRecursion (λ (o : InheritedObject). is_of_owner owner o ≡ false) list → find (is_of_owner owner) list ≡ None
none_found owner [] others = refl
none_found owner (first ∷ rest) others = rw (others.0) (none_found owner rest others.1)

-- a search by level and number ends at the object, or finds that there is none
module _ (owner : Owner) (list : List InheritedObject) (order : AreAscending list) where
  all_rise : IsNonDecreasingBy (λ (o : InheritedObject). ordering_index (ranks owner o)) list
  all_rise i j d le inside = elim (cases_lt i j) [
    | inl low ↦ ranks_rise owner (get_or list i d) (get_or list j d) (order i j d low inside)
    | inr high ↦ let same : i ≡ j = omega arith in rw same (omega arith)
  ]

  pub searched : (found : Result ℕ ℕ) → IsSearchInRange found (length list)
      → IsBinarySearchResult (ranks owner) list found
      → MatchResult found (λ at. (d : InheritedObject) → find (is_of_owner owner) list ≡ Some (get_or list at d))
      (λ at. find (is_of_owner owner) list ≡ None)
  searched (Ok at) within equal = λ d.
      let same = ranks_equal owner (get_or list at d) (equal d) in
      found_at owner list at d order within same.0 same.1
  searched (Err at) within parted =
      none_found owner list (recursion_from_All (λ (o : InheritedObject). is_of_owner owner o ≡ false) list
      (λ k d less. ranks_apart owner (get_or list k d) (λ same. elim (cases_lt k at) [
        | inl low ↦ (let lower = (parted all_rise).0 k d (omega arith) low in absurd cc)
        | inr high ↦ (let higher = (parted all_rise).1 k d high less in absurd cc)
      ])))

-- what the search found is the object that is lent
pub lent_is : (owner : Owner) (at : ℕ) (list slice : List InheritedObject) (lent : InheritedObject) → slice ≡ list
    → lent ≡ get_or list at lent → find (is_of_owner owner) slice ≡ Some (get_or slice at lent)
    → Some lent ≡ find (is_of_owner owner) list
lent_is owner at list slice lent same is found =
    ap (λ (o : InheritedObject). Some o) is
    ∙ (ap (λ (l : List InheritedObject). Some (get_or l at lent)) (sym same)
    ∙ (sym found ∙ ap (λ l. find (is_of_owner owner) l) same))
