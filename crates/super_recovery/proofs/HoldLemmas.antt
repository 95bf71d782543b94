-- Which holds a store has, by the names that it lists.
use Rattle.std.proofs.Common.{◌≡◌, ℕ, ◌+◌, ◌^◌, ◌<◌, inl, inr, Bool, true, false, Option, Some, None, List, take, get_or, length}
use Rattle.std.proofs.Common.{refl, sym, ◌∙◌, subst, arith}
use Rattle.std.specs.Prelude.{IfSome, IsTrue, ◌↔◌}
use Rattle.std.specs.Option.{IsSome}
use Rattle.std.specs.List.{All, Contains}
use Rattle.std.specs.List.Sorted.{IsStrictlyIncreasing}
use Rattle.std.proofs.lemmas.Bool.{false≢true, cases_order}
use Rattle.std.proofs.lemmas.List.{length-take-le, get_or-take, get_or_default}
use Rattle.std.proofs.lemmas.List.Elements.{All-nil, All-more, All-contains, Contains-get_or}
use Rattle.std.proofs.lemmas.List.Kept.{AllPairs-from_increasing}
use Rattle.lsvd_names.specs.declared.name.ObjName.{ObjName}
use Rattle.lsvd_names.specs.Spelling.{IsUuid}
use Rattle.lsvd_names.specs.Names.{hold_name}
use Rattle.lsvd_objstore.specs.Objects.{Objects, found, Lists}
use Rattle.super_recovery.specs.Holds.{AreHoldsAmong, HasHold, AreHolds, HasBadHold, IsFirstBad}
use Rattle.super_recovery.proofs.Results.{told_so, told_both}

-- an element of ascending numbers that is below one is before it
is_before : (numbers : List ℕ) (index other : ℕ) → IsStrictlyIncreasing numbers → index < length numbers
    → other < get_or numbers index 0 → Contains numbers other → Contains (take index numbers) other
is_before numbers index other ascending inside below (k, within, at) =
    let order = AllPairs-from_increasing numbers ascending in
    let is : get_or numbers k 0 ≡ other = get_or_default numbers k 0 other within ∙ at in
    elim (cases_order k index) [
      | inl same ↦ let own : get_or numbers index 0 ≡ other = subst (λ n. get_or numbers n 0 ≡ other) same is in
          absurd (omega arith)
      | inr (inl before) ↦ (
        k,
        (let size = length-take-le index numbers (omega arith) in omega arith),
        get_or-take index numbers k other before ∙ at,
      )
      | inr (inr after) ↦ let above = order index k 0 after within in absurd (omega arith)
    ]

module _ (uuid : List ℕ) (names : List ObjName) (numbers : List ℕ) (is_uuid : IsUuid uuid)
    (among : AreHoldsAmong uuid names numbers) (objects : Objects) (lists : Lists uuid objects names) where
  is_there : (number : ℕ) → Contains numbers number → IsSome (found objects (hold_name uuid number))
  is_there number has = (lists.present (hold_name uuid number) ((among.same number).0 has)).2

  is_among : (number : ℕ) → number < 2 ^ 64 → IsSome (found objects (hold_name uuid number)) → Contains numbers number
  is_among number fits some =
      (among.same number).1
      (lists.complete (hold_name uuid number) (record { uuid = is_uuid; number = tt; fits = fits }) refl some)

  pub are_holds : All (λ number. HasHold uuid number objects) numbers → AreHolds uuid numbers objects
  are_holds each = record {
    ascending = among.ascending;
    same = λ number fits. (is_there number, is_among number fits);
    each = λ number has. All-contains (λ n. HasHold uuid n objects) numbers number each has;
  }

  pub has_bad_hold : (number : ℕ) → IsFirstBad uuid numbers number objects → HasBadHold uuid number objects
  has_bad_hold number first =
      let has = subst (Contains numbers) first.at (Contains-get_or numbers first.index 0 first.inside) in
      let fits = (lists.present (hold_name uuid number) ((among.same number).0 has)).0.fits in
      record {
        present = is_there number has;
        bad = first.bad;
        least = λ other below some.
            All-contains (λ n. HasHold uuid n objects) (take first.index numbers) other first.before
            (is_before numbers first.index other among.ascending first.inside (subst (λ n. other < n) (sym first.at) below)
            (is_among other (omega arith) some));
      }

-- ---- where a store tells what it holds

-- the store has the holds of these numbers, of the grammar
abbrev pub HasEach : (uuid : List ℕ) (numbers : List ℕ) → Objects → Type 0
HasEach uuid numbers objects = All (λ number. HasHold uuid number objects) numbers

pub told_begin : (told : Option Objects) (uuid : List ℕ) (numbers : List ℕ) → IfSome told (HasEach uuid (take 0 numbers))
told_begin None uuid numbers = tt
told_begin (Some objects) uuid numbers = All-nil (λ number. HasHold uuid number objects)

module _ (told : Option Objects) (uuid : List ℕ) (numbers : List ℕ) where
  module _ (index : ℕ) (inside : index < length numbers) (has : Bool)
      (tells : IfSome told (λ objects. IsTrue has ↔ HasHold uuid (get_or numbers index 0) objects))
      (before : IfSome told (HasEach uuid (take index numbers))) where
    pub told_more : has ≡ true → IfSome told (HasEach uuid (take (index + 1) numbers))
    told_more holds =
        told_both _ _ _ told
        (λ objects either each. All-more (λ number. HasHold uuid number objects) numbers index 0 inside each (either.0 holds))
        tells before

    pub told_first : has ≡ false → IfSome told (IsFirstBad uuid numbers (get_or numbers index 0))
    told_first fails =
        told_both _ _ _ told
        (λ objects either each. record {
          index = index;
          inside = inside;
          at = refl;
          before = each;
          bad = λ hold. absurd (false≢true (sym fails ∙ either.1 hold));
        }) tells before

  module _ (names : List ObjName) (is_uuid : IsUuid uuid) (among : AreHoldsAmong uuid names numbers) where
    pub told_bad : (number : ℕ) → IfSome told (IsFirstBad uuid numbers number)
        → IfSome told (λ objects. Lists uuid objects names → HasBadHold uuid number objects)
    told_bad number =
        told_so _ _ told (λ objects first lists. has_bad_hold uuid names numbers is_uuid among objects lists number first)

    pub told_holds : IfSome told (HasEach uuid numbers)
        → IfSome told (λ objects. Lists uuid objects names → AreHolds uuid numbers objects)
    told_holds = told_so _ _ told (λ objects each lists. are_holds uuid names numbers is_uuid among objects lists each)
