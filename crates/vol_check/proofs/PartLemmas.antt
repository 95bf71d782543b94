-- Lists of the objects that are absent among others.
use Rattle.std.proofs.Common.{◌≡◌, ℕ, zero, suc, ◌+◌, ◌<◌, ◌≤◌, inl, inr, Bool, List, [], ◌∷◌, ◌++◌}
use Rattle.std.proofs.Common.{length, take, get_or, sym, ◌∙◌, subst, arith}
use Rattle.std.specs.Prelude.{◌⊎◌, ◌↔◌, IsTrue}
use Rattle.std.specs.List.{AllPairs, Contains}
use Rattle.std.proofs.lemmas.List.{take_more, take_all, length-take-le, get_or-take, get_or_default}
use Rattle.std.proofs.lemmas.List.Elements.{Contains-append_left, Contains-push, Contains-push_cases, Contains-get_or}
use Rattle.std.proofs.lemmas.List.Quantifiers.{all_pairs_push}
use Rattle.clone_chain.specs.declared.ancestor.Ancestor.{Ancestor}
use Rattle.lsvd_objstore.specs.Objects.{Objects}
use Rattle.vol_check.specs.declared.report.ObjectOfLevel.{ObjectOfLevel}
use Rattle.vol_check.specs.Report.{ComesBefore}
use Rattle.vol_check.specs.Steps.{IsAway, IsAwayAt, IsPartOf}

-- of the first of some objects, up to an index
abbrev pub IsPartTo : (items : List ObjectOfLevel) (Such : ObjectOfLevel → Type 0) (index : ℕ) → List ObjectOfLevel → Type 0
IsPartTo items Such index list = IsPartOf (Contains (take index items)) Such list

module _ (items : List ObjectOfLevel) (ascending : AllPairs ComesBefore items) (Such : ObjectOfLevel → Type 0) where
  pub part_begun : IsPartTo items Such 0 []
  part_begun = record {
    ascending = λ i j d low within. absurd (omega (arith, within));
    same = λ n. (
      λ has. absurd (omega (arith, has.1)),
      λ such. absurd (omega (arith, such.0.1, length-take-le 0 items (omega arith))),
    );
  }

  module _ (index : ℕ) (inside : index < length items) (list : List ObjectOfLevel) (d : ObjectOfLevel)
      (before : IsPartTo items Such index list) where
    abbrev next : ObjectOfLevel
    next = get_or items index d

    split : (n : ObjectOfLevel) → Contains (take (index + 1) items) n → Contains (take index items) n ⊎ (next ≡ n)
    split n has =
        Contains-push_cases (take index items) next n
        (subst (λ l. Contains l n) (take_more items index d inside) has)

    later : (n : ObjectOfLevel) → Contains (take index items) n → Contains (take (index + 1) items) n
    later n has = subst (λ l. Contains l n) (sym (take_more items index d inside))
        (Contains-append_left (take index items) (next ∷ []) n has)

    now : Contains (take (index + 1) items) next
    now = subst (λ l. Contains l next) (sym (take_more items index d inside)) (Contains-push (take index items) next)

    pub part_passed : (Such next → ⊥) → IsPartTo items Such (index + 1) list
    part_passed away = record {
      ascending = before.ascending;
      same = λ n. (
        λ has. let is = (before.same n).0 has in (later n is.0, is.1),
        λ such. elim (split n such.0) [
          | inl first ↦ (before.same n).1 (first, such.1)
          | inr same ↦ absurd (away (subst Such (sym same) such.1))
        ],
      );
    }

    below : (k : ℕ) (e : ObjectOfLevel) → k < length list → ComesBefore (get_or list k e) next
    below k e within =
        let value = get_or list k e in
        let from = ((before.same value).0 (Contains-get_or list k e within)).0 in
        let j = from.0 in
        let size = length-take-le index items (omega (arith, inside)) in
        let first : j < index = omega (arith, from.1, size) in
        let at : get_or items j value ≡ value = sym (get_or-take index items j value first) ∙ from.2 in
        let same : get_or items j d ≡ get_or items j value = get_or_default items j d value (omega (arith, first, inside)) in
        subst (λ n. ComesBefore n next) (same ∙ at) (ascending j index d first inside)

    pub part_more : Such next → IsPartTo items Such (index + 1) (list ++ next ∷ [])
    part_more such = record {
      ascending = all_pairs_push ComesBefore list next before.ascending below;
      same = λ n. (
        λ has. elim (Contains-push_cases list next n has) [
          | inl first ↦ let is = (before.same n).0 first in (later n is.0, is.1)
          | inr same ↦ (subst (Contains (take (index + 1) items)) same now, subst Such same such)
        ],
        λ such. elim (split n such.0) [
          | inl first ↦ Contains-append_left list (next ∷ []) n ((before.same n).1 (first, such.1))
          | inr same ↦ subst (Contains (list ++ next ∷ [])) same (Contains-push list next)
        ],
      );
    }

  pub part_all : (index : ℕ) (list : List ObjectOfLevel) → length items ≤ index → IsPartTo items Such index list
      → IsPartOf (Contains items) Such list
  part_all index list past is = subst (λ l. IsPartOf (Contains l) Such list) (take_all index items past) is

-- the same part, said otherwise
pub part_as : (Among Others Such Those : ObjectOfLevel → Type 0) (list : List ObjectOfLevel)
    → ((n : ObjectOfLevel) → Among n ↔ Others n) → ((n : ObjectOfLevel) → Such n ↔ Those n) → IsPartOf Among Such list
    → IsPartOf Others Those list
part_as Among Others Such Those list among such is = record {
  ascending = is.ascending;
  same = λ n. (
    λ has. let both = (is.same n).0 has in ((among n).0 both.0, (such n).0 both.1),
    λ both. (is.same n).1 ((among n).1 both.0, (such n).1 both.1),
  );
}

-- what is away is so too where the same numbers are gone
pub away_as : (Gone Away : ℕ → Type 0) (objects : Objects) (chain : List Ancestor) → ((n : ℕ) → Gone n ↔ Away n)
    → (object : ObjectOfLevel) → IsAway Gone objects chain object ↔ IsAway Away objects chain object
away_as Gone Away objects chain same object = at object.level where
  at : (level : ℕ) → IsAwayAt Gone objects chain level object.number ↔ IsAwayAt Away objects chain level object.number
  at zero = same object.number
  at (suc place) = (λ is. is, λ is. is)

-- a test says whether an object is away
abbrev pub SaysAway : (is : Bool) → (Gone : ℕ → Type 0) → List Ancestor → ObjectOfLevel → Objects → Type 0
SaysAway is Gone chain object objects = IsTrue is ↔ IsAway Gone objects chain object
