-- The objects of ancestors that the rows of a checkpoint name, as the rows are given one by one.
use Rattle.std.proofs.Common.{◌≡◌, ℕ, ◌+◌, ◌-◌, ◌<◌, ◌≤◌, inl, inr, true, List, [], ◌∷◌, ◌++◌, refl, sym}
use Rattle.std.proofs.Common.{◌∙◌, ap, subst, arith}
use Rattle.std.specs.Prelude.{◌⊎◌}
use Rattle.std.specs.List.{All, Contains}
use Rattle.std.proofs.lemmas.Bool.Decides.{nat_tests}
use Rattle.std.proofs.lemmas.List.Elements.{All-nil, All-contains, All-weaker}
use Rattle.extent_map.specs.declared.extent.Extent.{Extent}
use Rattle.extent_map.specs.Extents.{is_within, IsShortest}
use Rattle.ckpt_format.specs.declared.place.StoredPlace.{StoredPlace}
use Rattle.ckpt_format.specs.Places.{stored_on}
use Rattle.object_recovery.specs.declared.inherited.Named.{Named}
use Rattle.object_recovery.specs.Inherited.{IsOfLevelUpTo, named_by, IsNoted, IsInNamed, ComesFrom, AreNamedBy}
use Rattle.object_recovery.proofs.EarlierLemmas.{place_split, place_kept, last_place}

-- no rows name none
pub none_named : AreNamedBy [] []
none_named = record {
  order = λ i j d low inside. absurd (omega (arith, inside));
  all = λ k place is level. absurd cc;
  by = All-nil (ComesFrom []);
}

-- what an object comes from is still there with more rows
from_before : (rows more : List (Extent StoredPlace)) (n : Named) → ComesFrom rows n → ComesFrom (rows ++ more) n
from_before rows more n from = record {
  k = from.k;
  place = from.place;
  row = place_kept rows more from.k from.place from.row;
  inherited = from.inherited;
  level = from.level;
  number = from.number;
  last = from.last;
}

-- a row of the volume's own names none
pub own_named : (rows : List (Extent StoredPlace)) (row : Extent StoredPlace) (named : List Named) → row.place.level ≡ 0
    → AreNamedBy rows named → AreNamedBy (rows ++ row ∷ []) named
own_named rows row named own is = record {
  order = is.order;
  all = λ k place at level.
      elim (place_split rows row k place at) [
        | inl before ↦ is.all k place before level
        | inr last ↦ absurd (omega (arith, level, ap (λ (p : StoredPlace). p.level) last.1, own))
      ];
  by = All-weaker (ComesFrom rows) (ComesFrom (rows ++ row ∷ [])) (λ n from. from_before rows (row ∷ []) n from) named is.by;
}

-- a row of an ancestor's names its object
module _ (rows : List (Extent StoredPlace)) (row : Extent StoredPlace) (old new : List Named)
    (shortest : IsShortest stored_on (rows ++ row ∷ [])) (some : 0 < row.sectors) (inherited : 1 ≤ row.place.level)
    (noted : IsNoted row old new) where
  in_before : (place : StoredPlace) → IsInNamed old place → IsInNamed new place
  in_before place is =
      let far = noted.kept is.0 is.1 in
      (far.0, far.1, far.2 ∙ is.2, far.3 ∙ is.3, omega (arith, far.4, is.4))

  in_last : (k : ℕ) (place : StoredPlace) → is_within row.lba row.sectors k ≡ true
      → stored_on (k - row.lba) row.place ≡ place → IsInNamed new place
  in_last k place within is =
      let far = noted.noted in
      let low : row.lba ≤ k = grind (arith, nat_tests) in
      let high : k < row.lba + row.sectors = grind (arith, nat_tests) in
      let at : row.place.place + (k - row.lba) ≡ place.place = ap (λ (p : StoredPlace). p.place) is in (
        far.0,
        far.1,
        far.2 ∙ ap (λ (p : StoredPlace). p.level) is,
        far.3 ∙ ap (λ (p : StoredPlace). p.number) is,
        omega (arith, far.4, low, high, at),
      )

  from_last : ComesFrom (rows ++ row ∷ []) (named_by row)
  from_last =
      let k = row.lba + (row.sectors - 1) in
      let on : k - row.lba ≡ row.sectors - 1 = omega arith in
      record {
        k = k;
        place = stored_on (k - row.lba) row.place;
        row = last_place rows row k shortest (omega arith) (omega (arith, some));
        inherited = inherited;
        level = refl;
        number = refl;
        last = omega (arith, some, on);
      }

  from_now : (n : Named) → ComesFrom rows n → ComesFrom (rows ++ row ∷ []) n
  from_now n from = from_before rows (row ∷ []) n from

  by_now : AreNamedBy rows old → (n : Named) → Contains old n ⊎ (n ≡ named_by row) → ComesFrom (rows ++ row ∷ []) n
  by_now is n (inl before) = from_now n (All-contains (ComesFrom rows) old n is.by before)
  by_now is n (inr same) = subst (ComesFrom (rows ++ row ∷ [])) (sym same) from_last

  pub more_named : AreNamedBy rows old → AreNamedBy (rows ++ row ∷ []) new
  more_named is = record {
    order = noted.order;
    all = λ k place at level.
        elim (place_split rows row k place at) [
          | inl before ↦ in_before place (is.all k place before level)
          | inr last ↦ in_last k place last.0 last.1
        ];
    by =
        All-weaker (λ (n : Named). Contains old n ⊎ (n ≡ named_by row)) (ComesFrom (rows ++ row ∷ [])) (by_now is) new
        noted.others;
  }

-- the levels of those that are named
level_of : (ancestors : ℕ) (row : Extent StoredPlace) (old : List Named) → 1 ≤ row.place.level → row.place.level ≤ ancestors
    → All (IsOfLevelUpTo ancestors) old → (n : Named) → Contains old n ⊎ (n ≡ named_by row) → IsOfLevelUpTo ancestors n
level_of ancestors row old from to all n (inl before) = All-contains (IsOfLevelUpTo ancestors) old n all before
level_of ancestors row old from to all n (inr same) = subst (IsOfLevelUpTo ancestors) (sym same) (from, to)

pub levels_more : (ancestors : ℕ) (row : Extent StoredPlace) (old new : List Named) → 1 ≤ row.place.level
    → row.place.level ≤ ancestors
    → IsNoted row old new → All (IsOfLevelUpTo ancestors) old → All (IsOfLevelUpTo ancestors) new
levels_more ancestors row old new from to noted all =
    All-weaker (λ (n : Named). Contains old n ⊎ (n ≡ named_by row)) (IsOfLevelUpTo ancestors)
    (level_of ancestors row old from to all) new noted.others
