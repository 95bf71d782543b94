-- The objects that the rows of a checkpoint name, row by row.
use Rattle.std.proofs.Common.{◌≡◌, ℕ, ◌<◌, inl, inr, Option, Some, None, List, [], ◌∷◌, ◌++◌, sym, ◌∙◌, ap, arith, refl}
use Rattle.std.specs.Prelude.{◌⊎◌, ◌↔◌, option_map}
use Rattle.std.specs.BTreeSet.{BTreeSet}
use Rattle.extent_map.specs.declared.extent.Extent.{Extent}
use Rattle.extent_map.specs.Extents.{place_at, IsShortest}
use Rattle.ckpt_format.specs.declared.place.StoredPlace.{StoredPlace}
use Rattle.ckpt_format.specs.Places.{stored_on}
use Rattle.object_stream.specs.declared.owner.Owner.{Owner}
use Rattle.stopped_volume.specs.Opening.{stored_owner, owned_by}
use Rattle.object_recovery.proofs.EarlierLemmas.{place_split, place_kept, last_place}
use Rattle.vol_check.specs.declared.report.ObjectOfLevel.{ObjectOfLevel}
use Rattle.vol_check.specs.Report.{owner_at}
use Rattle.vol_check.specs.Steps.{GainsJust, MapsObject, object_of}
use Rattle.vol_check.proofs.SetLemmas.{gained_none, gained_both, same_object}

-- a place stays where more rows come
still_at : (place more : Option StoredPlace) (owner : Owner) → ((p : StoredPlace) → place ≡ Some p → more ≡ Some p)
    → option_map stored_owner place ≡ Some owner → option_map stored_owner more ≡ Some owner
still_at None more owner keeps is = absurd cc
still_at (Some p) more owner keeps is = ap (λ o. option_map stored_owner o) (keeps p refl) ∙ is

-- the owner of a place is that of its object
some_owner : (place : StoredPlace) (object : ObjectOfLevel)
    → Some (stored_owner place) ≡ Some (owner_at object.level object.number) → object ≡ object_of place
some_owner place object is =
    let own : stored_owner place ≡ owner_at object.level object.number = cc in
    same_object object place.level place.number (sym (ap (λ (o : Owner). o.level) own)) (sym (ap (λ (o : Owner). o.number) own))

module _ (rows : List (Extent StoredPlace)) (row : Extent StoredPlace) (shortest : IsShortest stored_on (rows ++ row ∷ []))
    (some : 0 < row.sectors) (n : ObjectOfLevel) where
  abbrev all : List (Extent StoredPlace)
  all = rows ++ row ∷ []

  abbrev owner : Owner
  owner = owner_at n.level n.number

  named_at : (k : ℕ) (place : Option StoredPlace) → place_at stored_on all k ≡ place → option_map stored_owner place ≡ Some owner
      → MapsObject (owned_by rows) n ⊎ (n ≡ object_of row.place)
  named_at k None at is = absurd cc
  named_at k (Some place) at is =
      elim (place_split rows row k place at) [
        | inl first ↦ inl (k, ap (λ o. option_map stored_owner o) first ∙ is)
        | inr own ↦ inr (some_owner row.place n (ap (λ (p : StoredPlace). Some (stored_owner p)) own.1 ∙ is))
      ]

  named_of : MapsObject (owned_by rows) n ⊎ (n ≡ object_of row.place) → MapsObject (owned_by all) n
  named_of (inl first) = (
    first.0,
    still_at (place_at stored_on rows first.0) (place_at stored_on all first.0) owner
        (λ p at. place_kept rows (row ∷ []) first.0 p at) first.1,
  )
  named_of (inr own) = (
    row.lba,
    ap (λ o. option_map stored_owner o) (last_place rows row row.lba shortest (omega arith) (omega (arith, some)))
        ∙ ap (λ (o : ObjectOfLevel). Some (owner_at o.level o.number)) (sym own),
  )

  split : MapsObject (owned_by all) n ↔ (MapsObject (owned_by rows) n ⊎ (n ≡ object_of row.place))
  split = (λ mapped. named_at mapped.0 (place_at stored_on all mapped.0) refl mapped.1, named_of)

-- no row names any
pub no_rows : (set : BTreeSet ObjectOfLevel) → GainsJust (MapsObject (owned_by [])) set set
no_rows set = gained_none set (MapsObject (owned_by [])) (λ n mapped. absurd (let is = mapped.1 in cc))

-- a row more
pub row_more : (rows : List (Extent StoredPlace)) (row : Extent StoredPlace) (old middle new : BTreeSet ObjectOfLevel)
    → IsShortest stored_on (rows ++ row ∷ []) → 0 < row.sectors → GainsJust (MapsObject (owned_by rows)) old middle
    → GainsJust (λ n. n ≡ object_of row.place) middle new
    → GainsJust (MapsObject (owned_by (rows ++ row ∷ []))) old new
row_more rows row old middle new shortest some before last =
    gained_both (MapsObject (owned_by rows)) (λ n. n ≡ object_of row.place) (MapsObject (owned_by (rows ++ row ∷ []))) old
    middle new (split rows row shortest some) before last
