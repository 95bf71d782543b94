-- What sectors get from entries: places of data that they have, and their changes.
use Rattle.std.proofs.Common.{◌≡◌, ℕ, suc, ◌+◌, ◌-◌, ◌*◌, ◌/◌, ◌<◌, ◌≤◌, ◌⊎◌, inl, inr, Bool, true, false, cond, leb, ltb, Option}
use Rattle.std.proofs.Common.{Some, None, List, [], ◌∷◌, ◌++◌, length, refl, sym, ap, subst, ◌∙◌, arith, append_assoc}
use Rattle.std.proofs.Common.{length-append}
use Rattle.std.specs.Option.{option_or}
use Rattle.std.specs.Option.{option_map}
use Rattle.std.specs.List.{All}
use Rattle.std.proofs.lemmas.Bool.{and_parts, leb-true, ltb-true}
use Rattle.std.proofs.lemmas.Option.{cond_some}
use Rattle.std.proofs.lemmas.List.Elements.{All-head, All-tail}
use Rattle.lsvd_base.specs.declared.geometry.Geometry.{Geometry}
use Rattle.lsvd_base.specs.declared.entry.Entry.{Entry}
use Rattle.lsvd_base.specs.declared.entry.Entry.TheVariants.{Write, Zero}
use Rattle.lsvd_base.specs.Laws.{EndsBy}
use Rattle.extent_map.specs.Extents.{is_within}
use Rattle.object_stream.specs.declared.change.Change.{Change}
use Rattle.object_stream.specs.declared.change.Change.TheVariants.{Put}
use Rattle.object_stream.specs.Changes.{sector_of, entry_change, change_at}
use Rattle.batcher.specs.declared.place.BatchPlace.{BatchPlace}
use Rattle.batcher.specs.declared.place.BatchPlace.TheVariants.{Data, Zeros}
use Rattle.batcher.specs.Places.{extent_of, extent_place, place_by, entry_body, entry_body_at, change_of}

-- ---- which sectors a range has

pub within_parts : (lba sectors k : ℕ) → is_within lba sectors k ≡ true → (lba ≤ k) × (k < lba + sectors)
within_parts lba sectors k is =
    let parts = and_parts (leb lba k) (ltb k (lba + sectors)) is in
    (leb-true lba k parts.0, ltb-true k (lba + sectors) parts.1)

-- ---- entries in the midst of others

pub body_past : (front more : List Entry) (entry : Entry) (index : ℕ) → index ≡ length front
    → entry_body_at (front ++ (entry ∷ more)) index ≡ entry_body entry
unfolding entry_body_at
body_past [] more entry index is = ap (entry_body_at (entry ∷ more)) is
body_past (first ∷ front) more entry index is =
    ap (entry_body_at (first ∷ (front ++ (entry ∷ more)))) is ∙ body_past front more entry (length front) refl

-- a place of two parts of entries is one of the later or of the earlier
or_parts : (a b : Option BatchPlace) (place : BatchPlace) → option_or a b ≡ Some place → (a ≡ Some place) ⊎ (b ≡ Some place)
or_parts None b place is = inr is
or_parts (Some other) b place is = inl is

-- the data of an entry, as far as a place of it reaches
abbrev pub HasSector : List Entry → (index sector : ℕ) → Type 0
HasSector entries index sector = (index < length entries) × (512 * (sector + 1) ≤ length (entry_body_at entries index))

here_has : (front more : List Entry) (entry : Entry) (index k at sector : ℕ) → index ≡ length front
    → extent_place (extent_of index entry) k ≡ Some (Data at sector) → HasSector (front ++ (entry ∷ more)) at sector
here_has front more (Write lba body) index k at sector is gives =
    let parts = cond_some (is_within lba (length body / 512) k) (Data index (0 + (k - lba))) (Data at sector) gives in
    let range = within_parts lba (length body / 512) k parts.0 in
    let same : index ≡ at = cc in
    let from : 0 + (k - lba) ≡ sector = cc in
    let reads : entry_body_at (front ++ (Write lba body ∷ more)) at ≡ body =
    ap (entry_body_at (front ++ (Write lba body ∷ more))) (sym same) ∙ body_past front more (Write lba body) index is in (
      omega (arith, length-append front (Write lba body ∷ more), is, same),
      subst (λ b. 512 * (sector + 1) ≤ length b) (sym reads) (omega (arith, range.0, range.1, from)),
    )
here_has front more (Zero lba sectors) index k at sector is gives =
    let parts = cond_some (is_within lba sectors k) Zeros (Data at sector) gives in
    cc

pub place_has : (front entries more : List Entry) (index k at sector : ℕ) → index ≡ length front
    → place_by index entries k ≡ Some (Data at sector) → HasSector (front ++ (entries ++ more)) at sector
place_has front [] more index k at sector is gives = cc
place_has front (entry ∷ entries) more index k at sector is gives =
    elim (or_parts (place_by (suc index) entries k) (extent_place (extent_of index entry) k) (Data at sector) gives) [
      | inl later ↦
          subst (λ all. HasSector all at sector) (append_assoc front (entry ∷ []) (entries ++ more))
          (place_has (front ++ entry ∷ []) entries more (suc index) k at sector
          (omega (arith, is, length-append front (entry ∷ []))) later)
      | inr here ↦ here_has front (entries ++ more) entry index k at sector is here
    ]

-- ---- places are inside the volume

here_inside : (geometry : Geometry) (entry : Entry) (index k : ℕ) (place : BatchPlace) → EndsBy geometry.sectors entry
    → extent_place (extent_of index entry) k ≡ Some place → k < geometry.sectors
here_inside geometry (Write lba body) index k place ends gives =
    let parts = cond_some (is_within lba (length body / 512) k) (Data index (0 + (k - lba))) place gives in
    omega (arith, within_parts lba (length body / 512) k parts.0)
here_inside geometry (Zero lba sectors) index k place ends gives =
    let parts = cond_some (is_within lba sectors k) Zeros place gives in
    omega (arith, within_parts lba sectors k parts.0)

pub place_inside : (geometry : Geometry) (entries : List Entry) (index k : ℕ) (place : BatchPlace)
    → All (EndsBy geometry.sectors) entries
    → place_by index entries k ≡ Some place → k < geometry.sectors
place_inside geometry [] index k place ends gives = cc
place_inside geometry (entry ∷ entries) index k place ends gives =
    elim (or_parts (place_by (suc index) entries k) (extent_place (extent_of index entry) k) place gives) [
      | inl later ↦ place_inside geometry entries (suc index) k place (All-tail (EndsBy geometry.sectors) entry entries ends)
          later
      | inr here ↦ here_inside geometry entry index k place (All-head (EndsBy geometry.sectors) entry entries ends) here
    ]

-- ---- places make the changes of the entries

map_or : (f : BatchPlace → Change) (a b : Option BatchPlace)
    → option_map f (option_or a b) ≡ option_or (option_map f a) (option_map f b)
map_or f None b = refl
map_or f (Some place) b = refl

map_cond : {A B : Type 0} (f : A → B) (b : Bool) (x : A) → option_map f (cond b (Some x) None) ≡ cond b (Some (f x)) None
map_cond f true x = refl
map_cond f false x = refl

here_changes : (front more : List Entry) (entry : Entry) (index k : ℕ) → index ≡ length front
    → option_map (change_of (front ++ (entry ∷ more))) (extent_place (extent_of index entry) k) ≡ entry_change entry k
here_changes front more (Write lba body) index k is =
    let all = front ++ (Write lba body ∷ more) in
    let from : 0 + (k - lba) ≡ k - lba = omega arith in
    map_cond (change_of all) (is_within lba (length body / 512) k) (Data index (0 + (k - lba)))
    ∙ ap (λ n. cond (is_within lba (length body / 512) k) (Some (Put (sector_of n (entry_body_at all index)))) None) from
    ∙ ap (λ b. cond (is_within lba (length body / 512) k) (Some (Put (sector_of (k - lba) b))) None)
    (body_past front more (Write lba body) index is)
here_changes front more (Zero lba sectors) index k is =
    map_cond (change_of (front ++ (Zero lba sectors ∷ more))) (is_within lba sectors k) Zeros

pub places_change : (front entries more : List Entry) (index k : ℕ) → index ≡ length front
    → option_map (change_of (front ++ (entries ++ more))) (place_by index entries k) ≡ change_at entries k
places_change front [] more index k is = refl
places_change front (entry ∷ entries) more index k is =
    let all = front ++ (entry ∷ (entries ++ more)) in
    let later : option_map (change_of all) (place_by (suc index) entries k) ≡ change_at entries k =
    subst (λ list. option_map (change_of list) (place_by (suc index) entries k) ≡ change_at entries k)
    (append_assoc front (entry ∷ []) (entries ++ more))
    (places_change (front ++ entry ∷ []) entries more (suc index) k (omega (arith, is, length-append front (entry ∷ [])))) in
    map_or (change_of all) (place_by (suc index) entries k) (extent_place (extent_of index entry) k)
    ∙ ap (λ o. option_or o (option_map (change_of all) (extent_place (extent_of index entry) k))) later
    ∙ ap (option_or (change_at entries k)) (here_changes front (entries ++ more) entry index k is)
