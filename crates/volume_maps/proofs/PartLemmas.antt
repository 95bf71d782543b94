-- The parts of the objects' map that a plan of a copy takes: those of a range, those of an object, and the first sectors of some.
use Rattle.std.proofs.Common.{◌≡◌, ℕ, ◌+◌, ◌-◌, ◌<◌, ◌≤◌, inl, inr, cond, Bool, true, false, ◌||◌, Option, Some, None, List, []}
use Rattle.std.proofs.Common.{◌∷◌, ◌++◌, refl, ◌∙◌, ap, arith, min}
use Rattle.std.specs.Option.{option_or}
use Rattle.std.proofs.lemmas.Bool.{cases_lt}
use Rattle.std.proofs.lemmas.List.Sums.{sum_by-cons}
use Rattle.extent_map.specs.declared.extent.Extent.{Extent}
use Rattle.extent_map.specs.Extents.{is_within, place_at, place_after_set, IsShortest}
use Rattle.extent_map.specs.Laws.{StartsFrom}
use Rattle.extent_map.proofs.Places.{not_below, not_past, after_row}
use Rattle.reverse_map.specs.declared.range.SectorRange.{SectorRange}
use Rattle.reverse_map.specs.Ranges.{is_in_range, is_in_ranges}
use Rattle.volume_maps.specs.declared.place.ObjectPlace.{ObjectPlace}
use Rattle.volume_maps.specs.Places.{object_on}
use Rattle.volume_maps.specs.Live.{is_in_object, is_live}
use Rattle.volume_maps.specs.Parts.{place_in_object, sector_total, first_sectors}

-- ---- the parts of a range

module _ (number lba : ℕ) (settled old : ℕ → Option ObjectPlace) where
  -- a sector's place once the parts of so many sectors are added
  abbrev added_at : (sectors : ℕ) → ℕ → Option ObjectPlace
  added_at sectors k = option_or (cond (is_within lba sectors k) (place_in_object number (settled k)) None) (old k)

  -- those of a range up to a sector are added
  abbrev pub IsAddedTo : (end : ℕ) → (ℕ → Option ObjectPlace) → Type 0
  IsAddedTo end places = (k : ℕ) → places k ≡ added_at (end - lba) k

-- ---- the parts of an object

-- the range that stands for one past the end of a list
abbrev pub no_range : SectorRange
no_range = record { lba = 0; sectors = 0 }

-- a sector is in a range more
pub in_ranges_push : (ranges : List SectorRange) (range : SectorRange) (k : ℕ)
    → is_in_ranges (ranges ++ range ∷ []) k ≡ (is_in_ranges ranges k || is_in_range range k)
in_ranges_push [] range k =
    elim (is_in_range range k) as (λ b. (b || false) ≡ (false || b)) [ true ↦ refl | false ↦ refl ]
in_ranges_push (first ∷ ranges) range k =
    ap (λ b. is_in_range first k || b) (in_ranges_push ranges range k)
    ∙ elim (is_in_range first k) as (λ b. (b || (is_in_ranges ranges k || is_in_range range k))
    ≡ ((b || is_in_ranges ranges k) || is_in_range range k)) [ true ↦ refl | false ↦ refl ]

-- places of one of two ranges
pub in_either : (place : Option ObjectPlace) (first more : Bool)
    → option_or (cond more place None) (cond first place None) ≡ cond (first || more) place None
in_either place true true = elim place as (λ p. option_or p p ≡ p) [ None ↦ refl | Some p ↦ refl ]
in_either place true false = refl
in_either place false true = elim place as (λ p. option_or p None ≡ p) [ None ↦ refl | Some p ↦ refl ]
in_either place false false = refl

-- ranges that have all live sectors of an object give it all its places
pub all_live : (number : ℕ) (place : Option ObjectPlace) (covered : Bool) → (is_live number place ≡ true → covered ≡ true)
    → cond covered (place_in_object number place) None ≡ place_in_object number place
all_live number place true covers = refl
all_live number None false covers = refl
all_live number (Some place) false covers =
    elim (is_in_object number place) as (λ b. (b ≡ true → false ≡ true) → None ≡ cond b (Some place) None) [
      | true ↦ λ covers. absurd (let is = covers refl in cc)
      | false ↦ λ covers. refl
    ] covers

-- ---- the first sectors of parts

-- the first sectors of parts from a sector on have none before it
none_in_first : (parts : List (Extent ObjectPlace)) (most at k : ℕ) → IsShortest object_on parts → StartsFrom at parts → k < at
    → place_at object_on (first_sectors most parts) k ≡ None
none_in_first [] most at k shortest starts low = refl
none_in_first (part ∷ parts) most at k shortest starts low =
    ap (λ b. cond b (Some (object_on (k - part.lba) part.place))
    (place_at object_on (first_sectors (most - part.sectors) parts) k))
    (not_below part.lba (min part.sectors most) k (omega arith))
    ∙ none_in_first parts (most - part.sectors) (part.lba + part.sectors) k shortest.2
    (after_row object_on part parts shortest.1) (omega arith)

-- no sectors of parts are none
pub none_first : (parts : List (Extent ObjectPlace)) (k : ℕ) → place_at object_on (first_sectors 0 parts) k ≡ None
none_first [] k = refl
none_first (part ∷ parts) k =
    let none : is_within part.lba (min part.sectors 0) k ≡ false = elim (cases_lt k part.lba) [
      | inl low ↦ not_below part.lba (min part.sectors 0) k low
      | inr high ↦ not_past part.lba (min part.sectors 0) k (omega arith)
    ] in
    let less : 0 - part.sectors ≡ 0 = omega arith in
    ap (λ b. cond b (Some (object_on (k - part.lba) part.place))
    (place_at object_on (first_sectors (0 - part.sectors) parts) k)) none
    ∙ ap (λ n. place_at object_on (first_sectors n parts) k) less
    ∙ none_first parts k

pub no_total : (parts : List (Extent ObjectPlace)) → sector_total (first_sectors 0 parts) ≡ 0
no_total [] = refl
no_total (part ∷ parts) =
    let less : 0 - part.sectors ≡ 0 = omega arith in
    omega (
      arith,
      sum_by-cons (λ (part : Extent ObjectPlace). part.sectors) (record part { sectors = min part.sectors 0 })
          (first_sectors (0 - part.sectors) parts),
      ap (λ n. sector_total (first_sectors n parts)) less,
      no_total parts,
    )

module _ (part : Extent ObjectPlace) (parts : List (Extent ObjectPlace)) (room : ℕ) where
  abbrev taken : ℕ
  taken = min part.sectors room

  -- a part is taken, and then the first sectors of the others
  first_by : (test : Bool) (k : ℕ) (old : ℕ → Option ObjectPlace) → IsShortest object_on (part ∷ parts)
      → is_within part.lba taken k ≡ test
      → option_or (place_at object_on (first_sectors (room - part.sectors) parts) k)
      (cond test (Some (object_on (k - part.lba) part.place)) (old k))
      ≡ option_or (cond test (Some (object_on (k - part.lba) part.place))
      (place_at object_on (first_sectors (room - part.sectors) parts) k)) (old k)
  first_by true k old shortest here =
      let low : k < part.lba + part.sectors = elim (cases_lt k (part.lba + part.sectors)) [
        | inl low ↦ low
        | inr past ↦ absurd (let out = not_past part.lba taken k (omega arith) in cc)
      ] in
      ap (λ p. option_or p (Some (object_on (k - part.lba) part.place)))
      (none_in_first parts (room - part.sectors) (part.lba + part.sectors) k shortest.2
      (after_row object_on part parts shortest.1) low)
  first_by false k old shortest out = refl

  pub first_more : (old new : ℕ → Option ObjectPlace) → IsShortest object_on (part ∷ parts)
      → ((k : ℕ) → new k ≡ place_after_set object_on part.lba taken part.place old k)
      → (k : ℕ) → option_or (place_at object_on (first_sectors (room - taken) parts) k) (new k)
      ≡ option_or (place_at object_on (first_sectors room (part ∷ parts)) k) (old k)
  first_more old new shortest set k =
      let left : room - taken ≡ room - part.sectors = omega arith in
      ap (λ n. option_or (place_at object_on (first_sectors n parts) k) (new k)) left
      ∙ ap (option_or (place_at object_on (first_sectors (room - part.sectors) parts) k)) (set k)
      ∙ first_by (is_within part.lba taken k) k old shortest refl

  pub total_more : taken + sector_total (first_sectors (room - taken) parts) ≡ sector_total (first_sectors room (part ∷ parts))
  total_more =
      let left : room - taken ≡ room - part.sectors = omega arith in
      omega (
        arith,
        sum_by-cons (λ (part : Extent ObjectPlace). part.sectors) (record part { sectors = taken })
            (first_sectors (room - part.sectors) parts),
        ap (λ n. sector_total (first_sectors n parts)) left,
      )

-- they are no more than asked for
pub total_most : (parts : List (Extent ObjectPlace)) (most : ℕ) → sector_total (first_sectors most parts) ≤ most
total_most [] most = omega arith
total_most (part ∷ parts) most =
    omega (
      arith,
      sum_by-cons (λ (part : Extent ObjectPlace). part.sectors) (record part { sectors = min part.sectors most })
          (first_sectors (most - part.sectors) parts),
      total_most parts (most - part.sectors),
    )
