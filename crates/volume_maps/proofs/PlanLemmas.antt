-- The sectors that a plan copies of its victims, and the parts of the objects' map that have them.
use Rattle.std.proofs.Common.{◌≡◌, ℕ, zero, suc, ◌+◌, ◌-◌, ◌<◌, ◌≤◌, inl, inr, cond, Bool, true, false, ◌||◌, Option, Some, None}
use Rattle.std.proofs.Common.{List, [], ◌∷◌, ◌++◌, length, take, drop, map, refl, sym, ◌∙◌, ap, arith, min}
use Rattle.std.specs.Prelude.{◌==◌}
use Rattle.std.specs.List.{filter, flat_map, range_with_len}
use Rattle.std.specs.Option.{is_some, option_or}
use Rattle.std.proofs.lemmas.Bool.{cases_lt}
use Rattle.std.specs.Prelude.{IfSome}
use Rattle.std.proofs.lemmas.List.{length-append, length-take, length-map, append-nil, take-map, take-append-drop, take-append-le}
use Rattle.std.proofs.lemmas.List.Concat.{flat_map-append}
use Rattle.std.proofs.lemmas.List.FromFn.{length-range_with_len}
use Rattle.std.proofs.lemmas.List.Sums.{sum_by-cons}
use Rattle.extent_map.specs.declared.extent.Extent.{Extent}
use Rattle.extent_map.specs.Extents.{is_within, place_at, IsShortest}
use Rattle.extent_map.specs.Join.{EndBy}
use Rattle.extent_map.specs.Laws.{StartsFrom}
use Rattle.extent_map.proofs.Places.{at_inside, at_past, after_row, none_before}
use Rattle.object_stream.specs.declared.object.CopiedSector.{CopiedSector}
use Rattle.object_stream.specs.Planned.{planned, copied_from}
use Rattle.object_stream.specs.Stream.{source_in}
use Rattle.volume_maps.specs.declared.place.ObjectPlace.{ObjectPlace}
use Rattle.volume_maps.specs.Places.{object_on}
use Rattle.volume_maps.specs.Live.{is_in_object, is_live}
use Rattle.volume_maps.specs.Parts.{place_in_object, sector_total, first_sectors, AreBelow, live_below, place_of_source}
use Rattle.volume_maps.proofs.PartLemmas.{total_most}
use Rattle.volume_maps.proofs.RowsLemmas.{inside_of, same_pass, is_in, in_parts, in_range, take_parts, take_range}
use Rattle.volume_maps.proofs.RowsLemmas.{in_first, sectors_of, sectors_placed, placed_in}

-- ---- the sources of sectors

-- in sectors and in more of them
pub source_parts : (front more : List CopiedSector) (k : ℕ)
    → source_in (front ++ more) k ≡ option_or (source_in front k) (source_in more k)
source_parts [] more k = refl
source_parts (first ∷ rest) more k =
    ap (cond (first.lba == k) (Some first.source)) (source_parts rest more k)
    ∙ elim (first.lba == k) as (λ b. cond b (Some first.source) (option_or (source_in rest k) (source_in more k))
    ≡ option_or (cond b (Some first.source) (source_in rest k)) (source_in more k)) [ true ↦ refl | false ↦ refl ]

-- in those of one source
pub source_of : (number : ℕ) (ks : List ℕ) (k : ℕ)
    → source_in (map (copied_from number) ks) k ≡ cond (is_in ks k) (Some number) None
source_of number [] k = refl
source_of number (first ∷ rest) k =
    ap (cond (first == k) (Some number)) (source_of number rest k)
    ∙ elim (first == k) as (λ b. cond b (Some number) (cond (is_in rest k) (Some number) None)
    ≡ cond (b || is_in rest k) (Some number) None) [ true ↦ refl | false ↦ refl ]

-- ---- the sectors of victims

module _ (most : ℕ) (live : ℕ → List ℕ) where
  abbrev of_victims : List ℕ → List CopiedSector
  of_victims victims = flat_map (λ number. map (copied_from number) (live number)) victims

  -- one victim more
  pub planned_push : (victims : List ℕ) (number room : ℕ) → room + length (planned most live victims) ≡ most
      → planned most live (victims ++ number ∷ [])
      ≡ planned most live victims ++ map (copied_from number) (take room (live number))
  planned_push victims number room left =
      let f : ℕ → List CopiedSector = λ number. map (copied_from number) (live number) in
      let rest : most - length (of_victims victims) ≡ room = omega (arith, left, length-take most (of_victims victims)) in
      ap (take most) (flat_map-append f victims (number ∷ []) ∙ ap (λ ps. of_victims victims ++ ps) (append-nil (f number)))
      ∙ take_parts most (of_victims victims) (f number)
      ∙ ap (λ n. take most (of_victims victims) ++ take n (f number)) rest
      ∙ ap (λ ps. take most (of_victims victims) ++ ps) (take-map (copied_from number) room (live number))

  -- once there is no room, the victims that are left give none
  pub planned_full : (victims : List ℕ) (i : ℕ) → length (planned most live (take i victims)) ≡ most
      → planned most live (take i victims) ≡ planned most live victims
  planned_full victims i full =
      let f : ℕ → List CopiedSector = λ number. map (copied_from number) (live number) in
      let first = of_victims (take i victims) in
      let most_first : most ≤ length first = omega (arith, full, length-take most first) in
      sym (ap (λ vs. take most (of_victims vs)) (sym (take-append-drop i victims))
      ∙ ap (take most) (flat_map-append f (take i victims) (drop i victims))
      ∙ take-append-le most first (of_victims (drop i victims)) most_first)

-- ---- the first sectors of parts

module _ (part : Extent ObjectPlace) (parts : List (Extent ObjectPlace)) (most k : ℕ)
    (shortest : IsShortest object_on (part ∷ parts)) where
  abbrev own_part : List ℕ
  own_part = range_with_len part.lba part.sectors

  abbrev others : List ℕ
  others = take (most - part.sectors) (sectors_of object_on parts)

  -- the first sectors of all are those of the first part and of the others
  first_in : is_in (take most (sectors_of object_on (part ∷ parts))) k
      ≡ (is_within part.lba (min part.sectors most) k || is_in others k)
  first_in =
      let size : most - length own_part ≡ most - part.sectors = omega (arith, length-range_with_len part.lba part.sectors) in
      ap (λ ks. is_in ks k) (take_parts most own_part (sectors_of object_on parts))
      ∙ ap (λ n. is_in (take most own_part ++ take n (sectors_of object_on parts)) k) size
      ∙ in_parts (take most own_part) others k
      ∙ ap (λ ks. is_in ks k || is_in others k) (take_range most part.lba part.sectors)
      ∙ ap (λ b. b || is_in others k) (in_range part.lba (min part.sectors most) k)

  -- by the tests of both
  first_place_by : (own other : Bool) → is_within part.lba (min part.sectors most) k ≡ own → is_in others k ≡ other
      → cond own (Some (object_on (k - part.lba) part.place)) (cond other (place_at object_on parts k) None)
      ≡ cond (own || other) (place_at object_on (part ∷ parts) k) None
  first_place_by true other own_is other_is =
      let here = inside_of part.lba (min part.sectors most) k own_is in
      sym (at_inside object_on part parts k here.0 (omega (arith, here.1)))
  first_place_by false true own_is other_is =
      let some : is_some (place_at object_on parts k) ≡ true =
      sym (placed_in object_on parts k) ∙ in_first (most - part.sectors) (sectors_of object_on parts) k other_is in
      elim (cases_lt k (part.lba + part.sectors)) [
        | inl low ↦
            let none = none_before object_on parts (part.lba + part.sectors) k shortest.2
            (after_row object_on part parts shortest.1) low in
            absurd (let no = sym some ∙ ap is_some none in cc)
        | inr past ↦ sym (at_past object_on part parts k past)
      ]
  first_place_by false false own_is other_is = refl

-- those that have a place
pub first_places : (parts : List (Extent ObjectPlace)) (most k : ℕ) → IsShortest object_on parts
    → place_at object_on (first_sectors most parts) k
    ≡ cond (is_in (take most (sectors_of object_on parts)) k) (place_at object_on parts k) None
first_places [] zero k shortest = refl
first_places [] (suc most) k shortest = refl
first_places (part ∷ parts) most k shortest =
    let own = is_within part.lba (min part.sectors most) k in
    ap (cond own (Some (object_on (k - part.lba) part.place))) (first_places parts (most - part.sectors) k shortest.2)
    ∙ first_place_by part parts most k shortest own (is_in (others part parts most k shortest) k) refl refl
    ∙ ap (λ b. cond b (place_at object_on (part ∷ parts) k) None) (sym (first_in part parts most k shortest))

-- and how many they are
pub first_count : (parts : List (Extent ObjectPlace)) (most : ℕ)
    → sector_total (first_sectors most parts) ≡ length (take most (sectors_of object_on parts))
first_count [] zero = refl
first_count [] (suc most) = refl
first_count (part ∷ parts) most =
    let own = range_with_len part.lba part.sectors in
    let rest = sectors_of object_on parts in
    let size : most - length own ≡ most - part.sectors = omega (arith, length-range_with_len part.lba part.sectors) in
    omega (
      arith,
      sum_by-cons (λ (part : Extent ObjectPlace). part.sectors) (record part { sectors = min part.sectors most })
          (first_sectors (most - part.sectors) parts),
      first_count parts (most - part.sectors),
      ap length (take_parts most own rest ∙ ap (λ n. take most own ++ take n rest) size),
      length-append (take most own) (take (most - part.sectors) rest),
      length-take most own,
      length-range_with_len part.lba part.sectors,
    )

-- ---- the live sectors of an object

pub starts_at_none : (rows : List (Extent ObjectPlace)) → StartsFrom 0 rows
starts_at_none [] = tt
starts_at_none (row ∷ rows) = omega arith

module _ (volume : ℕ) where
  -- rows end where each sector with a place is below
  pub ends_below : (rows : List (Extent ObjectPlace)) → IsShortest object_on rows
      → ((k : ℕ) → is_some (place_at object_on rows k) ≡ true → k < volume) → EndBy volume rows
  ends_below [] shortest below = tt
  ends_below (row ∷ rows) shortest below =
      let last = row.lba + (row.sectors - 1) in
      let here = ap is_some (at_inside object_on row rows last (omega arith) (omega (arith, shortest.0))) in (
        omega (arith, below last here, shortest.0),
        ends_below rows shortest.2 (λ k some.
            elim (cases_lt k (row.lba + row.sectors)) [
              | inl low ↦
                  let none = none_before object_on rows (row.lba + row.sectors) k shortest.2
                  (after_row object_on row rows shortest.1) low in
                  absurd (let no = ap is_some none in cc)
              | inr past ↦ below k (ap is_some (at_past object_on row rows k past) ∙ some)
            ]),
      )

  module _ (number : ℕ) (settled : ℕ → Option ObjectPlace) (below : AreBelow volume settled) where
    some_live : (place : Option ObjectPlace) → is_some (place_in_object number place) ≡ is_live number place
    some_live None = refl
    some_live (Some place) =
        elim (is_in_object number place) as (λ b. is_some (cond b (Some place) None) ≡ b) [ true ↦ refl | false ↦ refl ]

    below_by : (k : ℕ) (place : Option ObjectPlace) → IfSome place (λ (place : ObjectPlace). k < volume)
        → is_live number place ≡ true → k < volume
    below_by k None low live = absurd cc
    below_by k (Some place) low live = low

    -- they are those of its parts
    pub live_sectors_are : (live : List (Extent ObjectPlace)) → IsShortest object_on live
        → ((k : ℕ) → place_at object_on live k ≡ place_in_object number (settled k))
        → live_below volume settled number ≡ sectors_of object_on live
    live_sectors_are live shortest places =
        let some : (k : ℕ) → is_live number (settled k) ≡ is_some (place_at object_on live k) =
        λ k. sym (ap is_some (places k) ∙ some_live (settled k)) in
        let whole : volume - 0 ≡ volume = omega arith in
        same_pass (λ k. is_live number (settled k)) (λ k. is_some (place_at object_on live k)) 0 volume (λ k low high. some k)
        ∙ ap (λ n. filter (λ k. is_some (place_at object_on live k)) (range_with_len 0 n)) (sym whole)
        ∙ sectors_placed object_on 0 volume live (omega arith) shortest (starts_at_none live)
        (ends_below live shortest (λ k is. below_by k (settled k) (below k) (some k ∙ is)))

-- ---- one victim more

-- a sector's place, where one source more has it
pub more_places : (source : Option ℕ) (number : ℕ) (place : Option ObjectPlace) (taken : Bool)
    → (taken ≡ true → is_live number place ≡ true)
    → option_or (cond taken (place_in_object number place) None) (place_of_source source place)
    ≡ place_of_source (option_or source (cond taken (Some number) None)) place
more_places None number place false live = refl
more_places (Some source) number place false live = refl
more_places source number None true live = absurd (let no = live refl in cc)
more_places source number (Some place) true live =
    ap (λ b. option_or (cond b (Some place) None) (place_of_source source (Some place))) (live refl)
    ∙ elim source as (λ s. Some place ≡ place_of_source (option_or s (Some number)) (Some place)) [
      | None ↦ refl
      | Some s ↦ refl
    ]

module _ (volume most number room : ℕ) (settled : ℕ → Option ObjectPlace) (below : AreBelow volume settled)
    (victims : List ℕ) (live : List (Extent ObjectPlace)) (shortest : IsShortest object_on live)
    (parts : (k : ℕ) → place_at object_on live k ≡ place_in_object number (settled k))
    (left : room + length (planned most (live_below volume settled) victims) ≡ most) where
  abbrev before : List CopiedSector
  before = planned most (live_below volume settled) victims

  abbrev after : List CopiedSector
  after = planned most (live_below volume settled) (victims ++ number ∷ [])

  abbrev taken : List ℕ
  taken = take room (sectors_of object_on live)

  -- the sectors that are planned then
  after_is : after ≡ before ++ map (copied_from number) taken
  after_is =
      planned_push most (live_below volume settled) victims number room left
      ∙ ap (λ ks. before ++ map (copied_from number) (take room ks))
      (live_sectors_are volume number settled below live shortest parts)

  -- leave so much room
  pub room_more : room - sector_total (first_sectors room live) + length after ≡ most
  room_more =
      omega (
        arith,
        left,
        ap length after_is,
        length-append before (map (copied_from number) taken),
        length-map taken (copied_from number),
        first_count live room,
        total_most live room,
      )

  -- a taken sector is live
  taken_live : (k : ℕ) → is_in taken k ≡ true → is_live number (settled k) ≡ true
  taken_live k is =
      sym (some_live volume number settled below (settled k))
      ∙ sym (ap is_some (parts k))
      ∙ sym (placed_in object_on live k)
      ∙ in_first room (sectors_of object_on live) k is

  -- and have these places
  pub places_more : (old new : ℕ → Option ObjectPlace)
      → ((k : ℕ) → old k ≡ place_of_source (source_in before k) (settled k))
      → ((k : ℕ) → new k ≡ option_or (place_at object_on (first_sectors room live) k) (old k))
      → (k : ℕ) → new k ≡ place_of_source (source_in after k) (settled k)
  places_more old new so_far set k =
      set k
      ∙ ap (λ p. option_or p (old k)) (first_places live room k shortest)
      ∙ ap (λ p. option_or (cond (is_in taken k) p None) (old k)) (parts k)
      ∙ ap (option_or (cond (is_in taken k) (place_in_object number (settled k)) None)) (so_far k)
      ∙ more_places (source_in before k) number (settled k) (is_in taken k) (taken_live k)
      ∙ ap (λ s. place_of_source s (settled k))
      (sym (ap (λ ps. source_in ps k) after_is
      ∙ source_parts before (map (copied_from number) taken) k
      ∙ ap (option_or (source_in before k)) (source_of number taken k)))
