-- The rows of the copy that a plan makes: what they give each sector, and that they may stand in the copy.
use Rattle.std.proofs.Common.{◌≡◌, ℕ, ◌+◌, ◌-◌, ◌<◌, ◌≤◌, inl, inr, cond, true, false, ◌||◌, ◌&&◌, Option, Some}
use Rattle.std.proofs.Common.{List, [], ◌∷◌, refl, ◌∙◌, ap, arith}
use Rattle.std.specs.Prelude.{◌==◌, nat_lt, not, option_map}
use Rattle.std.specs.List.{sum_by}
use Rattle.std.proofs.lemmas.Bool.{cases_lt, and_from, or_left, or_right, lt-ltb, eq-eqb, true_from_ne_false}
use Rattle.std.proofs.lemmas.Bool.Decides.{nat_tests}
use Rattle.std.proofs.lemmas.List.Sums.{sum_by-cons}
use Rattle.extent_map.specs.declared.extent.Extent.{Extent}
use Rattle.extent_map.specs.Extents.{is_within, place_at, ComesBefore, IsShortest}
use Rattle.extent_map.proofs.Places.{at_inside, at_past, after_row, none_before}
use Rattle.object_format.specs.declared.copy_row.CopyRow.{CopyRow}
use Rattle.object_format.specs.Rows.{breaks_off, copy_may_follow, copy_may_stand, copy_rows_may_stand}
use Rattle.object_stream.specs.Replay.{source_at}
use Rattle.volume_maps.specs.declared.place.ObjectPlace.{ObjectPlace}
use Rattle.volume_maps.specs.Places.{object_on}
use Rattle.volume_maps.specs.CopyPlan.{source_place_at}
use Rattle.volume_maps.specs.Parts.{sector_total, row_of_part, rows_of_parts}

-- ---- what they give a sector

-- the source of a sector, and its place there
pub sources_of : (place : ℕ) (parts : List (Extent ObjectPlace)) (k : ℕ)
    → source_at (rows_of_parts place parts) k ≡ option_map (λ (p : ObjectPlace). p.number) (place_at object_on parts k)
sources_of place [] k = refl
sources_of place (part ∷ parts) k =
    ap (cond (is_within part.lba part.sectors k) (Some part.place.number)) (sources_of (place + part.sectors) parts k)
    ∙ elim (is_within part.lba part.sectors k) as (λ b. cond b (Some part.place.number)
    (option_map (λ (p : ObjectPlace). p.number) (place_at object_on parts k))
    ≡ option_map (λ (p : ObjectPlace). p.number)
    (cond b (Some (object_on (k - part.lba) part.place)) (place_at object_on parts k))) [
      | true ↦ refl
      | false ↦ refl
    ]

pub places_of : (place : ℕ) (parts : List (Extent ObjectPlace)) (k : ℕ)
    → source_place_at (rows_of_parts place parts) k ≡ place_at object_on parts k
places_of place [] k = refl
places_of place (part ∷ parts) k =
    ap (cond (is_within part.lba part.sectors k) (Some (object_on (k - part.lba) part.place)))
    (places_of (place + part.sectors) parts k)

-- how many sectors they have
pub total_of : (place : ℕ) (parts : List (Extent ObjectPlace))
    → sum_by (λ (row : CopyRow). row.sectors) (rows_of_parts place parts) ≡ sector_total parts
total_of place [] = refl
total_of place (part ∷ parts) =
    omega (
      arith,
      sum_by-cons (λ (row : CopyRow). row.sectors) (row_of_part place part) (rows_of_parts (place + part.sectors) parts),
      sum_by-cons (λ (part : Extent ObjectPlace). part.sectors) part parts,
      total_of (place + part.sectors) parts,
    )

-- ---- which may stand

-- a place that is not so many sectors on from another one
breaks : (place next : ObjectPlace) (sectors : ℕ) → (object_on sectors place ≡ next → ⊥)
    → (not (place.level == next.level) || not (place.number == next.number) || not (place.sector + sectors == next.sector)) ≡ true
breaks place next sectors apart =
    let test =
    not (place.level == next.level) || not (place.number == next.number) || not (place.sector + sectors == next.sector) in
    true_from_ne_false test (λ on.
    let level : place.level ≡ next.level = grind (arith, nat_tests) in
    let number : place.number ≡ next.number = grind (arith, nat_tests) in
    let sector : place.sector + sectors ≡ next.sector = grind (arith, nat_tests) in
    apart (ap (λ x. record place { sector = x }) sector
    ∙ ap (λ x. record place { level = x; sector = next.sector }) level
    ∙ ap (λ x. record next { number = x }) number))

-- a row may follow that of a part which comes before it
follows : (part next : Extent ObjectPlace) (at next_at : ℕ) → ComesBefore object_on part next
    → copy_may_follow (Some (row_of_part at part)) (row_of_part next_at next) ≡ true
follows part next at next_at before =
    let past = part.lba + part.sectors in
    let off = breaks_off (row_of_part at part) (row_of_part next_at next).source in
    elim (cases_lt past next.lba) [
      | inl gap ↦ or_left (nat_lt past next.lba) ((past == next.lba) && off) (lt-ltb past next.lba gap)
      | inr reached ↦
          let touches : past ≡ next.lba = omega (arith, before.in_order, reached) in
          or_right (nat_lt past next.lba) ((past == next.lba) && off)
          (and_from (past == next.lba) off (eq-eqb past next.lba touches)
          (breaks part.place next.place part.sectors (before.apart touches)))
    ]

-- of a row that follows nothing, or the row of a part
abbrev pub FollowsAll : Option CopyRow → List (Extent ObjectPlace) → Type 0
FollowsAll before [] = Unit {0}
FollowsAll before (part ∷ parts) = (at : ℕ) → copy_may_follow before (row_of_part at part) ≡ true

follow_rest : (part : Extent ObjectPlace) (at : ℕ) (parts : List (Extent ObjectPlace)) → IsShortest object_on (part ∷ parts)
    → FollowsAll (Some (row_of_part at part)) parts
follow_rest part at [] shortest = tt
follow_rest part at (next ∷ parts) shortest = λ next_at. follows part next at next_at shortest.1

module _ (volume number : ℕ) where
  -- a place of a sector of the volume, in a payload of an older object of the volume's own
  pub record IsCopied (k : ℕ) (place : ObjectPlace) : Type 0 where
    pub inside : k < volume
    pub own : place.level ≡ 0
    pub older : place.number < number
    pub payload : place.sector < 131071

  abbrev pub AreCopied : List (Extent ObjectPlace) → Type 0
  AreCopied parts = (k : ℕ) (place : ObjectPlace) → place_at object_on parts k ≡ Some place → IsCopied k place

  -- what all parts give, the rest of them gives
  rest_copied : (part : Extent ObjectPlace) (parts : List (Extent ObjectPlace)) → IsShortest object_on (part ∷ parts)
      → AreCopied (part ∷ parts) → AreCopied parts
  rest_copied part parts shortest copied k place is =
      elim (cases_lt k (part.lba + part.sectors)) [
        | inl low ↦
            let none = none_before object_on parts (part.lba + part.sectors) k shortest.2
            (after_row object_on part parts shortest.1) low in
            absurd cc
        | inr past ↦ copied k place (at_past object_on part parts k past ∙ is)
      ]

  part_stands : (before : Option CopyRow) (at payload : ℕ) (part : Extent ObjectPlace) (parts : List (Extent ObjectPlace))
      → IsShortest object_on (part ∷ parts) → AreCopied (part ∷ parts) → at + part.sectors ≤ payload
      → copy_may_follow before (row_of_part at part) ≡ true
      → copy_may_stand volume payload number before at (row_of_part at part) ≡ true
  part_stands before at payload part parts shortest copied fits follow =
      let last = part.lba + (part.sectors - 1) in
      let place = object_on (last - part.lba) part.place in
      let here = copied last place (at_inside object_on part parts last (omega arith) (omega (arith, shortest.0))) in
      let some = shortest.0 in
      let inside : part.lba + part.sectors ≤ volume = omega (arith, here.inside, some) in
      let within_payload : part.place.sector + part.sectors ≤ 131071 = omega (arith, here.payload, some) in
      let own = here.own in
      let older = here.older in
      grind (arith, nat_tests)

  pub rows_stand : (before : Option CopyRow) (at payload : ℕ) (parts : List (Extent ObjectPlace)) → IsShortest object_on parts
      → AreCopied parts → payload ≡ at + sector_total parts → FollowsAll before parts
      → copy_rows_may_stand volume payload number before at (rows_of_parts at parts) ≡ true
  rows_stand before at payload [] shortest copied all follow = eq-eqb at payload (omega (arith, all))
  rows_stand before at payload (part ∷ parts) shortest copied all follow =
      let total = sum_by-cons (λ (part : Extent ObjectPlace). part.sectors) part parts in
      and_from (copy_may_stand volume payload number before at (row_of_part at part))
      (copy_rows_may_stand volume payload number (Some (row_of_part at part)) (at + part.sectors)
      (rows_of_parts (at + part.sectors) parts))
      (part_stands before at payload part parts shortest copied (omega (arith, all, total)) (follow at))
      (rows_stand (Some (row_of_part at part)) (at + part.sectors) payload parts shortest.2
      (rest_copied part parts shortest copied) (omega (arith, all, total)) (follow_rest part at parts shortest))
