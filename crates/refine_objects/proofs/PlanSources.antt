-- The sources of a plan's rows are those of the sectors that are planned.
use Rattle.std.proofs.Common.{◌≡◌, ℕ, zero, suc, ◌+◌, ◌<◌, ◌≤◌, ◌==◌, ◌||◌, cond}
use Rattle.std.proofs.Common.{Bool, true, false, Option, Some, None, List, [], ◌∷◌}
use Rattle.std.proofs.Common.{◌++◌, map, take, inl, inr, refl, sym, ◌∙◌, ap, subst, arith}
use Rattle.std.specs.Prelude.{IsTrue, is_some}
use Rattle.std.specs.List.{All, AllByRecursion, filter, flat_map, range_with_len}
use Rattle.std.proofs.lemmas.Bool.{cases_lt}
use Rattle.std.proofs.lemmas.Bool.Decides.{nat_tests}
use Rattle.std.proofs.lemmas.List.Elements.{All-nil, All-cons}
use Rattle.extent_map.specs.Extents.{is_within}
use Rattle.extent_map.proofs.Places.{within, not_past}
use Rattle.object_format.specs.declared.copy_row.CopyRow.{CopyRow}
use Rattle.object_format.specs.Rows.{copy_may_stand, copy_rows_may_stand}
use Rattle.object_stream.specs.declared.object.CopiedSector.{CopiedSector}
use Rattle.object_stream.specs.Planned.{copied_from, planned}
use Rattle.object_stream.specs.Replay.{source_at}
use Rattle.object_stream.specs.Stream.{source_in}
use Rattle.volume_maps.specs.declared.place.ObjectPlace.{ObjectPlace}
use Rattle.volume_maps.specs.Live.{is_live}
use Rattle.volume_maps.proofs.RowsLemmas.{is_in}
use Rattle.volume_maps.proofs.VictimLemmas.{lbas, in_lbas, in_planned, in_filter}
use Rattle.object_uploads.specs.Collection.{source_numbers}
use Rattle.plain_disk.specs.Removals.{copies_from}
use Rattle.plain_disk.proofs.CheckpointLemmas.{both_true, same_number}
use Rattle.refine_objects.proofs.RowPayload.{first_copied, rest_copied, has_none}

or_true : (b : Bool) → (b || true) ≡ true
or_true true = refl
or_true false = refl

-- ---- rows

module _ (volume payload number : ℕ) where
  some_sectors : (place : ℕ) (before : Option CopyRow) (row : CopyRow)
      → IsTrue (copy_may_stand volume payload number before place row) → 0 < row.sectors
  some_sectors place before row stands = grind (arith, nat_tests)

  -- a sector that later rows have is past the first
  past_row : (k place n : ℕ) (row : CopyRow) (rows : List CopyRow)
      → IsTrue (copy_rows_may_stand volume payload number (Some row) place rows) → source_at rows k ≡ Some n
      → row.lba + row.sectors ≤ k
  past_row k place n row rows stand is =
      elim (cases_lt k (row.lba + row.sectors)) [
        | inl low ↦
            (let none = has_none volume payload number k place row rows stand low in
            let some = ap is_some is in
            absurd cc)
        | inr past ↦ past
      ]

  first_at : (row : CopyRow) (rows : List CopyRow) → 0 < row.sectors
      → source_at (row ∷ rows) row.lba ≡ Some row.source.number
  first_at row rows some =
      ap (λ b. cond b (Some row.source.number) (source_at rows row.lba))
      (within row.lba row.sectors row.lba (omega arith) (omega (arith, some)))

  later_at : (k n : ℕ) (row : CopyRow) (rows : List CopyRow) → row.lba + row.sectors ≤ k → source_at rows k ≡ Some n
      → source_at (row ∷ rows) k ≡ Some n
  later_at k n row rows past is =
      ap (λ b. cond b (Some row.source.number) (source_at rows k)) (not_past row.lba row.sectors k past) ∙ is

  -- each source has a sector in the rows
  pub source_row : (place n : ℕ) (before : Option CopyRow) (rows : List CopyRow)
      → IsTrue (copy_rows_may_stand volume payload number before place rows) → is_in (source_numbers rows) n ≡ true
      → (k : ℕ) × (source_at rows k ≡ Some n)
  source_row place n before [] stand is = absurd cc
  source_row place n before (row ∷ rows) stand is =
      let first = first_copied volume payload number place before row rows stand in
      let later = rest_copied volume payload number place before row rows stand in
      elim (row.source.number == n) as (λ b. (row.source.number == n) ≡ b → (b || is_in (source_numbers rows) n) ≡ true
      → (k : ℕ) × (source_at (row ∷ rows) k ≡ Some n)) [
        | true ↦ λ same is. (
          row.lba,
          first_at row rows (some_sectors place before row first) ∙ ap (λ m. Some m) (same_number row.source.number n same),
        )
        | false ↦ λ other is.
            (let more = source_row (place + row.sectors) n (Some row) rows later is in
            (more.0, later_at more.0 n row rows (past_row more.0 (place + row.sectors) n row rows later more.1) more.1))
      ] refl is

  -- rows of which no sector has a source are none
  pub first_source : (place : ℕ) (before : Option CopyRow) (rows : List CopyRow)
      → IsTrue (copy_rows_may_stand volume payload number before place rows) → ((k : ℕ) → source_at rows k ≡ None)
      → rows ≡ []
  first_source place before [] stand none = refl
  first_source place before (row ∷ rows) stand none =
      let first = first_copied volume payload number place before row rows stand in
      let here = first_at row rows (some_sectors place before row first) in
      let bad = sym (none row.lba) ∙ here in
      absurd cc

-- and the source of a sector is one of the rows'
pub row_source : (k n : ℕ) (rows : List CopyRow) → source_at rows k ≡ Some n → is_in (source_numbers rows) n ≡ true
row_source k n [] is = absurd cc
row_source k n (row ∷ rows) is =
    elim (is_within row.lba row.sectors k) as (λ b. cond b (Some row.source.number) (source_at rows k) ≡ Some n
    → ((row.source.number == n) || is_in (source_numbers rows) n) ≡ true) [
      | true ↦ λ is. (
          let same : row.source.number ≡ n = cc in
          let own : (row.source.number == n) ≡ true = grind (arith, nat_tests) in
          ap (λ b. b || is_in (source_numbers rows) n) own)
      | false ↦ λ is. (
          let more = row_source k n rows is in
          ap (λ b. (row.source.number == n) || b) more ∙ or_true (row.source.number == n))
    ] is

-- ---- pairs

-- the source of a sector of a plan
pub pair_source : (k n : ℕ) (pairs : List CopiedSector) → source_in pairs k ≡ Some n → copies_from (Some pairs) n ≡ true
pair_source k n [] is = absurd cc
pair_source k n (first ∷ pairs) is =
    elim (first.lba == k) as (λ b. cond b (Some first.source) (source_in pairs k) ≡ Some n
    → ((first.source == n) || copies_from (Some pairs) n) ≡ true) [
      | true ↦ λ is. (
          let same : first.source ≡ n = cc in
          let own : (first.source == n) ≡ true = grind (arith, nat_tests) in
          ap (λ b. b || copies_from (Some pairs) n) own)
      | false ↦ λ is. (
          let more = pair_source k n pairs is in
          ap (λ b. (first.source == n) || b) more ∙ or_true (first.source == n))
    ] is

module _ (live : ℕ → List ℕ) where
  -- a sector is a live one of its source
  abbrev IsOfSource : CopiedSector → Type 0
  IsOfSource pair = is_in (live pair.source) pair.lba ≡ true

  of_parts : (first more : List CopiedSector) → AllByRecursion IsOfSource first → AllByRecursion IsOfSource more
      → AllByRecursion IsOfSource (first ++ more)
  of_parts [] more one two = two
  of_parts (pair ∷ first) more one two = (one.0, of_parts first more one.1 two)

  of_first : (most : ℕ) (list : List CopiedSector) → AllByRecursion IsOfSource list → AllByRecursion IsOfSource (take most list)
  of_first zero list all = tt
  of_first (suc most) [] all = tt
  of_first (suc most) (first ∷ list) all = (all.0, of_first most list all.1)

  of_one : (number : ℕ) (ks : List ℕ) → ((k : ℕ) → is_in ks k ≡ true → is_in (live number) k ≡ true)
      → AllByRecursion IsOfSource (map (copied_from number) ks)
  of_one number [] own = tt
  of_one number (k ∷ ks) own =
      let self : (k == k) ≡ true = grind (arith, nat_tests) in (
        own k (ap (λ b. b || is_in ks k) self),
        of_one number ks (λ other is. own other (ap (λ b. (k == other) || b) is ∙ or_true (k == other))),
      )

  of_all : (victims : List ℕ)
      → AllByRecursion IsOfSource (flat_map (λ number. map (copied_from number) (live number)) victims)
  of_all [] = tt
  of_all (victim ∷ victims) =
      of_parts (map (copied_from victim) (live victim)) (flat_map (λ number. map (copied_from number) (live number)) victims)
      (of_one victim (live victim) (λ k is. is)) (of_all victims)

  -- so are those that are planned
  pub of_planned : (most : ℕ) (victims : List ℕ) → AllByRecursion IsOfSource (planned most live victims)
  of_planned most victims =
      of_first most (flat_map (λ number. map (copied_from number) (live number)) victims) (of_all victims)

  -- a number that is a source has a sector in the list
  pair_of : (n : ℕ) (list : List CopiedSector) → AllByRecursion IsOfSource list → copies_from (Some list) n ≡ true
      → (k : ℕ) × (is_in (lbas list) k ≡ true) × (is_in (live n) k ≡ true)
  pair_of n [] all is = absurd cc
  pair_of n (first ∷ list) all is =
      elim (first.source == n) as (λ b. (first.source == n) ≡ b → (b || copies_from (Some list) n) ≡ true
      → (k : ℕ) × (is_in (lbas (first ∷ list)) k ≡ true) × (is_in (live n) k ≡ true)) [
        | true ↦ λ same is.
            (let self : (first.lba == first.lba) ≡ true = grind (arith, nat_tests) in (
              first.lba,
              ap (λ b. b || is_in (lbas list) first.lba) self,
              subst (λ m. is_in (live m) first.lba ≡ true) (same_number first.source n same) all.0,
            ))
        | false ↦ λ other is.
            (let more = pair_of n list all.1 is in (
              more.0,
              ap (λ b. (first.lba == more.0) || b) more.1 ∙ or_true (first.lba == more.0),
              more.2,
            ))
      ] refl is

  some_source : (found : Option ℕ) → is_some found ≡ true → (n : ℕ) × (found ≡ Some n)
  some_source None is = absurd cc
  some_source (Some n) is = (n, refl)

  -- where no sector is live in two objects, that is its source there
  module _ (apart : (one other k : ℕ) → is_in (live one) k ≡ true → is_in (live other) k ≡ true → one ≡ other) where
    pub planned_source : (most : ℕ) (victims : List ℕ) (n : ℕ) → copies_from (Some (planned most live victims)) n ≡ true
        → (k : ℕ) × (source_in (planned most live victims) k ≡ Some n)
    planned_source most victims n is =
        let list = planned most live victims in
        let at = pair_of n list (of_planned most victims) is in
        let some = some_source (source_in list at.0) (sym (in_lbas list at.0) ∙ at.1) in
        let own = in_planned live most victims at.0 some.0 some.1 in
        (at.0, some.1 ∙ ap (λ m. Some m) (apart some.0 n at.0 own at.2))

-- a place is in one object alone
pub one_live : (one other : ℕ) (place : Option ObjectPlace) → is_live one place ≡ true → is_live other place ≡ true → one ≡ other
one_live one other None first second = absurd cc
one_live one other (Some place) first second =
    let own = both_true (place.level == 0) (place.number == one) first in
    let its = both_true (place.level == 0) (place.number == other) second in
    sym (same_number place.number one own.1) ∙ same_number place.number other its.1

-- the live sectors of a map are so
pub lists_apart : (volume : ℕ) (places : ℕ → Option ObjectPlace) (one other k : ℕ)
    → is_in (filter (λ i. is_live one (places i)) (range_with_len 0 volume)) k ≡ true
    → is_in (filter (λ i. is_live other (places i)) (range_with_len 0 volume)) k ≡ true → one ≡ other
lists_apart volume places one other k first second =
    one_live one other (places k) (in_filter (λ i. is_live one (places i)) (range_with_len 0 volume) k first).1
    (in_filter (λ i. is_live other (places i)) (range_with_len 0 volume) k second).1

-- ---- how far sources reach

-- each sector of a plan that is live in its source is from an object up to a number, where places are
pub planned_reaches : (frontier : ℕ) (live : ℕ → List ℕ) (list : List CopiedSector)
    → ((n k : ℕ) → is_in (live n) k ≡ true → n ≤ frontier)
    → AllByRecursion (λ pair. is_in (live pair.source) pair.lba ≡ true) list
    → All (λ (pair : CopiedSector). pair.source ≤ frontier) list
planned_reaches frontier live [] low all = All-nil (λ (pair : CopiedSector). pair.source ≤ frontier)
planned_reaches frontier live (first ∷ list) low all =
    All-cons (λ (pair : CopiedSector). pair.source ≤ frontier) first list (low first.source first.lba all.0)
    (planned_reaches frontier live list low all.1)

-- a list without a source of any sector is empty
pub none_planned : (pairs : List CopiedSector) → ((k : ℕ) → None ≡ source_in pairs k) → pairs ≡ []
none_planned [] none = refl
none_planned (first ∷ pairs) none =
    let self : (first.lba == first.lba) ≡ true = grind (arith, nat_tests) in
    let here : source_in (first ∷ pairs) first.lba ≡ Some first.source =
    ap (λ b. cond b (Some first.source) (source_in pairs first.lba)) self in
    let bad = none first.lba ∙ here in
    absurd cc
