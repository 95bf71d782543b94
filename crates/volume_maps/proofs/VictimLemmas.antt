-- The victims of a table are different objects, and the sectors that a plan copies of them different sectors.
use Rattle.std.proofs.Common.{◌≡◌, ℕ, zero, suc, ◌+◌, ◌<◌, ◌≤◌, inl, inr, cond, Bool, true, false, ◌||◌, Option, Some}
use Rattle.std.proofs.Common.{None, List, [], ◌∷◌, ◌++◌, length, take, map, refl, sym, ◌∙◌, ap, subst, arith}
use Rattle.std.specs.Prelude.{◌==◌}
use Rattle.std.specs.List.{filter, flat_map, range_with_len, count_by}
use Rattle.std.specs.Option.{is_some, option_or}
use Rattle.std.proofs.lemmas.Bool.{cases_eq, or_cases, or_from, or_left, or_right, false_from_ne_true, both_ways}
use Rattle.std.proofs.lemmas.Bool.{eqb-true, eq-eqb}
use Rattle.std.proofs.lemmas.Bool.Decides.{nat_tests}
use Rattle.std.proofs.lemmas.List.{map-append, take-map, length-map}
use Rattle.std.proofs.lemmas.List.Sums.{sum_by-cons}
use Rattle.std.proofs.lemmas.List.Sorted.{sum_by-IsPermutation}
use Rattle.std.proofs.lemmas.Option.{same_Some}
use Rattle.gc_policy.specs.Victims.{AreVictims}
use Rattle.object_stream.specs.declared.object.CopiedSector.{CopiedSector}
use Rattle.object_stream.specs.Planned.{planned, copied_from}
use Rattle.object_stream.specs.Stream.{source_in}
use Rattle.object_table.specs.declared.row.ObjectRow.{ObjectRow}
use Rattle.object_table.specs.Table.{has_number, numbers, is_candidate}
use Rattle.object_table.specs.Lists.{Climbs}
use Rattle.volume_maps.proofs.PlanLemmas.{source_parts, source_of}
use Rattle.volume_maps.proofs.RowsLemmas.{none_pass, same_pass, is_in, in_parts, in_range, inside_of, in_first}

-- ---- different numbers

-- each number of a list stands in it once
abbrev pub Different : List ℕ → Type 0
Different [] = Unit {0}
Different (first ∷ rest) = (is_in rest first ≡ false) × Different rest

-- so do those of its front
different_first : (most : ℕ) (ks : List ℕ) → Different ks → Different (take most ks)
different_first zero ks different = tt
different_first (suc most) [] different = tt
different_first (suc most) (first ∷ rest) different = (
  false_from_ne_true (is_in (take most rest) first)
      (λ is. both_ways (is_in rest first) different.0 (in_first most rest first is)),
  different_first most rest different.1,
)

-- and those of two lists that have none in common
different_parts : (ks more : List ℕ) → Different ks → Different more → ((k : ℕ) → is_in ks k ≡ true → is_in more k ≡ false)
    → Different (ks ++ more)
different_parts [] more one two apart = two
different_parts (first ∷ rest) more one two apart = (
  in_parts rest more first
      ∙ or_from (is_in rest first) (is_in more first) one.0
      (apart first (or_left (first == first) (is_in rest first) (eq-eqb first first refl))),
  different_parts rest more one.1 two (λ k is. apart k (or_right (first == k) (is_in rest k) is)),
)

-- a number of a filtered list is in the list, and passes
in_filter_by : (test : ℕ → Bool) (passes : Bool) (first k : ℕ) (rest kept : List ℕ) → test first ≡ passes
    → (is_in kept k ≡ true → (is_in rest k ≡ true) × (test k ≡ true))
    → is_in (cond passes (first ∷ kept) kept) k ≡ true
    → ((first == k) || is_in rest k ≡ true) × (test k ≡ true)
in_filter_by test true first k rest kept passes more is =
    elim (or_cases (first == k) (is_in kept k) is) [
      | inl same ↦ (or_left (first == k) (is_in rest k) same, sym (ap test (eqb-true first k same)) ∙ passes)
      | inr later ↦ (or_right (first == k) (is_in rest k) (more later).0, (more later).1)
    ]
in_filter_by test false first k rest kept passes more is = (or_right (first == k) (is_in rest k) (more is).0, (more is).1)

pub in_filter : (test : ℕ → Bool) (ks : List ℕ) (k : ℕ) → is_in (filter test ks) k ≡ true → (is_in ks k ≡ true) × (test k ≡ true)
in_filter test [] k is = absurd cc
in_filter test (first ∷ rest) k is =
    in_filter_by test (test first) first k rest (filter test rest) refl (in_filter test rest k) is

-- the sectors of a range that pass a test are different
pub different_pass : (test : ℕ → Bool) (from n : ℕ) → Different (filter test (range_with_len from n))
different_pass test from zero = tt
different_pass test from (suc n) =
    let rest = filter test (range_with_len (from + 1) n) in
    let apart : is_in rest from ≡ false = false_from_ne_true (is_in rest from) (λ is.
    let here = in_filter test (range_with_len (from + 1) n) from is in
    let inside = inside_of (from + 1) n from (sym (in_range (from + 1) n from) ∙ here.0) in
    omega (arith, inside.0)) in
    elim (test from) as (λ b. Different (cond b (from ∷ rest) rest)) [
      | true ↦ (apart, different_pass test (from + 1) n)
      | false ↦ different_pass test (from + 1) n
    ]

-- ---- how many they are

-- a sector more of a range
count_one : (test : ℕ → Bool) (one from n : ℕ) → test one ≡ false → from ≤ one → one < from + n
    → length (filter (λ k. (one == k) || test k) (range_with_len from n)) ≡ suc (length (filter test (range_with_len from n)))
count_one test one from zero not low high = absurd (omega arith)
count_one test one from (suc n) not low high =
    let with_it : ℕ → Bool = λ k. (one == k) || test k in
    let rest = filter with_it (range_with_len (from + 1) n) in
    let others = filter test (range_with_len (from + 1) n) in
    elim (cases_eq one from) [
      | inl same ↦
          let here : with_it from ≡ true = or_left (one == from) (test from) (eq-eqb one from same) in
          let same_rest : rest ≡ others = same_pass with_it test (from + 1) n
          (λ k low high. let other : (one == k) ≡ false = grind (arith, nat_tests) in ap (λ b. b || test k) other) in
          let out : test from ≡ false = ap test (sym same) ∙ not in
          ap (λ b. length (cond b (from ∷ rest) rest)) here
          ∙ ap (λ ks. suc (length ks)) same_rest
          ∙ sym (ap (λ b. suc (length (cond b (from ∷ others) others))) out)
      | inr apart ↦
          let other : (one == from) ≡ false = grind (arith, nat_tests) in
          let more : length rest ≡ suc (length others) =
          count_one test one (from + 1) n not (omega (arith, apart)) (omega arith) in
          ap (λ b. length (cond (b || test from) (from ∷ rest) rest)) other
          ∙ elim (test from) as (λ b. length (cond b (from ∷ rest) rest) ≡ suc (length (cond b (from ∷ others) others))) [
            | true ↦ ap suc more
            | false ↦ more
          ]
    ]

-- as many sectors of a volume are in a list of different ones as that has
pub count_different : (volume : ℕ) (ks : List ℕ) → Different ks → ((k : ℕ) → is_in ks k ≡ true → k < volume)
    → length (filter (is_in ks) (range_with_len 0 volume)) ≡ length ks
count_different volume [] different below = ap length (none_pass (is_in []) 0 volume (λ k low high. refl))
count_different volume (first ∷ rest) different below =
    count_one (is_in rest) first 0 volume different.0 (omega arith)
    (omega (arith, below first (or_left (first == first) (is_in rest first) (eq-eqb first first refl))))
    ∙ ap suc (count_different volume rest different.1 (λ k is. below k (or_right (first == k) (is_in rest k) is)))

-- ---- the victims

module _ (number : ℕ) where
  abbrev count : List ObjectRow → ℕ
  count rows = count_by (has_number number) rows

  count_more : (row : ObjectRow) (rows : List ObjectRow) → count (row ∷ rows) ≡ cond (has_number number row) 1 0 + count rows
  count_more row rows = sum_by-cons (λ (row : ObjectRow). cond (has_number number row) 1 0) row rows

  -- a number that is there counts
  some_counts : (rows : List ObjectRow) → is_in (numbers rows) number ≡ true → 1 ≤ count rows
  some_counts [] is = absurd cc
  some_counts (row ∷ rows) is =
      elim (or_cases (row.number == number) (is_in (numbers rows) number) is) [
        | inl same ↦ omega (arith, count_more row rows, ap {B = ℕ} (λ b. cond b 1 0) same)
        | inr later ↦ omega (arith, count_more row rows, some_counts rows later)
      ]

  -- of ascending numbers each counts once at most, and one below them not at all
  none_below : (low : ℕ) (rows : List ObjectRow) → Climbs low (numbers rows) → number ≤ low → count rows ≡ 0
  none_below low [] order below = refl
  none_below low (row ∷ rows) order below =
      let other : has_number number row ≡ false = grind (arith, nat_tests) in
      omega (
        arith,
        count_more row rows,
        ap {B = ℕ} (λ b. cond b 1 0) other,
        none_below row.number rows order.1 (omega (arith, order.0)),
      )

  once : (low : ℕ) (rows : List ObjectRow) → Climbs low (numbers rows) → count rows ≤ 1
  once low [] order = omega arith
  once low (row ∷ rows) order =
      elim (cases_eq row.number number) [
        | inl same ↦ omega (
          arith,
          count_more row rows,
          ap {B = ℕ} (λ b. cond b 1 0) (eq-eqb row.number number same),
          none_below row.number rows order.1 (omega (arith, same)),
        )
        | inr apart ↦
            let other : has_number number row ≡ false = grind (arith, nat_tests) in
            omega (arith, count_more row rows, ap {B = ℕ} (λ b. cond b 1 0) other, once row.number rows order.1)
      ]

  -- rows that are kept count no more
  kept_counts : (test : ObjectRow → Bool) (rows : List ObjectRow) → count (filter test rows) ≤ count rows
  kept_counts test [] = omega arith
  kept_counts test (row ∷ rows) =
      let rest = filter test rows in
      elim (test row) as (λ b. count (cond b (row ∷ rest) rest) ≤ count (row ∷ rows)) [
        | true ↦ omega (arith, count_more row rest, count_more row rows, kept_counts test rows)
        | false ↦ omega (arith, count_more row rows, kept_counts test rows)
      ]

-- rows of which each number counts once at most have different ones
different_numbers : (rows : List ObjectRow) → ((number : ℕ) → count number rows ≤ 1) → Different (numbers rows)
different_numbers [] once = tt
different_numbers (row ∷ rows) once = (
  false_from_ne_true (is_in (numbers rows) row.number) (λ is. omega (
    arith,
    some_counts row.number rows is,
    count_more row.number row rows,
    ap {B = ℕ} (λ b. cond b 1 0) (eq-eqb row.number row.number refl),
    once row.number,
  )),
  different_numbers rows (λ number. omega (arith, count_more number row rows, once number)),
)

pub different_victims : (rows : List ObjectRow) (victims : List ℕ) → Climbs 0 (numbers rows) → AreVictims rows victims
    → Different victims
different_victims rows victims order are =
    subst Different (sym are.are) (different_numbers are.taken (λ number.
    omega (
      arith,
      sum_by-IsPermutation (λ (row : ObjectRow). cond (has_number number row) 1 0) (filter is_candidate rows) are.taken
          are.each_once,
      kept_counts number is_candidate rows,
      once number 0 rows order,
    )))

-- ---- the sectors of victims

-- which sectors are copied
abbrev pub lbas : List CopiedSector → List ℕ
lbas copied = map (λ (sector : CopiedSector). sector.lba) copied

lbas_of : (number : ℕ) (ks : List ℕ) → lbas (map (copied_from number) ks) ≡ ks
lbas_of number [] = refl
lbas_of number (first ∷ rest) = ap (λ ks. first ∷ ks) (lbas_of number rest)

-- they are those that have a source
pub in_lbas : (copied : List CopiedSector) (k : ℕ) → is_in (lbas copied) k ≡ is_some (source_in copied k)
in_lbas [] k = refl
in_lbas (first ∷ rest) k =
    ap (λ b. (first.lba == k) || b) (in_lbas rest k)
    ∙ elim (first.lba == k) as (λ b. (b || is_some (source_in rest k))
    ≡ is_some (cond b (Some first.source) (source_in rest k))) [
      | true ↦ refl
      | false ↦ refl
    ]

-- the source of a sector of a front
source_first : (most : ℕ) (copied : List CopiedSector) (k source : ℕ) → source_in (take most copied) k ≡ Some source
    → source_in copied k ≡ Some source
source_first zero copied k source is = absurd cc
source_first (suc most) [] k source is = is
source_first (suc most) (first ∷ rest) k source is =
    elim (first.lba == k) as (λ b. cond b (Some first.source) (source_in (take most rest) k) ≡ Some source
    → cond b (Some first.source) (source_in rest k) ≡ Some source) [
      | true ↦ λ is. is
      | false ↦ λ is. source_first most rest k source is
    ] is

module _ (live : ℕ → List ℕ) where
  abbrev all : List ℕ → List CopiedSector
  all victims = flat_map (λ number. map (copied_from number) (live number)) victims

  lbas_all : (victims : List ℕ) → lbas (all victims) ≡ flat_map live victims
  lbas_all [] = refl
  lbas_all (victim ∷ victims) =
      map-append (λ (sector : CopiedSector). sector.lba) (map (copied_from victim) (live victim)) (all victims)
      ∙ ap (λ ks. ks ++ lbas (all victims)) (lbas_of victim (live victim))
      ∙ ap (λ ks. live victim ++ ks) (lbas_all victims)

  -- a sector is in its source
  source_by : (isin : Bool) (victim source k : ℕ) (rest : Option ℕ) → is_in (live victim) k ≡ isin
      → (rest ≡ Some source → is_in (live source) k ≡ true) → option_or (cond isin (Some victim) None) rest ≡ Some source
      → is_in (live source) k ≡ true
  source_by true victim source k rest here more is = subst (λ n. is_in (live n) k ≡ true) (same_Some victim source is) here
  source_by false victim source k rest out more is = more is

  in_source : (victims : List ℕ) (k source : ℕ) → source_in (all victims) k ≡ Some source → is_in (live source) k ≡ true
  in_source [] k source is = absurd cc
  in_source (victim ∷ victims) k source is =
      source_by (is_in (live victim) k) victim source k (source_in (all victims) k) refl (in_source victims k source)
      (sym (source_parts (map (copied_from victim) (live victim)) (all victims) k
      ∙ ap (λ s. option_or s (source_in (all victims) k)) (source_of victim (live victim) k)) ∙ is)

  pub in_planned : (most : ℕ) (victims : List ℕ) (k source : ℕ) → source_in (planned most live victims) k ≡ Some source
      → is_in (live source) k ≡ true
  in_planned most victims k source is = in_source victims k source (source_first most (all victims) k source is)

  module _ (apart : (one other k : ℕ) → is_in (live one) k ≡ true → is_in (live other) k ≡ true → one ≡ other)
      (each : (number : ℕ) → Different (live number)) where
    -- an object with a sector of victims is one of them
    its_victim : (victims : List ℕ) (number k : ℕ) → is_in (live number) k ≡ true → is_in (flat_map live victims) k ≡ true
        → is_in victims number ≡ true
    its_victim [] number k own is = absurd cc
    its_victim (victim ∷ victims) number k own is =
        elim (or_cases (is_in (live victim) k) (is_in (flat_map live victims) k)
        (sym (in_parts (live victim) (flat_map live victims) k) ∙ is)) [
          | inl here ↦ or_left (victim == number) (is_in victims number) (eq-eqb victim number (apart victim number k here own))
          | inr later ↦ or_right (victim == number) (is_in victims number) (its_victim victims number k own later)
        ]

    different_live : (victims : List ℕ) → Different victims → Different (flat_map live victims)
    different_live [] different = tt
    different_live (victim ∷ victims) different =
        different_parts (live victim) (flat_map live victims) (each victim) (different_live victims different.1) (λ k own.
        false_from_ne_true (is_in (flat_map live victims) k) (λ later.
        both_ways (is_in victims victim) different.0 (its_victim victims victim k own later)))

    -- as many sectors of a volume have a source as are planned
    module _ (volume : ℕ) (below : (number k : ℕ) → is_in (live number) k ≡ true → k < volume) where
      victims_below : (victims : List ℕ) (k : ℕ) → is_in (flat_map live victims) k ≡ true → k < volume
      victims_below [] k is = absurd cc
      victims_below (victim ∷ victims) k is =
          elim (or_cases (is_in (live victim) k) (is_in (flat_map live victims) k)
          (sym (in_parts (live victim) (flat_map live victims) k) ∙ is)) [
            | inl here ↦ below victim k here
            | inr later ↦ victims_below victims k later
          ]

      pub planned_count : (most : ℕ) (victims : List ℕ) → Different victims
          → length (filter (λ k. is_some (source_in (planned most live victims) k)) (range_with_len 0 volume))
          ≡ length (planned most live victims)
      planned_count most victims different =
          let copied = planned most live victims in
          let front : take most (flat_map live victims) ≡ lbas copied =
          ap (take most) (sym (lbas_all victims)) ∙ take-map (λ (sector : CopiedSector). sector.lba) most (all victims) in
          let once : Different (lbas copied) = subst Different front
          (different_first most (flat_map live victims) (different_live victims different)) in
          ap length (same_pass (λ k. is_some (source_in copied k)) (is_in (lbas copied)) 0 volume
          (λ k low high. sym (in_lbas copied k)))
          ∙ count_different volume (lbas copied) once
          (λ k is. victims_below victims k (in_first most (flat_map live victims) k (ap (λ ks. is_in ks k) front ∙ is)))
          ∙ length-map copied (λ (sector : CopiedSector). sector.lba)
