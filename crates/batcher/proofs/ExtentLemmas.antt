-- What the extents of a plan have, by what the sectors get from its entries.
use Rattle.std.proofs.Common.{◌≡◌, ℕ, zero, suc, ◌+◌, ◌-◌, ◌/◌, ◌<◌, ◌≤◌, min, inl, inr, Bool, true, false, cond, Option, Some}
use Rattle.std.proofs.Common.{None, List, [], ◌∷◌, length, refl, ap, subst, ◌∙◌, arith}
use Rattle.std.specs.Option.{option_or}
use Rattle.std.specs.List.{sum_by}
use Rattle.std.proofs.lemmas.Bool.{cases_lt}
use Rattle.std.proofs.lemmas.List.Sums.{sum_by-cons}
use Rattle.lsvd_base.specs.declared.entry.Entry.{Entry}
use Rattle.lsvd_base.specs.declared.entry.Entry.TheVariants.{Write, Zero}
use Rattle.extent_map.specs.declared.extent.Extent.{Extent}
use Rattle.extent_map.specs.Extents.{is_within, place_at, IsShortest}
use Rattle.extent_map.specs.Join.{EndBy}
use Rattle.extent_map.specs.Laws.{StartsFrom}
use Rattle.extent_map.proofs.Places.{at_inside, at_past, after_row, none_before, not_below, not_past}
use Rattle.object_format.specs.Rows.{payload_at}
use Rattle.batcher.specs.declared.place.BatchPlace.{BatchPlace}
use Rattle.batcher.specs.declared.place.BatchPlace.TheVariants.{Data, Zeros}
use Rattle.batcher.specs.Batch.{data_sectors}
use Rattle.batcher.specs.Places.{place_on, extent_of, extent_place, place_by}
use Rattle.batcher.specs.Rows.{row_place, extent_payload, IsInBody, AreInBodies}
use Rattle.batcher.proofs.PlaceLemmas.{HasSector}

-- ---- one extent after the other

-- extents give no sector another place than this
abbrev pub Agree : (ℕ → Option BatchPlace) → List (Extent BatchPlace) → Type 0
Agree places extents = (k : ℕ) (place : BatchPlace) → place_at place_on extents k ≡ Some place → places k ≡ Some place

tail_agrees : (places : ℕ → Option BatchPlace) (extent : Extent BatchPlace) (extents : List (Extent BatchPlace))
    → IsShortest place_on (extent ∷ extents)
    → Agree places (extent ∷ extents) → Agree places extents
tail_agrees places extent extents shortest agree k place gives =
    let end = extent.lba + extent.sectors in
    elim (cases_lt k end) [
      | inl low ↦ let none = none_before place_on extents end k shortest.2 (after_row place_on extent extents shortest.1) low in
          cc
      | inr past ↦ agree k place (at_past place_on extent extents k past ∙ gives)
    ]

-- the last sector of an extent gets its last place
last_gets : (places : ℕ → Option BatchPlace) (extent : Extent BatchPlace) (extents : List (Extent BatchPlace))
    → 0 < extent.sectors
    → Agree places (extent ∷ extents) → places (extent.lba + (extent.sectors - 1))
    ≡ Some (place_on (extent.sectors - 1) extent.place)
last_gets places extent extents some agree =
    let k = extent.lba + (extent.sectors - 1) in
    let on : k - extent.lba ≡ extent.sectors - 1 = omega arith in
    agree k (place_on (extent.sectors - 1) extent.place)
    (at_inside place_on extent extents k (omega arith) (omega (arith, some)) ∙ ap (λ n. Some (place_on n extent.place)) on)

-- ---- their data are in the bodies of the entries

in_body : (entries : List Entry) (sectors : ℕ) (place : BatchPlace) → 0 < sectors
    → ((at sector : ℕ) → Some (place_on (sectors - 1) place) ≡ Some (Data at sector) → HasSector entries at sector)
    → IsInBody entries sectors place
in_body entries sectors (Data entry from) some has =
    let last = has entry (from + (sectors - 1)) refl in
    (last.0, omega (arith, last.1, some))
in_body entries sectors Zeros some has = tt

pub in_bodies : (entries : List Entry) (places : ℕ → Option BatchPlace) (extents : List (Extent BatchPlace))
    → IsShortest place_on extents
    → Agree places extents → ((k at sector : ℕ) → places k ≡ Some (Data at sector) → HasSector entries at sector)
    → AreInBodies entries extents
in_bodies entries places [] shortest agree has = tt
in_bodies entries places (extent ∷ extents) shortest agree has =
    let last = last_gets places extent extents shortest.0 agree in (
      in_body entries extent.sectors extent.place shortest.0 (λ at sector is. has (extent.lba + (extent.sectors - 1)) at sector
          (last ∙ is)),
      in_bodies entries places extents shortest.2 (tail_agrees places extent extents shortest agree) has,
    )

-- ---- they are inside the volume

pub end_inside : (sectors : ℕ) (places : ℕ → Option BatchPlace) (extents : List (Extent BatchPlace)) → IsShortest place_on extents
    → Agree places extents → ((k : ℕ) (place : BatchPlace) → places k ≡ Some place → k < sectors) → EndBy sectors extents
end_inside sectors places [] shortest agree inside = tt
end_inside sectors places (extent ∷ extents) shortest agree inside =
    let last = last_gets places extent extents shortest.0 agree in
    let low : extent.lba + (extent.sectors - 1) < sectors =
    inside (extent.lba + (extent.sectors - 1)) (place_on (extent.sectors - 1) extent.place) last in (
      omega (arith, low, shortest.0),
      end_inside sectors places extents shortest.2 (tail_agrees places extent extents shortest agree) inside,
    )

-- ---- how many sectors of data there are

-- a sector with data counts one
weight : Option BatchPlace → ℕ
weight None = 0
weight (Some Zeros) = 0
weight (Some (Data entry from)) = 1

-- how many of the sectors from one on have data
count : (ℕ → Option BatchPlace) → (from n : ℕ) → ℕ
count places from zero = 0
count places from (suc n) = weight (places from) + count places (suc from) n

count_split : (f : ℕ → Option BatchPlace) (from a b n middle : ℕ) → n ≡ a + b → middle ≡ from + a
    → count f from n ≡ count f from a + count f middle b
unfolding count
count_split f from zero b n middle sum place =
    let all : n ≡ b = omega arith in
    let start : from ≡ middle = omega arith in
    omega (arith, ap (count f from) all, ap (λ at. count f at b) start)
count_split f from (suc a) b n middle sum place =
    let all : n ≡ suc (a + b) = omega arith in
    omega (arith, ap (count f from) all, count_split f (suc from) a b (a + b) middle refl (omega arith))

count_same : (f g : ℕ → Option BatchPlace) (from n : ℕ) → ((k : ℕ) → from ≤ k → k < from + n → f k ≡ g k)
    → count f from n ≡ count g from n
unfolding count
count_same f g from zero same = refl
count_same f g from (suc n) same =
    let here : weight (f from) ≡ weight (g from) = ap weight (same from (omega arith) (omega arith)) in
    let rest = count_same f g (suc from) n (λ k low high. same k (omega arith) (omega arith)) in
    omega (arith, here, rest)

count_all : (f : ℕ → Option BatchPlace) (from n : ℕ) → ((k : ℕ) → from ≤ k → k < from + n → weight (f k) ≡ 1) → count f from n ≡ n
unfolding count
count_all f from zero one = refl
count_all f from (suc n) one =
    let rest = count_all f (suc from) n (λ k low high. one k (omega arith) (omega arith)) in
    omega (arith, one from (omega arith) (omega arith), rest)

count_none : (f : ℕ → Option BatchPlace) (from n : ℕ) → ((k : ℕ) → weight (f k) ≡ 0) → count f from n ≡ 0
unfolding count
count_none f from zero none = refl
count_none f from (suc n) none = omega (arith, none from, count_none f (suc from) n none)

-- ---- by extents

extent_counts : (f : ℕ → Option BatchPlace) (lba sectors : ℕ) (place : BatchPlace)
    → ((k : ℕ) → lba ≤ k → k < lba + sectors → f k ≡ Some (place_on (k - lba) place))
    → payload_at sectors (row_place 0 place) ≤ count f lba sectors
unfolding weight
extent_counts f lba sectors (Data entry from) gives =
    let all = count_all f lba sectors (λ k low high. ap weight (gives k low high)) in
    omega (arith, all)
extent_counts f lba sectors Zeros gives = omega arith

extents_count : (extents : List (Extent BatchPlace)) (from n : ℕ) → IsShortest place_on extents → StartsFrom from extents
    → EndBy (from + n) extents
    → sum_by extent_payload extents ≤ count (place_at place_on extents) from n
extents_count [] from n shortest starts ends = omega arith
extents_count (extent ∷ extents) from n shortest starts ends =
    let f = place_at place_on (extent ∷ extents) in
    let end = extent.lba + extent.sectors in
    let gap = extent.lba - from in
    let past = from + n - end in
    let room : end ≤ from + n = ends.0 in
    let split = count_split f from (gap + extent.sectors) past n end (omega (arith, starts, room)) (omega (arith, starts)) in
    let front = count_split f from gap extent.sectors (gap + extent.sectors) extent.lba refl (omega (arith, starts)) in
    let here = extent_counts f extent.lba extent.sectors extent.place
    (λ k low high. at_inside place_on extent extents k low high) in
    let rest = count_same f (place_at place_on extents) end past (λ k low high. at_past place_on extent extents k low) in
    let same : from + n ≡ end + past = omega (arith, room) in
    let more = extents_count extents end past shortest.2 (after_row place_on extent extents shortest.1)
    (subst (λ at. EndBy at extents) same ends.1) in
    omega (arith, split, front, here, rest, more, sum_by-cons extent_payload extent extents)

-- ---- by entries

weight_one : (place : Option BatchPlace) → weight place ≤ 1
unfolding weight
weight_one None = omega arith
weight_one (Some Zeros) = omega arith
weight_one (Some (Data entry from)) = omega arith

weight_or : (a b : Option BatchPlace) → weight (option_or a b) ≤ weight a + weight b
unfolding weight
weight_or None b = omega arith
weight_or (Some place) b = omega arith

weight_zeros : (b : Bool) → weight (cond b (Some Zeros) None) ≡ 0
unfolding weight
weight_zeros true = refl
weight_zeros false = refl

count_or : (f a b : ℕ → Option BatchPlace) (from n : ℕ) → ((k : ℕ) → f k ≡ option_or (a k) (b k))
    → count f from n ≤ count a from n + count b from n
unfolding count
count_or f a b from zero is = omega arith
count_or f a b from (suc n) is =
    omega (arith, ap weight (is from), weight_or (a from) (b from), count_or f a b (suc from) n is)

count_range : (f : ℕ → Option BatchPlace) (lba sectors from n : ℕ)
    → ((k : ℕ) → is_within lba sectors k ≡ false → weight (f k) ≡ 0)
    → count f from n ≤ min sectors (lba + sectors - from)
unfolding count
count_range f lba sectors from zero none = omega arith
count_range f lba sectors from (suc n) none =
    let rest = count_range f lba sectors (suc from) n none in
    elim (cases_lt from lba) [
      | inl early ↦ omega (arith, rest, none from (not_below lba sectors from early))
      | inr after ↦ elim (cases_lt from (lba + sectors)) [
        | inl inside ↦ omega (arith, rest, weight_one (f from))
        | inr past ↦ omega (arith, rest, none from (not_past lba sectors from past))
      ]
    ]

weight_off : (b : Bool) (place : BatchPlace) → b ≡ false → weight (cond b (Some place) None) ≡ 0
unfolding weight
weight_off b place off = ap (λ t. weight (cond t (Some place) None)) off

entry_counts : (entry : Entry) (index from n : ℕ) → count (extent_place (extent_of index entry)) from n ≤ data_sectors entry
entry_counts (Write lba body) index from n =
    let few = count_range (extent_place (extent_of index (Write lba body))) lba (length body / 512) from n
    (λ k off. weight_off (is_within lba (length body / 512) k) (Data index (0 + (k - lba))) off) in
    omega (arith, few)
entry_counts (Zero lba sectors) index from n =
    let none = count_none (extent_place (extent_of index (Zero lba sectors))) from n
    (λ k. weight_zeros (is_within lba sectors k)) in
    omega (arith, none)

entries_count : (entries : List Entry) (index from n : ℕ) → count (place_by index entries) from n ≤ sum_by data_sectors entries
unfolding weight
entries_count [] index from n =
    let none = count_none (place_by index []) from n (λ k. refl) in
    omega (arith, none)
entries_count (entry ∷ entries) index from n =
    let parts = count_or (place_by index (entry ∷ entries)) (place_by (suc index) entries) (extent_place (extent_of index entry))
    from n (λ k. refl) in
    omega (
      arith,
      parts,
      entries_count entries (suc index) from n,
      entry_counts entry index from n,
      sum_by-cons data_sectors
          entry entries,
    )

starts_from_0 : (extents : List (Extent BatchPlace)) → StartsFrom 0 extents
starts_from_0 [] = tt
starts_from_0 (extent ∷ extents) = omega arith

zero_plus : (n : ℕ) → n ≡ 0 + n
zero_plus n = omega arith

-- the extents have no more sectors of data than the entries
pub payload_few : (entries : List Entry) (extents : List (Extent BatchPlace)) (sectors : ℕ) → IsShortest place_on extents
    → EndBy sectors extents
    → ((k : ℕ) → place_at place_on extents k ≡ place_by 0 entries k) → sum_by extent_payload extents ≤ sum_by data_sectors entries
payload_few entries extents sectors shortest ends same =
    let all = extents_count extents 0 sectors shortest (starts_from_0 extents)
    (subst (λ at. EndBy at extents) (zero_plus sectors) ends) in
    omega (
      arith,
      all,
      count_same (place_at place_on extents) (place_by 0 entries) 0 sectors (λ k low high. same k),
      entries_count
          entries 0 0 sectors,
    )
