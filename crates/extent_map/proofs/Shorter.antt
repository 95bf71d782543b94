-- No list of rows in order that gives the places of a shortest list is shorter.
use Rattle.std.proofs.Common.{ℕ, ◌+◌, ◌-◌, ◌<◌, ◌≤◌, ◌≡◌, inl, inr, Some, None, List, [], ◌∷◌, length, refl, sym, ◌∙◌, ap, arith}
use Rattle.std.proofs.lemmas.Bool.{cases_lt, cases_order}
use Rattle.extent_map.specs.declared.extent.Extent.{Extent}
use Rattle.extent_map.specs.Extents.{place_at, ComesBeforeFirst, IsShortest}
use Rattle.extent_map.specs.Laws.{StartsFrom, IsInOrder}
use Rattle.extent_map.proofs.Places.{starts_earlier, at_inside, at_below, at_past, none_before}
use Rattle.extent_map.proofs.OneList.{not_on}

module _ {P : Type 0} where
  -- the first of these rows ends past a sector
  abbrev pub ReachesPast : ℕ → List (Extent P) → Type 0
  ReachesPast at [] = Unit {0}
  ReachesPast at (row ∷ rows) = at < row.lba + row.sectors

  starts_somewhere : (rows : List (Extent P)) → StartsFrom 0 rows
  starts_somewhere [] = tt
  starts_somewhere (row ∷ rows) = omega arith

  -- the first sector of a row that is not before another
  record IsFirstOf (row : Extent P) (at k : ℕ) : Type 0 where
    from : at ≤ k
    in_row : row.lba ≤ k
    before_end : k < row.lba + row.sectors
    at_start : at < k → k ≡ row.lba

  first_of : (row : Extent P) (at : ℕ) → 0 < row.sectors → at < row.lba + row.sectors → (k : ℕ) × IsFirstOf row at k
  first_of row at some reaches =
      elim (cases_lt at row.lba) [
        | inl early ↦
            (row.lba, record { from = omega arith; in_row = omega arith; before_end = omega arith; at_start = λ _. refl })
        | inr inside ↦
            (at, record { from = omega arith; in_row = inside; before_end = reaches; at_start = λ less. absurd (omega arith) })
      ]

module _ {P : Type 0} (on : ℕ → P → P) (on_none : (p : P) → on 0 p ≡ p)
    (on_twice : (a b : ℕ) (p : P) → on a (on b p) ≡ on (b + a) p) where
  -- rows in order cover no sector below the first one's
  none_below : (rows : List (Extent P)) (at k : ℕ) → IsInOrder rows → StartsFrom at rows → k < at
      → place_at on rows k ≡ None
  none_below [] at k order starts low = refl
  none_below (row ∷ rows) at k order starts low =
      at_below on row rows k (omega arith) ∙ none_below rows (row.lba + row.sectors) k order.1 order.0 (omega arith)

  no_sectors : (row : Extent P) (rows : List (Extent P)) (k : ℕ) → row.sectors ≤ 0
      → place_at on (row ∷ rows) k ≡ place_at on rows k
  no_sectors row rows k none =
      elim (cases_lt k row.lba) [
        | inl low ↦ at_below on row rows k low
        | inr high ↦ at_past on row rows k (omega arith)
      ]

  rest_reaches : (row : Extent P) (rows : List (Extent P)) (at : ℕ) → ComesBeforeFirst on row rows → IsShortest on rows
      → at ≤ row.lba + row.sectors → ReachesPast at rows
  rest_reaches row [] at before shortest le = tt
  rest_reaches row (next ∷ rows) at before shortest le = omega (arith, before.in_order, shortest.0)

  -- two lists that give the same places from a sector on, of which the second begins with a row of some sectors
  module _ (row other : Extent P) (rows others : List (Extent P)) (at k : ℕ) (first : IsFirstOf row at k)
      (shortest : IsShortest on (row ∷ rows)) (order : IsInOrder (other ∷ others)) (starts : at ≤ other.lba)
      (some : 0 < other.sectors)
      (same : (n : ℕ) → at ≤ n → place_at on (row ∷ rows) n ≡ place_at on (other ∷ others) n) where
    other_starts : other.lba ≡ k
    other_starts =
        elim (cases_order other.lba k) [
          | inl is ↦ is
          | inr differ ↦ elim differ [
            | inl early ↦
                let start = first.at_start (omega arith) in
                let none = none_before on (row ∷ rows) row.lba other.lba shortest (omega arith) (omega arith) in
                let found = at_inside on other others other.lba (omega arith) (omega arith) in
                let here = same other.lba starts in
                absurd (cc)
            | inr late ↦
                let none = none_below (other ∷ others) other.lba k order (omega arith) late in
                let found = at_inside on row rows k first.in_row first.before_end in
                let here = same k first.from in
                absurd (cc)
          ]
        ]

    other_place : on (k - row.lba) row.place ≡ other.place
    other_place =
        let in_row = at_inside on row rows k first.in_row first.before_end in
        let in_other = at_inside on other others k (omega (arith, other_starts)) (omega (arith, other_starts)) in
        let here = same k first.from in
        let near : k - other.lba ≡ 0 = omega (arith, other_starts) in
        let is = on_none other.place in
        cc

    other_ends : other.lba + other.sectors ≤ row.lba + row.sectors
    other_ends =
        elim (cases_lt (row.lba + row.sectors) (other.lba + other.sectors)) [
          | inl over ↦
              let end = row.lba + row.sectors in
              let start = other_starts in
              let in_rows = at_past on row rows end (omega arith) in
              let in_other = at_inside on other others end (omega (arith, start, first.before_end)) over in
              let here = same end (omega (arith, first.from, first.before_end)) in
              let far : k - row.lba + (end - other.lba) ≡ row.sectors = omega (arith, start, first.in_row, first.before_end) in
              let there = ap (on (end - other.lba)) (sym other_place)
              ∙ on_twice (end - other.lba) (k - row.lba) row.place
              ∙ ap (λ n. on n row.place) far in
              absurd (not_on on on_none row rows shortest (sym in_rows ∙ here ∙ in_other ∙ ap (λ p. Some p) there))
          | inr within ↦ within
        ]

  no_longer_from : (others rows : List (Extent P)) (at : ℕ) → IsShortest on rows → IsInOrder others → StartsFrom at others
      → ReachesPast at rows → ((n : ℕ) → at ≤ n → place_at on rows n ≡ place_at on others n)
      → length rows ≤ length others
  no_longer_from others [] at shortest order starts reaches same = omega arith
  no_longer_from [] (row ∷ rows) at shortest order starts reaches same =
      let first = first_of row at shortest.0 reaches in
      let found = at_inside on row rows first.0 first.1.in_row first.1.before_end in
      let here = same first.0 first.1.from in
      absurd (cc)
  no_longer_from (other ∷ others) (row ∷ rows) at shortest order starts reaches same =
      elim (cases_lt 0 other.sectors) [
        | inl some ↦
            let first = first_of row at shortest.0 reaches in
            let within = other_ends row other rows others at first.0 first.1 shortest order starts some same in
            let end = other.lba + other.sectors in
            elim (cases_lt end (row.lba + row.sectors)) [
              | inl less ↦
                  let rest = no_longer_from others (row ∷ rows) end shortest order.1 order.0 less
                  (λ n high. same n (omega arith) ∙ at_past on other others n high) in
                  omega (arith, rest)
              | inr all ↦
                  let rest = no_longer_from others rows end shortest.2 order.1 order.0
                  (rest_reaches row rows end shortest.1 shortest.2 within)
                  (λ n high. sym (at_past on row rows n (omega arith)) ∙ same n (omega arith) ∙ at_past on other others n high) in
                  omega (arith, rest)
            ]
        | inr none ↦
            let rest = no_longer_from others (row ∷ rows) at shortest order.1
            (starts_earlier at (other.lba + other.sectors) others (omega arith) order.0) reaches
            (λ n from. same n from ∙ no_sectors other others n none) in
            omega (arith, rest)
      ]

  reaches_first : (rows : List (Extent P)) → IsShortest on rows → ReachesPast 0 rows
  reaches_first [] shortest = tt
  reaches_first (row ∷ rows) shortest = omega (arith, shortest.0)

  pub no_longer : (rows others : List (Extent P)) → IsShortest on rows → IsInOrder others
      → ((k : ℕ) → place_at on rows k ≡ place_at on others k) → length rows ≤ length others
  no_longer rows others shortest order same =
      no_longer_from others rows 0 shortest order (starts_somewhere others) (reaches_first rows shortest) (λ n from. same n)
