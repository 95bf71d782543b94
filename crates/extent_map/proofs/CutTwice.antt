-- Rows from a sector on that are cut at a later one, and the rows between both.
use Rattle.std.proofs.Common.{ℕ, zero, suc, ◌+◌, ◌-◌, ◌<◌, ◌≤◌, ◌≡◌, inl, inr, Option, Bool, true, false, List, [], ◌∷◌, ◌++◌}
use Rattle.std.proofs.Common.{length, take, drop, refl, sym, ◌∙◌, ap, subst, arith, length-append}
use Rattle.std.specs.Prelude.{MatchOption, IsTrue, ◌↔◌}
use Rattle.std.specs.List.{slice_get}
use Rattle.std.proofs.lemmas.Bool.{cases_lt}
use Rattle.std.proofs.lemmas.List.{take-take, drop-drop}
use Rattle.std.proofs.Math.Numerals.{one-add}
use Rattle.extent_map.specs.declared.extent.Extent.{Extent}
use Rattle.extent_map.specs.Extents.{IsShortest, AllFit}
use Rattle.extent_map.proofs.Order.{shortest_take, fit_take}
use Rattle.extent_map.specs.Cut.{part_before, part_from, rest_of, rows_before, rows_from, before_count}
use Rattle.extent_map.proofs.Cuts.{from_starts, from_crosses, from_ends, rest_crosses, rest_ends, before_ends, before_crosses}
use Rattle.extent_map.proofs.Cuts.{nothing_before}
use Rattle.extent_map.proofs.Counts.{count_early, count_late}
use Rattle.extent_map.proofs.Cuts.{shortest_from}
use Rattle.extent_map.proofs.CutPlaces.{count_from, count_cut}

module _ {P : Type 0} where
  -- how many more begin before a later sector
  pub count_more : (lba end : ℕ) (rows : List (Extent P)) → lba ≤ end
      → before_count end rows ≡ before_count lba rows + before_count end (drop (before_count lba rows) rows)
  count_more lba end [] order = omega arith
  count_more lba end (row ∷ rows) order =
      elim (cases_lt row.lba lba) [
        | inl early ↦
            let first = count_early lba row rows early in
            let second = count_early end row rows (omega (arith, early, order)) in
            omega (
              arith,
              first,
              second,
              count_more lba end rows order,
              ap (λ n. before_count end (drop n (row ∷ rows))) first,
              ap (λ k. before_count end (drop k (row ∷ rows))) (one-add (before_count lba rows)),
            )
        | inr late ↦
            let first = count_late lba row rows late in
            omega (arith, first, ap (λ n. before_count end (drop n (row ∷ rows))) first)
      ]

module _ {P : Type 0} (on : ℕ → P → P) (on_twice : (a b : ℕ) (p : P) → on a (on b p) ≡ on (b + a) p) where
  rest_twice : (lba end : ℕ) (row : Extent P) → row.lba < lba → lba ≤ end → end < row.lba + row.sectors
      → rest_of on end (rest_of on lba row) ≡ rest_of on end row
  rest_twice lba end row early order over =
      let sectors : lba + (row.lba + row.sectors - lba) - end ≡ row.lba + row.sectors - end = omega arith in
      let far : lba - row.lba + (end - lba) ≡ end - row.lba = omega arith in
      let place = on_twice (end - lba) (lba - row.lba) row.place ∙ ap (λ n. on n row.place) far in
      ap (λ n. record { lba = end; sectors = n; place = on (end - lba) (on (lba - row.lba) row.place) }) sectors
      ∙ ap (λ p. record { lba = end; sectors = row.lba + row.sectors - end; place = p }) place

  -- what is left from the later sector on of a row that reaches over the first
  part_twice : (lba end : ℕ) (row : Extent P) (rows : List (Extent P)) → lba < end → row.lba < lba → lba < row.lba + row.sectors
      → part_from on end (rest_of on lba row) rows ≡ part_from on end row rows
  part_twice lba end row rows order early over =
      elim (cases_lt end (row.lba + row.sectors)) [
        | inl more ↦
            rest_crosses on end (rest_of on lba row) rows order (omega (arith, more, over))
            ∙ ap (λ r. r ∷ rows) (rest_twice lba end row early (omega (arith, order)) more)
            ∙ sym (rest_crosses on end row rows (omega (arith, early, order)) more)
        | inr ended ↦
            rest_ends on end (rest_of on lba row) rows order (omega (arith, ended, over))
            ∙ sym (rest_ends on end row rows (omega (arith, early, order)) ended)
      ]

  -- rows from a sector on, from a later one on
  pub from_twice : (lba end : ℕ) (rows : List (Extent P)) → lba < end → IsShortest on rows
      → rows_from on end (rows_from on lba rows) ≡ rows_from on end rows
  unfolding rows_from
  from_twice lba end [] order shortest = refl
  from_twice lba end (row ∷ rows) order shortest =
      let rest = from_twice lba end rows order shortest.2 in
      elim (cases_lt row.lba lba) [
        | inr late ↦ ap (rows_from on end) (from_starts on lba row rows late) ∙ ap (part_from on end row) rest
        | inl early ↦
            elim (cases_lt lba (row.lba + row.sectors)) [
              | inl over ↦
                  ap (rows_from on end) (from_crosses on lba row rows early over)
                  ∙ ap (part_from on end (rest_of on lba row)) rest
                  ∙ part_twice lba end row (rows_from on end rows) order early over
              | inr ended ↦
                  ap (rows_from on end) (from_ends on lba row rows early ended)
                  ∙ rest
                  ∙ sym (from_ends on end row rows (omega (arith, early, order)) (omega (arith, ended, order)))
            ]
      ]

-- rows before a sector, of those that begin before it alone
module _ {P : Type 0} (on : ℕ → P → P) where
  pub count_front : (at : ℕ) (rows : List (Extent P)) → before_count at (take (before_count at rows) rows) ≡ before_count at rows
  count_front at [] = refl
  count_front at (row ∷ rows) =
      elim (cases_lt row.lba at) [
        | inl early ↦
            let one = count_early at row rows early in
            let more = count_early at row (take (before_count at rows) rows) early in
            let shown = one ∙ one-add (before_count at rows) in
            omega (arith, one, more, count_front at rows, ap (λ n. before_count at (take n (row ∷ rows))) shown)
        | inr late ↦
            let one = count_late at row rows late in
            omega (arith, one, ap (λ n. before_count at (take n (row ∷ rows))) one)
      ]

  pub before_front : (at : ℕ) (rows : List (Extent P)) → IsShortest on rows → rows_before at (take (before_count at rows) rows)
      ≡ rows_before at rows
  unfolding rows_before
  before_front at [] shortest = refl
  before_front at (row ∷ rows) shortest =
      elim (cases_lt row.lba at) [
        | inl early ↦
            let shown = count_early at row rows early ∙ one-add (before_count at rows) in
            ap (λ n. rows_before at (take n (row ∷ rows))) shown ∙ ap (part_before at row) (before_front at rows shortest.2)
        | inr late ↦
            let one = count_late at row rows late in
            ap (λ n. rows_before at (take n (row ∷ rows))) one ∙ sym (nothing_before on at (row ∷ rows) shortest late)
      ]

pub get_drop : {X : Type 0} (n : ℕ) (xs : List X) → slice_get (drop n xs) 0 ≡ slice_get xs n
get_drop zero xs = refl
get_drop (suc n) [] = refl
get_drop (suc n) (x ∷ xs) = get_drop n xs

-- a test says whether there is a row that begins before a sector
abbrev pub SaysBegins : {P : Type 0} → ℕ → Option (Extent P) → Bool → Type 0
SaysBegins at found answer = MatchOption found (answer ≡ false) (λ row. IsTrue answer ↔ (row.lba < at))

-- the first row from a sector on begins before a later one, or none does
module _ {P : Type 0} (end : ℕ) where
  none_first : (rows : List (Extent P)) (found : Option (Extent P)) (answer : Bool) → SaysBegins end found answer
      → found ≡ slice_get rows 0 → answer ≡ false
      → before_count end rows ≡ 0
  none_first [] found answer says is said_no = refl
  none_first (row ∷ rows) found answer says is said_no =
      let said : IsTrue answer ↔ (row.lba < end) = subst (λ f. SaysBegins end f answer) is says in
      elim (cases_lt row.lba end) [
        | inl early ↦ let passed : answer ≡ true = said.1 early in absurd (cc (passed, said_no))
        | inr late ↦ count_late end row rows late
      ]

  some_first : (rows : List (Extent P)) (found : Option (Extent P)) (answer : Bool) → SaysBegins end found answer
      → found ≡ slice_get rows 0 → answer ≡ true
      → 0 < before_count end rows
  some_first [] found answer says is said_yes =
      let said : answer ≡ false = subst (λ f. SaysBegins end f answer) is says in absurd (cc (said_yes, said))
  some_first (row ∷ rows) found answer says is said_yes =
      let said : IsTrue answer ↔ (row.lba < end) = subst (λ f. SaysBegins end f answer) is says in
      omega (arith, count_early end row rows (said.0 said_yes))

  pub none_between : (lba n : ℕ) (rows : List (Extent P)) (found : Option (Extent P)) (answer : Bool) → lba ≤ end
      → n ≡ before_count lba rows
      → SaysBegins end found answer → found ≡ slice_get rows n → answer ≡ false → n ≡ before_count end rows
  none_between lba n rows found answer order count says is said_no =
      let more = count_more lba end rows order in
      let none = none_first (drop n rows) found answer says (is ∙ sym (get_drop n rows)) said_no in
      omega (arith, more, none, count, ap (λ k. before_count end (drop k rows)) count)

  pub some_between : (lba n : ℕ) (rows : List (Extent P)) (found : Option (Extent P)) (answer : Bool) → lba ≤ end
      → n ≡ before_count lba rows
      → SaysBegins end found answer → found ≡ slice_get rows n → answer ≡ true → n < before_count end rows
  some_between lba n rows found answer order count says is said_yes =
      let more = count_more lba end rows order in
      let some = some_first (drop n rows) found answer says (is ∙ sym (get_drop n rows)) said_yes in
      omega (arith, more, some, count, ap (λ k. before_count end (drop k rows)) count)

  -- where some rows begin before it, the first one is one of them
  first_counts : (row : Extent P) (rows : List (Extent P)) → 0 < before_count end (row ∷ rows)
      → before_count end (row ∷ rows) ≡ 1 + before_count end rows
  first_counts row rows some =
      elim (cases_lt row.lba end) [
        | inl early ↦ count_early end row rows early
        | inr late ↦ absurd (omega (arith, some, count_late end row rows late))
      ]

  pub count_inside : (rows : List (Extent P)) → before_count end rows ≤ length rows
  count_inside [] = omega arith
  count_inside (row ∷ rows) =
      elim (cases_lt row.lba end) [
        | inl early ↦ omega (arith, count_early end row rows early, count_inside rows)
        | inr late ↦ omega (arith, count_late end row rows late)
      ]

  -- the rows that begin before it end behind one of them where the next one is none
  pub count_stops : (n : ℕ) (rows : List (Extent P)) (found : Option (Extent P)) (answer : Bool) → n < before_count end rows
      → SaysBegins end found answer → found ≡ slice_get rows (suc n) → answer ≡ false → before_count end rows ≡ suc n
  count_stops n [] found answer early says is said_no = absurd (omega (arith, early))
  count_stops zero (row ∷ rows) found answer early says is said_no =
      omega (arith, first_counts row rows early, none_first rows found answer says is said_no)
  count_stops (suc n) (row ∷ rows) found answer early says is said_no =
      let counts = first_counts row rows (omega (arith, early)) in
      omega (arith, counts, count_stops n rows found answer (omega (arith, early, counts)) says is said_no)

module _ {P : Type 0} (on : ℕ → P → P) where
  -- each row that begins before a sector leaves a part before it
  pub before_length : (at : ℕ) (rows : List (Extent P)) → IsShortest on rows → length (rows_before at rows) ≡ before_count at rows
  unfolding rows_before
  before_length at [] shortest = refl
  before_length at (row ∷ rows) shortest =
      elim (cases_lt row.lba at) [
        | inr late ↦ omega (arith, ap length (nothing_before on at (row ∷ rows) shortest late), count_late at row rows late)
        | inl early ↦
            let rest = before_length at rows shortest.2 in
            let count = count_early at row rows early in
            elim (cases_lt at (row.lba + row.sectors)) [
              | inl over ↦ omega (arith, rest, count, ap length (before_crosses at row rows early over))
              | inr ended ↦ omega (arith, rest, count, ap length (before_ends at row rows ended))
            ]
      ]

  -- rows that were cut at a sector, and before that at a later one
  module _ (rows once : List (Extent P)) (lba end n r : ℕ) (shortest : IsShortest on rows) (count : n ≡ before_count lba rows)
      (order : n ≤ r)
      (front : take r once ≡ take r rows) (back : drop r once ≡ rows_from on end rows) where
    pub same_front : take n once ≡ take n rows
    same_front = sym (take-take n r once order) ∙ ap (take n) front ∙ take-take n r rows order

    pub front_count : n ≡ before_count lba (take n once)
    front_count =
        count
        ∙ sym (count_front on lba rows)
        ∙ ap (λ k. before_count lba (take k rows)) (sym count)
        ∙ ap (before_count lba) (sym same_front)

    pub front_shortest : IsShortest on (take n once)
    front_shortest = subst (IsShortest on) (sym same_front) (shortest_take on n rows shortest)

    pub front_fits : (number : P → ℕ) → AllFit number rows → AllFit number (take n once)
    front_fits number fits = subst (AllFit number) (sym same_front) (fit_take number n rows fits)

    pub taken : (twice left : List (Extent P)) → take n twice ≡ rows_before lba (take n once) → drop n twice ≡ drop n once
        → left ≡ take n twice ++ drop r twice → left ≡ rows_before lba rows ++ rows_from on end rows
    taken twice left cut_front cut_back is =
        let far : n + (r - n) ≡ r = omega (arith, order) in
        let first =
        cut_front ∙ ap (rows_before lba) (same_front ∙ ap (λ k. take k rows) count) ∙ before_front on lba rows shortest in
        let last =
        ap (λ k. drop k twice) (sym far)
        ∙ sym (drop-drop (r - n) n twice)
        ∙ ap (drop (r - n)) cut_back
        ∙ drop-drop (r - n) n once
        ∙ ap (λ k. drop k once) far
        ∙ back in
        is ∙ ap (λ xs. xs ++ drop r twice) first ∙ ap (λ xs. rows_before lba rows ++ xs) last

module _ {P : Type 0} (on : ℕ → P → P) (on_twice : (a b : ℕ) (p : P) → on a (on b p) ≡ on (b + a) p) where
  -- there is one row more at most
  pub taken_count : (lba end : ℕ) (rows : List (Extent P)) → IsShortest on rows
      → length (rows_before lba rows ++ rows_from on end (rows_from on lba rows)) ≤ length rows + 1
  taken_count lba end rows shortest =
      omega (
        arith,
        length-append (rows_before lba rows) (rows_from on end (rows_from on lba rows)),
        count_cut on lba rows shortest,
        count_from on end (rows_from on lba rows) (shortest_from on on_twice lba rows shortest),
      )
