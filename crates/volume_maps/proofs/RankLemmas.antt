-- Where a settled object has a sector in its payload: after those below it that its entries put.
use Rattle.std.proofs.Common.{◌≡◌, ℕ, zero, suc, ◌+◌, ◌-◌, ◌<◌, ◌≤◌, nat_lt, cond, Bool, true, false, Option, Some, None, List}
use Rattle.std.proofs.Common.{[], ◌∷◌, refl, sym, ◌∙◌, ap, arith}
use Rattle.std.specs.Prelude.{IsTrue}
use Rattle.std.specs.List.{count_by, range_with_len}
use Rattle.std.proofs.lemmas.Bool.Decides.{nat_tests}
use Rattle.std.proofs.lemmas.List.Sums.{sum_by-cons}
use Rattle.extent_map.specs.Extents.{is_within}
use Rattle.extent_map.proofs.Places.{within, not_below, not_past}
use Rattle.object_format.specs.declared.data_row.DataRow.{DataRow}
use Rattle.object_format.specs.Rows.{data_payload, payload_at, is_at, data_rows_may_stand}
use Rattle.object_stream.specs.Changes.{change_at, change_from, change_in, is_put, place_in_payload}
use Rattle.volume_maps.specs.declared.place.ObjectPlace.{ObjectPlace}
use Rattle.volume_maps.specs.Kept.{passing}
use Rattle.volume_maps.specs.Laws.{PlacesAreRanks}
use Rattle.volume_maps.specs.Maps.{row_object_place, settled_by}
use Rattle.volume_maps.proofs.Counts.{passing_none, passing_more, in_parts, split, passing_all, passing_same}
use Rattle.volume_maps.proofs.SettleLemmas.{follows, first_stands, rest_stand, settled_past}

-- ---- counts

-- how many numbers from one on pass a test, by their list
counted : (test : ℕ → Bool) (from n : ℕ) → count_by test (range_with_len from n) ≡ passing test from n
counted test from zero = sym (passing_none test from)
counted test from (suc n) =
    let one : suc n ≡ 1 + n = omega arith in
    let here : from + 0 ≡ from = omega arith in
    omega (
      arith,
      sum_by-cons (λ (k : ℕ). cond (test k) 1 0) from (range_with_len (from + 1) n),
      counted test (from + 1) n,
      ap (passing test from) one,
      in_parts test from 1 n,
      passing_more test from 0,
      passing_none test from,
      ap {B = ℕ} (λ k. cond (test k) 1 0) here,
    )

-- ---- the rows of a data object

-- a row puts its sectors where it has a place in the payload
abbrev has_payload : Option ℕ → Bool
has_payload None = false
has_payload (Some place) = true

puts_own : (place : Option ℕ) (bytes : List ℕ) (i : ℕ) → is_put (Some (change_from place bytes i)) ≡ has_payload place
puts_own None bytes i = refl
puts_own (Some place) bytes i = refl

-- it has as many sectors of payload as it puts
own_count : (sectors : ℕ) (place : Option ℕ) → cond (has_payload place) sectors 0 ≡ payload_at sectors place
own_count sectors None = refl
own_count sectors (Some place) = refl

module _ (volume payload number : ℕ) (bytes : List ℕ) where
  -- the sectors that rows put
  abbrev puts : List DataRow → ℕ → Bool
  puts rows i = is_put (change_in rows bytes i)

  -- rows after one that ends past a sector do not put it
  not_past_row : (k place : ℕ) (row : DataRow) (rows : List DataRow)
      → IsTrue (data_rows_may_stand volume payload (Some row) place rows) → k < row.lba + row.sectors → puts rows k ≡ false
  not_past_row k place row [] stand low = refl
  not_past_row k place row (next ∷ rows) stand low =
      let after : row.lba + row.sectors ≤ next.lba =
      follows volume payload place row next (first_stands volume payload place (Some row) next rows stand) in
      let out : is_within next.lba next.sectors k ≡ false = not_below next.lba next.sectors k (omega arith) in
      ap (λ b. is_put (cond b (Some (change_from next.place bytes (k - next.lba))) (change_in rows bytes k))) out
      ∙ not_past_row k (place + data_payload next) next rows (rest_stand volume payload place (Some row) next rows stand)
      (omega arith)

  module _ (place : ℕ) (earlier : Option DataRow) (row : DataRow) (rows : List DataRow)
      (stand : IsTrue (data_rows_may_stand volume payload earlier place (row ∷ rows))) where
    -- what rows put of a sector, by whether the first has it
    put_by : (k : ℕ) (test : Bool) → is_within row.lba row.sectors k ≡ test
        → puts (row ∷ rows) k ≡ cond test (has_payload row.place) (puts rows k)
    put_by k true test =
        ap (λ b. is_put (cond b (Some (change_from row.place bytes (k - row.lba))) (change_in rows bytes k))) test
        ∙ puts_own row.place bytes (k - row.lba)
    put_by k false test =
        ap (λ b. is_put (cond b (Some (change_from row.place bytes (k - row.lba))) (change_in rows bytes k))) test

    -- they put none before the first row
    none_before : (k : ℕ) → k < row.lba → puts (row ∷ rows) k ≡ false
    none_before k low =
        put_by k false (not_below row.lba row.sectors k low)
        ∙ not_past_row k (place + data_payload row) row rows (rest_stand volume payload place earlier row rows stand)
        (omega arith)

    -- of its sectors all that it has payload for
    own : (k : ℕ) → row.lba ≤ k → k < row.lba + row.sectors → puts (row ∷ rows) k ≡ has_payload row.place
    own k low high = put_by k true (within row.lba row.sectors k low high)

    -- and past it what the others put
    others : (k : ℕ) → row.lba + row.sectors ≤ k → puts (row ∷ rows) k ≡ puts rows k
    others k past = put_by k false (not_past row.lba row.sectors k past)

    -- so below one of its sectors they put those of the row that are before it
    rank_inside : (k : ℕ) → row.lba ≤ k → k < row.lba + row.sectors
        → passing (puts (row ∷ rows)) 0 (k - 0) ≡ cond (has_payload row.place) (k - row.lba) 0
    rank_inside k low high =
        omega (
          arith,
          split (puts (row ∷ rows)) 0 row.lba k (omega arith) low,
          passing_all (puts (row ∷ rows)) false 0 (row.lba - 0) (λ i from to. none_before i (omega arith)),
          passing_all (puts (row ∷ rows)) (has_payload row.place) row.lba (k - row.lba)
              (λ i from to. own i from (omega arith)),
        )

    -- and below one past it, those of the row and those of the others
    rank_past : (k : ℕ) → row.lba + row.sectors ≤ k
        → passing (puts (row ∷ rows)) 0 (k - 0) ≡ data_payload row + passing (puts rows) 0 (k - 0)
    rank_past k past =
        let end : ℕ = row.lba + row.sectors in
        let size : end - row.lba ≡ row.sectors = omega arith in
        omega (
          arith,
          split (puts (row ∷ rows)) 0 row.lba k (omega arith) (omega arith),
          split (puts (row ∷ rows)) row.lba end k (omega arith) past,
          passing_all (puts (row ∷ rows)) false 0 (row.lba - 0) (λ i from to. none_before i (omega arith)),
          passing_all (puts (row ∷ rows)) (has_payload row.place) row.lba (end - row.lba)
              (λ i from to. own i from (omega arith)),
          ap {B = ℕ} (λ n. cond (has_payload row.place) n 0) size,
          own_count row.sectors row.place,
          split (puts rows) 0 end k (omega arith) past,
          passing_all (puts rows) false 0 (end - 0)
              (λ i from to. not_past_row i (place + data_payload row) row rows
              (rest_stand volume payload place earlier row rows stand) (omega arith)),
          passing_same (puts (row ∷ rows)) (puts rows) end (k - end) (λ i from to. others i from),
        )

  -- the place of a sector in the object of this number
  abbrev placed_at : ℕ → Option ObjectPlace
  placed_at sector = Some (record { level = 0; number = number; sector = sector })

  -- the first row has its payload at the place where it stands
  own_place : (at : Option ℕ) (place i : ℕ) → IsTrue (is_at place at) → has_payload at ≡ true
      → row_object_place number at i ≡ placed_at (place + i)
  own_place None place i stands put = absurd cc
  own_place (Some at) place i stands put =
      let same : at ≡ place = grind (arith, nat_tests) in
      ap (λ p. placed_at (p + i)) same

  first_at : (place : ℕ) (earlier : Option DataRow) (row : DataRow) (rows : List DataRow)
      → IsTrue (data_rows_may_stand volume payload earlier place (row ∷ rows)) → IsTrue (is_at place row.place)
  first_at place earlier row rows stand =
      grind (arith, nat_tests, first_stands volume payload place earlier row rows stand)

  -- a sector that the others put is past the first row
  past_by : (k place : ℕ) (row : DataRow) (rows : List DataRow) (low : Bool)
      → IsTrue (data_rows_may_stand volume payload (Some row) place rows) → puts rows k ≡ true
      → nat_lt k (row.lba + row.sectors) ≡ low → row.lba + row.sectors ≤ k
  past_by k place row rows true stand put low =
      let inside : k < row.lba + row.sectors = grind (arith, nat_tests) in
      let none = not_past_row k place row rows stand inside in
      absurd cc
  past_by k place row rows false stand put low = grind (arith, nat_tests)

  past_row : (k place : ℕ) (earlier : Option DataRow) (row : DataRow) (rows : List DataRow)
      → IsTrue (data_rows_may_stand volume payload earlier place (row ∷ rows)) → puts rows k ≡ true
      → row.lba + row.sectors ≤ k
  past_row k place earlier row rows stand put =
      past_by k (place + data_payload row) row rows (nat_lt k (row.lba + row.sectors))
      (rest_stand volume payload place earlier row rows stand) put refl

  ranked_by : (k : ℕ) (test : Bool) (place : ℕ) (earlier : Option DataRow) (row : DataRow) (rows : List DataRow)
      (before : Option ObjectPlace)
      → is_within row.lba row.sectors k ≡ test → IsTrue (data_rows_may_stand volume payload earlier place (row ∷ rows))
      → puts (row ∷ rows) k ≡ true
      → (puts rows k ≡ true
      → settled_by number rows before k ≡ placed_at (place + data_payload row + passing (puts rows) 0 (k - 0)))
      → settled_by number rows (cond test (row_object_place number row.place (k - row.lba)) before) k
      ≡ placed_at (place + passing (puts (row ∷ rows)) 0 (k - 0))
  ranked_by k true place earlier row rows before test stand put rest =
      let low : row.lba ≤ k = grind (arith, nat_tests) in
      let high : k < row.lba + row.sectors = grind (arith, nat_tests) in
      let some : has_payload row.place ≡ true = sym (own place earlier row rows stand k low high) ∙ put in
      let rank : passing (puts (row ∷ rows)) 0 (k - 0) ≡ k - row.lba =
      rank_inside place earlier row rows stand k low high ∙ ap {B = ℕ} (λ b. cond b (k - row.lba) 0) some in
      settled_past volume payload number k bytes (place + data_payload row) row rows
      (row_object_place number row.place (k - row.lba)) (rest_stand volume payload place earlier row rows stand) high
      ∙ (own_place row.place place (k - row.lba) (first_at place earlier row rows stand) some
      ∙ ap (λ n. placed_at (place + n)) (sym rank))
  ranked_by k false place earlier row rows before test stand put rest =
      let others_put : puts rows k ≡ true = sym (put_by place earlier row rows stand k false test) ∙ put in
      let past : row.lba + row.sectors ≤ k =
      past_row k place earlier row rows stand others_put in
      let sum : place + data_payload row + passing (puts rows) 0 (k - 0) ≡ place + passing (puts (row ∷ rows)) 0 (k - 0) =
      omega (arith, rank_past place earlier row rows stand k past) in
      rest others_put ∙ ap placed_at sum

  ranked : (k place : ℕ) (earlier : Option DataRow) (rows : List DataRow) (before : Option ObjectPlace)
      → IsTrue (data_rows_may_stand volume payload earlier place rows) → puts rows k ≡ true
      → settled_by number rows before k ≡ placed_at (place + passing (puts rows) 0 (k - 0))
  ranked k place earlier [] before stand put = absurd cc
  ranked k place earlier (row ∷ rows) before stand put =
      ranked_by k (is_within row.lba row.sectors k) place earlier row rows before refl stand put
      (λ others_put. ranked k (place + data_payload row) (Some row) rows before
      (rest_stand volume payload place earlier row rows stand) others_put)

-- ---- by the entries

-- tests that say the same count the same
counted_same : (test other : ℕ → Bool) (n : ℕ) → ((i : ℕ) → test i ≡ other i)
    → passing test 0 (n - 0) ≡ count_by other (range_with_len 0 n)
counted_same test other n same =
    let size : n - 0 ≡ n = omega arith in
    ap (passing test 0) size ∙ (passing_same test other 0 n (λ i from to. same i) ∙ sym (counted other 0 n))

none_first : (n : ℕ) → 0 + n ≡ n
none_first n = omega arith

pub places_are_ranks : PlacesAreRanks
places_are_ranks volume sectors number k entries rows payload before stand same put =
    let rank = counted_same (puts volume sectors number payload rows) (λ i. is_put (change_at entries i)) k
    (λ i. ap is_put (same i)) in
    let there : puts volume sectors number payload rows k ≡ true = ap is_put (same k) ∙ put in
    ranked volume sectors number payload k 0 None rows before stand there
    ∙ ap (placed_at volume sectors number payload) (ap (λ n. 0 + n) rank ∙ none_first (place_in_payload entries k))
