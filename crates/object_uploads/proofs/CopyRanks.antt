-- Where a settled copy has a sector in its payload: after those below it that it has.
use Rattle.std.proofs.Common.{◌≡◌, ℕ, zero, suc, ◌+◌, ◌-◌, ◌<◌, ◌≤◌, inl, inr, cond, Bool, true, false, ◌&&◌, Option, Some, None}
use Rattle.std.proofs.Common.{List, [], ◌∷◌, refl, sym, ◌∙◌, ap, arith}
use Rattle.std.specs.Prelude.{IsTrue}
use Rattle.std.specs.List.{count_by, range_with_len}
use Rattle.std.specs.Option.{is_some}
use Rattle.std.proofs.lemmas.Bool.{and_parts, cases_lt}
use Rattle.std.proofs.lemmas.Bool.Decides.{nat_tests}
use Rattle.std.proofs.lemmas.List.Sums.{sum_by-cons}
use Rattle.extent_map.specs.Extents.{is_within}
use Rattle.extent_map.proofs.Places.{within, not_below, not_past}
use Rattle.object_format.specs.declared.copy_row.CopyRow.{CopyRow}
use Rattle.object_format.specs.Rows.{copy_may_stand, copy_rows_may_stand}
use Rattle.object_stream.specs.declared.object.CopiedSector.{CopiedSector}
use Rattle.object_stream.specs.Changes.{sector_of}
use Rattle.object_stream.specs.Stream.{source_in}
use Rattle.object_stream.specs.Replay.{source_at}
use Rattle.object_stream.specs.Value.{copied_in}
use Rattle.volume_maps.specs.declared.place.ObjectPlace.{ObjectPlace}
use Rattle.volume_maps.specs.Kept.{passing}
use Rattle.volume_maps.specs.Laws.{is_in_source}
use Rattle.volume_maps.specs.Live.{is_live}
use Rattle.volume_maps.specs.Maps.{settled_by_copy_row, settled_by_copy}
use Rattle.volume_maps.proofs.Counts.{passing_none, passing_more, in_parts, split, passing_all, passing_same}
use Rattle.object_stream.specs.Stream.{place_in_copy}

-- ---- counts

-- how many numbers from one on pass a test, by their list
counted : (test : ℕ → Bool) (from n : ℕ) → count_by test (range_with_len from n) ≡ passing test from n
counted test from zero = sym (passing_none test from)
counted test from (suc n) =
    let one : suc n ≡ 1 + n = omega arith in
    let here : from + 0 ≡ from = omega arith in
    omega (
      arith,
      sum_by-cons (λ (k : ℕ). cond (test k) 1 0) from (range_with_len (from + 1) n),
      counted test (from + 1) n,
      ap (passing test from) one,
      in_parts test from 1 n,
      passing_more test from 0,
      passing_none test from,
      ap {B = ℕ} (λ k. cond (test k) 1 0) here,
    )

-- tests that say the same count the same
counted_same : (test other : ℕ → Bool) (n : ℕ) → ((i : ℕ) → test i ≡ other i)
    → passing test 0 n ≡ count_by other (range_with_len 0 n)
counted_same test other n same = passing_same test other 0 n (λ i from to. same i) ∙ sym (counted other 0 n)

-- ---- rows

-- rows have a sector
abbrev has : List CopyRow → ℕ → Bool
has rows k = is_some (source_at rows k)

none_of : (source : Option ℕ) → is_some source ≡ false → source ≡ None
none_of None none = refl
none_of (Some source) none = absurd cc

-- how many of those below a sector they have
abbrev rank : List CopyRow → ℕ → ℕ
rank rows k = passing (has rows) 0 k

module _ (volume payload number : ℕ) where
  first_stands : (place : ℕ) (before : Option CopyRow) (row : CopyRow) (rows : List CopyRow)
      → IsTrue (copy_rows_may_stand volume payload number before place (row ∷ rows))
      → IsTrue (copy_may_stand volume payload number before place row)
  first_stands place before row rows stand =
      (and_parts (copy_may_stand volume payload number before place row)
      (copy_rows_may_stand volume payload number (Some row) (place + row.sectors) rows) stand).0

  rest_stand : (place : ℕ) (before : Option CopyRow) (row : CopyRow) (rows : List CopyRow)
      → IsTrue (copy_rows_may_stand volume payload number before place (row ∷ rows))
      → IsTrue (copy_rows_may_stand volume payload number (Some row) (place + row.sectors) rows)
  rest_stand place before row rows stand =
      (and_parts (copy_may_stand volume payload number before place row)
      (copy_rows_may_stand volume payload number (Some row) (place + row.sectors) rows) stand).1

  -- a row begins where the one before it ends, or past it
  follows : (place : ℕ) (before row : CopyRow) → IsTrue (copy_may_stand volume payload number (Some before) place row)
      → before.lba + before.sectors ≤ row.lba
  follows place before row stands = grind (arith, nat_tests)

  -- its payload begins where that of the row before it ends, and lies inside the copy's
  at_place : (place : ℕ) (before : Option CopyRow) (row : CopyRow)
      → IsTrue (copy_may_stand volume payload number before place row) → row.place ≡ place
  at_place place before row stands = grind (arith, nat_tests)

  place_inside : (place : ℕ) (before : Option CopyRow) (row : CopyRow)
      → IsTrue (copy_may_stand volume payload number before place row) → place + row.sectors ≤ payload
  place_inside place before row stands = grind (arith, nat_tests)

  -- rows after one that ends past a sector do not have it
  not_past_row : (k place : ℕ) (row : CopyRow) (rows : List CopyRow)
      → IsTrue (copy_rows_may_stand volume payload number (Some row) place rows) → k < row.lba + row.sectors
      → has rows k ≡ false
  not_past_row k place row [] stand low = refl
  not_past_row k place row (next ∷ rows) stand low =
      let after : row.lba + row.sectors ≤ next.lba = follows place row next (first_stands place (Some row) next rows stand) in
      let out : is_within next.lba next.sectors k ≡ false = not_below next.lba next.sectors k (omega arith) in
      ap (λ b. is_some (cond b (Some next.source.number) (source_at rows k))) out
      ∙ not_past_row k (place + next.sectors) next rows (rest_stand place (Some row) next rows stand) (omega arith)

  -- and leave it where it was
  settled_past : (k place : ℕ) (row : CopyRow) (rows : List CopyRow) (before : Option ObjectPlace)
      → IsTrue (copy_rows_may_stand volume payload number (Some row) place rows) → k < row.lba + row.sectors
      → settled_by_copy number rows before k ≡ before
  settled_past k place row [] before stand low = refl
  settled_past k place row (next ∷ rows) before stand low =
      let after : row.lba + row.sectors ≤ next.lba = follows place row next (first_stands place (Some row) next rows stand) in
      let out : is_within next.lba next.sectors k ≡ false = not_below next.lba next.sectors k (omega arith) in
      let own : ObjectPlace = record { level = 0; number = number; sector = next.place + (k - next.lba) } in
      ap (λ b. settled_by_copy number rows (cond (b && is_live next.source.number before) (Some own) before) k) out
      ∙ settled_past k (place + next.sectors) next rows before (rest_stand place (Some row) next rows stand) (omega arith)

  -- the place of a sector in the copy
  abbrev placed_at : ℕ → Option ObjectPlace
  placed_at sector = Some (record { level = 0; number = number; sector = sector })

  -- a sector after rows whose payload begins at a place: it is in the copy at its rank there, where it was in its source
  record IsRanked (place : ℕ) (rows : List CopyRow) (before : Option ObjectPlace) (k : ℕ) : Type 0 where
    settled : settled_by_copy number rows before k
        ≡ cond (is_in_source (source_at rows k) before) (placed_at (place + rank rows k)) before
    inside : has rows k ≡ true → place + rank rows k < payload
    copied : (bytes : List ℕ) → has rows k ≡ true
        → copied_in rows bytes k ≡ Some (sector_of (place + rank rows k) bytes)

  -- one that rows do not have is where it was
  unranked : (place : ℕ) (rows : List CopyRow) (before : Option ObjectPlace) (k : ℕ) → has rows k ≡ false
      → settled_by_copy number rows before k ≡ before → IsRanked place rows before k
  unranked place rows before k none stays =
      let source = none_of (source_at rows k) none in
      record {
        settled = stays ∙ sym (ap (λ s. cond (is_in_source s before) (placed_at (place + rank rows k)) before) source);
        inside = λ some. absurd cc;
        copied = λ bytes some. absurd cc;
      }

  module _ (place : ℕ) (earlier : Option CopyRow) (row : CopyRow) (rows : List CopyRow)
      (stand : IsTrue (copy_rows_may_stand volume payload number earlier place (row ∷ rows))) where
    abbrev all : List CopyRow
    all = row ∷ rows

    abbrev next_place : ℕ
    next_place = place + row.sectors

    later : IsTrue (copy_rows_may_stand volume payload number (Some row) next_place rows)
    later = rest_stand place earlier row rows stand

    here : IsTrue (copy_may_stand volume payload number earlier place row)
    here = first_stands place earlier row rows stand

    -- rows have a sector of the first one
    has_own : (k : ℕ) → row.lba ≤ k → k < row.lba + row.sectors → has all k ≡ true
    has_own k low high =
        ap (λ b. is_some (cond b (Some row.source.number) (source_at rows k))) (within row.lba row.sectors k low high)

    -- none before it
    source_out : (k : ℕ) → is_within row.lba row.sectors k ≡ false → source_at all k ≡ source_at rows k
    source_out k out = ap (λ b. cond b (Some row.source.number) (source_at rows k)) out

    has_before : (k : ℕ) → k < row.lba → has all k ≡ false
    has_before k low =
        ap is_some (source_out k (not_below row.lba row.sectors k low))
        ∙ not_past_row k next_place row rows later (omega arith)

    -- and past it those of the others
    has_past : (k : ℕ) → row.lba + row.sectors ≤ k → has all k ≡ has rows k
    has_past k past = ap is_some (source_out k (not_past row.lba row.sectors k past))

    -- so below one of its sectors they have those of the row that are before it
    rank_inside : (k : ℕ) → row.lba ≤ k → k < row.lba + row.sectors → rank all k ≡ k - row.lba
    rank_inside k low high =
        let whole : k - 0 ≡ k = omega arith in
        omega (
          arith,
          ap (passing (has all) 0) whole,
          split (has all) 0 row.lba k (omega arith) low,
          passing_all (has all) false 0 (row.lba - 0) (λ i from to. has_before i (omega arith)),
          passing_all (has all) true row.lba (k - row.lba) (λ i from to. has_own i from (omega arith)),
        )

    -- and below one past it, those of the row and those of the others
    rank_past : (k : ℕ) → row.lba + row.sectors ≤ k → rank all k ≡ row.sectors + rank rows k
    rank_past k past =
        let end : ℕ = row.lba + row.sectors in
        let whole : k - 0 ≡ k = omega arith in
        omega (
          arith,
          ap (passing (has all) 0) whole,
          ap (passing (has rows) 0) whole,
          split (has all) 0 row.lba k (omega arith) (omega arith),
          split (has all) row.lba end k (omega arith) past,
          passing_all (has all) false 0 (row.lba - 0) (λ i from to. has_before i (omega arith)),
          passing_all (has all) true row.lba (end - row.lba) (λ i from to. has_own i from (omega arith)),
          split (has rows) 0 end k (omega arith) past,
          passing_all (has rows) false 0 (end - 0)
              (λ i from to. not_past_row i next_place row rows later (omega arith)),
          passing_same (has all) (has rows) end (k - end) (λ i from to. has_past i from),
        )

    module _ (before : Option ObjectPlace) (k : ℕ) where
      -- the place that the first row gives a sector of its own
      abbrev own_place : ℕ
      own_place = row.place + (k - row.lba)

      first_ranked : is_within row.lba row.sectors k ≡ true → IsRanked place all before k
      first_ranked inside =
          let low : row.lba ≤ k = grind (arith, nat_tests) in
          let high : k < row.lba + row.sectors = grind (arith, nat_tests) in
          let live = is_live row.source.number before in
          let source : source_at all k ≡ Some row.source.number =
          ap (λ b. cond b (Some row.source.number) (source_at rows k)) inside in
          let sum : own_place ≡ place + rank all k = omega (arith, at_place place earlier row here, rank_inside k low high) in
          record {
            settled =
                settled_past k next_place row rows (settled_by_copy_row number row before k) later high
                ∙ (ap (λ b. cond (b && live) (placed_at own_place) before) inside
                ∙ (ap (λ n. cond live (placed_at n) before) sum
                ∙ sym (ap (λ s. cond (is_in_source s before) (placed_at (place + rank all k)) before) source)));
            inside = λ some. omega (arith, place_inside place earlier row here, rank_inside k low high, low, high);
            copied = λ bytes some.
                ap (λ b. cond b (Some (sector_of own_place bytes)) (copied_in rows bytes k)) inside
                ∙ ap (λ n. Some (sector_of n bytes)) sum;
          }

      stays_out : is_within row.lba row.sectors k ≡ false
          → settled_by_copy number all before k ≡ settled_by_copy number rows before k
      stays_out out =
          ap (λ b. settled_by_copy number rows (cond (b && is_live row.source.number before) (placed_at own_place) before) k) out

      later_ranked : is_within row.lba row.sectors k ≡ false → row.lba + row.sectors ≤ k → IsRanked next_place rows before k
          → IsRanked place all before k
      later_ranked out past is =
          let source = source_out k out in
          let sum : next_place + rank rows k ≡ place + rank all k = omega (arith, rank_past k past) in
          let some_of : has all k ≡ true → has rows k ≡ true = λ some. sym (ap is_some source) ∙ some in
          record {
            settled =
                stays_out out
                ∙ (is.settled
                ∙ (ap (λ n. cond (is_in_source (source_at rows k) before) (placed_at n) before) sum
                ∙ sym (ap (λ s. cond (is_in_source s before) (placed_at (place + rank all k)) before) source)));
            inside = λ some. omega (arith, sum, is.inside (some_of some));
            copied = λ bytes some.
                ap (λ b. cond b (Some (sector_of own_place bytes)) (copied_in rows bytes k)) out
                ∙ (is.copied bytes (some_of some) ∙ ap (λ n. Some (sector_of n bytes)) sum);
          }

      by_row : (test : Bool) → is_within row.lba row.sectors k ≡ test → IsRanked next_place rows before k
          → IsRanked place all before k
      by_row true inside rest = first_ranked inside
      by_row false out rest = elim (cases_lt k (row.lba + row.sectors)) [
        | inl low ↦
            unranked place all before k
            (ap is_some (source_out k out) ∙ not_past_row k next_place row rows later low)
            (stays_out out ∙ settled_past k next_place row rows before later low)
        | inr past ↦ later_ranked out past rest
      ]

  ranked : (place : ℕ) (earlier : Option CopyRow) (rows : List CopyRow) (before : Option ObjectPlace) (k : ℕ)
      → IsTrue (copy_rows_may_stand volume payload number earlier place rows) → IsRanked place rows before k
  ranked place earlier [] before k stand = unranked place [] before k refl refl
  ranked place earlier (row ∷ rows) before k stand =
      by_row place earlier row rows stand before k (is_within row.lba row.sectors k) refl
      (ranked (place + row.sectors) (Some row) rows before k (rest_stand place earlier row rows stand))

-- ---- by the sectors of the copy

-- A sector after the copy of these sectors is settled, with this many sectors of payload: it is in the copy, at its place there,
-- where it was in its source; and there the payload has it.
pub record IsPlacedByCopy (payload number : ℕ) (pairs : List CopiedSector) (rows : List CopyRow) (before : Option ObjectPlace)
    (k : ℕ) : Type 0 where
  pub settled : settled_by_copy number rows before k
      ≡ cond (is_in_source (source_in pairs k) before)
      (Some (record { level = 0; number = number; sector = place_in_copy pairs k })) before
  pub inside : is_some (source_in pairs k) ≡ true → place_in_copy pairs k < payload
  pub copied : (bytes : List ℕ) → is_some (source_in pairs k) ≡ true
      → copied_in rows bytes k ≡ Some (sector_of (place_in_copy pairs k) bytes)

pub placed_by_copy : (volume payload number : ℕ) (pairs : List CopiedSector) (rows : List CopyRow) (before : Option ObjectPlace)
    (k : ℕ) → IsTrue (copy_rows_may_stand volume payload number None 0 rows)
    → ((i : ℕ) → source_at rows i ≡ source_in pairs i) → IsPlacedByCopy payload number pairs rows before k
placed_by_copy volume payload number pairs rows before k stand same =
    let is = ranked volume payload number 0 None rows before k stand in
    let sources : (i : ℕ) → has rows i ≡ is_some (source_in pairs i) = λ i. ap is_some (same i) in
    let at : 0 + rank rows k ≡ place_in_copy pairs k =
    omega (arith, counted_same (has rows) (λ i. is_some (source_in pairs i)) k sources) in
    record {
      settled =
          is.settled
          ∙ (ap (λ s. cond (is_in_source s before) (placed_at volume payload number (0 + rank rows k)) before) (same k)
          ∙ ap (λ n. cond (is_in_source (source_in pairs k) before) (placed_at volume payload number n) before) at);
      inside = λ some. omega (arith, at, is.inside (sources k ∙ some));
      copied = λ bytes some. is.copied bytes (sources k ∙ some) ∙ ap (λ n. Some (sector_of n bytes)) at;
    }
