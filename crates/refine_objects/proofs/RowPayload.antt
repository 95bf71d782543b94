-- The rows of a data object or of a copy that may stand have as many sectors of payload as they put, or have, in the volume.
use Rattle.std.proofs.Common.{◌≡◌, ℕ, zero, suc, ◌+◌, ◌-◌, ◌<◌, ◌≤◌, ◌==◌, cond, Bool, true, false, Option, Some, None, List}
use Rattle.std.proofs.Common.{[], ◌∷◌, refl, sym, ◌∙◌, ap, arith}
use Rattle.std.specs.Prelude.{IsTrue}
use Rattle.lsvd_base.specs.declared.entry.Entry.{Entry}
use Rattle.std.specs.List.{count_by, range_with_len}
use Rattle.std.specs.Option.{is_some}
use Rattle.std.proofs.lemmas.Bool.{and_parts}
use Rattle.std.proofs.lemmas.Bool.Decides.{nat_tests}
use Rattle.std.proofs.lemmas.List.Sums.{sum_by-cons}
use Rattle.extent_map.specs.Extents.{is_within}
use Rattle.extent_map.proofs.Places.{within, not_below, not_past}
use Rattle.object_format.specs.declared.copy_row.CopyRow.{CopyRow}
use Rattle.object_format.specs.declared.data_row.DataRow.{DataRow}
use Rattle.object_format.specs.Rows.{data_payload, payload_at, data_may_stand, data_rows_may_stand, copy_may_stand}
use Rattle.object_format.specs.Rows.{copy_rows_may_stand}
use Rattle.object_stream.specs.declared.object.CopiedSector.{CopiedSector}
use Rattle.object_stream.specs.Changes.{change_at, change_from, change_in, is_put, place_in_payload}
use Rattle.object_stream.specs.Stream.{source_in, place_in_copy}
use Rattle.object_stream.specs.Replay.{source_at}
use Rattle.volume_maps.specs.Kept.{passing}
use Rattle.volume_maps.proofs.Counts.{passing_none, passing_more, in_parts, split, passing_all, passing_same}
use Rattle.volume_maps.proofs.SettleLemmas.{follows, first_stands, rest_stand}

-- ---- counts

-- how many numbers from one on pass a test, by their list
pub counted : (test : ℕ → Bool) (from n : ℕ) → count_by test (range_with_len from n) ≡ passing test from n
counted test from zero = sym (passing_none test from)
counted test from (suc n) =
    let one : suc n ≡ 1 + n = omega arith in
    let here : from + 0 ≡ from = omega arith in
    omega (
      arith,
      sum_by-cons (λ (k : ℕ). cond (test k) 1 0) from (range_with_len (from + 1) n),
      counted test (from + 1) n,
      ap (passing test from) one,
      in_parts test from 1 n,
      passing_more test from 0,
      passing_none test from,
      ap {B = ℕ} (λ k. cond (test k) 1 0) here,
    )

-- tests that say the same count the same
counted_same : (test other : ℕ → Bool) (n : ℕ) → ((i : ℕ) → test i ≡ other i)
    → passing test 0 n ≡ count_by other (range_with_len 0 n)
counted_same test other n same = passing_same test other 0 n (λ i from to. same i) ∙ sym (counted other 0 n)

-- A row of a volume has its own sectors, which pass a test all or not at all, none before it passes, and past it the others are
-- tested: with it as many more pass as it has, or no more.
module _ (volume lba sectors : ℕ) (all rest : ℕ → Bool) (own : Bool) (inside : lba + sectors ≤ volume)
    (before : (k : ℕ) → k < lba → all k ≡ false)
    (here : (k : ℕ) → lba ≤ k → k < lba + sectors → all k ≡ own)
    (past : (k : ℕ) → lba + sectors ≤ k → all k ≡ rest k)
    (none : (k : ℕ) → k < lba + sectors → rest k ≡ false) where
  row_more : passing all 0 volume ≡ cond own sectors 0 + passing rest 0 volume
  row_more =
      let end : ℕ = lba + sectors in
      let whole : volume - 0 ≡ volume = omega arith in
      let size : end - lba ≡ sectors = omega arith in
      omega (
        arith,
        ap (passing all 0) whole,
        ap (passing rest 0) whole,
        split all 0 lba volume (omega arith) (omega (arith, inside)),
        split all lba end volume (omega arith) inside,
        passing_all all false 0 (lba - 0) (λ i from to. before i (omega arith)),
        passing_all all own lba (end - lba) (λ i from to. here i from (omega arith)),
        ap {B = ℕ} (λ n. cond own n 0) size,
        split rest 0 end volume (omega arith) inside,
        passing_all rest false 0 (end - 0) (λ i from to. none i (omega arith)),
        passing_same all rest end (volume - end) (λ i from to. past i from),
      )

-- ---- the rows of a data object

-- a row puts its sectors where it has a place in the payload
abbrev has_payload : Option ℕ → Bool
has_payload None = false
has_payload (Some place) = true

puts_own : (place : Option ℕ) (bytes : List ℕ) (i : ℕ) → is_put (Some (change_from place bytes i)) ≡ has_payload place
puts_own None bytes i = refl
puts_own (Some place) bytes i = refl

own_count : (sectors : ℕ) (place : Option ℕ) → cond (has_payload place) sectors 0 ≡ payload_at sectors place
own_count sectors None = refl
own_count sectors (Some place) = refl

module _ (volume payload : ℕ) (bytes : List ℕ) where
  -- the sectors that rows put
  abbrev puts : List DataRow → ℕ → Bool
  puts rows i = is_put (change_in rows bytes i)

  data_inside : (place : ℕ) (before : Option DataRow) (row : DataRow)
      → IsTrue (data_may_stand volume payload before place row) → row.lba + row.sectors ≤ volume
  data_inside place before row stands = grind (arith, nat_tests)

  all_placed : (place : ℕ) → IsTrue (place == payload) → place ≡ payload
  all_placed place is = grind (arith, nat_tests)

  put_none : (k place : ℕ) (row : DataRow) (rows : List DataRow)
      → IsTrue (data_rows_may_stand volume payload (Some row) place rows) → k < row.lba + row.sectors → puts rows k ≡ false
  put_none k place row [] stand low = refl
  put_none k place row (next ∷ rows) stand low =
      let after : row.lba + row.sectors ≤ next.lba =
      follows volume payload place row next (first_stands volume payload place (Some row) next rows stand) in
      let out : is_within next.lba next.sectors k ≡ false = not_below next.lba next.sectors k (omega arith) in
      ap (λ b. is_put (cond b (Some (change_from next.place bytes (k - next.lba))) (change_in rows bytes k))) out
      ∙ put_none k (place + data_payload next) next rows (rest_stand volume payload place (Some row) next rows stand)
      (omega arith)

  put_by : (k : ℕ) (test : Bool) (row : DataRow) (rows : List DataRow) → is_within row.lba row.sectors k ≡ test
      → puts (row ∷ rows) k ≡ cond test (has_payload row.place) (puts rows k)
  put_by k true row rows test =
      ap (λ b. is_put (cond b (Some (change_from row.place bytes (k - row.lba))) (change_in rows bytes k))) test
      ∙ puts_own row.place bytes (k - row.lba)
  put_by k false row rows test =
      ap (λ b. is_put (cond b (Some (change_from row.place bytes (k - row.lba))) (change_in rows bytes k))) test

  all_put : (place : ℕ) (earlier : Option DataRow) (rows : List DataRow)
      → IsTrue (data_rows_may_stand volume payload earlier place rows) → place + passing (puts rows) 0 volume ≡ payload
  all_put place earlier [] stand =
      omega (arith, all_placed place stand, passing_all (puts []) false 0 volume (λ k from to. refl))
  all_put place earlier (row ∷ rows) stand =
      let first = first_stands volume payload place earlier row rows stand in
      let later = rest_stand volume payload place earlier row rows stand in
      let next = place + data_payload row in
      let none : (k : ℕ) → k < row.lba + row.sectors → puts rows k ≡ false = λ k low. put_none k next row rows later low in
      let more = row_more volume row.lba row.sectors (puts (row ∷ rows)) (puts rows) (has_payload row.place)
      (data_inside place earlier row first)
      (λ k low. put_by k false row rows (not_below row.lba row.sectors k low) ∙ none k (omega (arith, low)))
      (λ k low high. put_by k true row rows (within row.lba row.sectors k low high))
      (λ k past. put_by k false row rows (not_past row.lba row.sectors k past))
      none in
      omega (arith, more, own_count row.sectors row.place, all_put next (Some row) rows later)

-- rows that do to each sector what entries do have as many sectors of payload as these put
pub data_rank : (volume payload : ℕ) (bytes : List ℕ) (entries : List Entry) (rows : List DataRow)
    → IsTrue (data_rows_may_stand volume payload None 0 rows) → ((k : ℕ) → change_in rows bytes k ≡ change_at entries k)
    → payload ≡ place_in_payload entries volume
data_rank volume payload bytes entries rows stand same =
    omega (
      arith,
      all_put volume payload bytes 0 None rows stand,
      counted_same (puts volume payload bytes rows) (λ i. is_put (change_at entries i)) volume (λ i. ap is_put (same i)),
    )

-- ---- the rows of a copy

module _ (volume payload number : ℕ) where
  -- rows have a sector
  abbrev has : List CopyRow → ℕ → Bool
  has rows k = is_some (source_at rows k)

  pub first_copied : (place : ℕ) (before : Option CopyRow) (row : CopyRow) (rows : List CopyRow)
      → IsTrue (copy_rows_may_stand volume payload number before place (row ∷ rows))
      → IsTrue (copy_may_stand volume payload number before place row)
  first_copied place before row rows stand =
      (and_parts (copy_may_stand volume payload number before place row)
      (copy_rows_may_stand volume payload number (Some row) (place + row.sectors) rows) stand).0

  pub rest_copied : (place : ℕ) (before : Option CopyRow) (row : CopyRow) (rows : List CopyRow)
      → IsTrue (copy_rows_may_stand volume payload number before place (row ∷ rows))
      → IsTrue (copy_rows_may_stand volume payload number (Some row) (place + row.sectors) rows)
  rest_copied place before row rows stand =
      (and_parts (copy_may_stand volume payload number before place row)
      (copy_rows_may_stand volume payload number (Some row) (place + row.sectors) rows) stand).1

  copy_follows : (place : ℕ) (before row : CopyRow) → IsTrue (copy_may_stand volume payload number (Some before) place row)
      → before.lba + before.sectors ≤ row.lba
  copy_follows place before row stands = grind (arith, nat_tests)

  copy_inside : (place : ℕ) (before : Option CopyRow) (row : CopyRow)
      → IsTrue (copy_may_stand volume payload number before place row) → row.lba + row.sectors ≤ volume
  copy_inside place before row stands = grind (arith, nat_tests)

  all_stand : (place : ℕ) → IsTrue (place == payload) → place ≡ payload
  all_stand place is = grind (arith, nat_tests)

  pub has_none : (k place : ℕ) (row : CopyRow) (rows : List CopyRow)
      → IsTrue (copy_rows_may_stand volume payload number (Some row) place rows) → k < row.lba + row.sectors
      → has rows k ≡ false
  has_none k place row [] stand low = refl
  has_none k place row (next ∷ rows) stand low =
      let after : row.lba + row.sectors ≤ next.lba =
      copy_follows place row next (first_copied place (Some row) next rows stand) in
      let out : is_within next.lba next.sectors k ≡ false = not_below next.lba next.sectors k (omega arith) in
      ap (λ b. is_some (cond b (Some next.source.number) (source_at rows k))) out
      ∙ has_none k (place + next.sectors) next rows (rest_copied place (Some row) next rows stand) (omega arith)

  has_by : (k : ℕ) (test : Bool) (row : CopyRow) (rows : List CopyRow) → is_within row.lba row.sectors k ≡ test
      → has (row ∷ rows) k ≡ cond test true (has rows k)
  has_by k true row rows test = ap (λ b. is_some (cond b (Some row.source.number) (source_at rows k))) test
  has_by k false row rows test = ap (λ b. is_some (cond b (Some row.source.number) (source_at rows k))) test

  all_copied : (place : ℕ) (earlier : Option CopyRow) (rows : List CopyRow)
      → IsTrue (copy_rows_may_stand volume payload number earlier place rows) → place + passing (has rows) 0 volume ≡ payload
  all_copied place earlier [] stand =
      omega (arith, all_stand place stand, passing_all (has []) false 0 volume (λ k from to. refl))
  all_copied place earlier (row ∷ rows) stand =
      let first = first_copied place earlier row rows stand in
      let later = rest_copied place earlier row rows stand in
      let next = place + row.sectors in
      let none : (k : ℕ) → k < row.lba + row.sectors → has rows k ≡ false = λ k low. has_none k next row rows later low in
      let more : passing (has (row ∷ rows)) 0 volume ≡ row.sectors + passing (has rows) 0 volume =
      row_more volume row.lba row.sectors (has (row ∷ rows)) (has rows) true
      (copy_inside place earlier row first)
      (λ k low. has_by k false row rows (not_below row.lba row.sectors k low) ∙ none k (omega (arith, low)))
      (λ k low high. has_by k true row rows (within row.lba row.sectors k low high))
      (λ k past. has_by k false row rows (not_past row.lba row.sectors k past))
      none in
      omega (arith, more, all_copied next (Some row) rows later)

-- rows that have just the sectors of a copy have as many of payload
pub copy_rank : (volume payload number : ℕ) (pairs : List CopiedSector) (rows : List CopyRow)
    → IsTrue (copy_rows_may_stand volume payload number None 0 rows) → ((k : ℕ) → source_at rows k ≡ source_in pairs k)
    → payload ≡ place_in_copy pairs volume
copy_rank volume payload number pairs rows stand same =
    omega (
      arith,
      all_copied volume payload number 0 None rows stand,
      counted_same (has volume payload number rows) (λ i. is_some (source_in pairs i)) volume (λ i. ap is_some (same i)),
    )
