-- The runs of sectors that one same write wrote last are the rows of data in the log.
use Rattle.std.proofs.Common.{◌≡◌, ℕ, zero, suc, ◌+◌, ◌-◌, ◌<◌, ◌≤◌, ◌==◌, inl, inr, cond, false, Option, Some, None, List, []}
use Rattle.std.proofs.Common.{◌∷◌, map, refl}
use Rattle.std.proofs.Common.{sym, ◌∙◌, ap, arith}
use Rattle.std.specs.List.{range_with_len}
use Rattle.std.proofs.lemmas.Bool.{cases_lt, eqb-true, eq-eqb, false_from_ne_true}
use Rattle.extent_map.specs.declared.extent.Extent.{Extent}
use Rattle.extent_map.specs.Extents.{place_at, place_in_range, IsShortest}
use Rattle.extent_map.specs.Laws.{StartsFrom}
use Rattle.extent_map.proofs.Places.{within, not_below, not_past, at_inside, at_past, after_row, none_before}
use Rattle.extent_map.proofs.OneList.{not_on}
use Rattle.volume_maps.specs.declared.place.LogPlace.TheVariants.{Data, Zeros}
use Rattle.volume_maps.specs.declared.place.VolumePlace.{VolumePlace}
use Rattle.volume_maps.specs.declared.place.VolumePlace.TheVariants.{Log, Object}
use Rattle.volume_maps.specs.Places.{volume_on}
use Rattle.plain_disk.specs.Writers.{goes_on, run_starts, runs_after}
use Rattle.vol_core.specs.Places.{data_row_in_log, data_rows_in_log}

-- ---- the runs of sectors, given by their last writers

module _ (writer : ℕ → Option ℕ) where
  -- the runs of N sectors from one on, after a sector with a last writer
  abbrev pub runs_from : (before : Option ℕ) (from n : ℕ) → ℕ
  runs_from before from n = runs_after before (map writer (range_with_len from n))

  -- a sector with a last writer, and those after it
  next_starts : (before v : Option ℕ) (from m n : ℕ) → writer from ≡ v
      → runs_from before from (suc m + n) ≡ run_starts before v + runs_from v (from + 1) (m + n)
  next_starts before v from m n here =
      let count : suc m + n ≡ suc (m + n) = omega arith in
      ap (runs_from before from) count ∙ ap (λ w. run_starts before w + runs_from w (from + 1) (m + n)) here

  -- sectors with the last writer of the one before them begin no run
  none_starts : (v : Option ℕ) (from m n : ℕ) → run_starts v v ≡ 0 → ((k : ℕ) → from ≤ k → k < from + m → writer k ≡ v)
      → runs_from v from (m + n) ≡ runs_from v (from + m) n
  none_starts v from zero n stays same =
      let same_from : from ≡ from + 0 = omega arith in
      let same_count : 0 + n ≡ n = omega arith in
      ap (runs_from v from) same_count ∙ ap (λ at. runs_from v at n) same_from
  none_starts v from (suc m) n stays same =
      let next = next_starts v v from m n (same from (omega arith) (omega arith)) in
      let more = none_starts v (from + 1) m n stays (λ k low high. same k (omega arith) (omega arith)) in
      let end : from + 1 + m ≡ from + suc m = omega arith in
      let rest = ap (λ at. runs_from v at n) end in
      omega arith

  -- sectors with one same last writer begin one run, or none
  pub one_starts : (before v : Option ℕ) (from m n : ℕ) → 0 < m → run_starts v v ≡ 0
      → ((k : ℕ) → from ≤ k → k < from + m → writer k ≡ v)
      → runs_from before from (m + n) ≡ run_starts before v + runs_from v (from + m) n
  one_starts before v from zero n some stays same = absurd (omega arith)
  one_starts before v from (suc m) n some stays same =
      let next = next_starts before v from m n (same from (omega arith) (omega arith)) in
      let more = none_starts v (from + 1) m n stays (λ k low high. same k (omega arith) (omega arith)) in
      let end : from + 1 + m ≡ from + suc m = omega arith in
      let rest = ap (λ at. runs_from v at n) end in
      omega arith

-- ---- places

-- the last writer of a sector at a place, where the entries from a seq on are counted
abbrev pub writer_at : (first : ℕ) → Option VolumePlace → Option ℕ
writer_at first None = None
writer_at first (Some (Log (Data seq at))) = Some (seq - first)
writer_at first (Some (Log (Zeros seq))) = None
writer_at first (Some (Object place)) = None

-- sectors that one same write left go on in the log
abbrev pub GoOn : (first : ℕ) → (ℕ → Option VolumePlace) → Type 0
GoOn first places =
    (k n seq at other_seq other : ℕ) → places k ≡ Some (Log (Data seq at)) → places (k + n) ≡ Some (Log (Data other_seq other))
    → seq - first ≡ other_seq - first → (seq ≡ other_seq) × (other ≡ at + n)

on_none : (place : VolumePlace) → volume_on 0 place ≡ place
on_none (Log (Data seq at)) = ap (λ n. Log (Data seq n)) (omega arith)
on_none (Log (Zeros seq)) = refl
on_none (Object place) =
    let same : place.sector + 0 ≡ place.sector = omega arith in
    ap (λ n. Object (record place { sector = n })) same

same_writer : (first n : ℕ) (place : VolumePlace) → writer_at first (Some (volume_on n place)) ≡ writer_at first (Some place)
same_writer first n (Log (Data seq at)) = refl
same_writer first n (Log (Zeros seq)) = refl
same_writer first n (Object place) = refl

-- a run does not begin in the midst of a row
row_stays : (first : ℕ) (place : VolumePlace) → run_starts (writer_at first (Some place)) (writer_at first (Some place)) ≡ 0
row_stays first (Log (Data seq at)) = ap (λ b. cond b 0 1) (eq-eqb (seq - first) (seq - first) refl)
row_stays first (Log (Zeros seq)) = refl
row_stays first (Object place) = refl

-- and one begins with a row of data in the log that does not go on with the sector before it
row_starts : (first : ℕ) (before : Option ℕ) (place : VolumePlace) → goes_on before (writer_at first (Some place)) ≡ false
    → run_starts before (writer_at first (Some place)) ≡ data_row_in_log place
row_starts first before (Log (Data seq at)) apart = ap (λ b. cond b 0 1) apart
row_starts first before (Log (Zeros seq)) apart = refl
row_starts first before (Object place) apart = refl

-- ---- rows

module _ (first : ℕ) (places : ℕ → Option VolumePlace) (writer : ℕ → Option ℕ) (are : (k : ℕ)
    → writer k ≡ writer_at first (places k))
    (go_on : GoOn first places) where
  -- the rows give the N sectors from one on their places, and no others
  abbrev Give : (from n : ℕ) → List (Extent VolumePlace) → Type 0
  Give from n rows = (k : ℕ) → place_at volume_on rows k ≡ place_in_range from n places k

  in_range : (from n k : ℕ) → from ≤ k → k < from + n → place_in_range from n places k ≡ places k
  in_range from n k low high = ap (λ b. cond b (places k) None) (within from n k low high)

  past_range : (from n k : ℕ) → from + n ≤ k → place_in_range from n places k ≡ None
  past_range from n k high = ap (λ b. cond b (places k) None) (not_past from n k high)

  below_range : (from n k : ℕ) → k < from → place_in_range from n places k ≡ None
  below_range from n k low = ap (λ b. cond b (places k) None) (not_below from n k low)

  -- the first row lies in the range
  row_ends : (from n : ℕ) (row : Extent VolumePlace) (rows : List (Extent VolumePlace)) → 0 < row.sectors
      → Give from n (row ∷ rows)
      → row.lba + row.sectors ≤ from + n
  row_ends from n row rows some give =
      elim (cases_lt (from + n) (row.lba + row.sectors)) [
        | inl over ↦
            let last = row.lba + row.sectors - 1 in
            let found = at_inside volume_on row rows last (omega arith) (omega arith) in
            let none = past_range from n last (omega arith) in
            let same = give last in
            let bad : ⊥ = cc in absurd bad
        | inr ends ↦ ends
      ]

  row_begins : (from n : ℕ) (row : Extent VolumePlace) (rows : List (Extent VolumePlace)) → 0 < row.sectors
      → Give from n (row ∷ rows)
      → from ≤ row.lba
  row_begins from n row rows some give =
      elim (cases_lt row.lba from) [
        | inl under ↦
            let found = at_inside volume_on row rows row.lba (omega arith) (omega arith) in
            let none = below_range from n row.lba under in
            let same = give row.lba in
            let bad : ⊥ = cc in absurd bad
        | inr begins ↦ begins
      ]

  -- the other rows give the sectors after it
  rest_give : (from n : ℕ) (row : Extent VolumePlace) (rows : List (Extent VolumePlace)) → IsShortest volume_on (row ∷ rows)
      → from ≤ row.lba → row.lba + row.sectors ≤ from + n → Give from n (row ∷ rows)
      → Give (row.lba + row.sectors) (from + n - (row.lba + row.sectors)) rows
  rest_give from n row rows shortest begins ends give k =
      let end = row.lba + row.sectors in
      let left = from + n - end in
      elim (cases_lt k end) [
        | inl low ↦ none_before volume_on rows end k shortest.2 (after_row volume_on row rows shortest.1) low
            ∙ sym (below_range end left k low)
        | inr high ↦
            sym (at_past volume_on row rows k high)
            ∙ (give k
            ∙ elim (cases_lt k (from + n)) [
              | inl low ↦ in_range from n k (omega arith) low ∙ sym (in_range end left k high (omega arith))
              | inr past ↦ past_range from n k past ∙ sym (past_range end left k (omega arith))
            ])
      ]

  -- the sectors of a row have one last writer
  row_writer : (from n : ℕ) (row : Extent VolumePlace) (rows : List (Extent VolumePlace)) → from ≤ row.lba
      → row.lba + row.sectors ≤ from + n
      → Give from n (row ∷ rows) → (k : ℕ) → row.lba ≤ k → k < row.lba + row.sectors → writer k ≡ writer_at first (Some row.place)
  row_writer from n row rows begins ends give k low high =
      let place : places k ≡ Some (volume_on (k - row.lba) row.place) =
      sym (in_range from n k (omega arith) (omega arith)) ∙ (sym (give k) ∙ at_inside volume_on row rows k low high) in
      are k ∙ (ap (writer_at first) place ∙ same_writer first (k - row.lba) row.place)

  -- sectors before the first row have none
  gap_writer : (from n at : ℕ) (rows : List (Extent VolumePlace)) → IsShortest volume_on rows → StartsFrom at rows → at ≤ from + n
      → Give from n rows → (k : ℕ) → from ≤ k → k < at → writer k ≡ None
  gap_writer from n at rows shortest starts within_it give k low high =
      let place : places k ≡ None =
      sym (in_range from n k low (omega arith)) ∙ (sym (give k) ∙ none_before volume_on rows at k shortest starts high) in
      are k ∙ ap (writer_at first) place

  -- what comes after a row does not go on with it
  apart_by : (k n : ℕ) (place : VolumePlace) (next : Option VolumePlace) → places k ≡ Some place → places (k + n) ≡ next
      → (next ≡ Some (volume_on n place) → ⊥) → goes_on (writer_at first (Some place)) (writer_at first next) ≡ false
  apart_by k n (Log (Data seq at)) None here there apart = refl
  apart_by k n (Log (Data seq at)) (Some (Log (Data other_seq other))) here there apart =
      false_from_ne_true (seq - first == other_seq - first) (λ same.
      let on = go_on k n seq at other_seq other here there (eqb-true (seq - first) (other_seq - first) same) in
      let same_seq = on.0 in
      let same_sector = on.1 in
      apart (cc))
  apart_by k n (Log (Data seq at)) (Some (Log (Zeros other_seq))) here there apart = refl
  apart_by k n (Log (Data seq at)) (Some (Object other)) here there apart = refl
  apart_by k n (Log (Zeros seq)) next here there apart = refl
  apart_by k n (Object place) next here there apart = refl

  row_apart : (from n : ℕ) (row : Extent VolumePlace) (rows : List (Extent VolumePlace)) → IsShortest volume_on (row ∷ rows)
      → from ≤ row.lba → row.lba + row.sectors ≤ from + n → Give from n (row ∷ rows) → 0 < from + n - (row.lba + row.sectors)
      → goes_on (writer_at first (Some row.place)) (writer (row.lba + row.sectors)) ≡ false
  row_apart from n row rows shortest begins ends give more =
      let end = row.lba + row.sectors in
      let left = from + n - end in
      let none_on : row.lba - row.lba ≡ 0 = omega arith in
      let some = shortest.0 in
      let here : places row.lba ≡ Some row.place =
      sym (in_range from n row.lba begins (omega arith)) ∙ (sym (give row.lba)
      ∙ (at_inside volume_on row rows row.lba (omega arith) (omega arith)
      ∙ ap Some (ap (λ i. volume_on i row.place) none_on ∙ on_none row.place))) in
      let rest = rest_give from n row rows shortest begins ends give end ∙ in_range end left end (omega arith) (omega arith) in
      ap (goes_on (writer_at first (Some row.place))) (are end)
      ∙ apart_by row.lba row.sectors row.place (places end) here refl
      (λ on. not_on volume_on on_none row rows shortest (rest ∙ on))

  -- ---- how many there are

  none_counted : (before : Option ℕ) (from n : ℕ) → Give from n [] → 0 ≡ runs_from writer before from n
  none_counted before from zero give = refl
  none_counted before from (suc n) give =
      let all : suc n + 0 ≡ suc n = omega arith in
      let none = gap_writer from (suc n) (from + suc n) [] tt tt (omega arith) give in
      sym (one_starts writer before None from (suc n) 0 (omega arith) refl none) ∙ ap (runs_from writer before from) all

  row_counted : (before : Option ℕ) (from n : ℕ) (row : Extent VolumePlace) (rows : List (Extent VolumePlace))
      → IsShortest volume_on (row ∷ rows)
      → from ≤ row.lba → row.lba + row.sectors ≤ from + n → Give from n (row ∷ rows)
      → goes_on before (writer_at first (Some row.place)) ≡ false
      → data_rows_in_log rows ≡ runs_from writer (writer_at first (Some row.place)) (row.lba + row.sectors)
      (from + n - (row.lba + row.sectors))
      → data_rows_in_log (row ∷ rows) ≡ runs_from writer before row.lba (from + n - row.lba)
  row_counted before from n row rows shortest begins ends give apart rest =
      let left = from + n - (row.lba + row.sectors) in
      let all : row.sectors + left ≡ from + n - row.lba = omega arith in
      let start = row_starts first before row.place apart in
      let counted_row = one_starts writer before (writer_at first (Some row.place)) row.lba row.sectors left shortest.0
      (row_stays first row.place)
      (row_writer from n row rows begins ends give) in
      let whole = ap (runs_from writer before row.lba) all in
      omega arith

  pub runs_counted : (rows : List (Extent VolumePlace)) (before : Option ℕ) (from n : ℕ) → IsShortest volume_on rows
      → Give from n rows
      → (0 < n → goes_on before (writer from) ≡ false) → data_rows_in_log rows ≡ runs_from writer before from n
  runs_counted [] before from n shortest give apart = none_counted before from n give
  runs_counted (row ∷ rows) before from n shortest give apart =
      let begins = row_begins from n row rows shortest.0 give in
      let ends = row_ends from n row rows shortest.0 give in
      let end = row.lba + row.sectors in
      let left = from + n - end in
      let rest = runs_counted rows (writer_at first (Some row.place)) end left shortest.2
      (rest_give from n row rows shortest begins ends give)
      (row_apart from n row rows shortest begins ends give) in
      elim (cases_lt from row.lba) [
        | inl gap ↦
            let front = row.lba - from in
            let at : from + front ≡ row.lba = omega arith in
            let all : front + (from + n - row.lba) ≡ n = omega (arith, shortest.0) in
            let none = λ (k : ℕ) (low : from ≤ k) (high : k < from + front).
            gap_writer from n row.lba (row ∷ rows) shortest (omega arith) (omega (arith, shortest.0)) give k low (omega arith) in
            let skipped = one_starts writer before None from front (from + n - row.lba) (omega arith) refl none in
            let whole = ap (runs_from writer before from) all in
            let moved = ap (λ k. runs_from writer None k (from + n - row.lba)) at in
            let own = row_counted None from n row rows shortest begins ends give refl rest in
            omega arith
        | inr touch ↦
            let same : row.lba ≡ from = omega arith in
            let first_writer = row_writer from n row rows begins ends give from (omega arith) (omega (arith, shortest.0)) in
            let not_on_before = sym (ap (goes_on before) first_writer) ∙ apart (omega (arith, shortest.0)) in
            let all : from + n - row.lba ≡ n = omega arith in
            row_counted before from n row rows shortest begins ends give not_on_before rest
            ∙ (ap (λ k. runs_from writer before k (from + n - row.lba)) same ∙ ap (runs_from writer before from) all)
      ]
