-- The victims of a table whose rows show a plain volume are that volume's, and so are the sectors that are planned of them.
use Rattle.std.proofs.Common.{◌≡◌, ℕ, suc, ◌*◌, ◌<◌, ◌≤◌, ◌==◌, ◌&&◌, ◌||◌, cond, Bool, true, false, Option, Some, None}
use Rattle.std.proofs.Common.{List, [], ◌∷◌, length, refl, sym, ◌∙◌, ap, subst, arith}
use Rattle.std.specs.Prelude.{not, IsTrue, IsSome, IfSome, nat_lt}
use Rattle.std.specs.List.{All, AllByRecursion, AllPairs, filter, list_any, range_with_len}
use Rattle.std.proofs.lemmas.Bool.Decides.{nat_tests}
use Rattle.std.proofs.lemmas.List.Elements.{All-nil, All-cons, All-head, All-tail, All-filter, filter_passes}
use Rattle.std.proofs.lemmas.List.Sums.{length-filter}
use Rattle.std.proofs.lemmas.List.Sorted.{list_any-IsPermutation, All-permutation}
use mathlib.Core.Path.{fun_ext}
use Rattle.extent_map.specs.Extents.{is_within, IsShortest}
use Rattle.gc_policy.specs.Victims.{goes_before, AreVictims}
use Rattle.object_stream.specs.Planned.{planned}
use Rattle.object_stream.specs.Stream.{owners, is_own}
use Rattle.object_table.specs.declared.row.ObjectRow.{ObjectRow}
use Rattle.object_table.specs.Table.{has_number, numbers, row_of, is_candidate}
use Rattle.object_table.specs.Lists.{Climbs}
use Rattle.object_table.proofs.Rows.{its_number, found_above}
use Rattle.object_table.proofs.Listed.{found_holds}
use Rattle.volume_maps.specs.declared.place.ObjectPlace.{ObjectPlace}
use Rattle.volume_maps.specs.Places.{object_on}
use Rattle.volume_maps.specs.Maps.{MapsState, settled_at}
use Rattle.volume_maps.specs.Laws.{place_owner}
use Rattle.volume_maps.specs.Live.{is_live, live_sectors as live_count, IsCounted}
use Rattle.volume_maps.specs.CopyPlan.{live_list}
use Rattle.volume_maps.proofs.Counts.{passing_all, live_changed}
use Rattle.volume_maps.proofs.LossLemmas.{known_at}
use Rattle.volume_maps.proofs.RowsLemmas.{is_in, in_range, same_pass}
use Rattle.volume_maps.proofs.VictimLemmas.{different_pass}
use Rattle.plain_disk.specs.State.{PlainState, stream_in, frontier_of, payload_of}
use Rattle.plain_disk.specs.Removals.{has}
use Rattle.plain_disk.specs.Collection.{live_sectors, live_in, is_victim, comes_before, victims, planned_copy}
use Rattle.plain_disk.proofs.CheckpointLemmas.{both_true, same_number}
use Rattle.refine_objects.proofs.RowPayload.{counted}
use Rattle.refine_objects.proofs.VictimCompare.{IsVictim, one_way, apart, chain}
use Rattle.refine_objects.proofs.VictimOrder.{GoesFirst, AreOrdered, ordered_is}

-- ---- numbers of a list

and_false : (b : Bool) → (b && false) ≡ false
and_false true = refl
and_false false = refl

pub in_filter : (test : ℕ → Bool) (ks : List ℕ) (n : ℕ) → is_in (filter test ks) n ≡ (is_in ks n && test n)
in_filter test [] n = refl
in_filter test (first ∷ rest) n =
    let more = in_filter test rest n in
    let F = filter test rest in
    elim (first == n) as (λ b. (first == n) ≡ b
    → is_in (cond (test first) (first ∷ F) F) n ≡ ((b || is_in rest n) && test n)) [
      | true ↦ λ same. (
          let own : test n ≡ test first = ap test (sym (same_number first n same)) in
          elim (test first) as (λ t. test n ≡ t → is_in (cond t (first ∷ F) F) n ≡ test n) [
            | true ↦ λ passes. ap (λ b. b || is_in F n) same ∙ sym passes
            | false ↦ λ fails. more ∙ (ap (λ t. is_in rest n && t) fails ∙ (and_false (is_in rest n) ∙ sym fails))
          ] own)
      | false ↦ λ other. (
          elim (test first) as (λ t. is_in (cond t (first ∷ F) F) n ≡ (is_in rest n && test n)) [
            | true ↦ ap (λ b. b || is_in F n) other ∙ more
            | false ↦ more
          ])
    ] refl

pub all_pass : (test : ℕ → Bool) (ks : List ℕ) → AllByRecursion (λ n. IsTrue (test n)) (filter test ks)
all_pass test [] = tt
all_pass test (first ∷ rest) =
    let F = filter test rest in
    elim (test first) as (λ b. test first ≡ b → AllByRecursion (λ n. IsTrue (test n)) (cond b (first ∷ F) F)) [
      | true ↦ λ passes. (passes, all_pass test rest)
      | false ↦ λ fails. all_pass test rest
    ] refl

in_numbers : (rows : List ObjectRow) (n : ℕ) → is_in (numbers rows) n ≡ list_any (has_number n) rows
in_numbers [] n = refl
in_numbers (row ∷ rows) n = ap (λ b. has_number n row || b) (in_numbers rows n)

-- ---- rows of ascending numbers

absent : (n low : ℕ) (rows : List ObjectRow) (found : Option ObjectRow) → row_of n rows ≡ found → Climbs low (numbers rows)
    → n ≤ low → found ≡ None
absent n low rows None is order past = refl
absent n low rows (Some row) is order past =
    let above = found_above low n rows row order is in
    absurd (omega (arith, above, past))

abbrev pub candidate_of : Option ObjectRow → Bool
candidate_of None = false
candidate_of (Some row) = is_candidate row

-- the candidates have a number just where its row is one
pub in_candidates : (n low : ℕ) (rows : List ObjectRow) → Climbs low (numbers rows)
    → is_in (numbers (filter is_candidate rows)) n ≡ candidate_of (row_of n rows)
in_candidates n low [] order = refl
in_candidates n low (row ∷ rows) order =
    let more = in_candidates n row.number rows order.1 in
    let F = filter is_candidate rows in
    elim (has_number n row) as (λ b. has_number n row ≡ b
    → is_in (numbers (cond (is_candidate row) (row ∷ F) F)) n ≡ candidate_of (cond b (Some row) (row_of n rows))) [
      | true ↦ λ here. (
          let low_n : n ≤ row.number = grind (arith, nat_tests) in
          let none = absent n row.number rows (row_of n rows) refl order.1 low_n in
          elim (is_candidate row) as (λ c. is_in (numbers (cond c (row ∷ F) F)) n ≡ c) [
            | true ↦ ap (λ b. b || is_in (numbers F) n) here
            | false ↦ more ∙ ap candidate_of none
          ])
      | false ↦ λ other. (
          elim (is_candidate row) as (λ c. is_in (numbers (cond c (row ∷ F) F)) n ≡ candidate_of (row_of n rows)) [
            | true ↦ ap (λ b. b || is_in (numbers F) n) other ∙ more
            | false ↦ more
          ])
    ] refl

-- what holds of the row of each number holds of each row
each_row : (P : ObjectRow → Type 0) (low : ℕ) (rows : List ObjectRow) → Climbs low (numbers rows)
    → ((n : ℕ) → IfSome (row_of n rows) P) → All P rows
each_row P low [] order each = All-nil P
each_row P low (row ∷ rows) order each =
    let own : has_number row.number row ≡ true = grind (arith, nat_tests) in
    let here : P row = subst (λ b. IfSome (cond b (Some row) (row_of row.number rows)) P) own (each row.number) in
    All-cons P row rows here (each_row P row.number rows order.1 (λ n.
    elim (has_number n row) as (λ b. has_number n row ≡ b → IfSome (cond b (Some row) (row_of n rows)) P
    → IfSome (row_of n rows) P) [
      | true ↦ λ same is. (
          let low_n : n ≤ row.number = grind (arith, nat_tests) in
          let none = absent n row.number rows (row_of n rows) refl order.1 low_n in
          rw none tt)
      | false ↦ λ other is. is
    ] refl (each n)))

-- ---- live sectors

own_live : (number : ℕ) (place : Option ObjectPlace) → is_own number (place_owner place) ≡ is_live number place
own_live number None = refl
own_live number (Some place) = refl

-- A table with its map, and the plain volume that its rows show.
pub record RowsAre (plain : PlainState) (maps : MapsState) : Type 0 where
  pub shortest : IsShortest object_on maps.settled.rows
  pub order : Climbs 0 (numbers maps.objects.rows)
  pub from_one : All (λ (row : ObjectRow). 1 ≤ row.number) maps.objects.rows
  pub within : All (λ (row : ObjectRow). row.number ≤ frontier_of plain) maps.objects.rows
  pub counts : IsCounted maps.settled.rows maps.objects
  pub owned : (k : ℕ) → place_owner (settled_at maps k) ≡ owners (stream_in plain) (frontier_of plain) k
  pub inside : (k : ℕ) → IfSome (settled_at maps k) (λ (place : ObjectPlace). k < plain.geometry.sectors)
  pub payload : (number : ℕ) → IfSome (row_of number maps.objects.rows) (λ row.
      0 < row.live → row.payload ≡ payload_of plain number)
  pub held : (number : ℕ) → IfSome (row_of number maps.objects.rows) (λ row. row.is_held ≡ has plain.held number)

module _ (plain : PlainState) (maps : MapsState) (is : RowsAre plain maps) where
  abbrev rows : List ObjectRow
  rows = maps.objects.rows

  live_same : (number k : ℕ) → is_live number (settled_at maps k)
      ≡ is_own number (owners (stream_in plain) (frontier_of plain) k)
  live_same number k = sym (own_live number (settled_at maps k)) ∙ ap (is_own number) (is.owned k)

  -- the live sectors of an object are those that it owns
  pub live_lists : (number : ℕ) → live_list plain.geometry.sectors maps number ≡ live_sectors plain number
  live_lists number =
      same_pass (λ k. is_live number (settled_at maps k)) (λ k. is_own number (owners (stream_in plain) (frontier_of plain) k)) 0
      plain.geometry.sectors (λ k low high. live_same number k)

  none_past : (k : ℕ) (place : Option ObjectPlace) → IfSome place (λ (p : ObjectPlace). k < plain.geometry.sectors)
      → is_within 0 plain.geometry.sectors k ≡ false → place ≡ None
  none_past k None inside out = refl
  none_past k (Some place) inside out =
      let within : is_within 0 plain.geometry.sectors k ≡ true = grind (arith, nat_tests, inside) in
      absurd cc

  -- and as many
  pub live_is : (number : ℕ) → live_count number maps.settled.rows ≡ live_in plain number
  live_is number =
      let sectors = plain.geometry.sectors in
      let test : ℕ → Bool = λ k. is_live number (settled_at maps k) in
      let total = live_changed [] maps.settled.rows 0 sectors tt is.shortest number
      (λ k out. none_past k (settled_at maps k) (is.inside k) out) in
      omega (
        arith,
        total,
        passing_all (λ k. false) false 0 sectors (λ k low high. refl),
        counted test 0 sectors,
        length-filter test (range_with_len 0 sectors),
        ap length (live_lists number),
      )

  row_live : (number : ℕ) (row : ObjectRow) → row_of number rows ≡ Some row → row.live ≡ live_in plain number
  row_live number row at =
      found_holds (λ (r : ObjectRow). r.live ≡ live_count r.number maps.settled.rows) number rows row at is.counts.live
      ∙ (ap (λ n. live_count n maps.settled.rows) (its_number number rows row at) ∙ live_is number)

  -- ---- the candidates are the victims

  candidate_by : (test : Bool) (live own payload its : ℕ) → nat_lt 0 live ≡ test → live ≡ own → (0 < live → payload ≡ its)
      → (test && nat_lt (live * 100) (70 * payload)) ≡ (nat_lt 0 own && nat_lt (own * 100) (70 * its))
  candidate_by true live own payload its some same is_its =
      let positive : 0 < live = grind (arith, nat_tests) in
      let other : nat_lt 0 own ≡ true = ap (nat_lt 0) (sym same) ∙ some in
      rw other (ap (λ n. nat_lt (n * 100) (70 * payload)) same ∙ ap (λ p. nat_lt (own * 100) (70 * p)) (is_its positive))
  candidate_by false live own payload its none same is_its =
      let other : nat_lt 0 own ≡ false = ap (nat_lt 0) (sym same) ∙ none in
      rw other refl

  candidate_is : (number : ℕ) (row : ObjectRow) → row_of number rows ≡ Some row → is_candidate row ≡ is_victim plain number
  candidate_is number row at =
      let payload : 0 < row.live → row.payload ≡ payload_of plain number =
      subst (λ found. IfSome found (λ (r : ObjectRow). 0 < r.live → r.payload ≡ payload_of plain number)) at
      (is.payload number) in
      let held : row.is_held ≡ has plain.held number =
      subst (λ found. IfSome found (λ (r : ObjectRow). r.is_held ≡ has plain.held number)) at (is.held number) in
      let poor =
      candidate_by (nat_lt 0 row.live) row.live (live_in plain number) row.payload (payload_of plain number) refl
      (row_live number row at) payload in
      ap (λ h. nat_lt 0 row.live && nat_lt (row.live * 100) (70 * row.payload) && not h) held
      ∙ ap (λ b. b && not (has plain.held number)) poor

  -- an object that has no row has no live sector
  no_place : (number k : ℕ) (place : Option ObjectPlace) → settled_at maps k ≡ place → row_of number rows ≡ None
      → is_live number place ≡ false
  no_place number k None at none = refl
  no_place number k (Some place) at none =
      elim (is_live number (Some place)) as (λ b. is_live number (Some place) ≡ b → b ≡ false) [
        | true ↦ λ live. (
            let both = both_true (place.level == 0) (place.number == number) live in
            let there : IsSome (row_of place.number rows) =
            known_at rows maps.settled.rows k place is.counts.known at (same_number place.level 0 both.0) in
            let found : IsSome (row_of number rows) =
            subst (λ n. IsSome (row_of n rows)) (same_number place.number number both.1) there in
            let bad : false ≡ true = subst (λ (f : Option ObjectRow). IsSome f) none found in
            absurd cc)
        | false ↦ λ dead. refl
      ] refl

  no_live : (number : ℕ) → row_of number rows ≡ None → live_in plain number ≡ 0
  no_live number none =
      let sectors = plain.geometry.sectors in
      let test : ℕ → Bool = λ k. is_live number (settled_at maps k) in
      omega (
        arith,
        passing_all test false 0 sectors (λ k low high. no_place number k (settled_at maps k) refl none),
        counted test 0 sectors,
        length-filter test (range_with_len 0 sectors),
        ap length (live_lists number),
      )

  pub victim_by : (number : ℕ) (found : Option ObjectRow) → row_of number rows ≡ found
      → (is_within 1 (frontier_of plain) number && is_victim plain number) ≡ candidate_of found
  victim_by number None at =
      let none : nat_lt 0 (live_in plain number) ≡ false = ap (nat_lt 0) (no_live number at) in
      ap (λ b. is_within 1 (frontier_of plain) number
      && (b && nat_lt (live_in plain number * 100) (70 * payload_of plain number) && not (has plain.held number))) none
      ∙ and_false (is_within 1 (frontier_of plain) number)
  victim_by number (Some row) at =
      let named = its_number number rows row at in
      let low = found_holds (λ (r : ObjectRow). 1 ≤ r.number) number rows row at is.from_one in
      let high = found_holds (λ (r : ObjectRow). r.number ≤ frontier_of plain) number rows row at is.within in
      let within : is_within 1 (frontier_of plain) number ≡ true = grind (arith, nat_tests, low, high, named) in
      rw within (sym (candidate_is number row at))

  -- ---- and stand in their order

  abbrev ShowsRow : ObjectRow → Type 0
  ShowsRow row = (row.live ≡ live_in plain row.number) × (row.payload ≡ payload_of plain row.number)

  comes_is : (row other : ObjectRow) → ShowsRow row → ShowsRow other
      → comes_before plain row.number other.number ≡ goes_before row other
  comes_is row other one two =
      sym (rw (one.0, one.1, two.0, two.1) refl)

  shows_by : (number : ℕ) (found : Option ObjectRow) → row_of number rows ≡ found
      → IfSome found (λ row. IsTrue (is_candidate row) → ShowsRow row)
  shows_by number None at = tt
  shows_by number (Some row) at = λ candidate.
      let named = its_number number rows row at in
      let few = nat_lt (row.live * 100) (70 * row.payload) in
      let poor = both_true (nat_lt 0 row.live && few) (not row.is_held) candidate in
      let some = both_true (nat_lt 0 row.live) few poor.0 in
      let positive : 0 < row.live = grind (arith, nat_tests, some) in
      let payload : 0 < row.live → row.payload ≡ payload_of plain number =
      subst (λ f. IfSome f (λ (r : ObjectRow). 0 < r.live → r.payload ≡ payload_of plain number)) at (is.payload number) in
      (row_live number row at ∙ ap (live_in plain) (sym named), payload positive ∙ ap (payload_of plain) (sym named))

  candidates_show : All ShowsRow (filter is_candidate rows)
  candidates_show =
      let each = each_row (λ row. IsTrue (is_candidate row) → ShowsRow row) 0 rows is.order
      (λ number. shows_by number (row_of number rows) refl) in
      let kept = All-filter is_candidate (λ row. IsTrue (is_candidate row) → ShowsRow row) rows each in
      λ k d inside. kept k d inside (filter_passes is_candidate rows k d inside)

  goes_numbers : (row : ObjectRow) (rest : List ObjectRow) → ShowsRow row → All ShowsRow rest
      → All (λ other. IsTrue (goes_before row other)) rest → GoesFirst (comes_before plain) row.number (numbers rest)
  goes_numbers row [] own are goes = tt
  goes_numbers row (other ∷ rest) own are goes = (
    comes_is row other own (All-head ShowsRow other rest are)
        ∙ All-head (λ o. IsTrue (goes_before row o)) other rest goes,
    goes_numbers row rest own (All-tail ShowsRow other rest are)
        (All-tail (λ o. IsTrue (goes_before row o)) other rest goes),
  )

  ordered_rows : (taken : List ObjectRow) → All ShowsRow taken → AllPairs (λ row other. IsTrue (goes_before row other)) taken
      → AreOrdered (comes_before plain) (numbers taken)
  ordered_rows [] are pairs = tt
  ordered_rows (row ∷ taken) are pairs = (
    goes_numbers row taken (All-head ShowsRow row taken are) (All-tail ShowsRow row taken are)
        (λ k d inside. pairs 0 (suc k) d (omega arith) (omega (arith, inside))),
    ordered_rows taken (All-tail ShowsRow row taken are)
        (λ i j d less inside. pairs (suc i) (suc j) d (omega (arith, less)) (omega (arith, inside))),
  )

  -- so both are one list
  pub victims_are : (list : List ℕ) → AreVictims rows list → victims plain ≡ list
  victims_are list are =
      let own = filter (is_victim plain) (range_with_len 1 (frontier_of plain)) in
      let taken = are.taken in
      let kept = filter is_candidate rows in
      let show = All-permutation ShowsRow kept taken are.each_once candidates_show in
      let same : (n : ℕ) → is_in own n ≡ is_in (numbers taken) n = λ n.
      in_filter (is_victim plain) (range_with_len 1 (frontier_of plain)) n
      ∙ (ap (λ b. b && is_victim plain n) (in_range 1 (frontier_of plain) n)
      ∙ (victim_by n (row_of n rows) refl
      ∙ (sym (in_candidates n 0 rows is.order)
      ∙ (in_numbers kept n ∙ (list_any-IsPermutation (has_number n) kept taken are.each_once
      ∙ sym (in_numbers taken n)))))) in
      ordered_is (comes_before plain) (IsVictim plain) (chain plain) (apart plain) (λ m n. one_way plain m n) own
      (numbers taken) (all_pass (is_victim plain) (range_with_len 1 (frontier_of plain)))
      (different_pass (is_victim plain) 1 (frontier_of plain)) (ordered_rows taken show are.in_order) same
      ∙ sym are.are

  -- and what is planned of them is what the plain volume plans
  pub planned_is : (list : List ℕ) → AreVictims rows list
      → planned plain.geometry.batch (live_list plain.geometry.sectors maps) list ≡ planned_copy plain
  planned_is list are =
      ap (λ live. planned plain.geometry.batch live list) (fun_ext live_lists)
      ∙ ap (planned plain.geometry.batch (live_sectors plain)) (sym (victims_are list are))
