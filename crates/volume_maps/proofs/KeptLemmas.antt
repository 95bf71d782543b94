-- What is kept of the objects' map and its table: where the map changes, and where objects come, change or go.
use Rattle.std.proofs.Common.{ℕ, ◌+◌, ◌-◌, ◌^◌, ◌<◌, ◌≤◌, ◌≡◌, ◌≢◌, Bool, true, false, cond, Some, None}
use Rattle.std.proofs.Common.{List, [], ◌∷◌, ◌++◌, refl, sym, ◌∙◌, ap, subst, arith}
use Rattle.std.specs.Prelude.{IsSome, IfSome, is_some, nat_eq, ◌==◌, map, find}
use Rattle.std.specs.List.{All}
use Rattle.std.proofs.lemmas.Bool.Decides.{nat_tests}
use Rattle.std.proofs.lemmas.List.Elements.{All-nil, All-cons, All-head, All-tail, All-weaker, All-push, All-map}
use Rattle.std.proofs.lemmas.List.Sums.{sum_by-cons}
use Rattle.std.proofs.lemmas.Option.{same_Some}
use Rattle.extent_map.specs.declared.extent.Extent.{Extent}
use Rattle.extent_map.specs.Extents.{is_within, place_at, place_after_set, place_after_clear, IsShortest, AllFit}
use Rattle.extent_map.proofs.Places.{within}
use Rattle.object_table.specs.declared.row.ObjectRow.{ObjectRow}
use Rattle.object_table.specs.Table.{TableState, has_number, row_of, live_of, numbers, without, with_changed}
use Rattle.object_table.specs.Table.{gained, passed}
use Rattle.object_table.specs.Lists.{Climbs}
use Rattle.object_table.proofs.Listed.{climbs_without}
use Rattle.volume_maps.specs.declared.place.ObjectPlace.{ObjectPlace}
use Rattle.volume_maps.specs.Places.{object_on, object_number}
use Rattle.volume_maps.specs.Live.{is_in_object, sectors_in, live_sectors, MayGain, HasSameObjects}
use Rattle.volume_maps.specs.Kept.{IsKept, live_between, IsCountedBut, after_gain}
use Rattle.volume_maps.proofs.Counts.{live_nowhere, live_in_row, live_few, live_changed}
use Rattle.volume_maps.proofs.TableLemmas.{same_twice, same_changed, same_numbers, still_there, changed_all}
use Rattle.volume_maps.proofs.LossLemmas.{IsKnown, known_at, all_known, own_sectors, none_in, none_of_other, none_of_clone}
use Rattle.volume_maps.proofs.LossLemmas.{found_by}

-- ---- the map changes in a range

-- an object that may gain sectors is there, and no checkpoint has passed it
pub gains_there : (number : ℕ) (table : TableState) → MayGain number table → IsSome (row_of number table.rows)
gains_there number table gains = rw gains.1 refl

-- so it is one that checkpoints map
pub gains_mapped : (number : ℕ) (table : TableState) → MayGain number table
    → IfSome (row_of number table.rows) (λ (row : ObjectRow). row.is_unmapped ≡ false)
gains_mapped number table gains = rw gains.1 gains.2

module _ (old new : List (Extent ObjectPlace)) (lba sectors : ℕ) (was table : TableState) (kept : IsKept old was)
    (shortest : IsShortest object_on new) (same : HasSameObjects was table) (counted : IsCountedBut old lba sectors table) where
  -- the numbers still ascend
  order_now : (next : TableState) → HasSameObjects was next → Climbs 0 (numbers next.rows)
  order_now next same = subst (Climbs 0) (sym (same_numbers was next same)) kept.order

  -- each place before was in an object that was there
  known_before : (k : ℕ) (place : ObjectPlace) → place_at object_on old k ≡ Some place → IsKnown was.rows place
  known_before k place is = known_at was.rows old k place kept.counted.known is

  -- ---- its sectors lose their places

  module _ (places : (k : ℕ) → place_at object_on new k ≡ place_after_clear lba sectors (place_at object_on old) k) where
    -- no sector of the range has a place
    bare_in : (k : ℕ) → lba ≤ k → k < lba + sectors → place_at object_on new k ≡ None
    bare_in k low high =
        places k ∙ ap (λ b. cond b None (place_at object_on old k)) (within lba sectors k low high)

    -- and each other has its place
    as_before : (k : ℕ) → is_within lba sectors k ≡ false → place_at object_on new k ≡ place_at object_on old k
    as_before k out = places k ∙ ap (λ b. cond b None (place_at object_on old k)) out

    -- what an object has left, with what it had in the range
    live_left : (number : ℕ)
        → live_sectors number new + live_between number (place_at object_on old) lba sectors ≡ live_sectors number old
    live_left number =
        omega (
          arith,
          live_changed old new lba sectors kept.shortest shortest number as_before,
          live_nowhere number (place_at object_on new) lba sectors bare_in,
        )

    -- a place that a sector has then it had before
    given_before : (b : Bool) (k : ℕ) (place : ObjectPlace) → cond b None (place_at object_on old k) ≡ Some place
        → place_at object_on old k ≡ Some place
    given_before true k place is = absurd cc
    given_before false k place is = is

    -- the table without the sectors of the range counts the map then
    pub kept_cleared : IsKept new table
    kept_cleared = record {
      shortest = shortest;
      order = order_now table same;
      counted = record {
        live = All-weaker
            (λ object. object.live + live_between object.number (place_at object_on old) lba sectors
            ≡ live_sectors object.number old)
            (λ object. object.live ≡ live_sectors object.number new)
            (λ object is. omega (arith, is, live_left object.number)) table.rows counted;
        known = all_known table.rows new shortest
            (λ k place is own. still_there place.number was table same
            (known_before k place (given_before (is_within lba sectors k) k place (sym (places k) ∙ is)) own));
      };
    }

  -- ---- they get the places of an object from one on

  module _ (place : ObjectPlace)
      (places : (k : ℕ) → place_at object_on new k ≡ place_after_set object_on lba sectors place (place_at object_on old) k)
      (gains : place.level ≡ 0 → MayGain place.number was) where
    -- the sectors of the range have their places in turn
    set_in : (k : ℕ) → lba ≤ k → k < lba + sectors → place_at object_on new k ≡ Some (object_on (k - lba) place)
    set_in k low high =
        places k
        ∙ ap (λ b. cond b (Some (object_on (k - lba) place)) (place_at object_on old k)) (within lba sectors k low high)

    -- and each other has its own
    as_before_set : (k : ℕ) → is_within lba sectors k ≡ false → place_at object_on new k ≡ place_at object_on old k
    as_before_set k out =
        places k ∙ ap (λ b. cond b (Some (object_on (k - lba) place)) (place_at object_on old k)) out

    -- what an object has then, with what it had in the range
    live_set : (number : ℕ)
        → live_sectors number new + live_between number (place_at object_on old) lba sectors
        ≡ live_sectors number old + cond (is_in_object number place) sectors 0
    live_set number =
        let row : Extent ObjectPlace = record { lba = lba; sectors = sectors; place = place } in
        omega (
          arith,
          live_changed old new lba sectors kept.shortest shortest number as_before_set,
          live_in_row number (place_at object_on new) row set_in,
        )

    -- what an object has then, where it is the one of the place
    pub gain_few : AllFit object_number new → place.level ≡ 0 → live_of place.number table.rows + sectors < 2 ^ 64
    gain_few fits own =
        let number = place.number in
        let test : (place.level == 0) ≡ true = grind (arith, nat_tests) in
        let there = still_there number was table same (gains_there number was (gains own)) in
        let found = found_by (λ object. object.live + live_between object.number (place_at object_on old) lba sectors
        ≡ live_sectors object.number old) number table.rows there counted in
        omega (
          arith,
          found.1,
          found.3,
          ap (λ n. live_between n (place_at object_on old) lba sectors) found.2,
          ap (λ n. live_sectors n old) found.2,
          live_set number,
          own_sectors place number sectors test refl,
          live_few object_number number new shortest fits,
        )

    -- by a test, whether a sector is in the range, its place is in an object that was there
    known_by : (b : Bool) (k : ℕ) (found : ObjectPlace)
        → cond b (Some (object_on (k - lba) place)) (place_at object_on old k) ≡ Some found → IsKnown was.rows found
    known_by true k found is =
        subst (IsKnown was.rows) (same_Some (object_on (k - lba) place) found is)
        (λ own. gains_there place.number was (gains own))
    known_by false k found is = known_before k found is

    -- by a test, whether the object is one of the volume's own, the counts are those of the map then
    counted_by : (b : Bool) → (place.level == 0) ≡ b
        → All (λ object. object.live ≡ live_sectors object.number new)
        (cond b (with_changed (gained sectors) place.number table) table).rows
    counted_by false clone =
        All-weaker
        (λ object. object.live + live_between object.number (place_at object_on old) lba sectors
        ≡ live_sectors object.number old)
        (λ object. object.live ≡ live_sectors object.number new)
        (λ object is. omega (arith, is, live_set object.number, none_of_clone place object.number sectors clone))
        table.rows counted
    counted_by true test =
        changed_all
        (λ object. object.live + live_between object.number (place_at object_on old) lba sectors
        ≡ live_sectors object.number old)
        (λ object. object.live ≡ live_sectors object.number new)
        (gained sectors) place.number 0 table.rows (order_now table same)
        (λ object other is. omega (
          arith,
          is,
          live_set object.number,
          none_of_other place object.number sectors (λ number. other (sym number)),
        ))
        (λ object number found is. omega (
          arith,
          is,
          live_set object.number,
          own_sectors place object.number sectors test (sym number),
        ))
        counted

    -- and the objects are the same
    same_by : (b : Bool) → HasSameObjects was (cond b (with_changed (gained sectors) place.number table) table)
    same_by false = same
    same_by true =
        same_twice was table (with_changed (gained sectors) place.number table) same
        (same_changed (gained sectors) place.number table (λ object. refl))

    -- in each case
    pub same_set : HasSameObjects was (after_gain place sectors table)
    same_set = same_by (place.level == 0)

    -- the table without the sectors of the range, and with those that were gained, counts the map then
    pub kept_set : IsKept new (after_gain place sectors table)
    kept_set = record {
      shortest = shortest;
      order = order_now (after_gain place sectors table) same_set;
      counted = record {
        live = counted_by (place.level == 0) refl;
        known = all_known (after_gain place sectors table).rows new shortest
            (λ k found is own. still_there found.number was (after_gain place sectors table) same_set
            (known_by (is_within lba sectors k) k found (sym (places k) ∙ is) own));
      };
    }

-- ---- objects whose numbers and counts stay

-- an object's number and its count
abbrev pub count_of : ObjectRow → ℕ × ℕ
count_of object = (object.number, object.live)

-- the numbers by these
numbers_counted : (objects : List ObjectRow) → map (λ (c : ℕ × ℕ). c.0) (map count_of objects) ≡ numbers objects
numbers_counted [] = refl
numbers_counted (object ∷ objects) = ap (λ rest. object.number ∷ rest) (numbers_counted objects)

-- a fact on these is one on the objects
all_counted : (P : ℕ × ℕ → Type 0) (objects : List ObjectRow) → All P (map count_of objects)
    → All (λ object. P (count_of object)) objects
all_counted P [] all = All-nil (λ (object : ObjectRow). P (count_of object))
all_counted P (object ∷ objects) all =
    All-cons (λ object. P (count_of object)) object objects (All-head P (count_of object) (map count_of objects) all)
    (all_counted P objects (All-tail P (count_of object) (map count_of objects) all))

-- whether an object of a number is there, by these
some_counted : (number : ℕ) (objects : List ObjectRow)
    → is_some (find (λ (c : ℕ × ℕ). nat_eq c.0 number) (map count_of objects)) ≡ is_some (row_of number objects)
some_counted number [] = refl
some_counted number (object ∷ objects) =
    elim (has_number number object) as (λ b. is_some (cond b (Some (count_of object))
    (find (λ (c : ℕ × ℕ). nat_eq c.0 number) (map count_of objects)))
    ≡ is_some (cond b (Some object) (row_of number objects))) [
      | true ↦ refl
      | false ↦ some_counted number objects
    ]

-- objects whose numbers and counts are as before count the same map
pub kept_counts : (rows : List (Extent ObjectPlace)) (table next : TableState) → IsKept rows table
    → map count_of next.rows ≡ map count_of table.rows → IsKept rows next
kept_counts rows table next kept same =
    let P : ℕ × ℕ → Type 0 = λ c. c.1 ≡ live_sectors c.0 rows in
    let there : (number : ℕ) → is_some (row_of number next.rows) ≡ is_some (row_of number table.rows) = λ number.
    sym (some_counted number next.rows)
    ∙ ap (λ cs. is_some (find (λ (c : ℕ × ℕ). nat_eq c.0 number) cs)) same
    ∙ some_counted number table.rows in
    record {
      shortest = kept.shortest;
      order = subst (Climbs 0) (sym (numbers_counted table.rows) ∙ ap (map (λ (c : ℕ × ℕ). c.0)) (sym same)
          ∙ numbers_counted next.rows) kept.order;
      counted = record {
        live = all_counted P next.rows (subst (All P) (sym same) (All-map P count_of table.rows kept.counted.live));
        known = All-weaker (λ (row : Extent ObjectPlace). IsKnown table.rows row.place)
            (λ (row : Extent ObjectPlace). IsKnown next.rows row.place)
            (λ row known own. there row.place.number ∙ known own) rows kept.counted.known;
      };
    }

-- a checkpoint that passes objects changes neither
count_passed : (objects : List ObjectRow) → map count_of (map passed objects) ≡ map count_of objects
count_passed [] = refl
count_passed (object ∷ objects) = ap (λ rest. count_of object ∷ rest) (count_passed objects)

-- a checkpoint passes each object
pub kept_passed : (rows : List (Extent ObjectPlace)) (table : TableState) → IsKept rows table
    → IsKept rows (record table { rows = map passed table.rows })
kept_passed rows table kept =
    kept_counts rows table (record table { rows = map passed table.rows }) kept (count_passed table.rows)

-- ---- an object more

-- ascending numbers, and one above them
climbs_last : (low : ℕ) (objects : List ObjectRow) (new : ObjectRow) → Climbs low (numbers objects) → low < new.number
    → All (λ object. object.number < new.number) objects → Climbs low (numbers (objects ++ new ∷ []))
climbs_last low [] new order above below = (above, tt)
climbs_last low (object ∷ objects) new order above below = (
  order.0,
  climbs_last object.number objects new order.1 (All-head (λ object. object.number < new.number) object objects below)
      (All-tail (λ object. object.number < new.number) object objects below),
)

-- an object whose number is above all others is found last
pub last_row : (number : ℕ) (objects : List ObjectRow) (new : ObjectRow) → new.number ≡ number
    → All (λ object. object.number < number) objects → row_of number (objects ++ new ∷ []) ≡ Some new
last_row number [] new same below =
    let it : has_number number new ≡ true = grind (arith, nat_tests) in
    rw it refl
last_row number (object ∷ objects) new same below =
    let low = All-head (λ object. object.number < number) object objects below in
    let not_it : has_number number object ≡ false = grind (arith, nat_tests) in
    rw not_it (last_row number objects new same (All-tail (λ object. object.number < number) object objects below))

-- an object that is there stays so with more
still_found : (number : ℕ) (objects more : List ObjectRow) → IsSome (row_of number objects)
    → IsSome (row_of number (objects ++ more))
still_found number [] more some = absurd cc
still_found number (object ∷ objects) more some =
    elim (has_number number object) as (λ b. IsSome (cond b (Some object) (row_of number objects))
    → IsSome (cond b (Some object) (row_of number (objects ++ more)))) [
      | true ↦ (λ some. some)
      | false ↦ (λ some. still_found number objects more some)
    ] some

-- an object that is not known has no sector
none_live : (number : ℕ) (objects : List ObjectRow) (rows : List (Extent ObjectPlace)) → (IsSome (row_of number objects) → ⊥)
    → All (λ (row : Extent ObjectPlace). IsKnown objects row.place) rows → live_sectors number rows ≡ 0
none_live number objects [] absent known = refl
none_live number objects (row ∷ rows) absent known =
    let first = All-head (λ (row : Extent ObjectPlace). IsKnown objects row.place) row rows known in
    omega (
      arith,
      sum_by-cons (sectors_in number) row rows,
      none_in row.place number row.sectors
          (λ own same. absent (subst (λ n. IsSome (row_of n objects)) same (first own))),
      none_live number objects rows absent
          (All-tail (λ (row : Extent ObjectPlace). IsKnown objects row.place) row rows known),
    )

-- an object more, without a live sector, whose number is above all others
pub kept_more : (rows : List (Extent ObjectPlace)) (table next : TableState) (new : ObjectRow) → IsKept rows table
    → new.live ≡ 0 → 0 < new.number → All (λ object. object.number < new.number) table.rows
    → next.rows ≡ table.rows ++ new ∷ [] → IsKept rows next
kept_more rows table next new kept dead some below is =
    let absent : IsSome (row_of new.number table.rows) → ⊥ = λ there.
    (let found = found_by (λ object. object.number < new.number) new.number table.rows there below in
    omega (arith, found.1, found.2)) in
    record {
      shortest = kept.shortest;
      order = subst (λ objects. Climbs 0 (numbers objects)) (sym is) (climbs_last 0 table.rows new kept.order some below);
      counted = record {
        live = subst (All (λ object. object.live ≡ live_sectors object.number rows)) (sym is)
            (All-push (λ object. object.live ≡ live_sectors object.number rows) table.rows new kept.counted.live
            (dead ∙ sym (none_live new.number table.rows rows absent kept.counted.known)));
        known = subst (λ objects. All (λ (row : Extent ObjectPlace). IsKnown objects row.place) rows) (sym is)
            (All-weaker (λ (row : Extent ObjectPlace). IsKnown table.rows row.place)
            (λ (row : Extent ObjectPlace). IsKnown (table.rows ++ new ∷ []) row.place)
            (λ row known own. still_found row.place.number table.rows (new ∷ []) (known own)) rows kept.counted.known);
      };
    }

-- ---- an object less

-- what holds of all objects holds of all but one
all_without : (P : ObjectRow → Type 0) (number : ℕ) (objects : List ObjectRow) → All P objects → All P (without number objects)
all_without P number [] all = all
all_without P number (object ∷ objects) all =
    elim (has_number number object) as (λ b. All P (cond b objects (object ∷ without number objects))) [
      | true ↦ All-tail P object objects all
      | false ↦ All-cons P object (without number objects) (All-head P object objects all)
          (all_without P number objects (All-tail P object objects all))
    ]

-- the row of another number is as before
other_stays : (number other : ℕ) (objects : List ObjectRow) → other ≢ number
    → row_of other (without number objects) ≡ row_of other objects
other_stays number other [] differ = refl
other_stays number other (object ∷ objects) differ =
    let rest = other_stays number other objects differ in
    grind (arith, nat_tests, rest)

-- where an object has no live sector, no place of a map is in it
known_without : (number : ℕ) (objects : List ObjectRow) (rows : List (Extent ObjectPlace)) → IsShortest object_on rows
    → live_sectors number rows ≡ 0 → All (λ (row : Extent ObjectPlace). IsKnown objects row.place) rows
    → All (λ (row : Extent ObjectPlace). IsKnown (without number objects) row.place) rows
known_without number objects [] shortest none known =
    All-nil (λ (row : Extent ObjectPlace). IsKnown (without number objects) row.place)
known_without number objects (row ∷ rows) shortest none known =
    let here : sectors_in number row + live_sectors number rows ≡ 0 = sym (sum_by-cons (sectors_in number) row rows) ∙ none in
    let first = All-head (λ (row : Extent ObjectPlace). IsKnown objects row.place) row rows known in
    let differ : row.place.level ≡ 0 → row.place.number ≢ number = (λ own same.
    (let test : (row.place.level == 0) ≡ true = grind (arith, nat_tests) in
    omega (arith, here, own_sectors row.place number row.sectors test same, shortest.0))) in
    All-cons (λ (row : Extent ObjectPlace). IsKnown (without number objects) row.place) row rows
    (λ own. ap is_some (other_stays number row.place.number objects (differ own)) ∙ first own)
    (known_without number objects rows shortest.2 (omega (arith, here))
    (All-tail (λ (row : Extent ObjectPlace). IsKnown objects row.place) row rows known))

-- so it may go
pub kept_without : (rows : List (Extent ObjectPlace)) (table next : TableState) (number : ℕ) → IsKept rows table
    → live_sectors number rows ≡ 0 → next.rows ≡ without number table.rows → IsKept rows next
kept_without rows table next number kept none is = record {
  shortest = kept.shortest;
  order = subst (λ objects. Climbs 0 (numbers objects)) (sym is) (climbs_without 0 number table.rows kept.order);
  counted = record {
    live = subst (All (λ object. object.live ≡ live_sectors object.number rows)) (sym is)
        (all_without (λ object. object.live ≡ live_sectors object.number rows) number table.rows kept.counted.live);
    known = subst (λ objects. All (λ (row : Extent ObjectPlace). IsKnown objects row.place) rows) (sym is)
        (known_without number table.rows rows kept.shortest none kept.counted.known);
  };
}
