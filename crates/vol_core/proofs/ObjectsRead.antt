-- The objects of a plan are those that the plain volume reads.
use Rattle.std.proofs.Common.{eq-eqb, ◌≡◌, ℕ, suc, ◌+◌, ◌-◌, ◌<◌, ◌≤◌, inl, inr, Bool, true, cond, List, [], ◌∷◌}
use Rattle.std.proofs.Common.{get_or, refl, sym, ◌∙◌, ap, subst, arith}
use Rattle.std.specs.Prelude.{Option, Some, None}
use Rattle.std.specs.List.{All, Contains, filter, list_any, range_with_len}
use Rattle.std.proofs.lemmas.Bool.{cases_eq, cases_lt, cases_order, cases_Bool}
use Rattle.std.proofs.lemmas.Grind.{get_or_default_zero}
use Rattle.std.proofs.lemmas.List.Elements.{All-contains_itself, All-weaker}
use Rattle.std.proofs.lemmas.List.Folds.{list_any_at, Any-from_list_any}
use Rattle.std.proofs.lemmas.List.FromFn.{length-range_with_len, get_or-range_with_len}
use Rattle.std.proofs.lemmas.List.Kept.{AllPairs-filter, AllPairs-from_increasing}
use Rattle.std.proofs.lemmas.Option.{slice_get-get_or}
use Rattle.lsvd_objstore.specs.Store.{ReceiptState}
use Rattle.cache_log.specs.Log.{LogState}
use Rattle.volume_maps.specs.declared.place.ObjectPlace.{ObjectPlace}
use Rattle.volume_maps.specs.declared.place.VolumePlace.TheVariants.{Object}
use Rattle.volume_maps.specs.Maps.{volume_place_at}
use Rattle.object_table.specs.declared.row.ObjectRow.{ObjectRow}
use Rattle.object_table.specs.Table.{row_of}
use Rattle.object_table.proofs.Rows.{its_number}
use Rattle.object_table.proofs.Listed.{found_holds}
use Rattle.object_uploads.specs.State.{StoredObject, QueueState}
use Rattle.object_uploads.specs.Queue.{receipt_in, stored_with, inherited_in, stored_at}
use Rattle.object_uploads.specs.Order.{AreKnown}
use Rattle.object_uploads.specs.Image.{GivesSector}
use Rattle.obj_log.specs.State.{ObjLogState}
use Rattle.plain_disk.specs.State.{PlainState, frontier_of, image_now}
use Rattle.plain_disk.specs.Reads.{is_read_from, objects_read}
use Rattle.refine_objects.specs.Table.{times_pinned}
use Rattle.read_plan.specs.Look.{AreObjectsIn}
use Rattle.vol_core.specs.Places.{IsHeldAt}
use Rattle.vol_core.specs.ReadLaws.{ShowsReads}
use Rattle.vol_core.proofs.HoldLemmas.{places_hold_sectors}
use Rattle.vol_core.proofs.OwnerLemmas.{places_are_of_objects_read}
use Rattle.vol_core.proofs.ShownLemmas.{image_has_sectors, counts}
use Rattle.vol_core.proofs.PinCounts.{is_it, one_of, none_of, counted, times_there, times_nowhere}
use Rattle.vol_core.proofs.PinCounts.{Ascend, rest_ascend, times_of_ascending}

-- ---- ascending numbers

-- a number below the first is not among them
none_below : (number first : ℕ) (rest : List ℕ) → Ascend (first ∷ rest) → number < first → times_pinned number (first ∷ rest) ≡ 0
none_below number first rest ascend below = times_nowhere number (first ∷ rest) (λ k inside is.
    elim (cases_lt 0 k) [
      | inl later ↦ (let h = ascend 0 k 0 later inside in omega (arith, h, is, below))
      | inr now ↦ (let zeroth : k ≡ 0 = omega arith in let h = ap (λ i. get_or (first ∷ rest) i 0) zeroth in
          omega (arith, h, is, below))
    ])

-- those that have each number as often are the same
same_ascending : (xs ys : List ℕ) → Ascend xs → Ascend ys → ((number : ℕ) → times_pinned number xs ≡ times_pinned number ys)
    → xs ≡ ys
same_ascending [] [] a b same = refl
same_ascending [] (y ∷ ys) a b same = (let h = same y in let c = counted y y ys in let one = one_of y y refl in
    absurd (omega (arith, h, c, one)))
same_ascending (x ∷ xs) [] a b same = (let h = same x in let c = counted x x xs in let one = one_of x x refl in
    absurd (omega (arith, h, c, one)))
same_ascending (x ∷ xs) (y ∷ ys) a b same =
    let first : x ≡ y =
    elim (cases_order x y) [
      | inl is ↦ is
      | inr apart ↦ elim apart [
        | inl below ↦
            let h = same x in
            let c = counted x x xs in
            let one = one_of x x refl in
            let none = none_below x y ys b below in
            absurd (omega (arith, h, c, one, none))
        | inr above ↦
            let h = same y in
            let c = counted y y ys in
            let one = one_of y y refl in
            let none = none_below y x xs a above in
            absurd (omega (arith, h, c, one, none))
      ]
    ] in
    let rest =
    same_ascending xs ys (rest_ascend x xs a) (rest_ascend y ys b) (λ number.
    let h = same number in
    let c = counted number x xs in
    let d = counted number y ys in
    let is = ap (is_it number) first in
    omega (arith, h, c, d, is)) in
    ap (λ n. n ∷ xs) first ∙ ap (λ list. y ∷ list) rest

-- ---- members

times_of_contained : (number : ℕ) (numbers : List ℕ) → Contains numbers number → 0 < times_pinned number numbers
times_of_contained number numbers is = times_there number is.0 numbers is.1 (sym (get_or_default_zero numbers is.0 number is.1)
    ∙ is.2)

contained_where_some : (number : ℕ) (numbers : List ℕ) → 0 < times_pinned number numbers → Contains numbers number
contained_where_some number [] some = absurd (omega arith)
contained_where_some number (first ∷ rest) some =
    let both = counted number first rest in
    elim (cases_eq first number) [
      | inl same ↦ (0, omega arith, same)
      | inr apart ↦
          let none = none_of number first apart in
          let more = contained_where_some number rest (omega (arith, some, both, none)) in
          (suc more.0, (let h = more.1 in omega (arith, h)), more.2)
    ]

kept_passes : (test : ℕ → Bool) (number : ℕ) (numbers : List ℕ) → 0 < times_pinned number (filter test numbers)
    → test number ≡ true
kept_passes test number [] some = absurd (omega arith)
kept_passes test number (first ∷ rest) some =
    elim (cases_Bool (test first)) [
      | inl passes ↦
          let kept = ap (λ b. times_pinned number (cond b (first ∷ filter test rest) (filter test rest))) passes in
          let both = counted number first (filter test rest) in
          elim (cases_eq first number) [
            | inl same ↦ sym (ap test same) ∙ passes
            | inr apart ↦ (let none = none_of number first apart in
                kept_passes test number rest (omega (arith, some, kept, both, none)))
          ]
      | inr fails ↦
          let left = ap (λ b. times_pinned number (cond b (first ∷ filter test rest) (filter test rest))) fails in
          kept_passes test number rest (omega (arith, some, left))
    ]

kept_where_passes : (test : ℕ → Bool) (number : ℕ) (numbers : List ℕ) → 0 < times_pinned number numbers → test number ≡ true
    → 0 < times_pinned number (filter test numbers)
kept_where_passes test number [] some passes = absurd (omega arith)
kept_where_passes test number (first ∷ rest) some passes =
    let before = counted number first rest in
    let both = counted number first (filter test rest) in
    elim (cases_eq first number) [
      | inl same ↦
          let kept = ap (λ b. times_pinned number (cond b (first ∷ filter test rest) (filter test rest)))
          (ap test same ∙ passes) in
          let one = one_of number first same in
          omega (arith, kept, both, one)
      | inr apart ↦
          let none = none_of number first apart in
          let more = kept_where_passes test number rest (omega (arith, some, before, none)) passes in
          elim (cases_Bool (test first)) [
            | inl both_pass ↦
                let kept = ap (λ b. times_pinned number (cond b (first ∷ filter test rest) (filter test rest))) both_pass in
                omega (arith, kept, both, more)
            | inr fails ↦
                let left = ap (λ b. times_pinned number (cond b (first ∷ filter test rest) (filter test rest))) fails in
                omega (arith, left, more)
          ]
    ]

-- ---- ranges

pub range_ascends : (from n : ℕ) → Ascend (range_with_len from n)
range_ascends from n = λ i j d less inside.
    let count = length-range_with_len from n in
    let a = get_or-range_with_len from n i d (omega (arith, less, inside, count)) in
    let b = get_or-range_with_len from n j d (omega (arith, inside, count)) in
    omega (arith, a, b, less)

in_range : (from n number : ℕ) → from ≤ number → number < from + n → 0 < times_pinned number (range_with_len from n)
in_range from n number low high =
    let count = length-range_with_len from n in
    times_there number (number - from) (range_with_len from n) (omega (arith, count, low, high))
    (get_or-range_with_len from n (number - from) 0 (omega arith) ∙ omega arith)

any_where : (test : ℕ → Bool) (from n k : ℕ) → from ≤ k → k < from + n → test k ≡ true
    → list_any test (range_with_len from n) ≡ true
any_where test from n k low high passes =
    let count = length-range_with_len from n in
    let is : get_or (range_with_len from n) (k - from) 0 ≡ k = get_or-range_with_len from n (k - from) 0 (omega arith)
    ∙ omega arith in
    list_any_at test (range_with_len from n) (k - from) 0 (omega (arith, count, low, high)) (ap test is ∙ passes)

-- one of a range that passes
record PassesIn (test : ℕ → Bool) (from n : ℕ) : Type 0 where
  k : ℕ
  low : from ≤ k
  high : k < from + n
  passes : test k ≡ true

where_any : (test : ℕ → Bool) (from n : ℕ) → list_any test (range_with_len from n) ≡ true → PassesIn test from n
where_any test from n any =
    let is = Any-from_list_any test (range_with_len from n) any in
    let inside = is.2 in
    let count = length-range_with_len from n in
    let at : is.1 ≡ from + is.0 = sym is.3 ∙ get_or-range_with_len from n is.0 is.1 (omega (arith, inside, count)) in
    record { k = is.1; low = omega (arith, at); high = omega (arith, at, inside, count); passes = is.4 }

-- ---- the objects that are in the store

-- one is there only where the table has it
stored_row : (receipt : Option ReceiptState) (row : Option ObjectRow) (object : StoredObject)
    → stored_with receipt row ≡ Some object → (r : ObjectRow) × (row ≡ Some r)
stored_row None row object is = absurd cc
stored_row (Some receipt) None object is = absurd cc
stored_row (Some receipt) (Some row) object is = (row, refl)

-- and that has numbers from 1 up to the frontier
known_number : (uuid : List ℕ) (queue : QueueState) (number : ℕ) (row : ObjectRow) → AreKnown uuid queue
    → row_of number queue.maps.objects.rows ≡ Some row → (1 ≤ number) × (number ≤ queue.frontier)
known_number uuid queue number row known is =
    let rows = queue.maps.objects.rows in
    let named = its_number number rows row is in
    let low = found_holds (λ (object : ObjectRow). 1 ≤ object.number) number rows row is known.from_one in
    let high = found_holds (λ (object : ObjectRow). object.number ≤ queue.frontier) number rows row is known.within in
    (omega (arith, named, low), omega (arith, named, high))

stored_number : (uuid : List ℕ) (queue : QueueState) (place : ObjectPlace) (object : StoredObject) → AreKnown uuid queue
    → place.level ≡ 0 → stored_at queue place ≡ Some object → (1 ≤ place.number) × (place.number ≤ queue.frontier)
stored_number uuid queue place object known own is =
    let row = row_of place.number queue.maps.objects.rows in
    let there = stored_with (receipt_in queue.receipts place.number) row in
    let others = inherited_in queue.inherited (record { level = place.level; number = place.number }) in
    let has = stored_row (receipt_in queue.receipts place.number) row object
    (sym (ap (λ b. cond b there others) (eq-eqb place.level 0 own)) ∙ is) in
    known_number uuid queue place.number has.0 known has.1

given_number : (uuid : List ℕ) (queue : QueueState) (place : ObjectPlace) (sector : List ℕ) (object : Option StoredObject)
    → AreKnown uuid queue → place.level ≡ 0 → stored_at queue place ≡ object → GivesSector object place.sector sector
    → (1 ≤ place.number) × (place.number ≤ queue.frontier)
given_number uuid queue place sector None known own is gives = absurd gives
given_number uuid queue place sector (Some object) known own is gives = stored_number uuid queue place object known own is

-- ---- the objects that are read

module _ (data_at : ℕ → ℕ) (objects : ObjLogState) (log : LogState) (plain : PlainState)
    (shows : ShowsReads data_at objects log plain)
    (lba sectors : ℕ) (inside : lba + sectors ≤ plain.geometry.sectors) where
  -- an object that a sector is placed in is up to the frontier
  placed_number : (k : ℕ) (place : ObjectPlace) → k < plain.geometry.sectors → place.level ≡ 0
      → volume_place_at objects.uploads.queue.maps k ≡ Some (Object place)
      → (1 ≤ place.number) × (place.number ≤ frontier_of plain)
  placed_number k place within own is =
      let queue : QueueState = objects.uploads.queue in
      let sector : List ℕ = get_or (image_now plain) k [] in
      let there = slice_get-get_or (image_now plain) k [] (omega (arith, within, image_has_sectors plain shows.valid)) in
      let held = subst (λ p. IsHeldAt log queue p sector) is (places_hold_sectors data_at objects log plain k sector
      shows there) in
      let number = given_number objects.uploads.uuid queue place sector (stored_at queue place) shows.ordered.known own
      refl held in
      let reached = (counts data_at objects log plain shows).frontier in
      (number.0, (let most = number.1 in omega (arith, most, reached)))

  read_where_in : (numbers : List ℕ) (number : ℕ) → AreObjectsIn lba sectors objects.uploads.queue.maps numbers
      → 0 < times_pinned number numbers
      → 0 < times_pinned number (objects_read plain lba sectors)
  read_where_in numbers number are some =
      let has = (are.each number).0 (contained_where_some number numbers some) in
      let to = has.to in
      let within : has.k < plain.geometry.sectors = omega (arith, to, inside) in
      let reads = (places_are_of_objects_read data_at objects log plain has.k number shows within).0
      (has.place, has.is, has.own, has.has_number) in
      let bounds = placed_number has.k has.place within has.own has.is in
      let named = has.has_number in
      let low = bounds.0 in
      let high = bounds.1 in
      kept_where_passes (λ n. list_any (is_read_from plain n) (range_with_len lba sectors)) number
      (range_with_len 1 (frontier_of plain))
      (in_range 1 (frontier_of plain) number (omega (arith, named, low)) (omega (arith, named, high)))
      (any_where (is_read_from plain number) lba sectors has.k has.from to reads)

  in_where_read : (numbers : List ℕ) (number : ℕ) → AreObjectsIn lba sectors objects.uploads.queue.maps numbers
      → 0 < times_pinned number (objects_read plain lba sectors) → 0 < times_pinned number numbers
  in_where_read numbers number are some =
      let any = kept_passes (λ n. list_any (is_read_from plain n) (range_with_len lba sectors)) number
      (range_with_len 1 (frontier_of plain)) some in
      let at = where_any (is_read_from plain number) lba sectors any in
      let high = at.high in
      let placed = (places_are_of_objects_read data_at objects log plain at.k number shows (omega (arith, high, inside))).1
      at.passes in
      times_of_contained number numbers
      ((are.each number).1 (record {
        k = at.k;
        place = placed.0;
        from = at.low;
        to = high;
        is = placed.1;
        own = placed.2;
        has_number = placed.3;
      }))

  -- each object of a plan has a sector that is read from it
  pub each_is_read : (numbers : List ℕ) → AreObjectsIn lba sectors objects.uploads.queue.maps numbers
      → All (λ number. (k : ℕ) × (is_read_from plain number k ≡ true)) numbers
  each_is_read numbers are =
      All-weaker (Contains numbers) (λ number. (k : ℕ) × (is_read_from plain number k ≡ true))
      (λ number contained.
      let has = (are.each number).0 contained in
      let to = has.to in
      let within : has.k < plain.geometry.sectors = omega (arith, to, inside) in (
        has.k,
        (places_are_of_objects_read data_at objects log plain has.k number shows within).0
            (has.place, has.is, has.own, has.has_number),
      )) numbers (All-contains_itself numbers)

  pub objects_are_read : (numbers : List ℕ) → AreObjectsIn lba sectors objects.uploads.queue.maps numbers
      → numbers ≡ objects_read plain lba sectors
  objects_are_read numbers are =
      let test : ℕ → Bool = λ number. list_any (is_read_from plain number) (range_with_len lba sectors) in
      let ascend = AllPairs-from_increasing numbers are.ascending in
      let read_ascend = AllPairs-filter (λ a b. a < b) test (range_with_len 1 (frontier_of plain))
      (range_ascends 1 (frontier_of plain)) in
      same_ascending numbers (objects_read plain lba sectors) ascend read_ascend (λ number.
      let a = times_of_ascending number numbers ascend in
      let b = times_of_ascending number (objects_read plain lba sectors) read_ascend in
      elim (cases_lt 0 (times_pinned number numbers)) [
        | inl some ↦ (let h = read_where_in numbers number are some in omega (arith, a, b, h, some))
        | inr none ↦ elim (cases_lt 0 (times_pinned number (objects_read plain lba sectors))) [
          | inl some ↦ (let h = in_where_read numbers number are some in absurd (omega (arith, h, none)))
          | inr also_none ↦ omega (arith, none, also_none)
        ]
      ])
