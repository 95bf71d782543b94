-- How far the rows of a checkpoint reach in the objects before it.
use Rattle.std.proofs.Common.{◌≡◌, ℕ, zero, suc, ◌+◌, ◌-◌, ◌<◌, ◌≤◌, ◌==◌, inl, inr, true, false, cond, max, Bool, Option, Some}
use Rattle.std.proofs.Common.{None, List, [], ◌∷◌, ◌++◌, length, map, get_or, set, refl, sym, ◌∙◌, ap, subst, arith}
use Rattle.std.specs.Prelude.{Result, Ok, Err, MatchResult, ◌⊎◌}
use Rattle.std.specs.Option.{IsSome}
use Rattle.std.specs.List.{All, AllPairs, Contains}
use Rattle.std.specs.List.Sorted.{IsSearchInRange, IsBinarySearchResult, IsNonDecreasingBy}
use Rattle.std.specs.Ordering.{nat_cmp, ordering_index}
use Rattle.std.proofs.lemmas.Cmp.{ranked}
use Rattle.std.proofs.lemmas.Bool.{cases_lt, cases_eq}
use Rattle.std.proofs.lemmas.Bool.Decides.{nat_tests}
use Rattle.std.proofs.lemmas.List.{get_or-map, length-map}
use Rattle.std.proofs.lemmas.List.Elements.{All-map, All-head, All-tail, Contains-get_or}
use Rattle.lsvd_objstore.specs.Objects.{Objects}
use Rattle.lsvd_names.specs.Names.{numbered_name}
use Rattle.extent_map.specs.declared.extent.Extent.{Extent}
use Rattle.extent_map.specs.Extents.{is_within, place_at, IsShortest}
use Rattle.extent_map.specs.Join.{EndBy}
use Rattle.extent_map.proofs.Places.{at_inside}
use Rattle.extent_map.proofs.Order.{past_front}
use Rattle.ckpt_format.specs.declared.place.StoredPlace.{StoredPlace}
use Rattle.ckpt_format.specs.Places.{stored_on}
use Rattle.object_recovery.specs.Earlier.{EarlierObject, AreEarlier, IsStoredThere, HasEarlier, AreAllEarlier, IsReached}
use Rattle.object_recovery.specs.Earlier.{ReachedBy, ReachAll, but_reach, AreSameObjects, reached_to, IsReachedBy, IsReachedIfOwn}
use Rattle.object_recovery.specs.Earlier.{NamesNone}

-- objects by ascending number
abbrev pub Ascend : List EarlierObject → Type 0
Ascend earlier = AllPairs (λ (a b : EarlierObject). a.number < b.number) earlier

-- ---- found by number

-- where a search by number ends: at the object of the number, or there is none
abbrev pub IsFoundAt : (number : ℕ) → List EarlierObject → Result ℕ ℕ → Type 0
IsFoundAt number list result =
    MatchResult result (λ at. (at < length list) × ((d : EarlierObject) → (get_or list at d).number ≡ number))
    (λ at. HasEarlier list number → ⊥)

module _ (number : ℕ) (list : List EarlierObject) (order : Ascend list) where
  climbs : (i j : ℕ) (d : EarlierObject) → i ≤ j → j < length list → (get_or list i d).number ≤ (get_or list j d).number
  climbs i j d le inside = elim (cases_lt i j) [
    | inl low ↦ let h = order i j d low inside in omega (arith, h)
    | inr high ↦ let same : i ≡ j = omega arith in rw same (omega arith)
  ]

  comparisons_rise : IsNonDecreasingBy (λ (e : EarlierObject). ordering_index (nat_cmp e.number number)) list
  comparisons_rise i j d le inside = let h = climbs i j d le inside in grind (arith, nat_tests)

  pub searched : (result : Result ℕ ℕ) → IsSearchInRange result (length list)
      → IsBinarySearchResult (λ (e : EarlierObject). nat_cmp e.number number) list result → IsFoundAt number list result
  searched (Ok at) within equal = (within, λ d. ranked _ number _ (sym (equal d)))
  searched (Err at) within parted = λ has.
      let e = has.0 in
      let k = has.1.0 in
      let is : (get_or list k e).number ≡ number = ap (λ (o : EarlierObject). o.number) has.1.2 ∙ has.2 in
      elim (cases_lt k at) [
        | inl low ↦ (let h : (get_or list k e).number < number =
            ranked _ number _ (sym ((parted comparisons_rise).0 k e (omega arith) low)) in omega (arith, h, is))
        | inr high ↦ (let h : number < (get_or list k e).number =
            ranked _ number _ (sym ((parted comparisons_rise).1 k e high has.1.1)) in omega (arith, h, is))
      ]

-- ---- one is reached

own_reach : (number end : ℕ) (e : EarlierObject) → e.number ≡ number
    → reached_to number end e ≡ record e { reach = max e.reach end }
own_reach number end e is =
    let it : (e.number == number) ≡ true = grind (arith, nat_tests) in
    ap (λ b. cond b (record e { reach = max e.reach end }) e) it

other_reach : (number end : ℕ) (e : EarlierObject) → (e.number ≡ number → ⊥) → reached_to number end e ≡ e
other_reach number end e other =
    let not_it : (e.number == number) ≡ false = grind (arith, nat_tests) in
    ap (λ b. cond b (record e { reach = max e.reach end }) e) not_it

-- the objects after the first of some
pub rest_ascend : (first : EarlierObject) (rest : List EarlierObject) → Ascend (first ∷ rest) → Ascend rest
rest_ascend first rest order i j d low high = order (suc i) (suc j) d (omega arith) (omega arith)

-- objects with greater numbers are not
none_reached : (number end : ℕ) (list : List EarlierObject) → All (λ (e : EarlierObject). number < e.number) list
    → list ≡ map (reached_to number end) list
none_reached number end [] above = refl
none_reached number end (first ∷ rest) above =
    let more = All-head (λ (e : EarlierObject). number < e.number) first rest above in
    let head : first ≡ reached_to number end first = sym (other_reach number end first (λ same. omega (arith, more, same))) in
    let tail = none_reached number end rest (All-tail (λ (e : EarlierObject). number < e.number) first rest above) in
    cc

-- the object of a number with a greater reach, and the others as they were
pub set_reached : (number end : ℕ) (list : List EarlierObject) (at : ℕ) (d : EarlierObject) → Ascend list → at < length list
    → (get_or list at d).number ≡ number
    → set list at (record (get_or list at d) { reach = max (get_or list at d).reach end }) ≡ map (reached_to number end) list
set_reached number end [] at d order inside is = absurd (omega arith)
set_reached number end (first ∷ rest) zero d order inside is =
    let head : record first { reach = max first.reach end } ≡ reached_to number end first =
    sym (own_reach number end first is) in
    let tail : rest ≡ map (reached_to number end) rest =
    none_reached number end rest (λ i e low. let h = order 0 (suc i) e (omega arith) (omega arith) in omega (arith, h, is)) in
    cc
set_reached number end (first ∷ rest) (suc at) d order inside is =
    let less = order 0 (suc at) d (omega arith) inside in
    let head : first ≡ reached_to number end first =
    sym (other_reach number end first (λ same. omega (arith, less, same, is))) in
    let tail = set_reached number end rest at d (rest_ascend first rest order) (omega arith) is in
    cc

-- ---- the same objects

unreached : (number end : ℕ) (e : EarlierObject) → but_reach (reached_to number end e) ≡ but_reach e
unreached number end e = elim (e.number == number) as (λ b. but_reach (cond b (record e { reach = max e.reach end }) e)
    ≡ but_reach e) [ true ↦ refl | false ↦ refl ]

pub same_reached : (number end : ℕ) (list : List EarlierObject) → AreSameObjects list (map (reached_to number end) list)
same_reached number end [] = refl
same_reached number end (first ∷ rest) =
    let head = unreached number end first in
    let tail = same_reached number end rest in
    cc

module _ (old new : List EarlierObject) (same : AreSameObjects old new) where
  pub same_length : length new ≡ length old
  same_length = sym (length-map new but_reach) ∙ ap length same ∙ length-map old but_reach

  pub same_at : (i : ℕ) (d : EarlierObject) → i < length new → but_reach (get_or new i d) ≡ but_reach (get_or old i d)
  same_at i d inside =
      let other : i < length old = omega (arith, same_length) in
      sym (get_or-map but_reach new i d d inside) ∙ ap (λ l. get_or l i d) same ∙ get_or-map but_reach old i d d other

  -- what does not ask for the reach holds of both
  all_same : (P : EarlierObject → Type 0) → ((e : EarlierObject) → P e → P (but_reach e))
      → ((e : EarlierObject) → P (but_reach e) → P e)
      → All P old → All P new
  all_same P to from all i d inside =
      from (get_or new i d) (subst P (sym (same_at i d inside)) (to (get_or old i d) (all i d (omega (arith, same_length)))))

  pub ascend_same : Ascend old → Ascend new
  ascend_same order i j d low inside =
      let less = order i j d low (omega (arith, same_length)) in
      let a = ap (λ (e : EarlierObject). e.number) (same_at i d (omega arith)) in
      let b = ap (λ (e : EarlierObject). e.number) (same_at j d inside) in
      omega (arith, less, a, b)

  pub earlier_same : (uuid : List ℕ) (below : ℕ) → AreEarlier uuid below old → AreEarlier uuid below new
  earlier_same uuid below are = record {
    order = ascend_same are.order;
    from_one = all_same (λ (e : EarlierObject). 1 ≤ e.number) (λ e h. h) (λ e h. h) are.from_one;
    within = all_same (λ (e : EarlierObject). e.number < below) (λ e h. h) (λ e h. h) are.within;
    named =
        all_same (λ (e : EarlierObject). e.receipt.name ≡ numbered_name uuid e.number) (λ e h. h) (λ e h. h) are.named;
  }

  has_same : (number : ℕ) → HasEarlier old number → HasEarlier new number
  has_same number has =
      let k = has.1.0 in
      let inside : k < length new = omega (arith, has.1.1, same_length) in
      let e = get_or new k has.0 in
      let is : e.number ≡ number =
      ap (λ (o : EarlierObject). o.number) (same_at k has.0 inside) ∙ ap (λ (o : EarlierObject). o.number) has.1.2 ∙ has.2 in
      (e, Contains-get_or new k has.0 inside, is)

  pub all_earlier_same : (uuid : List ℕ) (objects : Objects) (below : ℕ) → AreAllEarlier uuid objects below old
      → AreAllEarlier uuid objects below new
  all_earlier_same uuid objects below are = record {
    stored = all_same (IsStoredThere uuid objects) (λ e h. h) (λ e h. h) are.stored;
    complete = λ number from_one under there. has_same number (are.complete number from_one under there);
  }

  pub tells_same : All (λ (e : EarlierObject). IsSome e.receipt.told) old → All (λ (e : EarlierObject). IsSome e.receipt.told) new
  tells_same tells = all_same (λ (e : EarlierObject). IsSome e.receipt.told) (λ e h. h) (λ e h. h) tells

-- none of the new is one of the old
pub none_same : (old new : List EarlierObject) (number : ℕ) → AreSameObjects old new → (HasEarlier new number → ⊥)
    → HasEarlier old number → ⊥
none_same old new number same none has = none (has_same old new same number has)

-- ---- places of rows

-- rows in order end before the one after them begins
pub end_before : (rows : List (Extent StoredPlace)) (row : Extent StoredPlace) → IsShortest stored_on (rows ++ row ∷ [])
    → EndBy row.lba rows
end_before [] row shortest = tt
end_before (first ∷ []) row shortest = (shortest.1.in_order, tt)
end_before (first ∷ next ∷ rest) row shortest =
    let more = end_before (next ∷ rest) row shortest.2 in
    (omega (arith, shortest.1.in_order, more.0), more)

split_by : (b : Bool) (x place : StoredPlace) (rest more : Option StoredPlace) (Q : Type 0)
    → (more ≡ Some place → (rest ≡ Some place) ⊎ Q) → cond b (Some x) more ≡ Some place
    → (cond b (Some x) rest ≡ Some place) ⊎ Q
split_by true x place rest more Q so is = inl is
split_by false x place rest more Q so is = so is

last_by : (b : Bool) (x place : StoredPlace) → cond b (Some x) None ≡ Some place → (b ≡ true) × (x ≡ place)
last_by true x place is = (refl, cc)
last_by false x place is = absurd cc

-- a place of rows is one of those before the last, or of the last
pub place_split : (rows : List (Extent StoredPlace)) (row : Extent StoredPlace) (k : ℕ) (place : StoredPlace)
    → place_at stored_on (rows ++ row ∷ []) k ≡ Some place
    → (place_at stored_on rows k ≡ Some place)
    ⊎ ((is_within row.lba row.sectors k ≡ true) × (stored_on (k - row.lba) row.place ≡ place))
place_split [] row k place is = inr (last_by (is_within row.lba row.sectors k) (stored_on (k - row.lba) row.place) place is)
place_split (first ∷ rest) row k place is =
    split_by (is_within first.lba first.sectors k) (stored_on (k - first.lba) first.place) place
    (place_at stored_on rest k) (place_at stored_on (rest ++ row ∷ []) k) _ (place_split rest row k place) is

kept_by : (b : Bool) (x place : StoredPlace) (rest more : Option StoredPlace) → (rest ≡ Some place → more ≡ Some place)
    → cond b (Some x) rest ≡ Some place → cond b (Some x) more ≡ Some place
kept_by true x place rest more so is = is
kept_by false x place rest more so is = so is

-- and those before it have theirs
pub place_kept : (rows more : List (Extent StoredPlace)) (k : ℕ) (place : StoredPlace) → place_at stored_on rows k ≡ Some place
    → place_at stored_on (rows ++ more) k ≡ Some place
place_kept [] more k place is = absurd cc
place_kept (first ∷ rest) more k place is =
    kept_by (is_within first.lba first.sectors k) (stored_on (k - first.lba) first.place) place (place_at stored_on rest k)
    (place_at stored_on (rest ++ more) k) (place_kept rest more k place) is

-- the places of the last row
pub last_place : (rows : List (Extent StoredPlace)) (row : Extent StoredPlace) (k : ℕ)
    → IsShortest stored_on (rows ++ row ∷ []) → row.lba ≤ k → k < row.lba + row.sectors
    → place_at stored_on (rows ++ row ∷ []) k ≡ Some (stored_on (k - row.lba) row.place)
last_place rows row k shortest low high =
    past_front stored_on rows (row ∷ []) row.lba k (end_before rows row shortest) low ∙ at_inside stored_on row [] k low high

-- ---- rows and reaches

reached_before : (rows : List (Extent StoredPlace)) (row : Extent StoredPlace) (e : EarlierObject) → ReachedBy rows e
    → ReachedBy (rows ++ row ∷ []) e
reached_before rows row e by some_reach =
    let is = by some_reach in
    (is.0, is.1, place_kept rows (row ∷ []) is.0 is.1 is.2, is.3, is.4, is.5)

module _ (rows : List (Extent StoredPlace)) (row : Extent StoredPlace) (old new : List EarlierObject)
    (shortest : IsShortest stored_on (rows ++ row ∷ [])) (some : 0 < row.sectors) (own : row.place.level ≡ 0)
    (reached : IsReachedBy row old new) where
  abbrev number : ℕ
  number = row.place.number

  abbrev end : ℕ
  end = row.place.place + row.sectors

  -- an object goes on as one that is reached
  goes_on : (e : EarlierObject) → Contains old e → Contains new (reached_to number end e)
  goes_on e at =
      let inside : at.0 < length (map (reached_to number end) old) =
      omega (arith, at.1, length-map old (reached_to number end)) in
      let is : get_or (map (reached_to number end) old) at.0 (reached_to number end e) ≡ reached_to number end e =
      get_or-map (reached_to number end) old at.0 e (reached_to number end e) at.1 ∙ ap (reached_to number end) at.2 in
      subst (λ l. Contains l (reached_to number end e)) (sym reached.reached) (at.0, inside, is)

  no_less : (e : EarlierObject) → (reached_to number end e).number ≡ e.number × (e.reach ≤ (reached_to number end e).reach)
  no_less e = elim (e.number == number) as (λ b. ((cond b (record e { reach = max e.reach end }) e).number ≡ e.number)
      × (e.reach ≤ (cond b (record e { reach = max e.reach end }) e).reach)) [
        | true ↦ (refl, omega arith)
        | false ↦ (refl, omega arith)
      ]

  place_before : (place : StoredPlace) → IsReached old place → IsReached new place
  place_before place is =
      let e = is.0 in
      let more = no_less e in
      (reached_to number end e, goes_on e is.1, more.0 ∙ is.2, omega (arith, is.3, more.1))

  place_last : (k : ℕ) (place : StoredPlace) → is_within row.lba row.sectors k ≡ true
      → stored_on (k - row.lba) row.place ≡ place → IsReached new place
  place_last k place within is =
      let e = reached.there.0 in
      let its = own_reach number end e reached.there.2 in
      let low : row.lba ≤ k = grind (arith, nat_tests) in
      let high : k < row.lba + row.sectors = grind (arith, nat_tests) in
      let at : row.place.place + (k - row.lba) ≡ place.place = ap (λ (p : StoredPlace). p.place) is in
      let same : number ≡ place.number = ap (λ (p : StoredPlace). p.number) is in
      let reach : (reached_to number end e).reach ≡ max e.reach end = ap (λ (o : EarlierObject). o.reach) its in
      let numbered : (reached_to number end e).number ≡ e.number = ap (λ (o : EarlierObject). o.number) its in
      (reached_to number end e, goes_on e reached.there.1, numbered ∙ reached.there.2 ∙ same, omega (arith, low, high, at, reach))

  reach_before : (e : EarlierObject) → ReachedBy rows e → ReachedBy (rows ++ row ∷ []) e
  reach_before e by some_reach = reached_before rows row e by some_reach

  reach_own : (e : EarlierObject) → e.number ≡ number → ReachedBy rows e
      → ReachedBy (rows ++ row ∷ []) (record e { reach = max e.reach end })
  reach_own e is_it by some_reach =
      elim (cases_lt e.reach end) [
        | inl low ↦
            let k = row.lba + (row.sectors - 1) in
            let on : k - row.lba ≡ row.sectors - 1 = omega arith in
            let is = last_place rows row k shortest (omega arith) (omega (arith, some)) in
            let step : (row.place.place + (k - row.lba)) + 1 ≡ max e.reach end = omega (arith, some, low, on) in
            (k, stored_on (k - row.lba) row.place, is, own, sym is_it, step)
        | inr high ↦
            let same : max e.reach end ≡ e.reach = omega (arith, high) in
            let is = reach_before e by (λ zero_reach. some_reach (same ∙ zero_reach)) in
            (is.0, is.1, is.2, is.3, is.4, is.5 ∙ sym same)
      ]

  reach_by : (e : EarlierObject) (b : Bool) → (e.number == number) ≡ b → ReachedBy rows e
      → ReachedBy (rows ++ row ∷ []) (cond b (record e { reach = max e.reach end }) e)
  reach_by e true is by = let is_it : e.number ≡ number = grind (arith, nat_tests) in reach_own e is_it by
  reach_by e false is by = reach_before e by

  -- so a row more is reached
  reach_one : ReachAll rows old → ReachAll (rows ++ row ∷ []) new
  reach_one reach = record {
    all = λ k place is level.
        elim (place_split rows row k place is) [
          | inl before ↦ place_before place (reach.all k place before level)
          | inr last ↦ place_last k place last.0 last.1
        ];
    by =
        subst (All (ReachedBy (rows ++ row ∷ []))) (sym reached.reached)
        (All-map (ReachedBy (rows ++ row ∷ [])) (reached_to number end) old
        (λ i d inside. reach_by (get_or old i d) ((get_or old i d).number == number) refl (reach.by i d inside)));
  }

-- a row of an ancestor's object reaches none
reach_other : (rows : List (Extent StoredPlace)) (row : Extent StoredPlace) (earlier : List EarlierObject)
    → (row.place.level ≡ 0 → ⊥) → ReachAll rows earlier → ReachAll (rows ++ row ∷ []) earlier
reach_other rows row earlier other reach = record {
  all = λ k place is level.
      elim (place_split rows row k place is) [
        | inl before ↦ reach.all k place before level
        | inr last ↦ absurd (other (ap (λ (p : StoredPlace). p.level) last.1 ∙ level))
      ];
  by = λ i d inside. reached_before rows row (get_or earlier i d) (reach.by i d inside);
}

pub reach_more : (rows : List (Extent StoredPlace)) (row : Extent StoredPlace) (old new : List EarlierObject)
    → IsShortest stored_on (rows ++ row ∷ []) → 0 < row.sectors → IsReachedIfOwn row old new → ReachAll rows old
    → ReachAll (rows ++ row ∷ []) new
reach_more rows row old new shortest some reached reach =
    elim (cases_eq row.place.level 0) [
      | inl own ↦ reach_one rows row old new shortest some own (reached.own own) reach
      | inr other ↦ subst (ReachAll (rows ++ row ∷ [])) (sym (reached.other other)) (reach_other rows row old other reach)
    ]

-- so the objects stay the same
pub same_if_own : (row : Extent StoredPlace) (old new : List EarlierObject) → IsReachedIfOwn row old new
    → AreSameObjects old new
same_if_own row old new reached =
    elim (cases_eq row.place.level 0) [
      | inl own ↦ (
          let is = reached.own own in
          ap (map but_reach) is.reached ∙ same_reached row.place.number (row.place.place + row.sectors) old)
      | inr other ↦ ap (map but_reach) (reached.other other)
    ]

-- no rows reach no object
pub reach_none : (earlier : List EarlierObject) → All (λ (e : EarlierObject). e.reach ≡ 0) earlier → ReachAll [] earlier
reach_none earlier none = record {
  all = λ k place is level. absurd cc;
  by = λ i d inside some. absurd (some (none i d inside));
}

-- a row whose object is not there
pub names_none : (rows more : List (Extent StoredPlace)) (row : Extent StoredPlace) (earlier : List EarlierObject)
    → IsShortest stored_on (rows ++ row ∷ []) → 0 < row.sectors → row.place.level ≡ 0
    → (HasEarlier earlier row.place.number → ⊥)
    → NamesNone ((rows ++ row ∷ []) ++ more) earlier row.place.number
names_none rows more row earlier shortest some own none = record {
  k = row.lba;
  place = stored_on (row.lba - row.lba) row.place;
  row =
      place_kept (rows ++ row ∷ []) more row.lba _ (last_place rows row row.lba shortest (omega arith) (omega (arith, some)));
  own = own;
  named = refl;
  none = none;
}
