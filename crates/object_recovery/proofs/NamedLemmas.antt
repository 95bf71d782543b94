-- The objects of ancestors that rows name, kept in order.
use Rattle.std.proofs.Common.{◌≡◌, ℕ, ◌+◌, ◌-◌, ◌<◌, ◌≤◌, inl, inr, max, List, length, get_or}
use Rattle.std.proofs.Common.{set}
use Rattle.std.proofs.Common.{refl, sym, ◌∙◌, ap, subst, arith}
use Rattle.std.specs.Prelude.{Result, Ok, Err, MatchResult, ◌⊎◌}
use Rattle.std.specs.List.{All, Contains, insert}
use Rattle.std.specs.List.Sorted.{IsSearchInRange, IsBinarySearchResult, IsNonDecreasingBy}
use Rattle.std.specs.declared.cmp.Ordering.{Ordering}
use Rattle.std.specs.declared.cmp.Ordering.TheVariants.{Less, Equal, Greater}
use Rattle.std.specs.Ordering.{nat_cmp, ordering_index, ordering_then}
use Rattle.std.proofs.lemmas.Cmp.{ranked}
use Rattle.std.proofs.lemmas.Bool.{cases_lt, cases_eq, cases_order}
use Rattle.std.proofs.lemmas.Bool.Decides.{nat_tests}
use Rattle.std.proofs.lemmas.List.{get_or-set_same, get_or-set_other, length-set, get_or_default}
use Rattle.std.proofs.lemmas.List.Edits.{get_or-insert_at, get_or-insert_below, get_or-insert_above, length-insert}
use Rattle.std.proofs.lemmas.List.Elements.{All-set, All-weaker, All-contains_itself, Contains-get_or}
use Rattle.extent_map.specs.declared.extent.Extent.{Extent}
use Rattle.ckpt_format.specs.declared.place.StoredPlace.{StoredPlace}
use Rattle.object_recovery.specs.declared.inherited.Named.{Named}
use Rattle.object_recovery.specs.Inherited.{IsBelow, AreInOrder, HasAsFar, named_by, IsNoted}

-- how an object compares with a level and a number
abbrev pub ranks : (level number : ℕ) → Named → Ordering
ranks level number object = ordering_then (nat_cmp object.level level) (nat_cmp object.number number)

equal_by : (level number : Ordering) → ordering_then level number ≡ Equal → (level ≡ Equal) × (number ≡ Equal)
equal_by Less number is = absurd cc
equal_by Equal number is = (refl, is)
equal_by Greater number is = absurd cc

ranks_equal : (level number : ℕ) (object : Named) → ranks level number object ≡ Equal
    → (object.level ≡ level) × (object.number ≡ number)
ranks_equal level number object is =
    let both = equal_by (nat_cmp object.level level) (nat_cmp object.number number) is in
    (ranked object.level level Equal (sym both.0), ranked object.number number Equal (sym both.1))

less_by : (a b : Ordering) (level other number another : ℕ) → nat_cmp level other ≡ a → nat_cmp number another ≡ b
    → ordering_then a b ≡ Less → (level < other) ⊎ ((level ≡ other) × (number < another))
less_by Less b level other number another is_a is_b less = inl (ranked level other Less (sym is_a))
less_by Equal b level other number another is_a is_b less =
    inr (ranked level other Equal (sym is_a), ranked number another Less (sym (is_b ∙ less)))
less_by Greater b level other number another is_a is_b less = absurd cc

greater_by : (a b : Ordering) (level other number another : ℕ) → nat_cmp level other ≡ a → nat_cmp number another ≡ b
    → ordering_then a b ≡ Greater → (other < level) ⊎ ((other ≡ level) × (another < number))
greater_by Less b level other number another is_a is_b less = absurd cc
greater_by Equal b level other number another is_a is_b less =
    inr (sym (ranked level other Equal (sym is_a)), ranked number another Greater (sym (is_b ∙ less)))
greater_by Greater b level other number another is_a is_b less = inl (ranked level other Greater (sym is_a))

ranks_rise : (level number : ℕ) (earlier later : Named) → IsBelow earlier later
    → ordering_index (ranks level number earlier) ≤ ordering_index (ranks level number later)
ranks_rise level number earlier later (inl low) = grind (arith, nat_tests)
ranks_rise level number earlier later (inr low) =
    let same : earlier.level ≡ later.level = low.0 in
    let below : earlier.number < later.number = low.1 in
    grind (arith, nat_tests)

-- ---- the search

-- where a search by level and number ends: at the object, or between those before it and those after it
abbrev pub IsPlaceOf : (level number : ℕ) → List Named → Result ℕ ℕ → Type 0
IsPlaceOf level number list result =
    MatchResult result (λ at. (at < length list)
    × ((d : Named) → ((get_or list at d).level ≡ level) × ((get_or list at d).number ≡ number)))
    (λ at. (at ≤ length list)
    × ((n : Named) → n.level ≡ level → n.number ≡ number
    → ((k : ℕ) (d : Named) → k < at → IsBelow (get_or list k d) n)
    × ((k : ℕ) (d : Named) → at ≤ k → k < length list → IsBelow n (get_or list k d))))

module _ (level number : ℕ) (list : List Named) (order : AreInOrder list) where
  all_rise : IsNonDecreasingBy (λ (n : Named). ordering_index (ranks level number n)) list
  all_rise i j d le inside = elim (cases_lt i j) [
    | inl low ↦ ranks_rise level number (get_or list i d) (get_or list j d) (order i j d low inside)
    | inr high ↦ let same : i ≡ j = omega arith in rw same (omega arith)
  ]

  pub searched : (result : Result ℕ ℕ) → IsSearchInRange result (length list)
      → IsBinarySearchResult (ranks level number) list result → IsPlaceOf level number list result
  searched (Ok at) within equal = (within, λ d. ranks_equal level number (get_or list at d) (equal d))
  searched (Err at) within parted = (
    within,
    λ n same_level same_number. (
      λ k d low. (
          let e = get_or list k d in
          let is = less_by (nat_cmp e.level level) (nat_cmp e.number number) e.level level e.number number refl refl
          ((parted all_rise).0 k d (omega (arith, within)) low) in
          subst (λ l. (e.level < l) ⊎ ((e.level ≡ l) × (e.number < n.number))) (sym same_level)
          (subst (λ m. (e.level < level) ⊎ ((e.level ≡ level) × (e.number < m))) (sym same_number) is)),
      λ k d high inside. (
          let e = get_or list k d in
          let is = greater_by (nat_cmp e.level level) (nat_cmp e.number number) e.level level e.number number refl refl
          ((parted all_rise).1 k d high inside) in
          subst (λ l. (l < e.level) ⊎ ((l ≡ e.level) × (n.number < e.number))) (sym same_level)
          (subst (λ m. (level < e.level) ⊎ ((level ≡ e.level) × (m < e.number))) (sym same_number) is)),
    ),
  )

-- ---- a row is noted

below_same : (a b c d : Named) → c.level ≡ a.level → c.number ≡ a.number → d.level ≡ b.level → d.number ≡ b.number
    → IsBelow a b → IsBelow c d
below_same a b c d level number other another (inl low) = inl (omega (arith, low, level, other))
below_same a b c d level number other another (inr low) =
    inr (level ∙ low.0 ∙ sym other, omega (arith, low.1, number, another))

-- where the object is there
module _ (row : Extent StoredPlace) (list : List Named) (order : AreInOrder list) (at : ℕ) (was : Named)
    (within : at < length list) (is_there : get_or list at was ≡ was) (level : was.level ≡ row.place.level)
    (number : was.number ≡ row.place.number) where
  abbrev end : ℕ
  end = row.place.place + row.sectors

  abbrev now : Named
  now = record was { reach = max was.reach end }

  abbrev with_now : List Named
  with_now = set list at now

  -- what an object was and is there
  record IsKept (before after : Named) : Type 0 where
    level_same : after.level ≡ before.level
    number_same : after.number ≡ before.number
    reach_more : before.reach ≤ after.reach

  kept_at : (k : ℕ) (e : Named) → k < length list → IsKept (get_or list k e) (get_or with_now k e)
  kept_at k e inside = elim (cases_eq k at) [
    | inl same ↦ (
        let is : get_or with_now k e ≡ now = ap (λ i. get_or with_now i e) same ∙ get_or-set_same list at now e within in
        let before : get_or list k e ≡ was =
        ap (λ i. get_or list i e) same ∙ get_or_default list at e was within ∙ is_there in
        record {
          level_same = ap (λ (n : Named). n.level) is ∙ sym (ap (λ (n : Named). n.level) before);
          number_same = ap (λ (n : Named). n.number) is ∙ sym (ap (λ (n : Named). n.number) before);
          reach_more = omega (arith, ap (λ (n : Named). n.reach) is, ap (λ (n : Named). n.reach) before);
        })
    | inr other ↦ (
        let is = get_or-set_other list at k now e other in
        record {
          level_same = ap (λ (n : Named). n.level) is;
          number_same = ap (λ (n : Named). n.number) is;
          reach_more = omega (arith, ap (λ (n : Named). n.reach) is);
        })
  ]

  order_now : AreInOrder with_now
  order_now i j d low inside =
      let count = length-set list at now in
      let a = kept_at i d (omega (arith, low, inside, count)) in
      let b = kept_at j d (omega (arith, inside, count)) in
      below_same (get_or list i d) (get_or list j d) (get_or with_now i d) (get_or with_now j d) a.level_same a.number_same
      b.level_same b.number_same
      (order i j d low (omega (arith, inside, count)))

  kept_now : (n : Named) → Contains list n → HasAsFar with_now n
  kept_now n has =
      let k = has.0 in
      let inside : k < length with_now = omega (arith, has.1, length-set list at now) in
      let kept = subst (λ b. IsKept b (get_or with_now k n)) has.2 (kept_at k n has.1) in
      (get_or with_now k n, Contains-get_or with_now k n inside, kept.level_same, kept.number_same, kept.reach_more)

  there_now : Contains with_now now
  there_now = (at, omega (arith, within, length-set list at now), get_or-set_same list at now now within)

  abbrev made : (level number reach : ℕ) → Named
  made level number reach = record { level = level; number = number; reach = reach }

  now_is : Contains list now ⊎ (now ≡ named_by row)
  now_is = elim (cases_lt was.reach end) [
    | inl less ↦ (
        let reach : max was.reach end ≡ end = omega (arith, less) in
        inr (ap (λ l. made l was.number (max was.reach end)) level
        ∙ ap (λ n. made row.place.level n (max was.reach end)) number
        ∙ ap (made row.place.level row.place.number) reach))
    | inr more ↦ (
        let reach : max was.reach end ≡ was.reach = omega (arith, more) in
        let same : was ≡ now = ap (made was.level was.number) (sym reach) in
        inl (subst (Contains list) same (at, within, is_there)))
  ]

  pub noted_there : IsNoted row list with_now
  noted_there = record {
    order = order_now;
    kept = kept_now;
    noted = (now, there_now, level, number, omega arith);
    others =
        All-set (λ (n : Named). Contains list n ⊎ (n ≡ named_by row)) list at now now_is
        (All-weaker (Contains list) (λ (n : Named). Contains list n ⊎ (n ≡ named_by row)) (λ n has. inl has) list
        (All-contains_itself list));
  }

-- where it is not, between those before it and those after it
module _ (row : Extent StoredPlace) (list : List Named) (order : AreInOrder list) (at : ℕ) (within : at ≤ length list)
    (below : (k : ℕ) (d : Named) → k < at → IsBelow (get_or list k d) (named_by row))
    (above : (k : ℕ) (d : Named) → at ≤ k → k < length list → IsBelow (named_by row) (get_or list k d)) where
  abbrev put : Named
  put = named_by row

  abbrev with_put : List Named
  with_put = insert list at put

  count : length with_put ≡ length list + 1
  count = length-insert list at put within

  at_below : (k : ℕ) (d : Named) → k < at → get_or with_put k d ≡ get_or list k d
  at_below k d low = get_or-insert_below list at put d k low within

  at_put : (k : ℕ) (d : Named) → k ≡ at → get_or with_put k d ≡ put
  at_put k d same = ap (λ i. get_or with_put i d) same ∙ get_or-insert_at list at put d within

  at_above : (k : ℕ) (d : Named) → at < k → get_or with_put k d ≡ get_or list (k - 1) d
  at_above k d high =
      let one : k - 1 + 1 ≡ k = omega (arith, high) in
      ap (λ i. get_or with_put i d) (sym one) ∙ get_or-insert_above list at put d (k - 1) (omega (arith, high)) within

  below_put : (a b c d : Named) → c ≡ a → d ≡ b → IsBelow a b → IsBelow c d
  below_put a b c d first second is = subst (λ x. IsBelow x d) (sym first) (subst (IsBelow a) (sym second) is)

  pair : (i j : ℕ) (d : Named) → i < j → j < length list + 1 → IsBelow (get_or with_put i d) (get_or with_put j d)
  pair i j d low inside = elim (cases_order i at) [
    | inl same ↦ (
        let high : at < j = omega (arith, low, same) in
        below_put put (get_or list (j - 1) d) (get_or with_put i d) (get_or with_put j d) (at_put i d same) (at_above j d high)
        (above (j - 1) d (omega (arith, high)) (omega (arith, inside, high))))
    | inr (inl less) ↦ elim (cases_order j at) [
      | inl same ↦
          below_put (get_or list i d) put (get_or with_put i d) (get_or with_put j d) (at_below i d less) (at_put j d same)
          (below i d less)
      | inr (inl lower) ↦
          below_put (get_or list i d) (get_or list j d) (get_or with_put i d) (get_or with_put j d) (at_below i d less)
          (at_below j d lower) (order i j d low (omega (arith, lower, within)))
      | inr (inr high) ↦
          below_put (get_or list i d) (get_or list (j - 1) d) (get_or with_put i d) (get_or with_put j d) (at_below i d less)
          (at_above j d high)
          (order i (j - 1) d (omega (arith, less, high)) (omega (arith, inside, high)))
    ]
    | inr (inr more) ↦
        below_put (get_or list (i - 1) d) (get_or list (j - 1) d) (get_or with_put i d) (get_or with_put j d)
        (at_above i d more) (at_above j d (omega (arith, more, low)))
        (order (i - 1) (j - 1) d (omega (arith, more, low)) (omega (arith, inside, more, low)))
  ]

  kept_put : (n : Named) → Contains list n → HasAsFar with_put n
  kept_put n has = elim (cases_lt has.0 at) [
    | inl low ↦
        (n, (has.0, omega (arith, has.1, count), at_below has.0 n low ∙ has.2), refl, refl, omega arith)
    | inr high ↦ (
      n,
      (has.0 + 1, omega (arith, has.1, count), get_or-insert_above list at put n has.0 high within ∙ has.2),
      refl,
      refl,
      omega arith,
    )
  ]

  others_put : All (λ (n : Named). Contains list n ⊎ (n ≡ put)) with_put
  others_put k d inside = elim (cases_order k at) [
    | inl same ↦ inr (at_put k d same)
    | inr (inl low) ↦ inl (subst (Contains list) (sym (at_below k d low)) (Contains-get_or list k d (omega (arith, low, within))))
    | inr (inr high) ↦ inl (subst (Contains list) (sym (at_above k d high))
        (Contains-get_or list (k - 1) d (omega (arith, inside, count, high))))
  ]

  pub noted_new : IsNoted row list with_put
  noted_new = record {
    order = λ i j d low inside. pair i j d low (omega (arith, inside, count));
    kept = kept_put;
    noted = (put, (at, omega (arith, within, count), at_put at put refl), refl, refl, omega arith);
    others = others_put;
  }
