-- Numbers that are put in a strict order stand in it, and there is one list of them that does.
use Rattle.std.proofs.Common.{◌≡◌, ℕ, ◌==◌, ◌||◌, cond, Bool, true, false, List, [], ◌∷◌, refl, sym, ◌∙◌, ap, subst, arith}
use Rattle.std.specs.List.{AllByRecursion}
use Rattle.std.proofs.lemmas.Bool.Decides.{nat_tests}
use Rattle.volume_maps.proofs.RowsLemmas.{is_in}
use Rattle.volume_maps.proofs.VictimLemmas.{Different}
use Rattle.plain_disk.specs.Collection.{put_in_order, in_order}

self_equal : (n : ℕ) → (n == n) ≡ true
self_equal n = grind (arith, nat_tests)

same_of : (m n : ℕ) → (m == n) ≡ true → m ≡ n
same_of m n is = grind (arith, nat_tests)

flipped : (m n : ℕ) → (m == n) ≡ false → (n == m) ≡ false
flipped m n is = grind (arith, nat_tests)

module _ (before : ℕ → ℕ → Bool) where
  -- a number goes before all of some, and each of some before all later ones
  abbrev pub GoesFirst : ℕ → List ℕ → Type 0
  GoesFirst n list = AllByRecursion (λ m. before n m ≡ true) list

  abbrev pub AreOrdered : List ℕ → Type 0
  AreOrdered [] = Unit {0}
  AreOrdered (n ∷ list) = GoesFirst n list × AreOrdered list

  -- ---- there is one such list

  goes_by : (test : Bool) (n m first : ℕ) (rest : Bool) → (first == m) ≡ test → before n first ≡ true
      → (rest ≡ true → before n m ≡ true) → (test || rest) ≡ true → before n m ≡ true
  goes_by true n m first rest same here more is = subst (λ k. before n k ≡ true) (same_of first m same) here
  goes_by false n m first rest same here more is = more is

  goes_to : (n m : ℕ) (list : List ℕ) → GoesFirst n list → is_in list m ≡ true → before n m ≡ true
  goes_to n m [] goes is = absurd cc
  goes_to n m (first ∷ list) goes is =
      goes_by (first == m) n m first (is_in list m) refl goes.0 (goes_to n m list goes.1) is

  module _ (one_way : (m n : ℕ) → before m n ≡ true → before n m ≡ false) where
    not_itself : (n : ℕ) (list : List ℕ) → GoesFirst n list → is_in list n ≡ false
    not_itself n list goes =
        elim (is_in list n) as (λ b. is_in list n ≡ b → b ≡ false) [
          | true ↦ λ is. (
              let here = goes_to n n list goes is in
              let not_here = one_way n n here in
              absurd cc)
          | false ↦ λ none. refl
        ] refl

    -- what is in both but for the first, which is the same
    rest_same_by : (test : Bool) (x n : ℕ) (xs ys : List ℕ) → (x == n) ≡ test → is_in xs x ≡ false → is_in ys x ≡ false
        → (test || is_in xs n) ≡ (test || is_in ys n) → is_in xs n ≡ is_in ys n
    rest_same_by true x n xs ys same no_x no_y both =
        let here = same_of x n same in
        sym (ap (is_in xs) here) ∙ (no_x ∙ (sym no_y ∙ ap (is_in ys) here))
    rest_same_by false x n xs ys same no_x no_y both = both

    -- two firsts that differ would go before one another
    other_first : (x y : ℕ) (xs ys : List ℕ) → (x == y) ≡ false → GoesFirst x xs → GoesFirst y ys
        → ((n : ℕ) → is_in (x ∷ xs) n ≡ is_in (y ∷ ys) n) → ⊥
    other_first x y xs ys differ first second same =
        let in_xs : is_in xs y ≡ true =
        sym (ap (λ b. b || is_in xs y) differ) ∙ (same y ∙ ap (λ b. b || is_in ys y) (self_equal y)) in
        let in_ys : is_in ys x ≡ true =
        sym (ap (λ b. b || is_in ys x) (flipped x y differ)) ∙ (sym (same x) ∙ ap (λ b. b || is_in xs x) (self_equal x)) in
        let there = goes_to x y xs first in_xs in
        let back = goes_to y x ys second in_ys in
        let no_way = one_way x y there in
        cc

    pub one_list : (xs ys : List ℕ) → AreOrdered xs → AreOrdered ys → ((n : ℕ) → is_in xs n ≡ is_in ys n) → xs ≡ ys
    one_list [] [] first second same = refl
    one_list [] (y ∷ ys) first second same =
        let none : false ≡ true = same y ∙ ap (λ b. b || is_in ys y) (self_equal y) in
        absurd cc
    one_list (x ∷ xs) [] first second same =
        let none : false ≡ true = sym (same x) ∙ ap (λ b. b || is_in xs x) (self_equal x) in
        absurd cc
    one_list (x ∷ xs) (y ∷ ys) first second same =
        elim (x == y) as (λ b. (x == y) ≡ b → x ∷ xs ≡ y ∷ ys) [
          | true ↦ λ is. (
              let here = same_of x y is in
              let second_x : GoesFirst x ys = subst (λ n. GoesFirst n ys) (sym here) second.0 in
              let rest : (n : ℕ) → is_in xs n ≡ is_in ys n = λ n.
              rest_same_by (x == n) x n xs ys refl (not_itself x xs first.0) (not_itself x ys second_x)
              (same n ∙ ap (λ m. (m == n) || is_in ys n) (sym here)) in
              ap (λ n. n ∷ xs) here ∙ ap (λ list. y ∷ list) (one_list xs ys first.1 second.1 rest))
          | false ↦ λ differ. absurd (other_first x y xs ys differ first.0 second.0 same)
        ] refl

  -- ---- a number is put in order

  goes_put : (n a : ℕ) (list : List ℕ) → before n a ≡ true → GoesFirst n list → GoesFirst n (put_in_order before a list)
  goes_put n a [] here goes = (here, tt)
  goes_put n a (first ∷ list) here goes =
      elim (before first a) as (λ b. GoesFirst n (cond b (first ∷ put_in_order before a list) (a ∷ first ∷ list))) [
        | true ↦ (goes.0, goes_put n a list here goes.1)
        | false ↦ (here, goes)
      ]

  pub in_put : (a n : ℕ) (list : List ℕ) → is_in (put_in_order before a list) n ≡ ((a == n) || is_in list n)
  in_put a n [] = refl
  in_put a n (first ∷ list) =
      elim (before first a) as (λ b. is_in (cond b (first ∷ put_in_order before a list) (a ∷ first ∷ list)) n
      ≡ ((a == n) || ((first == n) || is_in list n))) [
        | true ↦
            (let rest = in_put a n list in
            ap (λ b. (first == n) || b) rest
            ∙ elim (first == n) as (λ b. (b || ((a == n) || is_in list n)) ≡ ((a == n) || (b || is_in list n))) [
              | true ↦ elim (a == n) as (λ c. true ≡ (c || true)) [ true ↦ refl | false ↦ refl ]
              | false ↦ refl
            ])
        | false ↦ refl
      ]

  module _ (V : ℕ → Type 0)
      (chain : (a b c : ℕ) → V a → V b → V c → before a b ≡ true → before b c ≡ true → before a c ≡ true)
      (apart : (a b : ℕ) → V a → V b → (a == b) ≡ false → before a b ≡ false → before b a ≡ true) where
    goes_on : (a b : ℕ) (list : List ℕ) → V a → V b → AllByRecursion V list → before a b ≡ true → GoesFirst b list
        → GoesFirst a list
    goes_on a b [] is_a is_b are here goes = tt
    goes_on a b (first ∷ list) is_a is_b are here goes =
        (chain a b first is_a is_b are.0 here goes.0, goes_on a b list is_a is_b are.1 here goes.1)

    neither : (b c : Bool) → (b || c) ≡ false → (b ≡ false) × (c ≡ false)
    neither true c none = absurd cc
    neither false c none = (refl, none)

    put_ordered : (a : ℕ) (list : List ℕ) → V a → AllByRecursion V list → is_in list a ≡ false → AreOrdered list
        → AreOrdered (put_in_order before a list)
    put_ordered a [] is_a are none ordered = (tt, tt)
    put_ordered a (first ∷ list) is_a are none ordered =
        let both = neither (first == a) (is_in list a) none in
        elim (before first a) as (λ b. before first a ≡ b
        → AreOrdered (cond b (first ∷ put_in_order before a list) (a ∷ first ∷ list))) [
          | true ↦ λ here. (
            goes_put first a list here ordered.0,
            put_ordered a list is_a are.1 both.1 ordered.1,
          )
          | false ↦ λ not_here. (
              let goes = apart first a are.0 is_a both.0 not_here in
              ((goes, goes_on a first list is_a are.0 are.1 goes ordered.0), ordered))
        ] refl

    all_put : (a : ℕ) (list : List ℕ) → V a → AllByRecursion V list → AllByRecursion V (put_in_order before a list)
    all_put a [] is_a are = (is_a, tt)
    all_put a (first ∷ list) is_a are =
        elim (before first a) as (λ b. AllByRecursion V (cond b (first ∷ put_in_order before a list) (a ∷ first ∷ list))) [
          | true ↦ (are.0, all_put a list is_a are.1)
          | false ↦ (is_a, are)
        ]

    -- ---- all are

    pub all_in_order : (list : List ℕ) → AllByRecursion V list → AllByRecursion V (in_order before list)
    all_in_order [] are = tt
    all_in_order (first ∷ list) are = all_put first (in_order before list) are.0 (all_in_order list are.1)

    pub is_in_order : (list : List ℕ) (n : ℕ) → is_in (in_order before list) n ≡ is_in list n
    is_in_order [] n = refl
    is_in_order (first ∷ list) n =
        in_put first n (in_order before list) ∙ ap (λ b. (first == n) || b) (is_in_order list n)

    ordered : (list : List ℕ) → AllByRecursion V list → Different list → AreOrdered (in_order before list)
    ordered [] are different = tt
    ordered (first ∷ list) are different =
        put_ordered first (in_order before list) are.0 (all_in_order list are.1)
        (is_in_order list first ∙ different.0) (ordered list are.1 different.1)

    -- numbers that are put in order are the one list of them in that order
    pub ordered_is : ((m n : ℕ) → before m n ≡ true → before n m ≡ false) → (list ys : List ℕ) → AllByRecursion V list
        → Different list → AreOrdered ys → ((n : ℕ) → is_in list n ≡ is_in ys n) → in_order before list ≡ ys
    ordered_is one_way list ys are different second same =
        one_list one_way (in_order before list) ys (ordered list are different) second (λ n. is_in_order list n ∙ same n)
