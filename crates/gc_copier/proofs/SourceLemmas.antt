-- Sources among ascending ones, and copies of sources.
use Rattle.std.proofs.Common.{◌≡◌, ℕ, ◌<◌, ◌≤◌, inl, inr, List, [], ◌∷◌, map, length, get_or, refl, sym, ◌∙◌, ap, subst}
use Rattle.std.proofs.Common.{arith}
use Rattle.std.specs.Prelude.{Result, Ok, Err, IsOk}
use Rattle.std.specs.List.{Contains}
use Rattle.std.specs.List.Sorted.{IsStrictlyIncreasing, IsNonDecreasingBy, IsBinarySearchResult}
use Rattle.std.specs.Ordering.{nat_cmp, ordering_index}
use Rattle.std.proofs.lemmas.Bool.{cases_lt}
use Rattle.std.proofs.lemmas.Bool.Decides.{nat_tests}
use Rattle.std.proofs.lemmas.Cmp.{ranked}
use Rattle.std.proofs.lemmas.List.{length-map, get_or-map, get_or_default}
use Rattle.std.proofs.lemmas.Map.Keys.{sorted_from_strictly_increasing, below_from_sorted}
use Rattle.lsvd_objstore.specs.Store.{ReceiptState}
use Rattle.gc_copier.specs.declared.source.PlanSource.{PlanSource}
use Rattle.gc_copier.specs.Plan.{seen, all_seen, numbers_of}

-- ---- items with ascending numbers

-- an item of a list that has some
some_item : {X : Type 0} (items : List X) (k : ℕ) → k < length items → X
some_item [] k inside = absurd (omega arith)
some_item (item ∷ items) k inside = item

module _ {X : Type 0} (number_of : X → ℕ) (items : List X) where
  pub number_at : (i e : ℕ) (d : X) → i < length items → get_or (map number_of items) i e ≡ number_of (get_or items i d)
  number_at i e d inside = get_or-map number_of items i d e inside

  rises : IsStrictlyIncreasing (map number_of items) → (i j : ℕ) (d : X) → i < j → j < length items
      → number_of (get_or items i d) < number_of (get_or items j d)
  rises ascending i j d less inside =
      let size = length-map items number_of in
      let numbers = below_from_sorted (map number_of items) i j 0
      (sorted_from_strictly_increasing (map number_of items) ascending) less (omega (arith, size)) in
      omega (arith, numbers, number_at i 0 d (omega arith), number_at j 0 d inside)

  -- two with one number are one
  pub one_of_number : IsStrictlyIncreasing (map number_of items) → (a b : X) → Contains items a → Contains items b
      → number_of a ≡ number_of b → a ≡ b
  one_of_number ascending a b (i, in_i, is_a) (j, in_j, is_b) same =
      let at_b : get_or items j a ≡ b = get_or_default items j a b in_j ∙ is_b in
      let number_a = ap number_of is_a in
      let number_b = ap number_of at_b in
      elim (cases_lt i j) [
        | inl below ↦ absurd (let rise = rises ascending i j a below in_j in omega (arith, rise, number_a, number_b, same))
        | inr past ↦ elim (cases_lt j i) [
          | inl above ↦ absurd (let rise = rises ascending j i a above in_i in omega (arith, rise, number_a, number_b, same))
          | inr here ↦
              let is : i ≡ j = omega (arith, past, here) in
              sym is_a ∙ ap (λ k. get_or items k a) is ∙ at_b
        ]
      ]

  -- ---- a search by number

  comparisons_rise : (wanted : ℕ) → IsStrictlyIncreasing (map number_of items)
      → IsNonDecreasingBy (λ item. ordering_index (nat_cmp (number_of item) wanted)) items
  comparisons_rise wanted ascending i j d le inside =
      elim (cases_lt i j) [
        | inl below ↦ (let rise = rises ascending i j d below inside in grind (arith, nat_tests))
        | inr past ↦ (let is : i ≡ j = omega (arith, past, le) in
            subst (λ k. ordering_index (nat_cmp (number_of (get_or items i d)) wanted)
            ≤ ordering_index (nat_cmp (number_of (get_or items k d)) wanted)) is (omega arith))
      ]

  pub is_found : (wanted : ℕ) (found : Result ℕ ℕ) → IsStrictlyIncreasing (map number_of items)
      → Contains (map number_of items) wanted
      → IsBinarySearchResult (λ item. nat_cmp (number_of item) wanted) items found → IsOk found
  is_found wanted (Ok at) ascending has equal = refl
  is_found wanted (Err at) ascending (k, inside, is) parted =
      let size = length-map items number_of in
      let within : k < length items = omega (arith, size, inside) in
      let d = some_item items k within in
      let number = sym (number_at k wanted d within) ∙ is in
      let parts = parted (comparisons_rise wanted ascending) in
      absurd (elim (cases_lt k at) [
        | inl low ↦ (let below = ranked (number_of (get_or items k d)) wanted _ (sym (parts.0 k d (omega arith) low)) in
            omega (arith, below, number))
        | inr high ↦ (let above = ranked (number_of (get_or items k d)) wanted _ (sym (parts.1 k d high within)) in
            omega (arith, above, number))
      ])

  pub number_found : (wanted at : ℕ) (item : X)
      → IsBinarySearchResult (λ item. nat_cmp (number_of item) wanted) items (Ok at)
      → item ≡ get_or items at item → number_of item ≡ wanted
  number_found wanted at item equal is =
      let same = ranked (number_of (get_or items at item)) wanted _ (sym (equal item)) in
      ap number_of is ∙ same

-- ---- sources as they are seen

module _ {R : Type 0} (state : R → ReceiptState) where
  -- their numbers are the sources' own
  pub numbers_seen : (sources : List (PlanSource R))
      → numbers_of (all_seen state sources) ≡ map (λ (s : PlanSource R). s.number) sources
  numbers_seen [] = refl
  numbers_seen (source ∷ sources) = ap (λ numbers. source.number ∷ numbers) (numbers_seen sources)

  pub source_seen : (sources : List (PlanSource R)) (source : PlanSource R) → Contains sources source
      → Contains (all_seen state sources) (seen state source)
  source_seen sources source (k, inside, is) =
      let size = length-map sources (seen state) in
      (k, omega (arith, size, inside), get_or-map (seen state) sources k source (seen state source) inside ∙ ap (seen state) is)
