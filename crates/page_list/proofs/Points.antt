-- Where a search of pages, and of one page, ends: at the first item that does not pass the test.
use Rattle.std.proofs.Common.{ℕ, ◌+◌, ◌-◌, ◌<◌, ◌≤◌, ◌≡◌, inl, inr, Bool, true, false, cond, List, [], ◌∷◌, length, get_or, refl}
use Rattle.std.proofs.Common.{sym, ◌∙◌, ap, subst, arith}
use Rattle.std.specs.List.{sum, prefix_len}
use Rattle.std.specs.List.Sorted.{IsPartitionedBy}
use Rattle.std.proofs.lemmas.Bool.{cases_lt}
use Rattle.std.proofs.lemmas.Option.{slice_get-get_or, get_or_from_slice_get}
use Rattle.std.proofs.lemmas.List.{length-map, get_or_read}
use Rattle.std.proofs.lemmas.List.Elements.{All-head, All-tail}
use Rattle.std.proofs.lemmas.List.Sums.{prefix_len_is, prefix_len_stops, prefix_len-le-length, sum_by-cons}
use Rattle.page_list.specs.Items.{ListState, page_start}
use Rattle.page_list.specs.Pages.{items_of, lengths_of, AreFilled}
use Rattle.page_list.specs.Pages.{passes_at_start}
use Rattle.page_list.proofs.Lengths.{start_more, start_all, start_bound}
use Rattle.page_list.proofs.Places.{length_is, item_is, items_length}
use Rattle.page_list.proofs.Seen.{seen, filled_at}

-- there are at least as many items as pages
pub few_pages : (ns : List ℕ) → AreFilled ns → length ns ≤ sum ns
few_pages [] filled = omega arith
few_pages (n ∷ ns) filled =
    let F : ℕ → Type 0 = λ n. (0 < n) × (n ≤ 128) in
    let some = All-head F n ns filled in
    omega (arith, some.0, few_pages ns (All-tail F n ns filled), sum_by-cons (λ n. n) n ns)

pub fewer_pages : {T : Type 0} (pages : List (List T)) (n : ℕ) (s : ListState T) → seen pages n ≡ s → AreFilled (lengths_of pages)
    → length pages ≤ length s.items
fewer_pages pages n s view filled =
    subst (λ s. length pages ≤ length s.items) view
    (omega (arith, few_pages (lengths_of pages) filled, items_length pages, length-map pages length))

starts_at : {T : Type 0} (p : T → Bool) (page : List T) (b : Bool) (d : T) → 0 < length page → passes_at_start p page ≡ b
    → p (get_or page 0 d) ≡ b
starts_at p [] b d some is = absurd (omega arith)
starts_at p (x ∷ page) b d some is = is

none_passes : {T : Type 0} (p : T → Bool) (xs : List T) → ((d : T) → 0 < length xs → p (get_or xs 0 d) ≡ false)
    → 0 ≡ prefix_len p xs
none_passes p [] fails = omega arith
none_passes p (x ∷ xs) fails =
    let no : p x ≡ false = fails x (omega arith) in
    sym (ap (λ b. cond b (1 + prefix_len p xs) 0) no)

-- where the last item passes, all do
pub all_pass : {T : Type 0} (p : T → Bool) (xs : List T) → IsPartitionedBy p xs
    → ((d : T) → 0 < length xs → p (get_or xs (length xs - 1) d) ≡ true)
    → length xs ≡ prefix_len p xs
all_pass p [] partitioned last = refl
all_pass p (x ∷ xs) partitioned last =
    let n = prefix_len p (x ∷ xs) in
    let at_last : length (x ∷ xs) - 1 ≡ length xs = omega arith in
    let yes : p (get_or (x ∷ xs) (length xs) x) ≡ true = ap (λ i. p (get_or (x ∷ xs) i x)) (sym at_last) ∙ last x (omega arith) in
    elim (cases_lt n (length (x ∷ xs))) [
      | inl low ↦
          let no = prefix_len_stops p (x ∷ xs) x low in
          elim (cases_lt n (length xs)) [
            | inl before ↦
                let too = partitioned n (length xs) x (omega (arith, before)) (omega arith) yes in
                absurd (cc (no, too))
            | inr at ↦
                let same : n ≡ length xs = omega (arith, low, at) in
                let there = ap (λ i. p (get_or (x ∷ xs) i x)) same in
                absurd (cc (no, there, yes))
          ]
      | inr past ↦ omega (arith, past, prefix_len-le-length p (x ∷ xs))
    ]

first_of : {T : Type 0} (xs : List T) → 0 < length xs → T
first_of [] some = absurd (omega arith)
first_of (x ∷ xs) some = x

module _ {T : Type 0} (pages : List (List T)) (filled : AreFilled (lengths_of pages)) (p : T → Bool) where
  -- an item by its place in a page
  read_at : (k i : ℕ) (d : T) → k < length pages → i < length (get_or pages k [])
      → get_or (items_of pages) (page_start (lengths_of pages) k + i) d ≡ get_or (get_or pages k []) i d
  read_at k i d page inside =
      get_or_from_slice_get (items_of pages) (page_start (lengths_of pages) k + i) (get_or (get_or pages k []) i d) d
      (item_is pages k i page inside ∙ slice_get-get_or (get_or pages k []) i d inside)

  some_in : (k : ℕ) → k < length pages → 0 < length (get_or pages k [])
  some_in k page = omega (
    arith,
    length_is pages k,
    filled_at (lengths_of pages) k filled
        (omega (arith, page, length-map pages length)),
  )

  start_inside : (k : ℕ) → k ≤ length pages → page_start (lengths_of pages) k < length (items_of pages) → k < length pages
  start_inside k bound before =
      elim (cases_lt k (length pages)) [
        | inl inside ↦ inside
        | inr past ↦ absurd (omega (
          arith,
          before,
          start_all (lengths_of pages) k (omega (arith, past, length-map pages length)),
          items_length pages,
        ))
      ]

  -- the item at the start of a page, by the first item of the page
  fails_at : (k : ℕ) → ((d : List T) → k < length pages → passes_at_start p (get_or pages k d) ≡ false) → k ≤ length pages
      → (d : T) → page_start (lengths_of pages) k < length (items_of pages)
      → p (get_or (items_of pages) (page_start (lengths_of pages) k) d) ≡ false
  fails_at k fails bound d before =
      let page : k < length pages = start_inside k bound before in
      let at : page_start (lengths_of pages) k ≡ page_start (lengths_of pages) k + 0 = omega arith in
      ap (λ n. p (get_or (items_of pages) n d)) at
      ∙ ap p (read_at k 0 d page (some_in k page))
      ∙ starts_at p (get_or pages k []) false d (some_in k page) (fails [] page)

  point_none : ((d : List T) → 0 < length pages → passes_at_start p (get_or pages 0 d) ≡ false)
      → 0 ≡ prefix_len p (items_of pages)
  point_none fails = none_passes p (items_of pages) (λ d some. fails_at 0 fails (omega arith) d some)

  module _ (n k j : ℕ) (next : n ≡ k + 1) (page : List T) (here : k < length pages) (read : page ≡ get_or pages k page)
      (starts : (d : List T) → passes_at_start p (get_or pages k d) ≡ true)
      (fails : (d : List T) → n < length pages → passes_at_start p (get_or pages n d) ≡ false)
      (bound : j ≤ length page)
      (passes_in : (d : T) → 0 < j → p (get_or page (j - 1) d) ≡ true)
      (fails_in : (d : T) → j < length page → p (get_or page j d) ≡ false) where
    is_page : page ≡ get_or pages k []
    is_page = get_or_read pages k page here read []

    some_page : 0 < length page
    some_page = omega (arith, some_in k here, ap length is_page)

    -- the first item passes, so the search did not end at it
    item_some : 0 < j
    item_some =
        elim (cases_lt 0 j) [
          | inl some ↦ some
          | inr none ↦
              let d = first_of page some_page in
              let is : j ≡ 0 = omega (arith, none) in
              let yes = ap (λ xs. p (get_or xs 0 d)) is_page ∙ starts_at p (get_or pages k []) true d (some_in k here)
              (starts []) in
              let no = ap (λ n. p (get_or page n d)) (sym is) ∙ fails_in d (omega (arith, is, some_page)) in
              absurd (cc (yes, no))
        ]

    last_passes : (d : T) → p (get_or (items_of pages) (page_start (lengths_of pages) k + (j - 1)) d) ≡ true
    last_passes d =
        ap p (read_at k (j - 1) d here (omega (arith, bound, item_some, ap length is_page)))
        ∙ ap (λ xs. p (get_or xs (j - 1) d)) (sym is_page)
        ∙ passes_in d item_some

    next_fails : (d : T) → page_start (lengths_of pages) k + j < length (items_of pages)
        → p (get_or (items_of pages) (page_start (lengths_of pages) k + j) d) ≡ false
    next_fails d before =
        elim (cases_lt j (length page)) [
          | inl inside ↦
              ap p (read_at k j d here (omega (arith, inside, ap length is_page)))
              ∙ ap (λ xs. p (get_or xs j d)) (sym is_page)
              ∙ fails_in d inside
          | inr past ↦
              let more = start_more (lengths_of pages) k (omega (arith, here, length-map pages length)) in
              let at : page_start (lengths_of pages) k + j ≡ page_start (lengths_of pages) n =
              omega (arith, past, bound, more, length_is pages k, ap length is_page, ap (page_start (lengths_of pages)) next) in
              ap (λ n. p (get_or (items_of pages) n d)) at
              ∙ fails_at n fails (omega (arith, here, next)) d (omega (arith, before, at))
        ]

    item_bound : page_start (lengths_of pages) k + j ≤ length (items_of pages)
    item_bound =
        omega (
          arith,
          bound,
          ap length is_page,
          length_is pages k,
          start_more (lengths_of pages) k (omega (arith, here, length-map pages length)),
          start_bound (lengths_of pages) (k + 1),
          items_length pages,
        )

    point_here : IsPartitionedBy p (items_of pages) → page_start (lengths_of pages) k + j ≡ prefix_len p (items_of pages)
    point_here partitioned =
        let d = first_of page some_page in
        let n = page_start (lengths_of pages) k + j in
        sym (prefix_len_is p (items_of pages) (page_start (lengths_of pages) k + j) d item_bound
        (λ i low. partitioned i (page_start (lengths_of pages) k + (j - 1)) d (omega (arith, low, item_some))
        (omega (arith, item_bound, item_some)) (last_passes d))
        (next_fails d))

-- the same by what contracts see
module _ {T : Type 0} (pages : List (List T)) (free : ℕ) (s : ListState T) (view : seen pages free ≡ s)
    (filled : AreFilled (lengths_of pages)) (p : T → Bool) where
  pub point_none_seen : ((d : List T) → 0 < length pages → passes_at_start p (get_or pages 0 d) ≡ false)
      → 0 ≡ prefix_len p s.items
  point_none_seen fails = subst (λ s. 0 ≡ prefix_len p s.items) view (point_none pages filled p fails)

  pub point_seen : (n k j : ℕ) (next : n ≡ k + 1) (page : List T) (here : k < length pages) (read : page ≡ get_or pages k page)
      (starts : (d : List T) → passes_at_start p (get_or pages k d) ≡ true)
      (fails : (d : List T) → n < length pages → passes_at_start p (get_or pages n d) ≡ false)
      (bound : j ≤ length page)
      (passes_in : (d : T) → 0 < j → p (get_or page (j - 1) d) ≡ true)
      (fails_in : (d : T) → j < length page → p (get_or page j d) ≡ false)
      → IsPartitionedBy p s.items → page_start s.lengths k + j ≡ prefix_len p s.items
  point_seen n k j next page here read starts fails bound passes_in fails_in =
      subst (λ s. IsPartitionedBy p s.items → page_start s.lengths k + j ≡ prefix_len p s.items) view
      (point_here pages filled p n k j next page here read starts fails bound passes_in fails_in)
