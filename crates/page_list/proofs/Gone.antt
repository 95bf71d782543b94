-- Pages of which some that follow one another were taken out.
use Rattle.std.proofs.Common.{ℕ, ◌+◌, ◌-◌, ◌<◌, ◌≤◌, ◌≡◌, List, ◌++◌, length, take, drop, sym, ◌∙◌, ap, subst, arith}
use Rattle.std.proofs.Common.{length-append, length-take-le, length-drop, take-append-drop, drop-drop}
use Rattle.std.specs.List.{sum, sum_by}
use Rattle.std.proofs.lemmas.List.{length-map, map-append, take-map, drop-map, drop-take, take-take, take_at, drop_at}
use Rattle.std.proofs.lemmas.List.Elements.{All-append, All-take, All-drop}
use Rattle.std.proofs.lemmas.List.Sums.{sum_by-append, sum_by-take-drop}
use Rattle.page_list.specs.Items.{ListState, page_start, surplus_of}
use Rattle.page_list.specs.Pages.{items_of, lengths_of, AreFilled, AreKept}
use Rattle.page_list.proofs.Places.{items_append, start_is}
use Rattle.page_list.proofs.Seen.{seen}

-- a list in three parts
three_parts : {X : Type 0} (xs : List X) (i j : ℕ) → i ≤ j → xs ≡ take i xs ++ (take (j - i) (drop i xs) ++ drop j xs)
three_parts xs i j order =
    let is : i + (j - i) ≡ j = omega arith in
    sym (take-append-drop i xs)
    ∙ ap (λ ys. take i xs ++ ys) (sym (take-append-drop (j - i) (drop i xs)))
    ∙ ap (λ ys. take i xs ++ (take (j - i) (drop i xs) ++ ys)) (drop-drop (j - i) i xs ∙ ap (λ k. drop k xs) is)

module _ {T : Type 0} (pages : List (List T)) (first last : ℕ) (order : first ≤ last) where
  -- how many items the pages between have
  mid_is : lengths_of (take (last - first) (drop first pages)) ≡ take (last - first) (drop first (lengths_of pages))
  mid_is = sym (take-map length (last - first) (drop first pages)) ∙ ap (take (last - first)) (sym (drop-map length first pages))

  pub mid_sum : sum (lengths_of (take (last - first) (drop first pages))) + page_start (lengths_of pages) first
      ≡ page_start (lengths_of pages) last
  mid_sum =
      let ns = lengths_of pages in
      let is : first + (last - first) ≡ last = omega arith in
      let back = drop-take first (last - first) ns in
      let shown = ap (λ k. drop first (take k ns)) is in
      let parts = sum_by-take-drop (λ n. n) (take last ns) first in
      omega (arith, parts, ap sum (take-take first last ns order), ap sum (sym shown ∙ back), ap sum mid_is)

  pub mid_surplus : surplus_of (lengths_of pages)
      ≡ surplus_of (take first (lengths_of pages) ++ drop last (lengths_of pages)) + surplus_of
      (lengths_of (take (last - first) (drop first pages)))
  mid_surplus =
      let ns = lengths_of pages in
      let f : ℕ → ℕ = λ n. n - 64 in
      let mid = take (last - first) (drop first ns) in
      omega (
        arith,
        ap (sum_by f) (three_parts ns first last order),
        ap (sum_by f) mid_is,
        sum_by-append f (take first ns) (mid ++ drop last ns),
        sum_by-append f mid (drop last ns),
        sum_by-append f (take first ns) (drop last ns),
      )

  gone_lengths : lengths_of (take first pages ++ drop last pages) ≡ take first (lengths_of pages) ++ drop last (lengths_of pages)
  gone_lengths =
      map-append length (take first pages) (drop last pages)
      ∙ ap (λ ns. ns ++ lengths_of (drop last pages)) (sym (take-map length first pages))
      ∙ ap (λ ns. take first (lengths_of pages) ++ ns) (sym (drop-map length last pages))

  -- the items before a page, and those from it on
  items_front : (p : ℕ) → take (page_start (lengths_of pages) p) (items_of pages) ≡ items_of (take p pages)
  items_front p =
      ap (take (page_start (lengths_of pages) p)) (ap items_of (sym (take-append-drop p pages))
      ∙ items_append (take p pages) (drop p pages))
      ∙ take_at (items_of (take p pages)) (items_of (drop p pages)) (page_start (lengths_of pages) p) (start_is pages p)

  items_back : (p : ℕ) → drop (page_start (lengths_of pages) p) (items_of pages) ≡ items_of (drop p pages)
  items_back p =
      ap (drop (page_start (lengths_of pages) p)) (ap items_of (sym (take-append-drop p pages))
      ∙ items_append (take p pages) (drop p pages))
      ∙ drop_at (items_of (take p pages)) (items_of (drop p pages)) (page_start (lengths_of pages) p) (start_is pages p)

  gone_items : items_of (take first pages ++ drop last pages)
      ≡ take (page_start (lengths_of pages) first) (items_of pages) ++ drop (page_start (lengths_of pages) last) (items_of pages)
  gone_items =
      items_append (take first pages) (drop last pages)
      ∙ ap (λ xs. xs ++ items_of (drop last pages)) (sym (items_front first))
      ∙ ap (λ xs. take (page_start (lengths_of pages) first) (items_of pages) ++ xs) (sym (items_back last))

  -- what is kept, and what contracts see
  module _ (inside : last ≤ length pages) (next : List (List T)) (next_is : next ≡ take first pages ++ drop last pages) where
    gone_count : length next + (last - first) ≡ length pages
    gone_count =
        omega (
          arith,
          order,
          inside,
          ap length next_is,
          length-append (take first pages) (drop last pages),
          length-take-le first pages (omega (arith, order, inside)),
          length-drop last pages,
        )

    pub gone_kept : (free left : List (List T)) (surplus room free_room next_surplus next_room next_free : ℕ)
        → AreKept pages free surplus room free_room
        → length left ≡ length free + (last - first) → length (items_of left) ≡ length (items_of free)
        → next_surplus ≡ surplus - surplus_of (lengths_of (take (last - first) (drop first pages)))
        → next_room ≡ room → free_room ≤ next_free
        → AreKept next left next_surplus next_room next_free
    gone_kept free left surplus room free_room next_surplus next_room next_free kept count empty surplus_is room_is rises =
        let F : ℕ → Type 0 = λ n. (0 < n) × (n ≤ 128) in
        let shown = ap lengths_of next_is ∙ gone_lengths in
        record {
          filled =
              subst AreFilled (sym shown)
              (All-append F (take first (lengths_of pages)) (drop last (lengths_of pages))
              (All-take F first (lengths_of pages) kept.filled)
              (All-drop F last (lengths_of pages) kept.filled));
          empty = empty ∙ kept.empty;
          surplus_is = omega (arith, surplus_is, kept.surplus_is, mid_surplus, ap surplus_of shown);
          few = omega (arith, kept.few, gone_count, count);
          room = omega (arith, kept.room, gone_count, count, room_is);
          free_room = omega (arith, kept.free_room, gone_count, count, rises);
        }

    pub gone_seen : (n : ℕ) (s : ListState T) → seen pages n ≡ s
        → (items_of next ≡ take (page_start s.lengths first) s.items ++ drop (page_start s.lengths last) s.items)
        × (lengths_of next ≡ take first s.lengths ++ drop last s.lengths)
    gone_seen n s view =
        subst (λ s. (items_of next ≡ take (page_start s.lengths first) s.items ++ drop (page_start s.lengths last) s.items)
        × (lengths_of next ≡ take first s.lengths ++ drop last s.lengths)) view (
          ap items_of next_is
              ∙ gone_items,
          ap lengths_of next_is ∙ gone_lengths,
        )

  pub mid_seen : (n : ℕ) (s : ListState T) → seen pages n ≡ s
      → sum (lengths_of (take (last - first) (drop first pages))) + page_start s.lengths first ≡ page_start s.lengths last
  mid_seen n s view =
      subst (λ s. sum (lengths_of (take (last - first) (drop first pages))) + page_start s.lengths first ≡ page_start s.lengths
      last) view mid_sum

pub pages_bound : {T : Type 0} (pages : List (List T)) (n : ℕ) (s : ListState T) → seen pages n ≡ s → (last : ℕ)
    → last ≤ length s.lengths → last ≤ length pages
pages_bound pages n s view =
    subst (λ s. (last : ℕ) → last ≤ length s.lengths → last ≤ length pages) view
    (λ last inside. omega (arith, inside, length-map pages length))
