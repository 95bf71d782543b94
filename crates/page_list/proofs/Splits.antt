-- Pages of which one was split in halves.
use Rattle.std.proofs.Common.{ℕ, zero, suc, ◌+◌, ◌-◌, ◌<◌, ◌≤◌, ◌≡◌, List, [], ◌∷◌, ◌++◌, length, get_or, take, drop, sym, ◌∙◌}
use Rattle.std.proofs.Common.{ap, subst, arith, refl, append_assoc, length-append, length-take-le, length-drop, suc-add}
use Rattle.std.proofs.Common.{take-append-drop}
use Rattle.std.proofs.Math.ListN.{set}
use Rattle.std.specs.List.{insert, sum_by}
use Rattle.std.proofs.lemmas.List.{length-map, map-append, take-map, drop-map, get_or_read}
use Rattle.std.proofs.lemmas.List.Elements.{All-append, All-cons, All-take, All-drop}
use Rattle.std.proofs.lemmas.List.Sums.{sum_by-append, sum_by-cons}
use Rattle.page_list.specs.Items.{ListState, surplus_of}
use Rattle.page_list.specs.Pages.{items_of, lengths_of, AreFilled, AreKept}
use Rattle.page_list.proofs.Places.{items_append, items_split, one_split, length_is}
use Rattle.page_list.proofs.Seen.{seen}

module _ {X : Type 0} where
  -- one in place of another, and one after it
  pub put_two : (xs : List X) (p : ℕ) (a b : X) → p < length xs
      → insert (set xs p a) (p + 1) b ≡ take p xs ++ a ∷ b ∷ drop (p + 1) xs
  put_two [] p a b inside = absurd (omega arith)
  put_two (x ∷ xs) zero a b inside = refl
  put_two (x ∷ xs) (suc p) a b inside = simp suc-add (ap (λ ys. x ∷ ys) (put_two xs p a b (omega arith)))

-- pages with the halves of one in its place
module _ {T : Type 0} (pages : List (List T)) (p : ℕ) (here : p < length pages) (old first rest : List T)
    (read : old ≡ get_or pages p old)
    (first_is : first ≡ take 64 old) (rest_is : rest ≡ drop 64 old) where
  old_is : old ≡ get_or pages p []
  old_is = get_or_read pages p old here read []

  whole : first ++ rest ≡ get_or pages p []
  whole = ap (λ xs. xs ++ rest) first_is ∙ ap (λ xs. take 64 old ++ xs) rest_is ∙ take-append-drop 64 old ∙ old_is

  halved_items : items_of (take p pages ++ first ∷ rest ∷ drop (p + 1) pages) ≡ items_of pages
  halved_items =
      items_append (take p pages) (first ∷ rest ∷ drop (p + 1) pages)
      ∙ ap (λ xs. items_of (take p pages) ++ xs) (sym (append_assoc first rest (items_of (drop (p + 1) pages)))
      ∙ ap (λ xs. xs ++ items_of (drop (p + 1) pages)) whole)
      ∙ sym (items_split pages p here)

  module _ (full : length old ≡ 128) where
    first_length : length first ≡ 64
    first_length = ap length first_is ∙ length-take-le 64 old (omega (arith, full))

    rest_length : length rest ≡ 64
    rest_length = omega (arith, ap length rest_is, length-drop 64 old, full)

    halved_lengths : lengths_of (take p pages ++ first ∷ rest ∷ drop (p + 1) pages) ≡ take p (lengths_of pages) ++ 64 ∷ 64 ∷ drop
        (p + 1) (lengths_of pages)
    halved_lengths =
        map-append length (take p pages) (first ∷ rest ∷ drop (p + 1) pages)
        ∙ ap (λ ns. ns ++ length first ∷ length rest ∷ lengths_of (drop (p + 1) pages)) (sym (take-map length p pages))
        ∙ ap (λ ns. take p (lengths_of pages) ++ length first ∷ length rest ∷ ns) (sym (drop-map length (p + 1) pages))
        ∙ ap (λ n. take p (lengths_of pages) ++ n ∷ length rest ∷ drop (p + 1) (lengths_of pages)) first_length
        ∙ ap (λ n. take p (lengths_of pages) ++ 64 ∷ n ∷ drop (p + 1) (lengths_of pages)) rest_length

    halved_surplus : surplus_of (lengths_of pages)
        ≡ surplus_of (take p (lengths_of pages) ++ 64 ∷ 64 ∷ drop (p + 1) (lengths_of pages)) + 64
    halved_surplus =
        let ns = lengths_of pages in
        let f : ℕ → ℕ = λ n. n - 64 in
        let inside : p < length (lengths_of pages) = omega (arith, here, length-map pages length) in
        let was = ap (sum_by f) (one_split ns p 0 inside) in
        let is : get_or (lengths_of pages) p 0 ≡ 128 = length_is pages p ∙ ap length (sym old_is) ∙ full in
        omega (
          arith,
          was,
          is,
          sum_by-append f (take p ns) (get_or ns p 0 ∷ drop (p + 1) ns),
          sum_by-cons f (get_or ns p 0) (drop (p + 1) ns),
          sum_by-append f (take p ns) (64 ∷ 64 ∷ drop (p + 1) ns),
          sum_by-cons f 64 (64 ∷ drop (p + 1) ns),
          sum_by-cons f 64 (drop (p + 1) ns),
        )

    halved_filled : AreFilled (lengths_of pages)
        → AreFilled (take p (lengths_of pages) ++ 64 ∷ 64 ∷ drop (p + 1) (lengths_of pages))
    halved_filled filled =
        let F : ℕ → Type 0 = λ n. (0 < n) × (n ≤ 128) in
        let half : (0 < 64) × (64 ≤ 128) = (omega arith, omega arith) in
        let back = All-cons F 64 (64 ∷ drop (p + 1) (lengths_of pages)) half (All-cons F 64 (drop (p + 1) (lengths_of pages)) half
        (All-drop F (p + 1) (lengths_of pages) filled)) in
        All-append F (take p (lengths_of pages)) (64 ∷ 64 ∷ drop (p + 1) (lengths_of pages))
        (All-take F p (lengths_of pages) filled) back

    halved_count : length (take p pages ++ first ∷ rest ∷ drop (p + 1) pages) ≡ length pages + 1
    halved_count =
        omega (
          arith,
          here,
          length-append (take p pages) (first ∷ rest ∷ drop (p + 1) pages),
          length-take-le p pages (omega (arith, here)),
          length-drop (p + 1) pages,
        )

-- a free page that was taken leaves the others empty
pub left_empty : {T : Type 0} (free left : List (List T)) (page : List T) → free ≡ left ++ page ∷ [] → length (items_of free) ≡ 0
    → (length page ≡ 0) × (length (items_of left) ≡ 0) × (length free ≡ length left + 1)
left_empty free left page is empty =
    let long = ap (λ pages. length (items_of pages)) is ∙ ap length (items_append left (page ∷ []))
    ∙ length-append (items_of left) (page ++ []) in
    let more = length-append page [] in
    (omega (arith, long, more, empty), omega (arith, long, empty), omega (arith, ap length is, length-append left (page ∷ [])))

-- what contracts see of the pages after a split, and what is kept of them
module _ {T : Type 0} (pages free : List (List T)) (surplus room free_room : ℕ) (kept : AreKept pages free surplus room free_room)
    (left : List (List T)) (taken : List T) (left_is : free ≡ left ++ taken ∷ [])
    (p : ℕ) (here : p < length pages) (old first rest : List T) (read : old ≡ get_or pages p old)
    (first_is : first ≡ take 64 old) (rest_is : rest ≡ drop 64 old) (full : length old ≡ 128)
    (next : List (List T)) (next_is : next ≡ insert (set pages p first) (p + 1) rest) where
  split_is : next ≡ take p pages ++ first ∷ rest ∷ drop (p + 1) pages
  split_is = next_is ∙ put_two pages p first rest here

  pub split_kept : (next_room next_free : ℕ) → room ≤ next_room → free_room ≤ next_free
      → AreKept next left (surplus - 64) next_room next_free
  split_kept next_room next_free rises free_rises =
      let shown = ap lengths_of split_is ∙ halved_lengths pages p here old first rest read first_is rest_is full in
      let empty = left_empty free left taken left_is kept.empty in
      let count = ap length split_is ∙ halved_count pages p here old first rest read first_is rest_is full in
      record {
        filled = subst AreFilled (sym shown) (halved_filled pages p here old first rest read first_is rest_is full kept.filled);
        empty = empty.1;
        surplus_is = omega (
          arith,
          kept.surplus_is,
          halved_surplus pages p here old first rest read first_is rest_is full,
          ap
              surplus_of shown,
        );
        few = omega (arith, kept.few, count, empty.2);
        room = omega (arith, kept.room, count, empty.2, rises);
        free_room = omega (arith, kept.free_room, count, empty.2, free_rises);
      }

  pub split_items : (n : ℕ) (s : ListState T) → seen pages n ≡ s → items_of next ≡ s.items
  split_items n s view =
      subst (λ s. items_of next ≡ s.items) view (ap items_of split_is
      ∙ halved_items pages p here old first rest read first_is rest_is)

  pub split_lengths : (n : ℕ) (s : ListState T) → seen pages n ≡ s
      → lengths_of next ≡ take p s.lengths ++ 64 ∷ 64 ∷ drop (p + 1) s.lengths
  split_lengths n s view =
      subst (λ s. lengths_of next ≡ take p s.lengths ++ 64 ∷ 64 ∷ drop (p + 1) s.lengths) view
      (ap lengths_of split_is ∙ halved_lengths pages p here old first rest read first_is rest_is full)
