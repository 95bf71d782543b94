-- What contracts see of pages, where items are read and cursors move.
use Rattle.std.proofs.Common.{ℕ, zero, suc, ◌<◌, ◌≤◌, ◌≡◌, inl, inr, None, List, [], ◌∷◌, ◌++◌, length, get_or, take, drop, sym}
use Rattle.std.proofs.Common.{◌∙◌, ap, subst, arith}
use Rattle.std.specs.List.{sum, slice_get}
use Rattle.std.proofs.lemmas.Option.{slice_get_past}
use Rattle.std.proofs.lemmas.List.{length-map, get_or_read, take_all, drop_all}
use Rattle.std.proofs.lemmas.List.Elements.{All-get_or}
use Rattle.page_list.specs.declared.cursor.Cursor.{Cursor}
use Rattle.page_list.specs.Items.{ListState, length_at, IsIn, cursor_index}
use Rattle.page_list.specs.Pages.{items_of, lengths_of, AreFilled}
use Rattle.page_list.proofs.Lengths.{start_all, item_inside, page_inside}
use Rattle.page_list.proofs.Places.{items_length, length_is, item_is}

-- what contracts see of pages and of a number of free ones
abbrev pub seen : {T : Type 0} → List (List T) → ℕ → ListState T
seen pages free = record { items = items_of pages; lengths = lengths_of pages; free = free }

-- a page that a cursor stands in has its item
pub stands_inside : (ns : List ℕ) (at : Cursor) → IsIn ns at → at.page < length ns → at.item < length_at ns at.page
stands_inside ns at place before =
    elim place [ inl inside ↦ inside | inr end ↦ absurd (omega (arith, end.0, before)) ]

module _ {T : Type 0} (pages : List (List T)) (free : ℕ) where
  got_here : (at : Cursor) → IsIn (lengths_of pages) at → at.page < length pages
      → slice_get (get_or pages at.page []) at.item ≡ slice_get (items_of pages) (cursor_index (lengths_of pages) at)
  got_here at place before =
      let inside = stands_inside (lengths_of pages) at place (omega (arith, before, length-map pages length)) in
      sym (item_is pages at.page at.item before (omega (arith, inside, length_is pages at.page)))

  got_none_here : (at : Cursor) → length pages ≤ at.page → None ≡ slice_get (items_of pages) (cursor_index (lengths_of pages) at)
  got_none_here at past =
      let all = start_all (lengths_of pages) at.page (omega (arith, past, length-map pages length)) in
      sym (slice_get_past (items_of pages) (cursor_index (lengths_of pages) at) (omega (arith, all, items_length pages)))

  pub got : (s : ListState T) → seen pages free ≡ s → (at : Cursor) → IsIn s.lengths at → at.page < length pages
      → slice_get (get_or pages at.page []) at.item ≡ slice_get s.items (cursor_index s.lengths at)
  got s v =
      subst (λ s. (at : Cursor) → IsIn s.lengths at → at.page < length pages
      → slice_get (get_or pages at.page []) at.item ≡ slice_get s.items (cursor_index s.lengths at)) v got_here

  pub got_none : (s : ListState T) → seen pages free ≡ s → (at : Cursor) → length pages ≤ at.page
      → None ≡ slice_get s.items (cursor_index s.lengths at)
  got_none s v =
      subst (λ s. (at : Cursor) → length pages ≤ at.page → None ≡ slice_get s.items (cursor_index s.lengths at)) v got_none_here

  -- the page of a cursor before the end, and its item in it
  pub read_inside : (s : ListState T) → seen pages free ≡ s → (at : Cursor) → IsIn s.lengths at
      → cursor_index s.lengths at < length s.items
      → (at.page < length pages) × (at.item < length (get_or pages at.page []))
  read_inside s v =
      subst (λ s. (at : Cursor) → IsIn s.lengths at → cursor_index s.lengths at < length s.items → (at.page < length pages)
      × (at.item < length (get_or pages at.page [])))
      v
      (λ at place before.
      let inside = item_inside (lengths_of pages) at place (omega (arith, before, items_length pages)) in
      let page = page_inside (lengths_of pages) at.page (omega (arith, inside)) in
      (omega (arith, page, length-map pages length), omega (arith, inside, length_is pages at.page)))

  pub count_is : (s : ListState T) → seen pages free ≡ s → length s.items ≡ sum s.lengths
  count_is s v = subst (λ s. length s.items ≡ sum s.lengths) v (items_length pages)

-- no page is empty
pub filled_at : (ns : List ℕ) (p : ℕ) → AreFilled ns → p < length ns → (0 < length_at ns p) × (length_at ns p ≤ 128)
filled_at ns p filled inside = All-get_or (λ n. (0 < n) × (n ≤ 128)) ns p 0 inside filled

module _ {T : Type 0} (pages : List (List T)) (free : ℕ) where
  -- the same of a page that was read
  pub read_length : (s : ListState T) → seen pages free ≡ s → AreFilled (lengths_of pages) → (p : ℕ) (page : List T)
      → p < length s.lengths → page ≡ get_or pages p page
      → (length page ≡ length_at s.lengths p) × (0 < length page) × (length page ≤ 128)
  read_length s v filled =
      subst (λ s. (p : ℕ) (page : List T) → p < length s.lengths → page ≡ get_or pages p page
      → (length page ≡ length_at s.lengths p) × (0 < length page) × (length page ≤ 128)) v
      (λ p page inside read.
      let here : p < length pages = omega (arith, inside, length-map pages length) in
      let is = ap length (get_or_read pages p page here read []) in
      let some = filled_at (lengths_of pages) p filled inside in (
        omega (arith, is, length_is pages p),
        omega (arith, is, length_is pages p, some.0),
        omega
            (arith, is, length_is pages p, some.1),
      ))

  pub page_here : (s : ListState T) → seen pages free ≡ s → (p : ℕ) → p < length s.lengths → p < length pages
  page_here s v = subst (λ s. (p : ℕ) → p < length s.lengths → p < length pages) v
      (λ p inside. omega (arith, inside, length-map pages length))

pub none_is_past : {X : Type 0} (xs : List X) (i : ℕ) → slice_get xs i ≡ None → length xs ≤ i
none_is_past [] i none = omega arith
none_is_past (x ∷ xs) zero none = absurd (cc)
none_is_past (x ∷ xs) (suc i) none = omega (arith, none_is_past xs i none)

-- an item put at the end
pub pushed_here : {T : Type 0} (pages : List (List T)) (free : ℕ) (s : ListState T) → seen pages free ≡ s → (at : Cursor) (x : T)
    → IsIn s.lengths at
    → at.page ≡ length pages → s.items ++ x ∷ [] ≡ take (cursor_index s.lengths at) s.items ++ x ∷ drop
    (cursor_index s.lengths at) s.items
pushed_here pages free s view =
    subst (λ s. (at : Cursor) (x : _) → IsIn s.lengths at → at.page ≡ length pages
    → s.items ++ x ∷ [] ≡ take (cursor_index s.lengths at) s.items ++ x ∷ drop (cursor_index s.lengths at) s.items) view
    (λ at x place is.
    let past : length (items_of pages) ≤ cursor_index (lengths_of pages) at =
    omega (arith, is, items_length pages, start_all (lengths_of pages) at.page (omega (arith, is, length-map pages length))) in
    ap (λ xs. xs ++ x ∷ []) (sym (take_all (cursor_index (lengths_of pages) at) (items_of pages) past))
    ∙ ap (λ xs. take (cursor_index (lengths_of pages) at) (items_of pages) ++ x ∷ xs)
    (sym (drop_all (cursor_index (lengths_of pages) at) (items_of pages) past)))
