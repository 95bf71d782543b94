-- What contracts see of pages of which one was changed, and what is kept of them.
use Rattle.std.proofs.Common.{ℕ, ◌+◌, ◌-◌, ◌*◌, ◌^◌, ◌<◌, ◌≤◌, ◌≡◌, List, [], ◌∷◌, ◌++◌, length, get_or, take, drop, sym, ◌∙◌, ap}
use Rattle.std.proofs.Common.{subst, arith, refl, append_assoc, length-append, length-take-le, length-drop}
use Rattle.std.proofs.Math.ListN.{set, length-set}
use Rattle.std.proofs.lemmas.List.{length-map, map-set, get_or_read, get_or-set_same}
use Rattle.std.proofs.lemmas.List.Elements.{All-set, All-weaker}
use Rattle.std.proofs.lemmas.List.Sums.{sum_by-set, sum_by-le, get_or-le-sum_by}
use Rattle.page_list.specs.Items.{ListState, length_at, page_start, surplus_of}
use Rattle.page_list.specs.Pages.{items_of, lengths_of, AreFilled, AreKept}
use Rattle.page_list.proofs.Places.{length_is, front_is, back_is, items_with, item_replaced}
use Rattle.page_list.proofs.Seen.{seen, filled_at}

pub surplus_bound : (ns : List ℕ) → AreFilled ns → surplus_of ns ≤ length ns * 64
surplus_bound ns filled =
    sum_by-le (λ n. n - 64) 64 ns (All-weaker (λ n. (0 < n) × (n ≤ 128)) (λ n. n - 64 ≤ 64)
    (λ n held. omega (arith, held.1)) ns filled)

module _ {T : Type 0} (pages free : List (List T)) (surplus room free_room : ℕ)
    (kept : AreKept pages free surplus room free_room) where
  pub surplus_small : surplus ≤ 64 * 2 ^ 47
  surplus_small = omega (arith, kept.surplus_is, kept.few, surplus_bound (lengths_of pages) kept.filled, length-map pages length)

  module _ (p : ℕ) (here : p < length pages) (old page : List T) (read : old ≡ get_or pages p old) where
    old_is : old ≡ get_or pages p []
    old_is = get_or_read pages p old here read []

    old_length : length_at (lengths_of pages) p ≡ length old
    old_length = length_is pages p ∙ ap length (sym old_is)

    pub part_of_surplus : length old - 64 ≤ surplus
    part_of_surplus =
        omega (
          arith,
          kept.surplus_is,
          old_length,
          get_or-le-sum_by (λ n. n - 64) (lengths_of pages) p 0
              (omega (arith, here, length-map pages length)),
        )

    -- what is read of the page that was put
    pub is_put : (again : List T) → again ≡ get_or (set pages p page) p again → again ≡ page
    is_put again at = at ∙ get_or-set_same pages p page again here

    pub lengths_with : lengths_of (set pages p page) ≡ set (lengths_of pages) p (length page)
    lengths_with = map-set length pages p page

    pub kept_with : 0 < length page → length page ≤ 128 → (next : ℕ) → next ≡ surplus - (length old - 64) + (length page - 64)
        → AreKept (set pages p page) free next room free_room
    kept_with some bound next is =
        let inside : p < length (lengths_of pages) = omega (arith, here, length-map pages length) in
        let sums = sum_by-set (λ n. n - 64) (lengths_of pages) p (length page) 0 inside in
        record {
          filled = subst AreFilled (sym lengths_with) (All-set (λ n. (0 < n) × (n ≤ 128)) (lengths_of pages) p (length page)
              (some, bound) kept.filled);
          empty = kept.empty;
          surplus_is = omega (arith, is, kept.surplus_is, sums, old_length, ap surplus_of lengths_with, part_of_surplus);
          few = omega (arith, kept.few, length-set pages p page);
          room = omega (arith, kept.room, length-set pages p page);
          free_room = omega (arith, kept.free_room, length-set pages p page);
        }

    pub kept_same : length page ≡ length old → AreKept (set pages p page) free surplus room free_room
    kept_same same =
        let filled = filled_at (lengths_of pages) p kept.filled (omega (arith, here, length-map pages length)) in
        kept_with (omega (arith, same, old_length, filled.0)) (omega (arith, same, old_length, filled.1)) surplus
        (omega (arith, same, part_of_surplus))

module _ {T : Type 0} where
  regroup : (a b : List T) (x : T) (c d : List T) → a ++ ((b ++ x ∷ c) ++ d) ≡ (a ++ b) ++ x ∷ (c ++ d)
  regroup a b x c d = simp append_assoc refl

  regroup_two : (a b c d : List T) → a ++ ((b ++ c) ++ d) ≡ (a ++ b) ++ (c ++ d)
  regroup_two a b c d = simp append_assoc refl

module _ {T : Type 0} (pages : List (List T)) (p : ℕ) (here : p < length pages) where
  put_here : (i : ℕ) (x : T) → i ≤ length (get_or pages p [])
      → items_of (set pages p (take i (get_or pages p []) ++ x ∷ drop i (get_or pages p [])))
      ≡ take (page_start (lengths_of pages) p + i) (items_of pages) ++ x ∷ drop (page_start (lengths_of pages) p + i)
      (items_of pages)
  put_here i x inside =
      let page = get_or pages p [] in
      items_with pages p i (take i page ++ x ∷ drop i page) here
      ∙ regroup (items_of (take p pages)) (take i page) x (drop i page) (items_of (drop (p + 1) pages))
      ∙ ap (λ xs. xs ++ x ∷ (drop i page ++ items_of (drop (p + 1) pages))) (sym (front_is pages p i here inside))
      ∙ ap (λ xs. take (page_start (lengths_of pages) p + i) (items_of pages) ++ x ∷ xs) (sym (back_is pages p i here inside))

  trim_here : (i j : ℕ) → i ≤ j → j ≤ length (get_or pages p [])
      → items_of (set pages p (take i (get_or pages p []) ++ drop j (get_or pages p [])))
      ≡ take (page_start (lengths_of pages) p + i) (items_of pages) ++ drop (page_start (lengths_of pages) p + j) (items_of pages)
  trim_here i j order inside =
      let page = get_or pages p [] in
      items_with pages p i (take i page ++ drop j page) here
      ∙ regroup_two (items_of (take p pages)) (take i page) (drop j page) (items_of (drop (p + 1) pages))
      ∙ ap (λ xs. xs ++ (drop j page ++ items_of (drop (p + 1) pages)))
      (sym (front_is pages p i here (omega (arith, order, inside))))
      ∙ ap (λ xs. take (page_start (lengths_of pages) p + i) (items_of pages) ++ xs) (sym (back_is pages p j here inside))

-- what contracts see of pages, one of which was read and another put in its place
module _ {T : Type 0} (pages : List (List T)) (free : ℕ) (s : ListState T) (view : seen pages free ≡ s) (p : ℕ)
    (here : p < length pages)
    (old page : List T) (read : old ≡ get_or pages p old) where
  is_read : old ≡ get_or pages p []
  is_read = get_or_read pages p old here read []

  pub put_seen : (i : ℕ) (x : T) → i ≤ length old → page ≡ take i old ++ x ∷ drop i old
      → items_of (set pages p page) ≡ take (page_start s.lengths p + i) s.items ++ x ∷ drop (page_start s.lengths p + i) s.items
  put_seen i x inside is =
      subst (λ s. items_of (set pages p page) ≡ take (page_start s.lengths p + i) s.items ++ x ∷ drop (page_start s.lengths p + i)
      s.items) view
      (ap (λ xs. items_of (set pages p xs)) (is ∙ ap (λ xs. take i xs ++ x ∷ drop i xs) is_read)
      ∙ put_here pages p here i x (omega (arith, inside, ap length is_read)))

  pub trim_seen : (i j : ℕ) → i ≤ j → j ≤ length old → page ≡ take i old ++ drop j old
      → items_of (set pages p page) ≡ take (page_start s.lengths p + i) s.items ++ drop (page_start s.lengths p + j) s.items
  trim_seen i j order inside is =
      subst (λ s. items_of (set pages p page) ≡ take (page_start s.lengths p + i) s.items ++ drop (page_start s.lengths p + j)
      s.items) view
      (ap (λ xs. items_of (set pages p xs)) (is ∙ ap (λ xs. take i xs ++ drop j xs) is_read)
      ∙ trim_here pages p here i j order (omega (arith, inside, ap length is_read)))

  pub replaced_seen : (i : ℕ) (x : T) → i < length old → page ≡ set old i x
      → items_of (set pages p page) ≡ set s.items (page_start s.lengths p + i) x
  replaced_seen i x inside is =
      subst (λ s. items_of (set pages p page) ≡ set s.items (page_start s.lengths p + i) x) view
      (ap (λ xs. items_of (set pages p xs)) (is ∙ ap (λ xs. set xs i x) is_read)
      ∙ item_replaced pages p i x here (omega (arith, inside, ap length is_read)))

  pub length_seen : length_at s.lengths p ≡ length old
  length_seen = subst (λ s. length_at s.lengths p ≡ length old) view (length_is pages p ∙ ap length (sym is_read))

  pub lengths_seen : (n : ℕ) → length page ≡ n → lengths_of (set pages p page) ≡ set s.lengths p n
  lengths_seen n is =
      subst (λ s. lengths_of (set pages p page) ≡ set s.lengths p n) view (map-set length pages p page
      ∙ ap (set (lengths_of pages) p) is)

module _ {T : Type 0} (old page : List T) (i : ℕ) where
  pub put_length : (x : T) → i ≤ length old → page ≡ take i old ++ x ∷ drop i old → length page ≡ length old + 1
  put_length x inside is =
      omega (arith, ap length is, length-append (take i old) (x ∷ drop i old), length-take-le i old inside, length-drop i old)

  pub trim_length : (j : ℕ) → i ≤ j → j ≤ length old → page ≡ take i old ++ drop j old → length page ≡ length old - (j - i)
  trim_length j order inside is =
      let front : i ≤ length old = omega (arith, order, inside) in
      omega (arith, ap length is, length-append (take i old) (drop j old), length-take-le i old front, length-drop j old)
