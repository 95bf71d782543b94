-- What stays of a list in pages where the memory for it grows, and what an empty page more makes of it.
use Rattle.std.proofs.Common.{ℕ, ◌+◌, ◌*◌, ◌^◌, ◌<◌, ◌≤◌, ◌≡◌, List, [], ◌∷◌, ◌++◌, length, get_or, take, sym, ◌∙◌, ap, arith}
use Rattle.std.proofs.Common.{subst, length-append, append-nil}
use Rattle.std.proofs.lemmas.List.{length-map, take_more}
use Rattle.std.proofs.lemmas.List.Sums.{sum_by-le}
use Rattle.page_list.specs.Items.{ListState, surplus_of}
use Rattle.page_list.specs.Pages.{items_of, lengths_of, AreFilled, AreKept}
use Rattle.page_list.proofs.Lengths.{start_bound}
use Rattle.page_list.proofs.Places.{items_append, start_is}
use Rattle.page_list.proofs.Seen.{seen}

module _ {T : Type 0} (pages : List (List T)) (free : ℕ) (s : ListState T) (view : seen pages free ≡ s) where
  pub seen_items : items_of pages ≡ s.items
  seen_items = ap (λ (s : ListState T). s.items) view

  pub seen_lengths : lengths_of pages ≡ s.lengths
  seen_lengths = ap (λ (s : ListState T). s.lengths) view

  pub seen_count : length s.lengths ≡ length pages
  seen_count = sym (ap length seen_lengths) ∙ length-map pages length

  pub seen_free : free ≡ s.free
  seen_free = ap (λ (s : ListState T). s.free) view

-- the same pages, with free ones that are as empty
pub kept_more : {T : Type 0} (pages free next left : List (List T)) (surplus room free_room next_room next_free : ℕ)
    → AreKept pages free surplus room free_room → next ≡ pages → length (items_of left) ≡ length (items_of free)
    → length next + length left ≤ 2 ^ 47 → length next + length left ≤ next_room → length next + length left ≤ next_free
    → AreKept next left surplus next_room next_free
kept_more pages free next left surplus room free_room next_room next_free kept is empty few rooms free_rooms = record {
  filled = subst (λ ps. AreFilled (lengths_of ps)) (sym is) kept.filled;
  empty = empty ∙ kept.empty;
  surplus_is = kept.surplus_is ∙ ap (λ ps. surplus_of (lengths_of ps)) (sym is);
  few = few;
  room = rooms;
  free_room = free_rooms;
}

-- the same pages and free ones, with no less memory
pub kept_room : {T : Type 0} (pages free next left : List (List T)) (surplus room free_room next_room next_free : ℕ)
    → AreKept pages free surplus room free_room → next ≡ pages → left ≡ free → room ≤ next_room → free_room ≤ next_free
    → AreKept next left surplus next_room next_free
kept_room pages free next left surplus room free_room next_room next_free kept is free_is rises free_rises =
    let count = ap length is in
    let free_count = ap length free_is in
    kept_more pages free next left surplus room free_room next_room next_free kept is (ap (λ ps. length (items_of ps)) free_is)
    (omega (arith, kept.few, count, free_count)) (omega (arith, kept.room, count, free_count, rises))
    (omega (arith, kept.free_room, count, free_count, free_rises))

-- an empty page put to others
pub one_empty_more : {T : Type 0} (pages next : List (List T)) (page : List T) → next ≡ pages ++ page ∷ [] → page ≡ []
    → (length next ≡ length pages + 1) × (length (items_of next) ≡ length (items_of pages))
one_empty_more pages next page is empty =
    let long = length-append page [] in
    let items = ap (λ ps. length (items_of ps)) is ∙ ap length (items_append pages (page ∷ []))
    ∙ length-append (items_of pages) (page ++ []) in
    (omega (arith, ap length is, length-append pages (page ∷ [])), omega (arith, items, long, ap length empty))

-- the items of pages up to one, and of that
pub items_more : {T : Type 0} (pages : List (List T)) (i : ℕ) (page : List T) → i < length pages → page ≡ get_or pages i page
    → items_of (take (i + 1) pages) ≡ items_of (take i pages) ++ page
items_more pages i page inside read =
    ap items_of (take_more pages i page inside)
    ∙ items_append (take i pages) (get_or pages i page ∷ [])
    ∙ ap (λ xs. items_of (take i pages) ++ xs) (append-nil (get_or pages i page) ∙ sym read)

-- how many items they have
pub count_more : {T : Type 0} (pages : List (List T)) (i : ℕ) (page : List T) → i < length pages → page ≡ get_or pages i page
    → length (items_of (take (i + 1) pages)) ≡ length (items_of (take i pages)) + length page
count_more pages i page inside read =
    ap length (items_more pages i page inside read) ∙ length-append (items_of (take i pages)) page

-- pages up to one have no more items than all, which have 128 each at most
pub count_bound : {T : Type 0} (pages : List (List T)) (i : ℕ) → AreFilled (lengths_of pages)
    → length (items_of (take i pages)) ≤ 128 * length pages
count_bound pages i filled =
    let ns = lengths_of pages in
    let most = sum_by-le (λ (n : ℕ). n) 128 ns (λ k d inside. (filled k d inside).1) in
    omega (arith, start_is pages i, start_bound ns i, most, length-map pages length)
