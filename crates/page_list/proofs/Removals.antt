-- Items taken out in three steps: the last of them, the first, and those between.
use Rattle.std.proofs.Common.{ℕ, ◌+◌, ◌-◌, ◌<◌, ◌≤◌, ◌≡◌, List, ◌++◌, length, take, drop, sym, ◌∙◌, ap, arith, length-take-le}
use Rattle.std.proofs.Common.{length-drop}
use Rattle.std.specs.List.{sum}
use Rattle.page_list.specs.declared.cursor.Cursor.{Cursor}
use Rattle.page_list.specs.Items.{length_at, page_start, IsIn, cursor_index}
use Rattle.page_list.proofs.Lengths.{start_front, start_rises, start_same, page_order, page_bound}
use Rattle.page_list.proofs.Seen.{stands_inside}
use Rattle.std.proofs.lemmas.List.{take-append-le, drop-append-le, take-take, take_at, drop_at, drop-drop}

module _ {T : Type 0} (xs : List T) (a m c b : ℕ) (first : a ≤ m) (mid : m ≤ c) (last : c ≤ b) (inside : b ≤ length xs) where
  front_length : length (take a xs) ≡ a
  front_length = length-take-le a xs (omega (arith, first, mid, last, inside))

  kept_length : length (take c xs) ≡ c
  kept_length = length-take-le c xs (omega (arith, last, inside))

  mid_length : length (drop m (take c xs)) ≡ c - m
  mid_length = omega (arith, length-drop m (take c xs), kept_length)

  front_once : take a (take c xs ++ drop b xs) ≡ take a xs
  front_once = take-append-le a (take c xs) (drop b xs) (omega (arith, first, mid, kept_length))
      ∙ take-take a c xs (omega (arith, first, mid))

  back_once : drop m (take c xs ++ drop b xs) ≡ drop m (take c xs) ++ drop b xs
  back_once = drop-append-le m (take c xs) (drop b xs) (omega (arith, mid, kept_length))

  -- after two steps
  twice : (ys : List T) → ys ≡ take a (take c xs ++ drop b xs) ++ drop m (take c xs ++ drop b xs)
      → ys ≡ take a xs ++ (drop m (take c xs) ++ drop b xs)
  twice ys is = is ∙ ap (λ zs. zs ++ drop m (take c xs ++ drop b xs)) front_once ∙ ap (λ zs. take a xs ++ zs) back_once

  thrice : (ys : List T) → ys ≡ take a xs ++ (drop m (take c xs) ++ drop b xs)
      → take a ys ++ drop (a + (c - m)) ys ≡ take a xs ++ drop b xs
  thrice ys is =
      ap (λ zs. take a zs ++ drop (a + (c - m)) zs) is
      ∙ ap (λ zs. zs ++ drop (a + (c - m)) (take a xs ++ (drop m (take c xs) ++ drop b xs)))
      (take_at (take a xs) (drop m (take c xs) ++ drop b xs) a front_length)
      ∙ ap (λ zs. take a xs ++ zs)
      (sym (drop-drop (c - m) a (take a xs ++ (drop m (take c xs) ++ drop b xs)))
      ∙ ap (drop (c - m)) (drop_at (take a xs) (drop m (take c xs) ++ drop b xs) a front_length)
      ∙ drop_at (drop m (take c xs)) (drop b xs) (c - m) mid_length)

  pub taken_thrice : (ys zs ws : List T) → ys ≡ take c xs ++ drop b xs → zs ≡ take a ys ++ drop m ys → (k : ℕ) → k ≡ a + (c - m)
      → ws ≡ take a zs ++ drop k zs → ws ≡ take a xs ++ drop b xs
  taken_thrice ys zs ws one two k at three =
      let second : zs ≡ take a (take c xs ++ drop b xs) ++ drop m (take c xs ++ drop b xs) = two
      ∙ ap (λ vs. take a vs ++ drop m vs) one in
      three ∙ ap (λ n. take a zs ++ drop n zs) at ∙ thrice zs (twice zs second)

-- the pages before, after the last page was cut in front, and after the first was cut behind
module _ (was one two : List ℕ) (from to : Cursor) (first : ℕ) (front : take to.page one ≡ take to.page was)
    (start : page_start two first ≡ cursor_index one from) (rest : drop first two ≡ drop first one)
    (order : cursor_index one from ≤ page_start one first) (bound : first ≤ to.page) (page : from.page < to.page) where
  pub from_same : cursor_index one from ≡ cursor_index was from
  from_same = omega (arith, start_front one was from.page to.page (omega (arith, page)) front)

  pub to_same : page_start one to.page ≡ page_start was to.page
  to_same = start_front one was to.page to.page (omega arith) front

  pub mid_order : page_start one first ≤ page_start was to.page
  mid_order = omega (arith, start_rises one first to.page bound, to_same)

  pub last_at : page_start two to.page ≡ cursor_index was from + (page_start was to.page - page_start one first)
  last_at = omega (arith, start_same two one first to.page bound rest, start, from_same, to_same, mid_order)

  pub removed : {T : Type 0} (xs ys zs ws : List T) → cursor_index was to ≤ length xs
      → ys ≡ take (page_start was to.page) xs ++ drop (cursor_index was to) xs
      → zs ≡ take (cursor_index one from) ys ++ drop (page_start one first) ys
      → ws ≡ take (page_start two first) zs ++ drop (page_start two to.page) zs
      → ws ≡ take (cursor_index was from) xs ++ drop (cursor_index was to) xs
  removed xs ys zs ws inside cut_front cut_back taken =
      taken_thrice xs (cursor_index was from) (page_start one first) (page_start was to.page) (cursor_index was to)
      (omega (arith, order, from_same)) mid_order (omega arith) inside ys zs ws cut_front
      (cut_back ∙ ap (λ n. take n ys ++ drop (page_start one first) ys) from_same) (page_start two to.page) last_at
      (taken ∙ ap (λ n. take n zs ++ drop (page_start two to.page) zs) (start ∙ from_same))

-- a cursor in a page that is no later than another, and not the same
pub stands_before : (ns : List ℕ) (from to : Cursor) → IsIn ns from → IsIn ns to → cursor_index ns from ≤ cursor_index ns to
    → (from.page ≡ to.page → ⊥)
    → (from.page < to.page) × (from.item < length_at ns from.page)
stands_before ns from to at place order other =
    let pages = page_order ns from to at place order in
    let page : from.page < to.page = omega (arith, pages, other) in
    (page, stands_inside ns from at (omega (arith, page, page_bound ns to place)))

-- where the first of the later pages starts, once those between are gone
pub front_start : (ns : List ℕ) (first last : ℕ) → first ≤ length ns → page_start (take first ns ++ drop last ns) first
    ≡ page_start ns first
front_start ns first last inside =
    ap sum (take_at (take first ns) (drop last ns) first (length-take-le first ns inside))
