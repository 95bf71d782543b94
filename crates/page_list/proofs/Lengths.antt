-- Pages by their lengths alone: where a page starts, and where a cursor stands.
use Rattle.std.proofs.Common.{ℕ, ◌+◌, ◌-◌, ◌<◌, ◌≤◌, ◌≡◌, inl, inr, List, length, get_or, take, drop, sym, ◌∙◌, ap, subst, arith}
use Rattle.std.specs.List.{sum}
use Rattle.std.proofs.lemmas.Bool.{cases_lt}
use Rattle.std.proofs.lemmas.List.{take_all, take-take, get_or_past, get_or-take, drop-take}
use Rattle.std.proofs.lemmas.List.Sums.{sum_by_more, sum_by-take-le, sum_by-take-drop}
use Rattle.page_list.specs.declared.cursor.Cursor.{Cursor}
use Rattle.page_list.specs.Items.{length_at, page_start, IsIn, cursor_index}

pub start_more : (ns : List ℕ) (p : ℕ) → p < length ns → page_start ns (p + 1) ≡ page_start ns p + length_at ns p
start_more ns p inside = sum_by_more (λ n. n) ns p 0 inside

pub start_all : (ns : List ℕ) (p : ℕ) → length ns ≤ p → page_start ns p ≡ sum ns
start_all ns p past = ap sum (take_all p ns past)

pub start_rises : (ns : List ℕ) (p q : ℕ) → p ≤ q → page_start ns p ≤ page_start ns q
start_rises ns p q order =
    subst (λ xs. sum xs ≤ sum (take q ns)) (take-take p q ns order) (sum_by-take-le (λ n. n) (take q ns) p)

pub start_bound : (ns : List ℕ) (p : ℕ) → page_start ns p ≤ sum ns
start_bound ns p = sum_by-take-le (λ n. n) ns p

-- a page that has an item is one of the pages
pub page_inside : (ns : List ℕ) (p : ℕ) → 0 < length_at ns p → p < length ns
page_inside ns p some =
    elim (cases_lt p (length ns)) [
      | inl inside ↦ inside
      | inr past ↦ absurd (omega (arith, get_or_past ns p 0 past))
    ]

pub item_bound : (ns : List ℕ) (p i : ℕ) → i < length_at ns p → page_start ns p + i < page_start ns (p + 1)
item_bound ns p i inside =
    let page : p < length ns = page_inside ns p (omega arith) in
    omega (arith, start_more ns p page)

pub index_bound : (ns : List ℕ) (at : Cursor) → IsIn ns at → cursor_index ns at ≤ sum ns
index_bound ns at place =
    elim place [
      | inl inside ↦ omega (arith, item_bound ns at.page at.item inside, start_bound ns (at.page + 1))
      | inr end ↦ omega (arith, start_bound ns at.page, end.1)
    ]

-- a cursor before the end stands at an item
pub item_inside : (ns : List ℕ) (at : Cursor) → IsIn ns at → cursor_index ns at < sum ns → at.item < length_at ns at.page
item_inside ns at place before =
    elim place [
      | inl inside ↦ inside
      | inr end ↦ absurd (omega (arith, before, end.0, end.1, start_all ns at.page (omega (arith, end.0))))
    ]

pub page_bound : (ns : List ℕ) (at : Cursor) → IsIn ns at → at.page ≤ length ns
page_bound ns at place =
    elim place [
      | inl inside ↦ omega (arith, page_inside ns at.page (omega (arith, inside)))
      | inr end ↦ omega (arith, end.0)
    ]

-- of two cursors, the first stands in a page no later
pub page_order : (ns : List ℕ) (from to : Cursor) → IsIn ns from → IsIn ns to → cursor_index ns from ≤ cursor_index ns to
    → from.page ≤ to.page
page_order ns from to at place order =
    elim (cases_lt to.page from.page) [
      | inl later ↦
          elim place [
            | inl inside ↦
                absurd (omega (
                  arith,
                  order,
                  item_bound ns to.page to.item inside,
                  start_rises ns (to.page + 1) from.page
                      (omega (arith, later)),
                ))
            | inr end ↦ absurd (omega (arith, later, end.0, page_bound ns from at))
          ]
      | inr no_later ↦ no_later
    ]

-- pages of which those from one on are kept start as far from one another
pub start_between : (ns : List ℕ) (p q : ℕ) → p ≤ q → page_start ns q ≡ page_start ns p + sum (take (q - p) (drop p ns))
start_between ns p q order =
    let is : p + (q - p) ≡ q = omega (arith, order) in
    let shown = drop-take p (q - p) ns in
    let back = ap (λ k. drop p (take k ns)) is in
    omega (arith, sum_by-take-drop (λ n. n) (take q ns) p, ap sum (take-take p q ns order), ap sum (sym back ∙ shown))

pub start_same : (ns ms : List ℕ) (p q : ℕ) → p ≤ q → drop p ns ≡ drop p ms
    → page_start ns q + page_start ms p ≡ page_start ms q + page_start ns p
start_same ns ms p q order same =
    omega (arith, start_between ns p q order, start_between ms p q order, ap (λ xs. sum (take (q - p) xs)) same)

-- pages whose lengths are the same up to one
pub start_front : (ns ms : List ℕ) (p q : ℕ) → p ≤ q → take q ns ≡ take q ms → page_start ns p ≡ page_start ms p
start_front ns ms p q order same =
    ap sum (sym (take-take p q ns order)) ∙ ap (λ xs. sum (take p xs)) same ∙ ap sum (take-take p q ms order)

pub length_front : (ns ms : List ℕ) (p q : ℕ) → p < q → take q ns ≡ take q ms → length_at ns p ≡ length_at ms p
length_front ns ms p q order same =
    sym (get_or-take q ns p 0 order) ∙ ap (λ xs. get_or xs p 0) same ∙ get_or-take q ms p 0 order
