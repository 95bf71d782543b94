-- Where pages start, by their lengths, once one of them was cut, or split in halves.
use Rattle.std.proofs.Common.{ℕ, ◌+◌, ◌-◌, ◌<◌, ◌≤◌, ◌≡◌, inl, inr, List, [], ◌∷◌, ◌++◌, length, get_or, take, drop, sym, ◌∙◌, ap}
use Rattle.std.proofs.Common.{arith, length-append, length-take-le, refl, take_at}
use Rattle.std.proofs.Math.ListN.{set, length-set}
use Rattle.std.specs.List.{sum}
use Rattle.std.proofs.lemmas.Bool.{cases_lt}
use Rattle.std.proofs.lemmas.List.{take-set, get_or-set_same, get_or_at, get_or-append_right, get_or_default, get_or_past}
use Rattle.std.proofs.lemmas.List.Sums.{get_or-le-sum_by}
use Rattle.page_list.specs.declared.cursor.Cursor.{Cursor}
use Rattle.page_list.specs.Items.{ListState, length_at, page_start, IsIn, cursor_index, insert_room}
use Rattle.page_list.proofs.Lengths.{start_more, start_all, page_inside}
use Rattle.page_list.proofs.Seen.{stands_inside}
use Rattle.page_list.proofs.Rooms.{lack_full, split_start}

-- where the page after one starts, once that has another length
pub next_start_with : (ns : List ℕ) (p m : ℕ) → p < length ns → page_start (set ns p m) (p + 1) ≡ page_start ns p + m
next_start_with ns p m inside =
    omega (
      arith,
      start_more (set ns p m) p (omega (arith, inside, length-set ns p m)),
      ap sum (take-set ns p m),
      get_or-set_same ns p m 0 inside,
    )

-- a cursor that is not at the start of a page stands at an item
pub stands_at : (ns : List ℕ) (at : Cursor) → IsIn ns at → (at.item ≡ 0 → ⊥) → at.item < length_at ns at.page
stands_at ns at place some = elim place [ inl inside ↦ inside | inr end ↦ absurd (some end.1) ]

-- the place of an item that is put in a page, and not in a new one, is before the end
pub place_inside : (ns : List ℕ) (at : Cursor) → IsIn ns at → (at.page ≡ length ns → get_or ns (length ns - 1) 128 ≡ 128 → ⊥)
    → (at.item ≡ 0 → 0 < at.page → length_at ns (at.page - 1) ≡ 128) → at.page < length ns
place_inside ns at place not_full full =
    elim place [
      | inl inside ↦ page_inside ns at.page (omega (arith, inside))
      | inr end ↦ absurd (not_full end.0 (elim (cases_lt 0 (length ns)) [
        | inl some ↦
            get_or_default ns (length ns - 1) 128 0 (omega (arith, some)) ∙ ap (λ p. length_at ns (p - 1)) (sym end.0)
            ∙ full end.1 (omega (arith, some, end.0))
        | inr none ↦ get_or_past ns (length ns - 1) 128 (omega (arith, none))
      ]))
    ]

-- where a page is full, the room is that of a free page
pub free_for_full : {T : Type 0} (list : ListState T) (p : ℕ) → 1 ≤ insert_room list → p < length list.lengths
    → length_at list.lengths p ≡ 128 → 1 ≤ list.free
free_for_full list p room inside full = omega (arith, room, full, get_or-le-sum_by (λ n. n - 64) list.lengths p 0 inside)

-- one page of 64 items, and another after it, in place of a full one
pub record AreHalves (ns halves : List ℕ) (p : ℕ) : Type 0 where
  pub inside : p + 1 < length halves
  pub first : length_at halves p ≡ 64
  pub second : length_at halves (p + 1) ≡ 64
  pub start : page_start halves p ≡ page_start ns p
  pub next_start : page_start halves (p + 1) ≡ page_start ns p + 64

pub are_halves : (ns halves : List ℕ) (p : ℕ) → p < length ns → halves ≡ take p ns ++ 64 ∷ 64 ∷ drop (p + 1) ns
    → AreHalves ns halves p
are_halves ns halves p inside is =
    let long = length-take-le p ns (omega (arith, inside)) in
    let one : p + 1 - length (take p ns) ≡ 1 = omega (arith, long) in
    record {
      inside = omega (arith, ap length is, long, length-append (take p ns) (64 ∷ 64 ∷ drop (p + 1) ns));
      first = ap (λ ms. length_at ms p) is ∙ get_or_at (take p ns) 64 (64 ∷ drop (p + 1) ns) 0 p long;
      second =
          ap (λ ms. length_at ms (p + 1)) is
          ∙ get_or-append_right (take p ns) (64 ∷ 64 ∷ drop (p + 1) ns) (length (take p ns)) (p + 1) 0 refl (omega (arith, long))
          ∙ ap (λ i. get_or (64 ∷ 64 ∷ drop (p + 1) ns) i 0) one;
      start = ap (λ ms. page_start ms p) is ∙ ap sum (take_at (take p ns) (64 ∷ 64 ∷ drop (p + 1) ns) p long);
      next_start = ap (λ ms. page_start ms (p + 1)) is ∙ split_start ns p inside;
    }

-- a place in a page of which only the number of items changes, where it stands at one of them after the change
pub place_kept : (ns next : List ℕ) (at : Cursor) (m : ℕ) → at.page < length ns → at.item < m → next ≡ set ns at.page m
    → IsIn next at × (cursor_index next at ≡ cursor_index ns at)
place_kept ns next at m inside some is = (
  inl (omega (arith, some, ap (λ ms. length_at ms at.page) is, get_or-set_same ns at.page m 0 inside)),
  ap (λ ms. cursor_index ms at) is
      ∙ ap (λ ms. sum ms + at.item) (take-set ns at.page m),
)

-- the end
pub end_is : (ns : List ℕ) (at : Cursor) → IsIn ns at → at.page ≡ length ns → (at.item ≡ 0) × (cursor_index ns at ≡ sum ns)
end_is ns at place last =
    let none : at.item ≡ 0 = elim place [
      | inl inside ↦ absurd (omega (arith, last, page_inside ns at.page (omega (arith, inside))))
      | inr end ↦ end.1
    ] in
    (none, omega (arith, none, start_all ns at.page (omega (arith, last))))

-- the place at the end, before an item in a page of its own
pub place_pushed : (ns next : List ℕ) (at : Cursor) → IsIn ns at → at.page ≡ length ns → next ≡ ns ++ 1 ∷ []
    → IsIn next at × (cursor_index next at ≡ cursor_index ns at)
place_pushed ns next at place last is =
    let end = end_is ns at place last in
    let one = ap (λ ms. length_at ms at.page) is ∙ get_or_at ns 1 [] 0 at.page (sym last) in (
      inl (omega (arith, end.0, one)),
      omega (arith, end.0, end.1, ap (λ ms. page_start ms at.page) is, ap sum (take_at ns (1 ∷ []) at.page (sym last))),
    )

-- where the last page has no place for an item, the room is that of a free page
pub free_for_new : {T : Type 0} (list : ListState T) → 1 ≤ insert_room list
    → get_or list.lengths (length list.lengths - 1) 128 ≡ 128 → 1 ≤ list.free
free_for_new list room full = omega (arith, room, lack_full list.lengths full)

-- two places in one page, where that is before the end
pub both_inside : (ns : List ℕ) (from to : Cursor) → IsIn ns to → cursor_index ns from ≤ cursor_index ns to
    → from.page < length ns → from.page ≡ to.page
    → (to.item < length_at ns from.page) × (from.item ≤ to.item)
both_inside ns from to place order inside same =
    let stands = stands_inside ns to place (omega (arith, inside, same)) in
    (omega (arith, stands, ap (length_at ns) same), omega (arith, order, ap (page_start ns) same))
