-- Contract: what contracts see of a list in pages, and where its cursors stand.
use Rattle.std.specs.Prelude.{ℕ, ◌+◌, ◌-◌, ◌*◌, ◌<◌, ◌≡◌, ◌⊎◌, max, List, length, take, slice_index_or, refl}
use Rattle.std.specs.List.{sum, sum_by}
use Rattle.std.specs.Coded.{Coded, code_by, coded×, coded_list, coded_ℕ}
use Rattle.page_list.specs.declared.cursor.Cursor.{Cursor}

-- a list in pages
pub record ListState (T : Type 0) : Type 0 where
  -- its items, in order
  pub items : List T
  -- how many items each page has
  pub lengths : List ℕ
  -- how many empty pages are kept for later
  pub free : ℕ

module _ {T : Type 0} where
  abbrev pub list_state : List T × (List ℕ × ℕ) → ListState T
  list_state x = record { items = x.0; lengths = x.1.0; free = x.1.1 }

  -- a list is stored as the tuple of its parts
  abbrev pub list_state_code : Coded T → Coded (ListState T)
  list_state_code c =
      code_by (List T × (List ℕ × ℕ)) (coded× (coded_list c) (coded× (coded_list coded_ℕ) coded_ℕ))
      (λ s. (s.items, (s.lengths, s.free))) list_state
      (λ _. refl)

-- how many items a page has, by its index among pages of these lengths; none past the last
abbrev pub length_at : List ℕ → ℕ → ℕ
length_at lengths page = slice_index_or lengths page 0

-- how many items are before a page
abbrev pub page_start : List ℕ → ℕ → ℕ
page_start lengths page = sum (take page lengths)

-- a cursor stands at an item of pages of these lengths, or at their end
abbrev pub IsIn : List ℕ → Cursor → Type 0
IsIn lengths at = (at.item < length_at lengths at.page) ⊎ ((at.page ≡ length lengths) × (at.item ≡ 0))

-- how many items are before a cursor
abbrev pub cursor_index : List ℕ → Cursor → ℕ
cursor_index lengths at = page_start lengths at.page + at.item

-- what pages of these lengths have above half a page each
abbrev pub surplus_of : List ℕ → ℕ
surplus_of lengths = sum_by (λ n. n - 64) lengths

-- what the last page lacks to half a page; nothing where there is no page
abbrev pub lack_of : List ℕ → ℕ
lack_of lengths = 64 - slice_index_or lengths (length lengths - 1) 64

module _ {T : Type 0} where
  -- for how many inserts the free pages are enough, by the items that they take: a page is split into halves of 64 items,
  -- so each free page takes 64, less what pages have above 64 already. A page that is begun at the end has one item, so
  -- what the last page lacks to 64 is added
  abbrev pub halves_of : ListState T → ℕ
  halves_of list = 64 * list.free + lack_of list.lengths - surplus_of list.lengths

  -- for how many inserts there is room, wherever they go: the greater of this bound and of the number of free pages, of
  -- which an insert takes one at most
  abbrev pub insert_room : ListState T → ℕ
  insert_room list = max list.free (halves_of list)
