-- For this crate's own clauses: the pages of a list.
use Rattle.std.specs.Prelude.{ℕ, ◌+◌, ◌<◌, ◌≤◌, ◌≡◌, ◌^◌, Bool, false, List, [], ◌∷◌, length, map}
use Rattle.std.specs.List.{flat_map, All}
use Rattle.page_list.specs.Items.{surplus_of}

module _ {T : Type 0} where
  -- the items of pages, in order
  abbrev pub items_of : List (List T) → List T
  items_of pages = flat_map (λ page. page) pages

  -- how many items each page has
  abbrev pub lengths_of : List (List T) → List ℕ
  lengths_of pages = map length pages

-- no page is empty, and none is past its memory
abbrev pub AreFilled : List ℕ → Type 0
AreFilled lengths = All (λ n. (0 < n) × (n ≤ 128)) lengths

-- what holds of the pages of a list, of its free pages, of their surplus and of the memory for their lists
pub record AreKept {T : Type 0} (pages free : List (List T)) (surplus capacity free_capacity : ℕ) : Type 0 where
  pub filled : AreFilled (lengths_of pages)
  pub empty : length (items_of free) ≡ 0
  pub surplus_is : surplus ≡ surplus_of (lengths_of pages)
  pub few : length pages + length free ≤ 2 ^ 47
  pub room : length pages + length free ≤ capacity
  pub free_room : length pages + length free ≤ free_capacity

-- a page begins with an item that passes a test
abbrev pub passes_at_start : {T : Type 0} → (T → Bool) → List T → Bool
passes_at_start test [] = false
passes_at_start test (item ∷ page) = test item
