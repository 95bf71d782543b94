-- Contract: which objects a collection takes sectors from, and in which order.
use Rattle.std.specs.Prelude.{ℕ, ◌*◌, ◌≡◌, Bool, IsTrue, ◌&&◌, ◌||◌, nat_eq, nat_lt, List, filter, AllPairs, IsPermutation}
use Rattle.object_table.specs.declared.row.ObjectRow.{ObjectRow}
use Rattle.object_table.specs.Table.{is_candidate, numbers}

-- One object is taken before another: a smaller share of its payload is live; of equal shares, its number is smaller.
abbrev pub goes_before : ObjectRow → ObjectRow → Bool
goes_before row other =
    nat_lt (row.live * other.payload) (other.live * row.payload)
    || (nat_eq (row.live * other.payload) (other.live * row.payload) && nat_lt row.number other.number)

-- The victims of a table with these rows: each candidate once, and each goes before all later ones. This is a strict total order
-- of candidates with different numbers, so of rows whose numbers ascend there is just one such list.
pub record AreVictims (rows : List ObjectRow) (victims : List ℕ) : Type 0 where
  pub taken : List ObjectRow
  pub each_once : IsPermutation (filter is_candidate rows) taken
  pub in_order : AllPairs (λ (row other : ObjectRow). IsTrue (goes_before row other)) taken
  pub are : victims ≡ numbers taken
