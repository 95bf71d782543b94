-- Contract: how levels and uuids belong together.
use Rattle.std.specs.Prelude.{ℕ, ◌≡◌, ◌≤◌, ◌↔◌, List, length}
use Rattle.clone_chain.specs.declared.ancestor.Ancestor.{Ancestor}
use Rattle.clone_chain.specs.Chain.{IsLevelOf, IsChain}

-- a uuid is at one level of a chain at most
abbrev pub HasOneLevel : Type 0
HasOneLevel =
    (chain : List Ancestor) (uuid : List ℕ) (m n : ℕ) → IsChain chain → IsLevelOf chain uuid m → IsLevelOf chain uuid n → m ≡ n

-- a level has one uuid at most
abbrev pub HasOneUuid : Type 0
HasOneUuid =
    (chain : List Ancestor) (uuid other : List ℕ) (level : ℕ) → IsLevelOf chain uuid level → IsLevelOf chain other level
    → uuid ≡ other

-- the levels that have a uuid are those from 1 up to the number of ancestors
abbrev pub IsAmongLevels : Type 0
IsAmongLevels =
    (chain : List Ancestor) (level : ℕ) → ((uuid : List ℕ) × IsLevelOf chain uuid level) ↔ ((1 ≤ level) × (level ≤ length chain))
