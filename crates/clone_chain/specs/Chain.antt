-- Contract: the ancestors of a volume, and at which level each of them is.
use Rattle.std.specs.Prelude.{ℕ, zero, suc, ◌≡◌, ◌<◌, ◌≤◌, Option, None, List, length, slice_get, IsSomeAnd, AllPairs}
use Rattle.clone_chain.specs.declared.ancestor.Ancestor.{Ancestor}
use Rattle.clone_chain.specs.declared.chain.ExtendError.{ExtendError}
use Rattle.clone_chain.specs.declared.chain.ExtendError.TheVariants.{TooDeep, OutOfMemory}

-- the ancestor at a level: the nearest is at level 1, and level 0 is the volume itself
abbrev pub ancestor_at : List Ancestor → ℕ → Option Ancestor
ancestor_at chain zero = None
ancestor_at chain (suc place) = slice_get chain place

-- the ancestor at the level has this uuid
abbrev pub IsLevelOf : List Ancestor → (uuid : List ℕ) → (level : ℕ) → Type 0
IsLevelOf chain uuid level = IsSomeAnd (ancestor_at chain level) (λ ancestor. ancestor.uuid ≡ uuid)

-- no ancestor has this uuid
abbrev pub IsNoAncestor : List Ancestor → List ℕ → Type 0
IsNoAncestor chain uuid = (level : ℕ) → IsLevelOf chain uuid level → ⊥

-- no two have one uuid
abbrev pub AreApart : List Ancestor → Type 0
AreApart chain = AllPairs (λ nearer further. nearer.uuid ≡ further.uuid → ⊥) chain

-- what holds of each chain: with the volume itself it has at most 16 levels, and no volume is at two of them
pub record IsChain (chain : List Ancestor) : Type 0 where
  pub few : length chain ≤ 15
  pub apart : AreApart chain

-- what an error of an extension says of the chain: it has 16 levels with the volume's own, or there was no memory
abbrev pub IsReasonNotToExtend : List Ancestor → ExtendError → Type 0
IsReasonNotToExtend chain (TooDeep levels) = (levels ≡ 16) × (length chain ≡ 15)
IsReasonNotToExtend chain OutOfMemory = length chain < 15
