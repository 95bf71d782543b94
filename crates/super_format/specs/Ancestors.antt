-- Contract: the ancestors of a volume as bytes, one behind the other.
use Rattle.std.specs.Prelude.{ℕ, zero, suc, ◌≡◌, ◌^◌, ◌<◌, List, [], ◌∷◌, ◌++◌, length, drop}
use Rattle.std.specs.List.{flat_map}
use Rattle.std.specs.Int.{w64, to_be_bytes}
use Rattle.lsvd_bytes.specs.Places.{bytes_at, number_at}
use Rattle.clone_chain.specs.declared.ancestor.Ancestor.{Ancestor}

-- the 24 bytes of an ancestor: its uuid, and then the number of its checkpoint
unfoldable pub ancestor_bytes : Ancestor → List ℕ
ancestor_bytes ancestor = ancestor.uuid ++ to_be_bytes w64 ancestor.checkpoint

-- those of all of them, in their order
abbrev pub chain_bytes : List Ancestor → List ℕ
chain_bytes chain = flat_map ancestor_bytes chain

-- its uuid and its number have the width of their place
pub record HasAncestorWidths (ancestor : Ancestor) : Type 0 where
  pub uuid : length ancestor.uuid ≡ 16
  pub checkpoint : ancestor.checkpoint < 2 ^ 64

-- the ancestor that bytes begin with
abbrev pub ancestor_in : List ℕ → Ancestor
ancestor_in bytes = record { uuid = bytes_at 0 16 bytes; checkpoint = number_at w64 16 bytes }

-- as many ancestors as these
abbrev pub chain_in : ℕ → List ℕ → List Ancestor
chain_in zero bytes = []
chain_in (suc count) bytes = ancestor_in bytes ∷ chain_in count (drop 24 bytes)
