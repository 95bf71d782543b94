use Rattle.std.proofs.Common.{◌≡◌, ℕ, ◌*◌, ◌<◌, take, get_or}
use Rattle.clone_chain.specs.declared.ancestor.Ancestor.{Ancestor}
use Rattle.super_format.specs.Ancestors.{chain_bytes, HasAncestorWidths}
use Rattle.super_format.proofs.ancestors.write_ancestors.Given as goal

-- the first ancestors are written
abbrev pub invariant-loop-index : goal.invariant-loop-index
invariant-loop-index l = record {
  written : take (24 * l.index) l.bytes ≡ chain_bytes (take l.index l.ancestors);
  wide : (k : ℕ) (d : Ancestor) → k < l.index → HasAncestorWidths (get_or l.ancestors k d);
}
