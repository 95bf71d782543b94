-- Contract: what contracts see of a batch.
use Rattle.std.specs.Prelude.{ℕ, List}
use Rattle.lsvd_base.specs.declared.geometry.Geometry.{Geometry}
use Rattle.lsvd_base.specs.declared.entry.Entry.{Entry}

-- the entries of a volume that are in no object yet
pub record BatchState : Type 0 where
  -- the sizes of the volume
  pub geometry : Geometry
  -- the seq of the first entry
  pub first : ℕ
  -- the entries, in the order of their seqs
  pub entries : List Entry
  -- how many further entries it has memory for
  pub reserved : ℕ
