-- Contract: the super object of a volume: its bytes, and what it may say.
use Rattle.std.specs.Prelude.{ℕ, ◌≡◌, ◌^◌, Bool, ◌&&◌, nat_le, IsTrue, List, ◌++◌, length, drop, codes, All}
use Rattle.std.specs.Int.{w32, w64, to_be_bytes}
use Rattle.lsvd_base.specs.declared.geometry.Geometry.{Geometry}
use Rattle.lsvd_base.specs.Limits.{is_within_limits}
use Rattle.lsvd_bytes.specs.Places.{bytes_at, number_at}
use Rattle.clone_chain.specs.Chain.{IsNoAncestor, AreApart}
use Rattle.super_format.specs.declared.super_object.Super.{Super}
use Rattle.super_format.specs.Ancestors.{chain_bytes, HasAncestorWidths, chain_in}

-- ---- its bytes

-- the 48 bytes before the ancestors, the last four of which count these
unfoldable pub head_bytes : Super → List ℕ
head_bytes volume =
    codes "LSVDSUP1"
    ++ to_be_bytes w32 1
    ++ volume.uuid
    ++ to_be_bytes w64 volume.sectors
    ++ to_be_bytes w32 volume.max_write
    ++ to_be_bytes w32 volume.batch
    ++ to_be_bytes w32 (length volume.chain)

abbrev pub super_bytes : Super → List ℕ
super_bytes volume = head_bytes volume ++ chain_bytes volume.chain

-- what stands in bytes, read as a super object
abbrev pub super_in : List ℕ → Super
super_in bytes = record {
  uuid = bytes_at 12 16 bytes;
  sectors = number_at w64 28 bytes;
  max_write = number_at w32 36 bytes;
  batch = number_at w32 40 bytes;
  chain = chain_in (number_at w32 44 bytes) (drop 48 bytes);
}

-- its uuids and the numbers of checkpoints have the width of their places
pub record HasSuperWidths (volume : Super) : Type 0 where
  pub uuid : length volume.uuid ≡ 16
  pub chain : All HasAncestorWidths volume.chain

-- ---- what it may say

-- the sizes of the volume, with a log of this many sectors
abbrev pub geometry_with : Super → ℕ → Geometry
geometry_with volume log = record {
  sectors = volume.sectors;
  max_write = volume.max_write;
  batch = volume.batch;
  log = log;
}

-- the sizes keep the limits of a volume, which has the longest log, and there are at most 15 ancestors
abbrev pub keeps_limits : Super → Bool
keeps_limits volume = is_within_limits (geometry_with volume (2 ^ 31)) && nat_le (length volume.chain) 15

-- no two of the volume and its ancestors have one uuid
pub record HasNoVolumeTwice (volume : Super) : Type 0 where
  pub apart : AreApart volume.chain
  pub own : IsNoAncestor volume.chain volume.uuid

pub record MayBeSuper (volume : Super) : Type 0 where
  pub limits : IsTrue (keeps_limits volume)
  pub once : HasNoVolumeTwice volume

-- ---- the grammar

-- bytes are the super object of the volume with this uuid, and say this
pub record IsSuper (bytes : List ℕ) (uuid : List ℕ) (volume : Super) : Type 0 where
  pub spelled : bytes ≡ super_bytes volume
  pub uuid_is : volume.uuid ≡ uuid
  pub may_stand : MayBeSuper volume
  pub widths : HasSuperWidths volume
