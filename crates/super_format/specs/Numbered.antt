-- Contract: objects that say their volume and the number of their name, and nothing else.
use Rattle.std.specs.Prelude.{ℕ, ◌≡◌, ◌^◌, ◌<◌, List, ◌++◌, length, take}
use Rattle.std.specs.Int.{w64, to_be_bytes}
use Rattle.lsvd_bytes.specs.Places.{bytes_at, number_at}

-- the bytes that tell the kind, then the uuid, then the number
unfoldable pub numbered_bytes : List ℕ → List ℕ → ℕ → List ℕ
numbered_bytes magic uuid number = magic ++ uuid ++ to_be_bytes w64 number

-- bytes are such an object, and its uuid and its number have the width of their place
pub record IsNumbered (bytes magic uuid : List ℕ) (number : ℕ) : Type 0 where
  pub spelled : bytes ≡ numbered_bytes magic uuid number
  pub uuid_width : length uuid ≡ 16
  pub number_width : number < 2 ^ 64

-- bytes have these fields, each in its place (for this crate's own clauses)
pub record HasFields (bytes magic uuid : List ℕ) (number : ℕ) : Type 0 where
  pub size : length bytes ≡ 32
  pub has_magic : take 8 bytes ≡ magic
  pub has_uuid : bytes_at 8 16 bytes ≡ uuid
  pub has_number : number_at w64 24 bytes ≡ number
