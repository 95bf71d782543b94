-- For this crate's own clauses: where the fields of a message stand in its bytes.
use Rattle.std.specs.Prelude.{ℕ, List}
use Rattle.std.specs.Int.{w16, w32, w64}
use Rattle.lsvd_bytes.specs.Places.{number_at}
use Rattle.nbd_wire.specs.declared.message.OptionHead.{OptionHead}
use Rattle.nbd_wire.specs.declared.message.Request.{Request}

-- the option that the fields of a head say
abbrev pub option_head_in : List ℕ → OptionHead
option_head_in bytes = record { option = number_at w32 8 bytes; length = number_at w32 12 bytes }

-- the request that the fields say
abbrev pub request_in : List ℕ → Request
request_in bytes = record {
  flags = number_at w16 4 bytes;
  kind = number_at w16 6 bytes;
  cookie = number_at w64 8 bytes;
  offset = number_at w64 16 bytes;
  length = number_at w32 24 bytes;
}
