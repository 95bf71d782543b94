use Rattle.std.specs.Int.{w16, w32, w64}
use Rattle.lsvd_bytes.proofs.PlaceLemmas.{rewrites_bytes, rewrites_number, width_16, width_32, width_64}
use Rattle.lsvd_bytes.proofs.laws.what_is_read_is_written_unchanged.Goals as goal

pub returns : goal.returns
returns c = record {
  bytes = rewrites_bytes;
  u16 = rewrites_number w16 width_16;
  u32 = rewrites_number w32 width_32;
  u64 = rewrites_number w64 width_64;
}
