use Rattle.std.specs.Int.{w16, w32, w64}
use Rattle.lsvd_bytes.proofs.PlaceLemmas.{reads_bytes_again, reads_number_again, width_16, width_32, width_64}
use Rattle.lsvd_bytes.proofs.laws.what_is_written_is_read_again.Goals as goal

pub returns : goal.returns
returns c = record {
  bytes = reads_bytes_again;
  u16 = reads_number_again w16 width_16;
  u32 = reads_number_again w32 width_32;
  u64 = reads_number_again w64 width_64;
}
