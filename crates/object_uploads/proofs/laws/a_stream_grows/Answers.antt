use Rattle.object_uploads.proofs.GrowLemmas.{stream_begins, entering_keeps_stream, sealing_keeps_stream}
use Rattle.object_uploads.proofs.GrowLemmas.{sealing_copy_keeps_stream}
use Rattle.object_uploads.proofs.CheckpointStream.{sealing_checkpoint_keeps_stream}
use Rattle.object_uploads.proofs.laws.a_stream_grows.Goals as goal

pub returns : goal.returns
returns c = record {
  begins = stream_begins;
  entered = entering_keeps_stream;
  sealed = sealing_keeps_stream;
  copied = sealing_copy_keeps_stream;
  checkpoint = sealing_checkpoint_keeps_stream;
}
