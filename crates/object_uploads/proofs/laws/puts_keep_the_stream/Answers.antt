use Rattle.object_uploads.proofs.KeepLemmas.{jobs_keep_stream, done_keeps_stream}
use Rattle.object_uploads.proofs.laws.puts_keep_the_stream.Goals as goal

pub returns : goal.returns
returns c = record { jobs = jobs_keep_stream; done = done_keeps_stream }
