use Rattle.std.proofs.Common.{[], ◌∷◌, refl, arith}
use Rattle.std.proofs.lemmas.Slice.{pushed}
use Rattle.object_format.specs.Rows.{data_row_in}
use Rattle.object_format.proofs.RowLemmas.{read_more, read_room}
use Rattle.object_format.proofs.rows_reading.data_rows_in.Goals as goal

pub loop-preserved : goal.loop-preserved
loop-preserved c = record {
  all = read_more 24 data_row_in c.args.count c.loop.counter c.loop.rows.items c.push.new.self.items _ c.read.result
      c.loop.rest.now
      (omega arith) (pushed (c.read.result ∷ []) refl c.in_ok-push.was c.push.ensures.items) c.read.ensures c.loop.invariant.all;
  room = read_room 24 c.args.count c.loop.counter c.loop.rest.now (omega arith) c.loop.invariant.room;
}
