use Rattle.std.proofs.Common.{[], ◌∷◌, refl, arith}
use Rattle.std.proofs.lemmas.Slice.{pushed}
use Rattle.super_format.proofs.ChainLemmas.{read_more, read_room}
use Rattle.super_format.proofs.ancestors.read_ancestors.Goals as goal

pub loop-preserved : goal.loop-preserved
loop-preserved c = record {
  all = read_more c.args.count c.loop.counter c.loop.ancestors.items c.push.new.self.items _ c.read_ancestor.result
      c.loop.rest.now
      (omega arith) (pushed (c.read_ancestor.result ∷ []) refl c.in_ok-push.was c.push.ensures.items) c.read_ancestor.ensures
      c.loop.invariant.all;
  room = read_room c.args.count c.loop.counter c.loop.rest.now (omega arith) c.loop.invariant.room;
}
