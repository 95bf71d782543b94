use Rattle.std.proofs.Common.{◌+◌}
use Rattle.object_uploads.proofs.QueueLemmas.{settles_none, settles_more, fewer}
use Rattle.object_uploads.proofs.queue.Queue.settle.Goals as goal

pub loop-self-init : goal.loop-self-init
loop-self-init g c = (0, settles_none c.args.self.now)

pub loop-self-smaller : goal.loop-self-smaller
loop-self-smaller g c =
    let step = c.settle_first.ensures in
    fewer c.loop-self.self c.settle_first.new.self step

pub loop-self-preserved : goal.loop-self-preserved
loop-self-preserved g c =
    let so_far = c.loop-self.invariant in (
      so_far.0 + 1,
      settles_more so_far.0 1 c.args.self.now c.loop-self.self c.settle_first.new.self so_far.1
          c.settle_first.ensures,
    )
