use Rattle.std.proofs.Common.{rules, ◌+◌, drop, sym, ◌∙◌, ap}
use Rattle.object_uploads.specs.Queue.{newest_of, newest_checkpoint}
use Rattle.object_uploads.proofs.NewestLemmas.{newest_first, newest_next, newest_last}
use Rattle.object_uploads.proofs.queue.Queue.newest_checkpoint.Goals as goal

pub loop-index-init : goal.loop-index-init
loop-index-init g c =
    newest_first c.self.inside.frontier _ c.self.inside.sealed.items
    ∙ ap (λ n. newest_of n (c.self.inside.frontier + 1) c.self.inside.sealed.items) c.checkpoint-newest.ensures

pub loop-index-preserved : goal.loop-index-preserved
loop-index-preserved g c =
    ap (λ n. newest_of n (c.self.inside.frontier + 1 + (c.loop-index.index + 1))
    (drop (c.loop-index.index + 1) c.self.inside.sealed.items)) c.newest_checkpoint-newest.ensures
    ∙ (newest_next c.self.inside.sealed.items c.loop-index.index c.self.inside.frontier c.loop-index.newest c.index.result.now
    (search rules) c.index.ensures ∙ c.loop-index.invariant)

pub returns : goal.returns
returns g c =
    sym (newest_last c.self.inside.sealed.items c.loop-index.index c.loop-index.newest _ (search rules))
    ∙ (c.loop-index.invariant ∙ ap newest_checkpoint c.self.view_is)
