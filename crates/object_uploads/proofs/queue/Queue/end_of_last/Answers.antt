use Rattle.std.proofs.Common.{rules, ◌≡◌, ◌+◌, ◌-◌, length, ◌∙◌, ap}
use Rattle.std.specs.VecDeque.{deque_len}
use Rattle.object_uploads.specs.State.{QueueState}
use Rattle.object_uploads.specs.Queue.{end_of_last}
use Rattle.object_uploads.proofs.QueueLemmas.{end_is_last}
use Rattle.object_uploads.proofs.queue.Queue.end_of_last.Goals as goal

pub returns-in-Some : goal.returns-in-Some
returns-in-Some g c =
    let list = c.self.inside.sealed.items in
    let at = deque_len c.self.inside.sealed - 1 in
    let size : deque_len c.self.inside.sealed - 1 + 1 ≡ length list = search rules in
    c.end.ensures
    ∙ (end_is_last c.self.inside.end at list c.in-Some.sealed.now size c.in-Some.ensures.lookup
    ∙ ap (λ (q : QueueState). end_of_last q.end q.sealed) c.self.view_is)
