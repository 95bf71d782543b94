use Rattle.std.proofs.Common.{rules, ◌<◌, ◌≤◌, sym, length}
use Rattle.object_uploads.proofs.QueueLemmas.{bytes_of_lent, lent_has, none_past}
use Rattle.object_uploads.proofs.queue.Queue.has_bytes.Goals as goal

pub returns-in-Some : goal.returns-in-Some
returns-in-Some g c =
    let list = c.self.inside.sealed.items in
    let low : c.args.index < length list = search rules in
    rw (sym c.self.view_is) (
      λ yes_. lent_has c.args.index list c.in-Some.sealed.now c.args.bytes.now low c.in-Some.ensures.lookup
          (c.has_bytes.ensures.0 yes_),
      λ has. c.has_bytes.ensures.1 (bytes_of_lent c.args.index list c.in-Some.sealed.now c.args.bytes.now low
          c.in-Some.ensures.lookup has),
    )

pub returns-in-None : goal.returns-in-None
returns-in-None g c =
    let list = c.self.inside.sealed.items in
    let past : length list ≤ c.args.index = search rules in
    rw (sym c.self.view_is) (λ none. absurd cc, λ has. absurd (none_past c.args.index list c.args.bytes.now past has))
