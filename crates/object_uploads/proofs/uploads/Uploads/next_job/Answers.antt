use Rattle.std.proofs.Common.{◌+◌, sym, arith, ◌∙◌}
use Rattle.object_uploads.proofs.OpenLemmas.{ready_at}
use Rattle.object_uploads.proofs.uploads.Uploads.next_job.Goals as goal

pub index_of-requires : goal.index_of-requires
index_of-requires g c =
    let own = c.self.inside in
    let found = ready_at c.in_ok-number.number (own.queue.frontier + 1) own.queue.sealed own.window.objects
    c.self.invariant.opened (sym c.next.ensures ∙ c.in_ok-number.was) in
    rw (sym c.self.view_is) (omega (arith, found.0))

pub returns-clause-there : goal.returns-clause-there
returns-clause-there g c =
    let own = c.self.inside in
    let found = ready_at c.in_ok-number.number (own.queue.frontier + 1) own.queue.sealed own.window.objects
    c.self.invariant.opened (sym c.next.ensures ∙ c.in_ok-number.was) in
    rw (c.index_of.ensures, sym c.self.view_is) found.1

pub returns-clause-past : goal.returns-clause-past
returns-clause-past g c =
    let own = c.self.inside in
    let found = ready_at c.in_ok-number.number (own.queue.frontier + 1) own.queue.sealed own.window.objects
    c.self.invariant.opened (sym c.next.ensures ∙ c.in_ok-number.was) in
    rw (sym c.self.view_is) (omega (arith, found.0))
