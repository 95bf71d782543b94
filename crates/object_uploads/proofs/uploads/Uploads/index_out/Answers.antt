use Rattle.std.proofs.Common.{◌+◌, sym, arith}
use Rattle.object_uploads.proofs.OpenLemmas.{started_at}
use Rattle.object_uploads.proofs.uploads.Uploads.index_out.Goals as goal

pub index_of-index-requires : goal.index_of-index-requires
index_of-index-requires g c =
    let inside = c.self.inside in
    let found = started_at c.args.number (inside.queue.frontier + 1) inside.queue.sealed inside.window.objects
    c.self.invariant.opened (sym c.if-not-is_started.ensures) in
    rw (sym c.self.view_is) (omega (arith, found.0))

pub returns-then-has_bytes-clause-there : goal.returns-then-has_bytes-clause-there
returns-then-has_bytes-clause-there g c =
    let inside = c.self.inside in
    let found = started_at c.args.number (inside.queue.frontier + 1) inside.queue.sealed inside.window.objects
    c.self.invariant.opened (sym c.if-not-is_started.ensures) in
    rw (c.index_of-index.ensures, sym c.self.view_is) found.1

pub returns-then-has_bytes-clause-past : goal.returns-then-has_bytes-clause-past
returns-then-has_bytes-clause-past g c =
    let own = c.self.inside in
    let found = started_at c.args.number (own.queue.frontier + 1) own.queue.sealed own.window.objects c.self.invariant.opened
    (sym c.if-not-is_started.ensures) in
    rw (sym c.self.view_is) (omega (arith, found.0))
