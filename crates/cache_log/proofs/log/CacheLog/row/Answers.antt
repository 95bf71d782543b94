use Rattle.std.proofs.Common.{◌≡◌, ◌<◌, List, length, drop, get_or, sym, ◌∙◌, subst, arith}
use Rattle.std.proofs.lemmas.List.{get_or-drop}
use Rattle.cache_log.specs.declared.row.Row.{Row}
use Rattle.cache_log.specs.Log.{LogState}
use Rattle.cache_log.proofs.ReadLemmas.{list_inside, row_inside, matches_now}
use Rattle.cache_log.proofs.log.CacheLog.row.Goals as goal

pub returns-clause-inside : goal.returns-clause-inside
returns-clause-inside g c =
    let rows : List Row = drop c.self.inside.dropped c.self.inside.rows.items in
    let log = c.self.invariant.1 in
    let less : c.args.index < length rows = subst (λ (l : LogState). c.args.index < length l.rows) (sym c.self.view_is)
    c.requires in
    let is : c.index.result.now ≡ get_or rows c.args.index c.index.result.now = c.index.ensures
    ∙ sym (get_or-drop c.self.inside.dropped c.self.inside.rows.items c.args.index c.index.result.now) in
    let ends = row_inside rows c.args.index c.self.inside.room.log c.index.result.now (list_inside _ _ _ _ _ log) less is in
    omega (arith, ends, log.is.room.limit)

pub returns-clause-matches : goal.returns-clause-matches
returns-clause-matches g c =
    let rows : List Row = drop c.self.inside.dropped c.self.inside.rows.items in
    let log = c.self.invariant.1 in
    let less : c.args.index < length rows = subst (λ (l : LogState). c.args.index < length l.rows) (sym c.self.view_is)
    c.requires in
    let is : c.index.result.now ≡ get_or rows c.args.index c.index.result.now = c.index.ensures
    ∙ sym (get_or-drop c.self.inside.dropped c.self.inside.rows.items c.args.index c.index.result.now) in
    rw (← c.self.view_is)
    (matches_now rows c.args.index c.self.inside.room.log c.self.inside.commits.disk.size c.index.result.now
    c.self.inside.commits.disk.moments (list_inside _ _ _ _ _ log) log.is.fits log.is.on_disk.is_disk.media less is)
