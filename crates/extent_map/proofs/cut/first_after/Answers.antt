use Rattle.std.proofs.Common.{suc, ◌≡◌, ◌∙◌, sym, ap, arith}
use Rattle.std.specs.List.{slice_get}
use Rattle.page_list.specs.Items.{cursor_index}
use Rattle.extent_map.proofs.CutTwice.{count_inside, count_stops}
use Rattle.extent_map.proofs.cut.first_after.Goals as goal

pub next-next-requires-clause-some : goal.next-next-requires-clause-some
next-next-requires-clause-some g c = omega (arith, c.requires.early, count_inside c.args.at c.args.rows.now.items)

pub returns-clause-index : goal.returns-clause-index
returns-clause-index g c =
    let n = cursor_index c.args.rows.now.lengths c.args.early in
    let next : cursor_index c.args.rows.now.lengths c.next-next.result ≡ suc n = omega (arith, c.next-next.ensures.index) in
    next
    ∙ sym (count_stops c.args.at n c.args.rows.now.items c.get.result c.begins_before.result c.requires.early
    c.begins_before.ensures (c.get.ensures ∙ ap (slice_get c.args.rows.now.items) next) c.if-begins_before.false)
