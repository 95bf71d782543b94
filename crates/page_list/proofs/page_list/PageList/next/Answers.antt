use Rattle.std.proofs.Common.{length, ◌<◌, arith}
use Rattle.page_list.proofs.Lengths.{item_inside, page_inside}
use Rattle.page_list.proofs.Seen.{count_is, page_here}
use Rattle.page_list.proofs.page_list.PageList.next.Goals as goal

pub page_len-last-requires : goal.page_len-last-requires
page_len-last-requires g c =
    let count = count_is c.self.inside.pages.items (length c.self.inside.free.items) c.args.self.now c.self.view_is in
    let inside = item_inside c.args.self.now.lengths c.args.at c.requires.place (omega (arith, count, c.requires.some)) in
    page_inside c.args.self.now.lengths c.args.at.page (omega (arith, inside))

pub overflow_add-at : goal.overflow_add-at
overflow_add-at g c =
    let count = count_is c.self.inside.pages.items (length c.self.inside.free.items) c.args.self.now c.self.view_is in
    let inside = item_inside c.args.self.now.lengths c.args.at c.requires.place (omega (arith, count, c.requires.some)) in
    let page : c.args.at.page < length c.args.self.now.lengths =
    page_inside c.args.self.now.lengths c.args.at.page (omega (arith, inside)) in
    let here = page_here c.self.inside.pages.items (length c.self.inside.free.items) c.args.self.now c.self.view_is
    c.args.at.page page in
    omega (arith, here, c.self.invariant.few)
