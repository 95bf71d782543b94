use Rattle.std.proofs.Common.{◌≡◌, ◌-◌, ◌+◌, ◌<◌, length, get_or, sym, ◌∙◌, ap, subst, false, arith}
use Rattle.page_list.specs.Items.{cursor_index, page_start}
use Rattle.page_list.specs.Pages.{passes_at_start}
use Rattle.page_list.specs.Pages.{lengths_of, AreFilled}
use Rattle.page_list.proofs.Lengths.{start_more, page_inside}
use Rattle.page_list.proofs.Seen.{seen, read_length}
use Rattle.page_list.proofs.Points.{point_seen, point_none_seen, fewer_pages}
use Rattle.page_list.proofs.page_list.PageList.first_failing.Goals as goal

pub returns-then-pages-eq0-clause-partitioned : goal.returns-then-pages-eq0-clause-partitioned
returns-then-pages-eq0-clause-partitioned g c p says partitioned =
    let free = length c.self.inside.free.items in
    let shown = ap (λ pages. seen pages free) c.deref.ensures.value ∙ c.self.view_is in
    let filled = subst (λ pages. AreFilled (lengths_of pages)) (sym c.deref.ensures.value) c.self.invariant.filled in
    c.start.ensures.index
    ∙ point_none_seen c.deref.result.now free c.args.self.now shown filled p
    (subst (λ n. (d : _) → n < length c.deref.result.now → passes_at_start p (get_or c.deref.result.now n d) ≡ false)
    c.if-pages-eq0.true
    (λ d inside. c.search_pages-pages.ensures.fails p d says inside))

pub returns-then-pages-eq0-clause-steps : goal.returns-then-pages-eq0-clause-steps
returns-then-pages-eq0-clause-steps g c k few =
    let fewer = fewer_pages c.self.inside.pages.items (length c.self.inside.free.items) c.args.self.now c.self.view_is
    c.self.invariant.filled in
    omega (arith, c.search_pages-pages.ensures.steps k (omega (arith, few, fewer, ap length c.deref.ensures.value)))

pub returns-then-pages-eq0-clause-bound : goal.returns-then-pages-eq0-clause-bound
returns-then-pages-eq0-clause-bound g c =
    omega (arith, c.search_pages-pages.ensures.steps 48 (omega (arith, c.self.invariant.few, ap length c.deref.ensures.value)))

pub returns-then-item-page_len-clause-partitioned : goal.returns-then-item-page_len-clause-partitioned
returns-then-item-page_len-clause-partitioned g c p says partitioned =
    let free = length c.self.inside.free.items in
    let shown = ap (λ pages. seen pages free) c.deref.ensures.value ∙ c.self.view_is in
    let filled = subst (λ pages. AreFilled (lengths_of pages)) (sym c.deref.ensures.value) c.self.invariant.filled in
    let n = c.search_pages-pages.result in
    let read = subst (λ pages. c.index.result.now ≡ get_or pages (c.search_pages-pages.result - 1) c.index.result.now)
    (sym c.deref.ensures.value) c.index.ensures in
    let read_page = subst (λ page. page ≡ get_or c.deref.result.now (c.search_pages-pages.result - 1) page)
    (sym c.as_slice.ensures) read in
    point_seen c.deref.result.now free c.args.self.now shown filled p n (n - 1) c.search-item.result
    (omega (arith, c.if-pages-eq0.false))
    c.as_slice.result.now (omega (arith, c.if-pages-eq0.false, c.search_pages-pages.ensures.bound)) read_page
    (λ d. c.search_pages-pages.ensures.passes p d says (omega (arith, c.if-pages-eq0.false)))
    (λ d inside. c.search_pages-pages.ensures.fails p d says inside)
    c.search-item.ensures.bound
    (λ d some. c.search-item.ensures.passes p d says some)
    (λ d inside. c.search-item.ensures.fails p d says inside)
    partitioned

pub returns-then-item-page_len-clause-steps : goal.returns-then-item-page_len-clause-steps
returns-then-item-page_len-clause-steps g c k few =
    let fewer = fewer_pages c.self.inside.pages.items (length c.self.inside.free.items) c.args.self.now c.self.view_is
    c.self.invariant.filled in
    let first = c.search_pages-pages.ensures.steps k (omega (arith, few, fewer, ap length c.deref.ensures.value)) in
    let inside = page_inside c.args.self.now.lengths (c.search_pages-pages.result - 1)
    (omega (arith, c.page_len.ensures.length, c.page_len.ensures.some)) in
    let read = read_length c.self.inside.pages.items (length c.self.inside.free.items) c.args.self.now c.self.view_is
    c.self.invariant.filled
    (c.search_pages-pages.result - 1) c.index.result.now inside c.index.ensures in
    let second = c.search-item.ensures.steps 8 (omega (arith, read.2, ap length c.as_slice.ensures)) in
    omega (arith, first, second)

pub returns-then-item-page_len-clause-bound : goal.returns-then-item-page_len-clause-bound
returns-then-item-page_len-clause-bound g c =
    let first = c.search_pages-pages.ensures.steps 48 (omega (arith, c.self.invariant.few, ap length c.deref.ensures.value)) in
    let inside = page_inside c.args.self.now.lengths (c.search_pages-pages.result - 1)
    (omega (arith, c.page_len.ensures.length, c.page_len.ensures.some)) in
    let read = read_length c.self.inside.pages.items (length c.self.inside.free.items) c.args.self.now c.self.view_is
    c.self.invariant.filled
    (c.search_pages-pages.result - 1) c.index.result.now inside c.index.ensures in
    let second = c.search-item.ensures.steps 8 (omega (arith, read.2, ap length c.as_slice.ensures)) in
    omega (arith, first, second)

pub returns-else-item-page_len-clause-partitioned : goal.returns-else-item-page_len-clause-partitioned
returns-else-item-page_len-clause-partitioned g c p says partitioned =
    let free = length c.self.inside.free.items in
    let shown = ap (λ pages. seen pages free) c.deref.ensures.value ∙ c.self.view_is in
    let filled = subst (λ pages. AreFilled (lengths_of pages)) (sym c.deref.ensures.value) c.self.invariant.filled in
    let n = c.search_pages-pages.result in
    let read = subst (λ pages. c.index.result.now ≡ get_or pages (c.search_pages-pages.result - 1) c.index.result.now)
    (sym c.deref.ensures.value) c.index.ensures in
    let read_page = subst (λ page. page ≡ get_or c.deref.result.now (c.search_pages-pages.result - 1) page)
    (sym c.as_slice.ensures) read in
    let inside = page_inside c.args.self.now.lengths (c.search_pages-pages.result - 1)
    (omega (arith, c.page_len.ensures.length, c.page_len.ensures.some)) in
    let long = read_length c.self.inside.pages.items (length c.self.inside.free.items) c.args.self.now c.self.view_is
    c.self.invariant.filled
    (c.search_pages-pages.result - 1) c.index.result.now inside c.index.ensures in
    let more = start_more c.args.self.now.lengths (c.search_pages-pages.result - 1) inside in
    let next : c.search_pages-pages.result ≡ c.search_pages-pages.result - 1 + 1 = omega (arith, c.if-pages-eq0.false) in
    let at : cursor_index c.args.self.now.lengths c.start_at.result
    ≡ page_start c.args.self.now.lengths (c.search_pages-pages.result - 1) + c.search-item.result =
    omega (
      arith,
      c.start_at.ensures.index,
      ap (page_start c.args.self.now.lengths) next,
      more,
      long.0,
      c.page_len.ensures.length,
      c.if-item-page_len.false,
      c.search-item.ensures.bound,
      ap length c.as_slice.ensures,
    ) in
    at
    ∙ point_seen c.deref.result.now free c.args.self.now shown filled p n (n - 1) c.search-item.result
    (omega (arith, c.if-pages-eq0.false))
    c.as_slice.result.now (omega (arith, c.if-pages-eq0.false, c.search_pages-pages.ensures.bound)) read_page
    (λ d. c.search_pages-pages.ensures.passes p d says (omega (arith, c.if-pages-eq0.false)))
    (λ d inside. c.search_pages-pages.ensures.fails p d says inside)
    c.search-item.ensures.bound
    (λ d some. c.search-item.ensures.passes p d says some)
    (λ d inside. c.search-item.ensures.fails p d says inside)
    partitioned

pub returns-else-item-page_len-clause-steps : goal.returns-else-item-page_len-clause-steps
returns-else-item-page_len-clause-steps g c k few =
    let fewer = fewer_pages c.self.inside.pages.items (length c.self.inside.free.items) c.args.self.now c.self.view_is
    c.self.invariant.filled in
    let first = c.search_pages-pages.ensures.steps k (omega (arith, few, fewer, ap length c.deref.ensures.value)) in
    let inside = page_inside c.args.self.now.lengths (c.search_pages-pages.result - 1)
    (omega (arith, c.page_len.ensures.length, c.page_len.ensures.some)) in
    let read = read_length c.self.inside.pages.items (length c.self.inside.free.items) c.args.self.now c.self.view_is
    c.self.invariant.filled
    (c.search_pages-pages.result - 1) c.index.result.now inside c.index.ensures in
    let second = c.search-item.ensures.steps 8 (omega (arith, read.2, ap length c.as_slice.ensures)) in
    omega (arith, first, second)

pub returns-else-item-page_len-clause-bound : goal.returns-else-item-page_len-clause-bound
returns-else-item-page_len-clause-bound g c =
    let first = c.search_pages-pages.ensures.steps 48 (omega (arith, c.self.invariant.few, ap length c.deref.ensures.value)) in
    let inside = page_inside c.args.self.now.lengths (c.search_pages-pages.result - 1)
    (omega (arith, c.page_len.ensures.length, c.page_len.ensures.some)) in
    let read = read_length c.self.inside.pages.items (length c.self.inside.free.items) c.args.self.now c.self.view_is
    c.self.invariant.filled
    (c.search_pages-pages.result - 1) c.index.result.now inside c.index.ensures in
    let second = c.search-item.ensures.steps 8 (omega (arith, read.2, ap length c.as_slice.ensures)) in
    omega (arith, first, second)
