use Rattle.std.proofs.Common.{[], length, ◌<◌, ◌-◌, arith, ap}
use Rattle.std.proofs.lemmas.List.{take-map, get_or_read, length-map}
use Rattle.std.proofs.lemmas.List.Sums.{sum_by_more_le}
use Rattle.page_list.specs.Items.{surplus_of}
use Rattle.page_list.specs.Pages.{lengths_of}
use Rattle.page_list.proofs.Places.{length_is}
use Rattle.page_list.proofs.free.surplus_in.Goals as goal

pub overflow_add-surplus : goal.overflow_add-surplus
overflow_add-surplus g c =
    let pages = c.args.pages.now in
    let i = c.loop-page.page-index in
    let inside : c.loop-page.page-index < length c.args.pages.now = omega (arith, c.loop-page-test.true) in
    let sums = sum_by_more_le (λ n. n - 64) (lengths_of pages) i 0 (omega (arith, inside, length-map pages length)) in
    omega (
      arith,
      c.loop-page.invariant,
      c.surplus-surplus.ensures,
      ap surplus_of (take-map length i pages),
      sums,
      length_is pages i,
      ap length (get_or_read pages i c.page-item.result inside c.page-item.is []),
      c.requires,
    )
