use Rattle.std.proofs.Common.{◌≡◌, take}
use Rattle.page_list.specs.Pages.{items_of}
use Rattle.page_list.proofs.page_list.PageList.to_vec.Given as goal

abbrev pub invariant-loop-page : goal.invariant-loop-page
invariant-loop-page g l = l.all.items ≡ items_of (take l.page-index l.page-items)
