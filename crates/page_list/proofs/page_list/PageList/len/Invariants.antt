use Rattle.std.proofs.Common.{◌≡◌, length, take}
use Rattle.page_list.specs.Pages.{items_of}
use Rattle.page_list.proofs.page_list.PageList.len.Given as goal

abbrev pub invariant-loop-page : goal.invariant-loop-page
invariant-loop-page g l = l.len ≡ length (items_of (take l.page-index l.page-items))
