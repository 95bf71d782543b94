use Rattle.std.proofs.Common.{◌≡◌, take}
use Rattle.page_list.specs.Items.{surplus_of}
use Rattle.page_list.specs.Pages.{lengths_of}
use Rattle.page_list.proofs.free.surplus_in.Given as goal

abbrev pub invariant-loop-page : goal.invariant-loop-page
invariant-loop-page g l = l.surplus ≡ surplus_of (lengths_of (take l.page-index l.pages))
