use Rattle.std.proofs.Common.{rules, of_calls}
use Rattle.page_list.specs.Pages.{passes_at_start}
use Rattle.page_list.proofs.search.search_pages.Goals as goal

pub returns-clause-passes : goal.returns-clause-passes
returns-clause-passes g c p d says some =
    c.search.ensures.passes (passes_at_start p) d (λ page answer calls. search (rules, of_calls)) some

pub returns-clause-fails : goal.returns-clause-fails
returns-clause-fails g c p d says inside =
    c.search.ensures.fails (passes_at_start p) d (λ page answer calls. search (rules, of_calls)) inside
