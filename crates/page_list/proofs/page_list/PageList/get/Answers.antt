use Rattle.std.proofs.Common.{[], length, get_or, ◌<◌, ◌≤◌, ap, subst, ◌∙◌}
use Rattle.std.specs.Prelude.{slice_get}
use Rattle.page_list.proofs.Seen.{got, got_none}
use Rattle.page_list.proofs.page_list.PageList.get.Goals as goal

pub returns-in_err-get : goal.returns-in_err-get
returns-in_err-get g c =
    let pages = c.self.inside.pages.items in
    let past = subst (λ xs. length xs ≤ c.args.at.page) c.deref.ensures.value c.in_err-get.ensures.lookup.3 in
    c.from_residual.ensures ∙ got_none pages (length c.self.inside.free.items) c.args.self.now c.self.view_is c.args.at past

pub returns : goal.returns
returns g c =
    let pages = c.self.inside.pages.items in
    let inside = subst (λ xs. c.args.at.page < length xs) c.deref.ensures.value c.in_ok-get.ensures.lookup.3.0 in
    let is = c.in_ok-get.ensures.lookup.3.1 [] ∙ ap (λ xs. get_or xs c.args.at.page []) c.deref.ensures.value in
    c.get-2.ensures
    ∙ ap (λ page. slice_get page c.args.at.item) is
    ∙ got pages (length c.self.inside.free.items) c.args.self.now c.self.view_is c.args.at c.requires inside
