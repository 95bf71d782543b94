use Rattle.std.proofs.Common.{◌≡◌, ◌-◌, length, true, refl, sym, ◌∙◌, ap}
use Rattle.std.proofs.lemmas.Fn.{says_at}
use Rattle.std.proofs.lemmas.Option.{get_or_from_slice_get}
use Rattle.page_list.proofs.page_list.PageList.last_passes.Goals as goal

pub returns-in-Some-clause-passes : goal.returns-in-Some-clause-passes
returns-in-Some-clause-passes g c p d says passes some =
    let items = c.args.self.now.items in
    let said = says c.in-Some.item c.test.result (says_at g.F.Fn c.test.ensures refl) in
    let yes : c.test.result ≡ true = passes in
    ap p (get_or_from_slice_get items (length items - 1) c.in-Some.item d (sym c.in-Some.ensures)) ∙ sym said ∙ yes
