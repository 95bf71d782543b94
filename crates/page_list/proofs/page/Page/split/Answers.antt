use Rattle.std.proofs.Common.{◌≡◌, ◌-◌, ◌++◌, length, take, drop, arith, length-drop, ap, ◌∙◌}
use Rattle.std.proofs.lemmas.List.{take_all}
use Rattle.page_list.proofs.page.Page.split.Goals as goal

pub returns-clause-rest : goal.returns-clause-rest
returns-clause-rest g c =
    let all : take (length c.deref.result.now - 64) (drop 64 c.deref.result.now) ≡ drop 64 c.self.inside.items.items =
    take_all (length c.deref.result.now - 64) (drop 64 c.deref.result.now) (omega (arith, length-drop 64 c.deref.result.now))
    ∙ ap (drop 64) c.deref.ensures.value in
    let ok = c.extend_from_slice.ensures.succeeds
    (omega (
      arith,
      ap length all,
      length-drop 64 c.self.inside.items.items,
      c.rest.invariant,
      c.rest.inside.items.ok.0,
      ap
          length c.requires.empty,
      ap length c.rest.view_is,
      ap length c.self.view_is,
      c.requires.full,
    )) in
    rw (c.extend_from_slice.ensures.items, ok)
    (ap (λ xs. xs ++ take (length c.deref.result.now - 64) (drop 64 c.deref.result.now)) (c.rest.view_is ∙ c.requires.empty) ∙ all
    ∙ ap (drop 64) c.self.view_is)
