use Rattle.std.proofs.Common.{◌≡◌, ◌∙◌, sym, subst}
use Rattle.gc_copier.specs.Plan.{all_seen}
use Rattle.gc_copier.specs.Copying.{IsCopied}
use Rattle.gc_copier.proofs.copying.copy.Goals as goal

pub invariant_of-result : goal.invariant_of-result
invariant_of-result g c =
    let plan = c.args.plan.now in
    let copies = c.in_ok-sources.sources.items in
    let payload = c.in_ok-payload.payload.items in
    let same_rows : c.in_ok-rows.rows.items ≡ plan.rows = c.in_ok-rows.ensures.items ∙ c.rows.ensures.rows in
    let same_sources : all_seen g.S.Receipt.Receipt.state copies ≡ plan.sources =
    c.in_ok-sources.ensures ∙ c.sources.ensures.sources in
    subst (λ rows. IsCopied rows (all_seen g.S.Receipt.Receipt.state copies) payload) (sym same_rows)
    (subst (λ sources. IsCopied plan.rows sources payload) (sym same_sources) c.in_ok-payload.ensures.payload)
