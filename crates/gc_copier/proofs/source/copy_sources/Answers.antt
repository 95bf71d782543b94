use Rattle.std.proofs.Common.{◌≡◌, ◌+◌, ◌++◌, [], ◌∷◌, take, get_or, subst, sym, ◌∙◌, ap, rules}
use Rattle.std.proofs.lemmas.List.{map-append, map_more}
use Rattle.gc_copier.specs.Plan.{seen, all_seen}
use Rattle.gc_copier.proofs.source.copy_sources.Goals as goal

pub loop-source-preserved : goal.loop-source-preserved
loop-source-preserved g c =
    let state = g.R.Receipt.state in
    let sources = c.args.sources.now in
    let index = c.loop-source.source-index in
    let item = c.source-item.result in
    let copies = c.loop-source.copies.items in
    let copy = c.in_ok-copy.field-0 in
    let last : seen state copy ≡ seen state (get_or sources index item) =
    c.in_ok-copy.ensures ∙ ap (seen state) c.source-item.is in
    let copied : all_seen state (copies ++ copy ∷ []) ≡ all_seen state (take (index + 1) sources) =
    map-append (seen state) copies (copy ∷ [])
    ∙ ap (λ seen_copies. seen_copies ++ seen state copy ∷ []) c.loop-source.invariant
    ∙ ap (λ seen_source. all_seen state (take index sources) ++ seen_source ∷ []) last
    ∙ sym (map_more (seen state) sources index item (search rules)) in
    subst (λ items. all_seen state items ≡ all_seen state (take (index + 1) sources)) (sym c.in_ok-push.ensures.items) copied
