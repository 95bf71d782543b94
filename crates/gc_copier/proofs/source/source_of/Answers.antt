use Rattle.std.proofs.Common.{rules, subst}
use Rattle.std.specs.List.Sorted.{IsBinarySearchResult}
use Rattle.std.specs.Ordering.{nat_cmp}
use Rattle.std.proofs.lemmas.List.Sorted.{answers_always}
use Rattle.gc_copier.proofs.SourceLemmas.{is_found, number_found}
use Rattle.gc_copier.proofs.source.source_of.Goals as goal

-- the closure gives a source's number
pub unwrap-at-requires : goal.unwrap-at-requires
unwrap-at-requires g c =
    let by_number = c.binary_search_by_key.ensures.position (λ source. source.number)
    (answers_always _ _ _ (λ f a r g called. search rules)) in
    is_found (λ source. source.number) c.args.sources.now c.args.number c.binary_search_by_key.result c.requires.ascending
    c.requires.has by_number

pub returns-clause-number : goal.returns-clause-number
returns-clause-number g c =
    let sources = c.args.sources.now in
    let by_number = c.binary_search_by_key.ensures.position (λ source. source.number)
    (answers_always _ _ _ (λ f a r g called. search rules)) in
    number_found (λ source. source.number) sources c.args.number c.unwrap-at.result c.index-sources-at.result
    (subst (IsBinarySearchResult (λ source. nat_cmp source.number c.args.number) sources) c.unwrap-at.ensures by_number)
    (search rules)
