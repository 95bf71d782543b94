use Rattle.std.proofs.Common.{◌≡◌, ◌+◌, ◌++◌, ℕ, [], ◌∷◌, take, get_or, subst, sym, ◌∙◌, ap, arith}
use Rattle.std.specs.Prelude.{◌↔◌}
use Rattle.std.specs.List.{All, Contains}
use Rattle.std.specs.List.Sorted.{IsStrictlyIncreasing}
use Rattle.std.proofs.lemmas.List.{map-append, take_more}
use Rattle.std.proofs.lemmas.List.Elements.{All-push, Contains-get_or}
use Rattle.gc_copier.specs.Plan.{SourceState, seen, all_seen, numbers_of}
use Rattle.object_uploads.specs.Collection.{IsStoredSource, source_numbers}
use Rattle.object_uploads.proofs.PlanLemmas.{number_there, are_sources}
use Rattle.object_uploads.proofs.collection.sources_of.Goals as goal

pub source-requires : goal.source-requires
source-requires g c =
    let numbers = c.deref-number-items.result.now in
    let index = c.loop-number.number-index in
    number_there c.args.queue.now c.args.rows.now numbers (get_or numbers index 0) c.requires
    (subst (λ list. (n : ℕ) → Contains list n ↔ Contains (source_numbers c.args.rows.now) n)
    (sym c.deref-number-items.ensures.value)
    c.in_ok-numbers.ensures.same)
    (Contains-get_or numbers index 0 c.loop-number-test.true)

pub loop-number-preserved : goal.loop-number-preserved
loop-number-preserved g c =
    let state = g.R.Receipt.state in
    let numbers = c.deref-number-items.result.now in
    let index = c.loop-number.number-index in
    let sources = c.loop-number.sources.items in
    let source = c.in_ok-source.field-0 in
    let stored = IsStoredSource c.args.queue.now in
    let more = map-append (seen state) sources (source ∷ []) in
    let pushed = sym c.in_ok-push.ensures.items in
    record {
      numbers = subst (λ items. numbers_of (all_seen state items) ≡ take (index + 1) numbers) pushed
          (ap numbers_of more
          ∙ map-append (λ (s : SourceState). s.number) (all_seen state sources) (seen state source ∷ [])
          ∙ ap (λ ns. ns ++ source.number ∷ []) c.loop-number.invariant.numbers
          ∙ ap (λ n. take index numbers ++ n ∷ []) c.in_ok-source.ensures.number
          ∙ sym (take_more numbers index 0 c.loop-number-test.true));
      stored = subst (λ items. All stored (all_seen state items)) pushed
          (subst (All stored) (sym more)
          (All-push stored (all_seen state sources) (seen state source) c.loop-number.invariant.stored
          c.in_ok-source.ensures.stored));
    }

pub returns : goal.returns
returns g c =
    let numbers = c.deref-number-items.result.now in
    are_sources c.args.queue.now c.args.rows.now numbers (all_seen g.R.Receipt.state c.loop-number.sources.items)
    c.loop-number.number-index c.loop-number.invariant.numbers (omega arith)
    (subst IsStrictlyIncreasing (sym c.deref-number-items.ensures.value) c.in_ok-numbers.ensures.ascending)
    (subst (λ list. (n : ℕ) → Contains list n ↔ Contains (source_numbers c.args.rows.now) n)
    (sym c.deref-number-items.ensures.value)
    c.in_ok-numbers.ensures.same)
    c.loop-number.invariant.stored
