use Rattle.std.proofs.Common.{◌≡◌, ◌+◌, ◌++◌, [], ◌∷◌, take, get_or, sym, ◌∙◌, ap, rules}
use Rattle.std.proofs.lemmas.List.{map-append, map_more}
use Rattle.gc_copier.specs.Plan.{SourceState, seen, all_seen, numbers_of}
use Rattle.object_uploads.specs.Collection.{marked, marked_in}
use Rattle.object_uploads.proofs.MarkLemmas.{marked_more}
use Rattle.object_uploads.proofs.queue.Queue.mark.Goals as goal

pub loop-source-preserved : goal.loop-source-preserved
loop-source-preserved g c =
    let state = g.R.Receipt.state in
    let sources = c.args.sources.now in
    let index = c.loop-source.source-index in
    let source = c.source-item.result in
    let is_copied = c.args.is_copied in
    let first = all_seen state (take index sources) in
    let last : seen state source ≡ seen state (get_or sources index source) = ap (seen state) c.source-item.is in
    let more : all_seen state (take (index + 1) sources) ≡ first ++ seen state source ∷ [] =
    map_more (seen state) sources index source (search rules) ∙ ap (λ s. first ++ s ∷ []) (sym last) in
    let numbers : numbers_of (all_seen state (take (index + 1) sources)) ≡ numbers_of first ++ source.number ∷ [] =
    ap numbers_of more ∙ map-append (λ (s : SourceState). s.number) first (seen state source ∷ []) in
    c.mark_one.ensures
    ∙ ap (marked is_copied source.number) c.loop-source.invariant
    ∙ sym (marked_more is_copied (numbers_of first) source.number c.args.self.now)
    ∙ ap (λ ns. marked_in is_copied ns c.args.self.now) (sym numbers)
