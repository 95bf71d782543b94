use Rattle.std.proofs.Common.{◌∙◌, sym, ap}
use Rattle.object_stream.specs.Changes.{entry_change}
use Rattle.std.specs.Option.{option_or}
use Rattle.object_stream.proofs.PlainLemmas.{change_more, or_is}
use Rattle.object_stream.proofs.changes.change_at.Goals as goal

pub loop-entry-preserved : goal.loop-entry-preserved
loop-entry-preserved c =
    let entry = c.entry-item.result in
    let sector = c.args.sector in
    c.or-change.ensures
    ∙ (or_is c.in_ok-entry_change.field-0 c.loop-entry.change
    ∙ (ap (λ later. option_or later c.loop-entry.change) c.in_ok-entry_change.ensures
    ∙ (ap (option_or (entry_change entry sector)) c.loop-entry.invariant
    ∙ sym (change_more c.args.entries.now c.loop-entry.entry-index entry sector c.loop-entry-test.true c.entry-item.is))))
