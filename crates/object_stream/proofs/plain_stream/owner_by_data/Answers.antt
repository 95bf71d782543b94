use Rattle.std.proofs.Common.{◌∙◌, sym, ap, take}
use Rattle.object_stream.specs.Changes.{entry_change, change_at}
use Rattle.object_stream.specs.Stream.{owner_by_change}
use Rattle.object_stream.proofs.PlainLemmas.{change_more, owner_by_later}
use Rattle.object_stream.proofs.plain_stream.owner_by_data.Goals as goal

pub loop-entry-preserved : goal.loop-entry-preserved
loop-entry-preserved c =
    let entries = c.args.entries.now in
    let entry = c.entry-item.result in
    let sector = c.args.sector in
    let i = c.loop-entry.entry-index in
    c.owner_by_entry-owner.ensures
    ∙ (ap (owner_by_change c.args.number (entry_change entry sector)) c.loop-entry.invariant
    ∙ (sym (owner_by_later c.args.number (entry_change entry sector) (change_at (take i entries) sector) c.args.before)
    ∙ sym (ap (λ change. owner_by_change c.args.number change c.args.before)
    (change_more entries i entry sector c.loop-entry-test.true c.entry-item.is))))
