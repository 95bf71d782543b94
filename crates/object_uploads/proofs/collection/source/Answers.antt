use Rattle.std.proofs.Common.{◌∙◌, Some, sym, ap}
use Rattle.std.specs.Prelude.{option_map}
use Rattle.object_uploads.specs.Queue.{stored_of}
use Rattle.object_uploads.proofs.PlanLemmas.{stored_source}
use Rattle.object_uploads.proofs.collection.source.Goals as goal

pub returns-clause-stored : goal.returns-clause-stored
returns-clause-stored g c =
    let state = g.R.Receipt.state in
    let receipt = sym c.receipt.ensures ∙ ap (option_map (λ r. state r.now)) c.unwrap.ensures in
    stored_source (stored_of c.args.queue.now (record { level = 0; number = c.args.number })) (state c.in_ok-receipt.receipt)
    c.front-front.result
    (receipt ∙ ap (λ r. Some r) (sym c.in_ok-receipt.ensures)) c.front-front.ensures
