use Rattle.replay_rig.proofs.CrashLemmas.{removed_told}
use Rattle.replay_rig.proofs.crash.remove_object.Goals as goal

pub returns : goal.returns
returns c =
    removed_told c.remove.result c.args.receipt.now.name c.args.store.now c.remove.new.self c.remove.ensures.count
    c.remove.ensures.removed
