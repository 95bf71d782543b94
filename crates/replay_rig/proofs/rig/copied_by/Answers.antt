use Rattle.std.proofs.Common.{ap}
use Rattle.std.specs.Prelude.{unwrap_or}
use Rattle.lsvd_objstore.specs.Store.{StoreState}
use Rattle.replay_rig.proofs.rig.copied_by.Goals as goal

pub returns-in-Ok-clause-store : goal.returns-in-Ok-clause-store
returns-in-Ok-clause-store c =
    ap (λ (s : StoreState). unwrap_or s.objects c.args.store.now) c.copy.ensures.asks.unchanged

pub returns-in-Err-clause-store : goal.returns-in-Err-clause-store
returns-in-Err-clause-store c =
    ap (λ (s : StoreState). unwrap_or s.objects c.args.store.now) c.copy.ensures.asks.unchanged
