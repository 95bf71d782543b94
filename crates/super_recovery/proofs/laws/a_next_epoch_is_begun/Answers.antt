use Rattle.super_recovery.proofs.LawLemmas.{next_epoch_is_begun}
use Rattle.super_recovery.proofs.laws.a_next_epoch_is_begun.Goals as goal

pub returns : goal.returns
returns c = next_epoch_is_begun
