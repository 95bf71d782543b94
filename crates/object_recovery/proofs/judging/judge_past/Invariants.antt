use Rattle.std.proofs.Common.{◌≡◌}
use Rattle.std.specs.Prelude.{IfSome}
use Rattle.stopped_volume.specs.Store.{TellsBytes}
use Rattle.object_recovery.specs.Judged.{StaysRefused}
use Rattle.object_recovery.proofs.PastLemmas.{IsJudgedBy}
use Rattle.object_recovery.proofs.judging.judge_past.Given as goal

abbrev pub invariant-loop-name : goal.invariant-loop-name
invariant-loop-name g l = record {
  same : g.S.Store.state l.store ≡ g.S.Store.state l.initial.store;
  stays : StaysRefused l.gap.refused l.refused;
  judged : TellsBytes g.S.Receipt.Receipt.state
      → IfSome (g.S.Store.state l.initial.store).objects (IsJudgedBy l.volume l.names l.gap l.name-index l.refused);
}
