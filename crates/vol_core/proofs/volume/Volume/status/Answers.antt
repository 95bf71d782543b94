use Rattle.std.proofs.Common.{refl, subst}
use Rattle.vol_core.specs.declared.event.Event.TheVariants as events
use Rattle.vol_core.specs.declared.reply.Reply.TheVariants as replies
use Rattle.vol_core.specs.Volume.{VolumeState, SteppedVolume, volume_with}
use Rattle.vol_core.specs.Step.{StepOf}
use Rattle.vol_core.proofs.ObjectSteps.{status_steps}
use Rattle.vol_core.proofs.StepsOf.{step_of_same}
use Rattle.vol_core.proofs.volume.Volume.status.Goals as goal

pub returns : goal.returns
returns g c =
    let state = g.R.Receipt.state in
    let inside = c.self.inside in
    let volume : VolumeState = volume_with inside.objects inside.log inside.plan in
    let writes = c.next_seq.result in
    let sealed = c.last.result in
    let frontier = c.frontier.result in
    let newest = c.newest_checkpoint.result in
    let reply = replies.Told writes sealed frontier newest in
    let is = c.self.invariant in
    let steps =
    status_steps state volume c.batch.result.now writes sealed frontier newest
    (rw c.uploads-uploads.ensures at c.frontier.ensures.order)
    c.batch.ensures c.next_seq.ensures (rw c.uploads-uploads.ensures at c.last.ensures)
    (rw c.uploads-uploads.ensures at c.frontier.ensures.is) (rw c.uploads-uploads.ensures at c.newest_checkpoint.ensures) in
    subst (λ (s : SteppedVolume). StepOf state events.Status reply s.volume s.volume) c.self.view_is
    (step_of_same state events.Status reply volume is.plain is.shows steps tt tt refl (λ was. refl))
