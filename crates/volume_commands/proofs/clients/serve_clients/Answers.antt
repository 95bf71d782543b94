use Rattle.std.proofs.Common.{◌∙◌, ◌≤◌, ℕ, refl, subst, sym}
use Rattle.std.specs.Prelude.{IfOk, IsErrOf, Result}
use Rattle.lsvd_fault.specs.Faults.{CountsOne}
use Rattle.volume_server.specs.History.{most_steps}
use Rattle.volume_server.proofs.HistoryLemmas.{session_grows}
use Rattle.vol_mount.specs.Mounted.{MountedState}
use Rattle.volume_owner.specs.Acts.{moment_of}
use Rattle.volume_server.proofs.ClientLemmas.{clients_grow}
use Rattle.volume_commands.specs.declared.error.CommandError.{CommandError}
use Rattle.volume_commands.specs.declared.error.CommandError.TheVariants as errors
use Rattle.volume_commands.specs.Serving.{Drains, IsServingText}
use Rattle.volume_commands.proofs.Served.{judged_fault, judged_refuses_none, lane_counts_none, of_other, on_judged, refused_in}
use Rattle.volume_commands.proofs.Told.{nothing_told, first_broken, only_first, second_broken, both_told}
use Rattle.volume_commands.proofs.Told.{serves_with}
use Rattle.volume_commands.proofs.clients.serve_clients.Goals as goal

-- the clients leave room for a drain
pub drain-volume-requires-clause-steps : goal.drain-volume-requires-clause-steps
drain-volume-requires-clause-steps g c =
    let state = g.S.Receipt.Receipt.state in
    (clients_grow state _ (session_grows state) _ _ _ _ _ c.serve_volume-closing.ensures.clients).1
    (subst (λ (m : MountedState). m.volume.steps ≤ most_steps) (sym c.mounted.view_is) c.requires.steps)

-- ---- what was told

pub returns-in-Err-clause-told : goal.returns-in-Err-clause-told
returns-in-Err-clause-told g c = first_broken _ _ _ _ c.in-Err.ensures.front

pub returns-in-Err-drained-clause-told : goal.returns-in-Err-drained-clause-told
returns-in-Err-drained-clause-told g c =
    only_first _ _ c.in-Err-drained.error _ _
    (λ why is. c.drain-volume.ensures.refused why (c.in-Err-drained.is ∙ refused_in c.in-Err-drained.error why is))
    c.in_default-tell_mounted.ensures.ok

pub returns-in-Err-tell_writes-clause-told : goal.returns-in-Err-tell_writes-clause-told
returns-in-Err-tell_writes-clause-told g c =
    second_broken _ _ c.in-Ok-drained.entries _ _ _ c.in_default-tell_mounted.ensures.ok c.in-Err-tell_writes.ensures.front

pub returns-clause-told : goal.returns-clause-told
returns-clause-told g c =
    rw c.judge.ensures (both_told _ _ c.in-Ok-drained.entries c.serve_volume-closing.result.lane.end _ _ _
    c.in_default-tell_mounted.ensures.ok c.in_default-tell_writes.ensures.ok)

pub returns-in_default-clause-told : goal.returns-in_default-clause-told
returns-in_default-clause-told g c = nothing_told IsServingText errors.OutOfMemory (g.O.Sink.contents c.args.out.now)

-- ---- it is done

pub returns-clause-serves : goal.returns-clause-serves
returns-clause-serves g c =
    let shown : MountedState =
    record { volume = c.mounted.inside.volume; entries = c.mounted.inside.entries; number = c.mounted.inside.number } in
    let last = moment_of c.serve_volume-closing.result.volume (g.S.Store.state c.serve_volume-closing.new.store) in
    let closing = moment_of c.drain-volume.result.0 (g.S.Store.state c.drain-volume.new.store) in
    let drains =
    subst (λ (r : Result ℕ CommandError). IfOk r (λ n. Drains g.S.Receipt.Receipt.state n last closing)) c.in-Ok-drained.is
    c.drain-volume.ensures.drains in
    rw c.judge.ensures (on_judged c.serve_volume-closing.result.lane.end (λ succeeds.
    serves_with g.S.Receipt.Receipt.state _ g.L.Listener.coming _ c.args.sessions c.serve_volume-closing.result.lane shown
    c.args.mounted c.args.clients.now c.serve_volume-closing.new.listener (g.S.Store.state c.args.store.now) last closing
    c.in-Ok-drained.entries (g.O.Sink.contents c.args.out.now) (g.O.Sink.contents c.tell_mounted.new.out)
    (g.O.Sink.contents c.tell_writes.new.out) c.mounted.view_is succeeds c.serve_volume-closing.ensures.end
    c.serve_volume-closing.ensures.given c.serve_volume-closing.ensures.clients drains c.in_default-tell_mounted.ensures.ok
    c.in_default-tell_writes.ensures.ok))

-- ---- a call failed

pub returns-in-Err-drained-clause-refused : goal.returns-in-Err-drained-clause-refused
returns-in-Err-drained-clause-refused g c why is =
    c.drain-volume.ensures.refused why (c.in-Err-drained.is ∙ of_other c.in-Err-drained.error (errors.Refused why) is)

pub returns-in-Err-drained-clause-fault : goal.returns-in-Err-drained-clause-fault
returns-in-Err-drained-clause-fault g c is disks stores clients =
    absurd
    (c.drain-volume.ensures.fault (c.in-Err-drained.is ∙ of_other c.in-Err-drained.error errors.Fault is) disks stores)

pub returns-in-Err-tell_writes-clause-fault : goal.returns-in-Err-tell_writes-clause-fault
returns-in-Err-tell_writes-clause-fault g c is disks stores clients =
    subst (λ (n : ℕ). CountsOne n (g.O.Sink.faults c.tell_writes.new.out)) c.in_default-tell_mounted.ensures.count
    c.in-Err-tell_writes.ensures.count

pub returns-clause-refused : goal.returns-clause-refused
returns-clause-refused g c why is =
    judged_refuses_none c.serve_volume-closing.result.lane.end why
    (subst (λ result. IsErrOf result (errors.Refused why)) c.judge.ensures is)

pub returns-clause-fault : goal.returns-clause-fault
returns-clause-fault g c is disks stores clients =
    let fault = subst (λ result. IsErrOf result errors.Fault) c.judge.ensures is in
    absurd
    (lane_counts_none g.L.Listener.faults c.args.clients.now c.serve_volume-closing.new.listener _ _
    c.serve_volume-closing.result.lane.end refl refl c.serve_volume-closing.ensures.given.ends (judged_fault _ fault) clients)
