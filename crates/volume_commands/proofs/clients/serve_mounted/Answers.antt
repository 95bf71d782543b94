use Rattle.std.proofs.Common.{inl, inr, refl}
use Rattle.volume_owner.specs.Acts.{moment_of}
use Rattle.volume_commands.specs.Serving.{IsServingText}
use Rattle.volume_commands.proofs.Served.{world_fault, world_quiet, world_refuses_none}
use Rattle.volume_commands.proofs.Told.{nothing_told, serves_those}
use Rattle.volume_commands.proofs.clients.serve_mounted.Goals as goal

-- ---- nobody could connect

pub returns-in-Err-clause-told : goal.returns-in-Err-clause-told
returns-in-Err-clause-told g c = nothing_told IsServingText c.into.result (g.W.Out.Sink.contents c.args.out.now)

pub returns-in-Err-clause-refused : goal.returns-in-Err-clause-refused
returns-in-Err-clause-refused g c = rw c.into.ensures (λ why is. world_refuses_none c.in-Err.error why is)

pub returns-in-Err-clause-fault : goal.returns-in-Err-clause-fault
returns-in-Err-clause-fault g c =
    rw c.into.ensures (λ is disks stores clients.
    inl (world_fault g.row.W-Clients.Denot c.in-Err.error _ _ _ refl c.in-Err.ensures.count is, refl))

pub returns-in-Err-clause-no_fault : goal.returns-in-Err-clause-no_fault
returns-in-Err-clause-no_fault g c =
    rw c.into.ensures (λ quiet.
    (world_quiet g.row.W-Clients.Denot c.in-Err.error _ _ _ refl c.in-Err.ensures.count quiet, refl))

-- ---- clients were served

pub returns-clause-serves : goal.returns-clause-serves
returns-clause-serves g c =
    serves_those g.W.Store.Receipt.Receipt.state _ g.W.Clients.Listener.coming _ c.args.sessions _ _ c.args.mounted
    (g.W.Store.Store.state c.args.store.now)
    (moment_of c.serve_clients-served.result.0 (g.W.Store.Store.state c.serve_clients-served.new.store)) _ _
    c.serve_clients-served.result.1 c.in-Ok.ensures.clients c.serve_clients-served.ensures.serves

pub returns-clause-fault : goal.returns-clause-fault
returns-clause-fault g c is disks stores clients =
    inr (c.in-Ok.ensures.count, c.serve_clients-served.ensures.fault is disks stores clients)
