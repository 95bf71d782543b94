use Rattle.std.proofs.Common.{ap, ℕ, List}
use Rattle.std.proofs.lemmas.Result.{err_from_is_err_and}
use Rattle.std.specs.Prelude.{Option}
use Rattle.lsvd_device.specs.Device.{DiskState}
use Rattle.volume_server.specs.Serving.{listener_told, link_told}
use Rattle.volume_commands.specs.Work.{DoesWork, IsTextOf}
use Rattle.volume_commands.proofs.Places.{on_done, refuses_between, works_between}
use Rattle.volume_commands.proofs.Told.{nothing_told}
use Rattle.volume_commands.proofs.work.with_store.Goals as goal

pub returns-in_err-store-clause-told : goal.returns-in_err-store-clause-told
returns-in_err-store-clause-told g c =
    let p = err_from_is_err_and c.from_residual.result c.from_residual.ensures.1 in
    rw p.1 (nothing_told (IsTextOf c.args.work) p.0 (g.W.Out.Sink.contents c.args.out.now))

pub returns-clause-does : goal.returns-clause-does
returns-clause-does g c =
    let listener = listener_told g.W.Clients.Listener.given g.W.Clients.Listener.closed g.W.Clients.Listener.faults in
    let link =
    link_told g.W.Clients.Link.Source.remaining g.W.Clients.Link.Sink.contents g.W.Clients.Link.Connection.held
    g.W.Clients.Link.Source.faults in
    let cache = λ (at : List ℕ → Option DiskState). at c.args.request.now.cache.now in
    on_done c.with_cache-done.result (λ works. record {
      store = g.W.Store.Store.state c.in_ok-store.store;
      stood = c.in_ok-store.ensures.given;
      store_left = g.W.Store.Store.state c.with_cache-done.new.store;
      works =
          works_between g.W.World.tells (λ disk. g.W.Disk.Disk.state disk) g.W.Store.Receipt.Receipt.state
          c.args.request.now (λ (clients : List ℕ → Option (List g.row.W-Clients-Link.Denot)).
          DoesWork g.W.Store.Receipt.Receipt.state listener g.W.Clients.Listener.coming link c.args.work clients
          (g.W.Out.Sink.contents c.args.out.now) (g.W.Out.Sink.contents c.with_cache-done.new.out)) _ _ _ _ _ _ _ _
          c.in_ok-store.ensures.clients
          (ap cache c.in_ok-store.ensures.disks) (ap cache c.close_store.ensures.disks) works;
      store_now = c.close_store.ensures.stands;
    }) c.with_cache-done.ensures.does

pub returns-clause-why : goal.returns-clause-why
returns-clause-why g c why is =
    let cache = λ (at : List ℕ → Option DiskState). at c.args.request.now.cache.now in
    record {
      store = g.W.Store.Store.state c.in_ok-store.store;
      stood = c.in_ok-store.ensures.given;
      store_left = g.W.Store.Store.state c.with_cache-done.new.store;
      refuses =
          refuses_between g.W.World.tells (λ disk. g.W.Disk.Disk.state disk) g.W.Store.Receipt.Receipt.state
          c.args.request.now _ _ _ _ _ _ why
          (ap cache c.in_ok-store.ensures.disks) (ap cache c.close_store.ensures.disks)
          (c.with_cache-done.ensures.why why is);
      same = c.with_cache-done.ensures.same why is;
      store_now = c.close_store.ensures.stands;
    }
