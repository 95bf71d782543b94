use Rattle.std.proofs.Common.{◌∙◌, ap, inr, subst, ℕ, List}
use Rattle.std.proofs.lemmas.Result.{err_from_is_err_and}
use Rattle.std.specs.Prelude.{Option}
use Rattle.lsvd_objstore.specs.Store.{StoreState}
use Rattle.volume_commands.specs.Mounting.{RefusesOn}
use Rattle.volume_server.specs.Serving.{listener_told, link_told}
use Rattle.volume_commands.specs.Work.{DoesWork, IsTextOf}
use Rattle.volume_commands.specs.World.{IsGiven}
use Rattle.volume_commands.proofs.Mounts.{refusal_keeps}
use Rattle.volume_commands.proofs.Places.{on_done, works_from}
use Rattle.volume_commands.proofs.Told.{nothing_told}
use Rattle.volume_commands.proofs.work.with_cache.Goals as goal

-- ---- a call failed before

pub returns-in_err-length-clause-told : goal.returns-in_err-length-clause-told
returns-in_err-length-clause-told g c =
    let p = err_from_is_err_and c.from_residual.result c.from_residual.ensures.1 in
    rw p.1 (nothing_told (IsTextOf c.args.work) p.0 (g.W.Out.Sink.contents c.args.out.now))

pub returns-in_err-disk-clause-told : goal.returns-in_err-disk-clause-told
returns-in_err-disk-clause-told g c =
    let p = err_from_is_err_and c.from_residual-in_err-disk.result c.from_residual-in_err-disk.ensures.1 in
    rw p.1 (nothing_told (IsTextOf c.args.work) p.0 (g.W.Out.Sink.contents c.args.out.now))

-- ---- the disk was given, and was given back

pub returns-clause-does : goal.returns-clause-does
returns-clause-does g c =
    let listener = listener_told g.W.Clients.Listener.given g.W.Clients.Listener.closed g.W.Clients.Listener.faults in
    let link =
    link_told g.W.Clients.Link.Source.remaining g.W.Clients.Link.Sink.contents g.W.Clients.Link.Connection.held
    g.W.Clients.Link.Source.faults in
    let disk = g.W.Disk.Disk.state c.in_ok-disk.disk in
    on_done c.with_disk-disk.result.1 (λ works. record {
      disk = disk;
      given =
          subst (λ (n : Option ℕ). IsGiven g.W.World.tells n
          (g.W.World.disk_at c.args.world.now c.args.request.now.cache.now) disk)
          c.in_ok-length.ensures.length c.in_ok-disk.ensures.given;
      disk_left = g.W.Disk.Disk.state c.with_disk-disk.result.0;
      works =
          works_from (λ disk. g.W.Disk.Disk.state disk) g.W.Store.Receipt.Receipt.state c.args.request.now
          (λ (clients : List ℕ → Option (List g.row.W-Clients-Link.Denot)).
          DoesWork g.W.Store.Receipt.Receipt.state listener g.W.Clients.Listener.coming link c.args.work clients
          (g.W.Out.Sink.contents c.args.out.now) (g.W.Out.Sink.contents c.with_disk-disk.new.out)) _ _ disk
          (g.W.Disk.Disk.state c.with_disk-disk.result.0) _ _ (g.W.Store.Store.state c.with_disk-disk.new.store)
          c.in_ok-disk.ensures.clients c.in_ok-length.ensures.same works;
      cache_now = c.close_disk.ensures.stands;
    }) c.with_disk-disk.ensures.does

pub returns-clause-why : goal.returns-clause-why
returns-clause-why g c why is =
    let disk = g.W.Disk.Disk.state c.in_ok-disk.disk in
    let left = g.W.Store.Store.state c.with_disk-disk.new.store in
    inr (record {
      disk = disk;
      given =
          subst (λ (n : Option ℕ). IsGiven g.W.World.tells n
          (g.W.World.disk_at c.args.world.now c.args.request.now.cache.now) disk)
          c.in_ok-length.ensures.length c.in_ok-disk.ensures.given;
      disk_left = c.with_disk-disk.result.0;
      refuses =
          subst (λ (s : StoreState). RefusesOn (λ disk. g.W.Disk.Disk.state disk) g.W.Store.Receipt.Receipt.state
          c.args.request.now disk c.with_disk-disk.result.0 s left why) c.in_ok-length.ensures.same
          (c.with_disk-disk.ensures.why why is);
      cache_now = c.close_disk.ensures.stands;
    })

pub returns-clause-same : goal.returns-clause-same
returns-clause-same g c why is =
    refusal_keeps (λ disk. g.W.Disk.Disk.state disk) g.W.Store.Receipt.Receipt.state c.args.request.now.is_lost
    c.args.request.now.volume _ c.with_disk-disk.result.0 _ _ why (c.with_disk-disk.ensures.why why is)
    ∙ ap (λ (s : StoreState). s.objects) c.in_ok-length.ensures.same
