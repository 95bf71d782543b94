use Rattle.std.proofs.Common.{◌≡◌, ℕ, List, IfOk, subst, ap, ◌∙◌}
use Rattle.object_stream.specs.Plain.{stream_of}
use Rattle.lsvd_base.specs.declared.entry.Entry.{Entry}
use Rattle.plain_disk.specs.State.{PlainState, stream_in, frontier_of, logged_entries}
use Rattle.plain_volume.specs.Fields.{objects_at}
use Rattle.plain_disk.specs.Reads.{objects_read}
use Rattle.plain_volume.proofs.volume.PlainVolume.objects_read.Goals as goal

pub returns : goal.returns
returns c =
    let stream = stream_of c.volume.inside.stream in
    let lba = c.args.lba in
    let sectors = c.args.sectors in
    let now = c.args.self.now in
    let same : objects_at stream c.frontier.result c.logged.result.now lba sectors ≡ objects_read now lba sectors =
    ap (λ (n : ℕ). objects_at stream n c.logged.result.now lba sectors) c.frontier.ensures
    ∙ ap (λ (l : List Entry). objects_at stream (frontier_of now) l lba sectors) c.logged.ensures
    ∙ ap (λ (w : PlainState). objects_at (stream_in w) (frontier_of now) (logged_entries now) lba sectors) c.volume.view_is in
    subst (λ (xs : List ℕ). IfOk c.objects_read.result (λ numbers. numbers.items ≡ xs)) same c.objects_read.ensures
