use Rattle.std.proofs.Common.{◌≡◌, ℕ, true, Some, None, subst, ap, ◌∙◌}
use Rattle.object_stream.specs.Landed.{Numbers}
use Rattle.plain_disk.specs.State.{PlainState, PlainCheckpoint}
use Rattle.plain_disk.specs.Checkpoints.{checkpoint_at, landed_checkpoint}
use Rattle.plain_volume.specs.Fields.{last_landed}
use Rattle.plain_volume.specs.contracts.volume.PlainVolume.{the_view}
use Rattle.plain_volume.proofs.Newest.{newest_open, newest_acknowledged}
use Rattle.plain_volume.proofs.volume.PlainVolume.sealed_number.Goals as goal

pub returns-in-Some : goal.returns-in-Some
returns-in-Some c =
    let landed : Numbers = λ number. true in
    let number : ℕ = c.in-Some.number in
    let is : last_landed landed None c.self.inside.uploads.items ≡ Some number = cc in
    let newest : checkpoint_at number c.args.self.now ≡ landed_checkpoint landed c.args.self.now =
    subst (λ (s : PlainState). checkpoint_at number s ≡ landed_checkpoint landed s) c.self.view_is
    (newest_open landed (the_view c.self.inside) number is) in
    ap (λ (checkpoint : PlainCheckpoint). checkpoint.number) newest

pub returns-in-None : goal.returns-in-None
returns-in-None c =
    let landed : Numbers = λ number. true in
    let is : last_landed landed None c.self.inside.uploads.items ≡ None = cc in
    let newest : c.self.inside.checkpoint ≡ landed_checkpoint landed c.args.self.now =
    newest_acknowledged landed (the_view c.self.inside) is ∙ ap (landed_checkpoint landed) c.self.view_is in
    c.number.ensures ∙ ap (λ (checkpoint : PlainCheckpoint). checkpoint.number) newest
