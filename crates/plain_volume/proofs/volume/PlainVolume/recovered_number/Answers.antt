use Rattle.std.proofs.Common.{◌≡◌, ◌≤◌, ◌+◌, ℕ, length, sym, ap, subst, ◌∙◌, arith}
use Rattle.object_stream.specs.Landed.{Numbers}
use Rattle.object_stream.specs.Plain.{numbers_of}
use Rattle.object_stream.specs.Stream.{last_number}
use Rattle.plain_disk.specs.State.{PlainState, stream_in}
use Rattle.plain_disk.specs.Checkpoints.{landed_checkpoint}
use Rattle.plain_volume.specs.contracts.volume.PlainVolume.{the_view}
use Rattle.plain_volume.proofs.Numbers.{newest_within}
use Rattle.plain_volume.proofs.volume.PlainVolume.recovered_number.Goals as goal

pub returns-clause-most : goal.returns-clause-most
returns-clause-most c =
    let is = c.self.invariant in
    let state : PlainState = the_view c.self.inside in
    let landed : Numbers = numbers_of c.args.landed.now in
    let last : ℕ = 1 + length c.self.inside.stream.objects.items in
    let newest : (landed_checkpoint landed state).number ≤ last =
    newest_within landed state last state.checkpoint state.window.objects is.newest is.numbers in
    let base : c.landed_number-base.result ≡ (landed_checkpoint landed state).number =
    c.landed_number-base.ensures ∙ ap (λ (s : PlainState). (landed_checkpoint landed s).number) (sym c.self.view_is) in
    subst (λ (s : PlainState). c.landed_after.result ≤ last_number (stream_in s)) c.self.view_is
    (omega (arith, c.landed_after.ensures.most, newest, base, is.number))
