use Rattle.std.proofs.Common.{◌≡◌, ◌≤◌, ◌<◌, ◌+◌, length, sym, ap, ◌∙◌, arith}
use Rattle.std.proofs.lemmas.Bool.Decides.{nat_tests}
use Rattle.object_stream.specs.Plain.{stream_of}
use Rattle.object_stream.specs.Stream.{end_at, last_number, unsealed}
use Rattle.plain_disk.specs.State.{PlainState, stream_in}
use Rattle.plain_disk.specs.Objects.{sealed_count}
use Rattle.plain_volume.specs.Fields.{max_seq}
use Rattle.plain_volume.proofs.Volumes.{next_end_fits}
use Rattle.plain_volume.proofs.volume.PlainVolume.seal.Goals.{After-end_at}
use Rattle.plain_volume.proofs.volume.PlainVolume.seal.Goals as goal

end_fits : (c : After-end_at) → c.end_at.result + c.sealed_count-sealed.result ≤ max_seq
end_fits c =
    let stream = c.self.inside.stream in
    let begins = c.self.invariant.end in
    let long : length stream.entries.items ≤ max_seq = omega arith in
    let is : c.end_at.result ≡ end_at (stream_of stream) (last_number (stream_of stream)) =
    c.end_at.ensures.end ∙ ap (end_at (stream_in c.args.self.now)) c.last_number.ensures
    ∙ sym (ap (λ (s : PlainState). end_at (stream_in s) (last_number (stream_in s))) c.self.view_is) in
    let counted : c.sealed_count-sealed.result ≡ sealed_count c.self.inside.geometry.batch (unsealed (stream_of stream)) =
    c.sealed_count-sealed.ensures ∙ ap (sealed_count c.self.inside.geometry.batch) c.unsealed-unsealed.ensures in
    let some : 0 < length (unsealed (stream_of stream)) = grind (arith, nat_tests) in
    next_end_fits stream c.self.inside.geometry.batch c.end_at.result c.sealed_count-sealed.result begins long is counted some

pub overflow_add-end : goal.overflow_add-end
overflow_add-end c = omega (arith, end_fits c)

pub seal_object-requires : goal.seal_object-requires
seal_object-requires c = end_fits (goal.at.seal_object-requires c).After-end_at
