use Rattle.std.proofs.Common.{◌≡◌, IfOk, refl, sym, subst, ap, ◌∙◌}
use Rattle.std.proofs.lemmas.Result.{IfOk-weaker}
use Rattle.plain_disk.specs.State.{PlainState, stream_in, frontier_of}
use Rattle.plain_disk.specs.Collection.{planned_copy}
use Rattle.plain_volume.specs.Fields.{owned_in, AreSeen}
use Rattle.plain_volume.specs.contracts.volume.PlainVolume.{the_view}
use Rattle.plain_volume.proofs.volume.PlainVolume.planned_copy.Goals as goal

pub returns : goal.returns
returns c =
    let state : PlainState = the_view c.volume.inside in
    let frontier : c.frontier-frontier.result ≡ frontier_of state =
    c.frontier-frontier.ensures ∙ ap frontier_of (sym c.volume.view_is) in
    let seen : AreSeen c.as_slice.result.now c.as_slice-2.result.now c.as_slice-3.result.now state = record {
      of_sectors =
          c.as_slice.ensures.value
          ∙ (c.in_ok-owned.ensures ∙ ap (owned_in (stream_in state) state.geometry.sectors) frontier);
      of_objects = c.as_slice-2.ensures.value ∙ c.in_ok-payloads.ensures;
      of_holds = c.as_slice-3.ensures.value;
    } in
    subst (λ (s : PlainState). IfOk c.planned_copy.result (λ sectors. sectors.items ≡ planned_copy s)) c.volume.view_is
    (IfOk-weaker c.planned_copy.result _ _ (λ sectors planned. planned state seen frontier refl) c.planned_copy.ensures)
