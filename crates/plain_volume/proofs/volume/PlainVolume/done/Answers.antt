use Rattle.std.proofs.Common.{◌≡◌, ◌≤◌, ◌+◌, ℕ, List, length, Some, false, sym, ap, subst, ◌∙◌, rules}
use Rattle.upload_window.specs.Window.{is_started}
use Rattle.plain_disk.specs.State.{PlainState}
use Rattle.plain_disk.specs.Objects.{after_done}
use Rattle.plain_volume.specs.contracts.volume.PlainVolume.{the_view}
use Rattle.std.specs.List.{All}
use Rattle.upload_window.specs.declared.object.OpenObject.{OpenObject}
use Rattle.plain_disk.specs.State.{PlainCheckpoint}
use Rattle.plain_disk.specs.Checkpoints.{checkpoint_after_done}
use Rattle.plain_volume.proofs.Newest.{done_leaves}
use Rattle.plain_volume.proofs.Numbers.{Within, within_without, done_within}
use Rattle.plain_volume.proofs.volume.PlainVolume.done.Goals.{in_default-via-in-Some+else-is_started, in_default-via-in_default}
use Rattle.plain_volume.proofs.volume.PlainVolume.done.Goals as goal

pub returns-in_default-clause-volume : goal.returns-in_default-clause-volume
returns-in_default-clause-volume c =
    elim c.in_default.branch [
      | in_default-via-in-Some+else-is_started w ↦
          let not_so : is_started w.in-Some.number c.self.inside.uploads.items ≡ false = cc in
          subst (λ (s : PlainState). s ≡ after_done c.args.job s) c.self.view_is
          (done_leaves (the_view c.self.inside) w.in-Some.number not_so
          ∙ sym (ap (λ job. after_done job (the_view c.self.inside)) w.in-Some.is))
      | in_default-via-in_default w ↦ search rules
    ]

pub invariant_of-self : goal.invariant_of-self
invariant_of-self c =
    let is = c.self.invariant in
    let state : PlainState = the_view c.self.inside in
    let number : ℕ = c.in-Some.number in
    let last : ℕ = 1 + length c.self.inside.stream.objects.items in
    let newest : c.in_ok-self-inside-in-Some.field-0 ≡ checkpoint_after_done (Some number) state =
    c.in_ok-self-inside-in-Some.ensures ∙ ap (checkpoint_after_done (Some number)) (sym c.self.view_is) in
    record {
      limits = is.limits;
      in_range = is.in_range;
      number = is.number;
      end = is.end;
      ends = is.ends;
      last = is.last;
      newest =
          subst (λ (checkpoint : PlainCheckpoint). checkpoint.number ≤ last) (sym newest)
          (done_within state last number is.newest is.numbers);
      numbers =
          subst (λ (list : List OpenObject). All (Within last) list) (sym c.remove.ensures)
          (within_without last number c.self.inside.uploads.items is.numbers);
    }
