use Rattle.std.proofs.Common.{◌≡◌, ◌<◌, ℕ, sym, ap, subst, ◌∙◌}
use Rattle.plain_disk.specs.State.{PlainState}
use Rattle.plain_disk.specs.Removals.{is_removable}
use Rattle.plain_volume.proofs.Ranges.{found_here, found_later}
use Rattle.plain_volume.proofs.volume.PlainVolume.to_remove.Goals as goal

pub returns-then-is_removable : goal.returns-then-is_removable
returns-then-is_removable c =
    let end : ℕ = c.args.self.now.checkpoint.number in
    let same : c.number-number-end.result ≡ end =
    c.number-number-end.ensures ∙ ap (λ (s : PlainState). s.checkpoint.number) c.self.view_is in
    let inside : c.loop-number.number < end = subst (λ n. c.loop-number.number < n) same c.loop-number-test.true in
    found_here (is_removable c.args.self.now) c.loop-number.number end inside
    (sym c.is_removable.ensures ∙ c.if-is_removable.true)
    ∙ c.loop-number.invariant

pub loop-number-preserved : goal.loop-number-preserved
loop-number-preserved c =
    let end : ℕ = c.args.self.now.checkpoint.number in
    let same : c.number-number-end.result ≡ end =
    c.number-number-end.ensures ∙ ap (λ (s : PlainState). s.checkpoint.number) c.self.view_is in
    let inside : c.loop-number.number < end = subst (λ n. c.loop-number.number < n) same c.loop-number-test.true in
    found_later (is_removable c.args.self.now) c.loop-number.number end inside
    (sym c.is_removable.ensures ∙ c.if-is_removable.false)
    ∙ c.loop-number.invariant
