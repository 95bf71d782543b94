use Rattle.std.proofs.Common.{◌∙◌, sym, refl}
use Rattle.plain_volume.proofs.Followed.{writers-none, of_variants}
use Rattle.plain_volume.proofs.writers.last_writers.Goals as goal

pub loop-index-init : goal.loop-index-init
loop-index-init c = c.in_ok-last.ensures.items_if_clones_equal (of_variants _ _ (λ e. refl) (λ n e. absurd e))
    ∙ sym (writers-none c.args.lba c.args.sectors)
