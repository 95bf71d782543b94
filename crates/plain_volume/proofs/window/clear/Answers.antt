use Rattle.std.proofs.Common.{arith, ℕ, ◌∙◌, ◌-◌, ◌*◌, replicate}
use Rattle.std.proofs.lemmas.List.{length-replicate}
use Rattle.lsvd_bytes.proofs.Windows.{splice_seen}
use Rattle.plain_volume.proofs.Zeros.{zeros_seen}
use Rattle.plain_volume.proofs.window.clear.Goals as goal

pub returns : goal.returns
returns c =
    λ bytes window inside shows.
    splice_seen bytes (replicate (512 * c.args.sectors) 0) c.args.window.now c.fill.new.self (512 * c.args.lba) (512 * c.args.at)
    c.shown-start.result.0 c.shown-start.result.1 window inside shows c.shown-start.ensures.start
    (omega (arith, length-replicate {A = ℕ} (512 * c.args.sectors) 0))
    (c.fill.ensures.after (λ _ e. e) ∙ zeros_seen c.args.window.now c.shown-start.result.0
    (c.shown-start.result.1 - c.shown-start.result.0)
    (512 * c.args.lba - 512 * c.args.at) (512 * c.args.sectors) (omega arith) (omega arith))
