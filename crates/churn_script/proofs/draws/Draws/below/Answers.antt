use Rattle.std.proofs.Common.{◌≡◌, ℕ, ◌+◌, ◌*◌, ◌/◌, ◌%◌, ◌^◌, ◌∙◌, ap}
use Rattle.std.proofs.Math.Nat.{mod-add-mod}
use Rattle.churn_script.specs.Draws.{after_draw, draw_below}
use Rattle.churn_script.proofs.draws.Draws.below.Goals as goal

-- the state is the same whether the product is cut to 64 bits or not
drawn : (state now : ℕ) → state ≡ now
    → (state * 6364136223846793005 % 2 ^ 64 + 1442695040888963407) % 2 ^ 64 ≡ after_draw now
unfolding after_draw
drawn state now same =
    mod-add-mod (state * 6364136223846793005) (2 ^ 64) 1442695040888963407
    ∙ ap (λ x. (x * 6364136223846793005 + 1442695040888963407) % 2 ^ 64) same

pub returns-clause-number : goal.returns-clause-number
unfolding draw_below
returns-clause-number c = ap (λ x. x / 2 ^ 33 % c.args.bound) (drawn c.self.inside.state c.args.self.now c.self.view_is)

pub returns-clause-state : goal.returns-clause-state
returns-clause-state c = drawn c.self.inside.state c.args.self.now c.self.view_is
