use Rattle.std.proofs.Common.{◌∷◌, [], ◌++◌, ap, ◌∙◌, append_assoc}
use Rattle.vol_replay.specs.Churn.{count_line}
use Rattle.vol_replay.proofs.churning.push_line.Goals as goal

pub returns : goal.returns
unfolding count_line
returns c = c.in_ok-push.ensures.items ∙ ap (λ items. items ++ 10 ∷ []) c.in_ok-push_counted.ensures ∙ simp append_assoc
