use Rattle.std.proofs.Common.{sym, ◌∙◌, subst}
use Rattle.replay_rig.specs.Rig.{RigState, rig_of, ShowsPlain}
use Rattle.replay_rig.proofs.Copies.{held_shown}
use Rattle.replay_rig.proofs.rig.Rig.has_copy.Goals as goal

pub returns : goal.returns
returns c = λ plain h.
    let inside = c.self.inside in
    let old : RigState = rig_of inside.volume inside.store inside.puts.list inside.is_stopping inside.lines in
    c.is_some.ensures
    ∙ held_shown old inside.copied plain c.self.invariant.1
    (subst (λ (r : RigState). ShowsPlain r plain) (sym c.self.view_is) h)
