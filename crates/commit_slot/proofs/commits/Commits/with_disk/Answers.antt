use Rattle.std.proofs.Common.{◌≡◌, subst, refl, ap}
use Rattle.std.specs.Fn.{FnOnceReturnsAtMut}
use Rattle.commit_slot.specs.Commits.{CommitsState, with_budget}
use Rattle.commit_slot.proofs.WithDisk.{same_commits, same_view}
use Rattle.commit_slot.proofs.commits.Commits.with_disk.Goals as goal

pub invariant_of-self : goal.invariant_of-self
invariant_of-self g c =
    let gave : FnOnceReturnsAtMut g.F.FnOnce c.args.change c.self.inside.disk c.change.result c.change.new.arg2 =
    record { shown = _; shows = refl; left = _; met = c.change.ensures; leaves = refl } in
    same_commits c.self.inside.number c.self.inside.body c.self.inside.unfinished (g.D.Disk.state c.self.inside.disk)
    (g.D.Disk.state c.change.new.arg2) (c.requires.keeps _ _ _ gave) c.self.invariant

pub returns-clause-rest : goal.returns-clause-rest
returns-clause-rest g c =
    let gave : FnOnceReturnsAtMut g.F.FnOnce c.args.change c.self.inside.disk c.change.result c.change.new.arg2 =
    record { shown = _; shows = refl; left = _; met = c.change.ensures; leaves = refl } in
    let P : CommitsState → Type 0 = λ s. record {
      number = c.self.inside.number;
      body = c.self.inside.body;
      unfinished =
          c.self.inside.unfinished;
      disk = g.D.Disk.state c.change.new.arg2;
    }
    ≡ with_budget (g.D.Disk.state c.change.new.arg2).budget s in
    subst P c.self.view_is
    (same_view (record {
      number = c.self.inside.number;
      body = c.self.inside.body;
      unfinished = c.self.inside.unfinished;
      disk = g.D.Disk.state c.self.inside.disk;
    }) (g.D.Disk.state c.change.new.arg2) (c.requires.keeps _ _ _ gave))

pub returns-clause-answer : goal.returns-clause-answer
returns-clause-answer g c = (
  c.self.inside.disk,
  c.change.new.arg2,
  ap (λ (s : CommitsState). s.disk) c.self.view_is,
  refl,
  record {
    shown = _;
    shows = refl;
    left = _;
    met = c.change.ensures;
    leaves = refl;
  },
)
