use Rattle.std.proofs.Common.{rules, ◌≡◌, [], subst}
use Rattle.std.specs.Prelude.{OnOk}
use Rattle.gathered_disk.specs.Gathered.{IsAboveNow}
use Rattle.gathered_disk.proofs.Follows.{Follows, follows, follows_elsewhere}
use Rattle.gathered_disk.proofs.Steps.{on_ok}
use Rattle.gathered_disk.proofs.disk.GatheredDisk.into_disk.Goals as goal

pub returns-clause-whole : goal.returns-clause-whole
returns-clause-whole g c =
    let below = (g.D.Disk.state c.self.inside.disk).moments in
    let told = g.M.Moments.told c.self.inside.moments in
    let same : told ≡ c.args.self.told = search rules in
    let handed : OnOk c.pass_on-handed.result (c.self.inside.gathered.items ≡ []) = search rules in
    let first = λ (none : c.self.inside.gathered.items ≡ []).
    let is = subst (λ xs. Follows c.self.inside.at xs below told) none (follows _ c.self.invariant) in
    subst (λ ms. IsAboveNow 0 [] below ms) same (follows_elsewhere c.self.inside.at 0 below told is).above in
    on_ok c.pass_on-handed.result _ _ first handed
