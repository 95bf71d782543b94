use Rattle.std.proofs.Common.{rules, ◌≡◌, ◌+◌, ◌≤◌, [], length, take, drop, sym, subst}
use Rattle.std.specs.Prelude.{◌⊎◌, OnOk}
use Rattle.lsvd_device.specs.Device.{HoldsNow}
use Rattle.gathered_disk.proofs.Follows.{follows, reads_told}
use Rattle.gathered_disk.proofs.Steps.{on_ok}
use Rattle.gathered_disk.proofs.disk.GatheredDiskDisk.read.Goals as goal

pub returns-clause-bytes : goal.returns-clause-bytes
returns-clause-bytes g c =
    let inside = c.self.inside in
    let is = c.self.invariant in
    let count = length c.args.buf.now in
    let buf = c.read-outcome.new.buf in
    let told = g.M.Moments.told inside.moments in
    let same : told ≡ c.args.self.now.told = search rules in
    let apart : (inside.gathered.items ≡ [])
    ⊎ ((c.args.at + count ≤ inside.at) ⊎ (inside.at + length inside.gathered.items ≤ c.args.at)) = search rules in
    let reads = λ (read : HoldsNow (λ now. buf ≡ take count (drop c.args.at now.bytes)) (g.D.Disk.state inside.disk).moments).
    subst (HoldsNow (λ now. buf ≡ take count (drop c.args.at now.bytes))) same
    (reads_told _ inside.at inside.gathered.items c.args.at count buf _ told is.inside is.below.media apart (follows _ is)
    read) in
    subst (λ r. OnOk r (HoldsNow (λ now. buf ≡ take count (drop c.args.at now.bytes)) c.args.self.now.told))
    (sym c.judge.ensures.same) (on_ok c.read-outcome.result _ _ reads c.read-outcome.ensures.bytes)
