use Rattle.std.proofs.Common.{rules, ◌≡◌, ◌+◌, ◌≤◌, [], length}
use Rattle.gathered_disk.proofs.Follows.{kept_fails}
use Rattle.gathered_disk.proofs.Steps.{kept, written}
use Rattle.gathered_disk.proofs.disk.GatheredDisk.write_long.Goals as goal

pub invariant_of-self-in-Err : goal.invariant_of-self-in-Err
invariant_of-self-in-Err g c =
    let piece = c.args.piece.now in
    let none : c.self.inside.gathered.items ≡ [] = search rules in
    let inside : c.args.at + length piece ≤ (g.D.Disk.state c.self.inside.disk).size = search rules in
    kept _ _ c.args.at _ piece _ _ c.self.invariant c.write.ensures.disk c.write.ensures.call.size none inside
    c.in-Err.ensures.err c.keep.ensures c.note_write.ensures

pub invariant_of-self-2 : goal.invariant_of-self-2
invariant_of-self-2 g c =
    let piece = c.args.piece.now in
    let none : c.self.inside.gathered.items ≡ [] = search rules in
    let inside : c.args.at + length piece ≤ (g.D.Disk.state c.self.inside.disk).size = search rules in
    let still : c.reserve.new.self.items ≡ [] = rw c.reserve.ensures.items none in
    written _ _ c.args.at piece _ _ c.self.invariant c.write.ensures.disk c.write.ensures.call.size none inside
    c.in_default.ensures.ok still c.note_write-2.ensures

pub returns-in-Err-clause-err : goal.returns-in-Err-clause-err
returns-in-Err-clause-err g c =
    let size = (g.D.Disk.state c.self.inside.disk).size in
    let told = g.M.Moments.told c.self.inside.moments in
    let same : told ≡ c.args.self.now.told = search rules in
    let inside : c.args.at + length c.args.piece.now ≤ size = search rules in
    rw c.judge-in-Err.ensures.same (kept_fails size c.args.at c.args.piece.now _ told _ inside c.self.invariant.media same
    c.note_write.ensures)
