use Rattle.std.proofs.Common.{rules, ◌≡◌, ◌+◌, ◌≤◌, ℕ, List, length, take, drop, replicate, sym, ◌∙◌, ap, subst}
use Rattle.lsvd_device.specs.Device.{DiskState, HoldsNow}
use Rattle.lsvd_device.specs.Memory.{IsFrontOf, LieInside, contents_from, moments_of}
use Rattle.lsvd_device.specs.declared.change.Change.{Change}
use Rattle.lsvd_device.proofs.Replayed.{front_kept, holds_contents}
use Rattle.lsvd_device.proofs.memory.MemDiskDisk.read.Goals as goal

pub returns-clause-bytes : goal.returns-clause-bytes
returns-clause-bytes c =
    let size : ℕ = c.self.inside.size in
    let changes : List Change = c.self.inside.changes.items in
    let written : List ℕ = c.self.inside.written.items in
    let buf : List ℕ = c.read_kept.new.buf in
    let inside : c.args.at + length c.args.buf.now ≤ size = search rules in
    let all : LieInside size c.deref-2.result.now = rw c.deref-2.ensures.value c.self.invariant.inside in
    let front : IsFrontOf (contents_from (replicate size 0) c.deref-2.result.now c.deref-3.result.now) c.deref.result.now =
    rw (c.deref.ensures.value, c.deref-2.ensures.value, c.deref-3.ensures.value)
    (front_kept size c.self.inside.synced changes written c.self.inside.front.items c.self.invariant) in
    let read : buf ≡ take (length c.args.buf.now) (drop c.args.at (contents_from (replicate size 0) changes written)) =
    rw (← c.deref-2.ensures.value, ← c.deref-3.ensures.value) (c.read_kept.ensures size inside all front) in
    let same : length c.args.buf.now ≡ length buf = search rules in
    let holds = holds_contents size changes written buf c.args.at c.self.invariant.now c.self.invariant.past
    c.self.invariant.moments (read ∙ ap (λ n. take n (drop c.args.at (contents_from (replicate size 0) changes written)))
    same) in
    let was : moments_of size changes written ≡ c.args.self.now.moments = ap (λ (d : DiskState). d.moments) c.self.view_is in
    let all_of : HoldsNow (λ now. buf ≡ take (length buf) (drop c.args.at now.bytes)) c.args.self.now.moments =
    subst (HoldsNow (λ now. buf ≡ take (length buf) (drop c.args.at now.bytes))) was holds in
    subst (λ n. HoldsNow (λ now. buf ≡ take n (drop c.args.at now.bytes)) c.args.self.now.moments) (sym same) all_of
