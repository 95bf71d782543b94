use Rattle.std.proofs.Common.{rules, ◌≡◌, ◌+◌, ◌≤◌, ℕ, ◌∷◌, ◌++◌, [], ◌∙◌, true, ap, refl, sym, subst, arith, length}
use Rattle.std.proofs.Common.{length-append}
use Rattle.std.specs.Prelude.{Some, None}
use Rattle.lsvd_device.specs.Calls.{Budget, Cost, Takes, fuse_after, passes, write_cost}
use Rattle.lsvd_device.specs.declared.change.Change.TheVariants.{Write}
use Rattle.lsvd_device.specs.Device.{DiskState, MakesCalls, moments_after}
use Rattle.lsvd_device.specs.Medium.{after_write}
use Rattle.lsvd_bytes.specs.Places.{with_bytes}
use Rattle.lsvd_device.specs.Memory.{IsFrontOf, IsKept, moments_of}
use Rattle.lsvd_device.proofs.Moments.{kept_write, moments_write, kept_is_disk}
use Rattle.lsvd_device.proofs.memory.MemDiskDisk.write.Goals as goal

pub invariant_of-self-2 : goal.invariant_of-self-2
invariant_of-self-2 c =
    let size : ℕ = c.self.inside.size in
    let changes : c.keep_write.new.changes.items ≡ c.self.inside.changes.items ++ Write c.args.at (length c.args.piece.now) ∷ [] =
    search rules in
    let written : c.keep_write.new.written.items ≡ c.self.inside.written.items ++ c.args.piece.now = search rules in
    let inside : c.args.at + length c.args.piece.now ≤ size = search rules in
    let fits : c.args.at + length c.args.piece.now ≤ length c.self.invariant.now.bytes =
    (let e = c.self.invariant.media.0.bytes in omega (arith, e, inside)) in
    let front : IsFrontOf (with_bytes c.args.at c.args.piece.now c.self.invariant.now.bytes) c.put_in_front.new.front.items =
    c.put_in_front.ensures c.self.invariant.now.bytes fits c.self.invariant.front in
    rw (changes, written)
    (kept_write size c.self.inside.synced c.args.at c.self.inside.changes.items c.self.inside.written.items c.args.piece.now
    c.self.inside.front.items c.put_in_front.new.front.items inside c.self.invariant front)

-- calls of a disk without a fuse, which took no more of its room than this
made_in_room : (cost : Cost) (old new : DiskState) (room left : Budget) → new.size ≡ old.size → new.faults ≡ old.faults
    → old.budget ≡ Some room → new.budget ≡ Some left → room.fuse ≡ None → left.fuse ≡ None
    → room.calls ≤ left.calls + cost.changes → room.bytes ≤ left.bytes + cost.bytes → MakesCalls cost true old new
made_in_room cost old new room left size faults was is fuse fuse' calls bytes = record {
  size = size;
  faults = faults;
  budget = subst (λ budget. Takes cost true budget new.budget) (sym was) (
    left,
    is,
    λ _ _. record {
      made = sym (ap (λ f. passes f cost.calls) fuse);
      fuse = fuse' ∙ sym (ap (λ f. fuse_after f cost.calls) fuse);
      calls = calls;
      bytes = bytes;
    },
  );
}

pub returns-clause-call : goal.returns-clause-call
returns-clause-call c =
    let changes : c.keep_write.new.changes.items ≡ c.self.inside.changes.items ++ Write c.args.at (length c.args.piece.now) ∷ [] =
    search rules in
    let written : c.keep_write.new.written.items ≡ c.self.inside.written.items ++ c.args.piece.now = search rules in
    let more = ap length changes ∙ length-append c.self.inside.changes.items (Write c.args.at (length c.args.piece.now) ∷ []) in
    let longer = ap length written ∙ length-append c.self.inside.written.items c.args.piece.now in
    let capacity = c.keep_write.ensures.capacity in
    made_in_room (write_cost (length c.args.piece.now)) _ _ _ _ (ap (λ (d : DiskState). d.size) c.self.view_is)
    (ap (λ (d : DiskState). d.faults) c.self.view_is) (sym (ap (λ (d : DiskState). d.budget) c.self.view_is)) refl refl refl
    (omega (arith, more, capacity.0)) (omega (arith, longer, capacity.1))

pub returns-clause-ok : goal.returns-clause-ok
returns-clause-ok c =
    let size : ℕ = c.self.inside.size in
    let changes : c.keep_write.new.changes.items ≡ c.self.inside.changes.items ++ Write c.args.at (length c.args.piece.now) ∷ [] =
    search rules in
    let written : c.keep_write.new.written.items ≡ c.self.inside.written.items ++ c.args.piece.now = search rules in
    let was : moments_of size c.self.inside.changes.items c.self.inside.written.items ≡ c.args.self.now.moments =
    ap (λ (d : DiskState). d.moments) c.self.view_is in
    rw (changes, written) (
    moments_write size c.self.inside.synced c.args.at c.self.inside.changes.items c.self.inside.written.items c.args.piece.now
    c.self.inside.front.items c.self.invariant
    ∙ ap (moments_after (after_write c.args.at c.args.piece.now)) was)

pub returns-clause-disk : goal.returns-clause-disk
returns-clause-disk c =
    let size : ℕ = c.self.inside.size in
    let changes : c.keep_write.new.changes.items ≡ c.self.inside.changes.items ++ Write c.args.at (length c.args.piece.now) ∷ [] =
    search rules in
    let written : c.keep_write.new.written.items ≡ c.self.inside.written.items ++ c.args.piece.now = search rules in
    let inside : c.args.at + length c.args.piece.now ≤ size = search rules in
    let fits : c.args.at + length c.args.piece.now ≤ length c.self.invariant.now.bytes =
    (let e = c.self.invariant.media.0.bytes in omega (arith, e, inside)) in
    let front : IsFrontOf (with_bytes c.args.at c.args.piece.now c.self.invariant.now.bytes) c.put_in_front.new.front.items =
    c.put_in_front.ensures c.self.invariant.now.bytes fits c.self.invariant.front in
    let kept : IsKept size c.self.inside.synced c.keep_write.new.changes.items c.keep_write.new.written.items
    c.put_in_front.new.front.items =
    rw (changes, written)
    (kept_write size c.self.inside.synced c.args.at c.self.inside.changes.items c.self.inside.written.items c.args.piece.now
    c.self.inside.front.items c.put_in_front.new.front.items inside c.self.invariant front) in
    kept_is_disk _ c.self.inside.synced c.keep_write.new.changes.items c.keep_write.new.written.items
    c.put_in_front.new.front.items (search rules) refl kept
