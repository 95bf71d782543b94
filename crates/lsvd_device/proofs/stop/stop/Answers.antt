use Rattle.std.proofs.Common.{◌≡◌, ◌-◌, ◌≤◌, ◌∙◌, ℕ, List, length, take, drop, replicate, sym, ap, subst, arith}
use Rattle.std.proofs.lemmas.List.{take_rest, length-drop}
use Rattle.lsvd_device.specs.Medium.{Medium}
use Rattle.lsvd_device.specs.Memory.{LieInside, bytes_written, contents_from}
use Rattle.lsvd_device.specs.declared.change.Change.{Change}
use Rattle.lsvd_device.specs.Stop.{HasNow, LeavesBy}
use Rattle.lsvd_device.proofs.Stopped.{parts_of, has_stopped}
use Rattle.lsvd_device.proofs.stop.stop.Goals as goal

pub make_at_once-requires-clause-counted : goal.make_at_once-requires-clause-counted
make_at_once-requires-clause-counted c = (parts_of c.args.size c.args.synced c.args.changes.now c.args.written.now
    c.args.fates.now c.requires).before

pub make_at_once-requires-clause-inside : goal.make_at_once-requires-clause-inside
make_at_once-requires-clause-inside c =
    let P : ℕ → Type 0 = λ n. LieInside n (take c.args.synced c.args.changes.now) in
    subst P (sym c.in_ok-disk.ensures.size) (parts_of c.args.size c.args.synced c.args.changes.now c.args.written.now
    c.args.fates.now c.requires).before_inside

pub slice_bounds-make_by_fates-count-2 : goal.slice_bounds-make_by_fates-count-2
slice_bounds-make_by_fates-count-2 c =
    let before = (parts_of c.args.size c.args.synced c.args.changes.now c.args.written.now c.args.fates.now c.requires).before in
    let used : c.in_ok-used.used ≡ bytes_written (take c.args.synced c.args.changes.now) = c.in_ok-used.ensures.used in
    omega (arith, before, used)

pub slice_bounds-make_by_fates-start-2 : goal.slice_bounds-make_by_fates-start-2
slice_bounds-make_by_fates-start-2 c =
    let before = (parts_of c.args.size c.args.synced c.args.changes.now c.args.written.now c.args.fates.now c.requires).before in
    let used : c.in_ok-used.used ≡ bytes_written (take c.args.synced c.args.changes.now) = c.in_ok-used.ensures.used in
    let fits : c.in_ok-used.used ≤ length c.args.written.now = omega (arith, before, used) in
    fits

pub make_by_fates-requires-clause-counted : goal.make_by_fates-requires-clause-counted
make_by_fates-requires-clause-counted c =
    let changes : List Change = c.args.changes.now in
    let written : List ℕ = c.args.written.now in
    let after = (parts_of c.args.size c.args.synced changes written c.args.fates.now c.requires).after in
    let used : c.in_ok-used.used ≡ bytes_written (take c.args.synced changes) = c.in_ok-used.ensures.used in
    let rest = ap bytes_written (take_rest changes c.args.synced) in
    let left = ap length (take_rest written c.in_ok-used.used) in
    let long = length-drop c.in_ok-used.used written in
    omega (arith, after, used, rest, left, long)

pub make_by_fates-requires-clause-inside : goal.make_by_fates-requires-clause-inside
make_by_fates-requires-clause-inside c =
    let changes : List Change = c.args.changes.now in
    let P : ℕ → Type 0 = λ n. LieInside n (drop c.args.synced changes) in
    let size : c.make_at_once.new.disk.size ≡ c.args.size = c.make_at_once.ensures.size ∙ c.in_ok-disk.ensures.size in
    let inside : LieInside c.make_at_once.new.disk.size (drop c.args.synced changes) =
    subst P (sym size) (parts_of c.args.size c.args.synced changes c.args.written.now c.args.fates.now c.requires).after_inside in
    subst (LieInside c.make_at_once.new.disk.size) (sym (take_rest changes c.args.synced)) inside

pub returns-clause-left : goal.returns-clause-left
returns-clause-left c =
    let changes : List Change = c.args.changes.now in
    let written : List ℕ = c.args.written.now in
    let used : ℕ = c.in_ok-used.used in
    let before : List Medium = c.make_at_once.new.disk.moments in
    let after : List Medium = c.make_by_fates.new.disk.moments in
    let size : c.make_at_once.new.disk.size ≡ c.args.size = c.make_at_once.ensures.size ∙ c.in_ok-disk.ensures.size in
    let P : ℕ → Type 0 = λ n. LeavesBy n c.args.fates.now (drop c.args.synced changes) (drop used written) before after in
    let Q : List Change → Type 0 = λ cs. LeavesBy c.make_at_once.new.disk.size c.args.fates.now cs
    (take (length written - used) (drop used written)) before after in
    let R : List ℕ → Type 0 = λ xs. LeavesBy c.make_at_once.new.disk.size c.args.fates.now (drop c.args.synced changes) xs
    before after in
    let left = subst P size (subst R (take_rest written used)
    (subst Q (take_rest changes c.args.synced) c.in_ok-make_by_fates.ensures.left)) in
    let bytes = subst (λ n. HasNow (λ now. now.bytes ≡ contents_from (replicate n 0) (take c.args.synced changes) written) before)
    c.in_ok-disk.ensures.size c.in_ok-used.ensures.bytes in
    (has_stopped c.args.size c.args.synced used changes written c.args.fates.now before after
    c.sync.new.disk.moments c.requires bytes c.in_ok-used.ensures.used left c.in_ok-sync.ensures.moments).stopped

pub returns-clause-may_leave : goal.returns-clause-may_leave
returns-clause-may_leave c =
    let changes : List Change = c.args.changes.now in
    let written : List ℕ = c.args.written.now in
    let used : ℕ = c.in_ok-used.used in
    let before : List Medium = c.make_at_once.new.disk.moments in
    let after : List Medium = c.make_by_fates.new.disk.moments in
    let size : c.make_at_once.new.disk.size ≡ c.args.size = c.make_at_once.ensures.size ∙ c.in_ok-disk.ensures.size in
    let P : ℕ → Type 0 = λ n. LeavesBy n c.args.fates.now (drop c.args.synced changes) (drop used written) before after in
    let Q : List Change → Type 0 = λ cs. LeavesBy c.make_at_once.new.disk.size c.args.fates.now cs
    (take (length written - used) (drop used written)) before after in
    let R : List ℕ → Type 0 = λ xs. LeavesBy c.make_at_once.new.disk.size c.args.fates.now (drop c.args.synced changes) xs
    before after in
    let left = subst P size (subst R (take_rest written used)
    (subst Q (take_rest changes c.args.synced) c.in_ok-make_by_fates.ensures.left)) in
    let bytes = subst (λ n. HasNow (λ now. now.bytes ≡ contents_from (replicate n 0) (take c.args.synced changes) written) before)
    c.in_ok-disk.ensures.size c.in_ok-used.ensures.bytes in
    (has_stopped c.args.size c.args.synced used changes written c.args.fates.now before after
    c.sync.new.disk.moments c.requires bytes c.in_ok-used.ensures.used left c.in_ok-sync.ensures.moments).may_leave
