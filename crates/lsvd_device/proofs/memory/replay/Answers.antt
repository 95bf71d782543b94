use Rattle.std.proofs.Common.{rules, ◌≡◌, ◌+◌, ◌<◌, ◌≤◌, ◌^◌, ℕ, List, [], ◌∷◌, ◌-◌, length, take, drop, get_or, replicate, ◌∙◌}
use Rattle.std.proofs.Common.{ap, subst, arith}
use Rattle.std.proofs.lemmas.List.{length-drop, take_rest, get_or_default}
use Rattle.lsvd_device.specs.Memory.{bytes_written, LiesInside, contents_from}
use Rattle.lsvd_device.specs.declared.change.Change.{Change}
use Rattle.lsvd_device.specs.declared.change.Change.TheVariants.{Write}
use Rattle.lsvd_device.proofs.Replayed.{first_far, next_far, last_far, all_used, written_next, far_inside}
use Rattle.lsvd_device.proofs.memory.replay.Goals as goal

pub loop-change-init : goal.loop-change-init
loop-change-init c =
    let zeros : c.fill.new.self ≡ replicate (length c.args.buf.now) 0 = c.fill.ensures.after (λ _ e. e) in
    first_far c.args.at c.args.changes.now c.args.written.now c.args.buf.now c.fill.new.self zeros

pub slice_bounds-put_change-count : goal.slice_bounds-put_change-count
slice_bounds-put_change-count c = far_inside c.args.at c.args.changes.now c.loop-change.change-index c.loop-change.from
    c.args.written.now c.args.buf.now c.loop-change.buf c.loop-change.invariant c.requires.counted

pub slice_bounds-put_change-start : goal.slice_bounds-put_change-start
slice_bounds-put_change-start c = far_inside c.args.at c.args.changes.now c.loop-change.change-index c.loop-change.from
    c.args.written.now c.args.buf.now c.loop-change.buf c.loop-change.invariant c.requires.counted

pub put_change-from-requires-clause-fits : goal.put_change-from-requires-clause-fits
put_change-from-requires-clause-fits c =
    let changes : List Change = c.args.changes.now in
    let k : ℕ = c.loop-change.change-index in
    let used : ℕ = c.loop-change.from in
    let written : List ℕ = c.args.written.now in
    let change : Change = get_or changes k (Write 0 0) in
    let inside : k < length changes = search rules in
    let is : change ≡ get_or changes k change = get_or_default changes k (Write 0 0) change inside in
    let next = written_next changes k used change written inside is c.loop-change.invariant.used' c.requires.counted in
    let rest : length (take (length written - used) (drop used written)) ≡ length written - used =
    ap length (take_rest written used) ∙ length-drop used written in
    omega (arith, rest, next)

pub overflow_add-from : goal.overflow_add-from
overflow_add-from c =
    let changes : List Change = c.args.changes.now in
    let k : ℕ = c.loop-change.change-index in
    let used : ℕ = c.loop-change.from in
    let written : List ℕ = c.args.written.now in
    let change : Change = get_or changes k (Write 0 0) in
    let inside : k < length changes = search rules in
    let is : change ≡ get_or changes k change = get_or_default changes k (Write 0 0) change inside in
    let next = written_next changes k used change written inside is c.loop-change.invariant.used' c.requires.counted in
    let short : length written < 2 ^ 64 = search rules in
    let count : c.put_change-from.result ≡ bytes_written (change ∷ []) = c.put_change-from.ensures.count in
    omega (arith, next, short, count)

pub loop-change-preserved : goal.loop-change-preserved
loop-change-preserved c =
    let changes : List Change = c.args.changes.now in
    let k : ℕ = c.loop-change.change-index in
    let used : ℕ = c.loop-change.from in
    let written : List ℕ = c.args.written.now in
    let change : Change = get_or changes k (Write 0 0) in
    let inside : k < length changes = search rules in
    let is : change ≡ get_or changes k change = get_or_default changes k (Write 0 0) change inside in
    let rest : take (length written - used) (drop used written) ≡ drop used written = take_rest written used in
    let same : length c.put_change-from.new.buf ≡ length c.loop-change.buf = search rules in
    let shown = subst (λ xs. (bytes : List ℕ) → c.args.at + length c.loop-change.buf ≤ length bytes
    → LiesInside (length bytes) change
    → c.loop-change.buf ≡ take (length c.loop-change.buf) (drop c.args.at bytes)
    → c.put_change-from.new.buf ≡ take (length c.loop-change.buf) (drop c.args.at (contents_from bytes (change ∷ []) xs))) rest
    c.put_change-from.ensures.shown in
    let far = next_far c.args.at changes k used written c.args.buf.now c.loop-change.buf c.put_change-from.new.buf change inside
    is c.loop-change.invariant same shown in
    rw c.put_change-from.ensures.count far

pub returns-clause-count : goal.returns-clause-count
returns-clause-count c = all_used c.args.at c.args.changes.now c.loop-change.change-index c.loop-change.from c.args.written.now
    c.args.buf.now c.loop-change.buf (search rules) c.loop-change.invariant

pub returns-clause-shown : goal.returns-clause-shown
returns-clause-shown c = last_far c.args.at c.args.changes.now c.loop-change.change-index c.loop-change.from
    c.args.written.now c.args.buf.now c.loop-change.buf (search rules) c.loop-change.invariant
