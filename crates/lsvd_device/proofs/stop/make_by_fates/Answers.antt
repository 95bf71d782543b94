use Rattle.std.proofs.Common.{rules, ◌≡◌, ◌<◌, ◌≤◌, ◌^◌, ℕ, List, [], ◌∷◌, length, get_or, refl, ◌∙◌, arith}
use Rattle.std.proofs.lemmas.List.{get_or_default}
use Rattle.lsvd_device.specs.Memory.{bytes_written}
use Rattle.lsvd_device.specs.declared.change.Change.{Change}
use Rattle.lsvd_device.specs.declared.change.Change.TheVariants.{Write}
use Rattle.lsvd_device.specs.declared.fate.Fate.{Fate}
use Rattle.lsvd_device.specs.declared.fate.Fate.TheVariants.{Kept}
use Rattle.lsvd_device.proofs.Stopped.{next_of, used_next, fates_first, fates_all, met_next, used_inside}
use Rattle.lsvd_device.proofs.stop.make_by_fates.Goals as goal

pub loop-index-init : goal.loop-index-init
loop-index-init c = record {
  used' = refl;
  left = fates_first c.args.disk.now.size c.args.fates.now c.args.changes.now
      c.args.written.now c.args.disk.now.moments;
  size = refl;
}

pub slice_bounds-make_by_fate-count : goal.slice_bounds-make_by_fate-count
slice_bounds-make_by_fate-count c = used_inside c.args.changes.now c.args.written.now c.loop-index.index c.loop-index.used
    c.loop-index.invariant.used' c.requires.counted

pub slice_bounds-make_by_fate-start : goal.slice_bounds-make_by_fate-start
slice_bounds-make_by_fate-start c = used_inside c.args.changes.now c.args.written.now c.loop-index.index c.loop-index.used
    c.loop-index.invariant.used' c.requires.counted

pub make_by_fate-requires-clause-fits : goal.make_by_fate-requires-clause-fits
make_by_fate-requires-clause-fits c =
    let changes : List Change = c.args.changes.now in
    let k : ℕ = c.loop-index.index in
    let change : Change = get_or changes k (Write 0 0) in
    let inside : k < length changes = search rules in
    let is : change ≡ get_or changes k change = get_or_default changes k (Write 0 0) change inside in
    (next_of changes c.args.written.now c.args.disk.now.size c.loop-index.disk.size k c.loop-index.used change inside is
    c.loop-index.invariant.used' c.requires.counted c.requires.inside c.loop-index.invariant.size).left

pub make_by_fate-requires-clause-inside : goal.make_by_fate-requires-clause-inside
make_by_fate-requires-clause-inside c =
    let changes : List Change = c.args.changes.now in
    let k : ℕ = c.loop-index.index in
    let change : Change = get_or changes k (Write 0 0) in
    let inside : k < length changes = search rules in
    let is : change ≡ get_or changes k change = get_or_default changes k (Write 0 0) change inside in
    (next_of changes c.args.written.now c.args.disk.now.size c.loop-index.disk.size k c.loop-index.used change inside is
    c.loop-index.invariant.used' c.requires.counted c.requires.inside c.loop-index.invariant.size).inside

pub returns-in_err-used-clause-size : goal.returns-in_err-used-clause-size
returns-in_err-used-clause-size c = c.make_by_fate.ensures.size ∙ c.loop-index.invariant.size

pub overflow_add-used : goal.overflow_add-used
overflow_add-used c =
    let changes : List Change = c.args.changes.now in
    let k : ℕ = c.loop-index.index in
    let change : Change = get_or changes k (Write 0 0) in
    let inside : k < length changes = search rules in
    let is : change ≡ get_or changes k change = get_or_default changes k (Write 0 0) change inside in
    let next = used_next changes k c.loop-index.used change inside is c.loop-index.invariant.used' in
    let short : length c.args.written.now < 2 ^ 64 = search rules in
    let count : c.in_ok-used.field-0 ≡ bytes_written (change ∷ []) = c.in_ok-used.ensures.count in
    let counted = c.requires.counted in
    omega (arith, next.1, short, count, counted)

pub loop-index-preserved : goal.loop-index-preserved
loop-index-preserved c =
    let changes : List Change = c.args.changes.now in
    let fates : List Fate = c.args.fates.now in
    let k : ℕ = c.loop-index.index in
    let change : Change = get_or changes k (Write 0 0) in
    let fate : Fate = get_or fates k Kept in
    let inside : k < length changes = search rules in
    let inside' : k < length fates = (let same = c.requires.count in omega (arith, inside, same)) in
    let is : change ≡ get_or changes k change = get_or_default changes k (Write 0 0) change inside in
    let is' : fate ≡ get_or fates k fate = get_or_default fates k Kept fate inside' in
    met_next c.args.disk.now c.loop-index.disk c.make_by_fate.new.disk fates fate changes c.args.written.now k c.loop-index.used
    c.in_ok-used.field-0 change inside is inside' is' c.requires.writes c.requires.inside
    c.requires.counted c.loop-index.invariant c.in_ok-used.ensures.count c.in_ok-used.ensures.bytes c.in_ok-used.ensures.size

pub returns-clause-left : goal.returns-clause-left
returns-clause-left c =
    let end : length c.args.changes.now ≤ c.loop-index.index = search rules in
    fates_all c.args.disk.now.size c.loop-index.index c.args.fates.now c.args.changes.now c.args.written.now
    c.args.disk.now.moments c.loop-index.disk.moments c.requires.count end c.loop-index.invariant.left

pub returns-clause-size : goal.returns-clause-size
returns-clause-size c = c.loop-index.invariant.size
