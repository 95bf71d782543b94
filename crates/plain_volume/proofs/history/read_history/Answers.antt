use Rattle.std.proofs.Common.{◌≡◌, ◌+◌, ◌*◌, ◌<◌, ◌≤◌, ◌∙◌, sym, ap, arith, length, take, drop, get_or, replicate, rules}
use Rattle.std.proofs.lemmas.List.{take_at}
use Rattle.lsvd_base.specs.Image.{blank, after}
use Rattle.plain_disk.specs.Sectors.{sectors_at}
use Rattle.plain_disk.proofs.Overlaid.{sectors_at-blank, transfer_ends, EndsBy-more, EndsBy-in_range, entry_in_range, one_more}
use Rattle.plain_disk.proofs.Overlaid.{sectors_limit}
use Rattle.plain_volume.proofs.history.read_history.Goals as goal

pub loop-entry-init : goal.loop-entry-init
loop-entry-init c =
    let g = c.args.geometry.now in
    let zeros : c.in_ok-window.window.items ≡ replicate c.in-Some.count 0 =
    c.in_ok-window.ensures.items_if_clones_equal (λ _ e. e) in
    let count : c.in-Some.count ≡ 512 * c.args.sectors = omega arith in
    let ends : c.args.lba + c.args.sectors ≤ g.sectors = transfer_ends g c.args.lba c.args.sectors (search rules) in
    zeros ∙ (ap (λ n. replicate n 0) count ∙ sym (sectors_at-blank c.args.lba c.args.sectors g.sectors ends))

pub overlay-requires-clause-ends : goal.overlay-requires-clause-ends
overlay-requires-clause-ends c =
    let g = c.args.geometry.now in
    let history = c.args.history.now in
    let entry = c.entry-item.result in
    let n = c.loop-entry.entry-index in
    let inside : n < length history = c.loop-entry-test.true in
    let is : entry ≡ get_or history n entry = c.entry-item.is in
    EndsBy-more g.sectors _ entry (EndsBy-in_range g entry (entry_in_range g history n entry c.requires.in_range inside is))
    (omega (arith, sectors_limit g c.requires.limits))

pub overlay-requires-clause-place : goal.overlay-requires-clause-place
overlay-requires-clause-place c =
    let g = c.args.geometry.now in
    let ends : c.args.lba + c.args.sectors ≤ g.sectors = transfer_ends g c.args.lba c.args.sectors (search rules) in
    omega (arith, ends, sectors_limit g c.requires.limits)

pub loop-entry-preserved : goal.loop-entry-preserved
loop-entry-preserved c =
    let g = c.args.geometry.now in
    let history = c.args.history.now in
    let entry = c.entry-item.result in
    let n = c.loop-entry.entry-index in
    let old = c.as_mut_slice.result.now in
    let new = c.overlay.new.window in
    let inside : n < length history = c.loop-entry-test.true in
    let is : entry ≡ get_or history n entry = c.entry-item.is in
    let ends : c.args.lba + c.args.sectors ≤ g.sectors = transfer_ends g c.args.lba c.args.sectors (search rules) in
    let shows : old ≡ sectors_at c.args.lba c.args.sectors (after (blank g.sectors) (take n history)) =
    c.as_mut_slice.ensures.value ∙ c.loop-entry.invariant in
    let whole : length new ≡ c.loop-entry.window.len = omega arith in
    take_at new (drop (length new) c.loop-entry.window.items) c.loop-entry.window.len whole
    ∙ one_more g history n c.args.lba c.args.sectors entry old new c.requires.in_range inside is ends shows c.overlay.ensures
