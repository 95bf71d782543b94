use Rattle.std.proofs.Common.{refl, sym, ◌∙◌, ap}
use Rattle.std.specs.Prelude.{option_to_list, slice_get, []}
use Rattle.std.specs.Option.{option_or}
use Rattle.extent_map.specs.Cut.{part_before}
use Rattle.std.proofs.lemmas.Fn.{says_at}
use Rattle.extent_map.proofs.Kept.{one_part, kept_row, kept_part}
use Rattle.extent_map.proofs.clear.part_kept.Goals as goal

pub returns-then-not-is_cleared : goal.returns-then-not-is_cleared
returns-then-not-is_cleared g c =
    let order = c.requires.1.1.0 in
    let answers = c.requires.1.1.1.1.1.1 in
    let said = answers c.args.row.place c.is_cleared.result (says_at g.F.Fn c.is_cleared.ensures refl) in
    kept_row g.P.Place.on c.args.lba c.args.end order g.test c.args.row (sym said ∙ c.if-not-is_cleared.true)

pub returns : goal.returns
returns g c =
    let order = c.requires.1.1.0 in
    let spans = c.requires.1.1.1.1.0 in
    let answers = c.requires.1.1.1.1.1.1 in
    let said = answers c.args.row.place c.is_cleared.result (says_at g.F.Fn c.is_cleared.ensures refl) in
    ap option_to_list (c.or.ensures
    ∙ ap (λ part. option_or part c.after.result) c.before-2.ensures
    ∙ ap (λ part. option_or (slice_get (part_before c.args.lba c.args.row []) 0) part) c.after.ensures)
    ∙ one_part g.P.Place.on c.args.lba c.args.end order c.args.row spans
    ∙ kept_part g.P.Place.on c.args.lba c.args.end order g.test c.args.row (sym said ∙ c.if-not-is_cleared.false)
