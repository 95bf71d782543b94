use Rattle.std.proofs.Common.{◌<◌, ◌≤◌, ◌+◌, ◌∙◌, ◌++◌, take, drop, refl, sym, ap, arith, rules}
use Rattle.std.proofs.lemmas.Fn.{says_at}
use Rattle.std.proofs.lemmas.Option.{slice_get_within}
use Rattle.page_list.specs.Items.{cursor_index}
use Rattle.extent_map.proofs.Order.{shortest_drop, fit_drop}
use Rattle.extent_map.proofs.PutPlaces.{fits_read}
use Rattle.extent_map.proofs.Cleared.{none_met, some_kept, cut_left, whole_left, none_spans}
use Rattle.extent_map.proofs.clear.clear_rows.Goals.{then-is_cleared, else-is_cleared, else-row-lba-via-then-row-lba+else-end-row}
use Rattle.extent_map.proofs.clear.clear_rows.Goals.{else-row-lba-via-else-row-lba}
use Rattle.extent_map.proofs.clear.clear_rows.Goals as goal

pub returns-in_default-clause-rows : goal.returns-in_default-clause-rows
returns-in_default-clause-rows g c =
    let order = c.requires.1.1.1.1.1.1.0 in
    let shortest = c.requires.1.1.1.1.1.1.1.0.shortest in
    none_met g.P.Place.on c.args.lba c.args.end order g.test c.args.rows.now.items shortest
    (cursor_index c.args.rows.now.lengths c.first_met-first.result) c.first_met-first.ensures.index (sym c.get.ensures
    ∙ c.in_default.is)

pub overflow_add-row : goal.overflow_add-row
overflow_add-row g c =
    let fits = fits_read g.P.Place.number c.args.rows.now.items (cursor_index c.args.rows.now.lengths c.first_met-first.result)
    c.in-Some.row
    c.requires.1.1.1.1.1.1.1.0.fits (sym c.get.ensures ∙ c.in-Some.is) in
    omega (arith, fits.sectors)

pub cut_out-requires-clause-inside : goal.cut_out-requires-clause-inside
cut_out-requires-clause-inside g c =
    slice_get_within c.args.rows.now.items (cursor_index c.args.rows.now.lengths c.first_met-first.result) c.in-Some.row
    (sym c.get.ensures ∙ c.in-Some.is)

pub cut_out-requires-clause-fits : goal.cut_out-requires-clause-fits
cut_out-requires-clause-fits g c =
    fits_read g.P.Place.number c.args.rows.now.items (cursor_index c.args.rows.now.lengths c.first_met-first.result) c.in-Some.row
    c.requires.1.1.1.1.1.1.1.0.fits (sym c.get.ensures ∙ c.in-Some.is)

pub returns-then-end-row-clause-rows : goal.returns-then-end-row-clause-rows
returns-then-end-row-clause-rows g c =
    let order = c.requires.1.1.1.1.1.1.0 in
    let shortest = c.requires.1.1.1.1.1.1.1.0.shortest in
    let answers = c.requires.1.1.1.1.1.1.1.1.1 in
    let row = c.in-Some.row in
    let n = cursor_index c.args.rows.now.lengths c.first_met-first.result in
    let said = answers row.place c.is_cleared.result (says_at g.F.Fn c.is_cleared.ensures refl) in
    elim c.if-is_cleared.branch [
      | then-is_cleared w ↦
          ap (λ v. v.items) w.rows-is
          ∙ w.cut_out.ensures.rows
          ∙ cut_left g.P.Place.on c.args.lba c.args.end order g.test c.args.rows.now.items shortest n
          c.first_met-first.ensures.index
          row (sym c.get.ensures ∙ c.in-Some.is) (sym said ∙ w.if-is_cleared.true) c.if-row-lba.true c.if-end-row.true
      | else-is_cleared w ↦
          ap (λ v. v.items) w.rows-is
          ∙ whole_left g.P.Place.on c.args.lba c.args.end order g.test c.args.rows.now.items shortest n
          c.first_met-first.ensures.index
          row (sym c.get.ensures ∙ c.in-Some.is) (sym said ∙ w.if-is_cleared.false) c.if-end-row.true
    ]

pub keep_parts-requires : goal.keep_parts-requires
keep_parts-requires g c κs within =
    let order = c.requires.1.1.1.1.1.1.0 in
    let shortest = c.requires.1.1.1.1.1.1.1.0.shortest in
    let fits = c.requires.1.1.1.1.1.1.1.0.fits in
    let calls = c.requires.1.1.1.1.1.1.1.1 in
    let rows = c.args.rows.now.items in
    let n = cursor_index c.args.rows.now.lengths c.first_met-first.result in
    let spans : c.in-Some.row.lba < c.args.lba → c.in-Some.row.lba + c.in-Some.row.sectors ≤ c.args.end =
    elim c.else-row-lba.branch [
      | else-row-lba-via-then-row-lba+else-end-row w ↦ λ early. w.if-end-row.false
      | else-row-lba-via-else-row-lba w ↦ λ early. absurd (omega (arith, w.if-row-lba.false))
    ] in (
      search rules,
      (
        search rules,
        (
          order,
          (
            c.first_met-first.ensures.place,
            (
              shortest_drop g.P.Place.on n rows shortest,
              (
                fit_drop g.P.Place.number n rows fits,
                (
                  none_spans g.P.Place.on c.args.lba c.args.end order g.test rows shortest n c.first_met-first.ensures.index
                      c.in-Some.row (sym c.get.ensures ∙ c.in-Some.is) spans,
                  calls,
                ),
              ),
            ),
          ),
        ),
      ),
    )

pub returns-clause-rows : goal.returns-clause-rows
returns-clause-rows g c =
    let order = c.requires.1.1.1.1.1.1.0 in
    let shortest = c.requires.1.1.1.1.1.1.1.0.shortest in
    let left = c.keep_parts.new.rows.items in
    c.remove.ensures.items
    ∙ ap (λ ns. take (cursor_index ns c.keep_parts.result.0) left ++ drop (cursor_index ns c.keep_parts.result.1) left)
    c.keep_parts.ensures.lengths
    ∙ c.keep_parts.ensures.rows
    ∙ some_kept g.P.Place.on c.args.lba c.args.end order g.test c.args.rows.now.items shortest
    (cursor_index c.args.rows.now.lengths c.first_met-first.result) c.first_met-first.ensures.index
