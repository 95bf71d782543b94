use Rattle.std.proofs.Common.{◌≡◌, ◌<◌, ◌≤◌, ◌+◌, ◌-◌, ◌∙◌, ◌++◌, ◌∷◌, [], length, drop, sym, ap, arith, length-append}
use Rattle.std.specs.Prelude.{option_to_list}
use Rattle.std.proofs.lemmas.List.{append-nil}
use Rattle.std.proofs.lemmas.Option.{slice_get_within}
use Rattle.page_list.specs.Items.{cursor_index}
use Rattle.extent_map.specs.Cut.{rows_before, rows_from}
use Rattle.extent_map.proofs.PutPlaces.{fits_read}
use Rattle.extent_map.proofs.Walked.{walked_step, walked_past, walked_all}
use Rattle.extent_map.proofs.look.look.Goals.{in-Some+in_ok-push, in_default, in-Some-get+in_default-before, in_default-get}
use Rattle.extent_map.proofs.look.look.Goals as goal

pub loop-row-init : goal.loop-row-init
loop-row-init g c =
    let rows = c.args.rows.now.items in
    let n = cursor_index c.args.rows.now.lengths c.first_from-at.result in
    let is : c.match-part_over.found.items ≡ option_to_list c.part_over.result =
    elim c.match-part_over.branch [
      | in-Some+in_ok-push w ↦
          ap (λ v. v.items) w.found-is
          ∙ w.in_ok-push.ensures.items
          ∙ ap (λ xs. xs ++ w.in-Some.part ∷ []) c.new-found.ensures.items
          ∙ sym (ap option_to_list w.in-Some.is)
      | in_default w ↦
          ap (λ v. v.items) w.found-is
          ∙ c.new-found.ensures.items
          ∙ sym (ap option_to_list w.in_default.is)
    ] in
    record {
      place = c.first_from-at.ensures.place;
      all = ap (λ xs. xs ++ rows_before c.args.end (drop n rows)) is ∙ c.part_over.ensures.part;
      steps = omega arith;
      rises = omega arith;
    }

pub before-requires : goal.before-requires
before-requires g c =
    fits_read g.P.Place.number c.args.rows.now.items (cursor_index c.args.rows.now.lengths c.loop-row.at) c.in-Some-get.row
    c.requires.fits
    (sym c.get.ensures ∙ c.in-Some-get.is)

pub next-at-requires-clause-some : goal.next-at-requires-clause-some
next-at-requires-clause-some g c =
    slice_get_within c.args.rows.now.items (cursor_index c.args.rows.now.lengths c.loop-row.at) c.in-Some-get.row
    (sym c.get.ensures ∙ c.in-Some-get.is)

pub loop-row-smaller : goal.loop-row-smaller
loop-row-smaller g c =
    let rows = c.args.rows.now in
    let inside = slice_get_within rows.items (cursor_index rows.lengths c.loop-row.at) c.in-Some-get.row (sym c.get.ensures
    ∙ c.in-Some-get.is) in
    let less : length rows.items - cursor_index rows.lengths c.next-at.result < length rows.items - cursor_index rows.lengths
    c.loop-row.at =
    omega (arith, inside, c.next-at.ensures.index) in
    less

pub loop-row-preserved : goal.loop-row-preserved
loop-row-preserved g c =
    let rows = c.args.rows.now in
    let found = c.loop-row.found.items in
    let whole = rows_before c.args.end (rows_from g.P.Place.on c.args.lba rows.items) in
    let long = ap length c.in_ok-push-2.ensures.items ∙ length-append found (c.in-Some-before.part ∷ []) in
    record {
      place = c.next-at.ensures.place;
      all = walked_step g.P.Place.on c.args.end (cursor_index rows.lengths c.loop-row.at) rows.items c.in-Some-get.row
          (sym c.get.ensures ∙ c.in-Some-get.is)
          (cursor_index rows.lengths c.next-at.result) c.in-Some-before.part found c.push-in-Some-get.new.self.items whole
          c.next-at.ensures.index (sym c.in-Some-before.is ∙ c.before-in-Some-get.ensures) c.in_ok-push-2.ensures.items
          c.loop-row.invariant.all;
      steps = omega (arith, long, c.count.ensures, c.loop-row.invariant.steps);
      rises = omega (arith, c.count.ensures, c.loop-row.invariant.rises);
    }

pub returns-clause-rows : goal.returns-clause-rows
returns-clause-rows g c =
    let rows = c.args.rows.now in
    let n = cursor_index c.args.rows.now.lengths c.loop-row.at in
    let found = c.loop-row.found.items in
    let none : rows_before c.args.end (drop n rows.items) ≡ [] =
    elim c.match-get.branch [
      | in-Some-get+in_default-before w ↦
          walked_past g.P.Place.on c.args.end n rows.items w.in-Some-get.row (sym c.get.ensures ∙ w.in-Some-get.is)
          c.requires.shortest
          (sym w.in_default-before.is ∙ w.before-in-Some-get.ensures)
      | in_default-get w ↦ walked_all g.P.Place.on c.args.end n rows.items (sym c.get.ensures ∙ w.in_default-get.is)
    ] in
    sym (append-nil found) ∙ ap (λ xs. found ++ xs) (sym none) ∙ c.loop-row.invariant.all

pub returns-clause-steps : goal.returns-clause-steps
returns-clause-steps g c k few =
    let first = c.first_from-at.ensures.steps k few in
    let last : c.match-get.steps ≤ c.loop-row.steps + 2 =
    elim c.match-get.branch [
      | in-Some-get+in_default-before w ↦ omega (arith, w.steps-is, w.count.ensures)
      | in_default-get w ↦ omega (arith, w.steps-is)
    ] in
    omega (arith, first, last, c.part_over.ensures.steps, c.loop-row.invariant.steps)
