use Rattle.std.proofs.Common.{◌≤◌, ◌+◌, ◌∙◌, ◌++◌, ◌∷◌, [], length, drop, take, sym, ap, arith, length-append, length-take-le}
use Rattle.std.proofs.Common.{take-append-drop}
use Rattle.std.proofs.Math.ListN.{set}
use Rattle.page_list.specs.Items.{cursor_index}
use Rattle.extent_map.specs.Cut.{cut_short, rows_from}
use Rattle.extent_map.proofs.CutEnds.{none_before, whole_from, last_inside, last_begins, last_fits, before_whole, from_whole}
use Rattle.extent_map.proofs.CutEnds.{before_part, from_part, written_front, written_past, parts_whole}
use Rattle.extent_map.proofs.cut.cut_one.Goals as goal

pub returns-in_default-clause-rows : goal.returns-in_default-clause-rows
returns-in_default-clause-rows g c =
    sym (ap (λ xs. xs ++ rows_from g.P.Place.on c.args.end c.args.rows.now.items)
    (none_before g.P.Place.on c.args.rows.now.items c.args.lba (cursor_index c.args.rows.now.lengths c.args.next)
    c.requires.shortest c.requires.lba c.in_default.ensures)
    ∙ whole_from g.P.Place.on c.args.rows.now.items c.args.end (cursor_index c.args.rows.now.lengths c.args.next)
    c.requires.shortest c.requires.end c.in_default.ensures)

pub returns-in_default-clause-index : goal.returns-in_default-clause-index
returns-in_default-clause-index g c =
    omega (
      arith,
      c.in_default.ensures,
      ap length (none_before g.P.Place.on c.args.rows.now.items c.args.lba
          (cursor_index c.args.rows.now.lengths c.args.next) c.requires.shortest c.requires.lba c.in_default.ensures),
    )

pub overflow_add-row_end : goal.overflow_add-row_end
overflow_add-row_end g c =
    let fits = last_fits g.P.Place.on c.args.rows.now.items c.args.lba (cursor_index c.args.rows.now.lengths c.args.next)
    c.requires.shortest c.requires.lba
    (cursor_index c.args.rows.now.lengths c.in-Some.last) c.in-Some.row c.in-Some.ensures.1 c.in-Some.ensures.2 g.P.Place.number
    c.requires.fits in
    omega (arith, fits.sectors)

pub returns-then-row_end-lba-clause-rows : goal.returns-then-row_end-lba-clause-rows
returns-then-row_end-lba-clause-rows g c =
    let n = cursor_index c.args.rows.now.lengths c.args.next in
    let ended : c.in-Some.row.lba + c.in-Some.row.sectors ≤ c.args.end = omega (arith, c.if-row_end-lba.true, c.requires.order) in
    sym (take-append-drop n c.args.rows.now.items)
    ∙ sym (ap (λ xs. xs ++ rows_from g.P.Place.on c.args.end c.args.rows.now.items)
    (before_whole g.P.Place.on c.args.rows.now.items c.args.lba (cursor_index c.args.rows.now.lengths c.args.next)
    c.requires.shortest c.requires.lba
    (cursor_index c.args.rows.now.lengths c.in-Some.last) c.in-Some.row c.in-Some.ensures.1 c.in-Some.ensures.2
    c.if-row_end-lba.true)
    ∙ ap (λ xs. take n c.args.rows.now.items ++ xs)
    (from_whole g.P.Place.on c.args.rows.now.items c.args.end (cursor_index c.args.rows.now.lengths c.args.next)
    c.requires.shortest c.requires.end
    (cursor_index c.args.rows.now.lengths c.in-Some.last) c.in-Some.row c.in-Some.ensures.1 c.in-Some.ensures.2 ended))

pub returns-then-row_end-lba-clause-index : goal.returns-then-row_end-lba-clause-index
returns-then-row_end-lba-clause-index g c =
    let n = cursor_index c.args.rows.now.lengths c.args.next in
    let inside = last_inside g.P.Place.on c.args.rows.now.items c.args.lba (cursor_index c.args.rows.now.lengths c.args.next)
    c.requires.shortest c.requires.lba
    (cursor_index c.args.rows.now.lengths c.in-Some.last) c.in-Some.row c.in-Some.ensures.1 c.in-Some.ensures.2 in
    let whole : n ≤ length c.args.rows.now.items = omega (arith, inside, c.in-Some.ensures.1) in
    omega (
      arith,
      length-take-le (cursor_index c.args.rows.now.lengths c.args.next) c.args.rows.now.items whole,
      ap length (before_whole g.P.Place.on c.args.rows.now.items c.args.lba (cursor_index c.args.rows.now.lengths c.args.next)
          c.requires.shortest c.requires.lba
          (cursor_index c.args.rows.now.lengths c.in-Some.last) c.in-Some.row c.in-Some.ensures.1 c.in-Some.ensures.2
          c.if-row_end-lba.true),
    )

pub overflow_sub-lba : goal.overflow_sub-lba
overflow_sub-lba g c =
    let begins = last_begins g.P.Place.on c.args.rows.now.items c.args.lba (cursor_index c.args.rows.now.lengths c.args.next)
    c.requires.shortest c.requires.lba
    (cursor_index c.args.rows.now.lengths c.in-Some.last) c.in-Some.row c.in-Some.ensures.1 c.in-Some.ensures.2 in
    omega (arith, begins)

pub replace-requires-clause-some : goal.replace-requires-clause-some
replace-requires-clause-some g c =
    last_inside g.P.Place.on c.args.rows.now.items c.args.lba (cursor_index c.args.rows.now.lengths c.args.next)
    c.requires.shortest c.requires.lba
    (cursor_index c.args.rows.now.lengths c.in-Some.last) c.in-Some.row c.in-Some.ensures.1 c.in-Some.ensures.2

pub returns-then-row_end-end-clause-rows : goal.returns-then-row_end-end-clause-rows
returns-then-row_end-end-clause-rows g c =
    let i = cursor_index c.args.rows.now.lengths c.in-Some.last in
    let n = cursor_index c.args.rows.now.lengths c.args.next in
    let inside = last_inside g.P.Place.on c.args.rows.now.items c.args.lba (cursor_index c.args.rows.now.lengths c.args.next)
    c.requires.shortest c.requires.lba
    (cursor_index c.args.rows.now.lengths c.in-Some.last) c.in-Some.row c.in-Some.ensures.1 c.in-Some.ensures.2 in
    c.replace.ensures.items
    ∙ parts_whole c.args.rows.now.items i n (cut_short c.args.lba c.in-Some.row) c.in-Some.ensures.1 inside
    ∙ sym (ap (λ xs. xs ++ rows_from g.P.Place.on c.args.end c.args.rows.now.items)
    (before_part g.P.Place.on c.args.rows.now.items c.args.lba (cursor_index c.args.rows.now.lengths c.args.next)
    c.requires.shortest c.requires.lba
    (cursor_index c.args.rows.now.lengths c.in-Some.last) c.in-Some.row c.in-Some.ensures.1 c.in-Some.ensures.2
    c.if-row_end-lba.false)
    ∙ ap (λ xs. (take i c.args.rows.now.items ++ cut_short c.args.lba c.in-Some.row ∷ []) ++ xs)
    (from_whole g.P.Place.on c.args.rows.now.items c.args.end (cursor_index c.args.rows.now.lengths c.args.next)
    c.requires.shortest c.requires.end
    (cursor_index c.args.rows.now.lengths c.in-Some.last) c.in-Some.row c.in-Some.ensures.1 c.in-Some.ensures.2
    c.if-row_end-end.true))

pub returns-then-row_end-end-clause-index : goal.returns-then-row_end-end-clause-index
returns-then-row_end-end-clause-index g c =
    let i = cursor_index c.args.rows.now.lengths c.in-Some.last in
    let inside = last_inside g.P.Place.on c.args.rows.now.items c.args.lba (cursor_index c.args.rows.now.lengths c.args.next)
    c.requires.shortest c.requires.lba
    (cursor_index c.args.rows.now.lengths c.in-Some.last) c.in-Some.row c.in-Some.ensures.1 c.in-Some.ensures.2 in
    let whole : cursor_index c.args.rows.now.lengths c.in-Some.last ≤ length c.args.rows.now.items = omega (arith, inside) in
    let same = ap (λ ns. cursor_index ns c.args.next) c.replace.ensures.lengths in
    let parts = before_part g.P.Place.on c.args.rows.now.items c.args.lba (cursor_index c.args.rows.now.lengths c.args.next)
    c.requires.shortest c.requires.lba
    (cursor_index c.args.rows.now.lengths c.in-Some.last) c.in-Some.row c.in-Some.ensures.1 c.in-Some.ensures.2
    c.if-row_end-lba.false in
    omega (
      arith,
      same,
      c.in-Some.ensures.1,
      ap length parts,
      length-append (take i c.args.rows.now.items) (cut_short c.args.lba c.in-Some.row ∷ []),
      length-take-le (cursor_index c.args.rows.now.lengths c.in-Some.last) c.args.rows.now.items whole,
    )

pub rest-requires-clause-fits : goal.rest-requires-clause-fits
rest-requires-clause-fits g c =
    last_fits g.P.Place.on c.args.rows.now.items c.args.lba (cursor_index c.args.rows.now.lengths c.args.next) c.requires.shortest
    c.requires.lba
    (cursor_index c.args.rows.now.lengths c.in-Some.last) c.in-Some.row c.in-Some.ensures.1 c.in-Some.ensures.2 g.P.Place.number
    c.requires.fits

pub rest-requires-clause-from : goal.rest-requires-clause-from
rest-requires-clause-from g c =
    let begins = last_begins g.P.Place.on c.args.rows.now.items c.args.end (cursor_index c.args.rows.now.lengths c.args.next)
    c.requires.shortest c.requires.end
    (cursor_index c.args.rows.now.lengths c.in-Some.last) c.in-Some.row c.in-Some.ensures.1 c.in-Some.ensures.2 in
    omega (arith, begins)

pub returns-clause-rows : goal.returns-clause-rows
returns-clause-rows g c =
    let rows = c.args.rows.now.items in
    let i = cursor_index c.args.rows.now.lengths c.in-Some.last in
    let n = cursor_index c.args.rows.now.lengths c.args.next in
    let short = cut_short c.args.lba c.in-Some.row in
    let inside = last_inside g.P.Place.on c.args.rows.now.items c.args.lba (cursor_index c.args.rows.now.lengths c.args.next)
    c.requires.shortest c.requires.lba
    (cursor_index c.args.rows.now.lengths c.in-Some.last) c.in-Some.row c.in-Some.ensures.1 c.in-Some.ensures.2 in
    let same = ap (λ ns. cursor_index ns c.args.next) c.replace.ensures.lengths in
    c.insert.ensures.items
    ∙ ap (λ k. take k c.replace.new.self.items ++ c.rest.result ∷ drop k c.replace.new.self.items) same
    ∙ ap (λ xs. take n xs ++ c.rest.result ∷ drop n xs) c.replace.ensures.items
    ∙ ap (λ xs. xs ++ c.rest.result ∷ drop n (set rows i short)) (written_front rows i n short c.in-Some.ensures.1 inside)
    ∙ ap (λ xs. (take i rows ++ short ∷ []) ++ c.rest.result ∷ xs) (written_past rows i n short c.in-Some.ensures.1 inside)
    ∙ ap (λ r. (take i rows ++ short ∷ []) ++ r ∷ drop n rows) c.rest.ensures
    ∙ sym (ap (λ xs. xs ++ rows_from g.P.Place.on c.args.end rows)
    (before_part g.P.Place.on c.args.rows.now.items c.args.lba (cursor_index c.args.rows.now.lengths c.args.next)
    c.requires.shortest c.requires.lba
    (cursor_index c.args.rows.now.lengths c.in-Some.last) c.in-Some.row c.in-Some.ensures.1 c.in-Some.ensures.2
    c.if-row_end-lba.false)
    ∙ ap (λ xs. (take i rows ++ short ∷ []) ++ xs)
    (from_part g.P.Place.on c.args.rows.now.items c.args.end (cursor_index c.args.rows.now.lengths c.args.next)
    c.requires.shortest c.requires.end
    (cursor_index c.args.rows.now.lengths c.in-Some.last) c.in-Some.row c.in-Some.ensures.1 c.in-Some.ensures.2
    c.if-row_end-end.false))

pub returns-clause-index : goal.returns-clause-index
returns-clause-index g c =
    let i = cursor_index c.args.rows.now.lengths c.in-Some.last in
    let inside = last_inside g.P.Place.on c.args.rows.now.items c.args.lba (cursor_index c.args.rows.now.lengths c.args.next)
    c.requires.shortest c.requires.lba
    (cursor_index c.args.rows.now.lengths c.in-Some.last) c.in-Some.row c.in-Some.ensures.1 c.in-Some.ensures.2 in
    let whole : cursor_index c.args.rows.now.lengths c.in-Some.last ≤ length c.args.rows.now.items = omega (arith, inside) in
    let same = ap (λ ns. cursor_index ns c.args.next) c.replace.ensures.lengths in
    let parts = before_part g.P.Place.on c.args.rows.now.items c.args.lba (cursor_index c.args.rows.now.lengths c.args.next)
    c.requires.shortest c.requires.lba
    (cursor_index c.args.rows.now.lengths c.in-Some.last) c.in-Some.row c.in-Some.ensures.1 c.in-Some.ensures.2
    c.if-row_end-lba.false in
    omega (
      arith,
      same,
      c.in-Some.ensures.1,
      ap length parts,
      length-append (take i c.args.rows.now.items) (cut_short c.args.lba c.in-Some.row ∷ []),
      length-take-le (cursor_index c.args.rows.now.lengths c.in-Some.last) c.args.rows.now.items whole,
      c.insert.ensures.index,
    )
