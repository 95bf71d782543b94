use Rattle.std.proofs.Common.{◌+◌, ◌∙◌, ◌++◌, take, drop, refl, sym, ap, subst, arith, rules}
use Rattle.std.specs.Prelude.{option_to_list}
use Rattle.page_list.specs.Items.{IsIn, cursor_index}
use Rattle.extent_map.proofs.Kept.{kept_all, kept_past, kept_more, next_fits, next_spans}
use Rattle.extent_map.proofs.clear.keep_parts.Goals as goal

pub loop-row-init : goal.loop-row-init
loop-row-init g c =
    let place = c.requires.1.1.1.0 in
    let rows = c.requires.1.1.1.1 in
    record {
      lengths = refl;
      free = refl;
      kept = place;
      place = place;
      so_far = record { all = refl; behind = omega arith; shortest = rows.0; fits = rows.1.0; spans = rows.1.1.0 };
    }

pub part_kept-requires : goal.part_kept-requires
part_kept-requires g c κs within =
    let order = c.requires.1.1.0 in
    let calls = c.requires.1.1.1.1.1.1.1 in
    let so_far = c.loop-row.invariant.so_far in (
      search rules,
      (
        search rules,
        (
          order,
          (
            next_fits g.P.Place.on c.args.lba c.args.end order g.test g.P.Place.number _ _ _ _ so_far c.in-Some.row
                (sym c.get.ensures ∙ c.in-Some.is),
            (
              next_spans g.P.Place.on c.args.lba c.args.end order g.test g.P.Place.number _ _ _ _ so_far c.in-Some.row
                  (sym c.get.ensures ∙ c.in-Some.is),
              calls,
            ),
          ),
        ),
      ),
    )

pub loop-row-preserved : goal.loop-row-preserved
loop-row-preserved g c =
    let order = c.requires.1.1.0 in
    let so_far = c.loop-row.invariant.so_far in
    let same = c.keep_part-kept.ensures.lengths in
    record {
      lengths = c.keep_part-kept.ensures.lengths ∙ c.loop-row.invariant.lengths;
      free = c.keep_part-kept.ensures.free ∙ c.loop-row.invariant.free;
      kept = subst (λ ns. IsIn ns c.keep_part-kept.result) (sym same) c.keep_part-kept.ensures.place;
      place = c.next-at.ensures.place;
      so_far = kept_more g.P.Place.on c.args.lba c.args.end order g.test g.P.Place.number _ _ _ _ so_far c.in-Some.row
          (sym c.get.ensures ∙ c.in-Some.is)
          c.keep_part-kept.new.rows.items (option_to_list c.part_kept.result)
          (cursor_index c.loop-row.rows.lengths c.keep_part-kept.result)
          (cursor_index c.keep_part-kept.new.rows.lengths c.keep_part-kept.result)
          (cursor_index c.keep_part-kept.new.rows.lengths c.next-at.result)
          c.part_kept.ensures c.keep_part-kept.ensures.front c.keep_part-kept.ensures.back c.keep_part-kept.ensures.near
          (ap (λ ns. cursor_index ns c.keep_part-kept.result) same)
          (c.next-at.ensures.index ∙ ap (λ ns. cursor_index ns c.loop-row.at + 1) same);
    }

pub returns-then-end-row-clause-rows : goal.returns-then-end-row-clause-rows
returns-then-end-row-clause-rows g c =
    let order = c.requires.1.1.0 in
    let now = c.loop-row in
    ap (λ ns. take (cursor_index ns now.kept) now.rows.items ++ drop (cursor_index ns now.at) now.rows.items)
    (sym now.invariant.lengths)
    ∙ kept_past g.P.Place.on c.args.lba c.args.end order g.test g.P.Place.number _ _ _ _ now.invariant.so_far c.in-Some.row
    (sym c.get.ensures ∙ c.in-Some.is) c.if-end-row.true

pub returns-in_default-clause-rows : goal.returns-in_default-clause-rows
returns-in_default-clause-rows g c =
    let order = c.requires.1.1.0 in
    let now = c.loop-row in
    ap (λ ns. take (cursor_index ns now.kept) now.rows.items ++ drop (cursor_index ns now.at) now.rows.items)
    (sym now.invariant.lengths)
    ∙ kept_all g.P.Place.on c.args.lba c.args.end order g.test g.P.Place.number _ _ _ _ now.invariant.so_far (sym c.get.ensures
    ∙ c.in_default.is)
