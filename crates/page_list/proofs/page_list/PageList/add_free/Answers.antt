use Rattle.std.proofs.Common.{◌≡◌, ◌+◌, ◌^◌, ◌≤◌, length, sym, ◌∙◌, refl, le_refl, le_of_eq, ap, arith}
use Rattle.std.proofs.lemmas.Result.{IfOk-from_err, on_ok_weaker}
use Rattle.page_list.specs.Pages.{items_of, lengths_of}
use Rattle.page_list.proofs.More.{kept_more, kept_room, seen_items, seen_lengths, seen_count, seen_free}
use Rattle.page_list.proofs.page_list.PageList.add_free.Goals as goal

pub overflow_add-len : goal.overflow_add-len
overflow_add-len g c =
    omega (
      arith,
      c.requires,
      c.self.invariant.few,
      c.self.inside.free.ok.0,
      c.len.ensures,
      c.len-2.ensures,
      c.saturating_sub-missing.ensures,
    )

pub invariant_of-self : goal.invariant_of-self
invariant_of-self g c =
    kept_room c.self.inside.pages.items c.self.inside.free.items _ _ c.self.inside.surplus _ _ _ _ c.self.invariant
    c.reserve.ensures.items refl c.reserve.ensures.capacity (le_refl _)

pub returns-in_err-reserve : goal.returns-in_err-reserve
returns-in_err-reserve g c =
    let pages = c.self.inside.pages.items in
    let free = length c.self.inside.free.items in
    record {
      ok = IfOk-from_err c.from_residual.result _ c.from_residual.ensures.0;
      items = ap items_of c.reserve.ensures.items ∙ seen_items pages free c.args.self.now c.self.view_is;
      lengths = ap lengths_of c.reserve.ensures.items ∙ seen_lengths pages free c.args.self.now c.self.view_is;
      free = le_of_eq (sym (seen_free pages free c.args.self.now c.self.view_is));
    }

pub overflow_add-len-2 : goal.overflow_add-len-2
overflow_add-len-2 g c =
    let count = seen_count c.self.inside.pages.items (length c.self.inside.free.items) c.args.self.now c.self.view_is in
    omega (
      arith,
      c.requires,
      count,
      ap length c.reserve.ensures.items,
      c.reserve.new.self.ok.0,
      c.len-3.ensures,
      c.saturating_sub-missing.ensures,
    )

pub invariant_of-self-in_err-reserve-2 : goal.invariant_of-self-in_err-reserve-2
invariant_of-self-in_err-reserve-2 g c =
    kept_room c.self.inside.pages.items c.self.inside.free.items _ _ c.self.inside.surplus _ _ _ _ c.self.invariant
    c.reserve.ensures.items c.reserve-2.ensures.items c.reserve.ensures.capacity c.reserve-2.ensures.capacity

pub returns-in_err-reserve-2 : goal.returns-in_err-reserve-2
returns-in_err-reserve-2 g c =
    let pages = c.self.inside.pages.items in
    let free = length c.self.inside.free.items in
    record {
      ok = IfOk-from_err c.from_residual-in_err-reserve-2.result _ c.from_residual-in_err-reserve-2.ensures.0;
      items = ap items_of c.reserve.ensures.items ∙ seen_items pages free c.args.self.now c.self.view_is;
      lengths = ap lengths_of c.reserve.ensures.items ∙ seen_lengths pages free c.args.self.now c.self.view_is;
      free = le_of_eq (sym (ap length c.reserve-2.ensures.items ∙ seen_free pages free c.args.self.now c.self.view_is));
    }

pub add_pages-requires : goal.add_pages-requires
add_pages-requires g c =
    omega (arith, c.in_ok-reserve-2.ensures.ok, c.reserve-2.new.self.ok.0)

pub invariant_of-self-2 : goal.invariant_of-self-2
invariant_of-self-2 g c =
    let count = seen_count c.self.inside.pages.items (length c.self.inside.free.items) c.args.self.now c.self.view_is in
    let pages = ap length c.reserve.ensures.items in
    let free = ap length c.reserve-2.ensures.items in
    let few : length c.reserve.new.self.items + length c.add_pages.new.free.items ≤ 2 ^ 47 =
    omega (
      arith,
      c.requires,
      c.self.invariant.few,
      count,
      pages,
      free,
      c.self.inside.free.ok.0,
      c.len.ensures,
      c.saturating_sub-missing.ensures,
      c.add_pages.ensures.bound,
    ) in
    kept_more c.self.inside.pages.items c.self.inside.free.items _ _ c.self.inside.surplus _ _ _ _ c.self.invariant
    c.reserve.ensures.items (c.add_pages.ensures.empty ∙ ap (λ ps. length (items_of ps)) c.reserve-2.ensures.items) few
    (omega (
      arith,
      free,
      c.in_ok-reserve.ensures.ok,
      c.reserve.new.self.ok.0,
      c.self.inside.free.ok.0,
      c.len-2.ensures,
      c.add_pages.ensures.bound,
    ))
    (omega (
      arith,
      c.in_ok-reserve-2.ensures.ok,
      c.reserve.new.self.ok.0,
      c.reserve-2.new.self.ok.0,
      c.len-3.ensures,
      c.add_pages.ensures.bound,
      c.add_pages.ensures.capacity,
    ))

pub returns : goal.returns
returns g c =
    let pages = c.self.inside.pages.items in
    let free = length c.self.inside.free.items in
    let left = ap length c.reserve-2.ensures.items in
    let enough : length c.add_pages.new.free.items ≡ length c.reserve-2.new.self.items + c.saturating_sub-missing.result
    → c.args.pages ≤ length c.add_pages.new.free.items =
    λ is. omega (arith, is, left, c.self.inside.free.ok.0, c.len.ensures, c.saturating_sub-missing.ensures) in
    record {
      ok = on_ok_weaker c.add_pages.result enough c.add_pages.ensures.ok;
      items = ap items_of c.reserve.ensures.items ∙ seen_items pages free c.args.self.now c.self.view_is;
      lengths = ap lengths_of c.reserve.ensures.items ∙ seen_lengths pages free c.args.self.now c.self.view_is;
      free = omega (arith, left, c.add_pages.ensures.more, seen_free pages free c.args.self.now c.self.view_is);
    }
