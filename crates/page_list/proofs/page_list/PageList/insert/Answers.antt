use Rattle.std.proofs.Common.{◌≡◌, ◌∷◌, ◌++◌, length, take, drop, sym, ◌∙◌, ap, arith}
use Rattle.page_list.specs.Items.{cursor_index}
use Rattle.page_list.proofs.Cuts.{place_kept, place_pushed, free_for_new}
use Rattle.page_list.proofs.More.{seen_count}
use Rattle.page_list.proofs.Rooms.{room_push, halves_put, room_bound}
use Rattle.page_list.proofs.Seen.{pushed_here}
use Rattle.page_list.proofs.page_list.PageList.insert.Goals as goal

pub push_page-requires : goal.push_page-requires
push_page-requires g c = free_for_new c.args.self.now c.requires.room (c.is_last_full.ensures.0 c.if-is_last_full.true)

pub returns-then-is_last_full : goal.returns-then-is_last_full
returns-then-is_last_full g c =
    let pages = c.self.inside.pages.items in
    let free = length c.self.inside.free.items in
    let here : c.args.at.page ≡ length c.self.inside.pages.items =
    omega (arith, c.if-at-len.true, c.len.ensures, c.self.inside.pages.ok.0) in
    let last = here ∙ sym (seen_count pages free c.args.self.now c.self.view_is) in
    let place = place_pushed c.args.self.now.lengths c.push_page.new.self.lengths c.args.at c.requires.place last
    c.push_page.ensures.lengths in
    record {
      items =
          c.push_page.ensures.items
          ∙ pushed_here pages free c.args.self.now c.self.view_is c.args.at c.args.item c.requires.place here;
      place = place.0;
      index = place.1;
      room =
          room_push c.args.self.now c.push_page.new.self (c.is_last_full.ensures.0 c.if-is_last_full.true)
          c.push_page.ensures.lengths c.push_page.ensures.free;
      steps = omega (arith, c.push_page.ensures.steps);
      rises = omega (arith, c.push_page.ensures.steps);
    }

pub put-requires : goal.put-requires
put-requires g c = record {
  page = c.place_for-place.ensures.page;
  place = c.place_for-place.ensures.place;
  room = c.place_for-place.ensures.not_full;
}

pub returns : goal.returns
returns g c =
    let at = cursor_index c.args.self.now.lengths c.args.at in
    let x = c.args.item in
    let into = c.place_for-place.new.self.items in
    let place = place_kept c.place_for-place.new.self.lengths c.put.new.self.lengths c.place_for-place.result _
    c.place_for-place.ensures.page (omega (arith, c.place_for-place.ensures.place)) c.put.ensures.lengths in
    record {
      items =
          c.put.ensures.items
          ∙ ap (λ n. take n into ++ x ∷ drop n into) c.place_for-place.ensures.index
          ∙ ap (λ xs. take at xs ++ x ∷ drop at xs) c.place_for-place.ensures.items;
      place = place.0;
      index = place.1 ∙ c.place_for-place.ensures.index;
      room =
          room_bound c.args.self.now c.put.new.self (omega (arith, c.place_for-place.ensures.free, c.put.ensures.free))
          (omega (
            arith,
            c.place_for-place.ensures.halves,
            halves_put c.place_for-place.new.self c.put.new.self c.place_for-place.result.page c.place_for-place.ensures.page
                c.put.ensures.lengths c.put.ensures.free,
          ));
      steps = omega (arith, c.place_for-place.ensures.steps, c.put.ensures.steps);
      rises = omega (arith, c.place_for-place.ensures.rises, c.put.ensures.steps);
    }
