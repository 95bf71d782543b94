use Rattle.std.proofs.Common.{length, [], ◌∙◌, sym, ap, arith, length-set}
use Rattle.std.proofs.lemmas.List.{get_or_read, set-get_or}
use Rattle.page_list.proofs.Seen.{read_inside}
use Rattle.page_list.proofs.Edits.{kept_same, replaced_seen, lengths_seen, length_seen}
use Rattle.page_list.proofs.page_list.PageList.replace.Goals as goal

pub index_mut-requires : goal.index_mut-requires
index_mut-requires g c =
    omega (
      arith,
      c.self.inside.pages.ok.0,
      read_inside c.self.inside.pages.items (length c.self.inside.free.items)
          c.args.self.now c.self.view_is c.args.at c.requires.place c.requires.some,
    )

pub replace-requires : goal.replace-requires
replace-requires g c =
    let inside = read_inside c.self.inside.pages.items (length c.self.inside.free.items) c.args.self.now c.self.view_is c.args.at
    c.requires.place c.requires.some in
    let is = get_or_read c.self.inside.pages.items c.args.at.page c.index_mut.result.now inside.0 c.index_mut.ensures.value [] in
    omega (arith, inside.1, ap length is)

pub invariant_of-self : goal.invariant_of-self
invariant_of-self g c =
    let inside = read_inside c.self.inside.pages.items (length c.self.inside.free.items) c.args.self.now c.self.view_is c.args.at
    c.requires.place c.requires.some in
    kept_same c.self.inside.pages.items c.self.inside.free.items c.self.inside.surplus _ _ c.self.invariant
    c.args.at.page inside.0
    c.index_mut.result.now c.replace.new.self c.index_mut.ensures.value (ap length c.replace.ensures
    ∙ length-set c.index_mut.result.now c.args.at.item c.args.item)

pub returns-clause-items : goal.returns-clause-items
returns-clause-items g c =
    let inside = read_inside c.self.inside.pages.items (length c.self.inside.free.items) c.args.self.now c.self.view_is c.args.at
    c.requires.place c.requires.some in
    let is = get_or_read c.self.inside.pages.items c.args.at.page c.index_mut.result.now inside.0 c.index_mut.ensures.value [] in
    replaced_seen c.self.inside.pages.items (length c.self.inside.free.items) c.args.self.now c.self.view_is
    c.args.at.page inside.0
    c.index_mut.result.now c.replace.new.self c.index_mut.ensures.value c.args.at.item c.args.item
    (omega (arith, inside.1, ap length is)) c.replace.ensures

pub returns-clause-lengths : goal.returns-clause-lengths
returns-clause-lengths g c =
    let inside = read_inside c.self.inside.pages.items (length c.self.inside.free.items) c.args.self.now c.self.view_is c.args.at
    c.requires.place c.requires.some in
    let same = length_seen c.self.inside.pages.items (length c.self.inside.free.items) c.args.self.now c.self.view_is
    c.args.at.page inside.0
    c.index_mut.result.now c.replace.new.self c.index_mut.ensures.value in
    let long = length-set c.index_mut.result.now c.args.at.item c.args.item in
    lengths_seen c.self.inside.pages.items (length c.self.inside.free.items) c.args.self.now c.self.view_is
    c.args.at.page inside.0
    c.index_mut.result.now c.replace.new.self c.index_mut.ensures.value _ (ap length c.replace.ensures ∙ long ∙ sym same)
    ∙ set-get_or c.args.self.now.lengths c.args.at.page 0
