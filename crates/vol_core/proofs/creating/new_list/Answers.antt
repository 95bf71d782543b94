use Rattle.std.proofs.Common.{◌≡◌, ◌∙◌, refl, sym, ap, subst}
use Rattle.lsvd_names.specs.Names.{numbered_name}
use Rattle.object_table.specs.Table.{IsNewest}
use Rattle.object_uploads.specs.State.{UploadsState}
use Rattle.object_uploads.specs.Opening.{HasBegun}
use Rattle.obj_log.specs.State.{ObjLogState}
use Rattle.vol_core.proofs.CreateLemmas.{none_is_newest, new_list_is}
use Rattle.vol_core.proofs.creating.new_list.Goals as goal

pub begin-requires-clause-newest : goal.begin-requires-clause-newest
begin-requires-clause-newest g c =
    let e = c.new-objects.ensures in
    subst (λ (u : UploadsState). IsNewest u.queue.maps.objects u.queue.frontier) (sym c.uploads_mut.ensures.is)
    (none_is_newest c.new-objects.result.uploads e.frontier e.objects e.checkpoint)

pub begin-requires-clause-named : goal.begin-requires-clause-named
begin-requires-clause-named g c =
    let e = c.new-objects.ensures in
    let uploads = c.new-objects.result.uploads in
    let receipt = g.R.Receipt.state c.args.receipt in
    let named : receipt.name ≡ numbered_name uploads.uuid uploads.queue.frontier =
    c.requires.named ∙ (ap (λ u. numbered_name u 1) (sym e.uuid) ∙ ap (numbered_name uploads.uuid) (sym e.frontier)) in
    subst (λ (u : UploadsState). receipt.name ≡ numbered_name u.uuid u.queue.frontier) (sym c.uploads_mut.ensures.is) named

pub begin-requires-clause-none : goal.begin-requires-clause-none
begin-requires-clause-none g c = ap (λ (u : UploadsState). u.queue.sealed) c.uploads_mut.ensures.is ∙ c.new-objects.ensures.sealed

pub begin-requires-clause-no_removal : goal.begin-requires-clause-no_removal
begin-requires-clause-no_removal g c =
    ap (λ (u : UploadsState). u.queue.removal) c.uploads_mut.ensures.is ∙ c.new-objects.ensures.removal

pub returns : goal.returns
returns g c =
    let e = c.new-objects.ensures in
    let old = c.new-objects.result in
    let new : ObjLogState = record { batch = old.batch; uploads = c.begin.new.self } in
    let receipt = g.R.Receipt.state c.args.receipt in
    let begun : HasBegun receipt old.uploads new.uploads =
    subst (λ (u : UploadsState). HasBegun receipt u new.uploads) c.uploads_mut.ensures.is c.in_ok-begin.ensures.begun in
    new_list_is c.args.uuid c.args.geometry receipt old new e.batch e.uuid e.sectors e.ancestors e.window e.frontier e.end
    e.sealed e.removal e.settled e.log e.objects refl begun c.in_ok-begin.ensures.order
