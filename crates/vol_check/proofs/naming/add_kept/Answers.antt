use Rattle.std.proofs.Common.{◌≡◌, Some, List, ℕ, refl, sym, subst}
use Rattle.std.specs.Prelude.{IfSome}
use Rattle.std.proofs.lemmas.Result.{IfErr-weaker, on_ok_weaker}
use Rattle.lsvd_objstore.specs.Objects.{found}
use Rattle.object_stream.specs.Replay.{object_name}
use Rattle.stopped_volume.specs.Expected.{expected_alone}
use Rattle.vol_check.specs.Steps.{IsWhyNoRows, RefusesKept}
use Rattle.vol_check.proofs.HeldLemmas.{told_kept, told_bad, told_absent}
use Rattle.vol_check.proofs.naming.add_kept.Goals as goal

pub returns-in-Ok-clause-adds : goal.returns-in-Ok-clause-adds
returns-in-Ok-clause-adds g c = λ tells.
    let told = (g.S.Store.state c.args.store.now).objects in
    let volume = c.args.volume.now in
    let number = c.args.number in
    let bytes : List ℕ = c.as_slice.result.now in
    let present = subst (λ b. IfSome told (λ objects. found objects (object_name volume number) ≡ Some b))
    (sym c.as_slice.ensures.value) (c.in-Ok.ensures.bytes tells) in
    on_ok_weaker c.add_rows.result
    (told_kept volume number told bytes present c.args.named.now c.add.new.named c.add_rows.new.named c.in_ok-add.ensures)
    c.add_rows.ensures.adds

pub returns-in-Ok-clause-refused : goal.returns-in-Ok-clause-refused
returns-in-Ok-clause-refused g c = λ tells.
    let told = (g.S.Store.state c.args.store.now).objects in
    let volume = c.args.volume.now in
    let number = c.args.number in
    let bytes : List ℕ = c.as_slice.result.now in
    let present = subst (λ b. IfSome told (λ objects. found objects (object_name volume number) ≡ Some b))
    (sym c.as_slice.ensures.value) (c.in-Ok.ensures.bytes tells) in
    IfErr-weaker c.add_rows.result (IsWhyNoRows bytes (expected_alone volume number))
    (λ error. IfSome told (λ objects. RefusesKept volume objects number error)) (told_bad volume number told bytes present)
    c.add_rows.ensures.refused

pub returns-in-Err-MissingObject-clause-adds : goal.returns-in-Err-MissingObject-clause-adds
returns-in-Err-MissingObject-clause-adds g c = λ tells.
    told_absent c.args.volume.now c.args.number (g.S.Store.state c.args.store.now).objects c.in-Err-MissingObject.field-0-0
    c.args.named.now c.add.new.named c.in_ok-add.ensures
    ((rw c.in-Err-MissingObject.field-0-is at c.in-Err-MissingObject.ensures.refused) tells refl)
