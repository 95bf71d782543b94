use Rattle.std.proofs.Common.{◌≡◌, ℕ, List, Some, subst, rules}
use Rattle.std.specs.Prelude.{◌↔◌, IsTrue}
use Rattle.lsvd_names.specs.Names.{numbered_name}
use Rattle.lsvd_names.specs.declared.name.ObjName.{ObjName}
use Rattle.lsvd_objstore.specs.Store.{Finds}
use Rattle.object_format.specs.declared.kind.Kind.TheVariants as kinds
use Rattle.vol_check.proofs.HeaderLemmas.{none_read, read_kind}
use Rattle.vol_check.proofs.lists.has_checkpoint_header.Goals as goal

pub returns-in-Ok-clause-told : goal.returns-in-Ok-clause-told
returns-in-Ok-clause-told g c = λ tells.
    let told = (g.S.Store.state c.args.store.now).objects in
    let receipt = g.S.Receipt.Receipt.state c.in-Some.receipt in
    let header = c.in-Ok.header in
    let same : IsTrue c.eq.result ↔ (header.kind ≡ kinds.Checkpoint) = (λ is. search rules, λ is. search rules) in
    let finds = subst (λ (uuid : List ℕ). Finds (numbered_name uuid c.args.number) told (Some receipt))
    {y = c.args.volume.now.uuid} c.from_bytes.ensures
    (subst (λ (name : ObjName). Finds name told (Some receipt)) {y = numbered_name c.from_bytes.result c.args.number}
    c.object-name.ensures.is
    (rw c.in-Some.is at c.in_ok-receipt.ensures.found)) in
    read_kind c.args.volume.now c.args.number told receipt c.read_head.new.bytes.items header c.eq.result same finds
    (tells c.in-Some.receipt) c.in-Ok.ensures.ok

pub returns-in-Err-BadObject-clause-told : goal.returns-in-Err-BadObject-clause-told
returns-in-Err-BadObject-clause-told g c = λ tells.
    let told = (g.S.Store.state c.args.store.now).objects in
    let receipt = g.S.Receipt.Receipt.state c.in-Some.receipt in
    let finds = subst (λ (uuid : List ℕ). Finds (numbered_name uuid c.args.number) told (Some receipt))
    {y = c.args.volume.now.uuid} c.from_bytes.ensures
    (subst (λ (name : ObjName). Finds name told (Some receipt)) {y = numbered_name c.from_bytes.result c.args.number}
    c.object-name.ensures.is
    (rw c.in-Some.is at c.in_ok-receipt.ensures.found)) in
    none_read c.args.volume.now c.args.number told receipt c.in-Err-BadObject.field-0-1 c.in-Err-BadObject.field-0-0 finds
    (tells c.in-Some.receipt)
    (rw c.in-Err-BadObject.field-0-is at c.in-Err-BadObject.ensures.none)
