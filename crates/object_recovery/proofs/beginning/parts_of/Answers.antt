use Rattle.std.proofs.Common.{rules, inl, inr, sym, subst}
use Rattle.object_format.specs.declared.expected.Expected.{Expected}
use Rattle.stopped_volume.specs.Expected.{expected_alone}
use Rattle.object_recovery.specs.Read.{IsReadHeader}
use Rattle.object_recovery.specs.Checkpoints.{expected_of}
use Rattle.object_recovery.specs.Earlier.{EarlierObject}
use Rattle.object_recovery.specs.Beginning.{HasPartsAsked, LacksReach}
use Rattle.object_recovery.proofs.PartLemmas.{has_parts, lacks_reach}
use Rattle.object_recovery.proofs.beginning.parts_of.Goals.{then-eq-via-then-eq, then-eq-via-else-eq+then-header-object}
use Rattle.object_recovery.proofs.beginning.parts_of.Goals as goal

pub returns-then-eq-clause-parts : goal.returns-then-eq-clause-parts
returns-then-eq-clause-parts g c =
    let volume = expected_of c.args.uuid c.args.geometry.now c.args.ancestors in
    let receipt = g.S.Receipt.Receipt.state c.object.inside.receipt in
    let object : EarlierObject =
    record { number = c.object.inside.number; receipt = receipt; reach = c.object.inside.reach } in
    let bytes = c.read_head.new.bytes.items in
    let header = c.in-Ok.header in
    let read : IsReadHeader receipt (expected_alone volume object.number) bytes header =
    subst (λ (e : Expected). IsReadHeader receipt e bytes header) c.expected_alone-expected.ensures c.in-Ok.ensures.ok in
    subst (LacksReach volume) c.object.view_is
    (lacks_reach volume object bytes header read (search rules)
    (elim c.then-eq.branch [
      | then-eq-via-then-eq w ↦ inl (search rules)
      | then-eq-via-else-eq+then-header-object w ↦ inr (search rules)
    ]))

pub returns-clause-parts : goal.returns-clause-parts
returns-clause-parts g c =
    let volume = expected_of c.args.uuid c.args.geometry.now c.args.ancestors in
    let receipt = g.S.Receipt.Receipt.state c.object.inside.receipt in
    let object : EarlierObject =
    record { number = c.object.inside.number; receipt = receipt; reach = c.object.inside.reach } in
    let bytes = c.read_head.new.bytes.items in
    let header = c.in-Ok.header in
    let front = c.front_sectors.result in
    let read : IsReadHeader receipt (expected_alone volume object.number) bytes header =
    subst (λ (e : Expected). IsReadHeader receipt e bytes header) c.expected_alone-expected.ensures c.in-Ok.ensures.ok in
    subst (λ o. HasPartsAsked volume o header.payload front) c.object.view_is
    (has_parts volume object bytes header read front (search rules) (search rules) (sym c.front_sectors.ensures))
