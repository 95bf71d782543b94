use Rattle.std.proofs.Common.{rules, ◌≡◌, ℕ, Some, None, List, subst}
use Rattle.lsvd_names.specs.declared.name.NameKind.TheVariants.{Object}
use Rattle.extent_map.specs.declared.extent.Extent.{Extent}
use Rattle.ckpt_format.specs.declared.place.StoredPlace.{StoredPlace}
use Rattle.ckpt_format.specs.Checkpoint.{IsCheckpoint}
use Rattle.stopped_volume.specs.Expected.{expected_alone}
use Rattle.object_recovery.specs.Checkpoints.{expected_of, MayBeCheckpoint}
use Rattle.object_recovery.proofs.CheckpointLemmas.{no_checkpoint_found, bytes_are_none}
use Rattle.object_recovery.proofs.checkpoint.checkpoint_named.Goals as goal

pub returns-in_default-2-clause-named : goal.returns-in_default-2-clause-named
returns-in_default-2-clause-named g c = λ tells.
    let told = (g.S.Store.state c.args.store.now).objects in
    let name = c.args.name.now in
    let receipt = g.S.Receipt.Receipt.state c.in-Some.receipt in
    let kind : name.kind ≡ Object = search rules in
    let expected = expected_alone (expected_of name.uuid c.args.geometry.now c.args.ancestors) name.number in
    let none = rw c.in_default-2.is at c.in_ok-bytes.ensures.bytes in
    no_checkpoint_found told name c.args.geometry.now c.args.ancestors receipt kind
    (rw c.in-Some.is at c.in_ok-receipt.ensures.found)
    (tells c.in-Some.receipt)
    (subst (λ e. MayBeCheckpoint receipt e None) {y = expected} c.expected_alone-expected.ensures none)

pub returns-in_default-end_of_rows-clause-named : goal.returns-in_default-end_of_rows-clause-named
returns-in_default-end_of_rows-clause-named g c = λ tells.
    let told = (g.S.Store.state c.args.store.now).objects in
    let name = c.args.name.now in
    let receipt = g.S.Receipt.Receipt.state c.in-Some.receipt in
    let kind : name.kind ≡ Object = search rules in
    let expected = expected_alone (expected_of name.uuid c.args.geometry.now c.args.ancestors) name.number in
    let bytes = c.in-Some-2.bytes.items in
    let same = c.expected_alone-expected.ensures in
    let may = subst (λ e. MayBeCheckpoint receipt e (Some bytes)) {y = expected} same
    (rw c.in-Some-2.is at c.in_ok-bytes.ensures.bytes) in
    let none = subst (λ b. (end : ℕ) (rows : List (Extent StoredPlace)) → IsCheckpoint b expected end rows → ⊥)
    c.as_slice.ensures.value
    (subst (λ e. (end : ℕ) (rows : List (Extent StoredPlace)) → IsCheckpoint c.as_slice.result.now e end rows → ⊥)
    {y = expected} same c.in_default-end_of_rows.ensures.none) in
    no_checkpoint_found told name c.args.geometry.now c.args.ancestors receipt kind
    (rw c.in-Some.is at c.in_ok-receipt.ensures.found)
    (tells c.in-Some.receipt)
    (bytes_are_none receipt expected bytes may none)
