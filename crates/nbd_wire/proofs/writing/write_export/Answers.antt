use Rattle.std.proofs.Common.{◌≡◌, List, ℕ, take, subst}
use Rattle.nbd_wire.specs.Messages.{export_bytes}
use Rattle.nbd_wire.specs.Writing.{WritesFront}
use Rattle.nbd_wire.proofs.WritingLemmas.{whole_front, tells_fault, all_of_export, front_of_export}
use Rattle.nbd_wire.proofs.writing.write_export.Goals as goal
use Rattle.nbd_wire.proofs.writing.write_export.Goals.{then-zeroes, else-zeroes}

pub returns-in_err-write_all-clause-bytes : goal.returns-in_err-write_all-clause-bytes
returns-in_err-write_all-clause-bytes g c =
    let bytes = c.export_with_zeros-bytes.result in
    let part : take c.if-zeroes.end bytes ≡ export_bytes c.args.size c.args.flags c.args.zeroes =
    elim c.if-zeroes.branch [
      | then-zeroes w ↦ all_of_export _ _ _ _ _ c.export_with_zeros-bytes.ensures w.if-zeroes.true w.end-is
      | else-zeroes w ↦ front_of_export _ _ _ _ _ c.export_with_zeros-bytes.ensures w.if-zeroes.false w.end-is
    ] in
    let P : List ℕ → Type 0 = λ xs. WritesFront xs (g.K.Sink.contents c.args.link.now) (g.K.Sink.contents c.write_all.new.sink) in
    tells_fault c.from_residual.result _ _ _ c.from_residual.ensures.1
    (subst P part (whole_front _ _ _ c.in_err-write_all.ensures.front))
