use Rattle.std.proofs.Common.{◌≡◌, ◌+◌, ◌*◌, length, subst, sym}
use Rattle.std.specs.Prelude.{IfSome}
use Rattle.std.specs.List.{All}
use Rattle.lsvd_bytes.specs.Places.{bytes_at}
use Rattle.gc_copier.specs.Plan.{seen}
use Rattle.gc_copier.specs.Runs.{IsPartOf, AreWritten}
use Rattle.gc_copier.proofs.RunLemmas.{spread_is_written}
use Rattle.gc_copier.proofs.reading.read_run.Goals as goal

pub returns-clause-written : goal.returns-clause-written
returns-clause-written g c =
    let source = seen g.S.Receipt.Receipt.state c.args.source.now in
    let rows = c.args.rows.now in
    let place = c.args.place in
    let piece = c.fetch.new.buf in
    let payload = c.args.payload.now in
    let size : length piece ≡ length c.args.piece.now = c.fetch.auto.buf in
    let told =
    subst (λ n. IfSome source.receipt.told (λ told. piece ≡ bytes_at (512 * (source.front + place)) n told)) (sym size)
    c.in_ok-fetch.ensures.bytes in
    let parts = subst (λ n. All (IsPartOf place n) rows) (sym size) c.requires.piece in
    subst (AreWritten source rows payload) (sym c.spread.ensures) (spread_is_written source place piece rows payload told parts)
