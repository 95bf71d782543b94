use Rattle.std.proofs.Common.{◌*◌, ◌+◌, ◌≤◌, length, take, drop, sym, ap, ◌∙◌, subst}
use Rattle.batcher.specs.Rows.{IsInBody, piece_at}
use Rattle.batcher.proofs.PieceLemmas.{body_read}
use Rattle.batcher.proofs.sealing.piece.Goals as goal

pub data_of-requires : goal.data_of-requires
data_of-requires c =
    let here = subst (IsInBody c.args.entries.now.items c.args.extent.now.sectors) c.in-Data.is c.requires in
    subst (λ body. 512 * (c.in-Data.from + c.args.extent.now.sectors) ≤ length body)
    (body_read c.args.entries.now.items c.in-Data.entry c.index.result.now here.0 c.index.ensures) here.1

pub returns-in-Data : goal.returns-in-Data
returns-in-Data c =
    let here = subst (IsInBody c.args.entries.now.items c.args.extent.now.sectors) c.in-Data.is c.requires in
    let sectors = c.args.extent.now.sectors in
    c.data_of.ensures
    ∙ ap (λ body. take (512 * sectors) (drop (512 * c.in-Data.from) body))
    (sym (body_read c.args.entries.now.items c.in-Data.entry c.index.result.now here.0 c.index.ensures))
    ∙ ap (piece_at c.args.entries.now.items sectors) (sym c.in-Data.is)
