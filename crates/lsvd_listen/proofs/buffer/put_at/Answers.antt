use Rattle.std.proofs.Common.{ℕ, List, ◌+◌, ◌-◌, ◌++◌, length, take, drop, ◌∙◌, ap, arith}
use Rattle.lsvd_listen.specs.Buffer.{bytes_between}
use Rattle.lsvd_listen.proofs.Waiting.{put_behind}
use Rattle.lsvd_listen.proofs.buffer.put_at.Goals as goal

pub returns : goal.returns
returns c = λ from ordered.
    let bytes : List ℕ = c.args.bytes.now in
    let piece : List ℕ = c.args.piece.now in
    let at : ℕ = c.args.at in
    let rest : List ℕ = drop (at + length piece - at) (drop at bytes) in
    ap (λ (xs : List ℕ). bytes_between (take at bytes ++ (xs ++ rest)) from (at + length piece)) c.copy_from_slice.ensures.after
    ∙ put_behind bytes piece rest from at ordered (omega (arith, c.requires))
