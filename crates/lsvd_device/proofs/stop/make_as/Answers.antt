use Rattle.std.proofs.Common.{rules, ◌≡◌, ◌+◌, ◌≤◌, ℕ, List, length, take, drop, replicate, sym, ◌∙◌, ap, subst, arith}
use Rattle.lsvd_device.specs.Memory.{contents_from}
use Rattle.lsvd_device.specs.declared.change.Change.{Change}
use Rattle.lsvd_device.proofs.Replayed.{piece_at_once}
use Rattle.lsvd_device.proofs.stop.make_as.Goals as goal

pub returns-clause-bytes : goal.returns-clause-bytes
returns-clause-bytes c =
    let size : ℕ = c.args.disk.now.size in
    let changes : List Change = c.args.changes.now in
    let all : List ℕ = contents_from (replicate size 0) changes c.args.written.now in
    let piece : List ℕ = c.replay-used.new.buf in
    let same : length c.args.piece.now ≡ length piece = search rules in
    let inside : 0 + length c.args.piece.now ≤ size = (let e = c.requires.fits in omega (arith, e)) in
    let within = c.requires.inside in
    let shown = c.replay-used.ensures.shown size inside within ∙ ap (λ n. take n (drop 0 all)) same in
    piece_at_once size (length c.args.piece.now) changes c.args.written.now piece c.args.disk.now.moments c.put.new.disk.moments
    c.requires.zeros (sym same) c.requires.fits c.requires.piece shown c.in_ok-put.ensures.moments
