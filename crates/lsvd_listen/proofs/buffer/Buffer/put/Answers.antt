use Rattle.std.proofs.Common.{◌≡◌, ℕ, List, ◌+◌, ◌++◌, length, drop, ◌∙◌, ap}
use Rattle.lsvd_listen.specs.Buffer.{BufferState, bytes_between}
use Rattle.std.proofs.lemmas.List.{take_at}
use Rattle.lsvd_listen.proofs.buffer.Buffer.put.Goals as goal

pub returns : goal.returns
returns c =
    let bytes : List ℕ = c.self.inside.bytes.items in
    let new : List ℕ = c.put_at.new.bytes in
    let piece : List ℕ = c.args.piece.now in
    let from : ℕ = c.self.inside.from in
    let to : ℕ = c.self.inside.to in
    let shown : bytes_between bytes from to ≡ c.args.self.now.waiting = ap (λ (s : BufferState). s.waiting) c.self.view_is in
    let long : length new ≡ c.self.inside.bytes.len = c.put_at.auto.bytes ∙ c.as_mut_slice.ensures.len in
    ap (λ (xs : List ℕ). bytes_between xs from (to + length piece))
    (take_at new (drop (length new) bytes) c.self.inside.bytes.len long)
    ∙ c.put_at.ensures from c.self.invariant.0
    ∙ ap (λ (xs : List ℕ). bytes_between xs from to ++ piece) c.as_mut_slice.ensures.value
    ∙ ap (λ (xs : List ℕ). xs ++ piece) shown
