use Rattle.std.proofs.Common.{◌≡◌, ℕ, List, ◌+◌, ◌≤◌, length, drop, ◌∙◌, ap, arith}
use Rattle.lsvd_listen.specs.Buffer.{BufferState, bytes_between}
use Rattle.lsvd_listen.proofs.Waiting.{skipped, length-between}
use Rattle.lsvd_listen.proofs.buffer.Buffer.skip.Goals as goal

pub returns-else-self-clause-rest : goal.returns-else-self-clause-rest
returns-else-self-clause-rest c =
    let bytes : List ℕ = c.self.inside.bytes.items in
    let shown : bytes_between bytes c.self.inside.from c.self.inside.to ≡ c.args.self.now.waiting =
    ap (λ (s : BufferState). s.waiting) c.self.view_is in
    let long = length-between bytes c.self.inside.from c.self.inside.to (let fits = c.self.invariant.1 in
    omega (arith, fits, c.self.invariant.2)) in
    let within : c.self.inside.from + c.args.count ≤ c.self.inside.to =
    omega (arith, c.requires, ap length shown, long, c.self.invariant.0) in
    skipped bytes c.self.inside.from c.args.count c.self.inside.to within ∙ ap (drop c.args.count) shown

pub returns-else-self-clause-empty : goal.returns-else-self-clause-empty
returns-else-self-clause-empty c = λ none.
    let bytes : List ℕ = c.self.inside.bytes.items in
    let fits : c.self.inside.to ≤ length bytes = (let most = c.self.invariant.1 in omega (arith, most, c.self.invariant.2)) in
    let shown : bytes_between bytes c.self.inside.from c.self.inside.to ≡ c.args.self.now.waiting =
    ap (λ (s : BufferState). s.waiting) c.self.view_is in
    let before = length-between bytes c.self.inside.from c.self.inside.to fits in
    let after = length-between bytes (c.self.inside.from + c.args.count) c.self.inside.to fits in
    absurd (c.if-self.false (omega (arith, c.requires, ap length shown, before, after, ap length none, c.self.invariant.0)))
