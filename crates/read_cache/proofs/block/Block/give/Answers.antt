use Rattle.std.proofs.Common.{◌≡◌, ℕ, ◌+◌, ◌-◌, ◌%◌, List, length, take, drop, ◌∙◌, ap, sym, subst, arith}
use Rattle.std.specs.Prelude.{IfSome, IsTrue}
use Rattle.read_cache.proofs.BlockLemmas.{gives}
use Rattle.read_cache.proofs.block.Block.give.Goals as goal

pub returns-clause-bytes : goal.returns-clause-bytes
returns-clause-bytes g c = λ is.
    let receipt = g.R.Receipt.state c.args.receipt.now in
    let own = g.R.Receipt.state c.self.inside.receipt in
    let bytes : List ℕ = c.self.inside.bytes.items in
    let at = c.args.from % 65536 in
    let count = length c.args.buf.now in
    let start = c.if-self-from.false in
    let test = c.if-not-same.false in
    let whole : at + count - at ≡ count = omega arith in
    let copied : c.copy_from_slice.new.self ≡ take count (drop at bytes) =
    c.copy_from_slice.ensures.after ∙ ap (λ n. take n (drop at c.deref.result.now)) whole
    ∙ ap (λ (xs : List ℕ). take count (drop at xs)) c.deref.ensures.value in
    let same : own ≡ receipt = c.same.ensures.0 (subst IsTrue (sym test) is) in
    let place : c.args.from ≡ c.self.inside.start + at = omega (arith, start) in
    subst (λ (xs : List ℕ). IfSome receipt.told (λ told. xs ≡ take count (drop c.args.from told))) (sym copied)
    (gives receipt own c.self.inside.start c.args.from at count bytes same place c.requires.object c.requires.block
    c.self.invariant)
