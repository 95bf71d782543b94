use Rattle.std.proofs.Common.{List, rules, arith, sym, ap, ◌∙◌, ◌≡◌, ◌<◌, Some, [], ℕ, ◌+◌, ◌-◌, ◌*◌, ◌≤◌, ◌++◌, length, take}
use Rattle.std.proofs.Common.{drop, length-append, length-take, length-drop, min}
use Rattle.std.proofs.lemmas.List.{take_rest}
use Rattle.std.proofs.lemmas.Grind.{common_steps}
use Rattle.lsvd_fault.specs.Memory.{SourceState}
use Rattle.lsvd_fault.proofs.Pieces.{copied_front, no_elements}
use Rattle.lsvd_fault.proofs.memory.MemSourceSource.read.Goals as goal

pub returns-clause-bytes : goal.returns-clause-bytes
returns-clause-bytes c =
    let bytes : List ℕ = c.self.inside.bytes.items in
    let at : ℕ = c.self.inside.at in
    let count : ℕ = c.min-count.result in
    let new : List ℕ = c.copy_from_slice.new.self in
    let shown : take (length c.deref.result.now - at) (drop at c.deref.result.now) ≡ drop at bytes =
    grind (arith, common_steps, take_rest) in
    let copied : new ≡ take count (drop at bytes) = c.copy_from_slice.ensures.after ∙ ap (take count) shown in
    let within : count ≡ min c.min.result (length (drop at bytes)) = c.min-count.ensures
    ∙ ap (λ (ys : List ℕ). min c.min.result (length ys)) shown in
    let long : length new ≡ count = ap length copied ∙ (let e = length-take count (drop at bytes) in omega (arith, e, within)) in
    let left : drop at bytes ≡ c.args.self.now.left = ap (λ (s : SourceState). s.left) c.self.view_is in (
      sym left ∙ copied_front bytes new (drop count c.args.buf.now) at count copied long,
      λ none room. no_elements (drop (at + count) bytes) (
          let a = length-append new (drop count c.args.buf.now) in
          let b = length-drop count c.args.buf.now in
          let d = length-drop (at + count) bytes in
          let e = length-drop at bytes in
          omega (arith, a, b, d, e, within, none, room, long, c.min.ensures, c.self.invariant.1)),
    )
