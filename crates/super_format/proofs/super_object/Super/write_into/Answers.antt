use Rattle.std.proofs.Common.{◌++◌, drop, sym, ◌∙◌, ap, arith}
use Rattle.std.proofs.lemmas.List.{length-take-le}
use Rattle.super_format.specs.Ancestors.{chain_bytes}
use Rattle.super_format.specs.Super.{head_bytes}
use Rattle.super_format.proofs.PartLemmas.{written_to_end}
use Rattle.super_format.proofs.super_object.Super.write_into.Goals as goal

pub slice_bounds-write_head-end-2 : goal.slice_bounds-write_head-end-2
slice_bounds-write_head-end-2 c = sym (length-take-le 48 c.args.bytes.now (omega (arith, c.requires.size)))

pub write_head-requires-clause-size : goal.write_head-requires-clause-size
write_head-requires-clause-size c = length-take-le 48 c.args.bytes.now (omega (arith, c.requires.size))

pub returns-clause-bytes : goal.returns-clause-bytes
returns-clause-bytes c =
    let size = c.write_head.auto.head ∙ length-take-le 48 c.args.bytes.now (omega (arith, c.requires.size)) in
    written_to_end 48 c.write_head.new.head (drop 48 c.args.bytes.now) c.write_ancestors.new.bytes size
    ∙ ap (λ xs. xs ++ c.write_ancestors.new.bytes) c.write_head.ensures.bytes
    ∙ ap (λ xs. head_bytes c.args.self.now ++ xs) (c.write_ancestors.ensures.bytes ∙ ap chain_bytes c.ancestors.ensures.value)
