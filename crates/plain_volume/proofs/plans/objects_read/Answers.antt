use Rattle.std.proofs.Common.{◌≡◌, ◌+◌, ◌-◌, ◌<◌, ◌++◌, [], ◌∷◌, List, ℕ, sym, ap, ◌∙◌, arith, rules}
use Rattle.std.specs.List.{list_any, range_with_len, filter}
use Rattle.object_stream.specs.Plain.{stream_of}
use Rattle.plain_volume.specs.Fields.{is_read_at}
use Rattle.plain_volume.proofs.Ranges.{kept_here, kept_later}
use Rattle.plain_volume.proofs.plans.objects_read.Goals.{then-is_object_read+in_ok-push, else-is_object_read}
use Rattle.plain_volume.proofs.plans.objects_read.Goals as goal

pub loop-before-preserved : goal.loop-before-preserved
loop-before-preserved c =
    let test = λ (number : ℕ).
    list_any (is_read_at (stream_of c.args.stream.now) c.args.frontier c.args.logged.now number)
    (range_with_len c.args.lba c.args.sectors) in
    let number : ℕ = c.loop-before.before + 1 in
    let rest : List ℕ = filter test (range_with_len (number + 1) (c.args.frontier + 1 - (number + 1))) in
    let inside : number < c.args.frontier + 1 = omega (arith, c.loop-before-test.true) in
    elim c.if-is_object_read.branch [
      | then-is_object_read+in_ok-push w ↦
          let longer : c.if-is_object_read.numbers.items ≡ c.loop-before.numbers.items ++ number ∷ [] = search rules in
          ap (λ (numbers : List ℕ). numbers ++ rest) longer
          ∙ kept_here test c.loop-before.numbers.items number (c.args.frontier + 1) inside
          (sym c.is_object_read.ensures ∙ w.if-is_object_read.true)
          ∙ c.loop-before.invariant
      | else-is_object_read w ↦
          let same : c.if-is_object_read.numbers.items ≡ c.loop-before.numbers.items = search rules in
          ap (λ (numbers : List ℕ). numbers ++ rest) same
          ∙ kept_later test c.loop-before.numbers.items number (c.args.frontier + 1) inside
          (sym c.is_object_read.ensures ∙ w.if-is_object_read.false)
          ∙ c.loop-before.invariant
    ]
