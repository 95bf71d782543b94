use Rattle.std.proofs.Common.{rules, List, ℕ, ◌≡◌, ◌≤◌, length, ◌∙◌, subst, inl, arith}
use Rattle.nbd_options.specs.Answers.{IsAnswer}
use Rattle.nbd_options.proofs.negotiation.read_to_answer.Goals as goal

pub returns-clause-bytes : goal.returns-clause-bytes
returns-clause-bytes g c =
    let read = c.in_ok-read_data.ensures.bytes in
    let whole : length c.read_data.new.buf ≡ c.args.head.length = search rules in
    let P : List ℕ → Type 0 = λ content. IsAnswer c.args.export.now c.args.head.option content c.answer_of.result in
    let short : length read.0 ≤ 65536 = omega (arith, read.1, whole, c.if-head-gt-MAX_OPTION_DATA.false) in
    (read.0, read.1 ∙ whole, inl (short, subst P read.2 c.answer_of.ensures), read.3)
