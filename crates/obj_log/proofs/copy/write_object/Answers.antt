use Rattle.std.proofs.Common.{◌++◌, List, ℕ, length, ap, ◌∙◌, arith, length-append}
use Rattle.std.proofs.lemmas.Result.{IfOk-weaker}
use Rattle.obj_log.proofs.CopyLemmas.{has_parts}
use Rattle.obj_log.proofs.copy.write_object.Goals as goal

pub append-requires : goal.append-requires
append-requires c = omega (arith, c.in_ok-writer.ensures.missing, c.requires.payload)

pub finish-requires : goal.finish-requires
finish-requires c =
    omega (
      arith,
      ap (λ w. length w.bytes) c.append.ensures,
      ap (λ w. w.size) c.append.ensures,
      length-append c.in_ok-writer.writer.bytes c.args.payload.now,
      c.in_ok-writer.ensures.missing,
      c.requires.payload,
    )

pub returns : goal.returns
returns c =
    let payload = c.args.payload.now in
    IfOk-weaker c.finish.result _ _ (λ bytes is.
    has_parts c.args.expected c.args.end c.args.rows.now payload bytes c.keep_widths.ensures.uuid c.keep_widths.ensures.number
    (omega arith) c.requires.rows c.requires.payload
    (is ∙ (ap (λ w. w.bytes) c.append.ensures ∙ ap (λ (front : List ℕ). front ++ payload) c.in_ok-writer.ensures.bytes)))
    c.finish.ensures
