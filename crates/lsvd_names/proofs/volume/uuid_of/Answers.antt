use Rattle.std.proofs.Common.{sym, ◌∙◌, ap}
use Rattle.uuid.specs.Text.{hyphenated_text, lower}
use Rattle.lsvd_names.proofs.Names.{parsed_uuid, unparsed, checked_found, checked_none}
use Rattle.lsvd_names.proofs.volume.uuid_of.Goals as goal

pub returns-in_err-uuid-clause-none : goal.returns-in_err-uuid-clause-none
returns-in_err-uuid-clause-none c =
    rw c.from_residual.ensures (unparsed c.args.text.now c.parse_str.result c.parse_str.ensures.ok (sym c.ok.ensures.value
    ∙ c.in_err-uuid.was))

pub returns-clause-found : goal.returns-clause-found
returns-clause-found c =
    let parses = parsed_uuid c.args.text.now c.in_ok-uuid.uuid c.parse_str.result c.parse_str.ensures.bytes
    (sym c.ok.ensures.value ∙ c.in_ok-uuid.was) in
    let spelled = c.encode_lower-spelled.ensures.text ∙ ap (hyphenated_text lower) c.hyphenated.ensures in
    checked_found c.args.text.now c.encode_lower-spelled.result.now c.in_ok-uuid.uuid c.eq.result c.then_some.result
    c.then_some.ensures c.eq.ensures spelled parses

pub returns-clause-none : goal.returns-clause-none
returns-clause-none c =
    let parses = parsed_uuid c.args.text.now c.in_ok-uuid.uuid c.parse_str.result c.parse_str.ensures.bytes
    (sym c.ok.ensures.value ∙ c.in_ok-uuid.was) in
    let spelled = c.encode_lower-spelled.ensures.text ∙ ap (hyphenated_text lower) c.hyphenated.ensures in
    checked_none c.args.text.now c.encode_lower-spelled.result.now c.in_ok-uuid.uuid c.eq.result c.then_some.result
    c.then_some.ensures c.eq.ensures spelled parses
