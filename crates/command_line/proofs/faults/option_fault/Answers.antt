use Rattle.std.proofs.Common.{sym}
use Rattle.command_line.proofs.Mistakes.{flag_value_is_true, no_value_is_true, twice_is_true, unknown_is_true}
use Rattle.command_line.proofs.faults.option_fault.Goals as goal

pub returns-in_default : goal.returns-in_default
returns-in_default c =
    unknown_is_true c.args.command.now c.args.words.now c.args.at c.index-words-at.result c.as_str-word.result.now c.requires
    c.index-words-at.is c.as_str-word.ensures.value c.get_name.result c.before_value.result c.get_name.ensures
    c.before_value.ensures

pub returns-then-not-is_followed_by_value : goal.returns-then-not-is_followed_by_value
returns-then-not-is_followed_by_value c =
    no_value_is_true c.args.command.now c.args.words.now c.args.at c.index-words-at.result c.as_str-word.result.now c.requires
    c.index-words-at.is c.as_str-word.ensures.value c.in-Some.option.name c.in-Some.option.takes_value c.in-Some.ensures
    c.if-option.true (sym c.if-not-has_value.ensures)

pub returns-then-has_value : goal.returns-then-has_value
returns-then-has_value c =
    flag_value_is_true c.args.command.now c.args.words.now c.args.at c.index-words-at.result c.as_str-word.result.now c.requires
    c.index-words-at.is c.as_str-word.ensures.value c.in-Some.option.name c.in-Some.option.takes_value c.in-Some.ensures
    c.if-option.false (sym c.if-has_value.ensures)

pub returns : goal.returns
returns c =
    twice_is_true c.args.command.now c.args.words.now c.args.at c.index-words-at.result c.as_str-word.result.now c.requires
    c.index-words-at.is c.as_str-word.ensures.value c.in-Some.option.name c.in-Some.option.takes_value c.in-Some.ensures
    (sym c.if-not-is_given.ensures)
