use Rattle.std.proofs.Common.{refl}
use Rattle.command_line.proofs.Mistakes.{stray_is_true}
use Rattle.command_line.proofs.faults.fault_at.Goals as goal

pub returns : goal.returns
returns c =
    stray_is_true c.args.command.now c.args.words.now c.args.at c.index-words-at.result c.as_str-word.result.now c.requires.inside
    c.index-words-at.is c.as_str-word.ensures.value c.get_name.result c.as_str-word.result c.get_name.ensures refl
