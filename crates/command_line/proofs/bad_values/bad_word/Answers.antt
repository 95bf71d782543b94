use Rattle.clap.specs.Words.{found_of}
use Rattle.command_line.proofs.Spelled.{got_some}
use Rattle.command_line.proofs.bad_values.bad_word.Goals as goal

pub returns-in-None : goal.returns-in-None
returns-in-None c = (
  got_some (found_of c.args.values.now) c.args.name.now c.get_str.result c.in_ok-value.value c.get_str.ensures
      c.in_ok-value.was,
  c.in-None.ensures.none,
)
