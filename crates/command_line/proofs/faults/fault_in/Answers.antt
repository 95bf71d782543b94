use Rattle.std.proofs.Common.{◌≡◌, ◌∙◌, Some, None, ap, find, map, option_map, string_bytes, sym}
use Rattle.std.specs.Borrow.{Bor}
use Rattle.std.specs.Prelude.{option_copied}
use Rattle.clap.specs.Simple.{app_of, label_of, shape_of}
use Rattle.clap.specs.Walk.{answers_to}
use Rattle.clap.specs.declared.builder.command.Command.{Command}
use Rattle.command_line.specs.Mistake.{by_words}
use Rattle.command_line.proofs.Mistakes.{command_found, command_is_true, first_text, no_command_found}
use Rattle.command_line.proofs.faults.fault_in.Goals as goal
use Rattle.command_line.proofs.faults.fault_in.Goals.{in-Some-find_subcommand, in-None}

pub returns : goal.returns
returns c =
    let words = map string_bytes c.args.words.now in
    let word = c.as_str-word.result.now in
    let app = app_of c.in_ok-program.program in
    let shapes = option_map (λ (command : Bor Command). shape_of command.now) in
    let split = first_text c.args.words.now c.in-Some.first.now word (sym (ap option_copied c.in-Some.is) ∙ c.first.ensures.value)
    c.as_str-word.ensures.value in
    elim c.match-find_subcommand.branch [
      | in-Some-find_subcommand w ↦
          let found : Some (shape_of w.in-Some-find_subcommand.command.now) ≡ find (λ s. answers_to word (label_of s)) app.subs =
          sym (ap shapes w.in-Some-find_subcommand.is) ∙ c.find_subcommand.ensures.first in
          rw w.mistake-is
          (command_is_true w.in-Some-find_subcommand.command.now words word split.0 w.fault_of_command-mistake.result
          (command_found app word (shape_of w.in-Some-find_subcommand.command.now) c.in_ok-program.ensures found)
          split.1 w.fault_of_command-mistake.ensures)
      | in-None w ↦
          let found : None ≡ find (λ s. answers_to word (label_of s)) app.subs =
          sym (ap shapes w.in-None.is) ∙ c.find_subcommand.ensures.first in
          rw w.mistake-is (by_words (split, no_command_found app word c.in_ok-program.ensures found))
    ]
