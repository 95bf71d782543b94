use Rattle.std.proofs.Common.{ℕ, List, arith, Bor}
use Rattle.std.proofs.lemmas.List.{length-map}
use Rattle.replay_script.proofs.Words.{found_name, miscounted_name, misspelt_name}
use Rattle.replay_script.proofs.command.command_from.Goals as goal

pub returns-then-words-word_count-clause-refused : goal.returns-then-words-word_count-clause-refused
returns-then-words-word_count-clause-refused c =
    miscounted_name _ c.in_ok-name.name (found_name _ c.name_of.result _ _ c.in_ok-name.ensures.value c.name_of.ensures.found)
    (λ counts. c.if-words-word_count.true (omega (arith, counts, length-map {A = Bor (List ℕ)} {B = List ℕ})))

pub returns-clause-refused : goal.returns-clause-refused
returns-clause-refused c =
    rw c.ok_or-2.ensures.value (misspelt_name _ c.in_ok-name.name c.in_ok-form_of.field-0
    (found_name _ c.name_of.result _ _ c.in_ok-name.ensures.value c.name_of.ensures.found)
    (omega (arith, length-map {A = Bor (List ℕ)} {B = List ℕ})) c.in_ok-form_of.ensures.none)
