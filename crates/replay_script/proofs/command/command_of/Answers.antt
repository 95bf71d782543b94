use Rattle.std.proofs.Common.{rules, tests, Result, Ok, Err, IfOk, IfErr, ◌≡◌, ℕ, map, ◌∙◌, sym, ap, List, Bor}
use Rattle.replay_script.specs.declared.command.Command.{Command}
use Rattle.std.specs.declared.alloc.AllocError.{AllocError}
use Rattle.replay_script.specs.declared.error.LineError.{LineError}
use Rattle.replay_script.specs.Grammar.{SpellsCommand, Spell, IsLineRefusedAs, AreRefusedAs, words_of}
use Rattle.std.proofs.lemmas.Iterator.Consumers.{map_from_collect}
use Rattle.std.proofs.lemmas.Iterator.Splits.{YieldsList-from_slice_split}
use Rattle.replay_script.proofs.command.command_of.Goals as goal

-- what the words of the line spell, the line spells
line_found : (line : List ℕ) (words : List (List ℕ)) (read : Result Command LineError) → words ≡ words_of line
    → IfOk read (Spell words) → IfOk read (SpellsCommand line)
line_found line words (Ok command) e (spelled, fits) = record { words = sym e ∙ spelled; fits = fits }
line_found line words (Err error) e none = tt

-- as the words of the line are refused, the line is
line_refused : (line : List ℕ) (words : List (List ℕ)) (read : Result Command LineError) → words ≡ words_of line
    → IfErr read (AreRefusedAs words) → IfErr read (IsLineRefusedAs line)
line_refused line words (Ok command) e none = tt
line_refused line words (Err error) e refused = refused line (sym e)

words_read : (c : goal.After-drop-words) → map (λ (word : Bor (List ℕ)). word.now) c.deref.result.now ≡ words_of c.args.line.now
words_read c =
    ap (map (λ (word : Bor (List ℕ)). word.now)) c.deref.ensures.value
    ∙ map_from_collect {E = AllocError} (Ok c.in_ok-words.words) c.in_ok-words.ensures.ran
    (YieldsList-from_slice_split _ _ c.args.line.now c.split.ensures.rest c.split.ensures.done c.split.ensures.closure
    (λ x r q k. search (rules, tests)))

pub returns-clause-found : goal.returns-clause-found
returns-clause-found c = line_found c.args.line.now _ c.command_from.result (words_read c) c.command_from.ensures.found

pub returns-clause-refused : goal.returns-clause-refused
returns-clause-refused c = line_refused c.args.line.now _ c.command_from.result (words_read c) c.command_from.ensures.refused
