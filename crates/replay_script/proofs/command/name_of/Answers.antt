use Rattle.std.proofs.Common.{ℕ, List, Bor}
use Rattle.replay_script.proofs.Decide.{no_words}
use Rattle.replay_script.proofs.Words.{no_item}
use Rattle.replay_script.proofs.command.name_of.Goals as goal

pub returns-in-empty-clause-none : goal.returns-in-empty-clause-none
returns-in-empty-clause-none c = no_words _ (no_item (λ (word : Bor (List ℕ)). word.now) c.args.words.now c.in-empty.len_below)
