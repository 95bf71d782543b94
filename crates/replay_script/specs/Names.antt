-- For this crate's own clauses: the names of commands.
use Rattle.std.specs.Prelude.{◌≡◌, ℕ, List, [], ◌∷◌, length, take, codes}
use Rattle.replay_script.specs.declared.command.Name.{Name}
use Rattle.replay_script.specs.declared.command.Name.TheVariants as names

-- the words of the name: one or two
abbrev pub words_of_name : Name → List (List ℕ)
words_of_name names.New = codes "new" ∷ []
words_of_name names.Write = codes "w" ∷ []
words_of_name names.Zero = codes "z" ∷ []
words_of_name names.Read = codes "r" ∷ []
words_of_name names.Flush = codes "f" ∷ []
words_of_name names.Seal = codes "s" ∷ []
words_of_name names.TakeJob = codes "u" ∷ []
words_of_name names.JobDone = codes "d" ∷ []
words_of_name names.JobFailed = codes "x" ∷ []
words_of_name names.SealCheckpoint = codes "c" ∷ []
words_of_name names.Remove = codes "k" ∷ []
words_of_name names.PlanCopy = codes "g" ∷ []
words_of_name names.SealCopy = codes "G" ∷ []
words_of_name names.DropPlan = codes "q" ∷ []
words_of_name names.Status = codes "i" ∷ []
words_of_name names.Stop = codes "stop" ∷ []
words_of_name names.CrashKeep = codes "crash" ∷ codes "keep" ∷ []
words_of_name names.CrashLost = codes "crash" ∷ codes "lost" ∷ []

-- these words begin with the name, or are a front of it
abbrev pub BeginWith : List (List ℕ) → Name → Type 0
BeginWith words name = take (length words) (words_of_name name) ≡ take (length (words_of_name name)) words

-- how many words a command of the name has, those of the name included
abbrev pub word_count_of : Name → ℕ
word_count_of names.New = 5
word_count_of names.Write = 4
word_count_of names.Zero = 3
word_count_of names.Read = 3
word_count_of names.Flush = 1
word_count_of names.Seal = 1
word_count_of names.TakeJob = 1
word_count_of names.JobDone = 2
word_count_of names.JobFailed = 2
word_count_of names.SealCheckpoint = 1
word_count_of names.Remove = 1
word_count_of names.PlanCopy = 1
word_count_of names.SealCopy = 1
word_count_of names.DropPlan = 1
word_count_of names.Status = 1
word_count_of names.Stop = 2
word_count_of names.CrashKeep = 4
word_count_of names.CrashLost = 4
