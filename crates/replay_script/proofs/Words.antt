-- The words of a line that begins with a name: which they are, where they are as many as its command has.
use Rattle.std.proofs.Common.{◌≡◌, ℕ, ◌<◌, List, [], ◌∷◌, length, map, get_or, take, Option, Some, None, Ok, IfErr, refl, sym}
use Rattle.std.proofs.Common.{◌∙◌, subst, arith}
use Rattle.std.specs.Prelude.{IfSome, ok_or}
use Rattle.std.specs.Option.{IfNone}
use Rattle.replay_script.specs.Grammar.{command_spelling, command_name, BeginAs, Spell, SpellNone, AreRefusedAs}
use Rattle.replay_script.specs.Names.{BeginWith, words_of_name, word_count_of}
use Rattle.replay_script.specs.declared.command.Command.{Command}
use Rattle.replay_script.specs.declared.command.Command.TheVariants.{New, Write, Zero, Read, Flush, Seal, TakeJob, JobDone}
use Rattle.replay_script.specs.declared.command.Command.TheVariants.{JobFailed, SealCheckpoint, Remove, PlanCopy, SealCopy}
use Rattle.replay_script.specs.declared.command.Command.TheVariants.{DropPlan, Status, Stop}
use Rattle.replay_script.specs.declared.command.Command.TheVariants.{CrashKeep, CrashLost}
use Rattle.replay_script.specs.declared.command.Name.{Name}
use Rattle.replay_script.specs.declared.command.Name.TheVariants as names
use Rattle.replay_script.specs.declared.error.LineError.{LineError}
use Rattle.replay_script.specs.declared.error.LineError.TheVariants.{WordCount, Form}
use Rattle.replay_script.proofs.Decide.{miscounted, misspelt}

-- no item, mapped
pub no_item : {A B : Type 0} (f : A → B) (items : List A) → length items < 1 → map f items ≡ []
no_item f [] few = refl
no_item f (a ∷ items) few = absurd (omega arith)

-- the name that was found
pub found_name : (words : List (List ℕ)) (found : Option Name) (error : LineError) (name : Name) → Ok name ≡ ok_or found error
    → IfSome found (BeginWith words) → BeginWith words name
found_name words (Some other) error name e begin = let P : Name → Type 0 = λ n. BeginWith words n in subst P (cc) begin
found_name words None error name e begin = cc

-- a command of the name
abbrev some_command : Name → Command
some_command names.New = New (record { sectors = 0; max_write = 0; batch = 0; log = 0 })
some_command names.Write = Write 0 0 0
some_command names.Zero = Zero 0 0
some_command names.Read = Read 0 0
some_command names.Flush = Flush
some_command names.Seal = Seal
some_command names.TakeJob = TakeJob
some_command names.JobDone = JobDone 0
some_command names.JobFailed = JobFailed 0
some_command names.SealCheckpoint = SealCheckpoint
some_command names.Remove = Remove
some_command names.PlanCopy = PlanCopy
some_command names.SealCopy = SealCopy
some_command names.DropPlan = DropPlan
some_command names.Status = Status
some_command names.Stop = Stop 0
some_command names.CrashKeep = CrashKeep [] []
some_command names.CrashLost = CrashLost [] []

-- its name is spelled as this one, and it has as many words
command_name-some_command : (name : Name) → (command_name (some_command name) ≡ words_of_name name)
    × (length (command_spelling (some_command name)) ≡ word_count_of name)
command_name-some_command names.New = (refl, refl)
command_name-some_command names.Write = (refl, refl)
command_name-some_command names.Zero = (refl, refl)
command_name-some_command names.Read = (refl, refl)
command_name-some_command names.Flush = (refl, refl)
command_name-some_command names.Seal = (refl, refl)
command_name-some_command names.TakeJob = (refl, refl)
command_name-some_command names.JobDone = (refl, refl)
command_name-some_command names.JobFailed = (refl, refl)
command_name-some_command names.SealCheckpoint = (refl, refl)
command_name-some_command names.Remove = (refl, refl)
command_name-some_command names.PlanCopy = (refl, refl)
command_name-some_command names.SealCopy = (refl, refl)
command_name-some_command names.DropPlan = (refl, refl)
command_name-some_command names.Status = (refl, refl)
command_name-some_command names.Stop = (refl, refl)
command_name-some_command names.CrashKeep = (refl, refl)
command_name-some_command names.CrashLost = (refl, refl)

begins_some : (words : List (List ℕ)) (name : Name) → BeginWith words name → BeginAs words (some_command name)
begins_some words name begin = rw (command_name-some_command name).0 begin

-- words that begin with a name, and are not as many as its command has
pub miscounted_name : (words : List (List ℕ)) (name : Name) → BeginWith words name → ¬ (length words ≡ word_count_of name)
    → AreRefusedAs words WordCount
miscounted_name words name begin other =
    miscounted words (some_command name) (begins_some words name begin)
    (λ counts. other (counts ∙ (command_name-some_command name).1))

-- words that begin with a name, as many as its command has, in which a reading found no command
pub misspelt_name : (words : List (List ℕ)) (name : Name) (found : Option Command) → BeginWith words name
    → length words ≡ word_count_of name → IfNone found (SpellNone words) → IfErr (ok_or found Form) (AreRefusedAs words)
misspelt_name words name None begin counted none =
    misspelt words (some_command name) (begins_some words name begin) (counted ∙ sym (command_name-some_command name).1) none
misspelt_name words name (Some command) begin counted none = tt

-- a command that is read from words is spelled by words that are the same
pub found_in_same : (words spelled : List (List ℕ)) (found : Option Command) → words ≡ spelled → IfSome found (Spell spelled)
    → IfSome found (Spell words)
found_in_same words spelled None e spells = tt
found_in_same words spelled (Some command) e spells = (e ∙ spells.0, spells.1)

-- mapped items begin with the name, and are as many as its command has
abbrev pub HaveName : {A : Type 0} → (A → List ℕ) → List A → Name → Type 0
HaveName f items name = BeginWith (map f items) name × (length items ≡ word_count_of name)

-- the same of a name that it is
pub have_same : {A : Type 0} (f : A → List ℕ) (items : List A) (name same : Name) → name ≡ same → BeginWith (map f items) name
    → length items ≡ word_count_of name → HaveName f items same
have_same f items name same is begin counted = let P : Name → Type 0 = λ n. HaveName f items n in subst P is (begin, counted)

-- a name of one word alone
pub name_alone : {A : Type 0} (f : A → List ℕ) (items : List A) (name : List ℕ) → take (length (map f items)) (name ∷ [])
    ≡ take 1 (map f items) → length items ≡ 1 → map f items ≡ name ∷ []
name_alone f [] name begin counted = absurd (omega arith)
name_alone f (a ∷ []) name begin counted = cc
name_alone f (a ∷ b ∷ items) name begin counted = absurd (omega arith)

-- a name of one word, and one word
pub name_and_one : {A : Type 0} (f : A → List ℕ) (items : List A) (name : List ℕ) (default : A)
    → take (length (map f items)) (name ∷ []) ≡ take 1 (map f items) → length items ≡ 2
    → map f items ≡ name ∷ f (get_or items 1 default) ∷ []
name_and_one f [] name default begin counted = absurd (omega arith)
name_and_one f (a ∷ []) name default begin counted = absurd (omega arith)
name_and_one f (a ∷ b ∷ []) name default begin counted = cc
name_and_one f (a ∷ b ∷ c ∷ items) name default begin counted = absurd (omega arith)

-- a name of one word, and two words
pub name_and_two : {A : Type 0} (f : A → List ℕ) (items : List A) (name : List ℕ) (default : A)
    → take (length (map f items)) (name ∷ []) ≡ take 1 (map f items) → length items ≡ 3
    → map f items ≡ name ∷ f (get_or items 1 default) ∷ f (get_or items 2 default) ∷ []
name_and_two f [] name default begin counted = absurd (omega arith)
name_and_two f (a ∷ []) name default begin counted = absurd (omega arith)
name_and_two f (a ∷ b ∷ []) name default begin counted = absurd (omega arith)
name_and_two f (a ∷ b ∷ c ∷ []) name default begin counted = cc
name_and_two f (a ∷ b ∷ c ∷ d ∷ items) name default begin counted = absurd (omega arith)

-- a name of one word, and three words
pub name_and_three : {A : Type 0} (f : A → List ℕ) (items : List A) (name : List ℕ) (default : A)
    → take (length (map f items)) (name ∷ []) ≡ take 1 (map f items) → length items ≡ 4
    → map f items ≡ name ∷ f (get_or items 1 default) ∷ f (get_or items 2 default) ∷ f (get_or items 3 default) ∷ []
name_and_three f [] name default begin counted = absurd (omega arith)
name_and_three f (a ∷ []) name default begin counted = absurd (omega arith)
name_and_three f (a ∷ b ∷ []) name default begin counted = absurd (omega arith)
name_and_three f (a ∷ b ∷ c ∷ []) name default begin counted = absurd (omega arith)
name_and_three f (a ∷ b ∷ c ∷ d ∷ []) name default begin counted = cc
name_and_three f (a ∷ b ∷ c ∷ d ∷ e ∷ items) name default begin counted = absurd (omega arith)

-- a name of one word, and four words
pub name_and_four : {A : Type 0} (f : A → List ℕ) (items : List A) (name : List ℕ) (default : A)
    → take (length (map f items)) (name ∷ []) ≡ take 1 (map f items) → length items ≡ 5
    → map f items ≡ name ∷ f (get_or items 1 default) ∷ f (get_or items 2 default) ∷ f (get_or items 3 default) ∷ f
    (get_or items 4 default) ∷ []
name_and_four f [] name default begin counted = absurd (omega arith)
name_and_four f (a ∷ []) name default begin counted = absurd (omega arith)
name_and_four f (a ∷ b ∷ []) name default begin counted = absurd (omega arith)
name_and_four f (a ∷ b ∷ c ∷ []) name default begin counted = absurd (omega arith)
name_and_four f (a ∷ b ∷ c ∷ d ∷ []) name default begin counted = absurd (omega arith)
name_and_four f (a ∷ b ∷ c ∷ d ∷ e ∷ []) name default begin counted = cc
name_and_four f (a ∷ b ∷ c ∷ d ∷ e ∷ g ∷ items) name default begin counted = absurd (omega arith)

-- a name of two words, and two words
pub names_and_two : {A : Type 0} (f : A → List ℕ) (items : List A) (name kind : List ℕ) (default : A)
    → take (length (map f items)) (name ∷ kind ∷ []) ≡ take 2 (map f items) → length items ≡ 4
    → map f items ≡ name ∷ kind ∷ f (get_or items 2 default) ∷ f (get_or items 3 default) ∷ []
names_and_two f [] name kind default begin counted = absurd (omega arith)
names_and_two f (a ∷ []) name kind default begin counted = absurd (omega arith)
names_and_two f (a ∷ b ∷ []) name kind default begin counted = absurd (omega arith)
names_and_two f (a ∷ b ∷ c ∷ []) name kind default begin counted = absurd (omega arith)
names_and_two f (a ∷ b ∷ c ∷ d ∷ []) name kind default begin counted = cc
names_and_two f (a ∷ b ∷ c ∷ d ∷ e ∷ items) name kind default begin counted = absurd (omega arith)
