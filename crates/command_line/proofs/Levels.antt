-- The kinds of error of one level of a parse, from where a walk stands.
use Rattle.std.proofs.Common.{Bool, List, [], ◌∷◌, ◌++◌, Some, ◌≡◌, ◌∙◌, refl, sym, ap, append_assoc}
use Rattle.std.specs.Prelude.{fold}
use Rattle.std.proofs.lemmas.List.{append-nil}
use Rattle.clap.specs.Walk.{Names, Rule, Text, Walk, finished, settled, walked}
use Rattle.clap.specs.Simple.{Shape}
use Rattle.clap.specs.Kinds.{Kinds, or_else}
use Rattle.clap.specs.Faults.{check_fault, defaults_fault, settle_fault, turn_fault, walk_fault}
use Rattle.command_line.proofs.Refusals.{IsRefusal, refusal_first}

-- `level_fault`, from where a walk stands
abbrev pub faults_from : Shape → Names → Walk → List Text → Bool → Kinds → Kinds
faults_from s names w words has_subcommand below =
    let end = (fold (walked s.rules names) w words).held in
    or_else (walk_fault s names w words)
    (or_else below (or_else (settle_fault s.rules s.args_override_self end)
    (or_else (defaults_fault (settled s.rules end).rows s.rules)
    (check_fault s (finished s.rules end) has_subcommand))))

-- the next word is refused
pub next_refused : (s : Shape) (names : Names) (w : Walk) (word : Text) (rest : List Text) (has_subcommand : Bool) (below : Kinds)
    → IsRefusal (turn_fault s names w word) → IsRefusal (faults_from s names w (word ∷ rest) has_subcommand below)
unfolding walk_fault
next_refused s names w word rest has_subcommand below refused = refusal_first _ _ (refusal_first _ _ refused)

-- the next word passes
pub next_passes : (s : Shape) (names : Names) (w to : Walk) (word : Text) (rest : List Text) (has_subcommand : Bool)
    (below : Kinds)
    → turn_fault s names w word ≡ [] → walked s.rules names w word ≡ to
    → faults_from s names w (word ∷ rest) has_subcommand below ≡ faults_from s names to rest has_subcommand below
unfolding walk_fault
next_passes s names w to word rest has_subcommand below passes goes =
    let step : faults_from s names w (word ∷ rest) has_subcommand below
    ≡ faults_from s names (walked s.rules names w word) rest has_subcommand below =
    rw passes refl in
    step ∙ ap (λ (next : Walk). faults_from s names next rest has_subcommand below) goes

-- what the first refusal decides
abbrev pub IsByFirst : (Kinds → Type 0) → Type 0
IsByFirst P = (first next : Kinds) → P first → P (or_else first next)

-- the subcommand refuses its words
pub below_holds : (P : Kinds → Type 0) (s : Shape) (names : Names) (w : Walk) (words : List Text) (has_subcommand : Bool)
    (below : Kinds)
    → IsByFirst P → walk_fault s names w words ≡ [] → P below → P (faults_from s names w words has_subcommand below)
below_holds P s names w words has_subcommand below by_first passed holds = rw passed (by_first below _ holds)

-- a walk that met a subcommand passes over the words
pub stopped_walk : (rules : List Rule) (names : Names) (w : Walk) (name : Text) (before rest : List Text)
    → fold (walked rules names) (record w { stopped = Some (name, before) }) rest
    ≡ record w { stopped = Some (name, before ++ rest) }
unfolding walked
stopped_walk rules names w name before [] = ap (λ words. record w { stopped = Some (name, words) }) (sym (append-nil before))
stopped_walk rules names w name before (word ∷ rest) =
    stopped_walk rules names w name (before ++ word ∷ []) rest
    ∙ ap (λ words. record w { stopped = Some (name, words) }) (append_assoc before (word ∷ []) rest)

pub stopped_fault : (s : Shape) (names : Names) (w : Walk) (name : Text) (before rest : List Text)
    → walk_fault s names (record w { stopped = Some (name, before) }) rest ≡ []
unfolding walked walk_fault
stopped_fault s names w name before [] = refl
stopped_fault s names w name before (word ∷ rest) = stopped_fault s names w name (before ++ word ∷ []) rest
