-- A script has one transcript.
use Rattle.std.proofs.Common.{◌≡◌, ℕ, ◌+◌, ◌*◌, List, [], ◌∷◌, ◌++◌, replicate, refl, sym, ◌∙◌, ap, subst, inl, inr, arith}
use Rattle.std.specs.Prelude.{Some, None, true}
use Rattle.plain_disk.specs.State.{PlainState}
use Rattle.plain_disk.specs.Step.{plain_reply}
use Rattle.plain_disk.specs.declared.event.PlainEvent.{PlainEvent}
use Rattle.plain_disk.specs.declared.event.PlainEvent.TheVariants as events
use Rattle.plain_disk.specs.declared.event.PlainReply.{PlainReply}
use Rattle.plain_disk.specs.declared.event.PlainReply.TheVariants.{Entered, Flushed, Planned, Released, Sealed, Taken, Done}
use Rattle.plain_disk.specs.declared.event.PlainReply.TheVariants.{Returned, Removing, Removed, GivenBack, Told, BatchFull}
use Rattle.plain_disk.specs.declared.event.PlainReply.TheVariants.{EntriesFull, NoRoom, Range, Nothing, Busy, Fault, Copying}
use Rattle.plain_disk.specs.declared.event.PlainReply.TheVariants.{Dropped}
use Rattle.replay_script.specs.declared.command.Command.{Command}
use Rattle.replay_script.specs.declared.command.Command.TheVariants.{New, Write, Zero, Read, Flush, Seal, TakeJob, JobDone}
use Rattle.replay_script.specs.declared.command.Command.TheVariants.{JobFailed, SealCheckpoint, Remove, PlanCopy, SealCopy}
use Rattle.replay_script.specs.declared.command.Command.TheVariants.{DropPlan, Status, Stop, CrashKeep, CrashLost}
use Rattle.replay_script.specs.Grammar.{lines_of}
use Rattle.replay_script.proofs.Decide.{one_command, unknown_unspelled, miscounted_unspelled, misspelt_unspelled}
use Rattle.replay_script.proofs.Decide.{unknown_or_miscounted, unknown_or_misspelt, miscounted_or_misspelt}
use Rattle.replay_script.proofs.Runs.{one_run_text}
use Rattle.transcript.specs.declared.reason.LineReason.{LineReason}
use Rattle.transcript.specs.declared.reason.LineReason.TheVariants.{UnknownCommand, WordCount, Form, NotAllowed, Letters, TooLong}
use Rattle.transcript.specs.Answers.{State, TellsReply, AnswersStep, Answers, IsAllowed, FitsLetters}
use Rattle.transcript.specs.Transcript.{Ending, Stopped, IsMisplaced, HasUnfitLetters, IsBad, IsAnswered, Transcript}
use Rattle.transcript.specs.Transcript.{IsTranscript}

-- a reply is told by one text
one_telling : (reply : PlainReply) (a b : List ℕ) → TellsReply reply a → TellsReply reply b → a ≡ b
one_telling (Entered count) a b s t = s ∙ sym t
one_telling (Flushed count) a b s t = s ∙ sym t
one_telling (Planned read) a b s t = one_run_text read.data a b s t
one_telling Released a b s t = absurd s
one_telling (Sealed number) a b s t = s ∙ sym t
one_telling (Taken number) a b s t = s ∙ sym t
one_telling (Done frontier) a b s t = s ∙ sym t
one_telling Returned a b s t = absurd s
one_telling (Removing number) a b s t = s ∙ sym t
one_telling Removed a b s t = absurd s
one_telling GivenBack a b s t = absurd s
one_telling (Copying sectors) a b s t = s ∙ sym t
one_telling Dropped a b s t = s ∙ sym t
one_telling (Told writes sealed frontier checkpoint) a b s t = s ∙ sym t
one_telling (BatchFull sectors) a b s t = s ∙ sym t
one_telling (EntriesFull entries) a b s t = s ∙ sym t
one_telling (NoRoom lacking left) a b s t = s ∙ sym t
one_telling Range a b s t = s ∙ sym t
one_telling Nothing a b s t = s ∙ sym t
one_telling Busy a b s t = s ∙ sym t
one_telling Fault a b s t = s ∙ sym t

-- one text and one state
abbrev AreSame : List ℕ → List ℕ → State → State → Type 0
AreSame a b p q = (a ≡ b) × (p ≡ q)

one_step : (plain : PlainState) (event : PlainEvent) (a b : List ℕ) (p q : State) → AnswersStep plain event a p
    → AnswersStep plain event b q
    → AreSame a b p q
one_step plain event a b p q s t = (one_telling (plain_reply plain event) a b s.0 t.0, s.1 ∙ sym t.1)

-- a command is answered in one way
one_answer : (state : State) (command : Command) (a b : List ℕ) (p q : State) → Answers state command a p
    → Answers state command b q
    → AreSame a b p q
one_answer None (New g) a b p q s t = (s.0 ∙ sym t.0, s.1 ∙ sym t.1)
one_answer None (Write lba sectors byte) a b p q s t = absurd s
one_answer None (Zero lba sectors) a b p q s t = absurd s
one_answer None (Read lba sectors) a b p q s t = absurd s
one_answer None Flush a b p q s t = absurd s
one_answer None Seal a b p q s t = absurd s
one_answer None TakeJob a b p q s t = absurd s
one_answer None (JobDone number) a b p q s t = absurd s
one_answer None (JobFailed number) a b p q s t = absurd s
one_answer None SealCheckpoint a b p q s t = absurd s
one_answer None Remove a b p q s t = absurd s
one_answer None PlanCopy a b p q s t = absurd s
one_answer None SealCopy a b p q s t = absurd s
one_answer None DropPlan a b p q s t = absurd s
one_answer None Status a b p q s t = absurd s
one_answer None (Stop calls) a b p q s t = absurd s
one_answer None (CrashKeep device objects) a b p q s t = absurd s
one_answer None (CrashLost device objects) a b p q s t = absurd s
one_answer (Some plain) (New g) a b p q s t = absurd s
one_answer (Some plain) (Write lba sectors byte) a b p q s t = one_step plain (events.Write lba (replicate (512 * sectors) byte))
    a b p q s t
one_answer (Some plain) (Zero lba sectors) a b p q s t = one_step plain (events.Zero lba sectors) a b p q s t
one_answer (Some plain) (Read lba sectors) a b p q s t =
    (one_telling (plain_reply plain (events.Look lba sectors)) a b s.0 t.0, s.1 ∙ sym t.1)
one_answer (Some plain) Flush a b p q s t = one_step plain events.Flush a b p q s t
one_answer (Some plain) Seal a b p q s t = one_step plain events.Seal a b p q s t
one_answer (Some plain) TakeJob a b p q s t = one_step plain events.TakeJob a b p q s t
one_answer (Some plain) (JobDone number) a b p q s t = one_step plain (events.JobDone (Some number)) a b p q s.1 t.1
one_answer (Some plain) (JobFailed number) a b p q s t = (s.1 ∙ sym t.1, s.2 ∙ sym t.2)
one_answer (Some plain) SealCheckpoint a b p q s t = one_step plain events.SealCheckpoint a b p q s t
one_answer (Some plain) Remove a b p q s t = (one_telling (plain_reply plain events.TakeRemove) a b s.0 t.0, s.1 ∙ sym t.1)
one_answer (Some plain) PlanCopy a b p q s t = one_step plain events.PlanCopy a b p q s t
one_answer (Some plain) SealCopy a b p q s t = one_step plain (events.SealCopy true) a b p q s.1 t.1
one_answer (Some plain) DropPlan a b p q s t = one_step plain events.DropPlan a b p q s.1 t.1
one_answer (Some plain) Status a b p q s t = one_step plain events.Status a b p q s t
one_answer (Some plain) (Stop calls) a b p q s t = (s.1 ∙ sym t.1, s.2 ∙ sym t.2)
one_answer (Some plain) (CrashKeep device objects) a b p q s t = (s.1.0 ∙ sym t.1.0, s.1.1 ∙ sym t.1.1)
one_answer (Some plain) (CrashLost device objects) a b p q s t = (s.1.0 ∙ sym t.1.0, s.1.1 ∙ sym t.1.1)

-- a line is answered in one way
one_answered : (state : State) (line a b : List ℕ) (p q : State) → IsAnswered state line a p → IsAnswered state line b q
    → AreSame a b p q
one_answered state line a b p q s t =
    let P : Command → Type 0 = λ c. Answers state c b q in
    one_answer state s.command a b p q s.answered (subst P (one_command line t.command s.command t.spelled s.spelled) t.answered)

-- a command that is answered is allowed, and its letters fit
answered_allowed : (state : State) (command : Command) (text : List ℕ) (next : State) → Answers state command text next
    → IsAllowed state command
answered_allowed None (New g) text next s = tt
answered_allowed None (Write lba sectors byte) text next s = s
answered_allowed None (Zero lba sectors) text next s = s
answered_allowed None (Read lba sectors) text next s = s
answered_allowed None Flush text next s = s
answered_allowed None Seal text next s = s
answered_allowed None TakeJob text next s = s
answered_allowed None (JobDone number) text next s = s
answered_allowed None (JobFailed number) text next s = s
answered_allowed None SealCheckpoint text next s = s
answered_allowed None Remove text next s = s
answered_allowed None PlanCopy text next s = s
answered_allowed None SealCopy text next s = s
answered_allowed None DropPlan text next s = s
answered_allowed None Status text next s = s
answered_allowed None (Stop calls) text next s = s
answered_allowed None (CrashKeep device objects) text next s = s
answered_allowed None (CrashLost device objects) text next s = s
answered_allowed (Some plain) (New g) text next s = s
answered_allowed (Some plain) (Write lba sectors byte) text next s = tt
answered_allowed (Some plain) (Zero lba sectors) text next s = tt
answered_allowed (Some plain) (Read lba sectors) text next s = tt
answered_allowed (Some plain) Flush text next s = tt
answered_allowed (Some plain) Seal text next s = tt
answered_allowed (Some plain) TakeJob text next s = tt
answered_allowed (Some plain) (JobDone number) text next s = s.0
answered_allowed (Some plain) (JobFailed number) text next s = s.0
answered_allowed (Some plain) SealCheckpoint text next s = tt
answered_allowed (Some plain) Remove text next s = tt
answered_allowed (Some plain) PlanCopy text next s = tt
answered_allowed (Some plain) SealCopy text next s = s.0
answered_allowed (Some plain) DropPlan text next s = s.0
answered_allowed (Some plain) Status text next s = tt
answered_allowed (Some plain) (Stop calls) text next s = s.0
answered_allowed (Some plain) (CrashKeep device objects) text next s = tt
answered_allowed (Some plain) (CrashLost device objects) text next s = tt

answered_fits : (state : State) (command : Command) (text : List ℕ) (next : State) → Answers state command text next
    → FitsLetters state command
answered_fits None command text next s = tt
answered_fits (Some plain) (New g) text next s = tt
answered_fits (Some plain) (Write lba sectors byte) text next s = tt
answered_fits (Some plain) (Zero lba sectors) text next s = tt
answered_fits (Some plain) (Read lba sectors) text next s = tt
answered_fits (Some plain) Flush text next s = tt
answered_fits (Some plain) Seal text next s = tt
answered_fits (Some plain) TakeJob text next s = tt
answered_fits (Some plain) (JobDone number) text next s = tt
answered_fits (Some plain) (JobFailed number) text next s = tt
answered_fits (Some plain) SealCheckpoint text next s = tt
answered_fits (Some plain) Remove text next s = tt
answered_fits (Some plain) PlanCopy text next s = tt
answered_fits (Some plain) SealCopy text next s = tt
answered_fits (Some plain) DropPlan text next s = tt
answered_fits (Some plain) Status text next s = tt
answered_fits (Some plain) (Stop calls) text next s = tt
answered_fits (Some plain) (CrashKeep device objects) text next s = s.0
answered_fits (Some plain) (CrashLost device objects) text next s = s.0

-- a line that is answered is not bad
answered_not_bad : (state : State) (line answer : List ℕ) (next : State) (reason : LineReason) → IsAnswered state line answer next
    → IsBad state line reason → ⊥
answered_not_bad state line answer next UnknownCommand s bad = unknown_unspelled line bad.1 s.command s.spelled
answered_not_bad state line answer next WordCount s bad = miscounted_unspelled line bad.1 s.command s.spelled
answered_not_bad state line answer next Form s bad = misspelt_unspelled line bad.1 s.command s.spelled
answered_not_bad state line answer next NotAllowed s (short, (command, spelled, disallowed)) =
    let P : Command → Type 0 = λ c. IsAllowed state c in
    disallowed (subst P (one_command line s.command command s.spelled spelled)
    (answered_allowed state s.command answer next s.answered))
answered_not_bad state line answer next Letters s (short, (command, spelled, allowed, unfit)) =
    let P : Command → Type 0 = λ c. FitsLetters state c in
    unfit (subst P (one_command line s.command command s.spelled spelled) (answered_fits state s.command answer next s.answered))
answered_not_bad state line answer next TooLong s long = omega (arith, s.short, long)

-- the line of this number is bad, and the script ends there
abbrev pub StopsAt : ℕ → State → List ℕ → Ending → Type 0
StopsAt number state line ending = (reason : LineReason) × IsBad state line reason × (ending ≡ Stopped number reason)

answered_or_bad : (number : ℕ) (state : State) (line answer : List ℕ) (next : State) (ending : Ending)
    → IsAnswered state line answer next
    → StopsAt number state line ending → ⊥
answered_or_bad number state line answer next ending s (reason, bad, told) = answered_not_bad state line answer next reason s bad

-- a line does not spell a command that is not allowed, and one that is
misplaced_or_unfit : (state : State) (line : List ℕ) → IsMisplaced state line → HasUnfitLetters state line → ⊥
misplaced_or_unfit state line (command, spelled, disallowed) (other, also, allowed, unfit) =
    let P : Command → Type 0 = λ c. IsAllowed state c in
    disallowed (subst P (one_command line other command also spelled) allowed)

-- a line is bad for one reason
one_reason : (state : State) (line : List ℕ) (a b : LineReason) → IsBad state line a → IsBad state line b → a ≡ b
one_reason state line UnknownCommand UnknownCommand p q = refl
one_reason state line UnknownCommand WordCount p q = absurd (unknown_or_miscounted line p.1 q.1)
one_reason state line UnknownCommand Form p q = absurd (unknown_or_misspelt line p.1 q.1)
one_reason state line UnknownCommand NotAllowed p q = absurd (unknown_unspelled line p.1 q.1.0 q.1.1)
one_reason state line UnknownCommand Letters p q = absurd (unknown_unspelled line p.1 q.1.0 q.1.1)
one_reason state line UnknownCommand TooLong p q = absurd (omega arith)
one_reason state line WordCount UnknownCommand p q = absurd (unknown_or_miscounted line q.1 p.1)
one_reason state line WordCount WordCount p q = refl
one_reason state line WordCount Form p q = absurd (miscounted_or_misspelt line p.1 q.1)
one_reason state line WordCount NotAllowed p q = absurd (miscounted_unspelled line p.1 q.1.0 q.1.1)
one_reason state line WordCount Letters p q = absurd (miscounted_unspelled line p.1 q.1.0 q.1.1)
one_reason state line WordCount TooLong p q = absurd (omega arith)
one_reason state line Form UnknownCommand p q = absurd (unknown_or_misspelt line q.1 p.1)
one_reason state line Form WordCount p q = absurd (miscounted_or_misspelt line q.1 p.1)
one_reason state line Form Form p q = refl
one_reason state line Form NotAllowed p q = absurd (misspelt_unspelled line p.1 q.1.0 q.1.1)
one_reason state line Form Letters p q = absurd (misspelt_unspelled line p.1 q.1.0 q.1.1)
one_reason state line Form TooLong p q = absurd (omega arith)
one_reason state line NotAllowed UnknownCommand p q = absurd (unknown_unspelled line q.1 p.1.0 p.1.1)
one_reason state line NotAllowed WordCount p q = absurd (miscounted_unspelled line q.1 p.1.0 p.1.1)
one_reason state line NotAllowed Form p q = absurd (misspelt_unspelled line q.1 p.1.0 p.1.1)
one_reason state line NotAllowed NotAllowed p q = refl
one_reason state line NotAllowed Letters p q = absurd (misplaced_or_unfit state line p.1 q.1)
one_reason state line NotAllowed TooLong p q = absurd (omega arith)
one_reason state line Letters UnknownCommand p q = absurd (unknown_unspelled line q.1 p.1.0 p.1.1)
one_reason state line Letters WordCount p q = absurd (miscounted_unspelled line q.1 p.1.0 p.1.1)
one_reason state line Letters Form p q = absurd (misspelt_unspelled line q.1 p.1.0 p.1.1)
one_reason state line Letters NotAllowed p q = absurd (misplaced_or_unfit state line q.1 p.1)
one_reason state line Letters Letters p q = refl
one_reason state line Letters TooLong p q = absurd (omega arith)
one_reason state line TooLong UnknownCommand p q = absurd (omega arith)
one_reason state line TooLong WordCount p q = absurd (omega arith)
one_reason state line TooLong Form p q = absurd (omega arith)
one_reason state line TooLong NotAllowed p q = absurd (omega arith)
one_reason state line TooLong Letters p q = absurd (omega arith)
one_reason state line TooLong TooLong p q = refl

one_stop : (number : ℕ) (state : State) (line : List ℕ) (x y : Ending) → StopsAt number state line x
    → StopsAt number state line y → x ≡ y
one_stop number state line x y (a, bad, told) (b, also, told_also) =
    told ∙ ap (Stopped number) (one_reason state line a b bad also) ∙ sym told_also

-- the lines have one transcript from each state on
abbrev HaveOne : List (List ℕ) → Type 0
HaveOne lines =
    (number : ℕ) (state : State) (a b : List ℕ) (x y : Ending) → Transcript number state lines a x
    → Transcript number state lines b y
    → (a ≡ b) × (x ≡ y)

same_line : (a b first second more rest : List ℕ) → a ≡ first ++ 10 ∷ more → b ≡ second ++ 10 ∷ rest → first ≡ second
    → more ≡ rest → a ≡ b
same_line a b first second more rest s t e f = cc

one_more : (line : List ℕ) (lines : List (List ℕ)) → HaveOne lines → HaveOne (line ∷ lines)
one_more line lines one number state a b x y (inl s) (inl t) =
    let same = one_answered state line s.0 t.0 s.1 t.1 s.3 t.3 in
    let P : State → Type 0 = λ p. Transcript (number + 1) p lines t.2 y in
    let after = one (number + 1) s.1 s.2 t.2 x y s.5 (subst P (sym same.1) t.5) in
    (same_line a b s.0 t.0 s.2 t.2 s.4 t.4 same.0 after.0, after.1)
one_more line lines one number state a b x y (inl s) (inr t) = absurd (answered_or_bad number state line s.0 s.1 y s.3 t.1)
one_more line lines one number state a b x y (inr s) (inl t) = absurd (answered_or_bad number state line t.0 t.1 x t.3 s.1)
one_more line lines one number state a b x y (inr s) (inr t) = (s.0 ∙ sym t.0, one_stop number state line x y s.1 t.1)

one_transcript : (lines : List (List ℕ)) → HaveOne lines
one_transcript [] = λ number state a b x y s t. (s.0 ∙ sym t.0, s.1 ∙ sym t.1)
one_transcript (line ∷ lines) = one_more line lines (one_transcript lines)

-- the transcript of a script and its ending are determined
pub determined : (script a b : List ℕ) (x y : Ending) → IsTranscript script a x → IsTranscript script b y → (a ≡ b) × (x ≡ y)
determined script a b x y (inl s) (inl t) = one_transcript (lines_of script) 1 None a b x y s.1 t.1
determined script a b x y (inl s) (inr t) = absurd (omega (arith, s.0, t.0))
determined script a b x y (inr s) (inl t) = absurd (omega (arith, s.0, t.0))
determined script a b x y (inr s) (inr t) = (s.1 ∙ sym t.1, s.2 ∙ sym t.2)
