-- Each script has a transcript.
use Rattle.std.proofs.Common.{◌≡◌, ℕ, ◌+◌, ◌*◌, ◌<◌, ◌≤◌, ◌^◌, ◌⊎◌, List, [], ◌∷◌, ◌++◌, length, replicate, refl, inl, inr}
use Rattle.std.specs.Prelude.{Bool, true, false, Some, None, is_some, codes, decimal}
use Rattle.std.proofs.lemmas.Bool.{cases_lt}
use Rattle.lsvd_device.specs.Calls.{Fuse}
use Rattle.upload_window.specs.Window.{is_started}
use Rattle.plain_disk.specs.State.{PlainState, created_volume, history_length}
use Rattle.plain_disk.specs.Step.{plain_reply, plain_after}
use Rattle.plain_disk.specs.Stops.{stopping_after_calls, recovered_number, mounted_kept, mounted_lost}
use Rattle.plain_disk.specs.declared.event.PlainEvent.{PlainEvent}
use Rattle.plain_disk.specs.declared.event.PlainEvent.TheVariants as events
use Rattle.replay_script.specs.declared.command.Command.{Command}
use Rattle.replay_script.specs.declared.command.Command.TheVariants.{New, Write, Zero, Read, Flush, Seal, TakeJob, JobDone}
use Rattle.replay_script.specs.declared.command.Command.TheVariants.{JobFailed, SealCheckpoint, Remove, PlanCopy, SealCopy}
use Rattle.replay_script.specs.declared.command.Command.TheVariants.{DropPlan, Status, Stop, CrashKeep, CrashLost}
use Rattle.replay_script.specs.Grammar.{lines_of, SpellsCommand, IsUnknown, HasWrongWordCount, IsMisspelt}
use Rattle.replay_script.proofs.Decide.{judge_line}
use Rattle.transcript.specs.declared.reason.LineReason.{LineReason}
use Rattle.transcript.specs.declared.reason.LineReason.TheVariants.{UnknownCommand, WordCount, Form, NotAllowed, Letters, TooLong}
use Rattle.transcript.specs.Letters.{is_dash, fits_writes, kept_by, under_way, fits_objects, landed_by}
use Rattle.transcript.specs.Answers.{State, AnswersStep, AnswersLook, AnswersRemoval, released_by, removed_by}
use Rattle.transcript.specs.Answers.{text_of_mount, IsAllowed, FitsLetters, Answers}
use Rattle.transcript.specs.Transcript.{Ending, AllAnswered, Stopped, IsBad, IsAnswered, Transcript, line_after, IsTranscript}
use Rattle.transcript.specs.Transcript.{IsFrontOfTranscript}
use Rattle.transcript.proofs.Determined.{StopsAt}
use Rattle.transcript.proofs.Replies.{some_telling, IsLineEvent, line_reply}

-- a state answers a command
abbrev HasAnswer : State → Command → Type 0
HasAnswer state command = (text : List ℕ) × (next : State) × Answers state command text next

-- a command that is not answered is not allowed, or its letters do not fit
abbrev IsUnfitAtAll : State → Command → Type 0
IsUnfitAtAll state command = ¬ IsAllowed state command ⊎ (IsAllowed state command × ¬ FitsLetters state command)

some_step : (plain : PlainState) (event : PlainEvent) → IsLineEvent event → (text : List ℕ) × (next : State)
    × AnswersStep plain event text next
some_step plain event is =
    let told = some_telling (plain_reply plain event) (line_reply plain event is) in
    (told.0, Some (plain_after event plain), (told.1, refl))

some_read : (plain : PlainState) (lba sectors : ℕ) → (text : List ℕ) × (next : State) × AnswersLook plain lba sectors text next
some_read plain lba sectors =
    let reply = plain_reply plain (events.Look lba sectors) in
    let told = some_telling reply (line_reply plain (events.Look lba sectors) tt) in
    (told.0, Some (released_by reply (plain_after (events.Look lba sectors) plain)), (told.1, refl))

some_removal : (plain : PlainState) → (text : List ℕ) × (next : State) × AnswersRemoval plain text next
some_removal plain =
    let reply = plain_reply plain events.TakeRemove in
    let told = some_telling reply (line_reply plain events.TakeRemove tt) in
    (told.0, Some (removed_by reply (plain_after events.TakeRemove plain)), (told.1, refl))

-- a put is done, where it was begun
done_answer : (plain : PlainState) (number : ℕ) (b : Bool) → is_started number plain.window.objects ≡ b
    → HasAnswer (Some plain) (JobDone number) ⊎ IsUnfitAtAll (Some plain) (JobDone number)
done_answer plain number true is = let step = some_step plain (events.JobDone (Some number)) tt in
    inl (step.0, step.1, (is, step.2))
done_answer plain number false is = inr (inl (λ started. cc (is, started)))

-- or it fails
failed_answer : (plain : PlainState) (number : ℕ) (b : Bool) → is_started number plain.window.objects ≡ b
    → HasAnswer (Some plain) (JobFailed number) ⊎ IsUnfitAtAll (Some plain) (JobFailed number)
failed_answer plain number true is =
    inl (codes "failed " ++ decimal number, Some (plain_after (events.JobFailed (Some number)) plain), (is, refl, refl))
failed_answer plain number false is = inr (inl (λ started. cc (is, started)))

-- what was copied is sealed, where its plan is out
sealed_answer : (plain : PlainState) (b : Bool) → is_some plain.plan ≡ b
    → HasAnswer (Some plain) SealCopy ⊎ IsUnfitAtAll (Some plain) SealCopy
sealed_answer plain true is = let step = some_step plain (events.SealCopy true) tt in inl (step.0, step.1, (is, step.2))
sealed_answer plain false is = inr (inl (λ out. cc (is, out)))

-- or the plan is given up
dropped_answer : (plain : PlainState) (b : Bool) → is_some plain.plan ≡ b
    → HasAnswer (Some plain) DropPlan ⊎ IsUnfitAtAll (Some plain) DropPlan
dropped_answer plain true is = let step = some_step plain events.DropPlan tt in inl (step.0, step.1, (is, step.2))
dropped_answer plain false is = inr (inl (λ out. cc (is, out)))

-- the device is told to stop, where it was not
stop_answer : (plain : PlainState) (calls : ℕ) (left : Fuse) → plain.cache.left ≡ left
    → HasAnswer (Some plain) (Stop calls) ⊎ IsUnfitAtAll (Some plain) (Stop calls)
stop_answer plain calls None is = inl (codes "stop " ++ decimal calls, Some (stopping_after_calls calls plain), (is, refl, refl))
stop_answer plain calls (Some count) is = inr (inl (λ none. cc (is, none)))

-- the machine stops, where the letters fit
keep_answer : (plain : PlainState) (device objects : List ℕ) (a b : Bool)
    → fits_writes (length plain.cache.pending) device ≡ a → fits_objects (length (under_way plain.window)) objects ≡ b
    → HasAnswer (Some plain) (CrashKeep device objects) ⊎ IsUnfitAtAll (Some plain) (CrashKeep device objects)
keep_answer plain device objects true true fit also =
    let landed = landed_by plain objects in
    let mounted : PlainState = mounted_kept landed (kept_by (length plain.cache.pending) device) plain in
    inl (text_of_mount (history_length mounted) (recovered_number landed plain), Some mounted, ((fit, also), (refl, refl)))
keep_answer plain device objects true false fit unfit =
    inr (inr (tt, λ both. (let no : fits_objects (length (under_way plain.window)) objects ≡ true = both.1 in cc (unfit, no))))
keep_answer plain device objects false b unfit other =
    inr (inr (tt, λ both. (let no : fits_writes (length plain.cache.pending) device ≡ true = both.0 in cc (unfit, no))))

lost_answer : (plain : PlainState) (device objects : List ℕ) (a b : Bool)
    → is_dash device ≡ a → fits_objects (length (under_way plain.window)) objects ≡ b
    → HasAnswer (Some plain) (CrashLost device objects) ⊎ IsUnfitAtAll (Some plain) (CrashLost device objects)
lost_answer plain device objects true true fit also =
    let landed = landed_by plain objects in
    let mounted : PlainState = mounted_lost landed plain in
    inl (text_of_mount (history_length mounted) (recovered_number landed plain), Some mounted, ((fit, also), (refl, refl)))
lost_answer plain device objects true false fit unfit =
    inr (inr (tt, λ both. (let no : fits_objects (length (under_way plain.window)) objects ≡ true = both.1 in cc (unfit, no))))
lost_answer plain device objects false b unfit other =
    inr (inr (tt, λ both. (let no : is_dash device ≡ true = both.0 in cc (unfit, no))))

-- a command is answered or not
some_answer : (state : State) (command : Command) → HasAnswer state command ⊎ IsUnfitAtAll state command
some_answer None (New g) = inl (codes "new " ++ decimal g.sectors, Some (created_volume g), (refl, refl))
some_answer None (Write lba sectors byte) = inr (inl (λ h. h))
some_answer None (Zero lba sectors) = inr (inl (λ h. h))
some_answer None (Read lba sectors) = inr (inl (λ h. h))
some_answer None Flush = inr (inl (λ h. h))
some_answer None Seal = inr (inl (λ h. h))
some_answer None TakeJob = inr (inl (λ h. h))
some_answer None (JobDone number) = inr (inl (λ h. h))
some_answer None (JobFailed number) = inr (inl (λ h. h))
some_answer None SealCheckpoint = inr (inl (λ h. h))
some_answer None Remove = inr (inl (λ h. h))
some_answer None PlanCopy = inr (inl (λ h. h))
some_answer None SealCopy = inr (inl (λ h. h))
some_answer None DropPlan = inr (inl (λ h. h))
some_answer None Status = inr (inl (λ h. h))
some_answer None (Stop calls) = inr (inl (λ h. h))
some_answer None (CrashKeep device objects) = inr (inl (λ h. h))
some_answer None (CrashLost device objects) = inr (inl (λ h. h))
some_answer (Some plain) (New g) = inr (inl (λ h. h))
some_answer (Some plain) (Write lba sectors byte) = inl (some_step plain (events.Write lba (replicate (512 * sectors) byte)) tt)
some_answer (Some plain) (Zero lba sectors) = inl (some_step plain (events.Zero lba sectors) tt)
some_answer (Some plain) (Read lba sectors) = inl (some_read plain lba sectors)
some_answer (Some plain) Flush = inl (some_step plain events.Flush tt)
some_answer (Some plain) Seal = inl (some_step plain events.Seal tt)
some_answer (Some plain) TakeJob = inl (some_step plain events.TakeJob tt)
some_answer (Some plain) (JobDone number) = done_answer plain number (is_started number plain.window.objects) refl
some_answer (Some plain) (JobFailed number) = failed_answer plain number (is_started number plain.window.objects) refl
some_answer (Some plain) SealCheckpoint = inl (some_step plain events.SealCheckpoint tt)
some_answer (Some plain) Remove = inl (some_removal plain)
some_answer (Some plain) PlanCopy = inl (some_step plain events.PlanCopy tt)
some_answer (Some plain) SealCopy = sealed_answer plain (is_some plain.plan) refl
some_answer (Some plain) DropPlan = dropped_answer plain (is_some plain.plan) refl
some_answer (Some plain) Status = inl (some_step plain events.Status tt)
some_answer (Some plain) (Stop calls) = stop_answer plain calls plain.cache.left refl
some_answer (Some plain) (CrashKeep device objects) =
    keep_answer plain device objects (fits_writes (length plain.cache.pending) device)
    (fits_objects (length (under_way plain.window)) objects)
    refl refl
some_answer (Some plain) (CrashLost device objects) =
    lost_answer plain device objects (is_dash device) (fits_objects (length (under_way plain.window)) objects) refl refl

-- a line is answered or bad
data LineFate (number : ℕ) (state : State) (line : List ℕ) : Type 0 where
  goes : (answer : List ℕ) (next : State) → IsAnswered state line answer next → LineFate number state line
  stops : (ending : Ending) → StopsAt number state line ending → LineFate number state line

fate_bad : (number : ℕ) (state : State) (line : List ℕ) (reason : LineReason) → IsBad state line reason
    → LineFate number state line
fate_bad number state line reason bad = stops (Stopped number reason) (reason, bad, refl)

fate_spelled : (number : ℕ) (state : State) (line : List ℕ) (command : Command) → length line ≤ 65536 → SpellsCommand line command
    → HasAnswer state command ⊎ IsUnfitAtAll state command → LineFate number state line
fate_spelled number state line command short spelled (inl a) =
    goes a.0 a.1 (record { short = short; command = command; spelled = spelled; answered = a.2 })
fate_spelled number state line command short spelled (inr (inl disallowed)) =
    fate_bad number state line NotAllowed (short, (command, spelled, disallowed))
fate_spelled number state line command short spelled (inr (inr unfit)) =
    fate_bad number state line Letters (short, (command, spelled, unfit.0, unfit.1))

fate_short : (number : ℕ) (state : State) (line : List ℕ) → length line ≤ 65536
    → ((command : Command) × SpellsCommand line command) ⊎ (IsUnknown line ⊎ (HasWrongWordCount line ⊎ IsMisspelt line))
    → LineFate number state line
fate_short number state line short (inl c) = fate_spelled number state line c.0 short c.1 (some_answer state c.0)
fate_short number state line short (inr (inl unknown)) = fate_bad number state line UnknownCommand (short, unknown)
fate_short number state line short (inr (inr (inl miscounted))) = fate_bad number state line WordCount (short, miscounted)
fate_short number state line short (inr (inr (inr misspelt))) = fate_bad number state line Form (short, misspelt)

fate : (number : ℕ) (state : State) (line : List ℕ) → (65536 < length line) ⊎ (length line ≤ 65536) → LineFate number state line
fate number state line (inl long) = fate_bad number state line TooLong long
fate number state line (inr short) = fate_short number state line short (judge_line line)

abbrev SomeTranscript : ℕ → State → List (List ℕ) → Type 0
SomeTranscript number state lines = (text : List ℕ) × (ending : Ending) × Transcript number state lines text ending

after_stop : (number : ℕ) (state : State) (line : List ℕ) (lines : List (List ℕ)) (ending : Ending)
    → StopsAt number state line ending
    → SomeTranscript number state (line ∷ lines)
after_stop number state line lines ending s = ([], ending, inr (refl, s))

after_answer : (number : ℕ) (state next : State) (line answer : List ℕ) (lines : List (List ℕ))
    → IsAnswered state line answer next
    → SomeTranscript (number + 1) next lines → SomeTranscript number state (line ∷ lines)
after_answer number state next line answer lines a more =
    (answer ++ 10 ∷ more.0, more.1, inl (answer, next, more.0, a, refl, more.2))

-- the lines have a transcript from each state on
pub some_transcript : (lines : List (List ℕ)) (number : ℕ) (state : State) → SomeTranscript number state lines
some_transcript [] number state = ([], AllAnswered state, (refl, refl))
some_transcript (line ∷ lines) number state =
    elim (fate number state line (cases_lt 65536 (length line))) [
      | goes answer next a ↦ after_answer number state next line answer lines a (some_transcript lines (number + 1) next)
      | stops ending s ↦ after_stop number state line lines ending s
    ]

-- the transcript of a script that passes its limit
past_limit : (script : List ℕ) → 2 ^ 24 < length script → IsFrontOfTranscript script []
past_limit script long = record {
  rest = [];
  ending = Stopped (line_after (2 ^ 24) script) TooLong;
  transcript = inr (long, refl, refl);
}

within_limit : (script : List ℕ) → length script ≤ 2 ^ 24 → SomeTranscript 1 None (lines_of script)
    → IsFrontOfTranscript script []
within_limit script short t = record { rest = t.0; ending = t.1; transcript = inl (short, t.2) }

by_length : (script : List ℕ) → (2 ^ 24 < length script) ⊎ (length script ≤ 2 ^ 24) → IsFrontOfTranscript script []
by_length script (inl long) = past_limit script long
by_length script (inr short) = within_limit script short (some_transcript (lines_of script) 1 None)

-- nothing is the front of each script's transcript
pub nothing_written : (script : List ℕ) → IsFrontOfTranscript script []
nothing_written script = by_length script (cases_lt (2 ^ 24) (length script))

-- a script and its transcript
abbrev HasTranscript : List ℕ → Type 0
HasTranscript script = (text : List ℕ) × (ending : Ending) × IsTranscript script text ending

transcript_by_length : (script : List ℕ) → (2 ^ 24 < length script) ⊎ (length script ≤ 2 ^ 24) → HasTranscript script
transcript_by_length script (inl long) = ([], Stopped (line_after (2 ^ 24) script) TooLong, inr (long, refl, refl))
transcript_by_length script (inr short) = let t = some_transcript (lines_of script) 1 None in (t.0, t.1, inl (short, t.2))

-- each script has a transcript
pub transcript_of : (script : List ℕ) → (text : List ℕ) × (ending : Ending) × IsTranscript script text ending
transcript_of script = transcript_by_length script (cases_lt (2 ^ 24) (length script))
