-- What the answers of small tests tell.
use Rattle.std.proofs.Common.{◌≡◌, ℕ, ◌+◌, ◌<◌, ◌≤◌, ◌^◌, ◌⊎◌, true, false, List, [], ◌∷◌, ◌++◌, length, take, refl, sym, ◌∙◌, ap}
use Rattle.std.proofs.Common.{subst, inl, inr, arith, append-nil, length-append}
use Rattle.std.specs.Prelude.{Option, Some, None, Result, Ok, Err, OnOk, OnErr, is_err, IfSome, count_by, ◌==◌}
use Rattle.std.specs.Io.KnownBytes.{Appends, Consumes, IsAtEnd}
use Rattle.std.proofs.lemmas.Bool.{cases_lt}
use Rattle.std.proofs.lemmas.List.{take-append-le}
use Rattle.vol_replay.specs.declared.outcome.Outcome.{Outcome}
use Rattle.vol_replay.specs.declared.outcome.Outcome.TheVariants.{Done, BadLine, ReadFault, WriteFault, OutOfMemory}
use Rattle.transcript.specs.declared.reason.LineReason.{LineReason}
use Rattle.transcript.specs.declared.reason.LineReason.TheVariants.{TooLong}
use Rattle.lsvd_fault.specs.Faults.{Counts, CountsOne}
use Rattle.lsvd_fault.proofs.Streams.{appends_nothing}
use Rattle.transcript.specs.Transcript.{Ending, AllAnswered, Stopped, IsTranscript, IsFrontOfTranscript, line_after}
use Rattle.transcript.proofs.Existence.{nothing_written}
use Rattle.vol_replay.specs.Written.{IsOutcomeOf}
use Rattle.vol_replay.specs.Lines.{IsHandedOver}

-- what holds at an error
pub at_error : {T E P : Type 0} (r : Result T E) → is_err r ≡ true → OnErr r P → P
at_error (Ok x) e p = cc
at_error (Err x) e p = p

-- what holds where there is none
pub at_success : {T E P : Type 0} (r : Result T E) → is_err r ≡ false → OnOk r P → P
at_success (Ok x) e p = p
at_success (Err x) e p = cc

-- nothing was counted where there is none
pub not_counted : {T E : Type 0} (r : Result T E) → is_err r ≡ false → (before now : ℕ) → Counts (is_err r) before now
    → now ≡ before
not_counted (Ok x) e before now counts = counts
not_counted (Err x) e before now counts = cc

-- one was counted at an error
pub one_counted : {T E : Type 0} (r : Result T E) → is_err r ≡ true → (before now : ℕ) → Counts (is_err r) before now
    → CountsOne before now
one_counted (Ok x) e before now counts = cc
one_counted (Err x) e before now counts = counts

-- answers that were handed over before a bad line end by no fault of reading
pub bad_line_is_told : (old new : Option (List ℕ)) (answers : List ℕ) (number : ℕ) (reason : LineReason) (result : Outcome)
    → IsHandedOver old new answers (BadLine number reason) result → result ≡ ReadFault → ⊥
bad_line_is_told old new answers number reason result (inl e) is =
    (let f : BadLine number reason ≡ ReadFault = sym e.0 ∙ is in cc)
bad_line_is_told old new answers number reason result (inr e) is = (let f : WriteFault ≡ ReadFault = sym e.0 ∙ is in cc)

-- a list that is empty by its test
pub is_nothing : (xs : List ℕ) → (length xs == 0) ≡ true → xs ≡ []
is_nothing [] e = refl
is_nothing (x ∷ xs) e = absurd (grind arith)

-- where nothing was run, nothing was written for the script that the source had
pub nothing_for_source : (old out : Option (List ℕ)) → IfSome old (λ script. (text : List ℕ) × Appends out out text
    × IsFrontOfTranscript script text)
nothing_for_source None out = tt
nothing_for_source (Some script) out = ([], appends_nothing out, nothing_written script)

-- a script past its limit goes on as it likes
transcript_of_longer : (front left text : List ℕ) (ending : Ending) → 2 ^ 24 < length front → IsTranscript front text ending
    → IsTranscript (front ++ left) text ending
unfolding line_after
transcript_of_longer front left text ending long (inl t) = absurd (omega (arith, t.0, long))
transcript_of_longer front left text ending long (inr t) =
    let same : take (2 ^ 24) (front ++ left) ≡ take (2 ^ 24) front = take-append-le (2 ^ 24) front left (omega (arith, long)) in
    inr (
      (let e = length-append front left in omega (arith, e, long)),
      t.1,
      t.2 ∙ ap (λ bytes. Stopped (1 + count_by (λ b. b == 10) bytes) TooLong) (sym same),
    )

front_of_longer : (front left text : List ℕ) → 2 ^ 24 < length front → IsFrontOfTranscript front text
    → IsFrontOfTranscript (front ++ left) text
front_of_longer front left text long t =
    record {
      rest = t.rest;
      ending = t.ending;
      transcript = transcript_of_longer front left (text ++ t.rest) t.ending long
          t.transcript;
    }

written_of_longer : (front left text : List ℕ) (outcome : Outcome) → 2 ^ 24 < length front → IsOutcomeOf front text outcome
    → IsOutcomeOf (front ++ left) text outcome
written_of_longer front left text (Done rig) long t = (t.0, transcript_of_longer front left text (AllAnswered t.0) long t.1, t.2)
written_of_longer front left text (BadLine number reason) long t =
    transcript_of_longer front left text (Stopped number reason) long t
written_of_longer front left text ReadFault long t = front_of_longer front left text long t
written_of_longer front left text WriteFault long t = front_of_longer front left text long t
written_of_longer front left text OutOfMemory long t = front_of_longer front left text long t

written_by_length : (front left text : List ℕ) (outcome : Outcome) → (length front ≤ 2 ^ 24 → left ≡ [])
    → IsOutcomeOf front text outcome
    → (2 ^ 24 < length front) ⊎ (length front ≤ 2 ^ 24) → IsOutcomeOf (front ++ left) text outcome
written_by_length front left text outcome end w (inl long) = written_of_longer front left text outcome long w
written_by_length front left text outcome end w (inr short) =
    let P : List ℕ → Type 0 = λ xs. IsOutcomeOf xs text outcome in
    subst P (sym (ap (λ xs. front ++ xs) (end short) ∙ append-nil front)) w

-- what was written for the bytes that were read was written for the script that the source had
pub written_for_source : (old now out_old out_new : Option (List ℕ)) (bytes : List ℕ) (outcome : Outcome) → Consumes old now bytes
    → (length bytes ≤ 2 ^ 24 → IsAtEnd now)
    → (text : List ℕ) × Appends out_old out_new text × IsOutcomeOf bytes text outcome
    → IfSome old (λ script. (text : List ℕ) × Appends out_old out_new text × IsOutcomeOf script text outcome)
written_for_source None now out_old out_new bytes outcome read end w = tt
written_for_source (Some script) None out_old out_new bytes outcome read end w = absurd read
written_for_source (Some script) (Some left) out_old out_new bytes outcome read end w =
    let P : List ℕ → Type 0 = λ xs. IsOutcomeOf xs w.0 outcome in
    (w.0, w.1, subst P (sym read) (written_by_length bytes left w.0 outcome end w.2 (cases_lt (2 ^ 24) (length bytes))))
