-- How far a replay has come: what is written, what is still to be written, and what is left to run.
use Rattle.std.proofs.Common.{◌≡◌, ℕ, ◌+◌, ◌≤◌, ◌^◌, List, [], ◌∷◌, ◌++◌, length, take, drop, refl, sym, ◌∙◌, ap, subst, inl, inr}
use Rattle.std.proofs.Common.{append_assoc, append-nil}
use Rattle.std.specs.Prelude.{Option, None}
use Rattle.std.proofs.lemmas.List.{take-append-drop}
use Rattle.replay_script.specs.Grammar.{lines_of}
use Rattle.transcript.specs.declared.reason.LineReason.{LineReason}
use Rattle.transcript.specs.Answers.{State}
use Rattle.transcript.specs.Transcript.{Ending, AllAnswered, Stopped, Transcript, IsAnswered, IsBad, IsFrontOfTranscript}
use Rattle.transcript.proofs.Determined.{StopsAt}
use Rattle.transcript.proofs.Existence.{some_transcript}
use Rattle.vol_replay.specs.declared.outcome.Outcome.{Outcome}
use Rattle.vol_replay.specs.declared.outcome.Outcome.TheVariants.{Done, BadLine, WriteFault, OutOfMemory}
use Rattle.vol_replay.specs.Lines.{MovesOn, IsHandedOver, AnswersLine}
use Rattle.replay_rig.specs.Rig.{RigState}
use Rattle.vol_replay.specs.Written.{ShowsState, IsOutcomeOf, TakesFront}
use Rattle.std.specs.Io.KnownBytes.{Appends}
use Rattle.lsvd_fault.proofs.Streams.{appends_nothing, appends_more}

-- Whatever transcript the rest has from here on, the whole has what is written, then what is pending, and then it.
pub record IsUnderWay (script written pending rest : List ℕ) (number : ℕ) (state : State) : Type 0 where
  pub goes_on : (text : List ℕ) (ending : Ending) → Transcript number state (lines_of rest) text ending
      → Transcript 1 None (lines_of script) (written ++ (pending ++ text)) ending

-- nothing was run yet
pub under_way_first : (script : List ℕ) → IsUnderWay script [] [] script 1 None
under_way_first script = record { goes_on = λ text ending h. h }

-- one more line was answered
pub under_way_more : (script written pending rest after line answer : List ℕ) (number : ℕ) (state next : State)
    → IsUnderWay script written pending rest number state → lines_of rest ≡ line ∷ lines_of after
    → IsAnswered state line answer next → IsUnderWay script written (pending ++ (answer ++ 10 ∷ [])) after (number + 1) next
under_way_more script written pending rest after line answer number state next w first answered = record {
  goes_on = λ text ending h.
      let P : List (List ℕ) → Type 0 = λ lines. Transcript number state lines (answer ++ 10 ∷ text) ending in
      let here : P (line ∷ lines_of after) = inl (answer, next, text, answered, refl, h) in
      let Q : List ℕ → Type 0 = λ t. Transcript 1 None (lines_of script) (written ++ t) ending in
      let regrouped : pending ++ (answer ++ 10 ∷ text) ≡ (pending ++ (answer ++ 10 ∷ [])) ++ text =
      ap (λ t. pending ++ t) (sym (append_assoc answer (10 ∷ []) text)) ∙ sym (append_assoc pending (answer ++ 10 ∷ []) text) in
      subst Q regrouped (w.goes_on (answer ++ 10 ∷ text) ending (subst P (sym first) here));
}

-- what was pending is written
pub under_way_written : (script written pending rest : List ℕ) (number : ℕ) (state : State)
    → IsUnderWay script written pending rest number state → IsUnderWay script (written ++ pending) [] rest number state
under_way_written script written pending rest number state w = record {
  goes_on = λ text ending h.
      let P : List ℕ → Type 0 = λ t. Transcript 1 None (lines_of script) t ending in
      subst P (sym (append_assoc written pending text)) (w.goes_on text ending h);
}

-- each line was answered
pub transcript_done : (script written pending rest : List ℕ) (number : ℕ) (state : State)
    → IsUnderWay script written pending rest number state → rest ≡ []
    → Transcript 1 None (lines_of script) (written ++ pending) (AllAnswered state)
transcript_done script written pending rest number state w none =
    let P : List ℕ → Type 0 = λ t. Transcript 1 None (lines_of script) (written ++ t) (AllAnswered state) in
    let Q : List ℕ → Type 0 = λ left. Transcript number state (lines_of left) [] (AllAnswered state) in
    subst P (append-nil pending) (w.goes_on [] (AllAnswered state) (subst Q (sym none) (refl, refl)))

-- the next line is bad
pub transcript_stopped : (script written pending rest line after : List ℕ) (number : ℕ) (state : State) (ending : Ending)
    → IsUnderWay script written pending rest number state → lines_of rest ≡ line ∷ lines_of after
    → StopsAt number state line ending → Transcript 1 None (lines_of script) (written ++ pending) ending
transcript_stopped script written pending rest line after number state ending w first stops =
    let P : List ℕ → Type 0 = λ t. Transcript 1 None (lines_of script) (written ++ t) ending in
    let Q : List (List ℕ) → Type 0 = λ lines. Transcript number state lines [] ending in
    subst P (append-nil pending) (w.goes_on [] ending (subst Q (sym first) (inr (refl, stops))))

-- what is written and a front of what is pending is the front of a transcript
pub front_of_transcript : (script written pending rest : List ℕ) (number : ℕ) (state : State) (n : ℕ) → length script ≤ 2 ^ 24
    → IsUnderWay script written pending rest number state → IsFrontOfTranscript script (written ++ take n pending)
front_of_transcript script written pending rest number state n short w =
    let t = some_transcript (lines_of rest) number state in
    let P : List ℕ → Type 0 = λ text. Transcript 1 None (lines_of script) text t.1 in
    let regrouped : written ++ (pending ++ t.0) ≡ (written ++ take n pending) ++ (drop n pending ++ t.0) =
    ap (λ xs. written ++ (xs ++ t.0)) (sym (take-append-drop n pending))
    ∙ ap (λ xs. written ++ xs) (append_assoc (take n pending) (drop n pending) t.0)
    ∙ sym (append_assoc written (take n pending) (drop n pending ++ t.0)) in
    record { rest = drop n pending ++ t.0; ending = t.1; transcript = inl (short, subst P regrouped (w.goes_on t.0 t.1 t.2)) }

-- some of what was pending is written
pub under_way_moved : (script written pending done left rest : List ℕ) (number : ℕ) (state : State)
    → IsUnderWay script written pending rest number state → pending ≡ done ++ left
    → IsUnderWay script (written ++ done) left rest number state
under_way_moved script written pending done left rest number state w e = record {
  goes_on = λ text ending h.
      let P : List ℕ → Type 0 = λ t. Transcript 1 None (lines_of script) t ending in
      let regrouped : written ++ (pending ++ text) ≡ (written ++ done) ++ (left ++ text) =
      ap (λ xs. written ++ (xs ++ text)) e ∙ ap (λ xs. written ++ xs) (append_assoc done left text)
      ∙ sym (append_assoc written done (left ++ text)) in
      subst P regrouped (w.goes_on text ending h);
}

-- The sink has taken what is written, and the rest is still to be run.
pub record IsRun (old now : Option (List ℕ)) (script pending rest : List ℕ) (number : ℕ) (state : State) : Type 0 where
  pub written : List ℕ
  pub taken : Appends old now written
  pub under_way : IsUnderWay script written pending rest number state

-- so it is from a state that the rig shows
pub record IsRunning (old now : Option (List ℕ)) (script pending rest : List ℕ) (number : ℕ) (rig : Option RigState) :
    Type 0 where
  pub state : State
  pub shown : ShowsState rig state
  pub run : IsRun old now script pending rest number state

-- nothing was run yet
pub run_first : (known : Option (List ℕ)) (script : List ℕ) → IsRunning known known script [] script 1 None
run_first known script = record {
  state = None;
  shown = tt;
  run = record { written = []; taken = appends_nothing known; under_way = under_way_first script };
}

-- a line was answered, and some of the answers were written
pub run_more : (old mid new : Option (List ℕ)) (script pending rest line after middle left : List ℕ) (number : ℕ)
    (before next : Option RigState)
    → IsRunning old mid script pending rest number before → lines_of rest ≡ line ∷ lines_of after
    → AnswersLine line before next pending middle → MovesOn mid new middle left
    → IsRunning old new script left after (number + 1) next
run_more old mid new script pending rest line after middle left number before next r first answers moved =
    let (answer, state, answered, shown, pushed) = answers.by r.state r.shown in
    let w : List ℕ = r.run.written in
    record {
      state = state;
      shown = shown;
      run = record {
        written = w ++ moved.0;
        taken = appends_more old mid new w moved.0 r.run.taken moved.1;
        under_way = under_way_moved script w (pending ++ (answer ++ 10 ∷ [])) moved.0 left after (number + 1) state
            (under_way_more script w pending rest after line answer number r.state state r.run.under_way first answered)
            (sym pushed ∙ moved.2);
      };
    }

abbrev pub WritesText : Option (List ℕ) → Option (List ℕ) → List ℕ → Outcome → Type 0
WritesText old new script outcome = (text : List ℕ) × Appends old new text × IsOutcomeOf script text outcome

-- each line was answered, and the last answers are handed over
pub written_done : (old mid new : Option (List ℕ)) (script pending rest : List ℕ) (number : ℕ) (rig : Option RigState)
    (result : Outcome)
    → length script ≤ 2 ^ 24 → IsRunning old mid script pending rest number rig → rest ≡ []
    → IsHandedOver mid new pending (Done rig) result
    → WritesText old new script result
written_done old mid new script pending rest number rig result short r none (inl h) =
    let P : Outcome → Type 0 = λ o. WritesText old new script o in
    let w : List ℕ = r.run.written in
    subst P (sym h.0) (
      w ++ pending,
      appends_more old mid new w pending r.run.taken h.1,
      (r.state, inl (short, transcript_done script w pending rest number r.state r.run.under_way none), r.shown),
    )
written_done old mid new script pending rest number rig result short r none (inr h) =
    let P : Outcome → Type 0 = λ o. WritesText old new script o in
    let w : List ℕ = r.run.written in
    subst P (sym h.0) (
      w ++ take h.1.0 pending,
      appends_more old mid new w (take h.1.0 pending) r.run.taken h.1.2,
      front_of_transcript script w pending rest number r.state h.1.0 short r.run.under_way,
    )

-- a line is bad, and the answers before it are handed over
pub written_stopped : (old mid new : Option (List ℕ)) (script pending rest line after : List ℕ) (number : ℕ) (reason : LineReason)
    (rig : Option RigState)
    (result : Outcome) → length script ≤ 2 ^ 24 → IsRunning old mid script pending rest number rig
    → lines_of rest ≡ line ∷ lines_of after
    → ((state : State) → ShowsState rig state → IsBad state line reason)
    → IsHandedOver mid new pending (BadLine number reason) result
    → WritesText old new script result
written_stopped old mid new script pending rest line after number reason rig result short r first bad (inl h) =
    let P : Outcome → Type 0 = λ o. WritesText old new script o in
    let w : List ℕ = r.run.written in
    let stops : StopsAt number r.state line (Stopped number reason) = (reason, bad r.state r.shown, refl) in
    subst P (sym h.0) (
      w ++ pending,
      appends_more old mid new w pending r.run.taken h.1,
      inl (
        short,
        transcript_stopped script w pending rest line after number r.state (Stopped number reason) r.run.under_way
            first stops,
      ),
    )
written_stopped old mid new script pending rest line after number reason rig result short r first bad (inr h) =
    let P : Outcome → Type 0 = λ o. WritesText old new script o in
    let w : List ℕ = r.run.written in
    subst P (sym h.0) (
      w ++ take h.1.0 pending,
      appends_more old mid new w (take h.1.0 pending) r.run.taken h.1.2,
      front_of_transcript script w pending rest number r.state h.1.0 short r.run.under_way,
    )

-- memory ran out before the next line was answered
pub written_so_far : (old mid : Option (List ℕ)) (script pending rest : List ℕ) (number : ℕ) (rig : Option RigState)
    → length script ≤ 2 ^ 24 → IsRunning old mid script pending rest number rig → WritesText old mid script OutOfMemory
written_so_far old mid script pending rest number rig short r =
    let P : List ℕ → Type 0 = λ xs. IsFrontOfTranscript script xs in
    let w : List ℕ = r.run.written in
    (w, r.run.taken, subst P (append-nil w) (front_of_transcript script w pending rest number r.state 0 short r.run.under_way))

-- the sink failed after a line was answered
pub written_broken : (old mid new : Option (List ℕ)) (script pending rest line after middle : List ℕ) (number : ℕ)
    (before next : Option RigState)
    → length script ≤ 2 ^ 24 → IsRunning old mid script pending rest number before → lines_of rest ≡ line ∷ lines_of after
    → AnswersLine line before next pending middle → TakesFront mid new middle → WritesText old new script WriteFault
written_broken old mid new script pending rest line after middle number before next short r first answers front =
    let (answer, state, answered, shown, pushed) = answers.by r.state r.shown in
    let w : List ℕ = r.run.written in
    let more = under_way_more script w pending rest after line answer number r.state state r.run.under_way first answered in
    let P : List ℕ → Type 0 = λ xs. Appends mid new (take front.0 xs) in (
      w ++ take front.0 (pending ++ (answer ++ 10 ∷ [])),
      appends_more old mid new w (take front.0 (pending ++ (answer ++ 10 ∷ []))) r.run.taken (subst P pushed front.2),
      front_of_transcript script w (pending ++ (answer ++ 10 ∷ [])) after (number + 1) state front.0 short more,
    )
