-- What holds of the volume in each state that a script reaches.
use Rattle.std.proofs.Common.{◌≡◌, ℕ, ◌+◌, ◌*◌, List, [], ◌∷◌, length, replicate, refl, subst, sym, ◌∙◌, inl, inr}
use Rattle.std.specs.Prelude.{Some, None, Bool, true}
use Rattle.plain_disk.specs.State.{PlainState}
use Rattle.plain_disk.specs.Stops.{mounted_kept, mounted_lost}
use Rattle.plain_disk.specs.Step.{plain_reply, plain_after}
use Rattle.plain_disk.specs.Valid.{IsPlainVolume}
use Rattle.plain_disk.specs.declared.event.PlainEvent.{PlainEvent}
use Rattle.plain_disk.specs.declared.event.PlainEvent.TheVariants as events
use Rattle.plain_disk.specs.declared.event.PlainReply.{PlainReply}
use Rattle.plain_disk.specs.declared.event.PlainReply.TheVariants.{Planned, Removing}
use Rattle.plain_disk.proofs.EventLemmas.{created_is, events_keep}
use Rattle.plain_disk.proofs.MountLemmas.{mounts_keep}
use Rattle.plain_disk.proofs.StopLemmas.{stops_keep, stop_keeps_acknowledged}
use Rattle.replay_script.specs.declared.command.Command.{Command}
use Rattle.replay_script.specs.declared.command.Command.TheVariants.{New, Write, Zero, Read, Flush, Seal, TakeJob, JobDone}
use Rattle.replay_script.specs.declared.command.Command.TheVariants.{JobFailed, SealCheckpoint, Remove, PlanCopy, SealCopy}
use Rattle.replay_script.specs.declared.command.Command.TheVariants.{DropPlan, Status, Stop, CrashKeep, CrashLost}
use Rattle.replay_script.specs.Grammar.{lines_of, Fits}
use Rattle.transcript.specs.Letters.{kept_by, landed_by}
use Rattle.transcript.specs.Answers.{State, released_by, removed_by, Answers}
use Rattle.transcript.specs.Transcript.{Ending, AllAnswered, Stopped, Transcript, IsTranscript}
use Rattle.transcript.specs.Reached.{StopsKeepFlushed}
use Rattle.transcript.proofs.LandedLetters.{may_land}
use Rattle.transcript.proofs.Removals.{AreRemovalsMade, RemovesNothing, event_keeps_removals, removal_keeps_removals}

-- a plain volume between the lines of a script
pub record IsScriptVolume (plain : PlainState) : Type 0 where
  pub volume : IsPlainVolume plain
  pub removals : AreRemovalsMade plain

-- such a one, where there is a volume
abbrev pub IsPlainState : State → Type 0
IsPlainState None = Unit {0}
IsPlainState (Some plain) = IsScriptVolume plain

along : (state : State) (plain : PlainState) → state ≡ Some plain → IsScriptVolume plain → IsPlainState state
along state plain is h = let P : State → Type 0 = λ s. IsPlainState s in subst P (sym is) h

-- an event of another kind than removals leaves such a volume
step_keeps : (plain : PlainState) (event : PlainEvent) → RemovesNothing event → IsScriptVolume plain
    → IsScriptVolume (plain_after event plain)
step_keeps plain event is h = record {
  volume = events_keep plain event h.volume;
  removals = event_keeps_removals plain event is h.removals;
}

-- a plan that is given back leaves one
released_keeps : (reply : PlainReply) (plain : PlainState) → IsScriptVolume plain → IsScriptVolume (released_by reply plain)
released_keeps (Planned read) plain h = step_keeps plain (events.Release read.objects) tt h
released_keeps reply plain h = h

-- a removal that is made leaves a plain volume
removed_keeps : (reply : PlainReply) (plain : PlainState) → IsPlainVolume plain → IsPlainVolume (removed_by reply plain)
removed_keeps (Removing number) plain h = events_keep plain (events.RemoveDone number) h
removed_keeps reply plain h = h

removal_keeps : (plain : PlainState) → IsScriptVolume plain
    → IsScriptVolume (removed_by (plain_reply plain events.TakeRemove) (plain_after events.TakeRemove plain))
removal_keeps plain h = record {
  volume = removed_keeps (plain_reply plain events.TakeRemove) _ (events_keep plain events.TakeRemove h.volume);
  removals = removal_keeps_removals plain h.removals;
}

-- and so does a mount, where what has landed may have
mounted_is : (plain : PlainState) (objects : List ℕ) (kept : List Bool) → IsScriptVolume plain
    → IsScriptVolume (mounted_kept (landed_by plain objects) kept plain)
    × IsScriptVolume (mounted_lost (landed_by plain objects) plain)
mounted_is plain objects kept h =
    let mounts = mounts_keep plain (landed_by plain objects) kept h.volume (may_land plain objects h.volume h.removals) in (
      record { volume = mounts.0; removals = record { made = refl; none_out = refl } },
      record { volume = mounts.1; removals = record { made = refl; none_out = refl } },
    )

-- a command that is answered leaves such a volume
pub answer_keeps : (state : State) (command : Command) (text : List ℕ) (next : State) → Fits command
    → Answers state command text next
    → IsPlainState state → IsPlainState next
answer_keeps None (New g) text next fits s h = along next _ s.1 (record {
  volume = created_is g fits;
  removals = record { made = refl; none_out = refl };
})
answer_keeps None (Write lba sectors byte) text next fits s h = absurd s
answer_keeps None (Zero lba sectors) text next fits s h = absurd s
answer_keeps None (Read lba sectors) text next fits s h = absurd s
answer_keeps None Flush text next fits s h = absurd s
answer_keeps None Seal text next fits s h = absurd s
answer_keeps None TakeJob text next fits s h = absurd s
answer_keeps None (JobDone number) text next fits s h = absurd s
answer_keeps None (JobFailed number) text next fits s h = absurd s
answer_keeps None SealCheckpoint text next fits s h = absurd s
answer_keeps None Remove text next fits s h = absurd s
answer_keeps None PlanCopy text next fits s h = absurd s
answer_keeps None SealCopy text next fits s h = absurd s
answer_keeps None DropPlan text next fits s h = absurd s
answer_keeps None Status text next fits s h = absurd s
answer_keeps None (Stop calls) text next fits s h = absurd s
answer_keeps None (CrashKeep device objects) text next fits s h = absurd s
answer_keeps None (CrashLost device objects) text next fits s h = absurd s
answer_keeps (Some plain) (New g) text next fits s h = absurd s
answer_keeps (Some plain) (Write lba sectors byte) text next fits s h =
    along next _ s.1 (step_keeps plain (events.Write lba (replicate (512 * sectors) byte)) tt h)
answer_keeps (Some plain) (Zero lba sectors) text next fits s h =
    along next _ s.1 (step_keeps plain (events.Zero lba sectors) tt h)
answer_keeps (Some plain) (Read lba sectors) text next fits s h =
    along next _ s.1 (released_keeps (plain_reply plain (events.Look lba sectors)) _
    (step_keeps plain (events.Look lba sectors) tt h))
answer_keeps (Some plain) Flush text next fits s h = along next _ s.1 (step_keeps plain events.Flush tt h)
answer_keeps (Some plain) Seal text next fits s h = along next _ s.1 (step_keeps plain events.Seal tt h)
answer_keeps (Some plain) TakeJob text next fits s h = along next _ s.1 (step_keeps plain events.TakeJob tt h)
answer_keeps (Some plain) (JobDone number) text next fits s h =
    along next _ s.1.1 (step_keeps plain (events.JobDone (Some number)) tt h)
answer_keeps (Some plain) (JobFailed number) text next fits s h =
    along next _ s.2 (step_keeps plain (events.JobFailed (Some number)) tt h)
answer_keeps (Some plain) SealCheckpoint text next fits s h = along next _ s.1 (step_keeps plain events.SealCheckpoint tt h)
answer_keeps (Some plain) Remove text next fits s h = along next _ s.1 (removal_keeps plain h)
answer_keeps (Some plain) PlanCopy text next fits s h = along next _ s.1 (step_keeps plain events.PlanCopy tt h)
answer_keeps (Some plain) SealCopy text next fits s h = along next _ s.1.1 (step_keeps plain (events.SealCopy true) tt h)
answer_keeps (Some plain) DropPlan text next fits s h = along next _ s.1.1 (step_keeps plain events.DropPlan tt h)
answer_keeps (Some plain) Status text next fits s h = along next _ s.1 (step_keeps plain events.Status tt h)
answer_keeps (Some plain) (Stop calls) text next fits s h = along next _ s.2 (record {
  volume = stops_keep plain calls h.volume;
  removals = record { made = h.removals.made; none_out = h.removals.none_out };
})
answer_keeps (Some plain) (CrashKeep device objects) text next fits s h =
    along next _ s.1.1 (mounted_is plain objects (kept_by (length plain.cache.pending) device) h).0
answer_keeps (Some plain) (CrashLost device objects) text next fits s h =
    along next _ s.1.1 (mounted_is plain objects [] h).1

-- an ending with a volume has such a one
abbrev EndingIs : Ending → Type 0
EndingIs ending = (state : State) → ending ≡ AllAnswered state → IsPlainState state

lines_keep : (lines : List (List ℕ)) (number : ℕ) (state : State) (text : List ℕ) (ending : Ending)
    → Transcript number state lines text ending
    → IsPlainState state → EndingIs ending
lines_keep [] number state text ending t h = λ other is.
    let same : AllAnswered state ≡ AllAnswered other = sym t.1 ∙ is in
    let one : state ≡ other = cc in
    let P : State → Type 0 = λ s. IsPlainState s in subst P one h
lines_keep (line ∷ lines) number state text ending (inl t) h =
    lines_keep lines (number + 1) t.1 t.2 ending t.5 (answer_keeps state t.3.command t.0 t.1 t.3.spelled.fits t.3.answered h)
lines_keep (line ∷ lines) number state text ending (inr t) h = λ other is.
    let same : Stopped number t.1.0 ≡ AllAnswered other = sym t.1.2 ∙ is in cc

script_keeps : (script text : List ℕ) (plain : PlainState) → IsTranscript script text (AllAnswered (Some plain))
    → IsPlainVolume plain
script_keeps script text plain (inl t) =
    (lines_keep (lines_of script) 1 None text (AllAnswered (Some plain)) t.1 tt (Some plain) refl).volume
script_keeps script text plain (inr t) = cc

-- in each state that a script reaches, a stop keeps what was flushed, and no more than was taken
pub reached_keeps : StopsKeepFlushed
reached_keeps script plain landed kept (text, t) may =
    let stops = stop_keeps_acknowledged plain landed kept (script_keeps script text plain t) may in
    record { flushed = stops.3; settled = stops.1; recovered = stops.2; taken = stops.4 }
