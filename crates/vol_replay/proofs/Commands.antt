-- What commands are answered, by what the steps of a rig answer; and why the others are not.
use Rattle.std.proofs.Common.{◌≡◌, ℕ, Bool, true, false, List, length, map, refl, sym, ◌∙◌, ap, subst}
use Rattle.std.specs.Prelude.{Option, Some, None, is_some, IsTrue, Result, Err, IfOk}
use Rattle.lsvd_base.specs.declared.geometry.Geometry.{Geometry}
use Rattle.lsvd_device.specs.declared.fate.Fate.{Fate}
use Rattle.object_stream.specs.Landed.{Numbers}
use Rattle.upload_window.specs.Window.{is_started}
use Rattle.plain_disk.specs.declared.event.PlainEvent.{PlainEvent}
use Rattle.plain_disk.specs.declared.event.PlainEvent.TheVariants as events
use Rattle.plain_disk.specs.declared.event.PlainReply.{PlainReply}
use Rattle.plain_disk.specs.declared.event.PlainReply.TheVariants as replies
use Rattle.plain_disk.specs.Cache as plain_cache
use Rattle.plain_disk.specs.State.{PlainState, created_volume, history_length}
use Rattle.plain_disk.specs.Step.{plain_reply, plain_after}
use Rattle.plain_disk.specs.Stops.{stopping_after_calls, recovered_number, mounted_kept, mounted_lost}
use Rattle.replay_script.specs.declared.command.Command.{Command}
use Rattle.replay_script.specs.declared.command.Command.TheVariants as commands
use Rattle.replay_script.specs.RunText.{IsRunText}
use Rattle.transcript.specs.Letters.{is_dash, fits_writes, fates_of, kept_by, under_way, fits_objects, landed_by}
use Rattle.transcript.specs.Answers.{State, TellsReply, AnswersStep, released_by, removed_by, FitKept, FitLost, AnswersOn, IsNew}
use Rattle.transcript.specs.Answers.{text_of_mount}
use Rattle.transcript.specs.declared.reason.LineReason.TheVariants.{NotAllowed, Letters}
use Rattle.replay_rig.specs.declared.answer.Answer.{Answer}
use Rattle.replay_rig.specs.declared.answer.Answer.TheVariants as answers
use Rattle.vol_replay.specs.declared.line.LineRefusal.{LineRefusal}
use Rattle.vol_replay.specs.declared.line.LineRefusal.TheVariants.{Bad}
use Rattle.replay_rig.specs.Answers.{SaysReply}
use Rattle.vol_replay.specs.Answers.{TellsAnswer}
use Rattle.replay_rig.specs.Steps.{AnswersEvent, AnswersRead, AnswersRemoval, FailsPut, StopsAfter, IsMountTold}
use Rattle.replay_rig.specs.Steps.{MountsKeptRig, MountsLostRig}
use Rattle.vol_replay.specs.Lines.{is_crash, AnswersIn, AnswersCommand, IsUnanswered}
use Rattle.replay_rig.specs.Rig.{RigState, ShowsPlain}

-- ---- events

-- the text that tells an answer tells the reply that the answer says
tells_reply : (reply : PlainReply) (answer : Answer) (text : List ℕ) → SaysReply reply answer → TellsAnswer answer text
    → TellsReply reply text
tells_reply (replies.Entered count) answer text says tells = subst (λ a. TellsAnswer a text) says tells
tells_reply (replies.Flushed count) answer text says tells = subst (λ a. TellsAnswer a text) says tells
tells_reply (replies.Planned read) answer text says tells =
    subst (λ bytes. IsRunText bytes text) says.2 (subst (λ a. TellsAnswer a text) says.1 tells)
tells_reply replies.Released answer text says tells = absurd says
tells_reply (replies.Sealed number) answer text says tells = subst (λ a. TellsAnswer a text) says tells
tells_reply (replies.Taken number) answer text says tells = subst (λ a. TellsAnswer a text) says tells
tells_reply (replies.Done frontier) answer text says tells = subst (λ a. TellsAnswer a text) says tells
tells_reply replies.Returned answer text says tells = absurd says
tells_reply (replies.Removing number) answer text says tells = subst (λ a. TellsAnswer a text) says tells
tells_reply replies.Removed answer text says tells = absurd says
tells_reply replies.GivenBack answer text says tells = absurd says
tells_reply (replies.Copying sectors) answer text says tells = subst (λ a. TellsAnswer a text) says tells
tells_reply replies.Dropped answer text says tells = subst (λ a. TellsAnswer a text) says tells
tells_reply (replies.Told writes sealed frontier checkpoint) answer text says tells = subst (λ a. TellsAnswer a text) says tells
tells_reply (replies.BatchFull sectors) answer text says tells = subst (λ a. TellsAnswer a text) says tells
tells_reply (replies.EntriesFull count) answer text says tells = subst (λ a. TellsAnswer a text) says tells
tells_reply (replies.NoRoom lacking left) answer text says tells = subst (λ a. TellsAnswer a text) says tells
tells_reply replies.Range answer text says tells = subst (λ a. TellsAnswer a text) says tells
tells_reply replies.Nothing answer text says tells = subst (λ a. TellsAnswer a text) says tells
tells_reply replies.Busy answer text says tells = subst (λ a. TellsAnswer a text) says tells
tells_reply replies.Fault answer text says tells = subst (λ a. TellsAnswer a text) says tells

-- a command that is one event is answered as that is
pub event_in : (command : Command) (event : PlainEvent) (answer : Answer) (old new : RigState)
    → ((plain : PlainState) (text : List ℕ) (next : State) → ShowsPlain old plain → AnswersStep plain event text next
    → AnswersOn plain command text next)
    → AnswersEvent event answer old new → (state : State) → AnswersIn command answer (Some old) (Some new) state
event_in command event answer old new is h None shown = absurd shown
event_in command event answer old new is h (Some plain) shown =
    let both = h.by plain shown in
    let next : State = Some (plain_after event plain) in
    (next, λ text tells. is plain text next shown (tells_reply (plain_reply plain event) answer text both.0 tells, refl), both.1)

pub read_in : (lba sectors : ℕ) (answer : Answer) (old new : RigState) → AnswersRead lba sectors answer old new
    → (state : State) → AnswersIn (commands.Read lba sectors) answer (Some old) (Some new) state
read_in lba sectors answer old new h None shown = absurd shown
read_in lba sectors answer old new h (Some plain) shown =
    let both = h.by plain shown in
    let event : PlainEvent = events.Look lba sectors in
    let next : State = Some (released_by (plain_reply plain event) (plain_after event plain)) in
    (next, λ text tells. (tells_reply (plain_reply plain event) answer text both.0 tells, refl), both.1)

pub removal_in : (answer : Answer) (old new : RigState) → AnswersRemoval answer old new
    → (state : State) → AnswersIn commands.Remove answer (Some old) (Some new) state
removal_in answer old new h None shown = absurd shown
removal_in answer old new h (Some plain) shown =
    let both = h.by plain shown in
    let reply : PlainReply = plain_reply plain events.TakeRemove in
    let next : State = Some (removed_by reply (plain_after events.TakeRemove plain)) in
    (next, λ text tells. (tells_reply reply answer text both.0 tells, refl), both.1)

-- ---- the end of a put

-- a put of this number is out in each plain volume that the rig shows
abbrev pub IsOut : (number : ℕ) → RigState → Type 0
IsOut number rig = (plain : PlainState) → ShowsPlain rig plain → IsTrue (is_started number plain.window.objects)

pub put_is_out : (number : ℕ) (result : Bool) (rig : RigState) → result ≡ true
    → ((plain : PlainState) → ShowsPlain rig plain → result ≡ is_started number plain.window.objects) → IsOut number rig
put_is_out number result rig is tells plain shown = sym (tells plain shown) ∙ is

put_is_not_out : (number : ℕ) (result : Bool) (rig : RigState) (plain : PlainState) → result ≡ false → ShowsPlain rig plain
    → result ≡ is_started number plain.window.objects → IsTrue (is_started number plain.window.objects) → ⊥
put_is_not_out number result rig plain is shown tells out = cc

pub done_not_allowed : (number : ℕ) (result : Bool) (rig : RigState) → result ≡ false
    → ((plain : PlainState) → ShowsPlain rig plain → result ≡ is_started number plain.window.objects)
    → IsUnanswered (Some rig) (commands.JobDone number) (Bad NotAllowed)
done_not_allowed number result rig is tells None shown = absurd shown
done_not_allowed number result rig is tells (Some plain) shown =
    λ out. put_is_not_out number result rig plain is shown (tells plain shown) out

pub failed_not_allowed : (number : ℕ) (result : Bool) (rig : RigState) → result ≡ false
    → ((plain : PlainState) → ShowsPlain rig plain → result ≡ is_started number plain.window.objects)
    → IsUnanswered (Some rig) (commands.JobFailed number) (Bad NotAllowed)
failed_not_allowed number result rig is tells None shown = absurd shown
failed_not_allowed number result rig is tells (Some plain) shown =
    λ out. put_is_not_out number result rig plain is shown (tells plain shown) out

-- ---- the end of a plan

-- the plan of a copy is out in each plain volume that the rig shows
abbrev pub HasPlanOut : RigState → Type 0
HasPlanOut rig = (plain : PlainState) → ShowsPlain rig plain → IsTrue (is_some plain.plan)

pub plan_is_out : (result : Bool) (rig : RigState) → result ≡ true
    → ((plain : PlainState) → ShowsPlain rig plain → result ≡ is_some plain.plan) → HasPlanOut rig
plan_is_out result rig is tells plain shown = sym (tells plain shown) ∙ is

plan_is_not_out : (result : Bool) (plain : PlainState) → result ≡ false → result ≡ is_some plain.plan
    → IsTrue (is_some plain.plan) → ⊥
plan_is_not_out result plain is tells out = cc

pub seal_not_allowed : (result : Bool) (rig : RigState) → result ≡ false
    → ((plain : PlainState) → ShowsPlain rig plain → result ≡ is_some plain.plan)
    → IsUnanswered (Some rig) commands.SealCopy (Bad NotAllowed)
seal_not_allowed result rig is tells None shown = absurd shown
seal_not_allowed result rig is tells (Some plain) shown = λ out. plan_is_not_out result plain is (tells plain shown) out

pub drop_not_allowed : (result : Bool) (rig : RigState) → result ≡ false
    → ((plain : PlainState) → ShowsPlain rig plain → result ≡ is_some plain.plan)
    → IsUnanswered (Some rig) commands.DropPlan (Bad NotAllowed)
drop_not_allowed result rig is tells None shown = absurd shown
drop_not_allowed result rig is tells (Some plain) shown = λ out. plan_is_not_out result plain is (tells plain shown) out

pub seal_copy_in : (answer : Answer) (old new : RigState) → HasPlanOut old → AnswersEvent (events.SealCopy true) answer old new
    → (state : State) → AnswersIn commands.SealCopy answer (Some old) (Some new) state
seal_copy_in answer old new out h =
    event_in commands.SealCopy (events.SealCopy true) answer old new (λ plain text next shown steps. (out plain shown, steps)) h

pub drop_plan_in : (answer : Answer) (old new : RigState) → HasPlanOut old → AnswersEvent events.DropPlan answer old new
    → (state : State) → AnswersIn commands.DropPlan answer (Some old) (Some new) state
drop_plan_in answer old new out h =
    event_in commands.DropPlan events.DropPlan answer old new (λ plain text next shown steps. (out plain shown, steps)) h

pub done_in : (number : ℕ) (answer : Answer) (old new : RigState) → IsOut number old
    → AnswersEvent (events.JobDone (Some number)) answer old new
    → (state : State) → AnswersIn (commands.JobDone number) answer (Some old) (Some new) state
done_in number answer old new out h =
    event_in (commands.JobDone number) (events.JobDone (Some number)) answer old new
    (λ plain text next shown steps. (out plain shown, steps)) h

pub failed_in : (number : ℕ) (answer : Answer) (old new : RigState) → IsOut number old → FailsPut number answer old new
    → (state : State) → AnswersIn (commands.JobFailed number) answer (Some old) (Some new) state
failed_in number answer old new out h None shown = absurd shown
failed_in number answer old new out h (Some plain) shown =
    let both = h.by plain shown in (
      Some (plain_after (events.JobFailed (Some number)) plain),
      λ text tells. (out plain shown, subst (λ a. TellsAnswer a text) both.0 tells, refl),
      both.1,
    )

-- ---- a device that is told to stop

none_by : (left : Option ℕ) → is_some left ≡ false → left ≡ None
none_by None is = refl
none_by (Some calls) is = cc

pub told_once : (result : Bool) (rig : RigState) → result ≡ false
    → ((plain : PlainState) → ShowsPlain rig plain → result ≡ is_some plain.cache.left)
    → (plain : PlainState) → ShowsPlain rig plain → plain.cache.left ≡ None
told_once result rig is tells plain shown = none_by plain.cache.left (sym (tells plain shown) ∙ is)

told_before : (left : Option ℕ) (result : Bool) → result ≡ true → result ≡ is_some left → left ≡ None → ⊥
told_before None result is tells none = cc
told_before (Some calls) result is tells none = cc

pub stop_not_allowed : (calls : ℕ) (result : Bool) (rig : RigState) → result ≡ true
    → ((plain : PlainState) → ShowsPlain rig plain → result ≡ is_some plain.cache.left)
    → IsUnanswered (Some rig) (commands.Stop calls) (Bad NotAllowed)
stop_not_allowed calls result rig is tells None shown = absurd shown
stop_not_allowed calls result rig is tells (Some plain) shown =
    λ none. told_before plain.cache.left result is (tells plain shown) none

pub stop_in : (calls : ℕ) (old new : RigState) (answer : Answer) → answer ≡ answers.Stopping calls
    → ((plain : PlainState) → ShowsPlain old plain → plain.cache.left ≡ None) → StopsAfter calls old new
    → (state : State) → AnswersIn (commands.Stop calls) answer (Some old) (Some new) state
stop_in calls old new answer is once stops None shown = absurd shown
stop_in calls old new answer is once stops (Some plain) shown = (
  Some (stopping_after_calls calls plain),
  λ text tells. (once plain shown, subst (λ a. TellsAnswer a text) is tells, refl),
  stops.by plain shown,
)

-- ---- letters

-- so many writes are pending, and so many objects under way, in each plain volume that the rig shows
abbrev pub ArePending : (count : ℕ) → RigState → Type 0
ArePending count rig = (plain : PlainState) → ShowsPlain rig plain → count ≡ length plain.cache.pending

abbrev pub AreUnderWay : (count : ℕ) → RigState → Type 0
AreUnderWay count rig = (plain : PlainState) → ShowsPlain rig plain → count ≡ length (under_way plain.window)

pub fit_kept : (device objects : List ℕ) (pending count : ℕ) (rig : RigState) → IsTrue (fits_writes pending device)
    → IsTrue (fits_objects count objects)
    → ArePending pending rig → AreUnderWay count rig → (plain : PlainState) → ShowsPlain rig plain → FitKept plain device objects
fit_kept device objects pending count rig writes puts pends are plain shown = (
  subst (λ n. IsTrue (fits_writes n device)) (pends plain shown) writes,
  subst (λ n. IsTrue (fits_objects n objects))
      (are plain shown) puts,
)

pub fit_lost : (device objects : List ℕ) (count : ℕ) (rig : RigState) → IsTrue (is_dash device)
    → IsTrue (fits_objects count objects)
    → AreUnderWay count rig → (plain : PlainState) → ShowsPlain rig plain → FitLost plain device objects
fit_lost device objects count rig dash puts are plain shown =
    (dash, subst (λ n. IsTrue (fits_objects n objects)) (are plain shown) puts)

-- as many as a test fails for, it fails for
fails_too : (test : ℕ → Bool) (n m : ℕ) → n ≡ m → test n ≡ false → IsTrue (test m) → ⊥
fails_too test n m same fails holds = (let e = ap test same in cc)

pub unfit_writes : (device objects : List ℕ) (pending : ℕ) (rig : RigState) → fits_writes pending device ≡ false
    → ArePending pending rig
    → IsUnanswered (Some rig) (commands.CrashKeep device objects) (Bad Letters)
unfit_writes device objects pending rig unfit pends None shown = absurd shown
unfit_writes device objects pending rig unfit pends (Some plain) shown =
    (tt, λ fit. fails_too (λ n. fits_writes n device) pending (length plain.cache.pending) (pends plain shown) unfit fit.0)

pub unfit_kept : (device objects : List ℕ) (count : ℕ) (rig : RigState) → fits_objects count objects ≡ false
    → AreUnderWay count rig
    → IsUnanswered (Some rig) (commands.CrashKeep device objects) (Bad Letters)
unfit_kept device objects count rig unfit are None shown = absurd shown
unfit_kept device objects count rig unfit are (Some plain) shown =
    (tt, λ fit. fails_too (λ n. fits_objects n objects) count (length (under_way plain.window)) (are plain shown) unfit fit.1)

pub unfit_word : (device objects : List ℕ) (rig : RigState) → is_dash device ≡ false
    → IsUnanswered (Some rig) (commands.CrashLost device objects) (Bad Letters)
unfit_word device objects rig unfit None shown = absurd shown
unfit_word device objects rig unfit (Some plain) shown = (tt, λ fit. let dash = fit.0 in cc)

pub unfit_lost : (device objects : List ℕ) (count : ℕ) (rig : RigState) → fits_objects count objects ≡ false
    → AreUnderWay count rig
    → IsUnanswered (Some rig) (commands.CrashLost device objects) (Bad Letters)
unfit_lost device objects count rig unfit are None shown = absurd shown
unfit_lost device objects count rig unfit are (Some plain) shown =
    (tt, λ fit. fails_too (λ n. fits_objects n objects) count (length (under_way plain.window)) (are plain shown) unfit fit.1)

-- ---- a stop of the machine, and a mount

mount_told : (landed : Numbers) (plain mounted : PlainState) (answer : Answer) (text : List ℕ)
    → IsMountTold landed plain mounted answer
    → TellsAnswer answer text → text ≡ text_of_mount (history_length mounted) (recovered_number landed plain)
mount_told landed plain mounted answer text is tells = subst (λ a. TellsAnswer a text) is tells

pub keep_in : (device objects : List ℕ) (list : List Fate) (pending : ℕ) (answer : Answer) (old new : RigState)
    → ((plain : PlainState) → ShowsPlain old plain → FitKept plain device objects)
    → ((plain : PlainState) → ShowsPlain old plain → pending ≡ length plain.cache.pending) → list ≡ fates_of pending device
    → MountsKeptRig list objects answer old new → (state : State) → AnswersIn (commands.CrashKeep device objects) answer
    (Some old) (Some new) state
keep_in device objects list pending answer old new fit count are h None shown = absurd shown
keep_in device objects list pending answer old new fit count are h (Some plain) shown =
    let landed : Numbers = landed_by plain objects in
    let kept : List Bool = map plain_cache.is_kept list in
    let read : kept ≡ kept_by (length plain.cache.pending) device =
    ap (map plain_cache.is_kept) (are ∙ ap (λ n. fates_of n device) (count plain shown)) in
    let both = subst (λ k. IsMountTold landed plain (mounted_kept landed k plain) answer
    × ShowsPlain new (mounted_kept landed k plain)) read (h.by plain shown) in
    let mounted : PlainState = mounted_kept landed (kept_by (length plain.cache.pending) device) plain in
    (Some mounted, λ text tells. (fit plain shown, (mount_told landed plain mounted answer text both.0 tells, refl)), both.1)

pub lost_in : (device objects : List ℕ) (answer : Answer) (old new : RigState)
    → ((plain : PlainState) → ShowsPlain old plain → FitLost plain device objects) → MountsLostRig objects answer old new
    → (state : State) → AnswersIn (commands.CrashLost device objects) answer (Some old) (Some new) state
lost_in device objects answer old new fit h None shown = absurd shown
lost_in device objects answer old new fit h (Some plain) shown =
    let landed : Numbers = landed_by plain objects in
    let mounted : PlainState = mounted_lost landed plain in
    let both = h.by plain shown in
    (Some mounted, λ text tells. (fit plain shown, (mount_told landed plain mounted answer text both.0 tells, refl)), both.1)

-- ---- the first command

pub created_in : (geometry : Geometry) (new : RigState) → ShowsPlain new (created_volume geometry)
    → (state : State) → AnswersIn (commands.New geometry) (answers.Created geometry.sectors) None (Some new) state
created_in geometry new h None shown = (Some (created_volume geometry), λ text tells. (tells, refl), h)
created_in geometry new h (Some plain) shown = absurd shown

not_new : (command : Command) → ((geometry : Geometry) → command ≡ commands.New geometry → ⊥) → IsNew command → ⊥
not_new (commands.New geometry) other is = other geometry refl
not_new (commands.Write lba sectors byte) other is = is
not_new (commands.Zero lba sectors) other is = is
not_new (commands.Read lba sectors) other is = is
not_new commands.Flush other is = is
not_new commands.Seal other is = is
not_new commands.SealCheckpoint other is = is
not_new commands.Remove other is = is
not_new commands.PlanCopy other is = is
not_new commands.SealCopy other is = is
not_new commands.DropPlan other is = is
not_new commands.TakeJob other is = is
not_new (commands.JobDone number) other is = is
not_new (commands.JobFailed number) other is = is
not_new commands.Status other is = is
not_new (commands.Stop calls) other is = is
not_new (commands.CrashKeep device objects) other is = is
not_new (commands.CrashLost device objects) other is = is

pub first_not_allowed : (command : Command) → ((geometry : Geometry) → command ≡ commands.New geometry → ⊥)
    → IsUnanswered None command (Bad NotAllowed)
first_not_allowed command other None shown = not_new command other
first_not_allowed command other (Some plain) shown = absurd shown

-- where there is a volume, none is made
pub new_not_allowed : (geometry : Geometry) (rig : RigState) → IsUnanswered (Some rig) (commands.New geometry) (Bad NotAllowed)
new_not_allowed geometry rig None shown = absurd shown
new_not_allowed geometry rig (Some plain) shown = λ allowed. allowed

-- ---- a command that is no crash

pub no_crash : (command : Command) → ((device objects : List ℕ) → command ≡ commands.CrashKeep device objects → ⊥)
    → ((device objects : List ℕ) → command ≡ commands.CrashLost device objects → ⊥) → is_crash command ≡ false
no_crash (commands.CrashKeep device objects) keep lost = absurd (keep device objects refl)
no_crash (commands.CrashLost device objects) keep lost = absurd (lost device objects refl)
no_crash (commands.New geometry) keep lost = refl
no_crash (commands.Write lba sectors byte) keep lost = refl
no_crash (commands.Zero lba sectors) keep lost = refl
no_crash (commands.Read lba sectors) keep lost = refl
no_crash commands.Flush keep lost = refl
no_crash commands.Seal keep lost = refl
no_crash commands.SealCheckpoint keep lost = refl
no_crash commands.Remove keep lost = refl
no_crash commands.PlanCopy keep lost = refl
no_crash commands.SealCopy keep lost = refl
no_crash commands.DropPlan keep lost = refl
no_crash commands.TakeJob keep lost = refl
no_crash (commands.JobDone number) keep lost = refl
no_crash (commands.JobFailed number) keep lost = refl
no_crash commands.Status keep lost = refl
no_crash (commands.Stop calls) keep lost = refl

-- ---- where there is none

-- what the first command is answered
abbrev pub FirstAnswered : Command → Result (RigState × Answer) LineRefusal → Type 0
FirstAnswered command result = IfOk result (λ made. AnswersCommand command made.1 None (Some made.0))

pub first_made : (command : Command) (geometry : Geometry) (result made : Result (RigState × Answer) LineRefusal) → result ≡ made
    → command ≡ commands.New geometry → FirstAnswered (commands.New geometry) made → FirstAnswered command result
first_made command geometry result made same is answers =
    subst (λ r. FirstAnswered command r) (sym same) (subst (λ c. FirstAnswered c made) (sym is) answers)

pub first_refused : (command : Command) (result : Result (RigState × Answer) LineRefusal) (refusal : LineRefusal)
    → result ≡ Err refusal → FirstAnswered command result
first_refused command result refusal is = subst (FirstAnswered command) (sym is) tt
