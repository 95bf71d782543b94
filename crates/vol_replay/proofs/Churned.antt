-- How far a churn has come: its steps, the reads after them, and the summary.
use Rattle.std.proofs.Common.{◌≡◌, ℕ, ◌+◌, ◌*◌, ◌<◌, ◌≤◌, nat_le, Bool, true, List, [], ◌++◌, refl, sym, ◌∙◌, ap, subst}
use Rattle.std.proofs.Common.{arith, add-one, append_assoc}
use Rattle.std.specs.Prelude.{Option, Some, None, is_some, Result, Ok, Err, IfOk, codes}
use Rattle.std.specs.Global.{Vec}
use Rattle.std.specs.Io.KnownBytes.{Appends}
use Rattle.std.specs.declared.alloc.AllocError.{AllocError}
use Rattle.std.proofs.lemmas.Bool.{le-leb}
use Rattle.lsvd_base.specs.declared.geometry.Geometry.{Geometry}
use Rattle.lsvd_base.specs.Limits.{may_transfer}
use Rattle.lsvd_device.specs.Calls.{passes}
use Rattle.plain_disk.specs.declared.event.PlainEvent.{PlainEvent}
use Rattle.plain_disk.specs.declared.event.PlainEvent.TheVariants as events
use Rattle.plain_disk.specs.declared.event.PlainReply.TheVariants.{Planned}
use Rattle.plain_disk.specs.Reads.{look_reply, look_calls, planned_read}
use Rattle.plain_disk.specs.Sectors.{sectors_at}
use Rattle.plain_disk.specs.State.{PlainState, created_volume, history_length, frontier_of, image_now}
use Rattle.plain_disk.specs.Step.{plain_reply, plain_after}
use Rattle.replay_script.specs.declared.command.Command.{Command}
use Rattle.replay_script.proofs.Runs.{some_run_text}
use Rattle.transcript.specs.declared.reason.LineReason.{LineReason}
use Rattle.transcript.specs.Answers.{State, Answers, TellsReply, released_by}
use Rattle.churn_script.specs.Draws.{command_drawn, after_step}
use Rattle.replay_rig.specs.declared.answer.Answer.{Answer}
use Rattle.replay_rig.specs.declared.answer.Answer.TheVariants as answers
use Rattle.replay_rig.specs.Puts.{lowest_started}
use Rattle.replay_rig.specs.Rig.{RigState, ShowsPlain}
use Rattle.replay_rig.specs.Steps.{AnswersEvent, AnswersRead}
use Rattle.vol_replay.specs.declared.line.LineRefusal.TheVariants.{Bad}
use Rattle.vol_replay.specs.Answers.{TellsAnswer}
use Rattle.vol_replay.specs.declared.outcome.ChurnOutcome.TheVariants.{Done, WriteFault}
use Rattle.vol_replay.specs.Written.{ShowsState, TakesFront}
use Rattle.vol_replay.specs.Lines.{AnswersCommand, IsUnanswered, IsUnfit}
use Rattle.vol_replay.specs.Churn.{ChurnState, IsOutcomeOfChurn, IsStep, ReadsSectors, Takes, churn_from, churn_geometry}
use Rattle.vol_replay.specs.Churn.{count_line, mounts_of, next_command, summary_of, summary_text}
use Rattle.vol_replay.specs.Steps.{HasRead, HasRun, IsChurned, IsSummedUp, ShowsChurned, TakesNext}
use Rattle.vol_replay.proofs.Unstopped.{never_unfit, next_churned, read_churned}

-- ---- a step

-- each answer has a text
some_text : (answer : Answer) → (text : List ℕ) × TellsAnswer answer text
some_text (answers.Created sectors) = (_, refl)
some_text (answers.Entries count) = (_, refl)
some_text (answers.Sectors bytes) = some_run_text bytes.items
some_text (answers.Sealed number) = (_, refl)
some_text (answers.Put number) = (_, refl)
some_text (answers.Done frontier) = (_, refl)
some_text (answers.Failed number) = (_, refl)
some_text (answers.Gone number) = (_, refl)
some_text (answers.Copied sectors) = (_, refl)
some_text answers.Dropped = (_, refl)
some_text (answers.Counts entries sealed frontier) = (_, refl)
some_text (answers.Stopping calls) = (_, refl)
some_text (answers.Mounted entries number) = (_, refl)
some_text (answers.BatchFull sectors) = (_, refl)
some_text (answers.EntriesFull count) = (_, refl)
some_text (answers.NoRoom lacking left) = (_, refl)
some_text answers.Range = (_, refl)
some_text answers.Nothing = (_, refl)
some_text answers.Busy = (_, refl)
some_text answers.Fault = (_, refl)

-- what a rig tells of the plain volumes that it shows: the lowest put that is out, and whether the plan of a copy is
pub record TellsNext (lowest : Option ℕ) (has_plan : Bool) (rig : RigState) : Type 0 where
  pub lowest_is : (plain : PlainState) → ShowsPlain rig plain → lowest ≡ lowest_started plain.window.objects
  pub plan_is : (plain : PlainState) → ShowsPlain rig plain → has_plan ≡ is_some plain.plan

-- the command by what it tells is the next one of each volume
is_next : (draws : ℕ) (lowest : Option ℕ) (has_plan : Bool) (command : Command) (rig : RigState) (plain : PlainState)
    → TellsNext lowest has_plan rig → command ≡ command_drawn lowest has_plan draws → ShowsPlain rig plain
    → command ≡ next_command plain draws
is_next draws lowest has_plan command rig plain tells is shown =
    is ∙ ap (λ l. command_drawn l has_plan draws) (tells.lowest_is plain shown)
    ∙ ap (λ h. command_drawn (lowest_started plain.window.objects) h draws) (tells.plan_is plain shown)

taken_to : (draws mounts : ℕ) (command : Command) (answer : Answer) (rig : RigState) (plain : PlainState) (next : State)
    → IsChurned plain → command ≡ next_command plain draws → mounts ≡ mounts_of command
    → ((text : List ℕ) → TellsAnswer answer text → Answers (Some plain) command text next) → ShowsState (Some rig) next
    → (after : PlainState) × Takes plain (next_command plain draws) after × (mounts ≡ mounts_of (next_command plain draws))
    × ShowsChurned rig after
taken_to draws mounts command answer rig plain None churned is counts answered shown = absurd shown
taken_to draws mounts command answer rig plain (Some after) churned is counts answered shown =
    let told = some_text answer in
    let answers_next : Answers (Some plain) (next_command plain draws) told.0 (Some after) =
    subst (λ c. Answers (Some plain) c told.0 (Some after)) is (answered told.0 told.1) in (
      after,
      (told.0, answers_next),
      counts ∙ ap mounts_of is,
      record { shows = shown; churned = next_churned plain draws churned told.0 after answers_next },
    )

pub takes_next : (draws : ℕ) (lowest : Option ℕ) (has_plan : Bool) (mounts : ℕ) (command : Command) (answer : Answer)
    (old new : RigState)
    → TellsNext lowest has_plan old → command ≡ command_drawn lowest has_plan draws → mounts ≡ mounts_of command
    → AnswersCommand command answer (Some old) (Some new) → TakesNext draws mounts old new
takes_next draws lowest has_plan mounts command answer old new tells is counts h = record {
  by = λ plain shown.
      let (next, answered, now) = h.by (Some plain) shown.shows in
      taken_to draws mounts command answer new plain next shown.churned
      (is_next draws lowest has_plan command old plain tells is shown.shows)
      counts answered now;
}

pub never_refused : (draws : ℕ) (lowest : Option ℕ) (has_plan : Bool) (command : Command) (reason : LineReason) (rig : RigState)
    → TellsNext lowest has_plan rig → command ≡ command_drawn lowest has_plan draws
    → IsUnanswered (Some rig) command (Bad reason) → ((plain : PlainState) × ShowsChurned rig plain) → ⊥
never_refused draws lowest has_plan command reason rig tells is refused (plain, shown) =
    never_unfit plain draws reason
    (subst (λ c. IsUnfit (Some plain) c reason) (is_next draws lowest has_plan command rig plain tells is shown.shows)
    (refused (Some plain) shown.shows))

-- ---- the steps

pub run_first : (seed draws : ℕ) (rig : RigState) → draws ≡ seed → ShowsPlain rig (created_volume churn_geometry)
    → HasRun seed 0 draws 0 rig
run_first seed draws rig is shows = record {
  state = churn_from seed;
  runs = refl;
  draws_is = sym is;
  mounts_is = refl;
  shows = record { shows = shows; churned = record { geometry = refl; unstopped = refl } };
}

pub run_next : (seed steps draws now mounts mounted : ℕ) (old new : RigState) → HasRun seed steps draws mounts old
    → TakesNext draws mounted old new → now ≡ after_step draws → HasRun seed (steps + 1) now (mounts + mounted) new
run_next seed steps draws now mounts mounted old new run takes draws_are =
    let before : ChurnState = run.state in
    let (next, took, counts, shows) =
    (subst (λ d. TakesNext d mounted old new) (sym run.draws_is) takes).by before.plain run.shows in
    let after : ChurnState = record { plain = next; draws = now; mounts = mounts + mounted } in
    let step : IsStep before after = record {
      takes = took;
      draws = draws_are ∙ ap after_step (sym run.draws_is);
      mounts = ap (λ m. m + mounted) (sym run.mounts_is) ∙ ap (λ m. before.mounts + m) counts;
    } in
    record { state = after; runs = rw add-one (before, run.runs, step); draws_is = refl; mounts_is = refl; shows = shows }

-- ---- the reads

pub read_none : (rig : RigState) → HasRead 0 rig rig
read_none rig = record { by = λ plain shown. (plain, refl, shown) }

-- a read of 8 sectors within the volume is answered by its sectors
read_reply : (lba : ℕ) (plain : PlainState) → IsChurned plain → lba + 8 ≤ 1024
    → look_reply plain lba 8 ≡ Planned (planned_read plain lba 8)
read_reply lba plain churned within =
    let covered : nat_le (lba + 8) 1024 ≡ true = le-leb (lba + 8) 1024 within in
    let may : may_transfer plain.geometry lba 8 ≡ true = ap (λ (g : Geometry). may_transfer g lba 8) churned.geometry ∙ covered in
    let passed : passes plain.cache.left (look_calls plain lba 8) ≡ true =
    ap (λ left. passes left (look_calls plain lba 8)) churned.unstopped in
    rw (may, passed) refl

reads_sectors : (lba : ℕ) (plain : PlainState) → IsChurned plain → lba + 8 ≤ 1024
    → ReadsSectors lba 8 plain
    (released_by (plain_reply plain (events.Look lba 8)) (plain_after (events.Look lba 8) plain))
reads_sectors lba plain churned within =
    let told = some_run_text (sectors_at lba 8 (image_now plain)) in
    let is = read_reply lba plain churned within in
    (told.0, told.1, (subst (λ reply. TellsReply reply told.0) (sym is) told.1, refl))

pub read_next : (reads : ℕ) (answer : Answer) (old middle new : RigState) → HasRead reads old middle
    → AnswersRead (8 * reads) 8 answer middle new → reads < 128 → HasRead (reads + 1) old new
read_next reads answer old middle new first more below = record {
  by = λ plain shown.
      let (before, read, now) = first.by plain shown in
      let event : PlainEvent = events.Look (8 * reads) 8 in
      let after : PlainState = released_by (plain_reply before event) (plain_after event before) in
      let both = more.by before now.shows in (
        after,
        rw add-one (before, read, reads_sectors (8 * reads) before now.churned (omega (arith, below))),
        record { shows = both.1; churned = read_churned (8 * reads) 8 before now.churned },
      );
}

-- ---- the summary

-- the lines, pushed one after the other
pub lines_pushed : (steps writes sealed frontier mounts : ℕ) (none one two three four five six : List ℕ)
    → none ≡ [] → one ≡ none ++ count_line (codes "steps ") steps → two ≡ one ++ count_line (codes "writes ") writes
    → three ≡ two ++ count_line (codes "sealed ") sealed → four ≡ three ++ count_line (codes "frontier ") frontier
    → five ≡ four ++ count_line (codes "mounts ") mounts → six ≡ five ++ codes "agree\n"
    → six ≡ summary_text steps writes sealed frontier mounts
unfolding summary_text
lines_pushed steps writes sealed frontier mounts none one two three four five six begun first second third fourth fifth sixth =
    rw (sixth, fifth, fourth, third, second, first, begun) (simp append_assoc)

summed : (steps mounts : ℕ) (plain : PlainState) (answer : Answer) (entries sealed frontier : ℕ) (text : List ℕ)
    (old new : RigState)
    → AnswersEvent events.Status answer old new → answer ≡ answers.Counts entries sealed frontier
    → text ≡ summary_text steps entries sealed frontier mounts
    → ShowsChurned old plain → (text ≡ summary_of steps mounts plain) × ShowsChurned new plain
summed steps mounts plain answer entries sealed frontier text old new says is told shown =
    let both = says.by plain shown.shows in
    let counts : answers.Counts entries sealed frontier ≡ answers.Counts (history_length plain) plain.window.last
    (frontier_of plain) = sym is ∙ both.0 in
    let e : entries ≡ history_length plain = cc in
    let s : sealed ≡ plain.window.last = cc in
    let f : frontier ≡ frontier_of plain = cc in
    (told ∙ rw (e, s, f) refl, record { shows = both.1; churned = shown.churned })

pub text_sums : (steps mounts : ℕ) (answer : Answer) (entries sealed frontier : ℕ) (old new : RigState)
    (result : Result (Vec ℕ) AllocError)
    → AnswersEvent events.Status answer old new → answer ≡ answers.Counts entries sealed frontier
    → IfOk result (λ text. text.items ≡ summary_text steps entries sealed frontier mounts)
    → IfOk result (λ text. (plain : PlainState) → ShowsChurned old plain
    → (text.items ≡ summary_of steps mounts plain) × ShowsChurned new plain)
text_sums steps mounts answer entries sealed frontier old new (Ok text) says is told = λ plain shown.
    summed steps mounts plain answer entries sealed frontier text.items old new says is told shown
text_sums steps mounts answer entries sealed frontier old new (Err error) says is told = tt

pub never_another : (rig new : RigState) (answer : Answer)
    → ((entries sealed frontier : ℕ) → answer ≡ answers.Counts entries sealed frontier → ⊥)
    → AnswersEvent events.Status answer rig new → ((plain : PlainState) × ShowsChurned rig plain) → ⊥
never_another rig new answer other says (plain, shown) =
    other (history_length plain) plain.window.last (frontier_of plain) (says.by plain shown.shows).0

-- ---- the whole

pub whole_summed : (seed steps draws mounts : ℕ) (text : List ℕ) (run read new : RigState) → HasRun seed steps draws mounts run
    → HasRead 128 run read
    → ((plain : PlainState) → ShowsChurned read plain → (text ≡ summary_of steps mounts plain) × ShowsChurned new plain)
    → IsSummedUp seed steps new text
whole_summed seed steps draws mounts text run read new ran reads sums =
    let (last, read_to, shown) = reads.by ran.state.plain ran.shows in
    let both = sums last shown in
    record {
      last = last;
      churn = record {
        state = ran.state;
        runs = ran.runs;
        reads = read_to;
        sums = both.0 ∙ ap (λ m. summary_of steps m last) (sym ran.mounts_is);
      };
      shows = both.1.shows;
    }

-- a run shows a volume of a churn, and so do the reads after it
pub run_shows : (seed steps draws mounts : ℕ) (rig : RigState) → HasRun seed steps draws mounts rig
    → (plain : PlainState) × ShowsChurned rig plain
run_shows seed steps draws mounts rig run = (run.state.plain, run.shows)

pub reads_show : (reads : ℕ) (old new : RigState) → HasRead reads old new → ((plain : PlainState) × ShowsChurned old plain)
    → (plain : PlainState) × ShowsChurned new plain
reads_show reads old new read (plain, shown) = (let (last, read_to, now) = read.by plain shown in (last, now))

pub churn_done : (seed steps : ℕ) (rig : RigState) (text : List ℕ) (old new : Option (List ℕ)) → IsSummedUp seed steps rig text
    → Appends old new text → IsOutcomeOfChurn seed steps old new (Done rig)
churn_done seed steps rig text old new sums taken = (text, sums.last, sums.churn, sums.shows, taken)

pub churn_broken : (seed steps : ℕ) (rig : RigState) (text : List ℕ) (old new : Option (List ℕ)) → IsSummedUp seed steps rig text
    → TakesFront old new text → IsOutcomeOfChurn seed steps old new WriteFault
churn_broken seed steps rig text old new sums front = (text, sums.last, sums.churn, front)
