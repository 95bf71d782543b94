-- Contract: what a run of the program says of its input, of its output and of its status.
use Rattle.std.specs.Prelude.{◌≡◌, ◌⊎◌, ℕ, Bool, List, Option, IfSome}
use Rattle.std.specs.Io.KnownBytes.{Appends}
use Rattle.lsvd_device.specs.Device.{DiskState}
use Rattle.lsvd_fault.specs.Faults.{CountsOne}
use Rattle.lsvd_objstore.specs.Store.{ReceiptState}
use Rattle.clap.specs.Walk.{Text}
use Rattle.transcript.specs.Answers.{State}
use Rattle.transcript.specs.Transcript.{AllAnswered, Stopped, IsTranscript, IsFrontOfTranscript}
use Rattle.command_line.specs.Check.{AsksToCheck, HasBadCheckValue, check_value}
use Rattle.command_line.specs.Churn.{AsksToChurn, HasBadNumber, churn_value}
use Rattle.command_line.specs.Collect.{collect_value}
use Rattle.command_line.specs.CommandLine.{IsFaulty, Spells, replay, create, serve, collect, check, churn}
use Rattle.command_line.specs.Create.{AsksToCreate, HasBadValue, value_in}
use Rattle.command_line.specs.Mount.{AsksToMount, HasBadMountValue}
use Rattle.command_line.specs.Options.{Given}
use Rattle.command_line.specs.Serve.{AsksToServe, HasBadServeValue, serve_value}
use Rattle.command_line.specs.declared.check.CheckRequest.{CheckRequest}
use Rattle.command_line.specs.declared.churn.ChurnRequest.{ChurnRequest}
use Rattle.command_line.specs.declared.create.CreateRequest.{CreateRequest}
use Rattle.command_line.specs.declared.mount.MountRequest.{MountRequest}
use Rattle.command_line.specs.declared.serve.ServeRequest.{ServeRequest}
use Rattle.plain_disk.specs.State.{PlainState}
use Rattle.vol_replay.specs.Churn.{IsChurn}
use Rattle.vol_replay.specs.Written.{TakesFront}
use Rattle.vol_replay.specs.declared.outcome.ChurnOutcome.{ChurnOutcome}
use Rattle.vol_replay.specs.declared.outcome.ChurnOutcome.TheVariants as churn_outcomes
use Rattle.vol_replay.specs.declared.outcome.Outcome.{Outcome}
use Rattle.vol_replay.specs.declared.outcome.Outcome.TheVariants as outcomes
use Rattle.volume_server.specs.Serving.{ListenerState, ConnectionState}
use Rattle.volume_commands.specs.Checking.{TellsCheck, Checks, RefusesCheck}
use Rattle.volume_commands.specs.Collecting.{TellsCollection, Collects}
use Rattle.volume_commands.specs.Creating.{TellsCreation, Creates, RefusesToCreate}
use Rattle.volume_commands.specs.Mounting.{RefusesFor}
use Rattle.volume_commands.specs.Serving.{TellsServing, Serves}
use Rattle.volume_commands.specs.World.{Places, CountsOneOf, CountsNone}
use Rattle.refusals.specs.declared.refusal.Refusal.{Refusal}
use Rattle.volume_commands.specs.declared.report.Report.{Report}
use Rattle.volume_commands.specs.declared.report.Report.TheVariants.{Done, Fault, Usage, BadLine, Refused, Missing, Memory}

-- ---- replays

-- how an outcome of a replay is reported
abbrev pub report_of : Outcome → Report
report_of (outcomes.Done rig) = Done
report_of (outcomes.BadLine number reason) = BadLine number reason
report_of outcomes.ReadFault = Fault
report_of outcomes.WriteFault = Fault
report_of outcomes.OutOfMemory = Memory

-- what was written to the output for this script, where the run ended so
abbrev pub IsReported : List ℕ → List ℕ → Report → Type 0
-- each line was answered
IsReported script text Done = (state : State) × IsTranscript script text (AllAnswered state)
-- the lines before the bad one were answered
IsReported script text (BadLine number reason) = IsTranscript script text (Stopped number reason)
-- a front of the transcript stands there
IsReported script text Fault = IsFrontOfTranscript script text
IsReported script text Memory = IsFrontOfTranscript script text
-- a replay does not end so
IsReported script text Usage = ⊥
IsReported script text (Refused why) = ⊥
IsReported script text Missing = ⊥

-- the output took what the script on the input is answered with
abbrev pub RunsReplay : Report → (input : Option (List ℕ)) → (old new : Option (List ℕ)) → Type 0
RunsReplay report input old new =
    IfSome input (λ script. (text : List ℕ) × Appends old new text × IsReported script text report)

-- ---- churns

-- how an outcome of a churn is reported
abbrev pub report_of_churn : ChurnOutcome → Report
report_of_churn (churn_outcomes.Done rig) = Done
report_of_churn churn_outcomes.WriteFault = Fault
report_of_churn churn_outcomes.OutOfMemory = Memory

-- the output took the summary of the generated script's run on the plain volume, or after a fault a front of it; where memory ran
-- out, nothing
abbrev pub TellsChurn : ChurnRequest → Report → (old new : Option (List ℕ)) → Type 0
TellsChurn request Done old new =
    (text : List ℕ) × (last : PlainState) × IsChurn request.seed request.steps text last × Appends old new text
TellsChurn request Fault old new =
    (text : List ℕ) × (last : PlainState) × IsChurn request.seed request.steps text last × TakesFront old new text
TellsChurn request Memory old new = new ≡ old
-- a churn does not end so
TellsChurn request Usage old new = ⊥
TellsChurn request (BadLine number reason) old new = ⊥
TellsChurn request (Refused why) old new = ⊥
TellsChurn request Missing old new = ⊥

-- the words ask for a churn, and the output took what is told of it; or they ask for nothing, or memory ran out
abbrev pub RunsChurn : (steps seed : List ℕ) → Report → (old new : Option (List ℕ)) → Type 0
RunsChurn steps seed Usage old new = HasBadNumber (churn_value steps seed) × (new ≡ old)
RunsChurn steps seed Memory old new = new ≡ old
RunsChurn steps seed report old new =
    (request : ChurnRequest) × AsksToChurn (churn_value steps seed) request × TellsChurn request report old new

-- ---- creations

-- the values of these options ask for a volume, and the output took what it is told with; or they ask for nothing, or
-- memory ran out before they were read
abbrev pub RunsCreate : List Given → Report → (old new : Option (List ℕ)) → Type 0
RunsCreate options Usage old new = HasBadValue (value_in options) × (new ≡ old)
RunsCreate options Memory old new = new ≡ old
RunsCreate options report old new =
    (request : CreateRequest) × AsksToCreate (value_in options) request × TellsCreation request report old new

-- ---- servers

-- the values of these options ask for a volume to be served, and the output took what is told of that; or they ask for nothing,
-- or memory ran out before they were read
abbrev pub RunsServe : List Given → Report → (old new : Option (List ℕ)) → Type 0
RunsServe options Usage old new = HasBadServeValue (serve_value options) × (new ≡ old)
RunsServe options Memory old new = TellsServing Memory old new
RunsServe options report old new =
    (request : ServeRequest) × AsksToServe (serve_value options) request × TellsServing report old new

-- ---- collections

-- the values of these options ask for a volume to be collected, and the output took what is told of that; or they ask for
-- nothing, or memory ran out before they were read
abbrev pub RunsCollect : List Given → Report → (old new : Option (List ℕ)) → Type 0
RunsCollect options Usage old new = HasBadMountValue (collect_value options) × (new ≡ old)
RunsCollect options Memory old new = TellsCollection Memory old new
RunsCollect options report old new =
    (request : MountRequest) × AsksToMount (collect_value options) request × TellsCollection report old new

-- ---- checks

-- the values of these options ask for a volume to be checked, and the output took what is told of that; or they ask for nothing,
-- or memory ran out
abbrev pub RunsCheck : List Given → Report → (old new : Option (List ℕ)) → Type 0
RunsCheck options Usage old new = HasBadCheckValue (check_value options) × (new ≡ old)
RunsCheck options Memory old new = new ≡ old
RunsCheck options report old new =
    (request : CheckRequest) × AsksToCheck (check_value options) request × TellsCheck report old new

-- ---- runs

-- What the output took for the words, where the run ended so. Words that are not faulty spell a command.
pub record Runs (words : List Text) (report : Report) (input old new : Option (List ℕ)) : Type 0 where
  pub replay : Spells words replay → RunsReplay report input old new
  pub create : (options : List Given) → Spells words (create options) → RunsCreate options report old new
  pub serve : (options : List Given) → Spells words (serve options) → RunsServe options report old new
  pub collect : (options : List Given) → Spells words (collect options) → RunsCollect options report old new
  pub check : (options : List Given) → Spells words (check options) → RunsCheck options report old new
  pub churn : (steps seed : List ℕ) → Spells words (churn steps seed) → RunsChurn steps seed report old new
  pub faulty : IsFaulty words → ((report ≡ Usage) ⊎ (report ≡ Memory)) × (new ≡ old)

-- why words are refused: they are faulty, or the values of the options of `create`, `serve`, `collect` or `check`, or the
-- words of `churn`, ask for nothing
abbrev pub AreWordsRefused : List Text → Type 0
AreWordsRefused words =
    IsFaulty words
    ⊎ (((options : List Given) × Spells words (create options) × HasBadValue (value_in options))
    ⊎ (((options : List Given) × Spells words (serve options) × HasBadServeValue (serve_value options))
    ⊎ (((options : List Given) × Spells words (collect options) × HasBadMountValue (collect_value options))
    ⊎ (((options : List Given) × Spells words (check options) × HasBadCheckValue (check_value options))
    ⊎ ((steps : List ℕ) × (seed : List ℕ) × Spells words (churn steps seed) × HasBadNumber (churn_value steps seed))))))

-- ---- what stands at the paths

-- What a run that ended so made of what stands at the paths of its world: a volume was created, served, collected or checked, as
-- the values of the options ask; or it was refused. A check changes no disk, however it ends.
pub record Reaches {D R L K : Type 0} (tells : Bool) (disk_state : D → DiskState) (receipt_state : R → ReceiptState)
    (listener_state : L → ListenerState) (coming : L → Option (List K)) (link_state : K → ConnectionState) (words : List Text)
    (report : Report) (clients : List ℕ → Option (List K)) (before after : Places) (old new : Option (List ℕ)) : Type 0 where
  pub creates : (options : List Given) → Spells words (create options) → report ≡ Done
      → (request : CreateRequest) × AsksToCreate (value_in options) request × Creates tells request before after old new
  pub creates_none : (options : List Given) (why : Refusal) → Spells words (create options) → report ≡ Refused why
      → (request : CreateRequest) × AsksToCreate (value_in options) request × RefusesToCreate tells request before after why
  pub serves : (options : List Given) → Spells words (serve options) → report ≡ Done
      → (request : ServeRequest) × AsksToServe (serve_value options) request
      × Serves tells disk_state receipt_state listener_state coming link_state request (clients request.socket.now) before after
      old new
  pub serves_none : (options : List Given) (why : Refusal) → Spells words (serve options) → report ≡ Refused why
      → (request : ServeRequest) × AsksToServe (serve_value options) request
      × RefusesFor tells disk_state receipt_state request.mount before after why
  pub collects : (options : List Given) → Spells words (collect options) → report ≡ Done
      → (request : MountRequest) × AsksToMount (collect_value options) request
      × Collects tells disk_state receipt_state request before after old new
  pub collects_none : (options : List Given) (why : Refusal) → Spells words (collect options) → report ≡ Refused why
      → (request : MountRequest) × AsksToMount (collect_value options) request
      × RefusesFor tells disk_state receipt_state request before after why
  pub checks : (options : List Given) → Spells words (check options) → (report ≡ Done) ⊎ (report ≡ Missing)
      → (request : CheckRequest) × AsksToCheck (check_value options) request
      × Checks tells receipt_state request before after report old new
  pub checks_none : (options : List Given) (why : Refusal) → Spells words (check options) → report ≡ Refused why
      → (request : CheckRequest) × AsksToCheck (check_value options) request
      × RefusesCheck tells receipt_state request before after why
  pub check_disks : (options : List Given) → Spells words (check options) → after.disks ≡ before.disks

-- ---- faults

-- one call failed: one of the world, of the input, or of the output
abbrev pub CountsOneOfAll : (world_before world_now in_before in_now out_before out_now : ℕ) → Type 0
CountsOneOfAll world_before world_now in_before in_now out_before out_now =
    (CountsOne world_before world_now × CountsNone in_before in_now out_before out_now)
    ⊎ ((world_now ≡ world_before) × CountsOneOf in_before in_now out_before out_now)
