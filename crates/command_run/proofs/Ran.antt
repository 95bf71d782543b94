-- What a run is, by what its words were read as.
use Rattle.std.proofs.Common.{◌≡◌, ◌⊎◌, ℕ, List, inl, inr, refl, subst, sym}
use Rattle.std.specs.Prelude.{Option, Ok, Err}
use Rattle.clap.specs.Walk.{Text}
use Rattle.command_line.specs.Check.{AsksToCheck, check_value}
use Rattle.command_line.specs.Churn.{AsksToChurn, churn_value}
use Rattle.command_line.specs.Collect.{collect_value}
use Rattle.command_line.specs.CommandLine.{HasBadOptions, IsFaulty, IsRead, IsRefused, Line, Spells}
use Rattle.command_line.specs.CommandLine.{replay, create, serve, collect, check, churn}
use Rattle.command_line.specs.Create.{AsksToCreate, value_in}
use Rattle.command_line.specs.Mount.{AsksToMount}
use Rattle.command_line.specs.Options.{Given}
use Rattle.command_line.specs.Serve.{AsksToServe, serve_value}
use Rattle.command_line.specs.declared.check.CheckRequest.{CheckRequest}
use Rattle.command_line.specs.declared.churn.ChurnRequest.{ChurnRequest}
use Rattle.command_line.specs.declared.create.CreateRequest.{CreateRequest}
use Rattle.command_line.specs.declared.mount.MountRequest.{MountRequest}
use Rattle.command_line.specs.declared.serve.ServeRequest.{ServeRequest}
use Rattle.command_line.specs.declared.request.CommandLineError.TheVariants as errors
use Rattle.command_line.specs.declared.request.Request.{Request}
use Rattle.command_line.specs.declared.request.Request.TheVariants.{Replay, Create, Serve, Collect, Check, Churn}
use Rattle.vol_replay.proofs.Results.{nothing_for_source}
use Rattle.volume_commands.specs.Checking.{TellsCheck}
use Rattle.volume_commands.specs.Collecting.{TellsCollection}
use Rattle.volume_commands.specs.Creating.{TellsCreation}
use Rattle.volume_commands.specs.Serving.{TellsServing}
use Rattle.volume_commands.specs.Report.{status_of}
use Rattle.volume_commands.specs.World.{CountsOneOf}
use Rattle.vol_replay.specs.declared.outcome.ChurnOutcome.{ChurnOutcome}
use Rattle.vol_replay.specs.declared.outcome.ChurnOutcome.TheVariants as churn_outcomes
use Rattle.vol_replay.specs.Churn.{IsOutcomeOfChurn}
use Rattle.command_run.specs.Run.{AreWordsRefused, CountsOneOfAll, Runs, RunsCheck, RunsChurn, RunsCollect, RunsCreate}
use Rattle.command_run.specs.Run.{RunsReplay, RunsServe, TellsChurn, report_of_churn}
use Rattle.volume_commands.specs.declared.report.Report.{Report}
use Rattle.volume_commands.specs.declared.report.Report.TheVariants.{Done, Fault, Usage, BadLine, Refused, Missing, Memory}

-- words that were read as a request are not refused
not_refused : (request : Request) → IsRefused (Ok request) → ⊥
not_refused request (inl is) = cc
not_refused request (inr is) = cc

pub runs_as_replay : (words : List Text) (report : Report) (input old new : Option (List ℕ))
    → ((line : Line) → Spells words line → IsRead line (Ok Replay)) → (IsFaulty words → IsRefused (Ok Replay))
    → RunsReplay report input old new → Runs words report input old new
runs_as_replay words report input old new read refused done = record {
  replay = λ spelled. done;
  create = λ options spelled. absurd (read (create options) spelled);
  serve = λ options spelled. absurd (read (serve options) spelled);
  collect = λ options spelled. absurd (read (collect options) spelled);
  check = λ options spelled. absurd (read (check options) spelled);
  churn = λ steps seed spelled. absurd (read (churn steps seed) spelled);
  faulty = λ faulty. absurd (not_refused Replay (refused faulty));
}

told_creation : (options : List Given) (request : CreateRequest) (report : Report) (old new : Option (List ℕ))
    → AsksToCreate (value_in options) request → TellsCreation request report old new → RunsCreate options report old new
told_creation options request Done old new asks tells = (request, asks, tells)
told_creation options request Fault old new asks tells = (request, asks, tells)
told_creation options request Usage old new asks tells = absurd tells
told_creation options request (BadLine number reason) old new asks tells = (request, asks, tells)
told_creation options request (Refused why) old new asks tells = (request, asks, tells)
told_creation options request Missing old new asks tells = (request, asks, tells)
told_creation options request Memory old new asks tells = tells

pub runs_as_create : (words : List Text) (request : CreateRequest) (report : Report) (input old new : Option (List ℕ))
    → ((line : Line) → Spells words line → IsRead line (Ok (Create request))) → (IsFaulty words → IsRefused (Ok (Create request)))
    → TellsCreation request report old new → Runs words report input old new
runs_as_create words request report input old new read refused tells = record {
  replay = λ spelled. absurd (read replay spelled);
  create = λ options spelled. told_creation options request report old new (read (create options) spelled) tells;
  serve = λ options spelled. absurd (read (serve options) spelled);
  collect = λ options spelled. absurd (read (collect options) spelled);
  check = λ options spelled. absurd (read (check options) spelled);
  churn = λ steps seed spelled. absurd (read (churn steps seed) spelled);
  faulty = λ faulty. absurd (not_refused (Create request) (refused faulty));
}

told_serving : (options : List Given) (request : ServeRequest) (report : Report) (old new : Option (List ℕ))
    → AsksToServe (serve_value options) request → TellsServing report old new → RunsServe options report old new
told_serving options request Done old new asks tells = (request, asks, tells)
told_serving options request Fault old new asks tells = (request, asks, tells)
told_serving options request Usage old new asks tells = absurd tells
told_serving options request (BadLine number reason) old new asks tells = (request, asks, tells)
told_serving options request (Refused why) old new asks tells = (request, asks, tells)
told_serving options request Missing old new asks tells = (request, asks, tells)
told_serving options request Memory old new asks tells = tells

pub runs_as_serve : (words : List Text) (request : ServeRequest) (report : Report) (input old new : Option (List ℕ))
    → ((line : Line) → Spells words line → IsRead line (Ok (Serve request))) → (IsFaulty words → IsRefused (Ok (Serve request)))
    → TellsServing report old new → Runs words report input old new
runs_as_serve words request report input old new read refused tells = record {
  replay = λ spelled. absurd (read replay spelled);
  create = λ options spelled. absurd (read (create options) spelled);
  serve = λ options spelled. told_serving options request report old new (read (serve options) spelled) tells;
  collect = λ options spelled. absurd (read (collect options) spelled);
  check = λ options spelled. absurd (read (check options) spelled);
  churn = λ steps seed spelled. absurd (read (churn steps seed) spelled);
  faulty = λ faulty. absurd (not_refused (Serve request) (refused faulty));
}

told_collection : (options : List Given) (request : MountRequest) (report : Report) (old new : Option (List ℕ))
    → AsksToMount (collect_value options) request → TellsCollection report old new → RunsCollect options report old new
told_collection options request Done old new asks tells = (request, asks, tells)
told_collection options request Fault old new asks tells = (request, asks, tells)
told_collection options request Usage old new asks tells = absurd tells
told_collection options request (BadLine number reason) old new asks tells = (request, asks, tells)
told_collection options request (Refused why) old new asks tells = (request, asks, tells)
told_collection options request Missing old new asks tells = (request, asks, tells)
told_collection options request Memory old new asks tells = tells

pub runs_as_collect : (words : List Text) (request : MountRequest) (report : Report) (input old new : Option (List ℕ))
    → ((line : Line) → Spells words line → IsRead line (Ok (Collect request)))
    → (IsFaulty words → IsRefused (Ok (Collect request)))
    → TellsCollection report old new → Runs words report input old new
runs_as_collect words request report input old new read refused tells = record {
  replay = λ spelled. absurd (read replay spelled);
  create = λ options spelled. absurd (read (create options) spelled);
  serve = λ options spelled. absurd (read (serve options) spelled);
  collect = λ options spelled. told_collection options request report old new (read (collect options) spelled) tells;
  check = λ options spelled. absurd (read (check options) spelled);
  churn = λ steps seed spelled. absurd (read (churn steps seed) spelled);
  faulty = λ faulty. absurd (not_refused (Collect request) (refused faulty));
}

told_check : (options : List Given) (request : CheckRequest) (report : Report) (old new : Option (List ℕ))
    → AsksToCheck (check_value options) request → TellsCheck report old new → RunsCheck options report old new
told_check options request Done old new asks tells = (request, asks, tells)
told_check options request Fault old new asks tells = (request, asks, tells)
told_check options request Usage old new asks tells = absurd tells
told_check options request (BadLine number reason) old new asks tells = (request, asks, tells)
told_check options request (Refused why) old new asks tells = (request, asks, tells)
told_check options request Missing old new asks tells = (request, asks, tells)
told_check options request Memory old new asks tells = tells

pub runs_as_check : (words : List Text) (request : CheckRequest) (report : Report) (input old new : Option (List ℕ))
    → ((line : Line) → Spells words line → IsRead line (Ok (Check request))) → (IsFaulty words → IsRefused (Ok (Check request)))
    → TellsCheck report old new → Runs words report input old new
runs_as_check words request report input old new read refused tells = record {
  replay = λ spelled. absurd (read replay spelled);
  create = λ options spelled. absurd (read (create options) spelled);
  serve = λ options spelled. absurd (read (serve options) spelled);
  collect = λ options spelled. absurd (read (collect options) spelled);
  check = λ options spelled. told_check options request report old new (read (check options) spelled) tells;
  churn = λ steps seed spelled. absurd (read (churn steps seed) spelled);
  faulty = λ faulty. absurd (not_refused (Check request) (refused faulty));
}

-- what an outcome of a churn wrote is told by its report
told_by_outcome : (request : ChurnRequest) (outcome : ChurnOutcome) (old new : Option (List ℕ))
    → IsOutcomeOfChurn request.seed request.steps old new outcome → TellsChurn request (report_of_churn outcome) old new
told_by_outcome request (churn_outcomes.Done rig) old new (text, last, churned, shows, taken) = (text, last, churned, taken)
told_by_outcome request churn_outcomes.WriteFault old new written = written
told_by_outcome request churn_outcomes.OutOfMemory old new written = written

pub churn_told : (request : ChurnRequest) (outcome : ChurnOutcome) (report : Report) (old new : Option (List ℕ))
    → report ≡ report_of_churn outcome → IsOutcomeOfChurn request.seed request.steps old new outcome
    → TellsChurn request report old new
churn_told request outcome report old new is written =
    subst (λ r. TellsChurn request r old new) (sym is) (told_by_outcome request outcome old new written)

told_churn : (steps seed : List ℕ) (request : ChurnRequest) (report : Report) (old new : Option (List ℕ))
    → AsksToChurn (churn_value steps seed) request → TellsChurn request report old new → RunsChurn steps seed report old new
told_churn steps seed request Done old new asks tells = (request, asks, tells)
told_churn steps seed request Fault old new asks tells = (request, asks, tells)
told_churn steps seed request Usage old new asks tells = absurd tells
told_churn steps seed request (BadLine number reason) old new asks tells = (request, asks, tells)
told_churn steps seed request (Refused why) old new asks tells = (request, asks, tells)
told_churn steps seed request Missing old new asks tells = (request, asks, tells)
told_churn steps seed request Memory old new asks tells = tells

pub runs_as_churn : (words : List Text) (request : ChurnRequest) (report : Report) (input old new : Option (List ℕ))
    → ((line : Line) → Spells words line → IsRead line (Ok (Churn request))) → (IsFaulty words → IsRefused (Ok (Churn request)))
    → TellsChurn request report old new → Runs words report input old new
runs_as_churn words request report input old new read refused tells = record {
  replay = λ spelled. absurd (read replay spelled);
  create = λ options spelled. absurd (read (create options) spelled);
  serve = λ options spelled. absurd (read (serve options) spelled);
  collect = λ options spelled. absurd (read (collect options) spelled);
  check = λ options spelled. absurd (read (check options) spelled);
  churn = λ steps seed spelled. told_churn steps seed request report old new (read (churn steps seed) spelled) tells;
  faulty = λ faulty. absurd (not_refused (Churn request) (refused faulty));
}

pub runs_as_usage : (words : List Text) (input old : Option (List ℕ))
    → ((line : Line) → Spells words line → IsRead line (Err errors.Usage)) → Runs words Usage input old old
runs_as_usage words input old read = record {
  replay = λ spelled. absurd (read replay spelled);
  create = λ options spelled. (read (create options) spelled, refl);
  serve = λ options spelled. (read (serve options) spelled, refl);
  collect = λ options spelled. (read (collect options) spelled, refl);
  check = λ options spelled. (read (check options) spelled, refl);
  churn = λ steps seed spelled. (read (churn steps seed) spelled, refl);
  faulty = λ faulty. (inl refl, refl);
}

pub runs_as_memory : (words : List Text) (input old : Option (List ℕ)) → Runs words Memory input old old
runs_as_memory words input old = record {
  replay = λ spelled. nothing_for_source input old;
  create = λ options spelled. refl;
  serve = λ options spelled. inl refl;
  collect = λ options spelled. inl refl;
  check = λ options spelled. refl;
  churn = λ steps seed spelled. refl;
  faulty = λ faulty. (inr refl, refl);
}

pub are_refused : (words : List Text) → IsFaulty words ⊎ ((line : Line) × Spells words line × HasBadOptions line)
    → AreWordsRefused words
are_refused words (inl faulty) = inl faulty
are_refused words (inr (replay, spelled, nothing)) = absurd nothing
are_refused words (inr (create options, spelled, bad)) = inr (inl (options, spelled, bad))
are_refused words (inr (serve options, spelled, bad)) = inr (inr (inl (options, spelled, bad)))
are_refused words (inr (collect options, spelled, bad)) = inr (inr (inr (inl (options, spelled, bad))))
are_refused words (inr (check options, spelled, bad)) = inr (inr (inr (inr (inl (options, spelled, bad)))))
are_refused words (inr (churn steps seed, spelled, bad)) = inr (inr (inr (inr (inr (steps, seed, spelled, bad)))))

-- one call of the world or of the output failed, and none of the input
pub one_of_all : (world_before world_now input out_before out_now : ℕ)
    → CountsOneOf world_before world_now out_before out_now → CountsOneOfAll world_before world_now input input out_before out_now
one_of_all world_before world_now input out_before out_now (inl one) = inl (one.0, (refl, one.1))
one_of_all world_before world_now input out_before out_now (inr one) = inr (one.0, inr (refl, one.1))

pub usage_of_status : (report : Report) → status_of report ≡ 2 → report ≡ Usage
usage_of_status Done is = cc
usage_of_status Fault is = cc
usage_of_status Usage is = refl
usage_of_status (BadLine number reason) is = cc
usage_of_status (Refused why) is = cc
usage_of_status Missing is = cc
usage_of_status Memory is = cc

pub fault_of_status : (report : Report) → status_of report ≡ 1 → report ≡ Fault
fault_of_status Done is = cc
fault_of_status Fault is = refl
fault_of_status Usage is = cc
fault_of_status (BadLine number reason) is = cc
fault_of_status (Refused why) is = cc
fault_of_status Missing is = cc
fault_of_status Memory is = cc
