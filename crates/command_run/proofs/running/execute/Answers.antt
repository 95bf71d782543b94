use Rattle.std.proofs.Common.{◌≡◌, ◌∙◌, ap, map, refl, string_bytes, subst}
use Rattle.std.specs.Prelude.{Ok, Err}
use Rattle.command_line.specs.CommandLine.{IsRead, IsRefused, churn}
use Rattle.command_run.proofs.Ran.{are_refused, churn_told, one_of_all, runs_as_check, runs_as_churn, runs_as_collect}
use Rattle.command_run.proofs.Ran.{runs_as_create, runs_as_memory, runs_as_replay, runs_as_serve, runs_as_usage}
use Rattle.command_run.proofs.Reached.{reaches_by_check, reaches_by_churn, reaches_by_collect, reaches_by_create}
use Rattle.command_run.proofs.Reached.{reaches_by_replay, reaches_by_serve, reaches_nothing}
use Rattle.command_run.proofs.Reported.{reported}
use Rattle.refusals.specs.declared.refusal.Refusal.{Refusal}
use Rattle.volume_commands.specs.declared.report.Report.TheVariants as reports
use Rattle.command_run.proofs.running.execute.Goals as goal

pub returns-in-Ok-Replay-clause-output : goal.returns-in-Ok-Replay-clause-output
returns-in-Ok-Replay-clause-output g c =
    runs_as_replay (map string_bytes c.args.words.now) c.report_of.result (g.W.In.Source.remaining c.args.input.now)
    (g.W.Out.Sink.contents c.args.out.now) (g.W.Out.Sink.contents c.replay.new.sink)
    (λ line spelled. subst (λ request. IsRead line (Ok request)) c.in-Ok-Replay.field-0-is
    (c.in-Ok-Replay.ensures.line line spelled))
    (λ faulty. subst (λ request. IsRefused (Ok request)) c.in-Ok-Replay.field-0-is (c.in-Ok-Replay.ensures.faulty faulty))
    (reported (g.W.In.Source.remaining c.args.input.now) (g.W.Out.Sink.contents c.args.out.now)
    (g.W.Out.Sink.contents c.replay.new.sink)
    c.replay.result c.report_of.result c.report_of.ensures c.replay.ensures.transcript)

pub returns-in-Ok-Create-clause-output : goal.returns-in-Ok-Create-clause-output
returns-in-Ok-Create-clause-output g c =
    runs_as_create (map string_bytes c.args.words.now) c.in-Ok-Create.request c.answer_create.result
    (g.W.In.Source.remaining c.args.input.now) (g.W.Out.Sink.contents c.args.out.now)
    (g.W.Out.Sink.contents c.answer_create.new.out)
    (λ line spelled. subst (λ request. IsRead line (Ok request)) c.in-Ok-Create.field-0-is
    (c.in-Ok-Create.ensures.line line spelled))
    (λ faulty. subst (λ request. IsRefused (Ok request)) c.in-Ok-Create.field-0-is (c.in-Ok-Create.ensures.faulty faulty))
    c.answer_create.ensures.told

pub returns-in-Ok-Create-clause-fault : goal.returns-in-Ok-Create-clause-fault
returns-in-Ok-Create-clause-fault g c is disks stores clients =
    one_of_all (g.W.World.faults c.args.world.now) (g.W.World.faults c.answer_create.new.world)
    (g.W.In.Source.faults c.args.input.now)
    (g.W.Out.Sink.faults c.args.out.now) (g.W.Out.Sink.faults c.answer_create.new.out)
    (c.answer_create.ensures.fault is disks stores)

pub returns-in-Ok-Serve-clause-output : goal.returns-in-Ok-Serve-clause-output
returns-in-Ok-Serve-clause-output g c =
    runs_as_serve (map string_bytes c.args.words.now) c.in-Ok-Serve.request c.answer_serve.result
    (g.W.In.Source.remaining c.args.input.now) (g.W.Out.Sink.contents c.args.out.now)
    (g.W.Out.Sink.contents c.answer_serve.new.out)
    (λ line spelled. subst (λ request. IsRead line (Ok request)) c.in-Ok-Serve.field-0-is
    (c.in-Ok-Serve.ensures.line line spelled))
    (λ faulty. subst (λ request. IsRefused (Ok request)) c.in-Ok-Serve.field-0-is (c.in-Ok-Serve.ensures.faulty faulty))
    c.answer_serve.ensures.told

pub returns-in-Ok-Collect-clause-output : goal.returns-in-Ok-Collect-clause-output
returns-in-Ok-Collect-clause-output g c =
    runs_as_collect (map string_bytes c.args.words.now) c.in-Ok-Collect.request c.answer_collect.result
    (g.W.In.Source.remaining c.args.input.now) (g.W.Out.Sink.contents c.args.out.now)
    (g.W.Out.Sink.contents c.answer_collect.new.out)
    (λ line spelled. subst (λ request. IsRead line (Ok request)) c.in-Ok-Collect.field-0-is
    (c.in-Ok-Collect.ensures.line line spelled))
    (λ faulty. subst (λ request. IsRefused (Ok request)) c.in-Ok-Collect.field-0-is (c.in-Ok-Collect.ensures.faulty faulty))
    c.answer_collect.ensures.told

pub returns-in-Ok-Check-clause-output : goal.returns-in-Ok-Check-clause-output
returns-in-Ok-Check-clause-output g c =
    runs_as_check (map string_bytes c.args.words.now) c.in-Ok-Check.request c.answer_check.result
    (g.W.In.Source.remaining c.args.input.now) (g.W.Out.Sink.contents c.args.out.now)
    (g.W.Out.Sink.contents c.answer_check.new.out)
    (λ line spelled. subst (λ request. IsRead line (Ok request)) c.in-Ok-Check.field-0-is
    (c.in-Ok-Check.ensures.line line spelled))
    (λ faulty. subst (λ request. IsRefused (Ok request)) c.in-Ok-Check.field-0-is (c.in-Ok-Check.ensures.faulty faulty))
    c.answer_check.ensures.told

pub returns-in-Ok-Serve-clause-fault : goal.returns-in-Ok-Serve-clause-fault
returns-in-Ok-Serve-clause-fault g c is disks stores clients =
    one_of_all (g.W.World.faults c.args.world.now) (g.W.World.faults c.answer_serve.new.world)
    (g.W.In.Source.faults c.args.input.now)
    (g.W.Out.Sink.faults c.args.out.now) (g.W.Out.Sink.faults c.answer_serve.new.out)
    (c.answer_serve.ensures.fault is disks stores clients)

pub returns-in-Ok-Collect-clause-fault : goal.returns-in-Ok-Collect-clause-fault
returns-in-Ok-Collect-clause-fault g c is disks stores clients =
    one_of_all (g.W.World.faults c.args.world.now) (g.W.World.faults c.answer_collect.new.world)
    (g.W.In.Source.faults c.args.input.now)
    (g.W.Out.Sink.faults c.args.out.now) (g.W.Out.Sink.faults c.answer_collect.new.out)
    (c.answer_collect.ensures.fault is disks stores clients)

pub returns-in-Ok-Check-clause-fault : goal.returns-in-Ok-Check-clause-fault
returns-in-Ok-Check-clause-fault g c is disks stores clients =
    one_of_all (g.W.World.faults c.args.world.now) (g.W.World.faults c.answer_check.new.world)
    (g.W.In.Source.faults c.args.input.now)
    (g.W.Out.Sink.faults c.args.out.now) (g.W.Out.Sink.faults c.answer_check.new.out)
    (c.answer_check.ensures.fault is stores)

pub returns-in-Ok-Churn-clause-output : goal.returns-in-Ok-Churn-clause-output
returns-in-Ok-Churn-clause-output g c =
    runs_as_churn (map string_bytes c.args.words.now) c.in-Ok-Churn.request c.report_of_churn.result
    (g.W.In.Source.remaining c.args.input.now) (g.W.Out.Sink.contents c.args.out.now)
    (g.W.Out.Sink.contents c.churn.new.sink)
    (λ line spelled. subst (λ request. IsRead line (Ok request)) c.in-Ok-Churn.field-0-is
    (c.in-Ok-Churn.ensures.line line spelled))
    (λ faulty. subst (λ request. IsRefused (Ok request)) c.in-Ok-Churn.field-0-is (c.in-Ok-Churn.ensures.faulty faulty))
    (churn_told c.in-Ok-Churn.request c.churn.result c.report_of_churn.result (g.W.Out.Sink.contents c.args.out.now)
    (g.W.Out.Sink.contents c.churn.new.sink) c.report_of_churn.ensures c.churn.ensures.summary)

pub returns-in-Err-Usage-clause-output : goal.returns-in-Err-Usage-clause-output
returns-in-Err-Usage-clause-output g c =
    runs_as_usage (map string_bytes c.args.words.now) (g.W.In.Source.remaining c.args.input.now)
    (g.W.Out.Sink.contents c.args.out.now)
    (λ line spelled. subst (λ error. IsRead line (Err error)) c.in-Err-Usage.field-0-is
    (c.in-Err-Usage.ensures.line line spelled))

pub returns-in-Err-Usage-clause-usage : goal.returns-in-Err-Usage-clause-usage
returns-in-Err-Usage-clause-usage g c is =
    are_refused (map string_bytes c.args.words.now)
    (c.request_of.ensures.usage (c.in-Err-Usage.is ∙ ap Err c.in-Err-Usage.field-0-is))

pub returns-in-Err-OutOfMemory-clause-output : goal.returns-in-Err-OutOfMemory-clause-output
returns-in-Err-OutOfMemory-clause-output g c =
    runs_as_memory (map string_bytes c.args.words.now) (g.W.In.Source.remaining c.args.input.now)
    (g.W.Out.Sink.contents c.args.out.now)

-- words of `churn` are read as nothing else

pub returns-in-Ok-Create-clause-churn_fault : goal.returns-in-Ok-Create-clause-churn_fault
returns-in-Ok-Create-clause-churn_fault g c = λ steps seed spelled.
    absurd (subst (λ request. IsRead (churn steps seed) (Ok request)) c.in-Ok-Create.field-0-is
    (c.in-Ok-Create.ensures.line (churn steps seed) spelled))

pub returns-in-Ok-Serve-clause-churn_fault : goal.returns-in-Ok-Serve-clause-churn_fault
returns-in-Ok-Serve-clause-churn_fault g c = λ steps seed spelled.
    absurd (subst (λ request. IsRead (churn steps seed) (Ok request)) c.in-Ok-Serve.field-0-is
    (c.in-Ok-Serve.ensures.line (churn steps seed) spelled))

pub returns-in-Ok-Collect-clause-churn_fault : goal.returns-in-Ok-Collect-clause-churn_fault
returns-in-Ok-Collect-clause-churn_fault g c = λ steps seed spelled.
    absurd (subst (λ request. IsRead (churn steps seed) (Ok request)) c.in-Ok-Collect.field-0-is
    (c.in-Ok-Collect.ensures.line (churn steps seed) spelled))

pub returns-in-Ok-Check-clause-churn_fault : goal.returns-in-Ok-Check-clause-churn_fault
returns-in-Ok-Check-clause-churn_fault g c = λ steps seed spelled.
    absurd (subst (λ request. IsRead (churn steps seed) (Ok request)) c.in-Ok-Check.field-0-is
    (c.in-Ok-Check.ensures.line (churn steps seed) spelled))

-- ---- what stands at the paths

pub returns-in-Ok-Replay-clause-reaches : goal.returns-in-Ok-Replay-clause-reaches
returns-in-Ok-Replay-clause-reaches g c =
    reaches_by_replay g.W.World.tells (λ disk. g.W.Disk.Disk.state disk) g.W.Store.Receipt.Receipt.state _ _ _
    (map string_bytes c.args.words.now) c.report_of.result (g.W.World.clients_at c.args.world.now) _ _ _ _
    (λ line spelled. subst (λ request. IsRead line (Ok request)) c.in-Ok-Replay.field-0-is
    (c.in-Ok-Replay.ensures.line line spelled))

pub returns-in-Ok-Create-clause-reaches : goal.returns-in-Ok-Create-clause-reaches
returns-in-Ok-Create-clause-reaches g c =
    reaches_by_create g.W.World.tells (λ disk. g.W.Disk.Disk.state disk) g.W.Store.Receipt.Receipt.state _ _ _
    (map string_bytes c.args.words.now) c.answer_create.result (g.W.World.clients_at c.args.world.now) _ _ _ _
    c.in-Ok-Create.request
    (λ line spelled. subst (λ request. IsRead line (Ok request)) c.in-Ok-Create.field-0-is
    (c.in-Ok-Create.ensures.line line spelled)) c.answer_create.ensures.creates c.answer_create.ensures.why

pub returns-in-Ok-Serve-clause-reaches : goal.returns-in-Ok-Serve-clause-reaches
returns-in-Ok-Serve-clause-reaches g c =
    reaches_by_serve g.W.World.tells (λ disk. g.W.Disk.Disk.state disk) g.W.Store.Receipt.Receipt.state _ _ _
    (map string_bytes c.args.words.now) c.answer_serve.result (g.W.World.clients_at c.args.world.now) _ _ _ _
    c.in-Ok-Serve.request
    (λ line spelled. subst (λ request. IsRead line (Ok request)) c.in-Ok-Serve.field-0-is
    (c.in-Ok-Serve.ensures.line line spelled)) c.answer_serve.ensures.serves c.answer_serve.ensures.why

pub returns-in-Ok-Collect-clause-reaches : goal.returns-in-Ok-Collect-clause-reaches
returns-in-Ok-Collect-clause-reaches g c =
    reaches_by_collect g.W.World.tells (λ disk. g.W.Disk.Disk.state disk) g.W.Store.Receipt.Receipt.state _ _ _
    (map string_bytes c.args.words.now) c.answer_collect.result (g.W.World.clients_at c.args.world.now) _ _ _ _
    c.in-Ok-Collect.request
    (λ line spelled. subst (λ request. IsRead line (Ok request)) c.in-Ok-Collect.field-0-is
    (c.in-Ok-Collect.ensures.line line spelled)) c.answer_collect.ensures.collects c.answer_collect.ensures.why

pub returns-in-Ok-Check-clause-reaches : goal.returns-in-Ok-Check-clause-reaches
returns-in-Ok-Check-clause-reaches g c =
    reaches_by_check g.W.World.tells (λ disk. g.W.Disk.Disk.state disk) g.W.Store.Receipt.Receipt.state _ _ _
    (map string_bytes c.args.words.now) c.answer_check.result (g.W.World.clients_at c.args.world.now) _ _ _ _
    c.in-Ok-Check.request
    (λ line spelled. subst (λ request. IsRead line (Ok request)) c.in-Ok-Check.field-0-is
    (c.in-Ok-Check.ensures.line line spelled)) c.answer_check.ensures.checks c.answer_check.ensures.why
    c.answer_check.ensures.disks

pub returns-in-Ok-Churn-clause-reaches : goal.returns-in-Ok-Churn-clause-reaches
returns-in-Ok-Churn-clause-reaches g c =
    reaches_by_churn g.W.World.tells (λ disk. g.W.Disk.Disk.state disk) g.W.Store.Receipt.Receipt.state _ _ _
    (map string_bytes c.args.words.now) c.report_of_churn.result (g.W.World.clients_at c.args.world.now) _ _ _ _
    c.in-Ok-Churn.request
    (λ line spelled. subst (λ request. IsRead line (Ok request)) c.in-Ok-Churn.field-0-is
    (c.in-Ok-Churn.ensures.line line spelled))

not_done : reports.Usage ≡ reports.Done → ⊥
not_done is = cc

not_missing : reports.Usage ≡ reports.Missing → ⊥
not_missing is = cc

not_refused : (why : Refusal) → reports.Usage ≡ reports.Refused why → ⊥
not_refused why is = cc

pub returns-in-Err-Usage-clause-reaches : goal.returns-in-Err-Usage-clause-reaches
returns-in-Err-Usage-clause-reaches g c =
    reaches_nothing g.W.World.tells (λ disk. g.W.Disk.Disk.state disk) g.W.Store.Receipt.Receipt.state _ _ _
    (map string_bytes c.args.words.now) reports.Usage (g.W.World.clients_at c.args.world.now) _ _ _ _ not_done
    not_missing not_refused refl

no_memory_done : reports.Memory ≡ reports.Done → ⊥
no_memory_done is = cc

no_memory_missing : reports.Memory ≡ reports.Missing → ⊥
no_memory_missing is = cc

no_memory_refused : (why : Refusal) → reports.Memory ≡ reports.Refused why → ⊥
no_memory_refused why is = cc

pub returns-in-Err-OutOfMemory-clause-reaches : goal.returns-in-Err-OutOfMemory-clause-reaches
returns-in-Err-OutOfMemory-clause-reaches g c =
    reaches_nothing g.W.World.tells (λ disk. g.W.Disk.Disk.state disk) g.W.Store.Receipt.Receipt.state _ _ _
    (map string_bytes c.args.words.now) reports.Memory (g.W.World.clients_at c.args.world.now) _ _ _ _ no_memory_done
    no_memory_missing no_memory_refused refl
