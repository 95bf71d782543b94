use Rattle.std.proofs.Common.{◌∙◌}
use Rattle.volume_commands.proofs.Checked.{checks_whole, told_front, told_whole}
use Rattle.volume_commands.proofs.checking.check_in.Goals as goal

pub returns-in-Ok-clause-told : goal.returns-in-Ok-clause-told
returns-in-Ok-clause-told g c =
    told_whole c.in_ok-found.found c.ended_by-ended.result c.as_slice.result.now c.as_slice-2.result.now
    (g.O.Sink.contents c.args.out.now) (g.O.Sink.contents c.write_all.new.sink) c.as_slice.ensures.value
    c.ended_by-ended.ensures (c.as_slice-2.ensures.value ∙ c.in_ok-text.ensures) c.in-Ok.ensures.ok

pub returns-in-Ok-clause-checks : goal.returns-in-Ok-clause-checks
returns-in-Ok-clause-checks g c =
    checks_whole g.S.Receipt.Receipt.state c.args.uuid (g.S.Store.state c.args.store.now).objects
    c.in_ok-found.found c.ended_by-ended.result c.as_slice.result.now c.as_slice-2.result.now
    (g.O.Sink.contents c.args.out.now) (g.O.Sink.contents c.write_all.new.sink) c.in_ok-found.ensures.report
    c.as_slice.ensures.value c.ended_by-ended.ensures (c.as_slice-2.ensures.value ∙ c.in_ok-text.ensures)
    c.in-Ok.ensures.ok

pub returns-clause-told : goal.returns-clause-told
returns-clause-told g c =
    told_front c.in_ok-found.found c.as_slice-2.result.now (g.O.Sink.contents c.args.out.now)
    (g.O.Sink.contents c.write_all.new.sink) (c.as_slice-2.ensures.value ∙ c.in_ok-text.ensures) c.in-Err.ensures.front
