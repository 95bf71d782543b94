use Rattle.replay_rig.proofs.CrashLemmas.{put_as}
use Rattle.replay_rig.proofs.rig.put_out.Goals as goal

pub returns-clause-ok : goal.returns-clause-ok
returns-clause-ok c =
    put_as c.args.number c.in_ok-object.object c.args.puts.now.list c.args.store.now c.put_object.new.store c.put_object.result
    c.in_ok-object.ensures c.put_object.ensures.put c.put_object.ensures.receipt
