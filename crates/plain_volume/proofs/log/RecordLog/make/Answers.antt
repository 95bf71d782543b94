use Rattle.std.proofs.Common.{rules}
use Rattle.plain_volume.proofs.Records.{made_keeps}
use Rattle.plain_volume.proofs.log.RecordLog.make.Goals as goal

pub invariant_of-self : goal.invariant_of-self
invariant_of-self c =
    made_keeps c.args.commit (record {
      size = c.self.inside.size;
      head = c.self.inside.head;
      last = c.self.inside.last;
      records = c.self.inside.records.items;
      unfinished = c.self.inside.unfinished;
    })
    c.args.self.now c.pass_pad.new.records.items c.self.view_is c.requires c.self.invariant (search rules)
