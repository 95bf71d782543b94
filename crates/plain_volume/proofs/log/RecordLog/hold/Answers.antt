use Rattle.std.proofs.Common.{rules}
use Rattle.plain_volume.proofs.Records.{held_keeps}
use Rattle.plain_volume.proofs.log.RecordLog.hold.Goals as goal

pub invariant_of-self : goal.invariant_of-self
invariant_of-self c =
    held_keeps c.args.found (record {
      size = c.self.inside.size;
      head = c.self.inside.head;
      last = c.self.inside.last;
      records = c.self.inside.records.items;
      unfinished = c.self.inside.unfinished;
    })
    c.args.self.now c.truncate.new.self.items c.self.view_is c.requires c.self.invariant (search rules)
