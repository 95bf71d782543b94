use Rattle.vol_core.proofs.entering.enter.Goals as goal

pub returns-in-Ok : goal.returns-in-Ok
returns-in-Ok g c = record {
  at = c.in-Ok.at;
  ready = c.append_record.new.objects;
  comes = c.in-Ok.ensures.ok;
  added = c.add.ensures.added;
  count_is = rw c.batch.ensures at c.next_seq.ensures;
}
