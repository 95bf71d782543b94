use Rattle.volume_commands.proofs.checking.check_volume.Goals as goal

pub returns-clause-why : goal.returns-clause-why
returns-clause-why g c why is = record {
  store = g.W.Store.Store.state c.in_ok-store.store;
  stood = c.in_ok-store.ensures.given;
  refused = λ tells. c.check_in-checked.ensures.why tells why is;
  store_left = g.W.Store.Store.state c.check_in-checked.new.store;
  same = c.check_in-checked.ensures.same;
  store_now = c.close_store.ensures.stands;
}
