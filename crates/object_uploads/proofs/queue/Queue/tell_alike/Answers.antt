use Rattle.std.proofs.Common.{true, subst}
use Rattle.object_uploads.specs.Image.{TellAlike}
use Rattle.object_uploads.proofs.TellLemmas.{all_tell, inherited_tell, sealed_tell}
use Rattle.object_uploads.proofs.queue.Queue.tell_alike.Goals as goal

pub returns-clause-alike : goal.returns-clause-alike
returns-clause-alike g c =
    let state = g.R.Receipt.state in
    let tells = g.R.Receipt.tells in
    let alike = g.met.R.Receipt.told_alike in
    subst (TellAlike tells) c.self.view_is
    (record {
      known = all_tell state tells alike c.self.inside.receipts.list c.tell_alike.ensures;
      inherited = inherited_tell state tells alike c.self.inside.inherited c.tell_alike-2.ensures;
      sealed = sealed_tell state tells alike c.self.inside.sealed.items c.self.invariant.7;
    })

pub returns-clause-told : goal.returns-clause-told
returns-clause-told g c told =
    let state = g.R.Receipt.state in
    subst (TellAlike true) c.self.view_is
    (record {
      known = all_tell state true told c.self.inside.receipts.list c.tell_alike.ensures;
      inherited = inherited_tell state true told c.self.inside.inherited c.tell_alike-2.ensures;
      sealed = sealed_tell state true told c.self.inside.sealed.items c.self.invariant.7;
    })
