use Rattle.std.proofs.Common.{◌≡◌, List, sym, ◌∙◌, ap, true, false, ◌&&◌, ◌==◌}
use Rattle.std.proofs.lemmas.Bool.{eq-eqb, ne_eqb}
use Rattle.replay_rig.specs.Puts.{PutView, PutsState}
use Rattle.replay_rig.proofs.PutLemmas.{out_read, out_unread}
use Rattle.replay_rig.proofs.puts.Puts.is_out.Goals as goal

pub returns-then-number : goal.returns-then-number
returns-then-number c =
    let puts : List PutView = c.args.self.now.list in
    let put : PutView = c.in-Some.put.now in
    let same : c.deref.result.now ≡ puts = c.deref.ensures.value ∙ ap (λ (p : PutsState). p.list) c.self.view_is in
    let e = out_read c.args.number c.place_of-place.result puts c.deref.result.now put same c.place_of-place.ensures
    c.in-Some.ensures.lookup.0 c.in-Some.ensures.lookup.1 in
    let here : (put.number == c.args.number) ≡ true = eq-eqb put.number c.args.number (sym c.number.ensures ∙ c.if-number.true) in
    c.is_out.ensures ∙ sym (e ∙ ap (λ b. b && put.is_out) here)

pub returns-else-number : goal.returns-else-number
returns-else-number c =
    let puts : List PutView = c.args.self.now.list in
    let put : PutView = c.in-Some.put.now in
    let same : c.deref.result.now ≡ puts = c.deref.ensures.value ∙ ap (λ (p : PutsState). p.list) c.self.view_is in
    let e = out_read c.args.number c.place_of-place.result puts c.deref.result.now put same c.place_of-place.ensures
    c.in-Some.ensures.lookup.0 c.in-Some.ensures.lookup.1 in
    let not_here : (put.number == c.args.number) ≡ false =
    ne_eqb put.number c.args.number (λ is. c.if-number.false (c.number.ensures ∙ is)) in
    ap (λ k. k == c.args.number) c.number.ensures ∙ not_here ∙ sym (e ∙ ap (λ b. b && put.is_out) not_here)

pub returns-in-None : goal.returns-in-None
returns-in-None c =
    let puts : List PutView = c.args.self.now.list in
    let same : c.deref.result.now ≡ puts = c.deref.ensures.value ∙ ap (λ (p : PutsState). p.list) c.self.view_is in
    sym (out_unread c.args.number c.place_of-place.result puts c.deref.result.now same c.place_of-place.ensures
    c.in-None.ensures.lookup.0)
