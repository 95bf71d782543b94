use Rattle.std.proofs.Common.{◌≡◌, arith, ◌∙◌, ap, List, length, get_or}
use Rattle.replay_rig.specs.Puts.{PutView, PutsState}
use Rattle.replay_rig.specs.Places.{place_of_put}
use Rattle.replay_rig.proofs.PutLemmas.{stands_out, shared_out}
use Rattle.replay_rig.proofs.puts.Puts.object.Goals as goal

pub index-requires : goal.index-requires
index-requires c =
    let s = stands_out c.args.number c.args.self.now.list c.requires in
    let same : length c.self.inside.list.items ≡ length c.args.self.now.list =
    ap (λ (p : PutsState). length p.list) c.self.view_is in
    omega (arith, same, s.within, c.place_of-place.ensures, c.self.inside.list.ok.0)

pub returns : goal.returns
returns c =
    let puts : List PutView = c.args.self.now.list in
    let s = stands_out c.args.number puts c.requires in
    let same : c.self.inside.list.items ≡ puts = ap (λ (p : PutsState). p.list) c.self.view_is in
    let read : c.index.result.now ≡ get_or puts (place_of_put c.args.number puts) c.index.result.now =
    c.index.ensures ∙ ap (λ xs. get_or xs c.place_of-place.result c.index.result.now) same
    ∙ ap (λ k. get_or puts k c.index.result.now) c.place_of-place.ensures in
    shared_out c.args.number puts s c.share.result c.index.result.now c.object.result.now read c.object.ensures c.share.ensures
