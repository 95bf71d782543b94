use Rattle.std.proofs.Common.{◌≡◌, sym, ◌∙◌, ap, ℕ, ◌≤◌, List, length, nat_le, rules, tests, arith}
use Rattle.std.specs.Prelude.{unwrap_or}
use Rattle.std.specs.List.{position_or_len}
use Rattle.std.proofs.lemmas.Iterator.{YieldsList-from_slice}
use Rattle.std.proofs.lemmas.Iterator.Search.{position_from_yields_List}
use Rattle.replay_rig.specs.Puts.{PutView, PutsState}
use Rattle.replay_rig.specs.Places.{place_of_put}
use Rattle.replay_rig.proofs.PutLemmas.{place_is, place_within, unwrapped_place}
use Rattle.replay_rig.proofs.puts.Puts.place_of.Goals as goal

pub returns : goal.returns
returns c =
    let puts : List PutView = c.deref.result.now in
    let n : ℕ = c.args.number in
    let place : ℕ = position_or_len (λ put. nat_le n put.number) puts in
    let found = position_from_yields_List (λ (put : PutView). nat_le n put.number) _ _ c.position.result c.position.ensures.ran
    (YieldsList-from_slice puts cc) (λ x b q k. search (rules, tests)) in
    let is : place ≡ place_of_put n puts = place_is n puts in
    let within : place ≤ length puts = omega (arith, is, place_within n puts) in
    let len : c.len.result ≡ length puts = c.len.ensures ∙ sym c.deref.ensures.len in
    let same : puts ≡ c.args.self.now.list = c.deref.ensures.value ∙ ap (λ (p : PutsState). p.list) c.self.view_is in
    c.unwrap_or.ensures ∙ ap (λ k. unwrap_or c.position.result k) len
    ∙ unwrapped_place place (length puts) c.position.result found within ∙ is
    ∙ ap (place_of_put n) same
