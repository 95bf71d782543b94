use Rattle.std.proofs.Common.{◌≡◌, ℕ, arith, sym, ◌∙◌, ap, List, length}
use Rattle.std.specs.List.{insert, remove}
use Rattle.std.proofs.lemmas.List.Edits.{length-remove}
use Rattle.lsvd_names.specs.declared.name.ObjName.{ObjName}
use Rattle.replay_rig.specs.Puts.{PutView, PutsState, out_put}
use Rattle.replay_rig.specs.Places.{place_of_put, stands_at_place}
use Rattle.replay_rig.proofs.PutLemmas.{begun_again_at, begun_first_at}
use Rattle.replay_rig.proofs.puts.Puts.begin.Goals as goal
use Rattle.replay_rig.proofs.puts.Puts.begin.Goals.{then-is_at, else-is_at}

pub keep-requires-clause-place : goal.keep-requires-clause-place
keep-requires-clause-place c =
    let puts : List PutView = c.args.self.now.list in
    let n : ℕ = c.args.job.name.number in
    let place : ℕ = c.place_of-place.result in
    let same : c.name.result.now.number ≡ n = ap (λ (name : ObjName). name.number) c.name.ensures.is in
    let at : place ≡ place_of_put n puts = c.place_of-place.ensures ∙ ap (λ k. place_of_put k puts) same in
    let stands : c.is_at.result ≡ stands_at_place place n puts = c.is_at.ensures ∙ ap (λ k. stands_at_place place k puts) same in
    elim c.if-is_at.branch [
      | then-is_at w ↦
          let within = (begun_again_at n place c.args.job.bytes puts at (sym stands ∙ w.if-is_at.true)).0 in
          let list : length c.if-is_at.self.list ≡ length w.take.new.self.list =
          ap (λ (p : PutsState). length p.list) w.self-is in
          omega (arith, within, list, ap length w.take.ensures.list, length-remove puts place within)
      | else-is_at w ↦
          let list : length c.if-is_at.self.list ≡ length puts = ap (λ (p : PutsState). length p.list) w.self-is in
          omega (arith, list, (begun_first_at n place c.args.job.bytes puts at (sym stands ∙ w.if-is_at.false)).0)
    ]

pub returns : goal.returns
returns c =
    let puts : List PutView = c.args.self.now.list in
    let n : ℕ = c.args.job.name.number in
    let bytes : List ℕ = c.args.job.bytes in
    let place : ℕ = c.place_of-place.result in
    let same : c.name.result.now.number ≡ n = ap (λ (name : ObjName). name.number) c.name.ensures.is in
    let at : place ≡ place_of_put n puts = c.place_of-place.ensures ∙ ap (λ k. place_of_put k puts) same in
    let stands : c.is_at.result ≡ stands_at_place place n puts = c.is_at.ensures ∙ ap (λ k. stands_at_place place k puts) same in
    let kept : c.keep.new.self.list ≡ insert c.if-is_at.self.list place (out_put n bytes) =
    c.keep.ensures ∙ ap (λ x. insert c.if-is_at.self.list place x) c.out.ensures in
    elim c.if-is_at.branch [
      | then-is_at w ↦
          let list : c.if-is_at.self.list ≡ remove puts place = ap (λ (p : PutsState). p.list) w.self-is ∙ w.take.ensures.list in
          kept ∙ ap (λ xs. insert xs place (out_put n bytes)) list
          ∙ (begun_again_at n place bytes puts at (sym stands ∙ w.if-is_at.true)).1
      | else-is_at w ↦
          let list : c.if-is_at.self.list ≡ puts = ap (λ (p : PutsState). p.list) w.self-is in
          kept ∙ ap (λ xs. insert xs place (out_put n bytes)) list
          ∙ (begun_first_at n place bytes puts at (sym stands ∙ w.if-is_at.false)).1
    ]
