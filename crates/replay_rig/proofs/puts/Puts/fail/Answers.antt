use Rattle.std.proofs.Common.{ℕ, ◌∙◌, ap, List}
use Rattle.std.specs.List.{insert, remove}
use Rattle.replay_rig.specs.Puts.{PutView}
use Rattle.replay_rig.proofs.PutLemmas.{stands_out, failed_there, job_taken, job_there, job_of}
use Rattle.replay_rig.proofs.puts.Puts.fail.Goals as goal

pub take-put-requires : goal.take-put-requires
take-put-requires c = (let s = stands_out c.args.number c.args.self.now.list c.requires in rw c.place_of-place.ensures s.within)

pub unwrap-requires : goal.unwrap-requires
unwrap-requires c =
    let puts : List PutView = c.args.self.now.list in
    let there = rw c.place_of-place.ensures at c.take-put.ensures.put in
    job_there c.args.number puts c.into_job.result
    (job_taken c.args.number puts (stands_out c.args.number puts c.requires) c.take-put.result c.into_job.result there
    c.into_job.ensures)

pub returns-clause-ok : goal.returns-clause-ok
returns-clause-ok c =
    let puts : List PutView = c.args.self.now.list in
    let there = rw c.place_of-place.ensures at c.take-put.ensures.put in
    job_of c.args.number puts c.into_job.result c.unwrap.result c.unwrap.ensures
    (job_taken c.args.number puts (stands_out c.args.number puts c.requires) c.take-put.result c.into_job.result there
    c.into_job.ensures)

pub returns-clause-list : goal.returns-clause-list
returns-clause-list c =
    let puts : List PutView = c.args.self.now.list in
    let place : ℕ = c.place_of-place.result in
    c.keep.ensures ∙ ap (λ xs. insert xs place c.failed.result) c.take-put.ensures.list
    ∙ ap (λ x. insert (remove puts place) place x) c.failed.ensures
    ∙ ap (λ k. insert (remove puts k) k (record { number = c.args.number; bytes = c.in_ok-object.object; is_out = _ }))
    c.place_of-place.ensures
    ∙ failed_there c.args.number c.in_ok-object.object puts c.in_ok-object.ensures
