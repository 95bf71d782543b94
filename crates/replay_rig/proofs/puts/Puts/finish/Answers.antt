use Rattle.std.proofs.Common.{◌∙◌, List}
use Rattle.replay_rig.specs.Puts.{PutView}
use Rattle.replay_rig.proofs.PutLemmas.{stands_out, finished_there, job_taken, job_there, job_of}
use Rattle.replay_rig.proofs.puts.Puts.finish.Goals as goal

pub take-requires : goal.take-requires
take-requires c = (let s = stands_out c.args.number c.args.self.now.list c.requires in rw c.place_of-place.ensures s.within)

pub unwrap-requires : goal.unwrap-requires
unwrap-requires c =
    let puts : List PutView = c.args.self.now.list in
    let there = rw c.place_of-place.ensures at c.take.ensures.put in
    job_there c.args.number puts c.into_job.result
    (job_taken c.args.number puts (stands_out c.args.number puts c.requires) c.take.result c.into_job.result there
    c.into_job.ensures)

pub returns-clause-job : goal.returns-clause-job
returns-clause-job c =
    let puts : List PutView = c.args.self.now.list in
    let there = rw c.place_of-place.ensures at c.take.ensures.put in
    job_of c.args.number puts c.into_job.result c.unwrap.result c.unwrap.ensures
    (job_taken c.args.number puts (stands_out c.args.number puts c.requires) c.take.result c.into_job.result there
    c.into_job.ensures)

pub returns-clause-list : goal.returns-clause-list
returns-clause-list c =
    let s = stands_out c.args.number c.args.self.now.list c.requires in
    let list = rw c.place_of-place.ensures at c.take.ensures.list in
    list ∙ finished_there c.args.number s.bytes c.args.self.now.list s.is_out
