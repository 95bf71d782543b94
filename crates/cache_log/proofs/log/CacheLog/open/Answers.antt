use Rattle.std.proofs.Common.{◌≡◌, ◌<◌, ◌≤◌, ◌^◌, List, [], take, drop, sym, ◌∙◌, ap, subst, arith}
use Rattle.std.proofs.Math.Path.{subst₂}
use Rattle.lsvd_base.specs.declared.geometry.Geometry.{Geometry}
use Rattle.commit_body.specs.declared.body.CommitBody.{CommitBody}
use Rattle.commit_body.specs.Body.{MayStand}
use Rattle.commit_slot.specs.Commits.{CommitsState}
use Rattle.cache_log.specs.declared.row.Row.{Row}
use Rattle.cache_log.specs.Rows.{byte_of}
use Rattle.cache_log.specs.Invariant.{IsLog}
use Rattle.cache_log.proofs.Slices.{take_none, drop_none}
use Rattle.cache_log.proofs.OpenLemmas.{opened_log, opened_room, is_opened}
use Rattle.cache_log.proofs.log.CacheLog.open.Goals as goal

pub read_rows-requires-clause-may_stand : goal.read_rows-requires-clause-may_stand
read_rows-requires-clause-may_stand g c = subst₂ MayStand c.body-body.ensures.body (sym c.requires.log)
    c.body-body.ensures.may_stand

pub invariant_of-result : goal.invariant_of-result
invariant_of-result g c =
    let geometry : Geometry = c.args.geometry.now in
    let old : CommitsState = c.args.commits in
    let new : CommitsState = c.read_rows.new.commits in
    let rows : List Row = c.in-Ok.rows.items in
    let body : CommitBody = c.body-body.result in
    let is : body ≡ old.body = c.body-body.ensures.body in
    let may : MayStand old.body geometry.log = subst₂ MayStand is (sym c.requires.log) c.body-body.ensures.may_stand in
    let numbers : old.body.head.seq < 2 ^ 64 =
    subst (λ (b : CommitBody). b.head.seq < 2 ^ 64) is c.sectors_between-used.ensures.seq in
    let log = opened_log geometry rows _ old new c.requires.limits c.requires.log c.log-sectors.ensures.on_disk.size may
    c.requires.finished c.requires.durable c.in-Ok.ensures.rows c.in-Ok.ensures.records c.in-Ok.ensures.read numbers in
    let place = opened_room geometry.log c.log-sectors.result c.sectors_between-used.result c.at.result old.body body is
    (c.log-sectors.ensures.log ∙ sym c.requires.log) c.sectors_between-used.ensures.sectors c.at.ensures in
    let P : List Row → List Row → Type 0 = λ h r. IsLog c.at.result body.tail h r new in (
      omega arith,
      subst₂ P (sym (take_none rows)) (sym (drop_none rows))
          (subst₂ (λ p m. IsLog p m [] rows new) (sym place) (ap (λ (b : CommitBody). b.tail) (sym is)) log),
    )

pub returns-in-Ok-clause-ok : goal.returns-in-Ok-clause-ok
returns-in-Ok-clause-ok g c =
    let geometry : Geometry = c.args.geometry.now in
    let old : CommitsState = c.args.commits in
    let body : CommitBody = c.body-body.result in
    let is : body ≡ old.body = c.body-body.ensures.body in
    let may : MayStand old.body geometry.log = subst₂ MayStand is (sym c.requires.log) c.body-body.ensures.may_stand in
    let fits : byte_of geometry.log ≤ old.disk.size = (let l = c.requires.log in let s = c.log-sectors.ensures.on_disk.size in
    omega (arith, l, s)) in
    let place = opened_room geometry.log c.log-sectors.result c.sectors_between-used.result c.at.result old.body body is
    (c.log-sectors.ensures.log ∙ sym c.requires.log) c.sectors_between-used.ensures.sectors c.at.ensures in
    let rows : List Row = c.in-Ok.rows.items in
    is_opened geometry rows old c.read_rows.new.commits c.at.result body.tail (take 0 rows) (drop 0 rows) _
    (ap (λ (b : CommitBody). b.tail) is) (take_none rows) (drop_none rows) place may fits
    c.log-sectors.ensures.on_disk.is_disk.media c.in-Ok.ensures.rows c.in-Ok.ensures.records c.in-Ok.ensures.read
    c.in-Ok.ensures.pieces
