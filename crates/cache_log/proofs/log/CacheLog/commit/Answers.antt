use Rattle.std.proofs.Common.{◌≡◌, ◌-◌, ◌≤◌, ℕ, Bool, true, false, List, length, take, drop, refl, sym, ◌∙◌, ap, subst, arith}
use Rattle.std.specs.Prelude.{OnOk, OnErr, if◌then◌else◌, is_ok, nat_lt}
use Rattle.std.specs.VecDeque.{deque_capacity}
use Rattle.std.proofs.lemmas.Bool.{lt-ltb, ltb-true, true≢false}
use Rattle.std.proofs.Math.Path.{subst₂}
use Rattle.commit_body.specs.declared.body.CommitBody.{CommitBody}
use Rattle.commit_body.specs.declared.body.Mark.{Mark}
use Rattle.commit_body.specs.Body.{MayStand}
use Rattle.commit_slot.specs.Slots.{log_of}
use Rattle.commit_slot.specs.Commits.{CommitsState, commit_cost}
use Rattle.commit_slot.specs.Sequence.{Costs, commit_calls}
use Rattle.commit_slot.specs.Committing.{IsCommitted, FailsToCommit}
use Rattle.log_room.specs.Room.{Room, room_of}
use Rattle.lsvd_device.specs.Device.{DiskState}
use Rattle.cache_log.specs.declared.row.Row.{Row}
use Rattle.cache_log.specs.Rows.{since}
use Rattle.cache_log.specs.Log.{LogState, next_seq}
use Rattle.cache_log.specs.Committed.{body_of, sectors_from, IsOnDisk}
use Rattle.cache_log.specs.Invariant.{IsLog}
use Rattle.cache_log.proofs.CommitLemmas.{body_with, body_is, all_may, HasTried, left_by, released, IsDropped, dropped_after}
use Rattle.cache_log.proofs.CommitLemmas.{log_after, release_log, IsCommitTried, commit_tried, is_on_disk}
use Rattle.cache_log.proofs.CommittedLemmas.{view_of}
use Rattle.cache_log.proofs.log.CacheLog.commit.Given as given
use Rattle.cache_log.proofs.log.CacheLog.commit.Goals.{After-drop_below}
use Rattle.cache_log.proofs.log.CacheLog.commit.Goals as goal

pub commit-committed-requires-clause-may_stand : goal.commit-committed-requires-clause-may_stand
commit-committed-requires-clause-may_stand g c =
    let place : Room = c.self.inside.room in
    let mark : Mark = c.self.inside.tail in
    let held : List Row = take c.self.inside.dropped c.self.inside.rows.items in
    let rows : List Row = drop c.self.inside.dropped c.self.inside.rows.items in
    let old : CommitsState = c.self.inside.commits in
    let log = c.self.invariant.1.is in
    let is = body_is old.body place mark rows c.body-body.result c.head-head.result c.next_seq.result c.body-body.ensures.body
    c.head-head.ensures.head (c.next_seq.ensures ∙ ap next_seq (sym c.self.view_is)) in
    subst (λ b. MayStand b (log_of old.disk.size)) (sym is) (subst (MayStand (body_with old.body place mark rows)) log.sectors
    (all_may place mark held rows old log))

-- what the commit of that body left, and what was taken of the rows
left : (g : given.Over) (c : After-drop_below g)
    → HasTried (body_with c.self.inside.commits.body c.self.inside.room c.self.inside.tail
    (drop c.self.inside.dropped c.self.inside.rows.items)) c.self.inside.commits c.commit-committed.new.self
left g c =
    let rows : List Row = drop c.self.inside.dropped c.self.inside.rows.items in
    let old : CommitsState = c.self.inside.commits in
    let is = body_is old.body c.self.inside.room c.self.inside.tail rows c.body-body.result c.head-head.result c.next_seq.result
    c.body-body.ensures.body c.head-head.ensures.head
    (c.next_seq.ensures ∙ ap next_seq (sym c.self.view_is)) in
    let e = c.commit-committed.ensures in
    left_by c.commit-committed.result _ _ _ _ _ _ _ c.self.invariant.1.is is e.ok e.err e.crash_safe e.log_area
    e.costs.calls.size e.on_disk

dropped : (g : given.Over) (c : After-drop_below g)
    → IsDropped c.self.inside.rows.items c.drop_below.new.rows.items c.self.inside.dropped c.drop_below.result
    c.commit-committed.new.self.body.tail.seq
dropped g c =
    dropped_after _ _ _ _ _ _ _ _ _ c.self.invariant.0 c.self.invariant.1.is (left g c)
    (ap (λ (b : CommitBody). b.tail.seq) c.body-last.ensures.body) c.drop_below.ensures.rows c.drop_below.ensures.count

pub overflow_sub-self : goal.overflow_sub-self
overflow_sub-self g c = (dropped g c).few

-- the room at the end
room_is : (g : given.Over) (c : After-drop_below g) (log used : ℕ) (room : Room)
    → log ≡ c.self.inside.room.log
    → used ≡ sectors_from log c.body-last.result.tail.position c.head-head.result c.drop_below.new.rows.items
    → room ≡ room_of log c.head-head.result used
    → room ≡ released c.self.inside.room c.commit-committed.new.self.body (take c.self.inside.dropped c.self.inside.rows.items)
    (drop c.self.inside.dropped c.self.inside.rows.items)
room_is g c log used room log_is used_is is =
    let place : Room = c.self.inside.room in
    let last : CommitBody = c.body-last.result in
    let items : List Row = c.drop_below.new.rows.items in
    is
    ∙ ap (room_of log c.head-head.result) used_is
    ∙ ap (λ l. room_of l c.head-head.result (sectors_from l last.tail.position c.head-head.result items)) log_is
    ∙ ap (λ h. room_of place.log h (sectors_from place.log last.tail.position h items)) c.head-head.ensures.head
    ∙ ap (λ (b : CommitBody). room_of place.log place.head (sectors_from place.log b.tail.position place.head items))
    c.body-last.ensures.body
    ∙ ap (λ r. room_of place.log place.head (sectors_from place.log c.commit-committed.new.self.body.tail.position place.head r))
    (dropped g c).whole

-- the log at the end
log_left : (g : given.Over) (c : After-drop_below g) (log used : ℕ) (room : Room)
    → log ≡ c.self.inside.room.log
    → used ≡ sectors_from log c.body-last.result.tail.position c.head-head.result c.drop_below.new.rows.items
    → room ≡ room_of log c.head-head.result used
    → IsLog room c.self.inside.tail (take (c.self.inside.dropped - c.drop_below.result) c.drop_below.new.rows.items)
    (drop (c.self.inside.dropped - c.drop_below.result) c.drop_below.new.rows.items) c.commit-committed.new.self
log_left g c log used room log_is used_is room_of_is =
    let new : CommitsState = c.commit-committed.new.self in
    let mark : Mark = c.self.inside.tail in
    let is = dropped g c in
    let kept = release_log _ _ _ _ _ (log_after _ _ _ _ _ _ c.self.invariant.1.is (left g c)).log in
    let P : Room → List Row → List Row → Type 0 = λ p h r. IsLog p mark h r new in
    let held : List Row = since new.body.tail.seq (take c.self.inside.dropped c.self.inside.rows.items) in
    let rows : List Row = drop c.self.inside.dropped c.self.inside.rows.items in
    subst₂ (λ h r. P room h r) (sym is.held) (sym is.rows)
    (subst (λ p. P p held rows) (sym (room_is g c log used room log_is used_is room_of_is)) kept)

pub invariant_of-self : goal.invariant_of-self
invariant_of-self g c =
    let before = (goal.at.invariant_of-self g c).After-drop_below in (
      (dropped g before).within,
      log_left g before _ _ _ c.sectors-log.ensures c.sectors_from-used.ensures.sectors c.at-self-inside.ensures,
    )

pub returns-clause-was_on_disk : goal.returns-clause-was_on_disk
returns-clause-was_on_disk g c = subst IsOnDisk c.self.view_is (is_on_disk _ _ _ _ _ _ c.self.invariant.1)

pub returns-clause-on_disk : goal.returns-clause-on_disk
returns-clause-on_disk g c =
    is_on_disk _ _ _ _ _ _
    (log_left g (goal.at.returns-clause-on_disk g c).After-drop_below _ _ _ c.sectors-log.ensures
    c.sectors_from-used.ensures.sectors c.at-self-inside.ensures)

promised : (g : given.Over) (c : After-drop_below g) (log used after : ℕ) (room : Room)
    → log ≡ c.self.inside.room.log
    → used ≡ sectors_from log c.body-last.result.tail.position c.head-head.result c.drop_below.new.rows.items
    → room ≡ room_of log c.head-head.result used
    → IsCommitTried c.commit-committed.result c.args.self.now
    (view_of room c.self.inside.tail (take (c.self.inside.dropped - c.drop_below.result) c.drop_below.new.rows.items)
    (drop (c.self.inside.dropped - c.drop_below.result) c.drop_below.new.rows.items)
    c.commit-committed.new.self after)
promised g c log used after room log_is used_is room_of_is =
    let place : Room = c.self.inside.room in
    let mark : Mark = c.self.inside.tail in
    let held : List Row = take c.self.inside.dropped c.self.inside.rows.items in
    let rows : List Row = drop c.self.inside.dropped c.self.inside.rows.items in
    let old : CommitsState = c.self.inside.commits in
    let new : CommitsState = c.commit-committed.new.self in
    let body = body_is old.body place mark rows c.body-body.result c.head-head.result c.next_seq.result c.body-body.ensures.body
    c.head-head.ensures.head (c.next_seq.ensures ∙ ap next_seq (sym c.self.view_is)) in
    let is = dropped g c in
    let done = commit_tried c.commit-committed.result place mark held rows old new _ after c.args.self.now c.self.view_is
    c.self.invariant.1.is (left g c)
    (subst (λ b. OnOk c.commit-committed.result (IsCommitted b old new)) body c.commit-committed.ensures.ok) in
    let P : Room → List Row → List Row → Type 0 = λ p h r. IsCommitTried c.commit-committed.result c.args.self.now
    (view_of p mark h r new after) in
    subst₂ (λ h r. P room h r) (sym is.held) (sym is.rows) (subst (λ p. P p (since new.body.tail.seq held) rows)
    (sym (room_is g c log used room log_is used_is room_of_is)) done)

pub returns-clause-same : goal.returns-clause-same
returns-clause-same g c =
    (promised g (goal.at.returns-clause-same g c).After-drop_below _ _ _ _ c.sectors-log.ensures
    c.sectors_from-used.ensures.sectors c.at-self-inside.ensures).same

pub returns-clause-released : goal.returns-clause-released
returns-clause-released g c =
    (promised g (goal.at.returns-clause-released g c).After-drop_below _ _ _ _ c.sectors-log.ensures
    c.sectors_from-used.ensures.sectors c.at-self-inside.ensures).released

pub returns-clause-ok : goal.returns-clause-ok
returns-clause-ok g c =
    (promised g (goal.at.returns-clause-ok g c).After-drop_below _ _ _ _ c.sectors-log.ensures c.sectors_from-used.ensures.sectors
    c.at-self-inside.ensures).ok

pub returns-clause-stands : goal.returns-clause-stands
returns-clause-stands g c =
    (promised g (goal.at.returns-clause-stands g c).After-drop_below _ _ 0 _ c.sectors-log.ensures
    c.sectors_from-used.ensures.sectors c.at-self-inside.ensures).stands

pub returns-clause-err : goal.returns-clause-err
returns-clause-err g c =
    let old : CommitsState = c.self.inside.commits in
    let new : CommitsState = c.commit-committed.new.self in
    let rows : List Row = drop c.self.inside.dropped c.self.inside.rows.items in
    let body = body_is old.body c.self.inside.room c.self.inside.tail rows c.body-body.result c.head-head.result c.next_seq.result
    c.body-body.ensures.body c.head-head.ensures.head
    (c.next_seq.ensures ∙ ap next_seq (sym c.self.view_is)) in
    let E : LogState → Type 0 = λ l. OnErr c.commit-committed.result (FailsToCommit (body_of l) l.commits new) in
    subst E c.self.view_is (subst (λ b. OnErr c.commit-committed.result (FailsToCommit b old new)) body
    c.commit-committed.ensures.err)

-- the calls of a commit of this body, told of the log as its callers see it
calls_as : (log log' : LogState) (body : CommitBody) (made : Bool) (new : DiskState) → log ≡ log' → body ≡ body_of log
    → Costs (commit_cost log.commits.unfinished) (commit_calls log.commits.number log.commits.unfinished body) made
    log.commits.disk new
    → Costs (commit_cost log'.commits.unfinished) (commit_calls log'.commits.number log'.commits.unfinished (body_of log')) made
    log'.commits.disk new
calls_as log log' body made new is same costs =
    let P : LogState → CommitBody → Type 0 = λ l more. Costs (commit_cost l.commits.unfinished)
    (commit_calls l.commits.number l.commits.unfinished more) made l.commits.disk new in
    subst (λ l. P l (body_of l)) is (subst (P log) same costs)

pub returns-clause-calls : goal.returns-clause-calls
returns-clause-calls g c =
    let rows : List Row = drop c.self.inside.dropped c.self.inside.rows.items in
    let body = body_is c.self.inside.commits.body c.self.inside.room c.self.inside.tail rows c.body-body.result c.head-head.result
    c.next_seq.result c.body-body.ensures.body c.head-head.ensures.head
    (c.next_seq.ensures ∙ ap next_seq (sym c.self.view_is)) in
    calls_as _ c.args.self.now _ (is_ok c.commit-committed.result) c.commit-committed.new.self.disk c.self.view_is body
    c.commit-committed.ensures.costs

-- room that is told where there was some before
told_still : (before after : Bool) (room : ℕ) → (before ≡ true → after ≡ true)
    → (if before then room else 0) ≤ (if after then room else 0)
told_still true true room still = omega arith
told_still true false room still = absurd (true≢false (sym (still refl)))
told_still false after room still = omega arith

room_stays : (count count' capacity capacity' room : ℕ) → count' ≤ count → capacity' ≡ capacity
    → (if nat_lt count capacity then room else 0) ≤ (if nat_lt count' capacity' then room else 0)
room_stays count count' capacity capacity' room fewer same =
    told_still (nat_lt count capacity) (nat_lt count' capacity') room
    (λ is. let less = ltb-true count capacity is in lt-ltb count' capacity' (omega (arith, less, fewer, same)))

pub returns-clause-reserved : goal.returns-clause-reserved
returns-clause-reserved g c =
    let count = c.drop_below.ensures.count in
    let was = ap (λ (l : LogState). l.reserved) c.self.view_is in
    rw (← was)
    (room_stays (length c.self.inside.rows.items) _ (deque_capacity c.self.inside.rows) _ _ (omega (arith, count))
    c.drop_below.ensures.capacity)
