use Rattle.std.proofs.Common.{◌≡◌, get_or, length, take, sym, ◌∙◌, ap, arith}
use Rattle.std.proofs.lemmas.List.{take_more, take_all}
use Rattle.extent_map.specs.Extents.{place_at}
use Rattle.object_stream.specs.Planned.{planned}
use Rattle.object_stream.specs.Stream.{source_in}
use Rattle.volume_maps.specs.Places.{object_on}
use Rattle.volume_maps.specs.Parts.{live_below, place_of_source}
use Rattle.volume_maps.proofs.PartLemmas.{total_most}
use Rattle.volume_maps.proofs.PlanLemmas.{planned_full, room_more, places_more}
use Rattle.volume_maps.proofs.copy_plan.plan_victims.Goals as goal
use Rattle.volume_maps.proofs.copy_plan.plan_victims.Goals.{else-loop-number-test, then-loop-number-test+then-room-eq0}

pub overflow_sub-room : goal.overflow_sub-room
overflow_sub-room c = omega (arith, c.in_ok-room.ensures.count, total_most c.in_ok-live.live.rows c.loop-number.room)

pub loop-number-preserved : goal.loop-number-preserved
loop-number-preserved c =
    let settled = place_at object_on c.args.settled.now.rows in
    let most = c.args.most in
    let i = c.loop-number.number-index in
    let victims = c.args.victims.now in
    let number = get_or victims i 0 in
    let room = c.loop-number.room in
    let live = c.in_ok-live.live.rows in
    let shortest = c.in_ok-room.ensures.shortest in
    let more = take_more victims i 0 c.loop-number-test.true in
    record {
      room = λ volume below.
          let left = c.loop-number.invariant.room volume below in
          omega (
            arith,
            c.in_ok-room.ensures.count,
            ap (λ vs. length (planned most (live_below volume settled) vs)) more,
            room_more volume most number room settled below (take i victims) live shortest c.in_ok-live.ensures left,
          );
      places = λ volume below k.
          let left = c.loop-number.invariant.room volume below in
          places_more volume most number room settled below (take i victims) live shortest c.in_ok-live.ensures left
          (place_at object_on c.loop-number.planned.rows) (place_at object_on c.take_parts.new.planned.rows)
          (c.loop-number.invariant.places volume below) c.in_ok-room.ensures.places k
          ∙ ap (λ vs. place_of_source (source_in (planned most (live_below volume settled) vs) k) (settled k)) (sym more);
    }

pub returns : goal.returns
returns c volume below k =
    let settled = place_at object_on c.args.settled.now.rows in
    let live = live_below volume settled in
    let i = c.loop-number.number-index in
    let victims = c.args.victims.now in
    let all : planned c.args.most live (take i victims) ≡ planned c.args.most live victims =
    elim c.loop-number-test.branch [
      | else-loop-number-test w ↦ ap (planned c.args.most live) (take_all i victims (omega arith))
      | then-loop-number-test+then-room-eq0 w ↦
          planned_full c.args.most live victims i (omega (arith, c.loop-number.invariant.room volume below))
    ] in
    c.loop-number.invariant.places volume below k ∙ ap (λ ps. place_of_source (source_in ps k) (settled k)) all
