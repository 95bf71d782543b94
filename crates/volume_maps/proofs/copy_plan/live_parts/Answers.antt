use Rattle.std.proofs.Common.{◌≡◌, cond, None, get_or, take, sym, ◌∙◌, ap, arith}
use Rattle.std.specs.Option.{option_or}
use Rattle.std.proofs.lemmas.List.{take_more, take_all}
use Rattle.extent_map.specs.Extents.{place_at}
use Rattle.reverse_map.specs.Ranges.{is_in_range, is_in_ranges}
use Rattle.volume_maps.specs.Places.{object_on}
use Rattle.volume_maps.specs.Parts.{place_in_object}
use Rattle.volume_maps.proofs.PartLemmas.{no_range, in_ranges_push, in_either, all_live}
use Rattle.volume_maps.proofs.copy_plan.live_parts.Goals as goal

pub loop-range-preserved : goal.loop-range-preserved
loop-range-preserved c =
    let i = c.loop-range.range-index in
    let ranges = c.args.ranges.now in
    record {
      places = λ k.
          let place = place_in_object c.args.number (place_at object_on c.args.settled.now.rows k) in
          let first = is_in_ranges (take i ranges) k in
          let range = get_or ranges i no_range in
          c.in_ok-add_live.ensures k
          ∙ ap (option_or (cond (is_in_range range k) place None)) (c.loop-range.invariant.places k)
          ∙ in_either place first (is_in_range range k)
          ∙ ap (λ b. cond b place None)
          (sym (ap (λ rs. is_in_ranges rs k) (take_more ranges i no_range c.loop-range-test.true)
          ∙ in_ranges_push (take i ranges) range k));
    }

pub returns : goal.returns
returns c k =
    let settled = place_at object_on c.args.settled.now.rows in
    let ranges = c.args.ranges.now in
    let all : take c.loop-range.range-index ranges ≡ ranges = take_all c.loop-range.range-index ranges (omega arith) in
    c.loop-range.invariant.places k
    ∙ ap (λ rs. cond (is_in_ranges rs k) (place_in_object c.args.number (settled k)) None) all
    ∙ all_live c.args.number (settled k) (is_in_ranges ranges k) (c.requires k)
