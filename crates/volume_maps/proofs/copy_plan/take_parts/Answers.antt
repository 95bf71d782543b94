use Rattle.std.proofs.Common.{◌≡◌, ◌+◌, ◌-◌, min, sym, ◌∙◌, ap, subst, arith}
use Rattle.std.specs.Option.{option_or}
use Rattle.extent_map.specs.Extents.{place_at, place_after_set, IsShortest, AllFit}
use Rattle.volume_maps.specs.Places.{object_on, object_number}
use Rattle.volume_maps.specs.Parts.{sector_total, first_sectors}
use Rattle.volume_maps.proofs.PartLemmas.{none_first, no_total, first_more, total_more}
use Rattle.volume_maps.proofs.copy_plan.take_parts.Goals as goal

pub loop-part-preserved : goal.loop-part-preserved
loop-part-preserved c =
    let kept = c.loop-part.invariant in
    let part = c.in-Some.part in
    let parts = c.next.new.self in
    let taken = c.loop-part.taken in
    let room = c.args.most - taken in
    let old = place_at object_on c.loop-part.planned.rows in
    let new = place_at object_on c.set.new.self.rows in
    let all = c.in-Some.ensures.gives in
    let shortest = subst (IsShortest object_on) all kept.shortest in
    let sectors : c.min-sectors.result ≡ min part.sectors room = c.min-sectors.ensures in
    let left : c.args.most - (taken + c.min-sectors.result) ≡ room - min part.sectors room = omega (arith, sectors) in
    record {
      most = omega (arith, sectors, kept.most);
      count = omega (
        arith,
        sectors,
        kept.count,
        ap (λ n. sector_total (first_sectors n parts)) left,
        ap (λ ps. sector_total (first_sectors room ps)) all,
        total_more part parts room,
      );
      places = λ k.
          ap (λ n. option_or (place_at object_on (first_sectors n parts) k) (new k)) left
          ∙ first_more part parts room old new shortest
          (λ k. c.set.ensures.places k
          ∙ ap (λ n. place_after_set object_on part.lba n part.place (place_at object_on c.reserve.new.self.rows) k) sectors
          ∙ ap (λ rows. place_after_set object_on part.lba (min part.sectors room) part.place (place_at object_on rows) k)
          c.reserve.ensures.rows) k
          ∙ ap (λ ps. option_or (place_at object_on (first_sectors room ps) k) (old k)) (sym all)
          ∙ kept.places k;
      shortest = shortest.2;
      fits = (subst (AllFit object_number) all kept.fits).1;
    }

pub returns-then-taken-most-clause-count : goal.returns-then-taken-most-clause-count
returns-then-taken-most-clause-count c =
    let parts = c.loop-part.parts in
    let none : c.args.most - c.loop-part.taken ≡ 0 = omega arith in
    omega (arith, c.loop-part.invariant.count, ap (λ n. sector_total (first_sectors n parts)) none, no_total parts)

pub returns-then-taken-most-clause-places : goal.returns-then-taken-most-clause-places
returns-then-taken-most-clause-places c k =
    let parts = c.loop-part.parts in
    let planned = place_at object_on c.loop-part.planned.rows k in
    let none : c.args.most - c.loop-part.taken ≡ 0 = omega arith in
    sym (ap (λ n. option_or (place_at object_on (first_sectors n parts) k) planned) none
    ∙ ap (λ p. option_or p planned) (none_first parts k))
    ∙ c.loop-part.invariant.places k
