use Rattle.std.proofs.Common.{◌≡◌, ◌+◌, ◌-◌, [], ◌∷◌, ◌∙◌, ap, arith, refl}
use Rattle.std.specs.Option.{option_or}
use Rattle.extent_map.specs.Extents.{place_at}
use Rattle.volume_maps.specs.Places.{volume_on, volume_number}
use Rattle.volume_maps.specs.Look.{combined}
use Rattle.volume_maps.proofs.LookLemmas.{volume_on_none, starts_at, push_shortest, push_closed, place_in_parts, push_places}
use Rattle.volume_maps.proofs.LookLemmas.{push_fits}
use Rattle.volume_maps.proofs.look.look.Goals as goal

pub loop-row-preserved : goal.loop-row-preserved
loop-row-preserved c =
    let places = combined c.args.settled.now c.args.log.now in
    let lba = c.args.lba in
    let end = lba + c.args.sectors in
    let from = c.loop-row.from in
    let rows = c.loop-row.rows.items in
    let row = c.in-Some.row in
    let kept = c.loop-row.invariant in
    let starts = c.in-Some.ensures.row in
    let pushed = c.in_ok-push.ensures.items in
    let range : from + (end - from) ≡ end = omega (arith, kept.2) in
    let at = starts_at volume_on volume_on_none places from (end - from) row starts in (
      refl,
      omega (arith, kept.1, starts.from),
      omega (arith, range, starts.to),
      rw pushed (push_shortest end places from rows row kept.3 kept.4 starts.some starts.from
          (omega (arith, range, starts.to, starts.some)) at),
      rw pushed (push_closed end places from from (end - from) rows row range c.in-Some.ensures.breaks_off),
      λ k.
          ap (λ items. place_at volume_on items k) pushed
          ∙ (place_in_parts rows (row ∷ []) k
          ∙ (ap (λ p. option_or p (place_at volume_on (row ∷ []) k)) (kept.5 k)
          ∙ push_places lba from places kept.1 (end - from) row starts k)),
      rw pushed (push_fits volume_number rows row kept.6 c.in-Some.ensures.fits),
    )
