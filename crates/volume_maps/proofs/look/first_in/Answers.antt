use Rattle.std.proofs.Common.{◌≡◌, inl, inr, sym, ◌∙◌, subst, arith, ap}
use Rattle.extent_map.specs.Extents.{place_at}
use Rattle.volume_maps.specs.Places.{log_on, as_logged, as_settled}
use Rattle.volume_maps.specs.Look.{combined, BreaksOff}
use Rattle.volume_maps.proofs.LookLemmas.{row_or, log_on_none, starts_at, logged_breaks_off, settled_breaks_off}
use Rattle.volume_maps.proofs.look.first_in.Goals as goal
use Rattle.volume_maps.proofs.look.first_in.Goals.{in-Some, in-None}

-- src/look.rt:32:1
pub returns-in-Some-first_in-clause-breaks_off : goal.returns-in-Some-first_in-clause-breaks_off
returns-in-Some-first_in-clause-breaks_off c =
    let settled = c.args.settled.now in
    let log = c.args.log.now in
    let row = c.in-Some-first_in.row in
    let end = c.match-logged.end in
    let starts = c.in-Some-first_in.ensures.row in
    let first = c.in-Some-first_in.ensures.first in
    let breaks : BreaksOff c.args.lba c.args.sectors (combined settled log) (as_settled row) =
    elim c.match-logged.branch [
      | in-Some w ↦
          let logged = w.in-Some.ensures.row in
          settled_breaks_off settled log c.args.lba c.args.sectors end row first starts.from starts.to
          (omega (arith, w.end-is, logged.from))
          (inr (
            w.in-Some.row.place,
            rw w.end-is (starts_at log_on log_on_none (place_at log_on log.rows) c.args.lba
                c.args.sectors w.in-Some.row logged),
          ))
      | in-None w ↦
          settled_breaks_off settled log c.args.lba c.args.sectors end row first starts.from starts.to (omega (arith, w.end-is))
          (inl w.end-is)
    ] in
    rw c.settled_row.ensures breaks

-- src/look.rt:32:1
pub returns-in_ok-logged-in-None-first_in-clause-breaks_off : goal.returns-in_ok-logged-in-None-first_in-clause-breaks_off
returns-in_ok-logged-in-None-first_in-clause-breaks_off c =
    let settled = c.args.settled.now in
    let log = c.args.log.now in
    let row = c.in_ok-logged-in-None-first_in.field-0 in
    let breaks : BreaksOff c.args.lba c.args.sectors (combined settled log) (as_logged row) =
    elim c.match-logged.branch [
      | in-Some w ↦
          let logged = w.in-Some.ensures.row in
          let same : w.in-Some.row ≡ row = ap (row_or row) (sym w.logged-is ∙ c.in_ok-logged-in-None-first_in.was) in
          subst (λ r. BreaksOff c.args.lba c.args.sectors (combined settled log) (as_logged r)) same
          (logged_breaks_off settled log c.args.lba c.args.sectors w.in-Some.row w.in-Some.ensures.first logged.from)
      | in-None w ↦
          let none = sym c.in_ok-logged-in-None-first_in.was ∙ w.logged-is ∙ w.in-None.is in absurd cc
    ] in
    rw c.logged_row.ensures breaks
