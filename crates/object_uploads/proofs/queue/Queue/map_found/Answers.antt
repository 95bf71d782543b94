use Rattle.std.proofs.Common.{◌≡◌, List, [], length, None, sym, ◌∙◌, ap, refl, subst, arith}
use Rattle.std.specs.Prelude.{map}
use Rattle.object_table.specs.declared.row.ObjectRow.{ObjectRow}
use Rattle.volume_maps.specs.Maps.{MapsState}
use Rattle.volume_maps.specs.Live.{IsCounted, MayGain, but_live, HasSameObjects}
use Rattle.object_uploads.specs.State.{SealedState, QueueState}
use Rattle.object_uploads.specs.Order.{UnmappedAreDead}
use Rattle.object_uploads.proofs.RoomLemmas.{room_none}
use Rattle.object_uploads.proofs.UnmappedRows.{unmapped_same, unmapped_mapped}
use Rattle.object_uploads.proofs.QueueKept.{known_kept}
use Rattle.object_uploads.proofs.QueueSettled.{known_mapped}
use Rattle.object_uploads.proofs.queue.Queue.map_found.Goals.{In_ok-map_sectors}
use Rattle.object_uploads.proofs.queue.Queue.map_found.Goals as goal
use Rattle.object_uploads.proofs.queue.Queue.map_found.Given as given

-- what is unmapped once the row was entered is dead
unmapped : (g : given.Over) (c : In_ok-map_sectors g) → UnmappedAreDead c.map_sectors.new.self
unmapped g c =
    let old = c.self.inside.maps in
    let middle = c.reserve.new.self in
    let e = c.in_ok-reserve.ensures in
    let now = c.in_ok-map_sectors.ensures in
    let known = c.self.invariant.2 in
    let place = c.args.row.now.place in
    let gains : place.level ≡ 0 → MayGain place.number old.objects =
    subst (λ (q : QueueState). place.level ≡ 0 → MayGain place.number q.maps.objects) (sym c.self.view_is) c.requires.known in
    let still : place.level ≡ 0 → MayGain place.number middle.objects = λ own.
    let gain = gains own in rw e.rows (gain.0, gain.1, gain.2) in
    let counted : IsCounted middle.settled.rows middle.objects =
    record { live = rw (e.rows, e.settled_rows) known.counted.live; known = rw (e.rows, e.settled_rows) known.counted.known } in
    unmapped_mapped c.args.row.now.lba c.args.row.now.sectors place middle c.map_sectors.new.self still counted now.objects
    now.settled now.shortest now.counted (unmapped_same old middle e.rows e.checkpoint known.unmapped)

pub invariant_of-self-2 : goal.invariant_of-self-2
invariant_of-self-2 g c =
    let before = c.self.invariant in
    let none = subst (λ (q : QueueState). q.sealed ≡ []) (sym c.self.view_is) c.requires.none in
    let out = subst (λ (q : QueueState). q.removal ≡ None) (sym c.self.view_is) c.requires.no_removal in
    let e = c.in_ok-reserve.ensures in
    let now = c.in_ok-map_sectors.ensures in
    let same : HasSameObjects c.self.inside.maps.objects c.map_sectors.new.self.objects = record {
      rows = now.objects.rows ∙ ap (λ (rows : List ObjectRow). map but_live rows) e.rows;
      checkpoint = now.objects.checkpoint ∙ e.checkpoint;
    } in
    let size = ap (λ (list : List SealedState). length list) none in (
      room_none c.self.inside.sealed.items c.map_sectors.new.self none,
      before.1,
      known_mapped _ _ before.2 refl refl refl out same (unmapped g c) now.counted now.shortest,
      before.3,
      before.4,
      omega (arith, size),
      before.6,
      before.7,
    )

pub returns-clause-known : goal.returns-clause-known
returns-clause-known g c =
    let out = subst (λ (q : QueueState). q.removal ≡ None) (sym c.self.view_is) c.requires.no_removal in
    let e = c.in_ok-reserve.ensures in
    let now = c.in_ok-map_sectors.ensures in
    let same : HasSameObjects c.self.inside.maps.objects c.map_sectors.new.self.objects = record {
      rows = now.objects.rows ∙ ap (λ (rows : List ObjectRow). map but_live rows) e.rows;
      checkpoint = now.objects.checkpoint ∙ e.checkpoint;
    } in
    known_mapped _ _ c.self.invariant.2 refl refl refl out same (unmapped g c) now.counted now.shortest

pub invariant_of-self-in_err-map_sectors : goal.invariant_of-self-in_err-map_sectors
invariant_of-self-in_err-map_sectors g c =
    let before = c.self.invariant in
    let none = subst (λ (q : QueueState). q.sealed ≡ []) (sym c.self.view_is) c.requires.none in
    let e = c.in_ok-reserve.ensures in
    let same = c.in_err-map_sectors.ensures.same in
    let size = ap (λ (list : List SealedState). length list) none in (
      room_none c.self.inside.sealed.items c.map_sectors.new.self none,
      before.1,
      known_kept _ _ before.2 refl refl refl (ap (λ (m : MapsState). m.objects.rows) same ∙ e.rows)
          (ap (λ (m : MapsState). m.objects.checkpoint) same ∙ e.checkpoint)
          (ap (λ (m : MapsState). m.settled.rows) same ∙ e.settled_rows),
      before.3,
      before.4,
      omega (arith, size),
      before.6,
      before.7,
    )

pub invariant_of-self : goal.invariant_of-self
invariant_of-self g c =
    let before = c.self.invariant in
    let none = subst (λ (q : QueueState). q.sealed ≡ []) (sym c.self.view_is) c.requires.none in
    let e = c.in_err-reserve.ensures in
    let size = ap (λ (list : List SealedState). length list) none in (
      room_none c.self.inside.sealed.items c.reserve.new.self none,
      before.1,
      known_kept _ _ before.2 refl refl refl e.rows e.checkpoint e.settled_rows,
      before.3,
      before.4,
      omega (arith, size),
      before.6,
      before.7,
    )
