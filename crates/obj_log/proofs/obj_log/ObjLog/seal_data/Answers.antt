use Rattle.std.proofs.Common.{◌+◌, ◌∙◌, sym, ap, subst}
use Rattle.object_format.specs.declared.expected.Expected.{Expected}
use Rattle.volume_maps.specs.Covered.{CoverRows}
use Rattle.object_uploads.specs.Queue.{FitObject}
use Rattle.obj_log.specs.State.{ObjLogState}
use Rattle.obj_log.specs.Changes.{next_of}
use Rattle.obj_log.proofs.FitLemmas.{sealed_fit, is_sealed}
use Rattle.obj_log.proofs.obj_log.ObjLog.seal_data.Goals as goal

pub put_ranges-requires : goal.put_ranges-requires
put_ranges-requires g c =
    let sectors =
    ap (λ (e : Expected). e.sectors) c.next.ensures
    ∙ (sym c.requires.sectors ∙ ap (λ (o : ObjLogState). o.uploads.sectors) (sym c.self.view_is)) in
    subst (FitObject c.self.inside.uploads.sectors) (sym c.as_slice.ensures.value)
    (subst (λ n. FitObject n c.in_ok-sealed.sealed.rows.items) sectors
    (sealed_fit c.next.result c.in_ok-sealed.sealed.object _ c.in_ok-sealed.sealed.rows c.in_ok-sealed.ensures.payload
    c.in_ok-sealed.ensures.parts))

pub seal-requires-2-clause-covered : goal.seal-requires-2-clause-covered
seal-requires-2-clause-covered g c =
    subst (CoverRows c.in_ok-ranges.ranges.items) c.as_slice.ensures.value c.in_ok-ranges.ensures

pub seal-requires-2-clause-fit : goal.seal-requires-2-clause-fit
seal-requires-2-clause-fit g c =
    let sectors =
    ap (λ (e : Expected). e.sectors) c.next.ensures
    ∙ (sym c.requires.sectors ∙ ap (λ (o : ObjLogState). o.uploads.sectors) (sym c.self.view_is)) in
    subst (λ n. FitObject n c.in_ok-sealed.sealed.rows.items) sectors
    (sealed_fit c.next.result c.in_ok-sealed.sealed.object _ c.in_ok-sealed.sealed.rows c.in_ok-sealed.ensures.payload
    c.in_ok-sealed.ensures.parts)

pub returns-clause-sealed : goal.returns-clause-sealed
returns-clause-sealed g c =
    rw (← c.self.view_is) (
    is_sealed (record { batch = c.self.inside.batch; uploads = c.self.inside.uploads }) c.next.result c.in_ok-sealed.sealed _
    c.release.new.self c.seal-2.new.self
    (c.next.ensures ∙ ap next_of (sym c.self.view_is)) c.in_ok-sealed.ensures
    (ap (λ first. first + c.in_ok-sealed.sealed.entries) c.first_seq.ensures) c.in_ok-number.ensures.sealed
    c.release.ensures.geometry c.release.ensures.first c.release.ensures.entries
    )
