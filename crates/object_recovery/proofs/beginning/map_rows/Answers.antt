use Rattle.std.proofs.Common.{◌≡◌, ◌++◌, ◌∷◌, [], sym, subst, ap, ◌∙◌, arith, refl}
use Rattle.object_format.specs.declared.expected.Expected.{Expected}
use Rattle.ckpt_format.specs.Reading.{CheckpointReading}
use Rattle.volume_maps.specs.declared.place.ObjectPlace.{ObjectPlace}
use Rattle.volume_maps.specs.Live.{MayGain}
use Rattle.object_uploads.specs.State.{UploadsState}
use Rattle.object_uploads.specs.Opening.{HasMapped}
use Rattle.obj_log.specs.State.{ObjLogState}
use Rattle.object_recovery.specs.Beginning.{HasRows}
use Rattle.object_recovery.proofs.RowLemmas.{last_stands_so, last_names}
use Rattle.object_recovery.proofs.MappedLemmas.{given_more, one_mapped, next_gains}
use Rattle.object_recovery.proofs.beginning.map_rows.Goals as goal

pub mapped_row-requires : goal.mapped_row-requires
mapped_row-requires g c =
    let gives = rw c.in-Ok-Some.field-0-is at c.in-Ok-Some.ensures.gives in
    (last_stands_so c.loop-row.rows.expected c.loop-row.rows.given c.in-Ok-Some.row gives.spelling).in_payload

pub map_found-requires-clause-inside : goal.map_found-requires-clause-inside
map_found-requires-clause-inside g c =
    let gives = rw c.in-Ok-Some.field-0-is at c.in-Ok-Some.ensures.gives in
    let stands = last_stands_so c.loop-row.rows.expected c.loop-row.rows.given c.in-Ok-Some.row gives.spelling in
    let sectors : c.loop-row.rows.expected.sectors ≡ c.uploads_mut.result.now.sectors =
    ap (λ (e : Expected). e.sectors) c.loop-row.invariant.expected ∙ c.requires.sectors
    ∙ sym c.loop-row.invariant.rows.rest.sectors ∙ ap (λ (u : UploadsState). u.sectors) (sym c.uploads_mut.ensures.is) in
    omega (arith, stands.inside, sectors, c.mapped_row.ensures.lba, c.mapped_row.ensures.sectors)

pub map_found-requires-clause-payload : goal.map_found-requires-clause-payload
map_found-requires-clause-payload g c =
    let gives = rw c.in-Ok-Some.field-0-is at c.in-Ok-Some.ensures.gives in
    let stands = last_stands_so c.loop-row.rows.expected c.loop-row.rows.given c.in-Ok-Some.row gives.spelling in
    let sector = ap (λ (p : ObjectPlace). p.sector) c.mapped_row.ensures.place in
    omega (arith, stands.in_payload, sector, c.mapped_row.ensures.sectors)

pub map_found-requires-clause-level : goal.map_found-requires-clause-level
map_found-requires-clause-level g c =
    let gives = rw c.in-Ok-Some.field-0-is at c.in-Ok-Some.ensures.gives in
    let names = last_names c.loop-row.rows.expected c.loop-row.rows.given c.in-Ok-Some.row gives.spelling in
    let level = ap (λ (p : ObjectPlace). p.level) c.mapped_row.ensures.place in
    let ancestors : c.loop-row.rows.expected.ancestors ≡ c.uploads_mut.result.now.ancestors =
    ap (λ (e : Expected). e.ancestors) c.loop-row.invariant.expected ∙ c.requires.ancestors
    ∙ sym c.loop-row.invariant.rows.rest.ancestors
    ∙ ap (λ (u : UploadsState). u.ancestors) (sym c.uploads_mut.ensures.is) in
    omega (arith, names.level, level, ancestors)

pub map_found-requires-clause-known : goal.map_found-requires-clause-known
map_found-requires-clause-known g c = λ own.
    let gives = rw c.in-Ok-Some.field-0-is at c.in-Ok-Some.ensures.gives in
    let before = c.loop-row.invariant in
    let old = c.loop-row.rows in
    let rest = c.next_row.new.self.rest in
    let row = c.in-Ok-Some.row in
    let stands = last_stands_so old.expected old.given row gives.spelling in
    let given = c.requires.checkpoint in
    let all = given_more given.1 old.given old.rest rest row gives.first (before.rest given.0 given.1 given.2) in
    let number = ap (λ (p : ObjectPlace). p.number) (sym c.mapped_row.ensures.place) in
    let level = ap (λ (p : ObjectPlace). p.level) (sym c.mapped_row.ensures.place) ∙ own in
    subst (λ (u : UploadsState). MayGain c.mapped_row.result.place.number u.queue.maps.objects) (sym c.uploads_mut.ensures.is)
    (subst (λ n. MayGain n c.loop-row.log.uploads.queue.maps.objects) number
    (next_gains given.1 old.given rest row c.args.log.now c.loop-row.log all gives.spelling.shortest stands.some given.3
    before.rows level))

pub loop-row-preserved : goal.loop-row-preserved
loop-row-preserved g c =
    let gives = rw c.in-Ok-Some.field-0-is at c.in-Ok-Some.ensures.gives in
    let before = c.loop-row.invariant in
    let old = c.loop-row.rows in
    let new = c.next_row.new.self in
    let row = c.in-Ok-Some.row in
    let given : new.given ≡ old.given ++ row ∷ [] = ap (λ (r : CheckpointReading). r.given) gives.after in
    let log : ObjLogState = record { batch = c.loop-row.log.batch; uploads = c.map_found.new.self } in
    let mapped = subst (λ u. HasMapped c.mapped_row.result u c.map_found.new.self) c.uploads_mut.ensures.is
    c.in_ok-map_found.ensures.mapped in
    record {
      object = ap (λ (r : CheckpointReading). r.object) gives.after ∙ before.object;
      expected = ap (λ (r : CheckpointReading). r.expected) gives.after ∙ before.expected;
      rest = λ end rows is.
          given_more rows old.given old.rest new.rest row gives.first (before.rest end rows is)
          ∙ ap (λ list. list ++ new.rest) (sym given);
      rows =
          subst (λ list. HasRows list c.args.log.now log) (sym given)
          (one_mapped old.given row c.mapped_row.result c.args.log.now c.loop-row.log log gives.spelling.shortest
          c.mapped_row.ensures.lba c.mapped_row.ensures.sectors c.mapped_row.ensures.place mapped refl before.rows);
    }
