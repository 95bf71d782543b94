use Rattle.std.proofs.Common.{◌≡◌, ◌∙◌, None, length, ap, subst, rules}
use Rattle.object_format.specs.declared.rows.Rows.TheVariants.{Checkpoint}
use Rattle.object_format.specs.Writing.{object_header_of, front_bytes}
use Rattle.object_format.proofs.LawLemmas.{writes_objects}
use Rattle.vol_recover.specs.Creating.{IsFirstObject}
use Rattle.vol_recover.proofs.CreateLemmas.{first_object_is}
use Rattle.vol_recover.proofs.Results.{ok_if}
use Rattle.vol_recover.proofs.creating.first_object.Goals as goal

pub returns : goal.returns
returns c =
    let size : length c.into_bytes.result ≡ 16 = search rules in
    let uuid : length c.args.uuid ≡ 16 = subst (λ b. length b ≡ 16) c.into_bytes.ensures size in
    let front = ap (λ uuid. front_bytes (object_header_of (record {
      uuid = uuid;
      number = 1;
      sectors = c.args.geometry.now.sectors;
      ancestors = 0;
      end_before = None;
    }) 0 0 Checkpoint) Checkpoint) c.into_bytes.ensures in
    ok_if (IsFirstObject c.args.uuid c.args.geometry.now) c.finish.result c.in_ok-new.field-0.bytes c.finish.ensures
    (first_object_is c.args.uuid c.args.geometry.now c.in_ok-new.field-0.bytes writes_objects uuid
    (c.in_ok-new.ensures.bytes ∙ front))
