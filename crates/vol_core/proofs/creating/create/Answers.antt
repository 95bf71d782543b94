use Rattle.std.proofs.Common.{rules, ◌≡◌, ◌∙◌, false, length, ap, subst, sym}
use Rattle.object_uploads.specs.State.{UploadsState}
use Rattle.vol_core.specs.Creating.{CostsFormat, CreatedOf}
use Rattle.vol_core.proofs.CreateLemmas.{may_format, volume_is_created, created_is_small, created_shows}
use Rattle.vol_core.proofs.creating.create.Goals as goal

-- ---- the device is of the geometry's size

pub format-requires-clause-least : goal.format-requires-clause-least
format-requires-clause-least g c =
    (may_format c.args.objects.batch.geometry (g.D.Disk.state c.args.disk).size c.requires.limits c.requires.log).0

pub format-requires-clause-most : goal.format-requires-clause-most
format-requires-clause-most g c =
    (may_format c.args.objects.batch.geometry (g.D.Disk.state c.args.disk).size c.requires.limits c.requires.log).1

-- ---- the device was not formatted

pub returns-in-Err : goal.returns-in-Err
returns-in-Err g c =
    let disk = g.D.Disk.state c.args.disk in
    let bytes = c.into_bytes.ensures ∙ (c.uuid-uuid.ensures ∙ ap (λ (u : UploadsState). u.uuid) c.uploads.ensures) in
    record {
      made = tt;
      failed = record {
        calls = subst (λ uuid. CostsFormat uuid false disk (g.D.Disk.state c.in-Err.failed.0)) bytes c.in-Err.ensures.err;
        is_disk = c.in-Err.ensures.is_disk;
      };
    }

-- ---- it was

pub new-requires-clause-shows : goal.new-requires-clause-shows
new-requires-clause-shows g c =
    let objects = c.args.objects in (
      _,
      created_shows objects c.in-Ok.log objects.uploads.uuid c.into_bytes.result 0 objects.batch.geometry
          (g.D.Disk.state c.args.disk) c.requires.limits c.requires.log c.in-Ok.ensures.ok c.requires.list,
    )

pub new-requires-clause-small : goal.new-requires-clause-small
new-requires-clause-small g c =
    let objects = c.args.objects in
    created_is_small objects c.in-Ok.log objects.uploads.uuid c.into_bytes.result objects.batch.geometry
    (g.D.Disk.state c.args.disk) c.in-Ok.ensures.ok c.requires.list

pub returns : goal.returns
returns g c =
    let objects = c.args.objects in
    let uuid = objects.uploads.uuid in
    let geometry = objects.batch.geometry in
    let disk = g.D.Disk.state c.args.disk in
    let bytes = c.into_bytes.ensures ∙ (c.uuid-uuid.ensures ∙ ap (λ (u : UploadsState). u.uuid) c.uploads.ensures) in
    let size : length c.into_bytes.result ≡ 16 = search rules in
    record {
      made = subst (CreatedOf uuid geometry disk) (sym c.new.ensures)
          (volume_is_created objects c.in-Ok.log c.into_bytes.result uuid geometry disk bytes size c.requires.limits
          c.requires.log c.in-Ok.ensures.ok c.in-Ok.ensures.calls c.requires.list);
      failed = tt;
    }
