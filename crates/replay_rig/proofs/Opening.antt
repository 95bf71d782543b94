-- The rig of a volume that was just created.
use Rattle.std.proofs.Common.{◌≡◌, ℕ, false, List, [], refl, sym, subst, inl, arith}
use Rattle.std.specs.Prelude.{Option, Some, None}
use Rattle.lsvd_base.specs.declared.geometry.Geometry.{Geometry}
use Rattle.lsvd_device.specs.Calls.{Fuse, Budget, fuse_of}
use Rattle.lsvd_objstore.specs.Objects.{Objects, found}
use Rattle.extent_map.specs.Extents.{place_at}
use Rattle.ckpt_format.specs.Places.{stored_on}
use Rattle.object_recovery.specs.Checkpoints.{expected_of}
use Rattle.object_stream.specs.Replay.{object_name}
use Rattle.stopped_volume.specs.Opening.{IsCheckpointOf}
use Rattle.plain_disk.specs.State.{PlainState, created_volume}
use Rattle.plain_disk.proofs.OpeningLemmas.{created_opens}
use Rattle.plain_disk.proofs.MarkedLemmas.{created_seals}
use Rattle.refine_log.specs.Fuses.{fuse_in}
use Rattle.refine_store.specs.Puts.{IsObjectOf}
use Rattle.vol_core.specs.Volume.{SteppedVolume}
use Rattle.vol_core.specs.Shows.{Shows}
use Rattle.vol_core.specs.Step.{passing}
use Rattle.vol_recover.proofs.BlankLemmas.{no_place, inherits_nothing}
use Rattle.replay_rig.specs.Crash.{IsNewVolume}
use Rattle.replay_rig.specs.Rig.{rig_of, script_uuid, expected_of_plain, ShowsPlain}
use Rattle.replay_rig.proofs.Copies.{none_out}

pub fuse_told : (budget : Option Budget) (fuse : Fuse) → fuse_of budget ≡ Some fuse → fuse_in budget ≡ fuse
fuse_told None fuse is = cc
fuse_told (Some budget) fuse is = cc

-- the first object of a new volume is the one at which it opens
opening_object : (geometry : Geometry) (objects : Objects)
    → (first : IsCheckpointOf (expected_of script_uuid geometry 0) objects 1 0 (λ k. None))
    → IsObjectOf (expected_of script_uuid geometry 0) (created_volume geometry) 1 first.bytes
opening_object geometry objects first =
    inl (record {
      first = refl;
      rows = first.rows;
      is_checkpoint = first.is_checkpoint;
      says = first.says;
      places = λ k place at. absurd (no_place (place_at stored_on first.rows k) place (sym (first.says k)) at);
    })

-- no plan of a copy is out
pub new_has_no_plan : (geometry : Geometry) (volume : SteppedVolume) (objects : Objects) → IsNewVolume geometry volume objects
    → volume.volume.plan ≡ None
new_has_no_plan geometry volume objects new =
    none_out volume.volume.objects.uploads.queue volume.volume.plan
    (passing (fuse_in volume.volume.log.commits.disk.budget) (created_volume geometry)) new.created.shows.plan refl

pub new_rig : (geometry : Geometry) (volume : SteppedVolume) (objects : Objects) → IsNewVolume geometry volume objects
    → ShowsPlain (rig_of volume objects [] false 0) (created_volume geometry)
new_rig geometry volume objects new =
    let plain : PlainState = created_volume geometry in
    let none = fuse_told volume.volume.log.commits.disk.budget None new.fuse in
    record {
      shows = subst (λ f. Shows volume.volume (passing f plain)) none new.created.shows;
      pending = new.pending;
      epoch = 0;
      own = new.created.own;
      described = new.described;
      inherits = inherits_nothing script_uuid geometry.sectors objects;
      begun = omega arith;
      uuid_is = new.created.uuid_is;
      opens = created_opens geometry;
      seals = created_seals geometry;
      stopping = refl;
      puts = refl;
      put_objects = tt;
      bytes = tt;
      stored = record {
        there = λ number is.
            let one : 1 ≡ number = omega (arith, is.some, is.acknowledged.was_entered) in
            subst (λ n. (bytes : List ℕ) × (found objects (object_name (expected_of_plain plain) n) ≡ Some bytes)
            × IsObjectOf (expected_of_plain plain) plain n bytes) one
            (new.first.bytes, new.first.present, opening_object geometry objects new.first);
        none_else = λ number not_. new.none_else number
            (λ one. not_ (record {
              some = omega (arith, one);
              acknowledged = record { was_entered = omega (arith, one); not_open = refl };
              kept = refl;
            }));
      };
      unheld = refl;
      holds = new.holds;
      removes = record { none_out = refl; gone = refl };
      young = record {
        entries = omega arith;
        objects = omega arith;
        commits = (let e = new.commits in omega (arith, e));
        steps = (let e = new.created.steps in omega (arith, e));
      };
    }
