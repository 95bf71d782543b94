-- A store keeps its stream while objects past it are removed.
use Rattle.std.proofs.Common.{◌≡◌, ℕ, ◌+◌, ◌-◌, ◌≤◌, inl, inr, Option, Some, None, List, []}
use Rattle.std.proofs.Common.{◌∷◌, length, refl, sym, ◌∙◌, ap, subst, arith}
use Rattle.std.specs.Prelude.{is_some, option_map}
use Rattle.std.proofs.lemmas.Bool.{cases_lt}
use Rattle.std.proofs.lemmas.List.{length-take}
use Rattle.lsvd_base.specs.declared.entry.Entry.{Entry}
use Rattle.lsvd_base.specs.Image.{Image}
use Rattle.extent_map.specs.Extents.{place_at}
use Rattle.lsvd_objstore.specs.Objects.{Objects, found}
use Rattle.object_format.specs.declared.expected.Expected.{Expected}
use Rattle.object_format.specs.declared.rows.Rows.{Rows}
use Rattle.object_format.specs.declared.rows.Rows.TheVariants as rows_of
use Rattle.ckpt_format.specs.declared.place.StoredPlace.{StoredPlace}
use Rattle.ckpt_format.specs.Places.{stored_on}
use Rattle.object_stream.specs.declared.owner.Owner.{Owner}
use Rattle.object_stream.specs.declared.object.Content.{Content}
use Rattle.object_stream.specs.declared.object.Content.TheVariants as content
use Rattle.object_stream.specs.declared.object.StreamObject.{StreamObject}
use Rattle.object_stream.specs.Replay.{object_name}
use Rattle.object_stream.specs.Stored.{HasContent, AreStored}
use Rattle.object_stream.specs.Stream.{Owners, Stream, objects_to}
use Rattle.object_stream.specs.Value.{HasSector, StandsForSector}
use Rattle.stopped_volume.specs.Expected.{expected_alone}
use Rattle.stopped_volume.specs.Objects.{landed_in}
use Rattle.stopped_volume.specs.Opening.{stored_owner, IsCheckpointOf, HoldPlaces, HasOpening}
use Rattle.object_recovery.specs.Removal.{Removes}
use Rattle.object_recovery.specs.Recovery.{HasDataUpTo, IsPastOf}
use Rattle.object_recovery.specs.Laws.{RemovalKeepsStream}
use Rattle.object_recovery.proofs.RowLemmas.{place_stands}

module _ (volume : Expected) (uuid_at : ℕ → Option (List ℕ)) (old new : Objects) (number : ℕ)
    (others : (level : ℕ) → 1 ≤ level → uuid_at level ≡ Some volume.uuid → ⊥)
    (removes : Removes (IsPastOf volume.uuid number) old new) where
  -- up to the number each object is as before
  kept_at : (at : ℕ) → at ≤ number → found new (object_name volume at) ≡ found old (object_name volume at)
  kept_at at to = removes.others (object_name volume at) (λ past. absurd (omega (arith, past.1.1, to)))

  landed_at : (at : ℕ) → at ≤ number → landed_in new volume at ≡ landed_in old volume at
  landed_at at to = ap is_some (kept_at at to)

  abbrev checkpoint_kept : (at end : ℕ) (owned : Owners) → at ≤ number → IsCheckpointOf volume old at end owned
      → IsCheckpointOf volume new at end owned
  checkpoint_kept at end owned to is = record {
    bytes = is.bytes;
    present = kept_at at to ∙ is.present;
    rows = is.rows;
    is_checkpoint = is.is_checkpoint;
    says = is.says;
  }

  -- a checkpoint that is there was there
  checkpoint_was : (at end : ℕ) (owned : Owners) → IsCheckpointOf volume new at end owned → IsCheckpointOf volume old at end owned
  checkpoint_was at end owned is = record {
    bytes = is.bytes;
    present =
        elim (removes.removed (object_name volume at)) [
          | inl same ↦ sym same ∙ is.present
          | inr gone ↦ absurd (let present = is.present in cc)
        ];
    rows = is.rows;
    is_checkpoint = is.is_checkpoint;
    says = is.says;
  }

  -- what its rows name is as before
  abbrev sector_kept : (owner : Owner) (k : ℕ) (sector : List ℕ) → (owner.level ≡ 0 → owner.number ≤ number)
      → HasSector old uuid_at owner k sector → HasSector new uuid_at owner k sector
  sector_kept owner k sector to has = record {
    expected = has.expected;
    wide = has.wide;
    level = has.level;
    number = has.number;
    bytes = has.bytes;
    present =
        removes.others (object_name has.expected owner.number)
        (λ past. elim (cases_lt 0 owner.level) [
          | inl further ↦ others owner.level (omega (arith, further)) (has.level ∙ ap Some past.0)
          | inr own ↦ let low = to (omega (arith, own)) in absurd (omega (arith, past.1.1, low))
        ]) ∙ has.present;
    header = has.header;
    rows = has.rows;
    payload = has.payload;
    parts = has.parts;
    has = has.has;
  }

  stands_kept : (place : Option StoredPlace) (k : ℕ) (sector : List ℕ)
      → ((p : StoredPlace) → place ≡ Some p → p.level ≡ 0 → p.number ≤ number)
      → StandsForSector old uuid_at (option_map stored_owner place) k sector
      → StandsForSector new uuid_at (option_map stored_owner place) k sector
  stands_kept None k sector low stands = stands
  stands_kept (Some p) k sector low stands = sector_kept (stored_owner p) k sector (low p refl) stands

  opening_kept : (stream : Stream) (opening : Image) → stream.number ≤ number → HasOpening volume uuid_at old stream opening
      → HasOpening volume uuid_at new stream opening
  opening_kept stream opening to opens =
      let checkpoint = opens.is.checkpoint in
      let low : (k : ℕ) (place : StoredPlace) → place_at stored_on checkpoint.rows k ≡ Some place → place.level ≡ 0
      → place.number ≤ number =
      λ k place at own.
      let stands = place_stands (expected_alone volume stream.number) checkpoint.rows k place
      checkpoint.is_checkpoint.rows_are.all_stand at in
      omega (arith, stands.number own, to) in
      let hold : HoldPlaces new uuid_at checkpoint.rows =
      λ k place at.
      let was = opens.is.places k place at in
      record {
        numbered = was.numbered;
        sector = was.sector;
        has = sector_kept (stored_owner place) k was.sector (low k place at) was.has;
        inside = was.inside;
        at = was.at;
      } in
      record {
        is = record { checkpoint = checkpoint_kept stream.number stream.end stream.opening to checkpoint; places = hold };
        inherited = opens.inherited;
        value = λ k sector at.
            let says = checkpoint.says k in
            subst (λ o. StandsForSector new uuid_at o k sector) (sym says)
            (stands_kept (place_at stored_on checkpoint.rows k) k sector (low k)
            (subst (λ o. StandsForSector old uuid_at o k sector) says (opens.value k sector at)));
      }

  -- a sector that an object has it had before
  sector_was : (owner : Owner) (k : ℕ) (sector : List ℕ) → HasSector new uuid_at owner k sector
      → HasSector old uuid_at owner k sector
  sector_was owner k sector has = record {
    expected = has.expected;
    wide = has.wide;
    level = has.level;
    number = has.number;
    bytes = has.bytes;
    present =
        elim (removes.removed (object_name has.expected owner.number)) [
          | inl same ↦ sym same ∙ has.present
          | inr gone ↦ absurd (let present = has.present in cc)
        ];
    header = has.header;
    rows = has.rows;
    payload = has.payload;
    parts = has.parts;
    has = has.has;
  }

  -- so a copy still has what its sources have that are there
  content_kept : (before : Owners) (kind : Content) (entries : List Entry) (rows : Rows) (payload : List ℕ)
      → HasContent old uuid_at before kind entries rows payload → HasContent new uuid_at before kind entries rows payload
  content_kept before content.Data entries (rows_of.Data list) payload has = has
  content_kept before content.Data entries (rows_of.Copy list) payload has = absurd has
  content_kept before content.Data entries rows_of.Checkpoint payload has = absurd has
  content_kept before (content.Copy pairs) entries (rows_of.Data list) payload has = absurd has
  content_kept before (content.Copy pairs) entries (rows_of.Copy list) payload has = (
    has.0,
    λ k source sector from still there. has.1 k source sector from still
        (sector_was (record { level = 0; number = source }) k sector there),
  )
  content_kept before (content.Copy pairs) entries rows_of.Checkpoint payload has = absurd has
  content_kept before content.Checkpoint entries (rows_of.Data list) payload has = absurd has
  content_kept before content.Checkpoint entries (rows_of.Copy list) payload has = absurd has
  content_kept before content.Checkpoint entries rows_of.Checkpoint payload has = tt

  stored_kept : (at end : ℕ) (entries : List Entry) (before : Owners) (list : List StreamObject) → at + length list ≤ number
      → AreStored old uuid_at volume at end entries before list → AreStored new uuid_at volume at end entries before list
  stored_kept at end entries before [] to stored = tt
  stored_kept at end entries before (object ∷ more) to stored =
      let is = stored.0 in (
        record {
          bytes = is.bytes;
          header = is.header;
          rows_of = is.rows_of;
          payload = is.payload;
          present = kept_at (at + 1) (omega (arith, to)) ∙ is.present;
          parts = is.parts;
          ends = is.ends;
          content = content_kept before object.content _ is.rows_of is.payload is.content;
        },
        stored_kept (at + 1) object.end _ _ more (omega (arith, to)) stored.1,
      )

  stream_kept : (stream : Stream) (opening : Image) → HasDataUpTo volume uuid_at old stream opening number
      → HasDataUpTo volume uuid_at new stream opening number
  stream_kept stream opening has =
      let stored = has.stored in
      let missing = stored.missing in
      let low : missing.base ≤ number = omega (arith, missing.above) in
      let size : stream.number + length (objects_to stream number) ≤ number =
      omega (arith, length-take (number - stream.number) stream.objects, stored.base, low) in
      record {
        own = has.own;
        valid = has.valid;
        sectors = has.sectors;
        stored = record {
          checkpoint = stored.checkpoint;
          checkpoints = λ at. (
            (λ is.
                let there = (stored.checkpoints at).0 is in
                let newest = missing.newest.newest at is (ap is_some there.2.present) in
                (there.0, there.1, checkpoint_kept at there.0 there.1 (omega (arith, newest, low)) there.2)),
            (λ there. (stored.checkpoints at).1 (there.0, there.1, checkpoint_was at there.0 there.1 there.2)),
          );
          missing = record {
            base = missing.base;
            newest = record {
              is_checkpoint = missing.newest.is_checkpoint;
              has_landed = landed_at missing.base low ∙ missing.newest.has_landed;
              newest = λ other is landed. let there = (stored.checkpoints other).0 is in
                  missing.newest.newest other is (ap is_some there.2.present);
            };
            above = missing.above;
            absent =
                elim (removes.removed (object_name volume (number + 1))) [
                  | inl same ↦ ap is_some same ∙ missing.absent
                  | inr gone ↦ ap is_some gone
                ];
            least = λ at past below. landed_at at (omega (arith, below)) ∙ missing.least at past below;
          };
          base = stored.base;
          opens = opening_kept stream opening (omega (arith, low, stored.base)) stored.opens;
          last = stored.last;
          stored =
              stored_kept stream.number stream.end stream.entries stream.opening (objects_to stream number) size stored.stored;
          past = λ other bytes past there.
              elim (removes.removed (object_name volume other)) [
                | inl same ↦ stored.past other bytes past (sym same ∙ there)
                | inr gone ↦ absurd cc
              ];
        };
        no_checkpoint = has.no_checkpoint;
        inside = has.inside;
      }

pub removal_keeps_stream : RemovalKeepsStream
removal_keeps_stream volume uuid_at old new stream opening number others removes has =
    stream_kept volume uuid_at old new number others removes stream opening has
