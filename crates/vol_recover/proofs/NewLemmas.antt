-- A volume that was created stands in its store, with no entries.
use Rattle.std.proofs.Common.{◌≡◌, ℕ, zero, suc, ◌<◌, ◌≤◌, true, false, ◌&&◌, is_some, List, [], refl, sym, ◌∙◌, ap, subst, inl}
use Rattle.std.proofs.Common.{inr, arith}
use Rattle.std.specs.Prelude.{◌≢◌, Option, Some, None, IsSome, IfSome, IsTrue}
use Rattle.std.proofs.lemmas.Bool.{cases_lt}
use Rattle.std.proofs.lemmas.List.Elements.{All-nil}
use Rattle.lsvd_base.specs.declared.geometry.Geometry.{Geometry}
use Rattle.lsvd_base.specs.Limits.{is_within_limits}
use Rattle.lsvd_names.specs.declared.name.ObjName.{ObjName}
use Rattle.lsvd_names.specs.Names.{super_name, epoch_name, numbered_name, hold_name}
use Rattle.lsvd_objstore.specs.Objects.{Objects, found}
use Rattle.lsvd_objstore.specs.Store.{Becomes}
use Rattle.object_format.specs.declared.expected.Expected.{Expected}
use Rattle.object_stream.specs.Landed.{Numbers}
use Rattle.object_stream.specs.Replay.{object_name}
use Rattle.object_uploads.specs.State.{UploadsState}
use Rattle.stopped_volume.specs.Holds.{IsHeld}
use Rattle.stopped_volume.specs.Objects.{landed_in}
use Rattle.stopped_volume.specs.Opening.{IsCheckpointOf}
use Rattle.stopped_volume.specs.Super.{HasVolume}
use Rattle.plain_disk.specs.Found.{found_in}
use Rattle.plain_disk.specs.State.{PlainState, created_volume, stream_in, payload_of}
use Rattle.plain_disk.specs.Valid.{IsPlainVolume, MayLand}
use Rattle.plain_disk.proofs.EventLemmas.{created_is}
use Rattle.plain_disk.proofs.OpeningLemmas.{created_opens}
use Rattle.plain_disk.proofs.MarkedLemmas.{created_seals}
use Rattle.object_recovery.specs.Checkpoints.{expected_of}
use Rattle.refine_mount.specs.Found.{HasHolds, HasObjects}
use Rattle.refine_store.specs.Puts.{IsObjectOf}
use Rattle.refine_store.specs.Stored.{StoreStands, HasVolumeUpTo}
use Rattle.refine_store.proofs.StandLemmas.{mounted_stands}
use Rattle.refine_store.proofs.VolumeLemmas.{volume_has_objects}
use Rattle.super_recovery.specs.Found.{HasEpoch}
use Rattle.super_recovery.specs.Put.{PutsSuper, PutsEpoch}
use Rattle.super_recovery.proofs.LawLemmas.{volume_is_created}
use Rattle.vol_recover.specs.Creating.{PutsFirst, PutsNoSuper, PutsSome, PutsVolume, IsNewTo, HasNewVolume, HasNoneOrNew}
use Rattle.vol_recover.specs.Creating.{super_of}
use Rattle.vol_recover.proofs.BlankLemmas.{no_place, opens_blank, inherits_nothing}
use Rattle.extent_map.specs.Extents.{place_at}
use Rattle.ckpt_format.specs.Places.{stored_on}
use Rattle.stopped_volume.specs.Ancestors.{uuid_in_chain}

-- ---- names

first_is_no_super : (uuid : List ℕ) → super_name uuid ≡ numbered_name uuid 1 → ⊥
first_is_no_super uuid same = let kind = ap (λ (n : ObjName). n.kind) same in cc

epoch_is_no_super : (uuid : List ℕ) (number : ℕ) → super_name uuid ≡ epoch_name uuid number → ⊥
epoch_is_no_super uuid number same = let kind = ap (λ (n : ObjName). n.kind) same in cc

super_is_no_epoch : (uuid : List ℕ) (number : ℕ) → epoch_name uuid number ≡ super_name uuid → ⊥
super_is_no_epoch uuid number same = let kind = ap (λ (n : ObjName). n.kind) same in cc

first_is_no_epoch : (uuid : List ℕ) (number : ℕ) → epoch_name uuid number ≡ numbered_name uuid 1 → ⊥
first_is_no_epoch uuid number same = let kind = ap (λ (n : ObjName). n.kind) same in cc

other_epoch : (uuid : List ℕ) (number : ℕ) → 0 < number → epoch_name uuid number ≡ epoch_name uuid 0 → ⊥
other_epoch uuid number past same = let number_is : number ≡ 0 = ap (λ (n : ObjName). n.number) same in
    omega (arith, number_is, past)

hold_is_no_first : (uuid : List ℕ) (number : ℕ) → hold_name uuid number ≡ numbered_name uuid 1 → ⊥
hold_is_no_first uuid number same = let kind = ap (λ (n : ObjName). n.kind) same in cc

pub hold_is_no_epoch : (uuid : List ℕ) (number epoch : ℕ) → hold_name uuid number ≡ epoch_name uuid epoch → ⊥
hold_is_no_epoch uuid number epoch same = let kind = ap (λ (n : ObjName). n.kind) same in cc

hold_is_no_super : (uuid : List ℕ) (number : ℕ) → hold_name uuid number ≡ super_name uuid → ⊥
hold_is_no_super uuid number same = let kind = ap (λ (n : ObjName). n.kind) same in cc

pub epoch_is_no_object : (uuid : List ℕ) (number epoch : ℕ) → numbered_name uuid number ≡ epoch_name uuid epoch → ⊥
epoch_is_no_object uuid number epoch same = let kind = ap (λ (n : ObjName). n.kind) same in cc

super_is_no_object : (uuid : List ℕ) (number : ℕ) → numbered_name uuid number ≡ super_name uuid → ⊥
super_is_no_object uuid number same = let kind = ap (λ (n : ObjName). n.kind) same in cc

other_object : (uuid : List ℕ) (number : ℕ) → (number ≡ 1 → ⊥) → numbered_name uuid number ≡ numbered_name uuid 1 → ⊥
other_object uuid number apart same = apart (ap (λ (n : ObjName). n.number) same)

-- ---- what a new store lacks

not_some : (held : Option (List ℕ)) → (held ≢ None → ⊥) → held ≡ None
not_some None never = refl
not_some (Some bytes) never = absurd (never (λ (same : Some bytes ≡ None). cc))

lacks : (uuid : List ℕ) (objects : Objects) (name : ObjName) → IsNewTo uuid objects → name.uuid ≡ uuid
    → (name ≡ numbered_name uuid 1 → ⊥)
    → (name ≡ epoch_name uuid 0 → ⊥) → found objects name ≡ None
lacks uuid objects name new of_uuid no_first no_epoch =
    not_some (found objects name) (λ there. elim (new name of_uuid there) [
      | inl first ↦ no_first first
      | inr epoch ↦ no_epoch epoch
    ])

-- ---- the puts

module _ (uuid : List ℕ) (geometry : Geometry) (old : Objects) (new_to : IsNewTo uuid old) where
  lacks_super : found old (super_name uuid) ≡ None
  lacks_super = lacks uuid old (super_name uuid) new_to refl (first_is_no_super uuid) (epoch_is_no_super uuid 0)

  lacks_after_first : (first : Objects) → PutsFirst uuid geometry old first → found first (super_name uuid) ≡ None
  lacks_after_first first puts = puts.1.others (super_name uuid) (first_is_no_super uuid) ∙ lacks_super

  no_super : (new : Objects) → PutsNoSuper uuid geometry old new → found new (super_name uuid) ≡ None
  no_super new (inl same) = ap (λ (objects : Objects). found objects (super_name uuid)) same ∙ lacks_super
  no_super new (inr (inl first)) = lacks_after_first new first
  no_super new (inr (inr (first, puts, epoch))) =
      epoch.others (super_name uuid) (epoch_is_no_super uuid 0) ∙ lacks_after_first first puts

  -- ---- the whole volume

  module _ (limits : IsTrue (is_within_limits geometry)) (first epoch new : Objects)
      (puts_first : PutsFirst uuid geometry old first) (puts_epoch : PutsEpoch uuid 0 first epoch)
      (puts_super : PutsSuper (super_of uuid geometry) epoch new) where
    abbrev volume : Expected
    volume = expected_of uuid geometry 0

    abbrev created : PlainState
    created = created_volume geometry

    abbrev landed : Numbers
    landed = landed_in new (expected_of uuid geometry 0)

    same_as_first : (name : ObjName) → (name ≡ epoch_name uuid 0 → ⊥) → (name ≡ super_name uuid → ⊥)
        → found new name ≡ found first name
    same_as_first name no_epoch no_super = puts_super.others name no_super ∙ puts_epoch.others name no_epoch

    still_lacks : (name : ObjName) → name.uuid ≡ uuid → (name ≡ numbered_name uuid 1 → ⊥) → (name ≡ epoch_name uuid 0 → ⊥)
        → (name ≡ super_name uuid → ⊥) → found new name ≡ None
    still_lacks name of_uuid no_first no_epoch no_super =
        same_as_first name no_epoch no_super ∙ puts_first.1.others name no_first
        ∙ lacks uuid old name new_to of_uuid no_first no_epoch

    has_epoch : HasEpoch uuid 0 new
    has_epoch = record {
      bytes = puts_epoch.has.bytes;
      present = puts_super.others (epoch_name uuid 0) (super_is_no_epoch uuid 0) ∙ puts_epoch.has.present;
      epoch = puts_epoch.has.epoch;
      is_epoch = puts_epoch.has.is_epoch;
    }

    lacks_hold : (number : ℕ) → found new (hold_name uuid number) ≡ None
    lacks_hold number =
        still_lacks (hold_name uuid number) refl (hold_is_no_first uuid number) (hold_is_no_epoch uuid number 0)
        (hold_is_no_super uuid number)

    none_held : (number : ℕ) → IsHeld volume new number → ⊥
    none_held number is = let absent = subst IsSome (lacks_hold number) is.present in cc

    has_no_holds : HasHolds volume [] new
    has_no_holds = record {
      checkpoints = λ number is. absurd (none_held number is);
      same = λ number. (λ (is : false ≡ true). absurd cc, λ kept. absurd (none_held kept.0 kept.1));
    }

    has_volume : HasVolume uuid geometry [] 0 new
    has_volume =
        volume_is_created (super_of uuid geometry) geometry new refl puts_super.says has_epoch
        (λ number past.
        still_lacks (epoch_name uuid number) refl (first_is_no_epoch uuid number) (other_epoch uuid number past)
        (super_is_no_epoch uuid number))
        lacks_hold

    lacks_object : (number : ℕ) → (number ≡ 1 → ⊥) → found new (numbered_name uuid number) ≡ None
    lacks_object number apart =
        still_lacks (numbered_name uuid number) refl (other_object uuid number apart) (epoch_is_no_object uuid number 0)
        (super_is_no_object uuid number)

    lacks_later : (number : ℕ) → 1 < number → found new (numbered_name uuid number) ≡ None
    lacks_later number past = lacks_object number (λ same. omega (arith, past, same))

    -- no other object has landed
    landed_is_first : (number : ℕ) → IsTrue (landed number) → number ≡ 1
    landed_is_first number there = elim (cases_lt number 1) [
      | inl low ↦
          let none = ap is_some (lacks_object number (λ same. omega (arith, low, same))) in
          absurd (let both : true ≡ false = sym there ∙ none in cc)
      | inr from ↦ elim (cases_lt 1 number) [
        | inl past ↦
            let none = ap is_some (lacks_later number past) in absurd (let both : true ≡ false = sym there ∙ none in cc)
        | inr to ↦ omega (arith, from, to)
      ]
    ]

    -- ---- its first object

    has_first : IsCheckpointOf volume new 1 0 (stream_in created).opening
    has_first =
        let is = puts_first.2 in
        record {
          bytes = is.bytes;
          present = same_as_first (numbered_name uuid 1) (epoch_is_no_object uuid 1 0) (super_is_no_object uuid 1) ∙ is.present;
          rows = is.rows;
          is_checkpoint = is.is_checkpoint;
          says = is.says;
        }

    is_first : IsObjectOf volume created 1 has_first.bytes
    is_first = inl (record {
      first = refl;
      rows = has_first.rows;
      is_checkpoint = has_first.is_checkpoint;
      says = has_first.says;
      places = λ k place at. absurd (no_place (place_at stored_on has_first.rows k) place (sym (has_first.says k)) at);
    })

    there_is_first : (number : ℕ) → 0 < number → number ≤ 1
        → (bytes : List ℕ) × (found new (object_name volume number) ≡ Some bytes) × IsObjectOf volume created number bytes
    there_is_first number some most =
        subst (λ n. (bytes : List ℕ) × (found new (object_name volume n) ≡ Some bytes) × IsObjectOf volume created n bytes)
        (omega (arith, some, most)) (has_first.bytes, has_first.present, is_first)

    first_landed : IsTrue (landed 1)
    first_landed = ap is_some has_first.present

    may_land : MayLand created landed
    may_land = record {
      surely = λ number some is given.
          (let most = is.was_entered in
          subst (λ n. IsTrue (landed n)) (omega (arith, some, most)) first_landed);
      removed = λ number (is : false ≡ true). absurd (cc);
      perhaps = λ number past there. (let same = landed_is_first number there in absurd (omega (arith, past, same)));
      begun = All-nil (λ object. IsTrue (object.is_checkpoint && landed object.number) → IsTrue object.was_started);
    }

    -- ---- the whole

    has_up_to : HasVolumeUpTo uuid 0 created landed new
    has_up_to = record {
      described = has_volume;
      opens = created_opens geometry;
      inherits = inherits_nothing uuid geometry.sectors new;
      seals = created_seals geometry;
      holds = has_no_holds;
      may = may_land;
      there = λ number some most there. there_is_first number some most;
      absent = λ number some most none.
          (let same : 1 ≡ number = omega (arith, some, most) in
          let there = subst (λ n. IsTrue (landed n)) same first_landed in
          absurd (let both : true ≡ false = sym there ∙ none in cc));
      none_first = lacks_object 0 (λ same. omega (arith, same));
      missing = lacks_later 2 (omega arith);
      past = λ number bytes past there.
          absurd (let both : None ≡ Some bytes = sym (lacks_later number past) ∙ there in cc);
      no_checkpoint = λ number end owned past is.
          (let both : None ≡ Some is.bytes = sym (lacks_later number past) ∙ is.present in cc);
    }

    valid : IsPlainVolume created
    valid = created_is geometry limits

    stands : (uploads : UploadsState) → StoreStands uuid 0 created uploads new
    stands uploads =
        (mounted_stands uuid 0 created landed created.cache.log.last geometry.log uploads new valid has_up_to
        (λ number past. lacks_later number past)).1

    same_payload : (other : ℕ) → other ≤ 1 → payload_of (found_in landed created) other ≡ payload_of created other
    same_payload zero low = refl
    same_payload (suc zero) low = refl
    same_payload (suc (suc other)) low = absurd (omega (arith, low))

    -- a mount finds it as it is, but for how it opens
    has_objects : HasObjects uuid created 1 new
    has_objects =
        let there = volume_has_objects uuid 0 created landed new valid has_up_to in
        let data_of = there.stored in
        let stream = data_of.stored in
        record {
          opened = refl;
          window = refl;
          pins = refl;
          none_out = refl;
          no_plan = refl;
          gone = refl;
          present = there.present;
          payloads = λ other payload low has. there.payloads other payload low has ∙ same_payload other low;
          holds = there.holds;
          stored = record {
            own = refl;
            valid = valid.stream;
            sectors = valid.sectors;
            stored = record {
              checkpoint = stream.checkpoint;
              checkpoints = stream.checkpoints;
              missing = stream.missing;
              base = stream.base;
              opens = opens_blank volume (uuid_in_chain uuid []) new (stream_in created) geometry.sectors has_first (λ k. refl);
              last = omega arith;
              stored = tt;
              past = stream.past;
            };
            no_checkpoint = data_of.no_checkpoint;
            inside = data_of.inside;
          };
        }

    has_new_volume : HasNewVolume uuid geometry new
    has_new_volume = (has_volume, has_objects, stands)

-- ---- what a creation leaves

new_stands : (uuid : List ℕ) (geometry : Geometry) (old new : Objects) → IsTrue (is_within_limits geometry)
    → PutsVolume uuid geometry old new → IsNewTo uuid old → HasNewVolume uuid geometry new
new_stands uuid geometry old new limits (middle, (first, puts_first, puts_epoch), puts_super) new_to =
    has_new_volume uuid geometry old new_to limits first middle new puts_first puts_epoch puts_super

none_or_new : (uuid : List ℕ) (geometry : Geometry) (old new : Objects) → IsTrue (is_within_limits geometry)
    → PutsSome uuid geometry old new → IsNewTo uuid old → HasNoneOrNew uuid geometry new
none_or_new uuid geometry old new limits (inl none) new_to = inl (no_super uuid geometry old new_to new none)
none_or_new uuid geometry old new limits (inr volume) new_to =
    inr (new_stands uuid geometry old new limits volume new_to)

-- what a store becomes says so of it
becomes_told : (C : Objects → Objects → Type 0) (P Q : Objects → Type 0) (old new : Option Objects)
    → ((a b : Objects) → C a b → P a → Q b)
    → Becomes C old new → IfSome old (λ a. P a → IfSome new Q)
becomes_told C P Q None new so becomes = tt
becomes_told C P Q (Some a) new so becomes =
    λ before. subst (λ told. IfSome told Q) (sym becomes.1) (so a becomes.0 becomes.2 before)

pub stands_new : (uuid : List ℕ) (geometry : Geometry) (old new : Option Objects) → IsTrue (is_within_limits geometry)
    → Becomes (PutsVolume uuid geometry) old new
    → IfSome old (λ a. IsNewTo uuid a → IfSome new (HasNewVolume uuid geometry))
stands_new uuid geometry old new limits puts =
    becomes_told (PutsVolume uuid geometry) (IsNewTo uuid) (HasNewVolume uuid geometry) old new
    (λ a b. new_stands uuid geometry a b limits) puts

pub stands_none_or_new : (uuid : List ℕ) (geometry : Geometry) (old new : Option Objects) → IsTrue (is_within_limits geometry)
    → Becomes (PutsSome uuid geometry) old new
    → IfSome old (λ a. IsNewTo uuid a → IfSome new (HasNoneOrNew uuid geometry))
stands_none_or_new uuid geometry old new limits puts =
    becomes_told (PutsSome uuid geometry) (IsNewTo uuid) (HasNoneOrNew uuid geometry) old new
    (λ a b. none_or_new uuid geometry a b limits) puts
