-- What a check reports and refuses, where the store tells its objects.
use Rattle.std.proofs.Common.{◌≡◌, ℕ, ◌<◌, ◌≤◌, inl, inr, Option, Some, None, List, sym, subst}
use Rattle.std.specs.Prelude.{◌⊎◌, ◌↔◌, IfSome}
use Rattle.std.specs.BTreeSet.{BTreeSet}
use Rattle.std.specs.List.{Contains}
use Rattle.clone_chain.specs.declared.ancestor.Ancestor.{Ancestor}
use Rattle.lsvd_base.specs.declared.geometry.Geometry.{Geometry}
use Rattle.lsvd_names.specs.Spelling.{IsUuid}
use Rattle.lsvd_names.specs.declared.name.ObjName.{ObjName}
use Rattle.lsvd_objstore.specs.Objects.{Objects, found, Lists}
use Rattle.lsvd_objstore.specs.Store.{StoreState}
use Rattle.extent_map.specs.declared.extent.Extent.{Extent}
use Rattle.object_format.specs.declared.expected.Expected.{Expected}
use Rattle.ckpt_format.specs.declared.place.StoredPlace.{StoredPlace}
use Rattle.ckpt_format.specs.Checkpoint.{IsCheckpoint}
use Rattle.object_stream.specs.Replay.{object_name}
use Rattle.stopped_volume.specs.Ancestors.{uuid_in_chain}
use Rattle.stopped_volume.specs.Expected.{expected_alone}
use Rattle.stopped_volume.specs.Opening.{owned_by}
use Rattle.super_recovery.specs.Holds.{AreHoldsAmong}
use Rattle.super_recovery.proofs.Results.{told_so, told_both, told_three}
use Rattle.object_recovery.specs.declared.error.RecoverError.{RecoverError}
use Rattle.object_recovery.specs.declared.error.RecoverError.TheVariants as errors
use Rattle.object_recovery.specs.declared.judging.Reached.{Reached}
use Rattle.object_recovery.specs.Checkpoints.{expected_of, IsNoCheckpoint, IsNewest, IsNewestWithEnd, ReadCheckpoint}
use Rattle.object_recovery.specs.Checkpoints.{IsReadCheckpoint, IsStoredCheckpoint}
use Rattle.object_recovery.specs.Faults.{IsNoAnswer}
use Rattle.object_recovery.proofs.HoldingLemmas.{is_stored}
use Rattle.vol_check.specs.declared.report.CheckReport.{CheckReport}
use Rattle.vol_check.specs.declared.report.ObjectOfLevel.{ObjectOfLevel}
use Rattle.vol_check.specs.Report.{HasCheckpointHeader, IsReportOf, IsWhyNotChecked, own_object}
use Rattle.vol_check.specs.Steps.{Has, IsAway, IsFilterOf, IsNoneOf, IsPartOf, JudgesTo, NamesAll, RefusesNamed, RefusesPast}
use Rattle.vol_check.specs.Steps.{object_numbers}
use Rattle.vol_check.proofs.RefusalLemmas.{no_answer_why, refused_past, refused_held}
use Rattle.vol_check.proofs.ReportLemmas.{is_report}

-- an error that is no answer refuses nothing
pub told_none : (uuid : List ℕ) (names : List ObjName) (volume : Expected) (told : Option Objects) (error : RecoverError)
    → IsNoAnswer error → IfSome told (λ objects. Lists uuid objects names → IsWhyNotChecked volume objects error)
told_none uuid names volume None error none = tt
told_none uuid names volume (Some objects) error none = λ listed. no_answer_why volume objects error none

-- ---- what was read before

-- what is so of a store, a volume and a checkpoint is so of the same, said otherwise
pub moved : (P : StoreState → Expected → ReadCheckpoint → Type 0) (new old : StoreState) (given volume : Expected)
    (raw base : ReadCheckpoint) → new ≡ old → given ≡ volume → raw ≡ base → P new given raw → P old volume base
moved P new old given volume raw base same of is so =
    subst (P old volume) is (subst (λ (v : Expected). P old v raw) of (subst (λ (s : StoreState). P s given raw) same so))

pub moved_rows : (given volume : Expected) (raw base : ReadCheckpoint) (bytes : List ℕ) → given ≡ volume → raw ≡ base
    → bytes ≡ raw.bytes → IsReadCheckpoint volume base
    → (end : ℕ) × (rows : List (Extent StoredPlace)) × IsCheckpoint bytes (expected_alone given raw.number) end rows
moved_rows given volume raw base bytes of is value read =
    let Rows : Expected → ReadCheckpoint → List ℕ → Type 0 = λ v b list.
    IsCheckpoint list (expected_alone v b.number) base.end read.rows in (
      base.end,
      read.rows,
      subst (Rows given raw) (sym value)
          (subst (λ (v : Expected). Rows v raw raw.bytes) (sym of)
          (subst (λ (b : ReadCheckpoint). Rows volume b b.bytes) (sym is) read.is)),
    )

pub moved_names : (new old : StoreState) (given volume : Expected) (raw base : ReadCheckpoint) (bytes slice holds : List ℕ)
    (named : BTreeSet ObjectOfLevel) → new ≡ old → given ≡ volume → raw ≡ base → bytes ≡ raw.bytes → slice ≡ holds
    → IfSome new.objects (λ objects. NamesAll given objects raw.number bytes slice named)
    → IfSome old.objects (λ objects. NamesAll volume objects base.number base.bytes holds named)
moved_names new old given volume raw base bytes slice holds named same of is value all so =
    moved (λ s v b. IfSome s.objects (λ objects. NamesAll v objects b.number b.bytes holds named)) new old given volume raw base
    same of is
    (subst (λ (list : List ℕ). IfSome new.objects (λ objects. NamesAll given objects raw.number list holds named)) value
    (subst (λ (list : List ℕ). IfSome new.objects (λ objects. NamesAll given objects raw.number bytes list named)) all so))

-- ---- where a check begins

-- this is the newest checkpoint of a store, with its end and its bytes
pub record IsBegun (volume : Expected) (objects : Objects) (base : ReadCheckpoint) : Type 0 where
  pub newest : IsNewestWithEnd volume objects base.number base.end
  pub present : found objects (object_name volume base.number) ≡ Some base.bytes

module _ (told : Option Objects) (uuid : List ℕ) (is_uuid : IsUuid uuid) (geometry : Geometry) (ancestors : ℕ)
    (names : List ObjName) where
  abbrev volume : Expected
  volume = expected_of uuid geometry ancestors

  pub told_begun : (base : ReadCheckpoint) → IsReadCheckpoint volume base
      → IfSome told (λ objects. (own : List ℕ) → IsUuid own → Lists own objects names
      → IsStoredCheckpoint (expected_of own geometry ancestors) objects base
      × IsNewest (expected_of own geometry ancestors) objects base.number)
      → IfSome told (λ objects. Lists uuid objects names → IsBegun volume objects base)
  told_begun base read =
      told_so (λ objects. (own : List ℕ) → IsUuid own → Lists own objects names
      → IsStoredCheckpoint (expected_of own geometry ancestors) objects base
      × IsNewest (expected_of own geometry ancestors) objects base.number)
      (λ objects. Lists uuid objects names → IsBegun volume objects base) told
      (λ objects so listed. let is = so uuid is_uuid listed in record {
        newest = record {
          owned = owned_by read.rows;
          is = is_stored volume objects base.number base.end base.bytes read.rows is.0.present read.is;
          newest = is.1;
        };
        present = is.0.present;
      })

  -- or there is none
  pub told_no_checkpoint : IfSome told (λ objects. (own : List ℕ) (number : ℕ) → IsUuid own → Lists own objects names
      → IsNoCheckpoint (expected_of own geometry ancestors) objects number)
      → IfSome told (λ objects. Lists uuid objects names → IsWhyNotChecked volume objects errors.NoCheckpoint)
  told_no_checkpoint =
      told_so (λ objects. (own : List ℕ) (number : ℕ) → IsUuid own → Lists own objects names
      → IsNoCheckpoint (expected_of own geometry ancestors) objects number)
      (λ objects. Lists uuid objects names → IsWhyNotChecked volume objects errors.NoCheckpoint) told
      (λ objects none listed number. none uuid number is_uuid listed)

  pub told_unbegun : (error : RecoverError) → (error ≡ errors.NoCheckpoint) ⊎ IsNoAnswer error
      → (error ≡ errors.NoCheckpoint
      → IfSome told (λ objects. (own : List ℕ) (number : ℕ) → IsUuid own → Lists own objects names
      → IsNoCheckpoint (expected_of own geometry ancestors) objects number))
      → IfSome told (λ objects. Lists uuid objects names → IsWhyNotChecked volume objects error)
  told_unbegun error (inl is) none =
      subst (λ e. IfSome told (λ objects. Lists uuid objects names → IsWhyNotChecked volume objects e)) (sym is)
      (told_no_checkpoint (none is))
  told_unbegun error (inr fails) none = told_none uuid names volume told error fails

  module _ (base : ReadCheckpoint)
      (begun : IfSome told (λ objects. Lists uuid objects names → IsBegun volume objects base)) where
    abbrev from : Reached
    from = record { number = base.number; end = Some base.end; refused = None }

    -- ---- refusals

    pub told_past : (error : RecoverError) → IfSome told (λ objects. RefusesPast volume objects names from error)
        → IfSome told (λ objects. Lists uuid objects names → IsWhyNotChecked volume objects error)
    told_past error =
        told_both (λ objects. Lists uuid objects names → IsBegun volume objects base)
        (λ objects. RefusesPast volume objects names from error)
        (λ objects. Lists uuid objects names → IsWhyNotChecked volume objects error) told
        (λ objects is refused listed.
        refused_past volume objects names listed base.number base.end (is listed).newest error refused)
        begun

    pub told_held : (holds : List ℕ) → AreHoldsAmong uuid names holds → (last : ℕ) (error : RecoverError)
        → IfSome told (λ objects. JudgesTo volume objects names from last)
        → IfSome told (λ objects. RefusesNamed volume objects holds error)
        → IfSome told (λ objects. Lists uuid objects names → IsWhyNotChecked volume objects error)
    told_held holds among last error =
        told_three (λ objects. Lists uuid objects names → IsBegun volume objects base)
        (λ objects. JudgesTo volume objects names from last) (λ objects. RefusesNamed volume objects holds error)
        (λ objects. Lists uuid objects names → IsWhyNotChecked volume objects error) told
        (λ objects is judged refused listed.
        refused_held volume objects names listed base.number base.end (is listed).newest is_uuid holds among last judged
        error refused)
        begun

-- ---- the report

pub told_report : (told : Option Objects) (uuid : List ℕ) (is_uuid : IsUuid uuid) (geometry : Geometry) (ancestors : ℕ)
    (names : List ObjName) (base : ReadCheckpoint) (report : CheckReport) (named : BTreeSet ObjectOfLevel) (numbers : List ℕ)
    → IfSome told (λ objects. Lists uuid objects names → IsBegun (expected_of uuid geometry ancestors) objects base)
    → report.uuid ≡ uuid
    → AreHoldsAmong uuid names report.holds.items
    → ((n : ℕ) → Contains numbers n ↔ Contains (object_numbers names) n)
    → IfSome told (λ objects. JudgesTo (expected_of uuid geometry ancestors) objects names
    (record { number = base.number; end = Some base.end; refused = None }) report.last)
    → IfSome told (λ objects. NamesAll (expected_of uuid geometry ancestors) objects base.number base.bytes report.holds.items
    named)
    → IfSome told (λ objects. IsFilterOf numbers
    (λ n. (n ≤ report.last) × HasCheckpointHeader (expected_of uuid geometry ancestors) objects n) report.checkpoints.items)
    → IsFilterOf numbers (λ n. report.last < n) report.stranded.items
    → IsFilterOf numbers (λ n. (n < base.number) × (Has named (own_object n) → ⊥)) report.unneeded.items
    → (chain : List Ancestor)
    → IfSome told (λ objects. IsPartOf (Has named) (IsAway (IsNoneOf numbers) objects chain) report.missing.items)
    → IfSome told (λ objects. Lists uuid objects names
    → IsReportOf (expected_of uuid geometry ancestors) (uuid_in_chain uuid chain) objects report)
told_report None uuid is_uuid geometry ancestors names base report named numbers begun own among same judged all checkpoints
    stranded unneeded chain missing = tt
told_report (Some objects) uuid is_uuid geometry ancestors names base report named numbers begun own among same judged all
    checkpoints stranded unneeded chain missing = λ listed.
    let is = begun listed in
    is_report (expected_of uuid geometry ancestors) objects names is_uuid listed report base.number base.end is.newest base.bytes
    is.present among judged named all numbers same own checkpoints stranded unneeded chain missing
