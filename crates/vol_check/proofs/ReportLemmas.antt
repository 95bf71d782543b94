-- What the lists of a report are, by the numbers of the names and those that are named.
use Rattle.std.proofs.Common.{◌≡◌, ℕ, ◌^◌, ◌<◌, ◌≤◌, inl, inr, Some, None, List, refl, ◌∙◌, ap, subst, arith}
use Rattle.std.specs.Prelude.{◌⊎◌, ◌↔◌}
use Rattle.std.specs.BTreeSet.{BTreeSet}
use Rattle.std.specs.List.{Contains}
use Rattle.std.proofs.lemmas.Bool.{cases_order}
use Rattle.std.proofs.lemmas.Bool.Decides.{nat_tests}
use Rattle.std.proofs.lemmas.List.Elements.{All-contains}
use Rattle.clone_chain.specs.declared.ancestor.Ancestor.{Ancestor}
use Rattle.lsvd_names.specs.Names.{hold_name}
use Rattle.lsvd_names.specs.Spelling.{IsUuid}
use Rattle.lsvd_names.specs.declared.name.ObjName.{ObjName}
use Rattle.lsvd_objstore.specs.Objects.{Objects, found, Lists}
use Rattle.object_format.specs.declared.expected.Expected.{Expected}
use Rattle.object_stream.specs.Replay.{object_name}
use Rattle.object_stream.specs.Stream.{Owners, is_own}
use Rattle.stopped_volume.specs.Ancestors.{uuid_in_chain}
use Rattle.stopped_volume.specs.Holds.{IsHeld, IsKept, IsKeptBy, IsMappedBy}
use Rattle.stopped_volume.specs.Needed.{IsNeeded}
use Rattle.stopped_volume.specs.Opening.{owned_by}
use Rattle.super_recovery.specs.Holds.{AreHoldsAmong}
use Rattle.object_recovery.specs.Checkpoints.{IsNewestWithEnd}
use Rattle.object_recovery.specs.Judging.{AreGood, IsRun}
use Rattle.object_recovery.proofs.OutcomeLemmas.{at_base}
use Rattle.object_recovery.proofs.HoldingLemmas.{is_stored}
use Rattle.vol_check.specs.declared.report.CheckReport.{CheckReport}
use Rattle.vol_check.specs.declared.report.ObjectOfLevel.{ObjectOfLevel}
use Rattle.vol_check.specs.Report.{AreJust, IsThere, HasCheckpointHeader, IsReportOf, own_object}
use Rattle.vol_check.specs.Steps.{Has, IsAway, IsFilterOf, IsNoneOf, IsPartOf, IsWholeIfThere, JudgesTo, KeepsObject, MapsObject}
use Rattle.vol_check.specs.Steps.{NamesAll, object_numbers}
use Rattle.vol_check.proofs.NumberLemmas.{are_there}
use Rattle.vol_check.proofs.MissingLemmas.{are_missing}
use Rattle.vol_check.proofs.SourceLemmas.{owner_is}

-- ---- how far the objects go

-- where all objects past the newest checkpoint were judged and none is bad, the run goes to the last
pub run_to : (volume : Expected) (objects : Objects) (names : List ObjName) (base base_end last : ℕ)
    → IsNewestWithEnd volume objects base base_end → Lists volume.uuid objects names
    → JudgesTo volume objects names (record { number = base; end = Some base_end; refused = None }) last
    → IsRun volume objects base last × AreGood volume objects last (λ number. base < number)
run_to volume objects names base base_end last newest listed (gap, goes, past, is) =
    let there = goes.reached base (at_base volume objects base base_end newest) in
    let run : IsRun volume objects base gap.number = record {
      end = base_end;
      newest = newest;
      from = there.from;
      landed = there.landed;
      missing = goes.missing;
    } in (
      subst (IsRun volume objects base) is run,
      subst (λ n. AreGood volume objects n (λ number. base < number)) is (past base listed there),
    )

-- ---- the volume's own objects

-- owners map a sector to the volume's own object of a number
maps_own : (owned : Owners) (n : ℕ) → IsMappedBy owned n → MapsObject owned (own_object n)
maps_own owned n (k, is) = (k, owner_is n (owned k) is)

own_mapped : (owned : Owners) (n : ℕ) → MapsObject owned (own_object n) → IsMappedBy owned n
own_mapped owned n (k, is) = (k, ap (is_own n) is ∙ grind (arith, nat_tests))

-- ---- the lists

module _ (volume : Expected) (objects : Objects) (names : List ObjName) (is_uuid : IsUuid volume.uuid)
    (listed : Lists volume.uuid objects names) where
  module _ (holds : List ℕ) (among : AreHoldsAmong volume.uuid names holds) where
    pub held_of : (n : ℕ) → Contains holds n → IsHeld volume objects n
    held_of n has =
        let is = listed.present (hold_name volume.uuid n) ((among.same n).0 has) in
        record { named = is.0.fits; present = is.2 }

    pub of_held : (n : ℕ) → IsHeld volume objects n → Contains holds n
    of_held n is =
        (among.same n).1
        (listed.complete (hold_name volume.uuid n) (record { uuid = is_uuid; number = tt; fits = is.named }) refl is.present)

    pub are_holds : AreJust (IsHeld volume objects) holds
    are_holds = record { ascending = among.ascending; same = λ n fits. (held_of n, of_held n) }

  -- the numbers of the objects that are there
  module _ (numbers : List ℕ) (there : (n : ℕ) → n < 2 ^ 64 → Contains numbers n ↔ IsThere volume objects n) where
    pub are_stranded : (last : ℕ) (list : List ℕ) → IsFilterOf numbers (λ n. last < n) list
        → AreJust (λ n. (last < n) × IsThere volume objects n) list
    are_stranded last list is = record {
      ascending = is.ascending;
      same = λ n fits. (
        λ has. let kept = (is.same n).0 has in (kept.1, (there n fits).0 kept.0),
        λ such. (is.same n).1 ((there n fits).1 such.1, such.0),
      );
    }

    header_there : (n : ℕ) → HasCheckpointHeader volume objects n → IsThere volume objects n
    header_there n is = let present = is.present in cc

    pub are_checkpoints : (last : ℕ) (list : List ℕ)
        → IsFilterOf numbers (λ n. (n ≤ last) × HasCheckpointHeader volume objects n) list
        → AreJust (λ n. (n ≤ last) × HasCheckpointHeader volume objects n) list
    are_checkpoints last list is = record {
      ascending = is.ascending;
      same = λ n fits. (
        λ has. ((is.same n).0 has).1,
        λ such. (is.same n).1 ((there n fits).1 (header_there n such.1), such),
      );
    }

    module _ (base last : ℕ) (from : base ≤ last) (bytes : List ℕ) (holds : List ℕ)
        (among : AreHoldsAmong volume.uuid names holds) (named : BTreeSet ObjectOfLevel)
        (all : NamesAll volume objects base bytes holds named) where
      keeps_own : (checkpoint n : ℕ) → IsKeptBy volume objects checkpoint n
          → KeepsObject volume objects checkpoint (own_object n)
      keeps_own checkpoint n (inl same) = inl (ap own_object same)
      keeps_own checkpoint n (inr (end, owned, of, mapped)) = inr (end, owned, of, maps_own owned n mapped)

      own_kept : (checkpoint n : ℕ) → KeepsObject volume objects checkpoint (own_object n)
          → IsKeptBy volume objects checkpoint n
      own_kept checkpoint n (inl same) = inl (ap (λ (o : ObjectOfLevel). o.number) same)
      own_kept checkpoint n (inr (end, owned, of, maps)) = inr (end, owned, of, own_mapped owned n maps)

      needed_named : (n : ℕ) → IsMappedBy (owned_by all.rows) n ⊎ IsKept volume objects n → Has named (own_object n)
      needed_named n (inl mapped) = (all.same (own_object n)).1 (inl (maps_own (owned_by all.rows) n mapped))
      needed_named n (inr (checkpoint, held, keeps)) =
          (all.same (own_object n)).1 (inr (checkpoint, of_held holds among checkpoint held, keeps_own checkpoint n keeps))

      named_needed : (n : ℕ) → Has named (own_object n) → IsNeeded volume objects base (owned_by all.rows) n
      named_needed n has =
          elim ((all.same (own_object n)).0 has) [
            | inl maps ↦ inr (inl (own_mapped (owned_by all.rows) n maps))
            | inr kept ↦ inr (inr (kept.0, held_of holds among kept.0 kept.1, own_kept kept.0 n kept.2))
          ]

      not_needed : (n : ℕ) → n < base → (Has named (own_object n) → ⊥) → IsNeeded volume objects base (owned_by all.rows) n → ⊥
      not_needed n low none (inl high) = omega (arith, low, high)
      not_needed n low none (inr needed) = none (needed_named n needed)

      low_of : (n : ℕ) → (IsNeeded volume objects base (owned_by all.rows) n → ⊥) → n < base
      low_of n none =
          elim (cases_order n base) [
            | inl same ↦ absurd (none (inl (omega (arith, same))))
            | inr (inl low) ↦ low
            | inr (inr high) ↦ absurd (none (inl (omega (arith, high))))
          ]

      pub are_unneeded : (list : List ℕ) → IsFilterOf numbers (λ n. (n < base) × (Has named (own_object n) → ⊥)) list
          → AreJust (λ n. (n ≤ last) × IsThere volume objects n
          × (IsNeeded volume objects base (owned_by all.rows) n → ⊥)) list
      are_unneeded list is = record {
        ascending = is.ascending;
        same = λ n fits. (
          λ has. let kept = (is.same n).0 has in (
            omega (arith, kept.1.0, from),
            (there n fits).0 kept.0,
            not_needed n kept.1.0 kept.1.1,
          ),
          λ such. (is.same n).1
              ((there n fits).1 such.1, (low_of n such.2, λ has. such.2 (named_needed n has))),
        );
      }

-- ---- the report

module _ (volume : Expected) (objects : Objects) (names : List ObjName) (is_uuid : IsUuid volume.uuid)
    (listed : Lists volume.uuid objects names) (report : CheckReport) (base base_end : ℕ)
    (newest : IsNewestWithEnd volume objects base base_end) (bytes : List ℕ)
    (present : found objects (object_name volume base) ≡ Some bytes)
    (among : AreHoldsAmong volume.uuid names report.holds.items)
    (judged : JudgesTo volume objects names (record { number = base; end = Some base_end; refused = None }) report.last)
    (named : BTreeSet ObjectOfLevel) (all : NamesAll volume objects base bytes report.holds.items named) (numbers : List ℕ)
    (same : (n : ℕ) → Contains numbers n ↔ Contains (object_numbers names) n) where
  abbrev run : IsRun volume objects base report.last
      × AreGood volume objects report.last (λ number. base < number)
  run = run_to volume objects names base base_end report.last newest listed judged

  there : (n : ℕ) → n < 2 ^ 64 → Contains numbers n ↔ IsThere volume objects n
  there n fits = are_there volume objects names is_uuid listed n fits numbers (same n)

  held : (n : ℕ) → Contains report.holds.items n ↔ IsHeld volume objects n
  held n = (
    held_of volume objects names is_uuid listed report.holds.items among n,
    of_held volume objects names is_uuid listed report.holds.items among n,
  )

  pub is_report : report.uuid ≡ volume.uuid
      → IsFilterOf numbers (λ n. (n ≤ report.last) × HasCheckpointHeader volume objects n) report.checkpoints.items
      → IsFilterOf numbers (λ n. report.last < n) report.stranded.items
      → IsFilterOf numbers (λ n. (n < base) × (Has named (own_object n) → ⊥)) report.unneeded.items
      → (chain : List Ancestor) → IsPartOf (Has named) (IsAway (IsNoneOf numbers) objects chain) report.missing.items
      → IsReportOf volume (uuid_in_chain volume.uuid chain) objects report
  is_report volume_is checkpoints stranded unneeded chain missing = record {
    volume_is = volume_is;
    base = base;
    end = all.end;
    owned = owned_by all.rows;
    checkpoint = is_stored volume objects base all.end bytes all.rows present all.is;
    run = run.0;
    good = run.1;
    whole = λ n is at.
        All-contains (IsWholeIfThere volume objects) report.holds.items n all.whole ((held n).1 is) at;
    holds = are_holds volume objects names is_uuid listed report.holds.items among;
    checkpoints =
        are_checkpoints volume objects names is_uuid listed numbers there report.last report.checkpoints.items checkpoints;
    stranded = are_stranded volume objects names is_uuid listed numbers there report.last report.stranded.items stranded;
    unneeded =
        are_unneeded volume objects names is_uuid listed numbers there base report.last run.0.from bytes
        report.holds.items among named all report.unneeded.items unneeded;
    missing =
        are_missing volume objects base report.last bytes report.holds.items named all held run.0.landed numbers there chain
        report.missing.items missing;
  }
