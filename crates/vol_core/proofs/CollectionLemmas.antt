-- What a volume that shows a plain volume has for a plan of a copy and for the seal of what was copied.
use Rattle.std.proofs.Common.{◌≡◌, ◌↔◌, ℕ, ◌+◌, ◌<◌, ◌≤◌, Bool, true, false, Option}
use Rattle.std.proofs.Common.{Some, None, List, [], ◌∷◌, length, refl, sym, ap}
use Rattle.std.proofs.Common.{subst, arith}
use Rattle.std.specs.List.{filter}
use Rattle.std.specs.List.Sorted.{IsPermutation}
use Rattle.std.proofs.Math.Seq.{take-nil}
use Rattle.std.proofs.lemmas.List.Sorted.{IsPermutation-refl}
use Rattle.std.specs.Prelude.{IsTrue}
use Rattle.std.proofs.lemmas.Bool.Decides.{nat_tests}
use Rattle.std.proofs.lemmas.List.Sums.{sum_by-cons}
use Rattle.lsvd_base.specs.declared.geometry.Geometry.{Geometry}
use Rattle.lsvd_base.specs.Limits.{is_within_limits}
use Rattle.upload_window.specs.Window.{WindowState}
use Rattle.gc_copier.specs.Plan.{PlanState, sectors_of}
use Rattle.object_format.specs.declared.copy_row.CopyRow.{CopyRow}
use Rattle.object_format.specs.Rows.{copy_may_stand, copy_rows_may_stand}
use Rattle.object_stream.specs.declared.object.CopiedSector.{CopiedSector}
use Rattle.object_stream.specs.Stream.{source_in}
use Rattle.object_table.specs.declared.row.ObjectRow.{ObjectRow}
use Rattle.object_table.specs.Table.{is_candidate, numbers, candidates}
use Rattle.object_uploads.specs.State.{UploadsState}
use Rattle.object_uploads.specs.Order.{IsUploads}
use Rattle.object_uploads.specs.Collection.{ArePlacesInside, HasPlanned}
use Rattle.plain_disk.specs.State.{PlainState}
use Rattle.plain_disk.proofs.CheckpointLemmas.{both_true}
use Rattle.plain_disk.proofs.EndLemmas.{frontier_is_sealed}
use Rattle.refine_objects.specs.Plan.{ShowsPlan}
use Rattle.refine_objects.proofs.ShowLemmas.{shown_have_counts}
use Rattle.refine_objects.proofs.PlanMade.{shown_places_are_inside}
use Rattle.vol_core.specs.Volume.{VolumeState}
use Rattle.vol_core.specs.Shows.{Shows}
use Rattle.vol_core.specs.Calls.{MayStandNext}

-- ---- a plan

-- a batch has no more sectors than a copy
few_sectors : (geometry : Geometry) → IsTrue (is_within_limits geometry) → geometry.batch ≤ 65536
few_sectors geometry limits = grind (arith, nat_tests)

pub batch_is_few : (volume : VolumeState) (plain : PlainState) → Shows volume plain
    → volume.objects.batch.geometry.batch ≤ 65536
batch_is_few volume plain shows =
    subst (λ (g : Geometry). g.batch ≤ 65536) (sym shows.objects.geometry) (few_sectors plain.geometry shows.valid.limits)

pub places_are_inside : (volume : VolumeState) (plain : PlainState) → Shows volume plain → IsUploads volume.objects.uploads
    → ArePlacesInside volume.objects.uploads.queue
places_are_inside volume plain shows uploads =
    shown_places_are_inside shows.data_at volume.objects plain uploads shows.valid shows.objects

-- a list that is not without elements is not empty
empty_or : {A : Type 0} (list : List A) → ((list ≡ [] → ⊥) → ⊥) → list ≡ []
empty_or [] none = refl
empty_or (first ∷ more) none = absurd (none (λ is. absurd cc))

no_rows : (rows : List ObjectRow) → numbers rows ≡ [] → rows ≡ []
no_rows [] none = refl
no_rows (row ∷ rows) none = absurd cc

-- where no object is a candidate, no sector is to be copied
pub none_is_planned : (most : ℕ) (uploads : UploadsState) (has : Bool)
    → (IsTrue has ↔ (candidates uploads.queue.maps.objects.rows ≡ [] → ⊥)) → has ≡ false → HasPlanned most uploads None
none_is_planned most uploads has means not =
    let rows = uploads.queue.maps.objects.rows in
    let none : candidates rows ≡ [] =
    empty_or (candidates rows) (λ some. let is : has ≡ true = means.1 some in absurd cc) in
    let kept : filter is_candidate rows ≡ [] = no_rows (filter is_candidate rows) none in
    record {
      victims = [];
      are = record {
        taken = [];
        each_once = subst (λ list. IsPermutation list []) (sym kept) (IsPermutation-refl []);
        in_order = λ i j d less inside. absurd (omega (arith, inside));
        are = refl;
      };
      sources = λ k. ap (λ list. source_in list k) (sym (take-nil {A = CopiedSector} most));
      count = ap length (sym (take-nil {A = CopiedSector} most));
      places = λ k. tt;
      stand = λ number above. refl;
    }

-- ---- the seal of what was copied

-- rows that may stand in a copy have a sector each
rows_are_few : (volume payload number : ℕ) (before : Option CopyRow) (place : ℕ) (rows : List CopyRow)
    → IsTrue (copy_rows_may_stand volume payload number before place rows) → length rows ≤ sectors_of rows
rows_are_few volume payload number before place [] stand = omega arith
rows_are_few volume payload number before place (row ∷ rows) stand =
    let both = both_true (copy_may_stand volume payload number before place row)
    (copy_rows_may_stand volume payload number (Some row) (place + row.sectors) rows) stand in
    let some : 0 < row.sectors = grind (arith, nat_tests, both.0) in
    let more = rows_are_few volume payload number (Some row) (place + row.sectors) rows both.1 in
    let sum = sum_by-cons (λ (r : CopyRow). r.sectors) row rows in
    omega (arith, some, more, sum)

module _ (volume : VolumeState) (plain : PlainState) (shows : Shows volume plain) (uploads : IsUploads volume.objects.uploads)
  where
    stand_next : (out : Option PlanState) → ShowsPlan volume.objects.uploads.queue out plain → MayStandNext out volume.objects
    stand_next None planned = tt
    stand_next (Some plan) (pairs, is, of) =
        let counts = shown_have_counts shows.data_at volume.objects plain uploads shows.valid shows.objects in
        let frontier = counts.frontier in
        let within = frontier_is_sealed plain shows.valid in
        let last = ap (λ (w : WindowState). w.last) shows.objects.window in
        let end = shows.valid.last in
        let number = volume.objects.uploads.window.last + 1 in
        let past : volume.objects.uploads.queue.frontier < number = omega (arith, frontier, within, last, end) in
        let stand = of.stand number past in
        let few = rows_are_few plain.geometry.sectors (sectors_of plan.rows) number None 0 plan.rows stand in
        let most = few_sectors plain.geometry shows.valid.limits in
        let count = of.count in
        let pairs_few = of.few in
        record {
          count = omega (arith, few, most, count, pairs_few);
          stand = subst (λ (g : Geometry). IsTrue
              (copy_rows_may_stand g.sectors (sectors_of plan.rows) number None 0 plan.rows)) (sym shows.objects.geometry) stand;
        }

    -- the rows of the plan that is out are few enough, and may stand in the next object
    pub may_stand_next : MayStandNext volume.plan volume.objects
    may_stand_next = stand_next volume.plan shows.plan
