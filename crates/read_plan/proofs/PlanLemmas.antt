-- The plan of a range, by its rows.
use Rattle.std.proofs.Common.{◌≡◌, ℕ, ◌+◌, ◌*◌, ◌<◌, ◌≤◌, ◌^◌, List, length, sym, ◌∙◌, subst, arith}
use Rattle.std.specs.Prelude.{◌↔◌, replicate}
use Rattle.std.specs.List.{All, AllByRecursion, Contains}
use Rattle.std.specs.List.Sorted.{IsStrictlyIncreasing}
use Rattle.std.proofs.lemmas.List.Elements.{All-from_recursion}
use Rattle.extent_map.specs.declared.extent.Extent.{Extent}
use Rattle.extent_map.specs.Extents.{place_at, place_in_range, IsShortest}
use Rattle.cache_log.specs.Log.{LogState}
use Rattle.object_stream.specs.Changes.{sector_of}
use Rattle.volume_maps.specs.declared.place.VolumePlace.{VolumePlace}
use Rattle.volume_maps.specs.Places.{volume_on}
use Rattle.volume_maps.specs.Maps.{volume_place_at}
use Rattle.object_uploads.specs.State.{QueueState}
use Rattle.obj_log.specs.State.{ObjLogState}
use Rattle.read_plan.specs.Plan.{PieceState, PlanState, PieceFits}
use Rattle.read_plan.specs.Places.{LogHasPlaces, ObjectsHavePlaces, IsLogged, FetchPlace, HoldsPlace}
use Rattle.read_plan.specs.Rows.{IsReadable, AreRowsRead, IsFetchable, row_pieces, named_objects}
use Rattle.read_plan.specs.Look.{IsReadPlan, AreRowsIn}
use Rattle.read_plan.proofs.RowLemmas.{IsGood, in_place, good_rows, all_readable, all_fetchable}
use Rattle.read_plan.proofs.LogLemmas.{range_is_read, range_has_size}
use Rattle.read_plan.proofs.PieceLemmas.{range_is_fetched, pieces_lie_inside}
use Rattle.read_plan.proofs.NumberLemmas.{objects_in}

-- the rows of a range whose places can be read
pub record CanRead (lba sectors : ℕ) (log : LogState) (queue : QueueState) (rows : List (Extent VolumePlace)) : Type 0 where
  pub are : AreRowsIn lba sectors queue.maps rows
  pub good : AllByRecursion (IsGood lba sectors log queue) rows

module _ (lba sectors : ℕ) (log : LogState) (queue : QueueState) (rows : List (Extent VolumePlace)) where
  pub can_read : LogHasPlaces lba sectors queue.maps log → ObjectsHavePlaces lba sectors queue → IsShortest volume_on rows
      → ((k : ℕ) → place_at volume_on rows k ≡ place_in_range lba sectors (volume_place_at queue.maps) k)
      → CanRead lba sectors log queue rows
  can_read logged fetched shortest places =
      let are : AreRowsIn lba sectors queue.maps rows = record { shortest = shortest; places = places } in
      record { are = are; good = good_rows lba sectors log queue rows logged fetched are }

  pub are_readable : CanRead lba sectors log queue rows → All (IsReadable lba sectors log) rows
  are_readable can = All-from_recursion (IsReadable lba sectors log) rows (all_readable lba sectors log queue rows can.good)

  pub are_fetchable : lba + sectors ≤ 2 ^ 31 → CanRead lba sectors log queue rows → All (IsFetchable lba queue) rows
  are_fetchable below can = All-from_recursion (IsFetchable lba queue) rows
      (all_fetchable lba sectors log queue rows below can.good)

  pub lie_inside : (bytes : List ℕ) (pieces : List PieceState) → CanRead lba sectors log queue rows
      → AreRowsRead log lba rows (replicate (512 * sectors) 0) bytes → pieces ≡ row_pieces queue lba rows
      → AllByRecursion (PieceFits (length bytes)) pieces
  lie_inside bytes pieces can read are =
      subst (λ n. AllByRecursion (PieceFits n) pieces) (sym (range_has_size lba sectors log queue rows bytes can.good read))
      (subst (AllByRecursion (PieceFits (512 * sectors))) (sym are) (pieces_lie_inside lba sectors log queue rows can.good))

  -- what a plan of these has for each sector
  holds : (plan : PlanState) (i : ℕ) → i < sectors → CanRead lba sectors log queue rows
      → AreRowsRead log lba rows (replicate (512 * sectors) 0) plan.bytes → plan.pieces ≡ row_pieces queue lba rows
      → HoldsPlace log queue (volume_place_at queue.maps (lba + i)) i plan
  holds plan i less can read are =
      let placed = can.are.places (lba + i) ∙ in_place lba sectors (lba + i) (volume_place_at queue.maps) (omega arith)
      (omega (arith, less)) in
      record {
        logged =
            subst (λ p. IsLogged log p (sector_of i plan.bytes)) placed
            (range_is_read lba sectors log queue rows plan.bytes can.are.shortest can.good read i less);
        fetched = subst (λ p. FetchPlace queue p i plan.pieces) placed
            (subst (FetchPlace queue (place_at volume_on rows (lba + i)) i) (sym are)
            (range_is_fetched lba sectors log queue rows i can.are.shortest can.good));
      }

pub is_plan : (lba sectors : ℕ) (state : ObjLogState) (log : LogState) (rows : List (Extent VolumePlace)) (plan : PlanState)
    → CanRead lba sectors log state.uploads.queue rows → plan.history_length ≡ state.batch.first + length state.batch.entries
    → AreRowsRead log lba rows (replicate (512 * sectors) 0) plan.bytes → plan.pieces ≡ row_pieces state.uploads.queue lba rows
    → IsStrictlyIncreasing plan.objects → ((number : ℕ) → Contains plan.objects number ↔ Contains (named_objects rows) number)
    → IsReadPlan lba sectors state log plan
is_plan lba sectors state log rows plan can history_length read are ascending same = record {
  history_length = history_length;
  size = range_has_size lba sectors log state.uploads.queue rows plan.bytes can.good read;
  inside = lie_inside lba sectors log state.uploads.queue rows plan.bytes plan.pieces can read are;
  holds = λ i less. holds lba sectors log state.uploads.queue rows plan i less can read are;
  objects = objects_in lba sectors state.uploads.queue.maps rows plan.objects can.are ascending same;
}
