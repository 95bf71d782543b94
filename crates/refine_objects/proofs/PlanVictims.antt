-- Where the table has a candidate, the plain volume has a victim, and plans a copy.
use Rattle.std.proofs.Common.{◌≡◌, ℕ, zero, suc, ◌<◌, ◌*◌, ◌&&◌, ◌||◌, true, false, None, List, [], ◌∷◌, ◌++◌}
use Rattle.std.proofs.Common.{length, map, take, refl, sym, ◌∙◌, ap, arith}
use Rattle.std.specs.Prelude.{IsTrue, nat_lt, not}
use Rattle.std.specs.List.{AllByRecursion, filter, flat_map, range_with_len}
use Rattle.std.proofs.lemmas.Bool.{and_parts}
use Rattle.std.proofs.lemmas.Bool.Decides.{nat_tests}
use Rattle.lsvd_base.specs.declared.geometry.Geometry.{Geometry}
use Rattle.lsvd_base.specs.Limits.{is_within_limits}
use Rattle.object_stream.specs.declared.object.CopiedSector.{CopiedSector}
use Rattle.object_stream.specs.Planned.{copied_from, planned}
use Rattle.object_table.specs.Table.{row_of, candidates}
use Rattle.volume_maps.specs.Maps.{MapsState}
use Rattle.volume_maps.proofs.RowsLemmas.{is_in, in_range}
use Rattle.plain_disk.specs.State.{PlainState, frontier_of, payload_of}
use Rattle.plain_disk.specs.Removals.{has}
use Rattle.plain_disk.specs.Step.{is_refusal}
use Rattle.plain_disk.specs.Collection.{live_sectors, live_in, is_victim, comes_before, victims, planned_copy, reply_of_plan}
use Rattle.refine_objects.specs.PlanLaws.{VictimsShowPlan}
use Rattle.refine_objects.proofs.MarkShown.{self_equal}
use Rattle.refine_objects.proofs.PlanMade.{rows_are}
use Rattle.refine_objects.proofs.VictimCompare.{IsVictim, chain, apart}
use Rattle.refine_objects.proofs.VictimOrder.{is_in_order, all_in_order}
use Rattle.refine_objects.proofs.VictimsShown.{RowsAre, in_filter, in_candidates, all_pass, victim_by}

-- a list that is not empty has a number
some_number : (ns : List ℕ) → (ns ≡ [] → ⊥) → (n : ℕ) × (is_in ns n ≡ true)
some_number [] some = absurd (some refl)
some_number (n ∷ ns) some = (n, ap (λ b. b || is_in ns n) (self_equal n))

-- the first sectors of some are some
first_copied : (most number : ℕ) (ks : List ℕ) (rest : List CopiedSector) → 0 < most → 0 < length ks
    → take most (map (copied_from number) ks ++ rest) ≡ [] → ⊥
first_copied most number [] rest room some none = absurd (omega (arith, some))
first_copied zero number (k ∷ ks) rest room some none = absurd (omega (arith, room))
first_copied (suc most) number (k ∷ ks) rest room some none = cc

-- what is planned of victims with live sectors is some
some_planned : (most n : ℕ) (live : ℕ → List ℕ) (list : List ℕ) → 0 < most
    → AllByRecursion (λ v. 0 < length (live v)) list → is_in list n ≡ true → planned most live list ≡ [] → ⊥
some_planned most n live [] room all among none = absurd cc
some_planned most n live (first ∷ list) room all among none =
    first_copied most first (live first) (flat_map (λ number. map (copied_from number) (live number)) list) room all.0 none

-- a batch has a sector
batch_of : (g : Geometry) → IsTrue (is_within_limits g) → 0 < g.batch
batch_of g limits = grind (arith, nat_tests)

module _ (plain : PlainState) where
  live_of_victim : (list : List ℕ) → AllByRecursion (IsVictim plain) list
      → AllByRecursion (λ v. 0 < length (live_sectors plain v)) list
  live_of_victim [] all = tt
  live_of_victim (first ∷ list) all =
      let some_live = nat_lt 0 (live_in plain first) in
      let few = nat_lt (live_in plain first * 100) (70 * payload_of plain first) in
      let live = (and_parts some_live few (and_parts (some_live && few) (not (has plain.held first)) all.0).0).0 in
      let some : 0 < length (live_sectors plain first) = grind (arith, nat_tests, live) in
      (some, live_of_victim list all.1)

  abbrev own : List ℕ
  own = filter (is_victim plain) (range_with_len 1 (frontier_of plain))

  -- each victim has a live sector
  victims_live : AllByRecursion (λ v. 0 < length (live_sectors plain v)) (victims plain)
  victims_live =
      live_of_victim (victims plain) (all_in_order (comes_before plain) (IsVictim plain) (chain plain) (apart plain) own
      (all_pass (is_victim plain) (range_with_len 1 (frontier_of plain))))

  -- a candidate is one
  candidate_among : (maps : MapsState) (n : ℕ) → RowsAre plain maps → is_in (candidates maps.objects.rows) n ≡ true
      → is_in (victims plain) n ≡ true
  candidate_among maps n is among =
      is_in_order (comes_before plain) (IsVictim plain) (chain plain) (apart plain) own n
      ∙ (in_filter (is_victim plain) (range_with_len 1 (frontier_of plain)) n
      ∙ (ap (λ b. b && is_victim plain n) (in_range 1 (frontier_of plain) n)
      ∙ (victim_by plain maps is n (row_of n maps.objects.rows) refl
      ∙ (sym (in_candidates n 0 maps.objects.rows is.order) ∙ among))))

plans_some : (pairs : List CopiedSector) → (pairs ≡ [] → ⊥) → is_refusal (reply_of_plan None pairs) ≡ false
plans_some [] some = absurd (some refl)
plans_some (first ∷ more) some = refl

pub victims_show_plan : VictimsShowPlan
victims_show_plan data_at list plain is valid shows none some =
    let maps = list.uploads.queue.maps in
    let rows = rows_are data_at list plain is valid shows in
    let one = some_number (candidates maps.objects.rows) some in
    let among = candidate_among plain maps one.0 rows one.1 in
    ap (λ out. is_refusal (reply_of_plan out (planned_copy plain))) none
    ∙ plans_some (planned_copy plain) (some_planned plain.geometry.batch one.0 (live_sectors plain) (victims plain)
    (batch_of plain.geometry valid.limits) (victims_live plain) among)
