-- A plan of a copy that is made is that of the plain volume, and where none is made, that makes none.
use Rattle.std.proofs.Common.{◌≡◌, ℕ, ◌+◌, ◌-◌, ◌<◌, ◌≤◌, ◌==◌, cond, Bool, true}
use Rattle.std.proofs.Common.{false, Option, Some, None, List, [], ◌∷◌, length, map}
use Rattle.std.proofs.Common.{refl, sym, ◌∙◌, ap, subst, arith}
use Rattle.std.specs.Prelude.{IsTrue, IfSome}
use Rattle.std.specs.List.{All, flat_map}
use Rattle.std.proofs.lemmas.List.{length-take}
use Rattle.std.proofs.lemmas.List.Elements.{All-weaker}
use Rattle.std.proofs.lemmas.Option.{slice_get-get_or}
use Rattle.std.proofs.Common.{get_or}
use Rattle.lsvd_base.specs.declared.geometry.Geometry.{Geometry}
use Rattle.extent_map.specs.State.{MapState}
use Rattle.extent_map.specs.Extents.{is_within, place_at}
use Rattle.gc_copier.specs.Plan.{numbers_of, sectors_of}
use Rattle.object_format.specs.declared.copy_row.CopyRow.{CopyRow}
use Rattle.object_format.specs.Rows.{copy_rows_may_stand}
use Rattle.object_stream.specs.declared.object.CopiedSector.{CopiedSector}
use Rattle.object_stream.specs.Planned.{copied_from, planned}
use Rattle.object_stream.specs.Replay.{source_at}
use Rattle.object_stream.specs.Stream.{source_in, owners}
use Rattle.object_table.specs.declared.row.ObjectRow.{ObjectRow}
use Rattle.volume_maps.specs.declared.place.ObjectPlace.{ObjectPlace}
use Rattle.volume_maps.specs.Places.{object_on}
use Rattle.volume_maps.specs.Maps.{settled_at}
use Rattle.volume_maps.specs.Live.{is_live}
use Rattle.volume_maps.specs.CopyPlan.{live_list, source_place_at, PlansCopy}
use Rattle.volume_maps.proofs.RowsLemmas.{is_in}
use Rattle.volume_maps.proofs.VictimLemmas.{in_filter}
use Rattle.object_uploads.specs.State.{StoredObject, QueueState, UploadsState}
use Rattle.object_uploads.specs.Queue.{stored_at}
use Rattle.object_uploads.specs.Order.{PlaceFits, IsUploads}
use Rattle.object_uploads.specs.Image.{HoldsSector, GivesSector}
use Rattle.object_uploads.specs.Collection.{IsInsideObject, IsStoredSource, source_numbers, marked_in}
use Rattle.object_uploads.specs.Collection.{with_copied_all}
use Rattle.object_uploads.proofs.MarkLemmas.{marks_change_objects_alone, marks_keep_image}
use Rattle.batcher.specs.State.{BatchState}
use Rattle.obj_log.specs.State.{ObjLogState}
use Rattle.plain_disk.specs.declared.event.PlainReply.TheVariants.{Copying}
use Rattle.plain_disk.specs.State.{PlainState, frontier_of, stream_in}
use Rattle.plain_disk.specs.Collection.{live_sectors, victims, planned_copy, reply_of_plan, with_plan, after_plan_copy}
use Rattle.plain_disk.specs.Removals.{copies_from}
use Rattle.plain_disk.specs.Valid.{IsPlainVolume}
use Rattle.plain_disk.proofs.CheckpointLemmas.{both_true, same_number}
use Rattle.refine_objects.specs.Shows.{settled_image, ShowsObjects}
use Rattle.refine_objects.specs.TableLaws.{ShowsBoth}
use Rattle.refine_objects.specs.Plan.{IsPlanOf, ShowsPlan}
use Rattle.refine_objects.specs.PlanLaws.{ShownPlacesAreInside, PlannedShowsPlan, NoneShowsNoPlan}
use Rattle.refine_objects.proofs.AlikeLemmas.{same_alike}
use Rattle.refine_objects.proofs.JobLemmas.{settled_size}
use Rattle.refine_objects.proofs.MarkShown.{contained_in, in_contained, marked_receipts, marked_inherited}
use Rattle.refine_objects.proofs.MarkShown.{marked_sealed, marked_settled, marked_frontier}
use Rattle.refine_objects.proofs.MarkShown.{marked_stored, marked_table}
use Rattle.refine_objects.proofs.PlanSources.{source_row, row_source, pair_source, planned_source, lists_apart, of_planned}
use Rattle.refine_objects.proofs.PlanSources.{planned_reaches, none_planned, first_source}
use Rattle.refine_objects.proofs.ShowLemmas.{shown_have_counts}
use Rattle.refine_objects.proofs.TableChanged.{with_others, table_changed}
use Rattle.refine_objects.proofs.TableRows.{IsPlannedTo}
use Rattle.refine_objects.proofs.VictimsShown.{RowsAre, planned_is}

-- ---- places

inside_by : (found : Option StoredObject) (at : ℕ) (sector : List ℕ) → GivesSector found at sector → IsInsideObject found at
inside_by None at sector gives = gives
inside_by (Some object) at sector gives = gives.0

held_inside : (queue : QueueState) (at : Option ObjectPlace) (place : ObjectPlace) (sector : List ℕ) → at ≡ Some place
    → HoldsSector queue at sector → IsInsideObject (stored_at queue place) place.sector
held_inside queue None place sector is holds = absurd cc
held_inside queue (Some other) place sector is holds =
    let same : other ≡ place = cc in
    subst (λ (p : ObjectPlace). IsInsideObject (stored_at queue p) p.sector) same
    (inside_by (stored_at queue other) other.sector sector holds)

module _ (data_at : ℕ → ℕ) (list : ObjLogState) (plain : PlainState) (is : IsUploads list.uploads)
    (valid : IsPlainVolume plain) (shows : ShowsObjects data_at list plain) where
  abbrev queue : QueueState
  queue = list.uploads.queue

  -- the objects are of a volume as large as the plain one
  pub sectors_are : list.uploads.sectors ≡ plain.geometry.sectors
  sectors_are = shows.stream.sectors ∙ ap (λ (g : Geometry). g.sectors) shows.geometry

  pub place_fits : (k : ℕ) (place : ObjectPlace) → settled_at queue.maps k ≡ Some place
      → PlaceFits list.uploads.sectors list.uploads.ancestors queue.frontier k place
  place_fits k place at =
      subst (λ found. IfSome found (PlaceFits list.uploads.sectors list.uploads.ancestors queue.frontier k)) at (is.places k)

pub shown_places_are_inside : ShownPlacesAreInside
shown_places_are_inside data_at list plain is valid shows k place at =
    let image = settled_image plain in
    let fits = place_fits data_at list plain is valid shows k place at in
    let sectors = sectors_are data_at list plain is valid shows in
    let low : k < length image = omega (arith, fits.inside, sectors, settled_size plain valid) in
    let sector = get_or image k [] in
    held_inside list.uploads.queue (settled_at list.uploads.queue.maps k) place sector at
    (shows.image k sector (slice_get-get_or image k [] low))

-- ---- the rows of the table

inside_volume : (sectors ancestors volume frontier k : ℕ) (found : Option ObjectPlace) → sectors ≡ volume
    → IfSome found (PlaceFits sectors ancestors frontier k) → IfSome found (λ (place : ObjectPlace). k < volume)
inside_volume sectors ancestors volume frontier k None same fits = tt
inside_volume sectors ancestors volume frontier k (Some place) same fits = omega (arith, fits.inside, same)

pub rows_are : (data_at : ℕ → ℕ) (list : ObjLogState) (plain : PlainState) → IsUploads list.uploads → IsPlainVolume plain
    → ShowsBoth data_at list plain → RowsAre plain list.uploads.queue.maps
rows_are data_at list plain is valid shows =
    let queue = list.uploads.queue in
    let counts = shown_have_counts data_at list plain is valid shows.objects in
    let sectors = sectors_are data_at list plain is valid shows.objects in
    record {
      shortest = is.known.shortest;
      order = is.known.order;
      from_one = is.known.from_one;
      within =
          All-weaker (λ (row : ObjectRow). row.number ≤ queue.frontier) (λ (row : ObjectRow). row.number ≤ frontier_of plain)
          (λ row low. omega (arith, low, counts.frontier)) queue.maps.objects.rows is.known.within;
      counts = is.known.counted;
      owned = λ k. shows.objects.stream.objects.settled k ∙ ap (λ n. owners (stream_in plain) n k) counts.frontier;
      inside = λ k.
          inside_volume list.uploads.sectors list.uploads.ancestors plain.geometry.sectors queue.frontier k
          (settled_at queue.maps k) sectors (is.places k);
      payload = shows.table.payload;
      held = shows.table.held;
    }

-- ---- what is planned

low_source : (frontier number k : ℕ) (found : Option ObjectPlace) (sectors ancestors : ℕ)
    → IfSome found (PlaceFits sectors ancestors frontier k) → is_live number found ≡ true → number ≤ frontier
low_source frontier number k None sectors ancestors fits live = absurd cc
low_source frontier number k (Some place) sectors ancestors fits live =
    let both = both_true (place.level == 0) (place.number == number) live in
    let own = fits.number (same_number place.level 0 both.0) in
    omega (arith, same_number place.number number both.1, own)

module _ (data_at : ℕ → ℕ) (list : ObjLogState) (plain : PlainState) (is : IsUploads list.uploads)
    (valid : IsPlainVolume plain) (shows : ShowsBoth data_at list plain) (rows : List CopyRow)
    (plans : PlansCopy list.uploads.sectors plain.geometry.batch list.uploads.queue.maps rows) where
  abbrev uploads : UploadsState
  uploads = list.uploads

  abbrev live : ℕ → List ℕ
  live = live_list plain.geometry.sectors uploads.queue.maps

  abbrev copies : List CopiedSector
  copies = planned plain.geometry.batch live plans.victims

  -- it is what the plain volume plans
  copies_are : copies ≡ planned_copy plain
  copies_are = planned_is plain uploads.queue.maps (rows_are data_at list plain is valid shows) plans.victims plans.are

  source_copied : (k : ℕ) → source_at rows k ≡ source_in copies k
  source_copied k =
      plans.sources k
      ∙ ap (λ n. source_in (planned plain.geometry.batch (live_list n uploads.queue.maps) plans.victims) k)
      (sectors_are data_at list plain is valid shows.objects)

  pub source_planned : (k : ℕ) → source_at rows k ≡ source_in (planned_copy plain) k
  source_planned k = source_copied k ∙ ap (λ c. source_in c k) copies_are

  -- the rows have as many
  pub copies_count : sectors_of rows ≡ length (planned_copy plain)
  copies_count =
      plans.count
      ∙ (ap (λ n. length (planned plain.geometry.batch (live_list n uploads.queue.maps) plans.victims))
      (sectors_are data_at list plain is valid shows.objects) ∙ ap length copies_are)

  -- its rows may stand in each object past the frontier
  pub rows_stand : (number : ℕ) → uploads.queue.frontier < number
      → IsTrue (copy_rows_may_stand plain.geometry.sectors (sectors_of rows) number None 0 rows)
  rows_stand number past =
      let below = All-weaker (λ (row : ObjectRow). row.number ≤ uploads.queue.frontier) (λ (row : ObjectRow). row.number < number)
      (λ row low. omega (arith, low, past)) uploads.queue.maps.objects.rows is.known.within in
      subst (λ n. IsTrue (copy_rows_may_stand n (sectors_of rows) number None 0 rows))
      (sectors_are data_at list plain is valid shows.objects) (plans.stand number below)

  -- its sources are those of its rows
  pub copies_row : (n : ℕ) → is_in (source_numbers rows) n ≡ true → copies_from (Some (planned_copy plain)) n ≡ true
  copies_row n among =
      let next = uploads.queue.frontier + 1 in
      let at = source_row plain.geometry.sectors (sectors_of rows) next 0 n None rows (rows_stand next (omega arith)) among in
      pair_source at.0 n (planned_copy plain) (sym (source_planned at.0) ∙ at.1)

  pub row_copies : (n : ℕ) → copies_from (Some (planned_copy plain)) n ≡ true → is_in (source_numbers rows) n ≡ true
  row_copies n taken =
      let own : copies_from (Some copies) n ≡ true = ap (λ c. copies_from (Some c) n) copies_are ∙ taken in
      let at = planned_source live (lists_apart plain.geometry.sectors (settled_at uploads.queue.maps)) plain.geometry.batch
      plans.victims n own in
      row_source at.0 n rows (source_copied at.0 ∙ at.1)

  -- and are not past the frontier
  pub copies_reach : All (λ (pair : CopiedSector). pair.source ≤ uploads.queue.frontier) (planned_copy plain)
  copies_reach =
      subst (λ c. All (λ (pair : CopiedSector). pair.source ≤ uploads.queue.frontier) c) copies_are
      (planned_reaches uploads.queue.frontier live copies (λ n k among.
      low_source uploads.queue.frontier n k (settled_at uploads.queue.maps k) uploads.sectors uploads.ancestors (is.places k)
      (in_filter (λ i. is_live n (settled_at uploads.queue.maps i)) _ k among).1) (of_planned live plain.geometry.batch
      plans.victims))

-- and there are no more than a batch has
copies_few : (plain : PlainState) → length (planned_copy plain) ≤ plain.geometry.batch
copies_few plain =
    let all = flat_map (λ number. map (copied_from number) (live_sectors plain number)) (victims plain) in
    omega (arith, length-take plain.geometry.batch all)

-- ---- a list whose marks changed

-- a list that is another one shows what that shows
same_shown : (data_at : ℕ → ℕ) (old new : ObjLogState) (plain : PlainState) → new.uploads ≡ old.uploads
    → new.batch ≡ old.batch → ShowsBoth data_at old plain → ShowsBoth data_at new plain
same_shown data_at old new plain uploads batch shows =
    let same : new ≡ old =
    ap (λ (u : UploadsState). record { batch = new.batch; uploads = u }) uploads
    ∙ ap (λ (b : BatchState). record { batch = b; uploads = old.uploads }) batch in
    subst (λ (list : ObjLogState). ShowsBoth data_at list plain) (sym same) shows

-- it shows the volume whose plan takes sectors from just those objects that are marked then
pub marked_both : (data_at : ℕ → ℕ) (is_copied : Bool) (numbers : List ℕ) (old new : ObjLogState) (plain : PlainState)
    (plan : Option (List CopiedSector)) → IsUploads old.uploads → ShowsBoth data_at old plain
    → ((n : ℕ) → cond (is_in numbers n) is_copied (copies_from plain.plan n) ≡ copies_from plan n)
    → IsPlannedTo old.uploads.queue.frontier plan
    → new.uploads ≡ with_copied_all is_copied numbers old.uploads → new.batch ≡ old.batch
    → ShowsBoth data_at new (record plain { plan = plan })
marked_both data_at is_copied numbers old new plain plan is shows same reached uploads batch =
    let queue = old.uploads.queue in
    let now : ObjLogState = record { batch = old.batch; uploads = with_copied_all is_copied numbers old.uploads } in
    same_shown data_at now new (record plain { plan = plan }) uploads batch (record {
      objects =
          with_others data_at now plain plain.checkpoint plan plain.pins plain.removed plain.given_out plain.removal
          (table_changed data_at old now plain (marks_change_objects_alone is_copied numbers old.uploads) refl
          (marks_keep_image is_copied numbers old.uploads)
          (λ tells. same_alike tells queue (marked_in is_copied numbers queue) (marked_receipts is_copied numbers queue)
          (marked_inherited is_copied numbers queue) (marked_sealed is_copied numbers queue)) shows.objects);
      table = marked_table is_copied numbers old.uploads plain plan is shows.table same reached;
    })

-- ---- a plan is made

-- two tests that pass alike
pub pass_alike : (a b : Bool) → (a ≡ true → b ≡ true) → (b ≡ true → a ≡ true) → a ≡ b
pass_alike true b to from = sym (to refl)
pass_alike false true to from = from refl
pass_alike false false to from = refl

mark_true : (a : Bool) → cond a true false ≡ a
mark_true true = refl
mark_true false = refl

some_planned : (pairs : List CopiedSector) (plain : PlainState) → (pairs ≡ [] → ⊥)
    → (with_plan None pairs plain ≡ record plain { plan = Some pairs }) × (reply_of_plan None pairs ≡ Copying pairs)
some_planned [] plain some = absurd (some refl)
some_planned (first ∷ more) plain some = (refl, refl)

-- rows that have no place of a sector have no source of it
no_place : (rows : List CopyRow) (k : ℕ) → source_place_at rows k ≡ None → source_at rows k ≡ None
no_place [] k none = refl
no_place (row ∷ rows) k none =
    let own : ObjectPlace = record {
      level = row.source.level;
      number = row.source.number;
      sector = row.source.place + (k - row.lba);
    } in
    elim (is_within row.lba row.sectors k) as (λ b. cond b (Some own) (source_place_at rows k) ≡ None
    → cond b (Some row.source.number) (source_at rows k) ≡ None) [
      | true ↦ λ none. absurd cc
      | false ↦ λ none. no_place rows k none
    ] none

-- a place that rows have is where a map has it
placed_by : (rows : List CopyRow) (k source : ℕ) (at found : Option ObjectPlace) → source_at rows k ≡ Some source
    → (at ≡ None → source_at rows k ≡ None) → IfSome at (λ place. found ≡ Some place) → found ≡ at
placed_by rows k source None found is none same = let bad = none refl in absurd cc
placed_by rows k source (Some place) found is none same = same

pub planned_shows_plan : PlannedShowsPlan
planned_shows_plan data_at old new plain plan is valid shows none has uploads batch =
    let queue = old.uploads.queue in
    let rows = has.rows in
    let pairs = planned_copy plain in
    let numbers = numbers_of plan.sources in
    let marked = marked_in true numbers queue in
    let to : (n : ℕ) → is_in numbers n ≡ true → copies_from (Some pairs) n ≡ true = λ n among.
    copies_row data_at old plain is valid shows plan.rows rows n
    (contained_in (source_numbers plan.rows) n ((has.sources.named n).0 (in_contained numbers n among))) in
    let from : (n : ℕ) → copies_from (Some pairs) n ≡ true → is_in numbers n ≡ true = λ n taken.
    contained_in numbers n ((has.sources.named n).1 (in_contained (source_numbers plan.rows) n
    (row_copies data_at old plain is valid shows plan.rows rows n taken))) in
    let alike : (n : ℕ) → cond (is_in numbers n) true (copies_from plain.plan n) ≡ copies_from (Some pairs) n = λ n.
    ap (λ p. cond (is_in numbers n) true (copies_from p n)) none
    ∙ (mark_true (is_in numbers n) ∙ pass_alike (is_in numbers n) (copies_from (Some pairs) n) (to n) (from n)) in
    let source = source_planned data_at old plain is valid shows plan.rows rows in
    let stand = rows_stand data_at old plain is valid shows plan.rows rows in
    let some : pairs ≡ [] → ⊥ = λ empty.
    has.some (first_source plain.geometry.sectors (sectors_of plan.rows) (queue.frontier + 1) 0 None plan.rows
    (stand (queue.frontier + 1) (omega arith)) (λ k. source k ∙ ap (λ p. source_in p k) empty)) in
    let made = some_planned pairs plain some in
    let after : after_plan_copy plain ≡ record plain { plan = Some pairs } =
    ap (λ out. with_plan out pairs plain) none ∙ made.0 in
    let reach = copies_reach data_at old plain is valid shows plan.rows rows in
    let both = marked_both data_at true numbers old new plain (Some pairs) is shows alike reach uploads batch in
    let is_plan : IsPlanOf plain.geometry marked pairs plan = record {
      takes = source;
      count = copies_count data_at old plain is valid shows plan.rows rows;
      few = copies_few plain;
      named = λ n. (
        λ among. to n (contained_in numbers n among),
        λ taken. in_contained numbers n (from n taken),
      );
      stored =
          All-weaker (IsStoredSource queue) (IsStoredSource marked)
          (λ own stored. marked_stored true numbers queue (record { level = 0; number = own.number }) ∙ stored) plan.sources
          has.sources.stored;
      places = λ k n at live.
          (let settled : settled_at marked.maps k ≡ settled_at queue.maps k =
          ap (λ (m : MapState ObjectPlace). place_at object_on m.rows k) (marked_settled true numbers queue) in
          settled ∙ placed_by plan.rows k n (source_place_at plan.rows k) (settled_at queue.maps k) at
          (no_place plan.rows k) (rows.places k));
      stand = λ number past. stand number (subst (λ n. n < number) (marked_frontier true numbers queue) past);
    } in
    let queue_is : new.uploads.queue ≡ marked = ap (λ (u : UploadsState). u.queue) uploads in (
      subst (ShowsBoth data_at new) (sym after) both,
      subst (λ p. ShowsPlan new.uploads.queue (Some plan) p) (sym after)
          (pairs, refl, subst (λ q. IsPlanOf plain.geometry q pairs plan) (sym queue_is) is_plan),
      ap (λ out. reply_of_plan out pairs) none ∙ made.1,
    )

pub none_shows_no_plan : NoneShowsNoPlan
none_shows_no_plan data_at list plain is valid shows none plans =
    let empty : planned_copy plain ≡ [] =
    none_planned (planned_copy plain) (source_planned data_at list plain is valid shows [] plans) in (
      ap (λ out. reply_of_plan out (planned_copy plain)) none ∙ ap (reply_of_plan None) empty,
      ap (λ out. with_plan out (planned_copy plain) plain) none ∙ ap (λ pairs. with_plan None pairs plain) empty,
    )
