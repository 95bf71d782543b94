-- What was copied by a plan has the sectors of the image that are still in their sources.
use Rattle.std.proofs.Common.{◌≡◌, ℕ, suc, ◌+◌, ◌-◌, ◌*◌, ◌<◌, ◌==◌, ◌||◌, cond}
use Rattle.std.proofs.Common.{true, false, Option, Some, None, List, [], ◌∷◌, take, drop}
use Rattle.std.proofs.Common.{refl, sym, ◌∙◌, ap, subst, arith}
use Rattle.std.specs.Prelude.{IsTrue, IfSome}
use Rattle.std.specs.List.{All, Contains, slice_get}
use Rattle.std.specs.Option.{is_some}
use Rattle.std.proofs.lemmas.Bool.Decides.{nat_tests}
use Rattle.std.proofs.lemmas.List.{drop-drop, drop-take, take-take}
use Rattle.std.proofs.lemmas.List.Elements.{All-head, All-tail, All-contains}
use Rattle.lsvd_base.specs.declared.geometry.Geometry.{Geometry}
use Rattle.lsvd_base.specs.Image.{Image}
use Rattle.lsvd_bytes.specs.Places.{bytes_at}
use Rattle.lsvd_objstore.specs.Store.{ReceiptState}
use Rattle.extent_map.specs.Extents.{is_within}
use Rattle.gc_copier.specs.Plan.{SourceState, PlanState, numbers_of}
use Rattle.gc_copier.specs.Copying.{data_in, AreData, CopiedState, IsCopyOf}
use Rattle.object_format.specs.declared.copy_row.CopyRow.{CopyRow}
use Rattle.object_stream.specs.declared.object.CopiedSector.{CopiedSector}
use Rattle.object_stream.specs.Changes.{sector_of}
use Rattle.object_stream.specs.Replay.{source_at}
use Rattle.object_stream.specs.Value.{copied_in}
use Rattle.object_table.specs.declared.row.ObjectRow.{ObjectRow}
use Rattle.object_table.specs.Table.{row_of}
use Rattle.volume_maps.specs.declared.place.ObjectPlace.{ObjectPlace}
use Rattle.volume_maps.specs.Maps.{settled_at}
use Rattle.volume_maps.specs.Live.{is_live}
use Rattle.volume_maps.specs.CopyPlan.{source_place_at}
use Rattle.volume_maps.proofs.RowsLemmas.{is_in}
use Rattle.object_uploads.specs.State.{NumberedReceipt, StoredObject, QueueState}
use Rattle.object_uploads.specs.Queue.{receipt_in, stored_with, stored_of, stored_at}
use Rattle.object_uploads.specs.Receipts.{AllTell}
use Rattle.object_uploads.specs.Image.{HoldsSector, GivesSector, HasImage}
use Rattle.object_uploads.specs.Collection.{IsStoredSource}
use Rattle.object_uploads.proofs.StoredLemmas.{first_receipt}
use Rattle.object_uploads.proofs.TellLemmas.{Tells}
use Rattle.plain_disk.proofs.CheckpointLemmas.{both_true, same_number}
use Rattle.refine_objects.specs.Plan.{IsPlanOf}
use Rattle.refine_objects.proofs.MarkShown.{contained_in}
use Rattle.refine_objects.proofs.PlanSources.{pair_source}

-- ---- a sector in a part of some bytes

part_sector : (at count j : ℕ) (bytes : List ℕ) → j < count
    → sector_of j (bytes_at (512 * at) (512 * count) bytes) ≡ sector_of (at + j) bytes
part_sector at count j bytes low =
    let rest : ℕ = 512 * count - 512 * j in
    let whole : 512 * count ≡ 512 * j + rest = omega (arith, low) in
    let place : 512 * at + 512 * j ≡ 512 * (at + j) = omega arith in
    ap (λ n. take 512 (drop (512 * j) (take n (drop (512 * at) bytes)))) whole
    ∙ (ap (take 512) (drop-take (512 * j) rest (drop (512 * at) bytes))
    ∙ (take-take 512 rest (drop (512 * j) (drop (512 * at) bytes)) (omega (arith, low))
    ∙ ap (take 512) (drop-drop (512 * j) (512 * at) bytes ∙ ap (λ n. drop n bytes) place)))

-- ---- the data of rows

-- the rows have a sector from its source, which tells these bytes of its object
copied_of : (sources : List SourceState) (payload told : List ℕ) (source : SourceState) (k n : ℕ) (place : ObjectPlace)
    (rows : List CopyRow) → Contains sources source → source.number ≡ n → source.receipt.told ≡ Some told
    → All (λ (row : CopyRow). AreData sources row (data_in row payload)) rows
    → source_at rows k ≡ Some n → source_place_at rows k ≡ Some place
    → copied_in rows payload k ≡ Some (sector_of (source.front + place.sector) told)
copied_of sources payload told source k n place [] among named tells all at there = absurd cc
copied_of sources payload told source k n place (row ∷ rows) among named tells all at there =
    let Data : CopyRow → Type 0 = λ r. AreData sources r (data_in r payload) in
    let own : ObjectPlace = record {
      level = row.source.level;
      number = row.source.number;
      sector = row.source.place + (k - row.lba);
    } in
    elim (is_within row.lba row.sectors k) as (λ b. is_within row.lba row.sectors k ≡ b
    → cond b (Some row.source.number) (source_at rows k) ≡ Some n
    → cond b (Some own) (source_place_at rows k) ≡ Some place
    → cond b (Some (sector_of (row.place + (k - row.lba)) payload)) (copied_in rows payload k)
    ≡ Some (sector_of (source.front + place.sector) told)) [
      | true ↦ λ within at there. (
          let number : row.source.number ≡ n = cc in
          let same : own ≡ place = cc in
          let j = k - row.lba in
          let low : j < row.sectors = grind (arith, nat_tests, within) in
          let here = All-head Data row rows all source among (named ∙ sym number) in
          let bytes : data_in row payload ≡ bytes_at (512 * (source.front + row.source.place)) (512 * row.sectors) told =
          subst (λ t. IfSome t (λ b. data_in row payload ≡ bytes_at (512 * (source.front + row.source.place)) (512 * row.sectors)
          b)) tells here in
          let front : source.front + row.source.place + j ≡ source.front + (row.source.place + j) = omega arith in
          let sector : sector_of (row.place + j) payload ≡ sector_of (source.front + own.sector) told =
          sym (part_sector row.place row.sectors j payload low)
          ∙ (ap (sector_of j) bytes
          ∙ (part_sector (source.front + row.source.place) row.sectors j told low ∙ ap (λ n. sector_of n told) front)) in
          ap (λ s. Some s) (sector ∙ ap (λ (p : ObjectPlace). sector_of (source.front + p.sector) told) same))
      | false ↦ λ out at there.
          copied_of sources payload told source k n place rows among named tells (All-tail Data row rows all) at there
    ] refl at there

-- ---- a source of the plan

some_place : (rows : List CopyRow) (k n : ℕ) → source_at rows k ≡ Some n
    → (place : ObjectPlace) × (source_place_at rows k ≡ Some place) × (place.number ≡ n)
some_place [] k n at = absurd cc
some_place (row ∷ rows) k n at =
    let own : ObjectPlace = record {
      level = row.source.level;
      number = row.source.number;
      sector = row.source.place + (k - row.lba);
    } in
    elim (is_within row.lba row.sectors k) as (λ b. cond b (Some row.source.number) (source_at rows k) ≡ Some n
    → (place : ObjectPlace) × (cond b (Some own) (source_place_at rows k) ≡ Some place) × (place.number ≡ n)) [
      | true ↦ λ at. (let number : row.source.number ≡ n = cc in (own, refl, number))
      | false ↦ λ at. some_place rows k n at
    ] at

-- the source of a number
source_among : (sources : List SourceState) (n : ℕ) → is_in (numbers_of sources) n ≡ true
    → (source : SourceState) × Contains sources source × (source.number ≡ n)
source_among [] n is = absurd cc
source_among (first ∷ sources) n is =
    elim (first.number == n) as (λ b. (first.number == n) ≡ b → (b || is_in (numbers_of sources) n) ≡ true
    → (source : SourceState) × Contains (first ∷ sources) source × (source.number ≡ n)) [
      | true ↦ λ same is. (first, (0, omega arith, refl), same_number first.number n same)
      | false ↦ λ other is. (let more = source_among sources n is in
          (more.0, (suc more.1.0, omega (arith, more.1.1), more.1.2), more.2))
    ] refl is

-- a receipt that is known tells bytes, where all do
told_by : (number : ℕ) (receipts : List NumberedReceipt) (receipt : ReceiptState) → AllTell true receipts
    → receipt_in receipts number ≡ Some receipt → is_some receipt.told ≡ true
told_by number [] receipt all is = absurd cc
told_by number (first ∷ receipts) receipt all is =
    let test = first.number == number in
    elim test as (λ b. cond b (Some first.receipt) (receipt_in receipts number) ≡ Some receipt → is_some receipt.told ≡ true) [
      | true ↦ λ is. (
          let same : first.receipt ≡ receipt = cc in
          subst (λ (r : ReceiptState). is_some r.told ≡ true) same (All-head (Tells true) first receipts all))
      | false ↦ λ is. told_by number receipts receipt (All-tail (Tells true) first receipts all) is
    ] (sym (first_receipt test first receipts number refl) ∙ is)

some_told : (told : Option (List ℕ)) → is_some told ≡ true → (bytes : List ℕ) × (told ≡ Some bytes)
some_told None is = absurd cc
some_told (Some bytes) is = (bytes, refl)

-- the receipt of an object that is in the store
receipt_of : (receipt : Option ReceiptState) (row : Option ObjectRow) (object : StoredObject)
    → stored_with receipt row ≡ Some object → receipt ≡ Some object.receipt
receipt_of None row object is = absurd cc
receipt_of (Some receipt) None object is = absurd cc
receipt_of (Some receipt) (Some row) object is =
    let same : object ≡ record { receipt = receipt; front = row.front } = cc in
    ap (λ (o : StoredObject). Some o.receipt) (sym same)

-- the place of a live sector is one of the volume's own objects
own_level : (n : ℕ) (place : ObjectPlace) → IsTrue (is_live n (Some place)) → place.level ≡ 0
own_level n place live = same_number place.level 0 (both_true (place.level == 0) (place.number == n) live).0

-- ---- the sectors

module _ (geometry : Geometry) (queue : QueueState) (pairs : List CopiedSector) (plan : PlanState) (copied : CopiedState)
    (image : Image)
    (is : IsPlanOf geometry queue pairs plan) (copy : IsCopyOf plan copied) (has : HasImage image queue)
    (all : AllTell true queue.receipts) where
  -- the image's sector is where the map has it, which is where the rows have it from
  held_at : (k n : ℕ) (sector : List ℕ) (place : ObjectPlace) (source : SourceState) (bytes : List ℕ)
      → source_place_at plan.rows k ≡ Some place → place.number ≡ n → settled_at queue.maps k ≡ source_place_at plan.rows k
      → IsTrue (is_live n (settled_at queue.maps k)) → source.number ≡ n → IsStoredSource queue source
      → source.receipt.told ≡ Some bytes → slice_get image k ≡ Some sector
      → sector_of (source.front + place.sector) bytes ≡ sector
  held_at k n sector place source bytes there named settled live own stored told at =
      let level = own_level n place (subst (λ p. IsTrue (is_live n p)) (settled ∙ there) live) in
      let holds : HoldsSector queue (Some place) sector =
      subst (λ p. HoldsSector queue p sector) (settled ∙ there) (has k sector at) in
      let object : StoredObject = record { receipt = source.receipt; front = source.front } in
      let found : stored_at queue place ≡ Some object =
      ap (λ l. stored_of queue (record { level = l; number = place.number })) level
      ∙ (ap (λ m. stored_of queue (record { level = 0; number = m })) (named ∙ sym own) ∙ stored) in
      let gives : GivesSector (Some object) place.sector sector =
      subst (λ f. GivesSector f place.sector sector) found holds in
      subst (λ t. IfSome t (λ b. sector_of (source.front + place.sector) b ≡ sector)) told gives.1

  pub live_sectors_copied : (k n : ℕ) (sector : List ℕ) → source_at plan.rows k ≡ Some n
      → IsTrue (is_live n (settled_at queue.maps k)) → slice_get image k ≡ Some sector
      → copied_in plan.rows copied.payload k ≡ Some sector
  live_sectors_copied k n sector at live held =
      let taken = pair_source k n pairs (sym (is.takes k) ∙ at) in
      let source = source_among plan.sources n (contained_in (numbers_of plan.sources) n ((is.named n).1 taken)) in
      let stored : IsStoredSource queue source.0 = All-contains (IsStoredSource queue) plan.sources source.0 is.stored source.1 in
      let receipt = receipt_of (receipt_in queue.receipts source.0.number) (row_of source.0.number queue.maps.objects.rows)
      (record { receipt = source.0.receipt; front = source.0.front }) stored in
      let told = some_told source.0.receipt.told (told_by source.0.number queue.receipts source.0.receipt all receipt) in
      let place = some_place plan.rows k n at in
      let same = held_at k n sector place.0 source.0 told.0 place.1 place.2 (is.places k n at live) live source.2 stored told.1
      held in
      copied_of plan.sources copied.payload told.0 source.0 k n place.0 plan.rows source.1 source.2 told.1
      copy.payload.contents at place.1
      ∙ ap (λ s. Some s) same
