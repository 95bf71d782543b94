-- A plan of a batch may be sealed, and what is written of it is sealed.
use Rattle.std.proofs.Common.{◌≡◌, ℕ, ◌+◌, ◌-◌, ◌*◌, ◌^◌, ◌<◌, ◌≤◌, inl, inr, Some, None, List, [], ◌++◌, length, get_or, take}
use Rattle.std.proofs.Common.{drop, refl, sym, ap, subst, ◌∙◌, arith, length-append}
use Rattle.std.specs.Prelude.{IsTrue, is_some}
use Rattle.std.specs.List.{All, sum_by}
use Rattle.std.specs.Option.{option_map}
use Rattle.std.proofs.lemmas.Bool.{cases_lt, both_ways}
use Rattle.std.proofs.lemmas.Bool.Decides.{nat_tests}
use Rattle.std.proofs.lemmas.List.{take-append-drop, drop_at}
use Rattle.std.proofs.lemmas.List.Elements.{All-take, All-weaker, All-get_or}
use Rattle.std.proofs.lemmas.List.Sums.{sum_by_more}
use Rattle.lsvd_base.specs.declared.geometry.Geometry.{Geometry}
use Rattle.lsvd_base.specs.declared.entry.Entry.{Entry}
use Rattle.lsvd_base.specs.declared.entry.Entry.TheVariants.{Zero}
use Rattle.lsvd_base.specs.Limits.{is_within_limits}
use Rattle.lsvd_base.specs.Range.{is_in_range}
use Rattle.lsvd_base.specs.Laws.{EndsBy}
use Rattle.extent_map.specs.declared.extent.Extent.{Extent}
use Rattle.extent_map.specs.Extents.{place_at, IsShortest, AllFit}
use Rattle.extent_map.specs.Join.{EndBy}
use Rattle.object_format.specs.declared.data_row.DataRow.{DataRow}
use Rattle.object_format.specs.declared.expected.Expected.{Expected}
use Rattle.object_format.specs.declared.rows.Rows.TheVariants.{Data}
use Rattle.object_format.specs.Layout.{front_sectors}
use Rattle.object_format.specs.Header.{HasWidths}
use Rattle.object_format.specs.Rows.{data_rows_may_stand}
use Rattle.object_format.specs.Object.{IsObject}
use Rattle.object_format.specs.Writing.{object_header_of, payload_of, front_bytes}
use Rattle.object_format.specs.Laws.{WritesObjects}
use Rattle.object_format.proofs.LawLemmas.{writes_objects}
use Rattle.object_stream.specs.Changes.{change_at, change_in}
use Rattle.object_stream.specs.Replay.{HasParts}
use Rattle.batcher.specs.declared.place.BatchPlace.{BatchPlace}
use Rattle.batcher.specs.declared.plan.SealPlan.{SealPlan}
use Rattle.batcher.specs.declared.sealing.WrittenObject.{WrittenObject}
use Rattle.batcher.specs.Batch.{data_sectors, max_entries, fullness, fullness_of_first, IsSealedCount}
use Rattle.batcher.specs.Places.{batch_place_number, place_on, place_by, change_of}
use Rattle.batcher.specs.Plans.{IsPlanOf}
use Rattle.batcher.specs.Invariant.{AreInRange, IsBatch}
use Rattle.batcher.specs.Rows.{rows_of, payload_bytes, extent_payload, AreInBodies}
use Rattle.batcher.specs.Writing.{MayBeSealed, IsWritten}
use Rattle.batcher.specs.State.{BatchState}
use Rattle.batcher.specs.Sealing.{IsExpectedOf, IsSealed}
use Rattle.batcher.proofs.Fulls.{not_full, full_has_some, entry_is_short}
use Rattle.batcher.proofs.PlaceLemmas.{HasSector, place_has, place_inside, places_change}
use Rattle.batcher.proofs.ExtentLemmas.{Agree, in_bodies, end_inside, payload_few}
use Rattle.batcher.proofs.RowLemmas.{rows_of_few}
use Rattle.batcher.proofs.SpellingLemmas.{rows_of_stand}
use Rattle.batcher.proofs.PieceLemmas.{length-payload}
use Rattle.batcher.proofs.ChangeLemmas.{rows_of_change}
use Rattle.batcher.proofs.Written.{payload_is, may_be_written}

-- ---- how much an object takes

ends_by : (geometry : Geometry) (entries : List Entry) → IsTrue (is_within_limits geometry) → AreInRange geometry entries
    → All (EndsBy geometry.sectors) entries
ends_by geometry entries limits in_range =
    All-weaker (λ entry. IsTrue (is_in_range geometry entry)) (EndsBy geometry.sectors)
    (λ entry is. (entry_is_short geometry entry limits is).2) entries in_range

has_batch : (geometry : Geometry) → IsTrue (is_within_limits geometry) → (0 < geometry.batch) × (geometry.batch ≤ 65536)
has_batch geometry limits = (grind (arith, nat_tests), grind (arith, nat_tests))

-- an object takes at least one entry
pub takes_some : (batch : ℕ) (entries : List Entry) (n : ℕ) → 0 < batch → 0 < length entries
    → IsSealedCount batch entries n → 0 < n
takes_some batch entries n positive some is =
    elim (cases_lt 0 n) [
      | inl takes ↦ takes
      | inr bare ↦
          let none : n ≡ 0 = omega arith in
          elim is.full_or_all [
            | inl full ↦ absurd (both_ways (is_some (fullness batch 0 0)) (full_has_some batch positive)
                (ap (λ m. is_some (fullness_of_first batch entries m)) (sym none) ∙ full))
            | inr all ↦ absurd (omega (arith, all, some, none))
          ]
    ]

-- an object takes at most the most entries, and fewer sectors of data than the batch and one write
pub takes_few : (geometry : Geometry) (entries : List Entry) (n : ℕ) → IsTrue (is_within_limits geometry)
    → AreInRange geometry entries
    → IsSealedCount geometry.batch entries n → 0 < n → (n ≤ max_entries) × (sum_by data_sectors (take n entries) ≤ 131071)
takes_few geometry entries n limits in_range is some =
    let m = n - 1 in
    let next : n ≡ m + 1 = omega (arith, some) in
    let low : m < length entries = omega (arith, is.within, some) in
    let before = not_full geometry.batch (sum_by data_sectors (take m entries)) m (is.fewest m (omega (arith, some))) in
    let d : Entry = Zero 0 0 in
    let last = get_or entries m d in
    let short = entry_is_short geometry last limits (All-get_or (λ entry. IsTrue (is_in_range geometry entry)) entries m d low
    in_range) in
    let sum : sum_by data_sectors (take n entries) ≡ sum_by data_sectors (take m entries) + data_sectors last =
    ap (λ k. sum_by data_sectors (take k entries)) next ∙ sum_by_more data_sectors entries m d low in
    (omega (arith, before.1, next), omega (arith, sum, before.0, short.0, short.1, (has_batch geometry limits).1))

-- ---- a plan may be sealed

module _ (geometry : Geometry) (first : ℕ) (entries : List Entry) (sectors : ℕ) (plan : SealPlan)
    (is : IsBatch geometry first entries sectors plan)
    (some : 0 < length entries) (extents : List (Extent BatchPlace)) (are : extents ≡ plan.changes.rows)
    (shortest : IsShortest place_on extents)
  where
    gets : (k : ℕ) → place_at place_on extents k ≡ place_by 0 (take plan.entries entries) k
    gets k = ap (λ list. place_at place_on list k) are ∙ is.planned.changes k

    agree : Agree (place_by 0 (take plan.entries entries)) extents
    agree k place gives = sym (gets k) ∙ gives

    takes : 0 < plan.entries
    takes = takes_some geometry.batch entries plan.entries (has_batch geometry is.limits).0 some is.planned.count

    few : (plan.entries ≤ max_entries) × (sum_by data_sectors (take plan.entries entries) ≤ 131071)
    few = takes_few geometry entries plan.entries is.limits is.in_range is.planned.count takes

    bodies : AreInBodies entries extents
    bodies =
        in_bodies entries (place_by 0 (take plan.entries entries)) extents shortest agree
        (λ k at sector gives.
        subst (λ all. HasSector all at sector) (take-append-drop plan.entries entries)
        (place_has [] (take plan.entries entries) (drop plan.entries entries) 0 k at sector refl gives))

    ends : EndBy geometry.sectors extents
    ends =
        end_inside geometry.sectors (place_by 0 (take plan.entries entries)) extents shortest agree
        (λ k place gives.
        place_inside geometry (take plan.entries entries) 0 k place
        (All-take (EndsBy geometry.sectors) plan.entries entries (ends_by geometry entries is.limits is.in_range)) gives)

    sum_few : sum_by extent_payload extents ≤ 131071
    sum_few = omega (arith, payload_few (take plan.entries entries) extents geometry.sectors shortest ends gets, few.1)

    rows_few : length (rows_of extents) ≤ 65536
    rows_few = omega (arith, rows_of_few extents, ap length are, is.planned.few, few.0)

    pub may_be_sealed : (expected : Expected) → AllFit batch_place_number extents → expected.sectors ≡ geometry.sectors
        → expected.end_before ≡ Some first
        → MayBeSealed expected first (first + plan.entries) entries extents
    may_be_sealed expected fits volume end_before = record {
      some = omega (arith, takes);
      end_before = end_before;
      fits = fits;
      rows = rows_few;
      payload = sum_few;
      spelling =
          subst (λ n. IsTrue (data_rows_may_stand n (sum_by extent_payload extents) None 0 (rows_of extents))) (sym volume)
          (rows_of_stand geometry.sectors extents shortest ends);
      bodies = bodies;
    }

    -- the object does what the entries do that it takes
    pub changes_are : (rows : List DataRow) → rows ≡ rows_of extents → (k : ℕ)
        → change_in rows (payload_bytes entries extents) k ≡ change_at (take plan.entries entries) k
    changes_are rows is_rows k =
        ap (λ list. change_in list (payload_bytes entries extents) k) is_rows
        ∙ rows_of_change entries extents bodies k
        ∙ ap (option_map (change_of entries)) (gets k)
        ∙ subst (λ all. option_map (change_of all) (place_by 0 (take plan.entries entries) k)
        ≡ change_at (take plan.entries entries) k)
        (take-append-drop plan.entries entries)
        (places_change [] (take plan.entries entries) (drop plan.entries entries) 0 k refl)

-- ---- what is written is an object

-- the front is as long as the header says, so that the payload is what comes after it
payload_after : (bytes front payload : List ℕ) (n : ℕ) → bytes ≡ front ++ payload → length front ≡ n → payload ≡ drop n bytes
payload_after bytes front payload n is size = sym (ap (drop n) is ∙ drop_at front payload n size)

pub has_parts : WritesObjects → (expected : Expected) (first end : ℕ) (entries : List Entry) (extents : List (Extent BatchPlace))
    (written : WrittenObject)
    → IsWritten expected first end entries extents written → MayBeSealed expected first end entries extents
    → length expected.uuid ≡ 16 → expected.number < 2 ^ 64 → end < 2 ^ 64
    → HasParts expected written.object (object_header_of expected first end (Data written.rows)) (Data written.rows)
    (payload_bytes entries extents)
has_parts writes expected first end entries extents written is may uuid number fits =
    let rows = Data written.rows in
    let header = object_header_of expected first end rows in
    let payload = payload_bytes entries extents in
    let sum : payload_of rows ≡ sum_by extent_payload extents = payload_is extents written.rows is.rows in
    let size : length payload ≡ 512 * payload_of rows = omega (arith, length-payload entries extents may.bodies, sum) in
    let few : length written.rows.items ≤ 65536 = omega (arith, ap length is.rows, may.rows) in
    let widths : HasWidths header =
    record {
      uuid = uuid;
      number = number;
      first_seq = omega (arith, may.some, fits);
      end_seq = fits;
      rows = omega (arith, few);
      payload = omega (arith, sum, may.payload);
    } in
    let object = writes expected first end rows payload widths (may_be_written expected first end entries extents written.rows
    is.rows may) size in
    let whole = object.head.has_size in
    record {
      is_object = subst (λ bytes. IsObject bytes (length bytes) expected header rows) (sym is.bytes) object;
      payload_is =
          payload_after written.object (front_bytes header rows) payload (512 * front_sectors header) is.bytes
          (omega (arith, whole, length-append (front_bytes header rows) payload, size));
    }

-- what is written of a plan, with the plan of the rest, is the sealed batch
pub is_sealed : (batch : BatchState) (sectors : ℕ) (plan : SealPlan)
    (is : IsBatch batch.geometry batch.first batch.entries sectors plan)
    → 0 < length batch.entries → (extents : List (Extent BatchPlace)) → extents ≡ plan.changes.rows → IsShortest place_on extents
    → (expected : Expected) → AllFit batch_place_number extents → IsExpectedOf batch expected
    → (written : WrittenObject) → IsWritten expected batch.first (batch.first + plan.entries) batch.entries extents written
    → length expected.uuid ≡ 16 → expected.number < 2 ^ 64
    → (rest : SealPlan) → IsPlanOf batch.geometry.batch (drop plan.entries batch.entries) rest
    → batch.reserved ≤ rest.changes.spare
    → IsSealed batch expected
    (record {
      object = written.object;
      rows = written.rows;
      entries = plan.entries;
      rest = record { after = plan.entries; plan = rest };
    })
is_sealed batch sectors plan is some extents are shortest expected fits due written wrote uuid number rest planned room =
    let may = may_be_sealed batch.geometry batch.first batch.entries sectors plan is some extents are shortest expected fits
    due.sectors due.end_before in
    record {
      count = is.planned.count;
      payload = payload_bytes batch.entries extents;
      parts =
          has_parts writes_objects expected batch.first (batch.first + plan.entries) batch.entries extents written wrote may
          uuid number
          (omega (arith, is.seqs, is.planned.count.within));
      changes = changes_are batch.geometry batch.first batch.entries sectors plan is some extents are shortest written.rows.items
          wrote.rows;
      after = refl;
      rest = record { within = is.planned.count.within; planned = planned };
      room = room;
    }
