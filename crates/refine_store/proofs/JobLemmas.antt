-- The job of a put that began has the bytes of the plain volume's object.
use Rattle.std.proofs.Common.{◌≡◌, ℕ, zero, suc, ◌+◌, ◌-◌, ◌<◌, ◌≤◌, inl, inr, true, Option, Some, None, List, [], ◌∷◌, length}
use Rattle.std.proofs.Common.{take}
use Rattle.std.proofs.Common.{drop, refl, sym, ◌∙◌, ap, subst, arith}
use Rattle.std.specs.Prelude.{IsTrue}
use Rattle.std.specs.List.{slice_get, All, AllByRecursion}
use Rattle.std.proofs.lemmas.Bool.{cases_lt}
use Rattle.std.proofs.lemmas.List.Elements.{All-take, All-drop, All-weaker}
use Rattle.std.proofs.lemmas.Option.{slice_get_past}
use Rattle.std.proofs.Math.Seq.{take-add}
use mathlib.Core.Path.{fun_ext}
use Rattle.lsvd_base.specs.declared.entry.Entry.{Entry}
use Rattle.lsvd_base.specs.Image.{Image, after}
use Rattle.lsvd_base.specs.Laws.{EndsBy}
use Rattle.lsvd_base.specs.Range.{is_in_range}
use Rattle.lsvd_base.proofs.SectorLemmas.{applies_in_parts}
use Rattle.object_format.specs.declared.expected.Expected.{Expected}
use Rattle.object_stream.specs.declared.object.StreamObject.{StreamObject}
use Rattle.object_stream.specs.declared.owner.Owner.{Owner}
use Rattle.object_stream.specs.Changes.{change_at}
use Rattle.object_stream.specs.Laws.{from_object, changed_by}
use Rattle.object_stream.specs.Replay.{expected_at}
use Rattle.object_stream.specs.Stream.{Stream, Owners, owners, is_own, after_object, after_objects, end_after, end_at}
use Rattle.object_stream.specs.Stream.{last_number}
use Rattle.object_stream.specs.Stream.{EndsFollow, entries_in_object}
use Rattle.object_stream.proofs.ChangeLemmas.{changes_make_image}
use Rattle.object_stream.proofs.StillLemmas.{still_own}
use Rattle.object_stream.proofs.StreamLemmas.{keeps_owners, follow_first}
use Rattle.object_stream.proofs.ValueLemmas.{length-after}
use Rattle.volume_maps.specs.declared.place.ObjectPlace.{ObjectPlace}
use Rattle.volume_maps.specs.Live.{is_live}
use Rattle.volume_maps.specs.Laws.{place_owner}
use Rattle.volume_maps.specs.Maps.{settled_at}
use Rattle.object_uploads.specs.declared.rows.SealedRows.{SealedRows}
use Rattle.object_uploads.specs.declared.rows.SealedRows.TheVariants as sealed_rows
use Rattle.object_uploads.specs.State.{JobState, SealedState}
use Rattle.object_uploads.specs.Queue.{HasBytesAt}
use Rattle.object_uploads.specs.Order.{IsUploads}
use Rattle.object_uploads.specs.Changes.{IsJobOf}
use Rattle.object_uploads.specs.Image.{IsCopiedIfCopy, TellAlike}
use Rattle.object_uploads.specs.Stream.{HoldsContent, AreSealedOf}
use Rattle.obj_log.specs.State.{ObjLogState}
use Rattle.obj_log.specs.Changes.{expected_of_volume}
use Rattle.plain_disk.specs.State.{PlainState, stream_in, frontier_of}
use Rattle.plain_disk.specs.Valid.{IsPlainVolume}
use Rattle.plain_disk.proofs.EndLemmas.{ends_from, ends_grow}
use Rattle.plain_disk.proofs.Overlaid.{EndsBy-in_range}
use Rattle.refine_objects.specs.Shows.{settled_image, ShowsObjects}
use Rattle.refine_objects.proofs.ShowLemmas.{shown_have_counts}
use Rattle.refine_store.specs.Puts.{image_up_to, HasSourceSectors, IsObjectOf}
use Rattle.refine_store.specs.Laws.{JobIsObject}
use Rattle.refine_store.proofs.ValueLemmas.{long_image}
use Rattle.refine_store.proofs.ObjectLemmas.{get_of_rest, past_both, end_up_to, entries_at, entries_past_first, entries_of_first}

-- ---- a sealed object at an index

-- the sealed object that has these bytes at an index is the object there, and what holds of each sealed one holds of it
record IsSealedAt (Of : List ℕ → SealedRows → Type 0) (stream : Stream) (volume : Expected) (number end : ℕ)
    (entries : List Entry) (before : Owners) (objects : List StreamObject) (i : ℕ) (bytes : List ℕ) : Type 0 where
  object : StreamObject
  there : slice_get objects i ≡ Some object
  rows : SealedRows
  holds : HoldsContent stream (expected_at volume (number + 1 + i) (end_after end (take i objects))) object.content
      (entries_at end entries objects i object) (after_objects number end entries before (take i objects)) object.end bytes rows
  of : Of bytes rows

module _ (Of : List ℕ → SealedRows → Type 0) (stream : Stream) (volume : Expected) where
  sealed_next : (number end : ℕ) (entries : List Entry) (before : Owners) (first : StreamObject) (more : List StreamObject)
      (i : ℕ) (bytes : List ℕ)
      → EndsFollow end (first ∷ more)
      → IsSealedAt Of stream volume (number + 1) first.end (drop (first.end - end) entries)
      (after_object (number + 1) first.content (take (first.end - end) entries) before) more i bytes
      → IsSealedAt Of stream volume number end entries before (first ∷ more) (suc i) bytes
  sealed_next number end entries before first more i bytes follow at =
      let last = end_after first.end (take i more) in
      let owned = after_objects number end entries before (first ∷ take i more) in
      let sum : number + 1 + 1 + i ≡ number + 1 + suc i = omega arith in
      record {
        object = at.object;
        there = at.there;
        rows = at.rows;
        of = at.of;
        holds =
            subst (λ n. HoldsContent stream (expected_at volume n last) at.object.content
            (entries_at end entries (first ∷ more) (suc i) at.object) owned at.object.end bytes at.rows) sum
            (subst (λ list. HoldsContent stream (expected_at volume (number + 1 + 1 + i) last) at.object.content list owned
            at.object.end bytes at.rows)
            (entries_past_first end entries first at.object i more follow) at.holds);
      }

  sealed_first : (number end : ℕ) (entries : List Entry) (before : Owners) (object : StreamObject) (more : List StreamObject)
      (rows : SealedRows) (bytes : List ℕ)
      → HoldsContent stream (expected_at volume (number + 1) end) object.content (take (object.end - end) entries) before
      object.end bytes rows → Of bytes rows
      → IsSealedAt Of stream volume number end entries before (object ∷ more) 0 bytes
  sealed_first number end entries before object more rows bytes holds of =
      let sum : number + 1 ≡ number + 1 + 0 = omega arith in
      record {
        object = object;
        there = refl;
        rows = rows;
        of = of;
        holds =
            subst (λ n. HoldsContent stream (expected_at volume n end) object.content
            (entries_at end entries (object ∷ more) 0 object) before object.end bytes rows) sum
            (subst (λ list. HoldsContent stream (expected_at volume (number + 1) end) object.content list before object.end bytes
            rows)
            (entries_of_first end entries object more) holds);
      }

  sealed_at : (number end : ℕ) (entries : List Entry) (before : Owners) (objects : List StreamObject) (sealed : List SealedState)
      (i : ℕ) (bytes : List ℕ)
      → EndsFollow end objects → AreSealedOf stream volume number end entries before objects sealed
      → AllByRecursion (λ (s : SealedState). Of s.bytes s.rows) sealed → HasBytesAt i sealed bytes
      → IsSealedAt Of stream volume number end entries before objects i bytes
  sealed_at number end entries before [] [] i bytes follow are all at = absurd at
  sealed_at number end entries before [] (first ∷ sealed) i bytes follow are all at = absurd are
  sealed_at number end entries before (object ∷ objects) [] i bytes follow are all at = absurd are
  sealed_at number end entries before (object ∷ objects) (first ∷ sealed) zero bytes follow are all at =
      let own = take (object.end - end) entries in
      sealed_first number end entries before object objects first.rows bytes
      (subst (λ list. HoldsContent stream (expected_at volume (number + 1) end) object.content own before object.end list
      first.rows) (sym at) are.0.holds)
      (subst (λ list. Of list first.rows) (sym at) all.0)
  sealed_at number end entries before (object ∷ objects) (first ∷ sealed) (suc i) bytes follow are all at =
      let own = take (object.end - end) entries in
      sealed_next number end entries before object objects i bytes follow
      (sealed_at (number + 1) object.end (drop (object.end - end) entries)
      (after_object (number + 1) object.content own before) objects sealed i bytes follow.1 are.1 all.1 at)

-- the ends after a number go on from that of its object
follow_from : (end n : ℕ) (objects : List StreamObject) → EndsFollow end objects
    → EndsFollow (end_after end (take n objects)) (drop n objects)
follow_from end zero objects follow = follow
follow_from end (suc n) [] follow = tt
follow_from end (suc n) (object ∷ more) follow = follow_from object.end n more follow.1

-- an owner is an object just where the place is in it
is_live_by : (source : ℕ) (place : Option ObjectPlace) (owner : Option Owner) → place_owner place ≡ owner
    → is_own source owner ≡ true → IsTrue (is_live source place)
is_live_by source None owner same own = ap (is_own source) same ∙ own
is_live_by source (Some place) owner same own = ap (is_own source) same ∙ own

-- entries that change a sector in no way leave it
unchanged : (image : Image) (entries : List Entry) (k : ℕ) → All (EndsBy (length image)) entries → change_at entries k ≡ None
    → slice_get (after image entries) k ≡ slice_get image k
unchanged image entries k inside none =
    elim (cases_lt k (length image)) [
      | inl low ↦
          changes_make_image image entries k inside low ∙ ap (λ change. changed_by change (slice_get image k)) none
      | inr past ↦
          slice_get_past (after image entries) k (omega (arith, length-after image entries inside, past))
          ∙ sym (slice_get_past image k past)
    ]

-- ---- the job

module _ (data_at : ℕ → ℕ) (log : ObjLogState) (plain : PlainState) (number : ℕ) (job : JobState)
    (uploads : IsUploads log.uploads) (valid : IsPlainVolume plain) (shows : ShowsObjects data_at log plain)
    (past : log.uploads.queue.frontier < number) (told : TellAlike true log.uploads.queue)
    (is_job : IsJobOf log.uploads number job) where
  abbrev volume : Expected
  volume = expected_of_volume log

  abbrev frontier : ℕ
  frontier = log.uploads.queue.frontier

  abbrev stream : Stream
  stream = stream_in plain

  abbrev tail : Stream
  tail = from_object frontier stream

  abbrev i : ℕ
  i = number - (frontier + 1)

  from : plain.number ≤ frontier
  from = shows.stream.objects.from

  -- the image that a copy past the frontier has its sectors of
  abbrev Copied : List ℕ → SealedRows → Type 0
  Copied bytes rows = IsCopiedIfCopy true (settled_image plain) frontier log.uploads.queue.maps bytes rows

  at : IsSealedAt Copied stream volume frontier (end_at stream frontier) tail.entries (owners stream frontier) tail.objects i
      job.bytes
  at =
      let are = shows.stream.objects in
      let owned = owners stream frontier in
      sealed_at Copied stream volume frontier (end_at stream frontier) tail.entries owned tail.objects log.uploads.queue.sealed i
      job.bytes
      (follow_from plain.end (frontier - plain.number) plain.objects valid.stream.ends)
      (subst (λ end. AreSealedOf stream volume frontier end tail.entries owned tail.objects log.uploads.queue.sealed) are.end
      are.sealed)
      (shows.copied true told) is_job.bytes

  sealed : frontier ≤ last_number stream
  sealed = let are = shows.stream.objects in omega (arith, are.last, uploads.last)

  index : i ≡ number - 1 - frontier
  index = omega (arith, past)

  -- the end of the object before, and the owners after it
  before : end_after (end_at stream frontier) (take i tail.objects) ≡ end_at stream (number - 1)
  before =
      ap (λ n. end_after (end_at stream frontier) (take n tail.objects)) index
      ∙ (keeps_owners stream frontier (number - 1) valid.stream from sealed (omega (arith, past))).1

  owned : after_objects frontier (end_at stream frontier) tail.entries (owners stream frontier) (take i tail.objects)
      ≡ owners stream (number - 1)
  owned =
      ap (λ n. after_objects frontier (end_at stream frontier) tail.entries (owners stream frontier) (take n tail.objects)) index
      ∙ fun_ext (keeps_owners stream frontier (number - 1) valid.stream from sealed (omega (arith, past))).0

  there : slice_get plain.objects (number - (plain.number + 1)) ≡ Some at.object
  there =
      sym (get_of_rest (frontier - plain.number) i (number - (plain.number + 1)) plain.objects (omega (arith, from, past)))
      ∙ at.there

  ends : end_at stream number ≡ at.object.end
  ends =
      let next : number - plain.number ≡ suc (number - (plain.number + 1)) = omega (arith, from, past) in
      ap (λ n. end_after plain.end (take n plain.objects)) next ∙ end_up_to plain.end (number - (plain.number + 1)) plain.objects
      at.object there

  entries : entries_at (end_at stream frontier) tail.entries tail.objects i at.object ≡ entries_in_object stream number
  entries =
      let end = end_at stream frontier in
      let low = ends_from plain frontier valid in
      let high = ends_grow stream frontier (number - 1) valid.stream.ends (omega (arith, past)) in
      ap (λ last. take (at.object.end - last) (drop (last - end) tail.entries)) before
      ∙ ap (take (at.object.end - end_at stream (number - 1))) (past_both plain.end end (end_at stream (number - 1))
      plain.entries low high)
      ∙ ap (λ last. take (last - end_at stream (number - 1)) (drop (end_at stream (number - 1) - plain.end) plain.entries))
      (sym ends)

  -- ---- a copy

  frontier_is : frontier ≡ frontier_of plain
  frontier_is = (shown_have_counts data_at log plain uploads valid shows).frontier

  -- a sector that its source owns before the object was the source's at the frontier, and the image has not changed there
  module _ (k source : ℕ) (low : source ≤ frontier) (own : is_own source (owners stream (number - 1) k) ≡ true) where
    abbrev before_it : List StreamObject
    before_it = take i tail.objects

    still : (is_own source (owners stream frontier k) ≡ true)
        × (change_at (take (end_after (end_at stream frontier) before_it - end_at stream frontier) tail.entries) k ≡ None)
    still =
        still_own source frontier (end_at stream frontier) tail.entries (owners stream frontier) before_it k low
        (follow_first (end_at stream frontier) i tail.objects
        (follow_from plain.end (frontier - plain.number) plain.objects valid.stream.ends))
        (ap (λ (os : Owners). is_own source (os k)) owned ∙ own)

    image_same : slice_get (image_up_to plain (number - 1)) k ≡ slice_get (settled_image plain) k
    image_same =
        let from = end_at stream frontier - plain.end in
        let more = end_at stream (number - 1) - end_at stream frontier in
        let low_end = ends_from plain frontier valid in
        let grown = ends_grow stream frontier (number - 1) valid.stream.ends (omega (arith, past)) in
        let sum : end_at stream (number - 1) - plain.end ≡ from + more = omega (arith, low_end, grown) in
        let part = take more (drop from plain.entries) in
        let settled : settled_image plain ≡ image_up_to plain frontier =
        ap (λ n. after plain.opening (take (end_at stream n - plain.end) plain.entries)) (sym frontier_is) in
        let changed : change_at part k ≡ None =
        ap (λ end. change_at (take (end - end_at stream frontier) tail.entries) k) (sym before) ∙ still.1 in
        let split : image_up_to plain (number - 1) ≡ after (image_up_to plain frontier) part =
        ap (λ n. after plain.opening (take n plain.entries)) sum
        ∙ ap (after plain.opening) (take-add from more plain.entries)
        ∙ applies_in_parts plain.opening (take from plain.entries) part in
        let g = plain.geometry in
        let all = All-weaker (λ entry. is_in_range g entry ≡ true) (EndsBy g.sectors) (EndsBy-in_range g) plain.entries
        valid.in_range in
        let inside : All (EndsBy (length (image_up_to plain frontier))) part =
        subst (λ n. All (EndsBy n) part) (sym (long_image plain valid frontier))
        (All-take (EndsBy g.sectors) more (drop from plain.entries) (All-drop (EndsBy g.sectors) from plain.entries all)) in
        ap (λ (image : Image). slice_get image k) split
        ∙ unchanged (image_up_to plain frontier) part k inside changed
        ∙ ap (λ (image : Image). slice_get image k) (sym settled)

  -- so a copy has the sectors that its source owned
  copied_by : (rows : SealedRows) → Copied job.bytes rows → HasSourceSectors plain number job.bytes rows
  copied_by (sealed_rows.Data list) is = tt
  copied_by (sealed_rows.Copy list) is = λ k source sector from own held.
      (let low = is.sources k source from in
      let live = is_live_by source (settled_at log.uploads.queue.maps k) (owners stream frontier k)
      (shows.stream.objects.settled k) (still k source low own).0 in
      is.sectors refl k source sector from live (sym (image_same k source low own) ∙ held))
  copied_by sealed_rows.Checkpoint is = tt

  is_object : IsObjectOf volume plain number job.bytes
  is_object =
      let object = at.object in
      let own = entries_in_object stream number in
      let last = end_after (end_at stream frontier) (take i tail.objects) in
      let them = after_objects frontier (end_at stream frontier) tail.entries (owners stream frontier) (take i tail.objects) in
      let sum : frontier + 1 + i ≡ number = omega (arith, past) in
      let Holds : ℕ → ℕ → List Entry → Owners → Type 0 =
      λ n end list os. HoldsContent stream (expected_at volume n end) object.content list os object.end job.bytes at.rows in
      inr (record {
        past = omega (arith, from, past);
        object = object;
        there = there;
        rows = at.rows;
        copied = copied_by at.rows at.of;
        holds =
            subst (λ os. Holds number (end_at stream (number - 1)) own os) owned
            (subst (λ list. Holds number (end_at stream (number - 1)) list them) entries
            (subst (λ end. Holds number end (entries_at (end_at stream frontier) tail.entries tail.objects i object) them) before
            (subst (λ n. Holds n last (entries_at (end_at stream frontier) tail.entries tail.objects i object) them) sum
            at.holds)));
      })

pub job_is_object : JobIsObject
job_is_object data_at objects plain number job uploads valid shows past within told is_job =
    is_object data_at objects plain number job uploads valid shows past told is_job
