-- A list that shows a plain volume whose first objects were folded into its image shows that volume as it opens.
use Rattle.std.proofs.Common.{◌≡◌, ℕ, ◌+◌, ◌-◌, ◌<◌, ◌≤◌, Option, Some, None, IfSome, List, [], ◌∷◌, take, drop, inl, inr, refl}
use Rattle.std.proofs.Common.{sym, ◌∙◌, ap, subst, arith}
use Rattle.std.proofs.Math.Seq.{take-add}
use Rattle.std.proofs.lemmas.Bool.{cases_lt}
use Rattle.std.specs.List.{slice_get}
use Rattle.std.proofs.lemmas.List.{drop-drop}
use Rattle.lsvd_base.specs.declared.entry.Entry.{Entry}
use Rattle.lsvd_base.specs.Image.{Image, after}
use Rattle.lsvd_base.proofs.SectorLemmas.{applies_in_parts}
use Rattle.object_stream.specs.declared.object.StreamObject.{StreamObject}
use Rattle.object_stream.specs.Stream.{Stream, Owners, owners, end_at, entries_in_object}
use Rattle.object_stream.specs.Laws.{from_object}
use Rattle.volume_maps.specs.declared.place.ObjectPlace.{ObjectPlace}
use Rattle.volume_maps.specs.Places.{left_at}
use Rattle.volume_maps.specs.Maps.{settled_at}
use Rattle.object_uploads.specs.State.{SealedState, QueueState}
use Rattle.object_uploads.specs.Image.{HasImage, AreCopied}
use Rattle.object_uploads.specs.Stream.{object_at, IsPlacedIn, AreSealedOf, AreOfStream}
use Rattle.object_uploads.proofs.PlacedLemmas.{IsPlaceIn}
use Rattle.obj_log.specs.State.{ObjLogState}
use Rattle.obj_log.specs.Changes.{expected_of_volume}
use Rattle.plain_disk.specs.State.{PlainState, stream_in, frontier_of, frontier_end, folded_to}
use Rattle.plain_disk.proofs.EndLemmas.{ends_grow}
use Rattle.plain_disk.proofs.FoundStreamLemmas.{slice_of_drop}
use Rattle.plain_disk.proofs.FoldLemmas.{MayFold, fold_from, owners_of_fold, ends_of_fold, last_of_fold, frontier_end_of_fold}
use Rattle.plain_disk.proofs.FoldLemmas.{entries_of_fold, unsealed_of_fold, last_end_of_fold}
use Rattle.refine_objects.specs.Shows.{settled_image}
use Rattle.refine_objects.specs.Laws.{ShownFromFirst}

-- where no object is sealed, the stream has none
none_of_none : (stream : Stream) (list : ObjLogState) (number end : ℕ) (entries : List Entry) (before : Owners)
    (objects : List StreamObject)
    → AreSealedOf stream (expected_of_volume list) number end entries before objects [] → objects ≡ []
none_of_none stream list number end entries before [] are = refl
none_of_none stream list number end entries before (object ∷ objects) are = absurd are

module _ (plain : PlainState) (number : ℕ) (h : MayFold plain number) where
  abbrev stream : Stream
  stream = stream_in plain

  abbrev folded : Stream
  folded = stream_in (folded_to number plain)

  -- an object past those that were folded is the same
  same_of_fold : (other : ℕ) → number < other → object_at folded other ≡ object_at stream other
  same_of_fold other past =
      let index : number - plain.number + (other - (number + 1)) ≡ other - (plain.number + 1) = omega (arith, past, h.from) in
      slice_of_drop (number - plain.number) (other - (number + 1)) plain.objects ∙ ap (slice_get plain.objects) index

  -- and has the same entries
  object_of_fold : (other : ℕ) → number < other → entries_in_object folded other ≡ entries_in_object stream other
  object_of_fold other past =
      let before : end_at folded (other - 1) ≡ end_at stream (other - 1) =
      ends_of_fold plain number h (other - 1) (omega (arith, past)) in
      let ends : end_at folded other ≡ end_at stream other = ends_of_fold plain number h other (omega (arith, past)) in
      let grown : end_at stream number ≤ end_at stream (other - 1) =
      ends_grow stream number (other - 1) h.valid.stream.ends (omega (arith, past)) in
      ap (λ from. take (end_at folded other - from) (drop (from - folded.end) folded.entries)) before
      ∙ (ap (λ end. take (end - end_at stream (other - 1)) (drop (end_at stream (other - 1) - folded.end) folded.entries)) ends
      ∙ ap (take (end_at stream other - end_at stream (other - 1)))
      (entries_of_fold plain number h (end_at stream (other - 1)) grown))

  placed_by : (k : ℕ) (found : Option ObjectPlace)
      → IfSome found (λ (place : ObjectPlace). (place.level ≡ 0 → place.number ≤ number) → IsPlacedIn stream k place)
      → IfSome found (IsPlacedIn folded k) → IfSome found (IsPlacedIn stream k)
  placed_by k None first later = tt
  placed_by k (Some place) first later = (
    λ own past.
        elim (cases_lt number place.number) [
          | inl above ↦
              subst (λ o. IsPlaceIn place.sector k (entries_in_object stream place.number) o) (same_of_fold place.number above)
              (subst (λ (entries : List Entry). IsPlaceIn place.sector k entries (object_at folded place.number))
              (object_of_fold place.number above) (later.0 own above))
          | inr low ↦ (first (λ level. low)).0 own past
        ],
    later.1,
  )

  -- the image up to the frontier's end
  image_of_fold : settled_image (folded_to number plain) ≡ settled_image plain
  image_of_fold =
      let ends : ℕ = end_at stream number in
      let next : ℕ = frontier_end plain in
      let d : ℕ = ends - plain.end in
      let first = fold_from plain number h in
      let order : ends ≤ next = ends_grow stream number (frontier_of plain) h.valid.stream.ends h.to in
      let sum : next - plain.end ≡ d + (next - ends) = omega (arith, first, order) in
      ap (λ end. after (after plain.opening (take d plain.entries)) (take (end - ends) (drop d plain.entries)))
      (frontier_end_of_fold plain number h)
      ∙ (sym (applies_in_parts plain.opening (take d plain.entries) (take (next - ends) (drop d plain.entries)))
      ∙ (ap (after plain.opening) (sym (take-add d (next - ends) plain.entries))
      ∙ ap (λ n. after plain.opening (take n plain.entries)) (sym sum)))

  -- the entries past the end of a later object, and the objects
  later_entries : (other : ℕ) → number ≤ other
      → (from_object other folded).entries ≡ (from_object other stream).entries
  later_entries other past =
      ap (λ end. drop (end - folded.end) folded.entries) (ends_of_fold plain number h other past)
      ∙ entries_of_fold plain number h (end_at stream other) (ends_grow stream number other h.valid.stream.ends past)

  later_objects : (other : ℕ) → number ≤ other
      → (from_object other folded).objects ≡ (from_object other stream).objects
  later_objects other past =
      let count : number - plain.number + (other - number) ≡ other - plain.number = omega (arith, past, h.from) in
      drop-drop (other - number) (number - plain.number) plain.objects ∙ ap (λ n. drop n plain.objects) count

  none_sealed : (list : ObjLogState) (frontier end : ℕ) (sealed : List SealedState) → number ≤ frontier → sealed ≡ []
      → AreSealedOf folded (expected_of_volume list) frontier end (from_object frontier folded).entries (owners folded frontier)
      (from_object frontier folded).objects sealed
      → AreSealedOf stream (expected_of_volume list) frontier end (from_object frontier stream).entries (owners stream frontier)
      (from_object frontier stream).objects sealed
  none_sealed list frontier end sealed past none are =
      let later = from_object frontier folded in
      let objects : (from_object frontier stream).objects ≡ [] =
      sym (later_objects frontier past)
      ∙ none_of_none folded list frontier end later.entries (owners folded frontier) later.objects
      (subst (AreSealedOf folded (expected_of_volume list) frontier end later.entries (owners folded frontier) later.objects)
      none are) in
      rw (none, objects) tt

pub shown_from_first : ShownFromFirst
shown_from_first data_at list plain number valid from to none first shows =
    let h : MayFold plain number = record { valid = valid; from = from; to = to } in
    let queue : QueueState = list.uploads.queue in
    let are = shows.stream.objects in
    let past : number ≤ queue.frontier = are.from in
    let objects : AreOfStream (expected_of_volume list) data_at (stream_in plain) list.uploads = record {
      valid = valid.stream;
      from = omega (arith, from, past);
      last = sym (last_of_fold plain number h) ∙ are.last;
      end = are.end ∙ ends_of_fold plain number h queue.frontier past;
      settled = λ k. are.settled k ∙ ap (λ (f : Owners). f k) (owners_of_fold plain number h queue.frontier past);
      placed = λ k. placed_by plain number h k (settled_at queue.maps k) (first k) (are.placed k);
      sealed = none_sealed plain number h list queue.frontier queue.end queue.sealed past none are.sealed;
      logged = λ k. are.logged k
          ∙ ap (λ (entries : List Entry). left_at data_at queue.end entries k) (later_entries plain number h queue.frontier past);
    } in
    record {
      geometry = shows.geometry;
      ancestors = shows.ancestors;
      stream = record {
        objects = objects;
        sectors = shows.stream.sectors;
        first = shows.stream.first ∙ last_end_of_fold plain number h;
        entries = shows.stream.entries ∙ unsealed_of_fold plain number h;
      };
      window = shows.window;
      image = subst (λ (image : Image). HasImage image queue) (image_of_fold plain number h) shows.image;
      receipts = shows.receipts;
      copied = λ tells alike.
          subst (λ (image : Image). AreCopied tells image queue) (image_of_fold plain number h) (shows.copied tells alike);
    }
