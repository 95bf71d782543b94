-- The objects of a volume stay those of a stream that grows.
use Rattle.std.proofs.Common.{◌≡◌, ℕ, zero, suc, ◌+◌, ◌-◌, ◌≤◌, Option, Some, None, List, [], ◌∷◌, ◌++◌, length, take, drop}
use Rattle.std.proofs.Common.{refl, sym, ◌∙◌, ap, subst, arith, length-drop, length-append}
use Rattle.std.specs.Prelude.{IfSome}
use Rattle.std.specs.Option.{option_or}
use Rattle.std.proofs.lemmas.List.{drop-drop, take-append-le, drop-append-le}
use Rattle.std.proofs.Math.Seq.{take-length}
use Rattle.lsvd_base.specs.declared.entry.Entry.{Entry}
use Rattle.extent_map.specs.Extents.{place_at}
use Rattle.object_format.specs.declared.expected.Expected.{Expected}
use Rattle.object_stream.specs.declared.object.Content.TheVariants.{Data, Copy}
use Rattle.object_stream.specs.declared.object.StreamObject.{StreamObject}
use Rattle.object_stream.specs.Stream.{Owners, Stream, after_object, after_objects, owners, end_after, end_at, last_number}
use Rattle.object_stream.specs.Stream.{objects_to, unsealed, GoesTo, EndsFollow, IsStream}
use Rattle.object_stream.specs.Replay.{expected_at}
use Rattle.object_stream.specs.Laws.{from_object}
use Rattle.object_stream.proofs.StreamLemmas.{goes_on, end_no_earlier, end_in_parts, follow_first}
use Rattle.volume_maps.specs.declared.place.ObjectPlace.{ObjectPlace}
use Rattle.volume_maps.specs.Places.{object_on, log_on, place_left_by, left_at}
use Rattle.volume_maps.specs.Maps.{settled_at, logged_at}
use Rattle.volume_maps.specs.Laws.{place_owner}
use Rattle.volume_maps.proofs.SettleLemmas.{left_in_parts}
use Rattle.object_uploads.specs.declared.rows.SealedRows.{SealedRows}
use Rattle.object_uploads.specs.declared.rows.SealedRows.TheVariants as sealed_rows
use Rattle.object_uploads.specs.State.{SealedState, UploadsState}
use Rattle.object_uploads.specs.Queue.{just_sealed, IsEntered}
use Rattle.object_uploads.specs.Order.{PlaceFits, IsUploads}
use Rattle.object_uploads.specs.Changes.{IsSealedNext}
use Rattle.object_uploads.specs.Stream.{IsPlacedInherited, IsPlacedIn, IsSealedOf, AreSealedOf, AreOfStream}
use Rattle.object_uploads.specs.Laws.{with_entry, with_data_object, StreamBegins, EnteringKeepsStream, SealingKeepsStream}
use Rattle.object_uploads.specs.Laws.{SealingCopyKeepsStream}
use Rattle.object_uploads.proofs.PlacedLemmas.{AreUpTo, settled_up_to, HasSameEntries, settled_still, sealed_still}
use Rattle.object_uploads.proofs.PlacedLemmas.{longer_same, with_objects, objects_same, one_after_same}
use Rattle.object_uploads.proofs.KeepLemmas.{tail_follow, tail_order, tail_last, tail_entries, tail_end, tail_within}
use Rattle.object_uploads.proofs.KeepLemmas.{tail_owners, same_settled}

-- ---- a stream begins

-- of an empty list nothing is taken, and nothing is left of it
none_taken : {X : Type 0} (n : ℕ) (xs : List X) → length xs ≡ 0 → take n xs ≡ []
none_taken zero xs empty = refl
none_taken (suc n) [] empty = refl
none_taken (suc n) (x ∷ xs) empty = absurd (omega arith)

none_dropped : {X : Type 0} (n : ℕ) (xs : List X) → length xs ≡ 0 → drop n xs ≡ []
none_dropped zero [] empty = refl
none_dropped (suc n) [] empty = refl
none_dropped n (x ∷ xs) empty = absurd (omega arith)

-- no place of the volume's own objects is past the one that the stream opens with, and those of its ancestors' are its own
none_past : (stream : Stream) (sectors ancestors k : ℕ) (place : Option ObjectPlace)
    → IfSome place (PlaceFits sectors ancestors stream.number k) → IfSome place (IsPlacedInherited stream.inherited k)
    → IfSome place (IsPlacedIn stream k)
none_past stream sectors ancestors k None fits at = tt
none_past stream sectors ancestors k (Some place) fits at = (λ own past. absurd (omega (arith, fits.number own, past)), at)

pub stream_begins : StreamBegins
stream_begins volume data_at uploads number end opening inherited window frontier end_is sealed log are settled others =
    let count : number + 0 ≡ number = omega arith in
    let stream : Stream = record {
      number = number;
      end = end;
      opening = opening;
      inherited = inherited;
      entries = [];
      objects = [];
    } in
    let taken : (n : ℕ) → objects_to stream n ≡ [] = λ n. none_taken (n - number) stream.objects refl in
    let ends : (n : ℕ) → end_at stream n ≡ end = λ n. ap (end_after end) (taken n) in
    let placed : (k : ℕ) → IfSome (settled_at uploads.queue.maps k) (IsPlacedIn stream k) =
    λ k. none_past stream uploads.sectors uploads.ancestors k (settled_at uploads.queue.maps k)
    (subst (λ n. IfSome (settled_at uploads.queue.maps k) (PlaceFits uploads.sectors uploads.ancestors n k)) frontier
    (are.places k)) (others k) in
    let logged : (k : ℕ) → logged_at uploads.queue.maps k ≡ None = λ k. ap (λ rows. place_at log_on rows k) log in
    rw (frontier, window, end_is, sealed) (record {
      valid = record { ends = tt; within = omega (arith, ends (last_number stream)) };
      from = omega arith;
      last = count;
      end = sym (ends number);
      settled = λ k. settled k
          ∙ ap (λ (os : List StreamObject). after_objects number end [] opening os k) (sym (taken number));
      placed = placed;
      sealed = rw (none_dropped (number - number) stream.objects refl) tt;
      logged = λ k. logged k ∙ ap (λ (es : List Entry). left_at data_at end es k)
          (sym (none_dropped (end_at stream number - end) stream.entries refl));
    })

-- ---- an entry more

-- a longer history has the same objects
module _ (more : List Entry) where
  entries_more : (stream : Stream) (volume : Expected) (number end : ℕ) (entries : List Entry) (owned : Owners)
      (list : List StreamObject) (sealed : List SealedState)
      → AreSealedOf stream volume number end entries owned list sealed → EndsFollow end list
      → end_after end list ≤ end + length entries
      → AreSealedOf stream volume number end (entries ++ more) owned list sealed
  entries_more stream volume number end entries owned [] [] are follow within = are
  entries_more stream volume number end entries owned [] (first ∷ sealed) are follow within = absurd are
  entries_more stream volume number end entries owned (object ∷ list) [] are follow within = absurd are
  entries_more stream volume number end entries owned (object ∷ list) (first ∷ sealed) are follow within =
      let order : end ≤ object.end = goes_on object.content end object.end follow.0 in
      let later_order : object.end ≤ end_after object.end list = end_no_earlier object.end list follow.1 in
      let most : object.end - end ≤ length entries = omega arith in
      let part = take (object.end - end) entries in
      let later = drop (object.end - end) entries in
      let size : length later ≡ length entries - (object.end - end) = length-drop (object.end - end) entries in
      let rest = entries_more stream volume (number + 1) object.end later (after_object (number + 1) object.content part owned)
      list sealed are.1 follow.1 (omega (arith, size)) in
      let same : part ≡ take (object.end - end) (entries ++ more) = sym (take-append-le (object.end - end) entries more most) in (
        subst (λ es. IsSealedOf stream (expected_at volume (number + 1) end) es owned object first) same are.0,
        subst (λ es. AreSealedOf stream volume (number + 1) object.end (drop (object.end - end) (entries ++ more))
            (after_object (number + 1) object.content es owned) list sealed) same
            (subst (λ es. AreSealedOf stream volume (number + 1) object.end es
            (after_object (number + 1) object.content part owned) list sealed)
            (sym (drop-append-le (object.end - end) entries more most)) rest),
      )

  -- and the same owners
  pub owners_more : (number end : ℕ) (entries : List Entry) (before : Owners) (list : List StreamObject) → EndsFollow end list
      → end_after end list ≤ end + length entries
      → after_objects number end (entries ++ more) before list ≡ after_objects number end entries before list
  owners_more number end entries before [] follow within = refl
  owners_more number end entries before (object ∷ list) follow within =
      let order : end ≤ object.end = goes_on object.content end object.end follow.0 in
      let later_order : object.end ≤ end_after object.end list = end_no_earlier object.end list follow.1 in
      let most : object.end - end ≤ length entries = omega arith in
      let later = drop (object.end - end) entries in
      let size : length later ≡ length entries - (object.end - end) = length-drop (object.end - end) entries in
      ap (λ es. after_objects (number + 1) object.end es
      (after_object (number + 1) object.content (take (object.end - end) (entries ++ more)) before) list)
      (drop-append-le (object.end - end) entries more most)
      ∙ (ap (λ es. after_objects (number + 1) object.end (later ++ more) (after_object (number + 1) object.content es before)
      list) (take-append-le (object.end - end) entries more most)
      ∙ owners_more (number + 1) object.end later (after_object (number + 1) object.content (take (object.end - end) entries)
      before) list follow.1 (omega (arith, size)))

-- up to its last number a stream has all of its objects
pub all_objects : (stream : Stream) → objects_to stream (last_number stream) ≡ stream.objects
all_objects stream =
    let all : stream.number + length stream.objects - stream.number ≡ length stream.objects = omega arith in
    ap (λ n. take n stream.objects) all ∙ take-length stream.objects

pub last_end_is : (stream : Stream) → end_after stream.end stream.objects ≡ end_at stream (last_number stream)
last_end_is stream = ap (end_after stream.end) (sym (all_objects stream))

-- a stream that grows keeps what it says of the objects' map, and of the sealed objects
module _ (volume : Expected) (data_at : ℕ → ℕ) (stream new : Stream) (old : UploadsState) (uploads : IsUploads old)
    (are : AreOfStream volume data_at stream old) (same : HasSameEntries stream new) where
  frontier_within : old.queue.frontier ≤ last_number stream
  frontier_within = omega (arith, uploads.last, are.last)

  pub grown_placed : (k : ℕ) → IfSome (settled_at old.queue.maps k) (IsPlacedIn new k)
  grown_placed =
      settled_still stream new old.sectors old.ancestors old.queue.frontier old.queue.maps same frontier_within uploads.places
      are.placed

  tail_count : old.queue.frontier + length (from_object old.queue.frontier stream).objects ≤ last_number stream
  tail_count =
      omega (arith, length-drop (old.queue.frontier - stream.number) stream.objects, are.from, frontier_within)

  pub owners_up_to : AreUpTo old.queue.frontier (owners stream old.queue.frontier)
  owners_up_to =
      settled_up_to old.sectors old.ancestors old.queue.frontier old.queue.maps (owners stream old.queue.frontier) uploads.places
      are.settled

  pub grown_still : AreSealedOf new volume old.queue.frontier (end_at stream old.queue.frontier)
      (from_object old.queue.frontier stream).entries (owners stream old.queue.frontier)
      (from_object old.queue.frontier stream).objects old.queue.sealed
  grown_still =
      let from = old.queue.frontier in
      let rest = from_object from stream in
      sealed_still stream new volume from rest.end rest.entries (owners stream from) rest.objects old.queue.sealed same tail_count
      owners_up_to
      (subst (λ e. AreSealedOf stream volume from e rest.entries (owners stream from) rest.objects old.queue.sealed) are.end
      are.sealed)

module _ (volume : Expected) (data_at : ℕ → ℕ) (stream : Stream) (old : UploadsState) (uploads : IsUploads old)
    (are : AreOfStream volume data_at stream old) where
  abbrev from : ℕ
  from = old.queue.frontier

  abbrev tail : Stream
  tail = from_object from stream

  most : from ≤ last_number stream
  most = omega (arith, uploads.last, are.last)

  -- the end of the frontier is within the history
  end_within : tail.end ≤ stream.end + length stream.entries
  end_within =
      omega (arith, tail_end stream from are.valid are.from most, tail_last stream from are.valid are.from most, are.valid.within)

  first_follow : EndsFollow stream.end (objects_to stream from)
  first_follow = follow_first stream.end (from - stream.number) stream.objects are.valid.ends

  -- ---- an entry is entered

  module _ (new : UploadsState) (entry : Entry)
      (entered : IsEntered entry (stream.end + length stream.entries) (data_at (stream.end + length stream.entries)) old.queue
      new.queue) where
    abbrev with_it : Stream
    with_it = with_entry entry stream

    tail_with_entry : drop (tail.end - stream.end) (stream.entries ++ entry ∷ []) ≡ tail.entries ++ entry ∷ []
    tail_with_entry = drop-append-le (tail.end - stream.end) stream.entries (entry ∷ []) (omega (arith, end_within))

    entry_owners : owners with_it from ≡ owners stream from
    entry_owners =
        owners_more (entry ∷ []) stream.number stream.end stream.entries stream.opening (objects_to stream from) first_follow
        end_within

    entry_map : (k : ℕ) → settled_at new.queue.maps k ≡ settled_at old.queue.maps k
    entry_map = same_settled old.queue.maps new.queue.maps entered.settled

    entry_objects : HasSameEntries stream with_it
    entry_objects = longer_same stream (entry ∷ []) are.valid (last_end_is stream)

    entry_settled : (k : ℕ) → place_owner (settled_at new.queue.maps k) ≡ owners with_it from k
    entry_settled k =
        ap place_owner (entry_map k) ∙ (are.settled k ∙ sym (ap (λ (f : Owners). f k) entry_owners))

    entry_placed : (k : ℕ) → IfSome (settled_at new.queue.maps k) (IsPlacedIn with_it k)
    entry_placed k =
        subst (λ p. IfSome p (IsPlacedIn with_it k)) (sym (entry_map k))
        (grown_placed volume data_at stream with_it old uploads are entry_objects k)

    entry_sealed : AreSealedOf with_it volume from old.queue.end (drop (tail.end - stream.end) (stream.entries ++ entry ∷ []))
        (owners with_it from) tail.objects new.queue.sealed
    entry_sealed =
        let still = grown_still volume data_at stream with_it old uploads are entry_objects in
        let more = entries_more (entry ∷ []) with_it volume from tail.end tail.entries (owners stream from) tail.objects
        old.queue.sealed still (tail_follow stream from are.valid are.from most)
        (tail_within stream from are.valid are.from most) in
        rw (tail_with_entry, entered.sealed, are.end, entry_owners) more

    entry_logged : (k : ℕ) → logged_at new.queue.maps k ≡ left_at data_at old.queue.end
        (drop (tail.end - stream.end) (stream.entries ++ entry ∷ [])) k
    entry_logged k =
        let seq : old.queue.end + length tail.entries ≡ stream.end + length stream.entries =
        omega (
          arith,
          are.end,
          tail_entries stream from are.valid are.from most,
          tail_order stream from are.valid are.from
              most,
          end_within,
        ) in
        entered.logged k
        ∙ (ap (option_or (place_left_by (stream.end + length stream.entries) (data_at (stream.end + length stream.entries)) entry
        k)) (are.logged k)
        ∙ (ap (λ s. option_or (place_left_by s (data_at s) entry k) (left_at data_at old.queue.end tail.entries k)) (sym seq)
        ∙ (sym (left_in_parts data_at old.queue.end tail.entries (entry ∷ []) k)
        ∙ ap (λ es. left_at data_at old.queue.end es k) (sym tail_with_entry))))

pub entering_keeps_stream : EnteringKeepsStream
entering_keeps_stream volume data_at stream old new entry uploads are entered window =
    let size : length (stream.entries ++ entry ∷ []) ≡ length stream.entries + 1 = length-append stream.entries (entry ∷ []) in
    rw (entered.frontier, entered.end, window) (record {
      valid = record { ends = are.valid.ends; within = omega (arith, are.valid.within, size) };
      from = are.from;
      last = are.last;
      end = are.end;
      settled = entry_settled volume data_at stream old uploads are new entry entered;
      placed = entry_placed volume data_at stream old uploads are new entry entered;
      sealed = entry_sealed volume data_at stream old uploads are new entry entered;
      logged = entry_logged volume data_at stream old uploads are new entry entered;
    })

-- ---- an object more

object_more : (stream : Stream) (volume : Expected) (number end : ℕ) (entries : List Entry) (owned : Owners)
    (list : List StreamObject) (sealed : List SealedState) (object : StreamObject) (last : SealedState)
    → AreSealedOf stream volume number end entries owned list sealed → EndsFollow end list
    → IsSealedOf stream (expected_at volume (number + length list + 1) (end_after end list))
    (take (object.end - end_after end list) (drop (end_after end list - end) entries))
    (after_objects number end entries owned list) object last
    → AreSealedOf stream volume number end entries owned (list ++ object ∷ []) (sealed ++ last ∷ [])
object_more stream volume number end entries owned [] [] object last are follow is =
    let same : number + 0 + 1 ≡ number + 1 = omega arith in
    let none : end - end ≡ 0 = omega arith in
    let here = subst (λ z. IsSealedOf stream (expected_at volume (number + 0 + 1) end) (take (object.end - end) (drop z entries))
    owned object last) none is in
    (subst (λ n. IsSealedOf stream (expected_at volume n end) (take (object.end - end) entries) owned object last) same here, tt)
object_more stream volume number end entries owned [] (first ∷ sealed) object last are follow is = absurd are
object_more stream volume number end entries owned (next ∷ list) [] object last are follow is = absurd are
object_more stream volume number end entries owned (next ∷ list) (first ∷ sealed) object last are follow is =
    let order : end ≤ next.end = goes_on next.content end next.end follow.0 in
    let later_order : next.end ≤ end_after next.end list = end_no_earlier next.end list follow.1 in
    let e = end_after next.end list in
    let later = drop (next.end - end) entries in
    let after = after_object (number + 1) next.content (take (next.end - end) entries) owned in
    let all = after_objects (number + 1) next.end later after list in
    let counted : number + suc (length list) + 1 ≡ number + 1 + length list + 1 = omega arith in
    let sum : next.end - end + (e - next.end) ≡ e - end = omega arith in
    let dropped : drop (e - next.end) later ≡ drop (e - end) entries =
    drop-drop (e - next.end) (next.end - end) entries ∙ ap (λ n. drop n entries) sum in
    let is_next : IsSealedOf stream (expected_at volume (number + 1 + length list + 1) e)
    (take (object.end - e) (drop (e - next.end) later)) all object last =
    rw dropped (subst (λ n. IsSealedOf stream (expected_at volume n e) (take (object.end - e) (drop (e - end) entries)) all object
    last) counted is) in (
      are.0,
      object_more stream volume (number + 1) next.end later after list sealed object last are.1 follow.1 is_next,
    )

pub follow_more : (end : ℕ) (list : List StreamObject) (object : StreamObject) → EndsFollow end list
    → GoesTo object.content (end_after end list) object.end
    → EndsFollow end (list ++ object ∷ [])
follow_more end [] object follow goes = (goes, tt)
follow_more end (next ∷ list) object follow goes = (follow.0, follow_more next.end list object follow.1 goes)

-- with an object more a stream ends there
pub end_of_object : (stream : Stream) (object : StreamObject)
    → end_at (with_objects (object ∷ []) stream) (last_number (with_objects (object ∷ []) stream)) ≡ object.end
end_of_object stream object =
    ap (end_after stream.end) (all_objects (with_objects (object ∷ []) stream))
    ∙ end_in_parts stream.end stream.objects (object ∷ [])

pub end_of_more : (stream : Stream) (end : ℕ)
    → end_at (with_data_object end stream) (last_number (with_data_object end stream)) ≡ end
end_of_more stream end = end_of_object stream (record { content = Data; end = end })

-- an object of the stream is sealed
module _ (volume : Expected) (data_at : ℕ → ℕ) (stream : Stream) (old : UploadsState) (uploads : IsUploads old)
    (are : AreOfStream volume data_at stream old)
    (new : UploadsState) (bytes : List ℕ) (rows : SealedRows) (object : StreamObject)
    (goes : GoesTo object.content (end_at stream (last_number stream)) object.end)
    (within : object.end ≤ stream.end + length stream.entries)
    (is : IsSealedOf (with_objects (object ∷ []) stream)
    (expected_at volume (last_number stream + 1) (end_at stream (last_number stream)))
    (take (object.end - end_at stream (last_number stream)) (unsealed stream)) (owners stream (last_number stream)) object
    (just_sealed bytes rows object.end))
    (sealed : IsSealedNext bytes rows object.end old new) where
  abbrev first : ℕ
  first = old.queue.frontier

  abbrev rest : Stream
  rest = from_object first stream

  abbrev grown : Stream
  grown = with_objects (object ∷ []) stream

  abbrev last_end : ℕ
  last_end = end_at stream (last_number stream)

  before_last : first ≤ last_number stream
  before_last = omega (arith, uploads.last, are.last)

  first_same : objects_to grown first ≡ objects_to stream first
  first_same = take-append-le (first - stream.number) stream.objects (object ∷ []) (omega (arith, before_last))

  rest_more : drop (first - stream.number) grown.objects ≡ rest.objects ++ object ∷ []
  rest_more = drop-append-le (first - stream.number) stream.objects (object ∷ []) (omega (arith, before_last))

  end_same : end_at grown first ≡ end_at stream first
  end_same = ap (end_after stream.end) first_same

  owners_same : owners grown first ≡ owners stream first
  owners_same = ap (after_objects stream.number stream.end stream.entries stream.opening) first_same

  grown_valid : IsStream grown
  grown_valid =
      record {
        ends = follow_more stream.end stream.objects object are.valid.ends
            (subst (λ e. GoesTo object.content e object.end) (sym (last_end_is stream)) goes);
        within = rw (end_of_object stream object) within;
      }

  same_entries : HasSameEntries stream grown
  same_entries = objects_same stream (object ∷ [])

  same_map : (k : ℕ) → settled_at new.queue.maps k ≡ settled_at old.queue.maps k
  same_map k = ap (λ (rows : List _). place_at object_on rows k) sealed.settled.places.settled

  grown_settled : (k : ℕ) → place_owner (settled_at new.queue.maps k) ≡ owners grown first k
  grown_settled k = ap place_owner (same_map k) ∙ (are.settled k ∙ ap (λ (f : Owners). f k) (sym owners_same))

  map_placed : (k : ℕ) → IfSome (settled_at new.queue.maps k) (IsPlacedIn grown k)
  map_placed k =
      subst (λ p. IfSome p (IsPlacedIn grown k)) (sym (same_map k))
      (grown_placed volume data_at stream grown old uploads are same_entries k)

  is_last : IsSealedOf grown (expected_at volume (first + length rest.objects + 1) (end_after rest.end rest.objects))
      (take (object.end - end_after rest.end rest.objects) (drop (end_after rest.end rest.objects - rest.end) rest.entries))
      (after_objects first rest.end rest.entries (owners stream first) rest.objects) object (just_sealed bytes rows object.end)
  is_last =
      let same_end = tail_last stream first are.valid are.from before_last in
      let size : length rest.objects ≡ length stream.objects - (first - stream.number) =
      length-drop (first - stream.number) stream.objects in
      let number : last_number stream + 1 ≡ first + length rest.objects + 1 = omega (arith, size, are.from, before_last) in
      let order = tail_order stream first are.valid are.from before_last in
      let later = tail_end stream first are.valid are.from before_last in
      let sum : rest.end - stream.end + (last_end - rest.end) ≡ last_end - stream.end = omega (arith, order, later, same_end) in
      let entries : drop (end_after rest.end rest.objects - rest.end) rest.entries ≡ unsealed stream =
      ap (λ e. drop (e - rest.end) rest.entries) (sym same_end)
      ∙ (drop-drop (last_end - rest.end) (rest.end - stream.end) stream.entries ∙ ap (λ n. drop n stream.entries) sum) in
      let last = just_sealed bytes rows object.end in
      let owned = owners stream (last_number stream) in
      let a = subst (λ n. IsSealedOf grown (expected_at volume n last_end) (take (object.end - last_end) (unsealed stream)) owned
      object last) number is in
      let b = subst (λ es. IsSealedOf grown (expected_at volume (first + length rest.objects + 1) last_end)
      (take (object.end - last_end) es) owned object last) (sym entries) a in
      let c = subst (λ e. IsSealedOf grown (expected_at volume (first + length rest.objects + 1) e)
      (take (object.end - e) (drop (end_after rest.end rest.objects - rest.end) rest.entries)) owned object last) same_end b in
      one_after_same grown (expected_at volume (first + length rest.objects + 1) (end_after rest.end rest.objects))
      (take (object.end - end_after rest.end rest.objects) (drop (end_after rest.end rest.objects - rest.end) rest.entries))
      owned (after_objects first rest.end rest.entries (owners stream first) rest.objects) object last
      (λ k. sym (tail_owners stream first are.valid are.from before_last k)) c

  grown_sealed : AreSealedOf grown volume first rest.end rest.entries (owners stream first) (rest.objects ++ object ∷ [])
      (old.queue.sealed ++ just_sealed bytes rows object.end ∷ [])
  grown_sealed =
      object_more grown volume first rest.end rest.entries (owners stream first) rest.objects old.queue.sealed object
      (just_sealed bytes rows object.end) (grown_still volume data_at stream grown old uploads are same_entries)
      (tail_follow stream first are.valid are.from before_last) is_last

  same_log : (k : ℕ) → logged_at new.queue.maps k ≡ left_at data_at old.queue.end rest.entries k
  same_log k = ap (λ (rows : List _). place_at log_on rows k) sealed.settled.places.log ∙ are.logged k

  pub object_sealed : AreOfStream volume data_at grown new
  object_sealed =
      let size : length (stream.objects ++ object ∷ []) ≡ length stream.objects + 1 =
      length-append stream.objects (object ∷ []) in
      let last : last_number grown ≡ old.window.last + 1 = omega (arith, size, are.last) in
      rw (sealed.settled.frontier, sealed.settled.end, sealed.window) (record {
        valid = grown_valid;
        from = are.from;
        last = last;
        end = are.end ∙ sym end_same;
        settled = grown_settled;
        placed = map_placed;
        sealed = rw (sealed.sealed, end_same, rest_more, are.end, owners_same) grown_sealed;
        logged = rw end_same same_log;
      })

pub sealing_copy_keeps_stream : SealingCopyKeepsStream
sealing_copy_keeps_stream volume data_at stream old new pairs bytes rows uploads are is sealed =
    object_sealed volume data_at stream old uploads are new bytes (sealed_rows.Copy rows)
    (record { content = Copy pairs; end = end_at stream (last_number stream) }) refl are.valid.within
    (record { end = refl; holds = is }) sealed

pub sealing_keeps_stream : SealingKeepsStream
sealing_keeps_stream volume data_at stream old new bytes rows end uploads are past within is sealed =
    object_sealed volume data_at stream old uploads are new bytes (sealed_rows.Data rows) (record { content = Data; end = end })
    past within (record { end = refl; holds = is }) sealed
