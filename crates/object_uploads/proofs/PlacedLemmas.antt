-- Where the objects of a stream have their sectors, while the stream grows and while its objects are settled.
use Rattle.std.proofs.Common.{◌≡◌, ℕ, zero, suc, ◌+◌, ◌-◌, ◌<◌, ◌≤◌, cond, Bool, true, false, Option, Some, None, List, [], ◌∷◌}
use Rattle.std.proofs.Common.{◌++◌, length, take, drop}
use Rattle.std.proofs.Common.{refl, sym, ◌∙◌, ap, subst, arith, length-drop}
use Rattle.std.specs.Prelude.{IsTrue, IfSome}
use Rattle.std.specs.List.{slice_get}
use Rattle.std.proofs.lemmas.List.{drop-drop, take-append-le, drop-append-le}
use Rattle.lsvd_base.specs.declared.entry.Entry.{Entry}
use Rattle.extent_map.proofs.CutTwice.{get_drop}
use Rattle.object_format.specs.declared.copy_row.CopyRow.{CopyRow}
use Rattle.object_format.specs.declared.expected.Expected.{Expected}
use Rattle.object_stream.specs.declared.change.Change.{Change}
use Rattle.object_stream.specs.declared.change.Change.TheVariants.{Put, Clear}
use Rattle.object_stream.specs.declared.object.CopiedSector.{CopiedSector}
use Rattle.object_stream.specs.declared.object.Content.{Content}
use Rattle.object_stream.specs.declared.object.Content.TheVariants.{Data, Copy, Checkpoint}
use Rattle.object_stream.specs.declared.object.StreamObject.{StreamObject}
use Rattle.object_stream.specs.declared.owner.Owner.{Owner}
use Rattle.object_stream.specs.Changes.{change_at, is_put, place_in_payload}
use Rattle.object_stream.specs.Stream.{Owners, Stream, owner_by_change, source_in, owner_by_copy, after_object, after_objects}
use Rattle.object_stream.specs.Stream.{is_own, entries_in_object}
use Rattle.object_stream.specs.Stream.{objects_to, end_after, end_at, last_number, EndsFollow, IsStream}
use Rattle.object_stream.specs.Replay.{expected_at}
use Rattle.object_stream.proofs.StreamLemmas.{goes_on, end_no_earlier, follow_first}
use Rattle.volume_maps.specs.declared.place.ObjectPlace.{ObjectPlace}
use Rattle.volume_maps.specs.Maps.{MapsState, settled_at, settled_by_copy}
use Rattle.volume_maps.specs.Laws.{place_owner, IsPlacedBy, is_in_source}
use Rattle.object_uploads.specs.declared.rows.SealedRows.{SealedRows}
use Rattle.object_uploads.specs.declared.rows.SealedRows.TheVariants as sealed_rows
use Rattle.object_uploads.specs.State.{SealedState}
use Rattle.object_uploads.specs.Order.{PlaceFits, PlacesFit}
use Rattle.object_stream.specs.Stream.{place_in_copy, place_in_object}
use Rattle.object_uploads.specs.Stream.{object_at, IsPlacedInherited, IsPlacedIn, HoldsOwners, HoldsContent}
use Rattle.object_uploads.specs.Stream.{IsSealedOf, AreSealedOf}
use Rattle.object_uploads.proofs.CopyRanks.{IsPlacedByCopy}

-- ---- owners and places up to a number

-- an owner of the volume's own has a number up to this one, and so has a place
abbrev pub OwnerUpTo : (number : ℕ) → Owner → Type 0
OwnerUpTo number owner = owner.level ≡ 0 → owner.number ≤ number

abbrev PlaceUpTo : (number : ℕ) → ObjectPlace → Type 0
PlaceUpTo number place = place.level ≡ 0 → place.number ≤ number

-- so has each owner of the volume's own
abbrev pub AreUpTo : (number : ℕ) → Owners → Type 0
AreUpTo number owned = (k : ℕ) → IfSome (owned k) (OwnerUpTo number)

owner_up_to : (sectors ancestors last k : ℕ) (place : Option ObjectPlace) → IfSome place (PlaceFits sectors ancestors last k)
    → IfSome (place_owner place) (OwnerUpTo last)
owner_up_to sectors ancestors last k None fits = tt
owner_up_to sectors ancestors last k (Some place) fits = fits.number

place_up_to : (n : ℕ) (place : Option ObjectPlace) (owner : Option Owner) → place_owner place ≡ owner
    → IfSome owner (OwnerUpTo n) → IfSome place (PlaceUpTo n)
place_up_to n None owner same low = tt
place_up_to n (Some place) owner same low = subst (λ o. IfSome o (OwnerUpTo n)) (sym same) low

-- the owners of a map's places are up to the frontier, as the places are
pub settled_up_to : (sectors ancestors frontier : ℕ) (maps : MapsState) (owned : Owners)
    → PlacesFit sectors ancestors frontier maps
    → ((k : ℕ) → place_owner (settled_at maps k) ≡ owned k) → AreUpTo frontier owned
settled_up_to sectors ancestors frontier maps owned fits same k =
    subst (λ o. IfSome o (OwnerUpTo frontier)) (same k)
    (owner_up_to sectors ancestors frontier k (settled_at maps k) (fits k))

up_to_change : (number : ℕ) (change : Option Change) (before : Option Owner)
    → IfSome before (OwnerUpTo number)
    → IfSome (owner_by_change (number + 1) change before) (OwnerUpTo (number + 1))
up_to_change number None None low = tt
up_to_change number None (Some owner) low = λ own. omega (arith, low own)
up_to_change number (Some (Put sector)) before low = λ own. omega arith
up_to_change number (Some Clear) before low = tt

up_to_more : (number : ℕ) (before : Option Owner) → IfSome before (OwnerUpTo number)
    → IfSome before (OwnerUpTo (number + 1))
up_to_more number None low = tt
up_to_more number (Some owner) low = λ own. omega (arith, low own)

up_to_test : (test : Bool) (number : ℕ) (before : Option Owner) → IfSome before (OwnerUpTo (number + 1))
    → IfSome (cond test (Some (record { level = 0; number = number + 1 })) before)
    (OwnerUpTo (number + 1))
up_to_test true number before low = λ own. omega arith
up_to_test false number before low = low

up_to_copy : (number : ℕ) (source : Option ℕ) (before : Option Owner)
    → IfSome before (OwnerUpTo number)
    → IfSome (owner_by_copy (number + 1) source before) (OwnerUpTo (number + 1))
up_to_copy number None before low = up_to_more number before low
up_to_copy number (Some source) before low =
    up_to_test (is_own source before) number before (up_to_more number before low)

-- after a sealed object they are up to its number
pub up_to_object : (stream : Stream) (expected : Expected) (number : ℕ) (content : Content) (entries : List Entry)
    (owned : Owners)
    (end : ℕ) (bytes : List ℕ) (rows : SealedRows) → HoldsContent stream expected content entries owned end bytes rows
    → AreUpTo number owned → AreUpTo (number + 1) (after_object (number + 1) content entries owned)
up_to_object stream expected number Data entries owned end bytes (sealed_rows.Data list) holds low k =
    up_to_change number (change_at entries k) (owned k) (low k)
up_to_object stream expected number (Copy pairs) entries owned end bytes (sealed_rows.Copy list) holds low k =
    up_to_copy number (source_in pairs k) (owned k) (low k)
up_to_object stream expected number Checkpoint entries owned end bytes sealed_rows.Checkpoint holds low k =
    up_to_more number (owned k) (low k)
up_to_object stream expected number content entries owned end bytes rows holds low k = absurd holds

-- and after all of them up to the last one's
pub up_to_all : (stream : Stream) (volume : Expected) (number end : ℕ) (entries : List Entry) (owned : Owners)
    (list : List StreamObject) (sealed : List SealedState) → AreSealedOf stream volume number end entries owned list sealed
    → AreUpTo number owned → AreUpTo (number + length list) (after_objects number end entries owned list)
up_to_all stream volume number end entries owned [] [] are low =
    let same : number + 0 ≡ number = omega arith in
    rw same low
up_to_all stream volume number end entries owned [] (first ∷ sealed) are low = absurd are
up_to_all stream volume number end entries owned (object ∷ list) [] are low = absurd are
up_to_all stream volume number end entries owned (object ∷ list) (first ∷ sealed) are low =
    let part = take (object.end - end) entries in
    let same : number + suc (length list) ≡ number + 1 + length list = omega arith in
    rw same (up_to_all stream volume (number + 1) object.end (drop (object.end - end) entries)
    (after_object (number + 1) object.content part owned) list sealed are.1
    (up_to_object stream (expected_at volume (number + 1) end) number object.content part owned object.end first.bytes first.rows
    are.0.holds low))

-- ---- owners that are the same

same_after : (number : ℕ) (content : Content) (entries : List Entry) (owned others : Owners) → ((k : ℕ) → owned k ≡ others k)
    → (k : ℕ) → after_object number content entries owned k ≡ after_object number content entries others k
same_after number Data entries owned others same k = ap (owner_by_change number (change_at entries k)) (same k)
same_after number (Copy pairs) entries owned others same k = ap (owner_by_copy number (source_in pairs k)) (same k)
same_after number Checkpoint entries owned others same k = same k

same_content : (stream : Stream) (expected : Expected) (content : Content) (entries : List Entry) (owned others : Owners)
    (end : ℕ) (bytes : List ℕ) (rows : SealedRows) → ((k : ℕ) → owned k ≡ others k)
    → HoldsContent stream expected content entries owned end bytes rows
    → HoldsContent stream expected content entries others end bytes rows
same_content stream expected Data entries owned others end bytes (sealed_rows.Data list) same holds = holds
same_content stream expected (Copy pairs) entries owned others end bytes (sealed_rows.Copy list) same holds = holds
same_content stream expected Checkpoint entries owned others end bytes sealed_rows.Checkpoint same holds = record {
  places = holds.places;
  holds = holds.holds;
  owners_are = λ k. holds.owners_are k ∙ same k;
  placed = holds.placed;
}
same_content stream expected content entries owned others end bytes rows same holds = absurd holds

-- a sealed object is one of a stream after owners that are the same
pub one_after_same : (stream : Stream) (expected : Expected) (entries : List Entry) (owned others : Owners)
    (object : StreamObject) (sealed : SealedState) → ((k : ℕ) → owned k ≡ others k)
    → IsSealedOf stream expected entries owned object sealed → IsSealedOf stream expected entries others object sealed
one_after_same stream expected entries owned others object sealed same is = record {
  end = is.end;
  holds = same_content stream expected object.content entries owned others object.end sealed.bytes sealed.rows same is.holds;
}

-- and so are several
pub sealed_after_same : (stream : Stream) (volume : Expected) (number end : ℕ) (entries : List Entry) (owned others : Owners)
    (list : List StreamObject) (sealed : List SealedState) → ((k : ℕ) → owned k ≡ others k)
    → AreSealedOf stream volume number end entries owned list sealed
    → AreSealedOf stream volume number end entries others list sealed
sealed_after_same stream volume number end entries owned others [] [] same are = are
sealed_after_same stream volume number end entries owned others [] (first ∷ sealed) same are = absurd are
sealed_after_same stream volume number end entries owned others (object ∷ list) [] same are = absurd are
sealed_after_same stream volume number end entries owned others (object ∷ list) (first ∷ sealed) same are =
    let part = take (object.end - end) entries in (
      one_after_same stream (expected_at volume (number + 1) end) part owned others object first same are.0,
      sealed_after_same stream volume (number + 1) object.end (drop (object.end - end) entries)
          (after_object (number + 1) object.content part owned) (after_object (number + 1) object.content part others) list sealed
          (same_after (number + 1) object.content part owned others same) are.1,
    )

-- ---- a stream that grows

-- a stream has the objects of another up to its last, each with the entries that it had, and the places of its ancestors'
pub record HasSameEntries (old new : Stream) : Type 0 where
  pub number : new.number ≡ old.number
  pub inherited : (k : ℕ) → new.inherited k ≡ old.inherited k
  pub objects : (n : ℕ) → old.number < n → n ≤ last_number old → object_at new n ≡ object_at old n
  pub entries : (n : ℕ) → n ≤ last_number old → entries_in_object new n ≡ entries_in_object old n

-- a stream has its own
pub has_its_own : (stream : Stream) → HasSameEntries stream stream
has_its_own stream = record { number = refl; inherited = λ k. refl; objects = λ n past low. refl; entries = λ n low. refl }

-- a place is where an object, with these entries where it is a data object, has the sector
abbrev pub IsPlaceIn : (place k : ℕ) → List Entry → Option StreamObject → Type 0
IsPlaceIn place k entries object =
    IfSome object (λ (o : StreamObject). place ≡ place_in_object o.content entries k)

-- so a place that is in one of these stays where the object has the sector
pub placed_still : (old new : Stream) (k : ℕ) (place : Option ObjectPlace) → HasSameEntries old new
    → IfSome place (PlaceUpTo (last_number old)) → IfSome place (IsPlacedIn old k)
    → IfSome place (IsPlacedIn new k)
placed_still old new k None same low is = tt
placed_still old new k (Some place) same low is = (
  λ own past.
      let n = place.number in
      let was_past : old.number < n = subst (λ m. m < n) same.number past in
      let now : IsPlaceIn place.sector k (entries_in_object new n) (object_at old n) =
      subst (λ es. IsPlaceIn place.sector k es (object_at old n)) (sym (same.entries n (low own))) (is.0 own was_past) in
      subst (IsPlaceIn place.sector k (entries_in_object new n)) (sym (same.objects n was_past (low own))) now,
  λ another. is.1 another ∙ sym (same.inherited k),
)

-- a place of the volume's own is at none of its ancestors'
pub none_inherited : (inherited : ℕ → ℕ) (k : ℕ) (place : ObjectPlace) → place.level ≡ 0 → IsPlacedInherited inherited k place
none_inherited inherited k place own another = absurd (omega (arith, own, another))

fits_low : (sectors ancestors last most k : ℕ) (place : Option ObjectPlace) → last ≤ most
    → IfSome place (PlaceFits sectors ancestors last k)
    → IfSome place (PlaceUpTo most)
fits_low sectors ancestors last most k None within fits = tt
fits_low sectors ancestors last most k (Some place) within fits = λ own. omega (arith, fits.number own, within)

low_more : (n most : ℕ) (place : Option ObjectPlace) → n ≤ most → IfSome place (PlaceUpTo n)
    → IfSome place (PlaceUpTo most)
low_more n most None within low = tt
low_more n most (Some place) within low = λ own. omega (arith, low own, within)

-- those in the objects' map stay
pub settled_still : (old new : Stream) (sectors ancestors frontier : ℕ) (maps : MapsState) → HasSameEntries old new
    → frontier ≤ last_number old → PlacesFit sectors ancestors frontier maps
    → ((k : ℕ) → IfSome (settled_at maps k) (IsPlacedIn old k))
    → (k : ℕ) → IfSome (settled_at maps k) (IsPlacedIn new k)
settled_still old new sectors ancestors frontier maps same within fits placed k =
    placed_still old new k (settled_at maps k) same (fits_low sectors ancestors frontier (last_number old) k (settled_at maps k)
    within
    (fits k)) (placed k)

-- a checkpoint of owners up to one of these stays that
pub owners_still : (old new : Stream) (expected : Expected) (owned : Owners) (number end : ℕ) (bytes : List ℕ)
    → HasSameEntries old new → number ≤ last_number old → AreUpTo number owned → HoldsOwners old expected owned end bytes
    → HoldsOwners new expected owned end bytes
owners_still old new expected owned number end bytes same within low holds = record {
  places = holds.places;
  holds = holds.holds;
  owners_are = holds.owners_are;
  placed = λ k. placed_still old new k (holds.places k) same
      (low_more number (last_number old) (holds.places k) within
      (place_up_to number (holds.places k) (owned k) (holds.owners_are k) (low k)))
      (holds.placed k);
}

content_still : (old new : Stream) (expected : Expected) (content : Content) (entries : List Entry) (owned : Owners)
    (number end : ℕ) (bytes : List ℕ) (rows : SealedRows)
    → HasSameEntries old new → number ≤ last_number old → AreUpTo number owned
    → HoldsContent old expected content entries owned end bytes rows → HoldsContent new expected content entries owned end bytes
    rows
content_still old new expected Data entries owned number end bytes (sealed_rows.Data list) same within low holds = holds
content_still old new expected (Copy pairs) entries owned number end bytes (sealed_rows.Copy list) same within low holds = holds
content_still old new expected Checkpoint entries owned number end bytes sealed_rows.Checkpoint same within low holds =
    owners_still old new expected owned number end bytes same within low holds
content_still old new expected content entries owned number end bytes rows same within low holds = absurd holds

-- and so do sealed objects
pub sealed_still : (old new : Stream) (volume : Expected) (number end : ℕ) (entries : List Entry) (owned : Owners)
    (list : List StreamObject) (sealed : List SealedState)
    → HasSameEntries old new → number + length list ≤ last_number old → AreUpTo number owned
    → AreSealedOf old volume number end entries owned list sealed → AreSealedOf new volume number end entries owned list sealed
sealed_still old new volume number end entries owned [] [] same within low are = are
sealed_still old new volume number end entries owned [] (first ∷ sealed) same within low are = absurd are
sealed_still old new volume number end entries owned (object ∷ list) [] same within low are = absurd are
sealed_still old new volume number end entries owned (object ∷ list) (first ∷ sealed) same within low are =
    let part = take (object.end - end) entries in
    let expected = expected_at volume (number + 1) end in (
      record {
        end = are.0.end;
        holds = content_still old new expected object.content part owned number object.end first.bytes first.rows same
            (omega (arith, within)) low are.0.holds;
      },
      sealed_still old new volume (number + 1) object.end (drop (object.end - end) entries)
          (after_object (number + 1) object.content part owned) list sealed same (omega (arith, within))
          (up_to_object old expected number object.content part owned object.end first.bytes first.rows are.0.holds low) are.1,
    )

-- ---- how it grows

-- a stream with entries more, and with objects more
abbrev pub longer : List Entry → Stream → Stream
longer more stream = record stream { entries = stream.entries ++ more }

abbrev pub with_objects : List StreamObject → Stream → Stream
with_objects more stream = record stream { objects = stream.objects ++ more }

-- no end is past the last
end_most : (end n : ℕ) (list : List StreamObject) → EndsFollow end list → end_after end (take n list) ≤ end_after end list
end_most end zero list follow = end_no_earlier end list follow
end_most end (suc n) [] follow = omega arith
end_most end (suc n) (object ∷ list) follow = end_most object.end n list follow.1

pub end_within_entries : (stream : Stream) (n : ℕ) → IsStream stream
    → end_after stream.end stream.objects ≡ end_at stream (last_number stream)
    → end_at stream n ≤ stream.end + length stream.entries
end_within_entries stream n valid last =
    let most = end_most stream.end (n - stream.number) stream.objects valid.ends in
    omega (arith, most, last, valid.within)

no_earlier : (stream : Stream) (n : ℕ) → IsStream stream → stream.end ≤ end_at stream n
no_earlier stream n valid =
    end_no_earlier stream.end (objects_to stream n) (follow_first stream.end (n - stream.number) stream.objects valid.ends)

part_of_more : (from to first : ℕ) (entries more : List Entry) → first ≤ from → from ≤ first + length entries
    → to ≤ first + length entries
    → take (to - from) (drop (from - first) (entries ++ more)) ≡ take (to - from) (drop (from - first) entries)
part_of_more from to first entries more low within high =
    let size = length-drop (from - first) entries in
    ap (take (to - from)) (drop-append-le (from - first) entries more (omega (arith, low, within)))
    ∙ take-append-le (to - from) (drop (from - first) entries) more (omega (arith, size, low, within, high))

pub longer_same : (stream : Stream) (more : List Entry) → IsStream stream
    → end_after stream.end stream.objects ≡ end_at stream (last_number stream) → HasSameEntries stream (longer more stream)
longer_same stream more valid last = record {
  number = refl;
  inherited = λ k. refl;
  objects = λ n past low. refl;
  entries = λ n low.
      part_of_more (end_at stream (n - 1)) (end_at stream n) stream.end stream.entries more (no_earlier stream (n - 1) valid)
      (end_within_entries stream (n - 1) valid last) (end_within_entries stream n valid last);
}

pub end_with_objects : (stream : Stream) (more : List StreamObject) (n : ℕ) → n ≤ last_number stream
    → end_at (with_objects more stream) n ≡ end_at stream n
end_with_objects stream more n low =
    ap (end_after stream.end) (take-append-le (n - stream.number) stream.objects more (omega (arith, low)))

pub get_append : {X : Type 0} (i : ℕ) (first more : List X) → i < length first → slice_get (first ++ more) i ≡ slice_get first i
get_append i [] more low = absurd (omega arith)
get_append zero (x ∷ first) more low = refl
get_append (suc i) (x ∷ first) more low = get_append i first more (omega arith)

pub objects_same : (stream : Stream) (more : List StreamObject) → HasSameEntries stream (with_objects more stream)
objects_same stream more = record {
  number = refl;
  inherited = λ k. refl;
  objects = λ n past low. get_append (n - (stream.number + 1)) stream.objects more (omega (arith, past, low));
  entries = λ n low.
      ap (λ e. take (e - end_at (with_objects more stream) (n - 1))
      (drop (end_at (with_objects more stream) (n - 1) - stream.end) stream.entries)) (end_with_objects stream more n low)
      ∙ ap (λ e. take (end_at stream n - e) (drop (e - stream.end) stream.entries))
      (end_with_objects stream more (n - 1) (omega (arith, low)));
}

pub both_same : (a b c : Stream) → HasSameEntries a b → HasSameEntries b c → last_number a ≤ last_number b → HasSameEntries a c
both_same a b c first next within = record {
  number = next.number ∙ first.number;
  inherited = λ k. next.inherited k ∙ first.inherited k;
  objects = λ n past low.
      next.objects n (subst (λ m. m < n) (sym first.number) past) (omega (arith, low, within)) ∙ first.objects n past low;
  entries = λ n low. next.entries n (omega (arith, low, within)) ∙ first.entries n low;
}

pub get_last : {X : Type 0} (first : List X) (last : X) → slice_get (first ++ last ∷ []) (length first) ≡ Some last
get_last [] last = refl
get_last (x ∷ first) last = get_last first last

-- the last object is under the last number
pub last_object : (stream : Stream) (object : StreamObject) (number : ℕ) → number ≡ last_number stream + 1
    → object_at (with_objects (object ∷ []) stream) number ≡ Some object
last_object stream object number last =
    let index : number - (stream.number + 1) ≡ length stream.objects = omega (arith, last) in
    ap (slice_get (stream.objects ++ object ∷ [])) index ∙ get_last stream.objects object

-- ---- a position in a stream

-- After the object of a number the stream has these objects, from this end and these entries on.
pub record IsPosition (stream : Stream) (number end : ℕ) (entries : List Entry) (list : List StreamObject) : Type 0 where
  pub from : stream.number ≤ number
  pub order : stream.end ≤ end
  pub end_is : end ≡ end_at stream number
  pub entries_are : entries ≡ drop (end - stream.end) stream.entries
  pub objects_are : list ≡ drop (number - stream.number) stream.objects
  pub follow : EndsFollow end list

abbrev first_or : StreamObject → List StreamObject → StreamObject
first_or other [] = other
first_or other (object ∷ list) = object

abbrev rest_of : List StreamObject → List StreamObject
rest_of [] = []
rest_of (object ∷ list) = list

end_next : (end m : ℕ) (list rest : List StreamObject) (object : StreamObject) → object ∷ rest ≡ drop m list
    → end_after end (take (suc m) list) ≡ object.end
end_next end zero [] rest object same = absurd cc
end_next end zero (first ∷ list) rest object same = ap (λ os. (first_or object os).end) (sym same)
end_next end (suc m) [] rest object same = absurd cc
end_next end (suc m) (first ∷ list) rest object same = end_next first.end m list rest object same

rest_next : (m : ℕ) (list rest : List StreamObject) (object : StreamObject) → object ∷ rest ≡ drop m list
    → rest ≡ drop (suc m) list
rest_next zero [] rest object same = absurd cc
rest_next zero (first ∷ list) rest object same = ap rest_of same
rest_next (suc m) [] rest object same = absurd cc
rest_next (suc m) (first ∷ list) rest object same = rest_next m list rest object same

pub next_position : (stream : Stream) (number end : ℕ) (entries : List Entry) (object : StreamObject) (list : List StreamObject)
    → IsPosition stream number end entries (object ∷ list)
    → IsPosition stream (number + 1) object.end (drop (object.end - end) entries) list
next_position stream number end entries object list at =
    let goes : end ≤ object.end = goes_on object.content end object.end at.follow.0 in
    let count : number + 1 - stream.number ≡ suc (number - stream.number) = omega (arith, at.from) in
    let sum : end - stream.end + (object.end - end) ≡ object.end - stream.end = omega (arith, at.order, goes) in
    record {
      from = omega (arith, at.from);
      order = omega (arith, at.order, goes);
      end_is = sym (ap (λ n. end_after stream.end (take n stream.objects)) count
          ∙ end_next stream.end (number - stream.number) stream.objects list object at.objects_are);
      entries_are = ap (drop (object.end - end)) at.entries_are
          ∙ (drop-drop (object.end - end) (end - stream.end) stream.entries ∙ ap (λ n. drop n stream.entries) sum);
      objects_are = rest_next (number - stream.number) stream.objects list object at.objects_are
          ∙ ap (λ n. drop n stream.objects) (sym count);
      follow = at.follow.1;
    }

-- the next object has the entries up to its end
pub own_entries : (stream : Stream) (number end : ℕ) (entries : List Entry) (object : StreamObject) (list : List StreamObject)
    → IsPosition stream number end entries (object ∷ list)
    → take (object.end - end) entries ≡ entries_in_object stream (number + 1)
own_entries stream number end entries object list at =
    let next = next_position stream number end entries object list at in
    let before : number ≡ number + 1 - 1 = omega arith in
    ap (take (object.end - end)) at.entries_are
    ∙ (ap (λ e. take (e - end) (drop (end - stream.end) stream.entries)) next.end_is
    ∙ ap (λ e. take (end_at stream (number + 1) - e) (drop (e - stream.end) stream.entries))
    (at.end_is ∙ ap (end_at stream) before))

-- and is the one that the stream has under its number
pub own_object : (stream : Stream) (number end : ℕ) (entries : List Entry) (object : StreamObject) (list : List StreamObject)
    → IsPosition stream number end entries (object ∷ list) → object_at stream (number + 1) ≡ Some object
own_object stream number end entries object list at =
    let index : number + 1 - (stream.number + 1) ≡ number - stream.number = omega arith in
    ap (slice_get stream.objects) index
    ∙ (sym (get_drop (number - stream.number) stream.objects) ∙ sym (ap (λ os. slice_get os 0) at.objects_are))

-- ---- an object that is settled

-- an object of this content, with these entries where it is a data object, is what a stream has under a number
pub record IsUnder (stream : Stream) (number : ℕ) (content : Content) (entries : List Entry) : Type 0 where
  pub object : StreamObject
  pub there : object_at stream number ≡ Some object
  pub content_is : object.content ≡ content
  pub entries_are : entries ≡ entries_in_object stream number

-- a sector that it has is at its place there
pub is_at_place : (stream : Stream) (number k : ℕ) (content : Content) (entries : List Entry)
    → IsUnder stream number content entries
    → IsPlaceIn (place_in_object content entries k) k (entries_in_object stream number) (object_at stream number)
is_at_place stream number k content entries is =
    let place = place_in_object content entries k in
    let own : place ≡ place_in_object is.object.content (entries_in_object stream number) k =
    ap (λ c. place_in_object c entries k) (sym is.content_is)
    ∙ ap (λ es. place_in_object is.object.content es k) is.entries_are in
    subst (IsPlaceIn place k (entries_in_object stream number)) (sym is.there) own

-- after a data object of a stream that does this to a sector, the sector is where an object has it
pub placed_by_change : (stream : Stream) (number k : ℕ) (entries : List Entry) (payload : List ℕ) (change : Option Change)
    (before after : Option ObjectPlace) → IsPlacedBy number payload change before after
    → (IsTrue (is_put change) → after ≡ Some (record { level = 0; number = number; sector = place_in_payload entries k }))
    → IsUnder stream number Data entries → IfSome before (IsPlacedIn stream k) → IfSome after (IsPlacedIn stream k)
placed_by_change stream number k entries payload None before after is put under was =
    subst (λ p. IfSome p (IsPlacedIn stream k)) (sym is) was
placed_by_change stream number k entries payload (Some Clear) before after is put under was =
    subst (λ p. IfSome p (IsPlacedIn stream k)) (sym is) tt
placed_by_change stream number k entries payload (Some (Put sector)) before after is put under was =
    let place : ObjectPlace = record { level = 0; number = number; sector = place_in_payload entries k } in
    subst (λ p. IfSome p (IsPlacedIn stream k)) (sym (put refl))
    (λ own past. is_at_place stream number k Data entries under, none_inherited stream.inherited k place refl)

-- so it is after a copy
placed_by_test : (test : Bool) (stream : Stream) (number k : ℕ) (pairs : List CopiedSector) (entries : List Entry)
    (before : Option ObjectPlace) → IsUnder stream number (Copy pairs) entries → IfSome before (IsPlacedIn stream k)
    → IfSome (cond test (Some (record { level = 0; number = number; sector = place_in_copy pairs k })) before)
    (IsPlacedIn stream k)
placed_by_test true stream number k pairs entries before under was =
    let place : ObjectPlace = record { level = 0; number = number; sector = place_in_copy pairs k } in
    (λ own past. is_at_place stream number k (Copy pairs) entries under, none_inherited stream.inherited k place refl)
placed_by_test false stream number k pairs entries before under was = was

pub placed_by_source : (stream : Stream) (payload number k : ℕ) (pairs : List CopiedSector) (rows : List CopyRow)
    (entries : List Entry) (before : Option ObjectPlace) → IsPlacedByCopy payload number pairs rows before k
    → IsUnder stream number (Copy pairs) entries → IfSome before (IsPlacedIn stream k)
    → IfSome (settled_by_copy number rows before k) (IsPlacedIn stream k)
placed_by_source stream payload number k pairs rows entries before is under was =
    subst (λ p. IfSome p (IsPlacedIn stream k)) (sym is.settled)
    (placed_by_test (is_in_source (source_in pairs k) before) stream number k pairs entries before under was)
